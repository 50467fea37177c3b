use Rattle.std.proofs.Common.{◌≡◌, ◌∙◌, ap, sym, length, arith}
use Rattle.mlk_syntax.specs.ExprTrees.{tree_of}
use Rattle.mlk_syntax.specs.Trees.{Named}
use Rattle.mlk_syntax.specs.Views.{variable_of}
use Rattle.mlk_names.specs.declared.reference.Access.TheVariants.{Writes}
use Rattle.mlk_names.specs.declared.reference.Extent.TheVariants as extent
use Rattle.mlk_walk_exprs.specs.Spots.{spot_of}
use Rattle.mlk_walk_exprs.specs.Walks.{each}
use Rattle.mlk_walk_exprs.specs.References.{touch}
use Rattle.mlk_walk_commands.specs.Arguments.{symbols_at, write_variable}
use Rattle.mlk_walk_commands.proofs.Steps.{carried}
use Rattle.mlk_walk_commands.proofs.Written.{global_written}
use Rattle.mlk_walk_commands.proofs.assign.write_in_each.Goals as goal

pub returns-in-Global : goal.returns-in-Global
returns-in-Global c =
    let p = spot_of c.args.spot.now in
    let from = c.args.from in
    let column = c.args.variable.now.column in
    let w = c.args.walk.now in
    let count : c.len.result ≡ length c.in-Global.subscripts.items = omega (arith, c.len.ensures, c.in-Global.subscripts.ok.0) in
    carried c.make_in_each.result c.make_in_each.new.walk
    (each (λ s. touch p extent.Node Writes c.in-Global.column c.in-Global.name (symbols_at from c.len.result s) s) w)
    (each (write_variable p from (variable_of c.args.variable.now)) w) c.make_in_each.ensures
    (ap (λ n. each (λ s. touch p extent.Node Writes c.in-Global.column c.in-Global.name (symbols_at from n s) s) w) count
    ∙ sym (ap (λ t. each (write_variable p from (Named column (tree_of t))) w) c.in-Global.is
    ∙ global_written p from column w c.in-Global.column c.in-Global.name c.in-Global.subscripts))
