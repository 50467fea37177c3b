use Rattle.std.proofs.Common.{◌≡◌, ◌∙◌, ap, sym, subst, length, arith}
use Rattle.std.specs.Prelude.{OnOk}
use Rattle.mlk_syntax.specs.ExprTrees.{tree_of}
use Rattle.mlk_syntax.specs.Trees.{Named}
use Rattle.mlk_names.specs.declared.reference.Access.TheVariants.{Writes}
use Rattle.mlk_names.specs.declared.reference.Extent.TheVariants as extent
use Rattle.mlk_walk_exprs.specs.Spots.{spot_of}
use Rattle.mlk_walk_exprs.specs.Walks.{add_all}
use Rattle.mlk_walk_exprs.specs.References.{touch}
use Rattle.mlk_walk_commands.specs.Arguments.{symbols_at, write_variable}
use Rattle.mlk_walk_commands.proofs.Opened.{global_written}
use Rattle.mlk_walk_commands.proofs.assign.WriteTransfer.make.Goals as goal

pub returns-in-Global : goal.returns-in-Global
returns-in-Global c =
    let p = spot_of c.args.self.now.spot.now in
    let from = c.args.self.now.from in
    let column = c.args.self.now.variable.now.column in
    let count : c.len.result ≡ length c.in-Global.subscripts.items = omega (arith, c.len.ensures, c.in-Global.subscripts.ok.0) in
    subst (λ os. OnOk c.make.result (c.make.new.walk ≡ add_all os c.args.walk.now))
    (ap (λ n. touch p extent.Node Writes c.in-Global.column c.in-Global.name (symbols_at from n c.args.state) c.args.state) count
    ∙ sym (ap (λ t. write_variable p from (Named column (tree_of t)) c.args.state) c.in-Global.is
    ∙ global_written c.in-Global.column c.in-Global.name c.in-Global.subscripts p from column c.args.state))
    c.make.ensures
