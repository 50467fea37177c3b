use Rattle.std.proofs.Common.{◌∙◌, ap, sym, map}
use Rattle.std.specs.Prelude.{option_map}
use Rattle.mlk_syntax.specs.ExprTrees.{tree_of}
use Rattle.mlk_syntax.specs.Views.{variable_of}
use Rattle.mlk_walk_exprs.specs.Walks.{add_all}
use Rattle.mlk_walk_exprs.specs.Spots.{spot_of}
use Rattle.mlk_walk_commands.specs.Holding.{held_quickly}
use Rattle.mlk_walk_commands.specs.Locks.{is_timed, claim, by_sign}
use Rattle.mlk_walk_commands.proofs.Steps.{carried}
use Rattle.mlk_walk_commands.proofs.locks.by_sign.Goals as goal

pub returns-in-Plus : goal.returns-in-Plus
returns-in-Plus c =
    let p = spot_of c.args.spot.now in
    let l = c.args.argument.now in
    let names = map variable_of l.names.items in
    let timed = is_timed (option_map tree_of l.timeout) in
    carried c.claim.result c.claim.new.walk
    (add_all (claim held_quickly p c.is_timed-timed.result (map variable_of c.as_slice-names.result.now) c.args.terms.now c.args.state) c.args.walk.now)
    (add_all (by_sign held_quickly p l.sign timed names c.args.terms.now c.args.state) c.args.walk.now) c.claim.ensures
    (ap (λ os. add_all os c.args.walk.now)
    (ap (λ t. claim held_quickly p t (map variable_of c.as_slice-names.result.now) c.args.terms.now c.args.state) c.is_timed-timed.ensures
    ∙ ap (λ ns. claim held_quickly p timed (map variable_of ns) c.args.terms.now c.args.state) c.as_slice-names.ensures.value
    ∙ ap (λ s. by_sign held_quickly p s timed names c.args.terms.now c.args.state) (sym c.in-Plus.is)))
