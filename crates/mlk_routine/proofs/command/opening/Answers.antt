use Rattle.std.proofs.Common.{◌≡◌, ap, ◌∙◌, [], map, sym, subst, Some}
use Rattle.std.specs.Prelude.{IfOk}
use Rattle.std.specs.List.{list_any}
use Rattle.mlk_syntax.specs.ExprTrees.{tree_of}
use Rattle.mlk_syntax.specs.declared.command.Sign.TheVariants as sign
use Rattle.mlk_syntax.specs.Trees.{Lock, LockNames}
use Rattle.mlk_syntax.specs.Views.{action_of}
use Rattle.mlk_routine.proofs.Doing.{opening_named, opening_claimed}
use Rattle.mlk_routine.proofs.command.opening.Goals as goal

pub returns-then-not-has_timeout : goal.returns-then-not-has_timeout
returns-then-not-has_timeout c =
    let none = sym (ap (list_any (λ device. device.is_timed)) c.as_slice.ensures.value) ∙ sym c.has_timeout.ensures ∙ c.if-not-has_timeout.true in
    subst (λ t. IfOk c.naming.result (λ action. action_of action ≡ t)) (opening_named c.args.devices.items none) c.naming.ensures

pub returns : goal.returns
returns c =
    let some = sym (ap (list_any (λ device. device.is_timed)) c.as_slice.ensures.value) ∙ sym c.has_timeout.ensures ∙ c.if-not-has_timeout.false in
    ap Lock (c.in_ok-claims.ensures ∙ ap (map (λ name. LockNames sign.Plus [] (Some (tree_of name)))) c.in_ok-names.ensures) ∙ opening_claimed c.args.devices.items some
