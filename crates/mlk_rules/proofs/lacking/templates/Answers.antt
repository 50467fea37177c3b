use Rattle.std.proofs.Common.{◌∙◌, ap, subst, sym}
use Rattle.mlk_rules.specs.Coverage.{AreLacking}
use Rattle.mlk_rules.proofs.Grouping.{lacking_ok, none_lacking}
use Rattle.mlk_rules.proofs.lacking.templates.Goals as goal

pub returns-in-Some : goal.returns-in-Some
returns-in-Some c =
    lacking_ok c.args.rules.now c.args.held.now c.args.reference.now c.as_slice.result.now c.missing_locks.result (c.as_slice.ensures ∙ ap (λ g. g.covers) c.in-Some.ensures) c.missing_locks.ensures

pub returns-in-None : goal.returns-in-None
returns-in-None c =
    let rules = c.args.rules.now in
    let held = c.args.held.now in
    let reference = c.args.reference.now in
    subst (λ ts. AreLacking held reference rules.covers ts) (sym c.new.ensures.items) (none_lacking rules reference held rules.covers c.in-None.ensures.covers)
