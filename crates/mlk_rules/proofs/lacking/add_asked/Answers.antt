use Rattle.std.proofs.Common.{[], ◌∷◌, sym, subst}
use Rattle.mlk_rules.specs.Coverage.{AreMissing}
use Rattle.mlk_rules.specs.Fronts.{Gained}
use Rattle.mlk_rules.proofs.CheckLemmas.{asks_two, gained_two, where_ok}
use Rattle.mlk_rules.proofs.lacking.add_asked.Goals as goal

pub returns-in-Writes : goal.returns-in-Writes
returns-in-Writes c =
    let held = c.args.held.now in
    let r = c.args.reference.now in
    let cover = c.args.cover.now in
    let also = c.in-Some.also.now in
    let old = c.args.found.now.items in
    let between = c.add_missing.new.found.items in
    let new = c.add_missing-in-Writes.new.found.items in
    let asks = asks_two held r cover also (sym c.in-Some.ensures.value) c.in-Writes.is in
    where_ok c.add_missing-in-Writes.result
    (λ (g : Gained (AreMissing held r (also ∷ [])) between new). subst (λ locks. Gained (AreMissing held r locks) old new) (sym asks)
    (gained_two held r cover.lock also old between new c.in_ok-add_missing.ensures g))
    c.add_missing-in-Writes.ensures
