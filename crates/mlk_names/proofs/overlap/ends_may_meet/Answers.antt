use Rattle.std.proofs.Common.{◌≡◌, length, refl, ap, arith, inl, inr}
use Rattle.mlk_names.proofs.OverlapLemmas.{subs_meet_none, subs_meet_below, subs_meet_turned}
use Rattle.mlk_names.proofs.overlap.ends_may_meet.Goals as goal

pub returns-in-None-None : goal.returns-in-None-None
returns-in-None-None c =
    let a = c.args in
    (λ is. subs_meet_none a.far a.wide a.first.now a.second.now c.in-None-None.ensures.cases c.in-None-None.ensures'.cases, λ h. refl)

pub returns-in-Tree : goal.returns-in-Tree
returns-in-Tree c =
    let a = c.args in
    (λ is. subs_meet_below a.far a.wide a.first.now a.second.now c.in-None-Some.ensures.cases c.in-Tree.is, λ h. refl)

pub returns-in-Tree-matches : goal.returns-in-Tree-matches
returns-in-Tree-matches c =
    let a = c.args in
    let some = ap length c.in_default.ensures.cases.0 in
    let none : length a.second.now ≡ 0 = elim c.requires [ inl h ↦ absurd (omega (arith, some, h)) | inr h ↦ h ] in
    let below = subs_meet_below a.wide a.far a.second.now a.first.now none c.in-Tree-matches.is in
    (λ is. subs_meet_turned a.wide a.far a.second.now a.first.now below, λ h. refl)
