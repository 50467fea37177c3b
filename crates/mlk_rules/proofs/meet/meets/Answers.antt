use Rattle.std.proofs.Common.{◌≡◌, ◌↔◌, sym, ◌∙◌}
use Rattle.std.specs.Prelude.{IsTrue}
use Rattle.std.proofs.lemmas.Slice.Eq.{bytes_eq-Decides}
use Rattle.mlk_rules.proofs.MeetLemmas.{FrontsMeet, meet_from, meet_fronts}
use Rattle.mlk_rules.proofs.meet.meets.Goals as goal

pub returns-then-eq : goal.returns-then-eq
returns-then-eq c =
    let p = c.args.pattern.now in
    let r = c.args.reference.now in
    let e : p.global ≡ r.root = (bytes_eq-Decides p.global r.root).0 (sym (rw c.root.ensures at c.eq.ensures) ∙ c.if-eq.true) in
    let meet : IsTrue c.elements_may_meet.result ↔ FrontsMeet p r =
    rw (← c.as_slice.ensures, ← c.subs.ensures, ← c.extent.ensures) c.elements_may_meet.ensures in
    (λ is. meet_from p r e (meet.0 is), λ m. meet.1 (meet_fronts p r m))
