use Rattle.mlk_names.proofs.OverlapLemmas.{overlap_from, overlap_subs}
use Rattle.std.proofs.lemmas.Slice.Eq.{bytes_eq-Decides}
use Rattle.std.proofs.Common.{◌≡◌, ◌↔◌, sym, ◌∙◌}
use Rattle.mlk_names.specs.References.{SubsMayMeet}
use Rattle.std.specs.Prelude.{IsTrue}
use Rattle.mlk_names.proofs.overlap.may_overlap.Goals as goal

pub returns-then-eq : goal.returns-then-eq
returns-then-eq c =
    let r = c.args.first.now in
    let s = c.args.second.now in
    let e : r.root ≡ s.root = (bytes_eq-Decides r.root s.root).0 (sym c.eq.ensures ∙ c.if-eq.true) in
    let meet : IsTrue c.subs_may_meet.result ↔ SubsMayMeet r.subs r.extent s.subs s.extent =
    rw (← c.as_slice.ensures, ← c.as_slice-then-eq.ensures) c.subs_may_meet.ensures in
    (λ is. overlap_from r s e (meet.0 is), λ o. meet.1 (overlap_subs r s o))
