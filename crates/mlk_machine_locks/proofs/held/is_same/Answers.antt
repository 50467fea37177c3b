use Rattle.std.proofs.Common.{rules, ◌↔◌, ◌≡◌}
use Rattle.std.specs.Prelude.{IsTrue}
use Rattle.std.proofs.lemmas.Slice.Eq.{slice_eq-Decides}
use Rattle.mlk_machine_locks.proofs.HeldLemmas.{same_tested}
use Rattle.mlk_machine_locks.proofs.held.is_same.Goals as goal

pub returns : goal.returns
returns c =
    let e : IsTrue c.eq.result ↔ (c.args.first.now ≡ c.args.second.now) = search (rules, slice_eq-Decides) in
    same_tested c.eq.result c.args.first.now c.args.second.now e
