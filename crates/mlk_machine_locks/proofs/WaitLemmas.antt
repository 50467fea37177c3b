-- The test decides which job waits for which.
use Rattle.std.proofs.Common.{◌≡◌, true}
use Rattle.std.specs.Prelude.{◌==◌, not}
use Rattle.std.specs.List.{list_any}
use Rattle.std.proofs.lemmas.Bool.{and_parts, and_from, not-true, not_from_false, eqb-false, ne_eqb}
use Rattle.mlk_machine_locks.specs.Counts.{excludes}
use Rattle.mlk_machine_locks.specs.Waiting.{View, WaitsFor, awaited, waits}
use Rattle.mlk_machine_locks.specs.Laws.{WaitingIsTested, RingsAreFound, Waits}
use Rattle.mlk_machine_locks.proofs.RingLemmas.{found}
use Rattle.mlk_machine_locks.proofs.ListLemmas.{any_from, any_to}
use Rattle.mlk_machine_locks.proofs.NameLemmas.{excludes_is, excludes_if}

pub waits_is : (a b : View) → waits a b ≡ true → WaitsFor a b
waits_is a b h =
    let p = and_parts (not (a.number == b.number)) (list_any (excludes b.held) (awaited a.next)) h in
    let w = any_from (excludes b.held) (awaited a.next) p.1 in
    let c = excludes_is b.held w.0 w.2 in
    record {
      other = eqb-false a.number b.number (not-true (a.number == b.number) p.0);
      name = w.0;
      is_awaited = w.1;
      kept = c.0;
      is_kept = c.1;
      conflict = c.2;
    }

waits_if : (a b : View) → WaitsFor a b → waits a b ≡ true
waits_if a b w =
    and_from (not (a.number == b.number)) (list_any (excludes b.held) (awaited a.next))
    (not_from_false (a.number == b.number) (ne_eqb a.number b.number w.other))
    (any_to (excludes b.held) (awaited a.next) w.name w.is_awaited (excludes_if b.held w.name (w.kept, w.is_kept, w.conflict)))

pub waiting_is_tested : WaitingIsTested
waiting_is_tested a b = (waits_is a b, waits_if a b)

pub rings_are_found : {X : Type 0} (view : X → View) → RingsAreFound view
rings_are_found view jobs =
    found (λ x y. waits (view x) (view y)) (Waits view) (λ x y. waiting_is_tested (view x) (view y)) jobs
