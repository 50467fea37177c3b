use Rattle.std.proofs.Common.{◌≡◌, ◌&&◌, nat_lt, length}
use Rattle.std.specs.List.{list_any}
use Rattle.mlk_machine_locks.specs.NameTests.{in_conflict}
use Rattle.mlk_machine_locks.proofs.held.some_excludes.Given as goal

abbrev pub invariant-loop-entry : goal.invariant-loop-entry
invariant-loop-entry l =
    list_any (λ h. nat_lt 0 h.1 && in_conflict l.name h.0) l.left
    ≡ list_any (λ h. nat_lt 0 h.1 && in_conflict l.name h.0) l.entries

abbrev pub decreases-loop-entry : goal.decreases-loop-entry
decreases-loop-entry l = length l.left
