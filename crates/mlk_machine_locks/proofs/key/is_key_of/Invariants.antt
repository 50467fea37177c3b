use Rattle.std.proofs.Common.{◌≡◌, ◌==◌, length}
use Rattle.std.specs.List.{list_any}
use Rattle.mlk_machine_locks.specs.Keys.{keys_from, keys_of}
use Rattle.mlk_machine_locks.proofs.key.is_key_of.Given as goal

abbrev pub invariant-loop-subscript : goal.invariant-loop-subscript
invariant-loop-subscript l =
    list_any (λ k. l.key == k) (keys_from l.current l.left) ≡ list_any (λ k. l.key == k) (keys_of l.name)

abbrev pub decreases-loop-subscript : goal.decreases-loop-subscript
decreases-loop-subscript l = length l.left
