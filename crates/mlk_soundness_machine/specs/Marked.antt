-- How the world of a running frame arose, and that the open blocks and frames are those that it says. This project's own choice.
use Rattle.std.specs.Prelude.{◌≡◌, ℕ, ◌+◌, true, false, List, [], ◌∷◌, ◌++◌, map, Some}
use Rattle.mlk_names.specs.declared.lock_name.LockName.{LockName}
use Rattle.mlk_cert_parts.specs.declared.block.EntryCert.{EntryCert}
use Rattle.mlk_machine_locks.specs.Counts.{count_of}
use Rattle.mlk_machine_jobs.specs.Bindings.{look}
use Rattle.mlk_machine_jobs.specs.Tasks.{Job, Mark}
use Rattle.mlk_walk_state.specs.Scope.{Scope, block_at, scope_with}
use Rattle.mlk_soundness_machine.specs.Described.{World, Level, Rests}
use Rattle.mlk_soundness_machine.specs.Frames.{Waiting, times_waiting}
use Rattle.mlk_soundness_machine.specs.History.{block_tests, frame_backs, first_back, is_reference, BeganAt}
use Rattle.mlk_soundness_machine.specs.Listed.{IsAtStart}
use Rattle.mlk_soundness_machine.specs.Reads.{now, times}

-- The frame began as one of the world's entry, which is certified and has this scope, with the values that the world says; the
-- job then held what the entry needs, and what waiting frames have set aside.
pub record Begun (sc : Scope) (w : World) : Type 0 where
  pub block : EntryCert
  pub certified : block_at sc.blocks w.entry ≡ Some block
  pub scope : sc ≡ scope_with sc.routines sc.rules (sc.blocks, sc.declared_entries) w.entry block
  pub first : Job
  pub others : List Job
  pub since : w.begun ≡ first ∷ others
  pub began : BeganAt sc.routines w.entry first
  pub back : w.back ≡ first_back w.waiting
  pub values : (x : List ℕ) → w.formals x ≡ true → is_reference first.bindings x ≡ false
      → (w.refs x ≡ false) × (w.snap x ≡ first.cells (look first.bindings x))
  pub rests : Rests w.waiting
  pub held : (m : LockName) → count_of first.held m ≡ times (now first) block.summary.need m + times_waiting w.saved w.number w.waiting m

-- the open blocks and frames are those that the world and the level say
pub record AreMarked (w : World) (b : Level) (ms : List Mark) : Type 0 where
  pub tests : block_tests ms ≡ b.tests
  pub frames : frame_backs ms ≡ map (λ (v : Waiting). v.bindings) w.waiting ++ [] ∷ []

-- both, and the frame began in a case that is listed at the entry's line
pub record Marked (sc : Scope) (w : World) (b : Level) (ms : List Mark) : Type 0 where
  pub marks : AreMarked w b ms
  pub begun : Begun sc w
  pub starts : IsAtStart sc.routines sc.blocks w.begun begun.first
