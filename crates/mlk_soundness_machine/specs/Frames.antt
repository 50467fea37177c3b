-- Frames that wait for a callee, and what a case says of names and of `$TEST`. This project's own choice.
use Rattle.std.specs.Prelude.{◌≡◌, ℕ, ◌+◌, Bool, true, false, List, [], ◌∷◌, ◌++◌}
use Rattle.mlk_names.specs.declared.lock_name.LockName.{LockName}
use Rattle.mlk_names.specs.declared.term.LockTerm.{LockTerm}
use Rattle.mlk_cert_parts.specs.declared.case.Test.{Test}
use Rattle.mlk_cert_parts.specs.declared.case.Test.TheVariants.{Any, Zero, One}
use Rattle.mlk_machine_jobs.specs.Bindings.{Bindings, Cells}
use Rattle.mlk_machine_laws.specs.Sharing.{binds}
use Rattle.mlk_soundness_machine.specs.Reads.{values_in, times}

-- A frame that waits for its callee: the terms that it has set aside, its bindings of names, and the names whose values it
-- depends on.
pub record Waiting : Type 0 where
  pub terms : List LockTerm
  pub bindings : Bindings
  pub guards : List ℕ → Bool

-- how often terms of waiting frames denote a name, each frame's read in its own bindings
abbrev pub times_waiting : Cells → ℕ → List Waiting → LockName → ℕ
times_waiting cells number [] m = 0
times_waiting cells number (w ∷ ws) m = times (values_in cells w.bindings number) w.terms m + times_waiting cells number ws m

-- `$TEST` has the value that the case says, if it says one
abbrev pub Agrees : Test → Bool → Type 0
Agrees Any b = Unit {0}
Agrees Zero b = b ≡ false
Agrees One b = b ≡ true

-- these bindings are the earlier ones with binders in front, which bind exactly the names of `is`
pub record Binds (bindings back : Bindings) (is : List ℕ → Bool) : Type 0 where
  pub front : Bindings
  pub split : bindings ≡ front ++ back
  pub bound : (n : List ℕ) → binds front n ≡ is n
