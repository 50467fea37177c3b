-- What a failure that is passed on says of the whole.
use Rattle.std.proofs.Common.{ℕ, List}
use Rattle.mlk_text.specs.declared.failure.Failure.{Failure}
use Rattle.mlk_text.specs.declared.failure.Failure.TheVariants.{OutOfMemory, Refused}
use Rattle.mlk_text.specs.declared.fault.Fault.{Fault}
use Rattle.mlk_expr.specs.Grammar.{Spelled}
use Rattle.mlk_routine_arguments.specs.PartsRead.{Denied, Nowhere}
use Rattle.mlk_routine_arguments.specs.Faults.{IsFaulty}

-- a missing part is a missing whole
pub hands_on : {A C : Type 0} (IsA : Spelled A) (EndsA : A → List ℕ → Type 0) (IsC : Spelled C) (EndsC : C → List ℕ → Type 0) (line : List ℕ) (at m : ℕ)
    → (Nowhere IsA EndsA line m → Nowhere IsC EndsC line at) → (e : Failure Fault) → Denied IsA EndsA line m e → Denied IsC EndsC line at e
hands_on IsA EndsA IsC EndsC line at m f OutOfMemory h = tt
hands_on IsA EndsA IsC EndsC line at m f (Refused fault) h = (f h.0, h.1)

-- a refusal where nothing is there
pub denies : {A : Type 0} (Is : Spelled A) (Ends : A → List ℕ → Type 0) (line : List ℕ) (at : ℕ) (e : Failure Fault) → IsFaulty line e → Nowhere Is Ends line at → Denied Is Ends line at e
denies Is Ends line at OutOfMemory fault none = tt
denies Is Ends line at (Refused fault) is none = (none, is)
