-- The results of readers of parts of a line. For private clauses only. This project's own.
use Rattle.std.specs.Prelude.{ℕ, suc, ◌≡◌, ◌++◌, List, drop, Result, Ok, Err, Option, Some, None}
use Rattle.std.specs.Prelude.{[], ◌∷◌}
use Rattle.mlk_text.specs.declared.failure.Failure.{Failure}
use Rattle.mlk_text.specs.declared.failure.Failure.TheVariants.{OutOfMemory, Refused}
use Rattle.mlk_text.specs.declared.fault.Fault.{Fault}
use Rattle.mlk_expr.specs.Grammar.{Spelled}
use Rattle.mlk_expr.specs.Theorem.{Stands, Only}
use Rattle.mlk_routine_arguments.specs.Faults.{IsLineFault}

-- a thing is at a place and ends before `next`, and no other thing of its kind does
abbrev pub Found : {A : Type 0} → Spelled A → (A → List ℕ → Type 0) → List ℕ → ℕ → A → ℕ → Type 0
Found Is Ends line at a next = Stands Is Ends line at a next × Only Is Ends line at a next

-- no thing of this kind is there
abbrev pub Nowhere : {A : Type 0} → Spelled A → (A → List ℕ → Type 0) → List ℕ → ℕ → Type 0
Nowhere {A = A} Is Ends line at = (a : A) (text rest : List ℕ) → drop at line ≡ text ++ rest → Is (suc at) a text
    → Ends a rest → ⊥

-- if something is refused, and memory did not run out, there is nothing, and the fault is one of this line
abbrev pub Denied : {A : Type 0} → Spelled A → (A → List ℕ → Type 0) → List ℕ → ℕ → Failure Fault → Type 0
Denied Is Ends line at OutOfMemory = Unit {0}
Denied Is Ends line at (Refused fault) = Nowhere Is Ends line at × IsLineFault line fault

-- What is read is there, and what is refused is not there.
abbrev pub ReadsPart : {X A : Type 0} → (X → A) → Spelled A → (A → List ℕ → Type 0) → List ℕ → ℕ
    → Result (X × ℕ) (Failure Fault) → Type 0
ReadsPart view Is Ends line at (Ok r) = Found Is Ends line at (view r.0) r.1
ReadsPart view Is Ends line at (Err e) = Denied Is Ends line at e

-- the byte at the front
abbrev pub first_of : List ℕ → Option ℕ
first_of [] = None
first_of (b ∷ xs) = Some b

-- the byte at a place
abbrev pub byte_at : List ℕ → ℕ → Option ℕ
byte_at line at = first_of (drop at line)

-- a refusal, not out of memory
abbrev pub IsRefusal : Failure Fault → Type 0
IsRefusal OutOfMemory = ⊥
IsRefusal (Refused fault) = Unit {0}
