-- What the results of the code's readers say of the functions that they follow.
use Rattle.std.proofs.Common.{◌≡◌, ◌<◌, ℕ, List, length, Some, refl}
use Rattle.std.specs.Prelude.{Option}
use Rattle.mlk_text.specs.declared.failure.Failure.{Failure}
use Rattle.mlk_text.specs.declared.failure.Failure.TheVariants.{OutOfMemory, Refused}
use Rattle.mlk_text.specs.Reading.{with, put, many}
use Rattle.mlk_text.specs.Failures.{FailsOn}
use Rattle.mlk_text.proofs.Readers.{many_fails}

-- a loop one of whose items failed
pub loop_fails : {A B E : Type 0} (head : List ℕ → Option (B × List ℕ)) (item : B → List ℕ → Option (A × List ℕ)) (front : List A) (n : ℕ) (xs : List ℕ) (whole : Option (List A × List ℕ))
    (b : B) (m : List ℕ) (e : Failure E) → head xs ≡ Some (b, m) → FailsOn e (item b m) → length xs < n → put front (many head item n xs) ≡ whole → FailsOn e whole
loop_fails head item front n xs whole b m OutOfMemory is one less h = tt
loop_fails head item front n xs whole b m (Refused reason) is one less h = many_fails head item front n xs whole b m is one less h

-- a function applied to what failed
pub with_fails : {A B E : Type 0} (f : A → B) (e : Failure E) (o : Option (A × List ℕ)) → FailsOn e o → FailsOn e (with f o)
with_fails f OutOfMemory o h = tt
with_fails f (Refused reason) o h = rw h refl
