-- A result that is `Ok` comes from one before it.
use Rattle.std.proofs.Common.{◌≡◌, refl}
use Rattle.std.specs.Prelude.{Result, Ok, Err}
use Rattle.mlk_machine_locks.specs.declared.refusal.Refusal.{Refusal}
use Rattle.mlk_machine_locks.specs.Systems.{and_then}

pub done_then : {A B P : Type 0} (f : A → Result B Refusal) (o : Result A Refusal) (y : B) → and_then f o ≡ Ok y
    → ((x : A) → o ≡ Ok x → f x ≡ Ok y → P) → P
done_then f (Ok x) y h use' = use' x refl h
done_then f (Err why) y h use' = cc
