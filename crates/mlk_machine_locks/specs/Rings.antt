-- Rings: a nonempty set each of whose members waits for one of the set. Each may wait for several at once, so this is not a cycle
-- in a graph with one arrow from each, and the set need not be one cycle. This project's own.
use Rattle.std.specs.Prelude.{ℕ, zero, suc, Bool, List, length, filter}
use Rattle.std.specs.List.{list_any}
use Rattle.mlk_names.specs.Lists.{Among}
use Rattle.mlk_machine_locks.specs.Lists.{is_some_there}

-- A set given by a predicate.
pub record IsRing {X : Type 0} (WaitsFor : X → X → Type 0) (xs : List X) (In : X → Type 0) : Type 0 where
  pub first : X
  pub is_in : In first
  pub within : (x : X) → In x → Among x xs
  pub each : (x : X) → In x → (y : X) × In y × WaitsFor x y

-- There is a ring: some of them, listed, form one.
abbrev pub HasRing : {X : Type 0} → (X → X → Type 0) → List X → Type 0
HasRing {X} WaitsFor xs = (members : List X) × IsRing WaitsFor xs (λ x. Among x members)

-- those that wait for one of them all
abbrev pub waiting : {X : Type 0} → (X → X → Bool) → List X → List X
waiting waits xs = filter (λ x. list_any (waits x) xs) xs

-- what is left after n repetitions
abbrev pub left_after : {X : Type 0} → (X → X → Bool) → ℕ → List X → List X
left_after waits zero xs = xs
left_after waits (suc n) xs = left_after waits n (waiting waits xs)

-- Repeatedly removes those that wait for none of the rest, until nothing changes: each round removes at least one, or changes
-- nothing. What is left is the greatest ring, or nothing.
abbrev pub left : {X : Type 0} → (X → X → Bool) → List X → List X
left waits xs = left_after waits (length xs) xs

abbrev pub has_ring : {X : Type 0} → (X → X → Bool) → List X → Bool
has_ring waits xs = is_some_there (left waits xs)
