-- The first task that is not done, by what workers left at each.
use Rattle.std.proofs.Common.{◌≡◌, ◌+◌, ◌-◌, ◌<◌, ◌||◌, ℕ, zero, suc, Bool, true, false, List, [], ◌∷◌, ◌++◌, Option, Some, None, length, slice_get, refl, sym, ap, subst, ◌∙◌, append_assoc, arith}
use Rattle.std.proofs.lemmas.List.{length-append}
use Rattle.mlk_text.specs.declared.failure.Failure.{Failure}
use Rattle.mlk_text.specs.declared.failure.Failure.TheVariants as failure
use Rattle.mlk_pool.specs.declared.board.Slot.{Slot}
use Rattle.mlk_pool.specs.declared.report.PoolFault.{PoolFault}
use Rattle.mlk_pool.specs.declared.report.PoolFault.TheVariants as fault
use Rattle.mlk_pool.specs.Boards.{next_slot}
use Rattle.mlk_pool.specs.Refusals.{HadNoMemory, FoundShut, IsFirstNotDone, IsShut}

-- The slots of the first tasks were taken, at none of which a worker had no memory; these are the later ones.
pub record AreLater (left later : List Slot) : Type 0 where
  pub taken : List Slot
  pub cut : left ≡ taken ++ later
  pub memory : (task : ℕ) → HadNoMemory (slice_get taken task) → ⊥

pub all_later : (left : List Slot) → AreLater left left
all_later left = record {
  taken = [];
  cut = refl;
  memory = λ task none. cc none.1;
}

-- the last of a list with one more, or one of those before it
get_added : {X : Type 0} (P : Option X → Type 0) (xs : List X) (x : X) (i : ℕ)
    → (P None → ⊥) → (P (Some x) → ⊥) → ((k : ℕ) → P (slice_get xs k) → ⊥) → P (slice_get (xs ++ x ∷ []) i) → ⊥
get_added P [] x zero none last before at = last at
get_added P [] x (suc i) none last before at = none at
get_added P (y ∷ ys) x zero none last before at = before 0 at
get_added P (y ∷ ys) x (suc i) none last before at = get_added P ys x i none last (λ k. before (suc k)) at

one_later : (left later : List Slot) (slot : Slot) → AreLater left (slot ∷ later) → (HadNoMemory (Some slot) → ⊥) → AreLater left later
one_later left later slot are memory = record {
  taken = are.taken ++ slot ∷ [];
  cut = are.cut ∙ sym (append_assoc are.taken (slot ∷ []) later);
  memory = λ task. get_added HadNoMemory are.taken slot task (λ none. cc none.1) memory are.memory;
}

-- The slot of the next entry, if it is a task, is taken too.
pub next_later : (left now later : List Slot) (slot : Option Slot) (is_task : Bool)
    → AreLater left now → (slot, later) ≡ next_slot is_task now → (HadNoMemory slot → ⊥) → AreLater left later
next_later left now later slot false are is memory = subst (AreLater left) (sym (ap (λ q. q.1) is)) are
next_later left [] later slot true are is memory = subst (AreLater left) (sym (ap (λ q. q.1) is)) are
next_later left (s ∷ now) later slot true are is memory =
    subst (AreLater left) (sym (ap (λ q. q.1) is)) (one_later left now s are (subst (λ o. HadNoMemory o → ⊥) (ap (λ q. q.0) is) memory))

-- what is neither of two is not the first
pub not_certified : (certified declared : Bool) → certified || declared ≡ false → certified ≡ false
not_certified false declared is = refl
not_certified true declared is = absurd (cc is)

-- an entry that is no task has no slot
pub no_slot : (slot : Option Slot) (now later : List Slot) (is_task : Bool) → is_task ≡ false → (slot, later) ≡ next_slot is_task now → HadNoMemory slot → ⊥
no_slot slot now later false not_task is none = let bad = sym (ap (λ q. q.0) is) ∙ none.1 in cc bad
no_slot slot now later true not_task is none = absurd (cc not_task)

get_there : {X : Type 0} (xs ys : List X) (x : X) → slice_get (xs ++ x ∷ ys) (length xs) ≡ Some x
get_there [] ys x = refl
get_there (y ∷ xs) ys x = get_there xs ys x

get_before : {X : Type 0} (xs ys : List X) (i : ℕ) → i < length xs → slice_get (xs ++ ys) i ≡ slice_get xs i
get_before [] ys i lt = absurd (omega arith)
get_before (x ∷ xs) ys zero lt = refl
get_before (x ∷ xs) ys (suc i) lt = get_before xs ys i (omega arith)

first_here : (left later : List Slot) (slot : Slot) (task : ℕ) → AreLater left (slot ∷ later) → FoundShut (Some slot) → task ≡ length left - length (slot ∷ later)
    → IsFirstNotDone left task
first_here left later slot task are shut counted =
    let long : length left ≡ length are.taken + length (slot ∷ later) = ap length are.cut ∙ length-append are.taken (slot ∷ later) in
    let here : task ≡ length are.taken = omega (arith, long, counted) in
    subst (IsFirstNotDone left) (sym here) (subst (λ l. IsFirstNotDone l (length are.taken)) (sym are.cut) (record {
      shut = subst FoundShut (sym (get_there are.taken later slot)) shut;
      earlier = λ before lt none. are.memory before (subst HadNoMemory (get_before are.taken (slot ∷ later) before lt) none);
    }))

-- Where the gate was shut before the next entry's task, that is the first one not done.
pub first_not_done : (left now later : List Slot) (slot : Option Slot) (is_task : Bool) (task : ℕ)
    → AreLater left now → (slot, later) ≡ next_slot is_task now → FoundShut slot → task ≡ length left - length now → IsFirstNotDone left task
first_not_done left now later slot false task are is shut counted = let bad = sym (ap (λ q. q.0) is) ∙ shut.1 in absurd (cc bad)
first_not_done left [] later slot true task are is shut counted = let bad = sym (ap (λ q. q.0) is) ∙ shut.1 in absurd (cc bad)
first_not_done left (s ∷ now) later slot true task are is shut counted = first_here left now s task are (subst FoundShut (ap (λ q. q.0) is) shut) counted

-- what is said of the task says more
pub shut_more : (is_open : Type 0) (P Q : ℕ → Type 0) (e : Failure PoolFault) → ((task : ℕ) → P task → Q task) → IsShut is_open P e → IsShut is_open Q e
shut_more is_open P Q failure.OutOfMemory more shut = tt
shut_more is_open P Q (failure.Refused fault.Workers) more shut = absurd shut
shut_more is_open P Q (failure.Refused (fault.GateShut task)) more shut = (shut.0, more task shut.1)
