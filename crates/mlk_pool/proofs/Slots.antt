-- A board after one of its slots changed.
use Rattle.std.proofs.Common.{◌≡◌, ◌+◌, ◌*◌, ◌≤◌, ◌<◌, ℕ, zero, suc, replicate, Bool, true, false, nat_lt, ◌==◌, List, [], ◌∷◌, ◌++◌, Vec, Some, length, map, slice_get, sum_by, vec_len, refl, sym, ap, ◌∙◌, arith, subst}
use Rattle.std.proofs.Math.ListN.{set}
use Rattle.std.proofs.lemmas.Bool.Decides.{nat_tests}
use Rattle.std.proofs.lemmas.List.{length-set, length-replicate}
use Rattle.std.proofs.lemmas.List.Folds.{sum_by-replicate}
use Rattle.std.proofs.lemmas.List.Sums.{sum_by-set}
use Rattle.std.proofs.lemmas.Option.{get_or_from_slice_get}
use Rattle.std.specs.List.{AllZip}
use Rattle.std.specs.Prelude.{vec_capacity}
use Rattle.std.specs.declared.alloc.Global.{Global}
use Rattle.mlk_program.specs.declared.entry.EntryId.{EntryId}
use Rattle.mlk_pool.specs.declared.board.Slot.{Slot}
use Rattle.mlk_pool.specs.declared.board.Slot.TheVariants.{Open, Claimed, Posted}
use Rattle.mlk_pool.specs.declared.board.Outcome.TheVariants.{NoMemory}
use Rattle.mlk_pool.specs.declared.board.Event.{Event}
use Rattle.mlk_pool.specs.Given.{Given}
use Rattle.mlk_pool.specs.Histories.{Stage, Unclaimed, MayFollow, IsNext, IsHistory, AreAllClaimed, stages_after, stages_at_end}
use Rattle.mlk_pool.specs.Boards.{IsSlotOf, IsKept, IsLogOf, events_left, stage_of}
use Rattle.mlk_pool.proofs.Histories.{history_more, stages_more}

-- a store leaves the other places
pub slice_get-set_away : {X : Type 0} (xs : List X) (i k : ℕ) (y : X) → (i ≡ k → ⊥) → slice_get (set xs i y) k ≡ slice_get xs k
slice_get-set_away [] i k y away = refl
slice_get-set_away (x ∷ xs) zero zero y away = absurd (away refl)
slice_get-set_away (x ∷ xs) zero (suc k) y away = refl
slice_get-set_away (x ∷ xs) (suc i) zero y away = refl
slice_get-set_away (x ∷ xs) (suc i) (suc k) y away = slice_get-set_away xs i k y (λ e. away (ap suc e))

-- and is found at its own
pub slice_get-set_there : {X : Type 0} (xs : List X) (i : ℕ) (y : X) → i < length xs → slice_get (set xs i y) i ≡ Some y
slice_get-set_there [] i y lt = absurd (omega arith)
slice_get-set_there (x ∷ xs) zero y lt = refl
slice_get-set_there (x ∷ xs) (suc i) y lt = slice_get-set_there xs i y (omega arith)

pub map-set : {X Y : Type 0} (f : X → Y) (xs : List X) (i : ℕ) (y : X) → map f (set xs i y) ≡ set (map f xs) i (f y)
map-set f [] i y = refl
map-set f (x ∷ xs) zero y = refl
map-set f (x ∷ xs) (suc i) y = ap (λ l. f x ∷ l) (map-set f xs i y)

pub slice_get-mapped : {X Y : Type 0} (f : X → Y) (xs : List X) (i : ℕ) (x : X) → slice_get xs i ≡ Some x → slice_get (map f xs) i ≡ Some (f x)
slice_get-mapped f [] i x at = absurd cc
slice_get-mapped f (y ∷ ys) zero x at = cc
slice_get-mapped f (y ∷ ys) (suc i) x at = slice_get-mapped f ys i x at

-- a place that has an element lies within
pub within_from_slice_get : {X : Type 0} (xs : List X) (i : ℕ) (x : X) → slice_get xs i ≡ Some x → i < length xs
within_from_slice_get [] i x at = absurd cc
within_from_slice_get (y ∷ ys) zero x at = omega arith
within_from_slice_get (y ∷ ys) (suc i) x at = let r = within_from_slice_get ys i x at in omega arith

pub length-mapped : {X Y : Type 0} (f : X → Y) (xs : List X) → length (map f xs) ≡ length xs
length-mapped f [] = refl
length-mapped f (x ∷ xs) = ap suc (length-mapped f xs)

-- a store of what fits keeps two lists in step
pub AllZip-set : {A B : Type 0} (R : A → B → Type 0) (es : List A) (xs : List B) (i : ℕ) (y : B) → ((e : A) → slice_get es i ≡ Some e → R e y) → AllZip R es xs → AllZip R es (set xs i y)
AllZip-set R [] [] i y fits all = tt
AllZip-set R [] (x ∷ xs) i y fits all = absurd all
AllZip-set R (e ∷ es) [] i y fits all = absurd all
AllZip-set R (e ∷ es) (x ∷ xs) zero y fits all = (fits e refl, all.1)
AllZip-set R (e ∷ es) (x ∷ xs) (suc i) y fits all = (all.0, AllZip-set R es xs i y fits all.1)

-- a claimed task lies below the next one
pub claimed_below : (xs : List Slot) (next i w : ℕ) → ((k : ℕ) → next ≤ k → k < length xs → slice_get xs k ≡ Some Open) → slice_get xs i ≡ Some (Claimed w) → (b : Bool) → nat_lt i next ≡ b → i < next
claimed_below xs next i w later at true is = grind (arith, nat_tests)
claimed_below xs next i w later at false is =
    let past : next ≤ i = grind (arith, nat_tests) in
    let open_there = later i past (within_from_slice_get xs i (Claimed w) at) in
    absurd (cc (at, open_there))

some_same : {X : Type 0} {x y : X} → Some x ≡ Some y → x ≡ y
some_same e = cc

-- the next task
pub next_of : (given : Given) (tasks : List EntryId) (next : ℕ) (slots : Vec Slot Global) (log : Vec Event Global)
    → IsKept given tasks next slots log → next < length tasks → IsNext (map stage_of slots.items) next
next_of given tasks next slots log kept inside =
    (slice_get-mapped stage_of slots.items next Open (kept.later next (omega arith) (omega (arith, inside, kept.long))), kept.earlier)

-- where all tasks lie below the next one, all are claimed
pub all_claimed : (given : Given) (tasks : List EntryId) (next : ℕ) (slots : Vec Slot Global) (log : Vec Event Global)
    → IsKept given tasks next slots log → length tasks ≤ next → AreAllClaimed (map stage_of slots.items)
all_claimed given tasks next slots log kept past task open_there =
    let inside = within_from_slice_get (map stage_of slots.items) task Unclaimed open_there in
    let long = length-mapped stage_of slots.items in
    kept.earlier task (omega (arith, inside, long, kept.long, past)) open_there

-- what the log says after one more event
pub logged_more : (slots : List Slot) (log : List Event) (i : ℕ) (y : Slot) (e : Event)
    → IsLogOf log slots → MayFollow (map stage_of slots) e → stages_after (map stage_of slots) e ≡ set (map stage_of slots) i (stage_of y)
    → IsLogOf (log ++ e ∷ []) (set slots i y)
logged_more slots log i y e logged may moves =
    let n : length (set slots i y) ≡ length slots = length-set slots i y in record {
      history = subst (λ n. IsHistory (replicate n Unclaimed) (log ++ e ∷ [])) (sym n)
          (history_more (replicate (length slots) Unclaimed) log e logged.history (subst (λ s. MayFollow s e) logged.stages may));
      stages = map-set stage_of slots i y ∙ sym moves ∙ ap (λ s. stages_after s e) logged.stages
          ∙ sym (stages_more (replicate (length slots) Unclaimed) log e)
          ∙ ap (λ n. stages_at_end (replicate n Unclaimed) (log ++ e ∷ [])) (sym n);
    }

pub below_or : (k n : ℕ) → k < n + 1 → (n ≡ k → ⊥) → (b : Bool) → nat_lt k n ≡ b → k < n
below_or k n lt away true is = grind (arith, nat_tests)
below_or k n lt away false is =
    let past : n ≤ k = grind (arith, nat_tests) in
    absurd (away (omega arith))

-- no earlier task is unclaimed after one of them moved on
still_claimed : (stages : List Stage) (next next' i : ℕ) (s : Stage) → i < length stages → (s ≡ Unclaimed → ⊥)
    → ((k : ℕ) → k < next → slice_get stages k ≡ Some Unclaimed → ⊥) → ((k : ℕ) → k < next' → (i ≡ k → ⊥) → k < next)
    → (k : ℕ) → k < next' → slice_get (set stages i s) k ≡ Some Unclaimed → (b : Bool) → (i == k) ≡ b → ⊥
still_claimed stages next next' i s inside moved earlier reached k lt open_there true is =
    let same : i ≡ k = grind (arith, nat_tests) in
    moved (some_same (sym (slice_get-set_there stages i s inside) ∙ ap (slice_get (set stages i s)) same ∙ open_there))
still_claimed stages next next' i s inside moved earlier reached k lt open_there false is =
    let away : i ≡ k → ⊥ = λ e. absurd (grind (arith, nat_tests)) in
    earlier k (reached k lt away) (sym (slice_get-set_away stages i k s away) ∙ open_there)

-- one slot moved on by one event, and the log is one event longer
pub IsKept-set : (given : Given) (tasks : List EntryId) (next next' : ℕ) (slots slots' : Vec Slot Global) (log log' : Vec Event Global) (i : ℕ) (x y : Slot) (e : Event)
    → IsKept given tasks next slots log
    → slice_get slots.items i ≡ Some x
    → events_left x ≡ events_left y + 1
    → ((t : EntryId) → slice_get tasks i ≡ Some t → IsSlotOf given t y)
    → (stage_of y ≡ Unclaimed → ⊥)
    → MayFollow (map stage_of slots.items) e
    → stages_after (map stage_of slots.items) e ≡ set (map stage_of slots.items) i (stage_of y)
    → i < next' → next ≤ next' → next' ≤ length tasks → ((k : ℕ) → k < next' → (i ≡ k → ⊥) → k < next)
    → slots'.items ≡ set slots.items i y
    → log'.items ≡ log.items ++ e ∷ []
    → vec_len log' ≡ vec_len log + 1
    → vec_capacity log' ≡ vec_capacity log
    → IsKept given tasks next' slots' log'
IsKept-set given tasks next next' slots slots' log log' i x y e kept at left fits moved may moves below later within reached stored logs longer same =
    let inside = within_from_slice_get slots.items i x at in
    let was = get_or_from_slice_get slots.items i x x at in
    let weighed = sum_by-set events_left slots.items i y x inside in
    let mapped = map-set stage_of slots.items i y in
    let long = length-mapped stage_of slots.items in
    record {
      tasks_are = kept.tasks_are;
      right = rw stored (AllZip-set (IsSlotOf given) tasks slots.items i y fits kept.right);
      logged = rw (stored, logs) (logged_more slots.items log.items i y e kept.logged may moves);
      long = rw stored (length-set slots.items i y ∙ kept.long);
      within = within;
      later = λ k past k_inside. rw stored (slice_get-set_away slots.items i k y (λ same. absurd (omega (arith, same, past, below))) ∙ kept.later k (omega arith) (rw (stored, length-set slots.items i y) at k_inside));
      earlier = λ k lt open_there. still_claimed (map stage_of slots.items) next next' i (stage_of y) (omega (arith, inside, long)) moved kept.earlier reached k lt (rw (stored, mapped) at open_there) (i == k) refl;
      room = let held = kept.room in let e = rw was at weighed in omega (arith, ap (sum_by events_left) stored, longer, same);
    }

-- a task that can still have an event leaves room in the log
pub has_room : (given : Given) (tasks : List EntryId) (next : ℕ) (slots : Vec Slot Global) (log : Vec Event Global) (i : ℕ) (x : Slot)
    → IsKept given tasks next slots log → slice_get slots.items i ≡ Some x → 0 < events_left x → vec_len log < vec_capacity log
has_room given tasks next slots log i x kept at left =
    let inside = within_from_slice_get slots.items i x at in
    let was = get_or_from_slice_get slots.items i x x at in
    let weighed = sum_by-set events_left slots.items i (Posted 0 NoMemory) x inside in
    let held = kept.room in let e = rw was at weighed in omega arith

-- a board on which every task is open
pub AllZip-open : (given : Given) (es : List EntryId) → AllZip (IsSlotOf given) es (replicate (length es) Open)
AllZip-open given [] = tt
AllZip-open given (e ∷ es) = (tt, AllZip-open given es)

pub slice_get-replicate : {X : Type 0} (n k : ℕ) (x : X) → k < n → slice_get (replicate n x) k ≡ Some x
slice_get-replicate zero k x lt = absurd (omega arith)
slice_get-replicate (suc n) zero x lt = refl
slice_get-replicate (suc n) (suc k) x lt = slice_get-replicate n k x (omega arith)

pub sum_by-open : (n : ℕ) → sum_by events_left (replicate n Open) ≡ 2 * n
sum_by-open n = sum_by-replicate events_left n Open ∙ omega arith

map-open : (n : ℕ) → map stage_of (replicate n Open) ≡ replicate n Unclaimed
map-open zero = refl
map-open (suc n) = ap (λ l. Unclaimed ∷ l) (map-open n)

pub logged_none : (n : ℕ) → IsLogOf [] (replicate n Open)
logged_none n = record {
  history = tt;
  stages = rw (length-replicate n Open) (map-open n);
}
