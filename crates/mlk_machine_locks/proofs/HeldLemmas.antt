-- What is held, as the code stores it.
use Rattle.std.proofs.Common.{◌≡◌, ◌↔◌, ℕ, ◌<◌, ◌≤◌, Bool, true, false, List, [], ◌∷◌, Some, None, refl, sym, ap, ◌∙◌, arith, inl, inr, subst}
use Rattle.std.specs.Prelude.{◌&&◌, ◌||◌, nat_lt, nat_le, IsTrue, if◌then◌else◌}
use Rattle.std.specs.List.{list_any}
use Rattle.std.proofs.lemmas.Bool.{cases_Bool, false≢true, and_parts}
use Rattle.std.proofs.lemmas.Bool.Decides.{nat_tests}
use Rattle.mlk_names.specs.declared.lock_name.LockName.{LockName}
use Rattle.mlk_names.specs.LockNames.{Conflict}
use Rattle.mlk_machine_locks.specs.NameTests.{in_conflict, same_name}
use Rattle.mlk_machine_locks.specs.Counts.{Counts, excludes, count_of, raised, lowered, all_raised, all_lowered, has_room, claimed, greatest_count}
use Rattle.mlk_machine_locks.proofs.NameLemmas.{conflict_is, conflict_if, same_is, same_self}
use Rattle.mlk_machine_locks.proofs.Counting.{one, count_of-raised, lowered_le}

pub conflict_tested : (b : Bool) (m n : LockName) → IsTrue b ↔ Conflict m n → b ≡ in_conflict m n
conflict_tested true m n h = sym (conflict_if m n (h.0 refl))
conflict_tested false m n h = elim (cases_Bool (in_conflict m n)) [
  | inl e ↦ absurd (false≢true (h.1 (conflict_is m n e)))
  | inr e ↦ sym e
]

pub same_tested : (b : Bool) (m n : LockName) → IsTrue b ↔ (m ≡ n) → b ≡ same_name m n
same_tested true m n h = let e : m ≡ n = h.0 refl in sym (rw e (same_self n))
same_tested false m n h = elim (cases_Bool (same_name m n)) [
  | inl e ↦ absurd (false≢true (h.1 (same_is m n e)))
  | inr e ↦ sym e
]

pub excludes_any : (n : LockName) (hs : Counts)
    → list_any (λ (h : LockName × ℕ). nat_lt 0 h.1 && in_conflict n h.0) hs ≡ excludes hs n
excludes_any n [] = refl
excludes_any n (h ∷ hs) = ap (λ b. (nat_lt 0 h.1 && in_conflict n h.0) || b) (excludes_any n hs)

-- no count exceeds the maximum
abbrev pub Within : Counts → Type 0
Within hs = (n : LockName) → count_of hs n ≤ greatest_count

le_test : (a b : ℕ) → a ≤ b → nat_le a b ≡ true
le_test a b h = grind (arith, nat_tests)

le_means : (a b : ℕ) → nat_le a b ≡ true → a ≤ b
le_means a b h = grind (arith, nat_tests)

gt_test : (a b : ℕ) → b < a → nat_le a b ≡ false
gt_test a b h = grind (arith, nat_tests)

itself : (m : LockName) → one m m ≡ 1
itself m = rw (same_self m) refl

all_raised_ge : (ns : List LockName) (hs : Counts) (n : LockName) → count_of hs n ≤ count_of (all_raised ns hs) n
all_raised_ge [] hs n = omega arith
all_raised_ge (m ∷ ns) hs n = omega (arith, all_raised_ge ns (raised m hs) n, count_of-raised hs m n)

pub raised_within : (m : LockName) (hs : Counts) → Within hs → count_of hs m < greatest_count → Within (raised m hs)
raised_within m hs w h n = elim (cases_Bool (same_name m n)) [
  | inl e ↦ let i : m ≡ n = same_is m n e in rw (← i) (omega (arith, h, itself m, count_of-raised hs m m))
  | inr e ↦ let o : one m n ≡ 0 = rw e refl in omega (arith, o, w n, count_of-raised hs m n)
]

few_more : (ns : List LockName) (hs : Counts) (m : LockName) → count_of hs m ≤ greatest_count → has_room ns hs ≡ true
    → count_of (all_raised ns hs) m ≤ greatest_count
few_more [] hs m h r = h
few_more (x ∷ ns) hs m h r =
    let p = and_parts (nat_le (count_of (all_raised ns (raised x hs)) x) greatest_count)
    (has_room ns (raised x hs)) r in
    elim (cases_Bool (same_name x m)) [
      | inl e ↦ let i : x ≡ m = same_is x m e in rw (← i) (le_means _ _ p.0)
      | inr e ↦
          let o : one x m ≡ 0 = rw e refl in
          few_more ns (raised x hs) m (omega (arith, o, h, count_of-raised hs x m)) p.1
    ]

pub room_goes : (m : LockName) (ns : List LockName) (hs : Counts) → count_of hs m < greatest_count
    → has_room (m ∷ ns) hs ≡ has_room ns (raised m hs)
room_goes m ns hs h = elim (cases_Bool (has_room ns (raised m hs))) [
  | inl e ↦
      let few : count_of (raised m hs) m ≤ greatest_count = omega (arith, h, itself m, count_of-raised hs m m) in
      let k = le_test _ _ (few_more ns (raised m hs) m few e) in
      rw (k, e) refl
  | inr e ↦ rw e (and_false (nat_le (count_of (all_raised ns (raised m hs)) m) greatest_count))
]
  where
    and_false : (b : Bool) → (b && false) ≡ false
    and_false true = refl
    and_false false = refl

pub no_room : (m : LockName) (ns : List LockName) (hs : Counts) → count_of hs m ≡ greatest_count
    → has_room (m ∷ ns) hs ≡ false
no_room m ns hs h =
    let k = gt_test (count_of (all_raised ns (raised m hs)) m) greatest_count
    (omega (arith, h, itself m, count_of-raised hs m m, all_raised_ge ns (raised m hs) m)) in
    rw k refl

pub claim_goes : (m : LockName) (ns : List LockName) (hs : Counts) → count_of hs m < greatest_count
    → claimed ns (raised m hs) ≡ claimed (m ∷ ns) hs
claim_goes m ns hs h = ap (λ b. if b then Some (all_raised ns (raised m hs)) else None) (sym (room_goes m ns hs h))

pub claim_stops : (m : LockName) (ns : List LockName) (hs : Counts) → count_of hs m ≡ greatest_count
    → claimed (m ∷ ns) hs ≡ None
claim_stops m ns hs h = rw (no_room m ns hs h) refl

pub lowered_within : (m : LockName) (hs : Counts) → Within hs → Within (lowered m hs)
lowered_within m hs w n = omega (arith, w n, lowered_le hs m n)

-- claims and releases of one name after another
pub claim_next : (m : LockName) (ns all : List LockName) (hs new first : Counts)
    → (claimed (m ∷ ns) hs ≡ claimed all first) × Within hs → (count_of hs m ≡ greatest_count → ⊥)
    → new ≡ raised m hs → (claimed ns new ≡ claimed all first) × Within new
claim_next m ns all hs new first h few e =
    let less : count_of hs m < greatest_count = lt_of_other (count_of hs m) greatest_count (h.1 m) few in (
      ap (λ (l : Counts). claimed ns l) e ∙ claim_goes m ns hs less ∙ h.0,
      λ n. subst (λ (l : Counts). count_of l n ≤ greatest_count) (sym e) (raised_within m hs h.1 less n),
    )
  where
    lt_of_other : (a b : ℕ) → a ≤ b → (a ≡ b → ⊥) → a < b
    lt_of_other a b h o = omega (arith, h, o)

pub claim_full : (m : LockName) (ns all : List LockName) (hs first : Counts)
    → (claimed (m ∷ ns) hs ≡ claimed all first) × Within hs → count_of hs m ≡ greatest_count
    → None ≡ claimed all first
claim_full m ns all hs first h full = sym (claim_stops m ns hs full) ∙ h.0

pub release_next : (m : LockName) (ns all : List LockName) (hs new first : Counts)
    → (all_lowered (m ∷ ns) hs ≡ all_lowered all first) × Within hs → new ≡ lowered m hs
    → (all_lowered ns new ≡ all_lowered all first) × Within new
release_next m ns all hs new first h e = (
  ap (λ (l : Counts). all_lowered ns l) e ∙ h.0,
  λ n. subst (λ (l : Counts). count_of l n ≤ greatest_count) (sym e) (lowered_within m hs h.1 n),
)
