-- How counts of names change.
use Rattle.std.proofs.Common.{◌≡◌, ℕ, zero, suc, ◌+◌, ◌<◌, ◌≤◌, Bool, true, false, List, [], ◌∷◌, refl, sym, ap, ◌∙◌, subst, arith, ⊎_elim, inl, inr}
use Rattle.std.specs.Prelude.{◌≢◌, ◌⊎◌, if◌then◌else◌}
use Rattle.std.specs.List.{list_all}
use Rattle.std.proofs.lemmas.Bool.{cases_Bool, and_parts, and_from}
use Rattle.mlk_names.specs.declared.lock_name.LockName.{LockName}
use Rattle.mlk_machine_locks.specs.NameTests.{same_name}
use Rattle.mlk_machine_locks.specs.Counts.{Counts, count_of, raised, lowered, without_one, all_raised, all_lowered}
use Rattle.mlk_machine_locks.specs.Laws.{ClaimAddsOne, ReleaseTakesOne}
use Rattle.mlk_machine_locks.proofs.NameLemmas.{same_is, same_self}

-- 1 if the two names are equal
abbrev pub one : LockName → LockName → ℕ
one m n = if same_name m n then 1 else 0

one_more : (b : Bool) (k c : ℕ) → (if b then suc k else 0) + c ≡ (if b then 1 else 0) + ((if b then k else 0) + c)
one_more true k c = omega arith
one_more false k c = omega arith

pub count_of-raised : (hs : Counts) (m n : LockName) → count_of (raised m hs) n ≡ one m n + count_of hs n
count_of-raised [] m n = refl
count_of-raised (h ∷ hs) m n =
    ⊎_elim
    (λ e. let i : h.0 ≡ m = same_is h.0 m e in rw e (rw (← i) (one_more (same_name h.0 n) h.1 (count_of hs n))))
    (λ e. rw e (omega (arith, count_of-raised hs m n)))
    (cases_Bool (same_name h.0 m))

no_count : (b : Bool) (c : ℕ) → (if b then 0 else 0) + c ≡ c
no_count true c = omega arith
no_count false c = omega arith

without : (m n : LockName) (k : ℕ) (hs rest : Counts) → (k ≡ 0 → one m n + count_of rest n ≡ count_of hs n) → one m n + count_of (without_one m k hs rest) n ≡ (if same_name m n then k else 0) + count_of hs n
without m n zero hs rest h = omega (arith, h refl, no_count (same_name m n) (count_of rest n), no_count (same_name m n) (count_of hs n))
without m n (suc zero) hs rest h = omega arith
without m n (suc (suc k)) hs rest h = sym (one_more (same_name m n) (suc k) (count_of hs n))

-- a name that is held
pub count_of-lowered : (hs : Counts) (m n : LockName) → 0 < count_of hs m → one m n + count_of (lowered m hs) n ≡ count_of hs n
count_of-lowered [] m n h = omega arith
count_of-lowered (x ∷ hs) m n h =
    ⊎_elim
    (λ e.
    let i : x.0 ≡ m = same_is x.0 m e in
    let p : 0 < (if same_name x.0 m then x.1 else 0) + count_of hs m = h in
    let q : 0 < x.1 + count_of hs m = rw e at p in
    let P : LockName → Type 0 = λ y. one y n + count_of (without_one x.0 x.1 hs (lowered y hs)) n ≡ (if same_name x.0 n then x.1 else 0) + count_of hs n in
    rw e (subst P i (without x.0 n x.1 hs (lowered x.0 hs) (λ z. rw i (count_of-lowered hs m n (omega arith))))))
    (λ e. let p : 0 < 0 + count_of hs m = rw e at h in let q : 0 < count_of hs m = omega arith in rw e (omega (arith, count_of-lowered hs m n q)))
    (cases_Bool (same_name x.0 m))

-- what is left of a name after a release was there before
pub lowered_le : (hs : Counts) (m n : LockName) → count_of (lowered m hs) n ≤ count_of hs n
lowered_le [] m n = omega arith
lowered_le (x ∷ hs) m n =
    ⊎_elim
    (λ e. rw e (without_le x.0 x.1 (lowered m hs) (lowered_le hs m n)))
    (λ e. rw e (omega (arith, lowered_le hs m n)))
    (cases_Bool (same_name x.0 m))
  where
    step_le : (b : Bool) (k c : ℕ) → (if b then k else 0) + c ≤ (if b then suc k else 0) + c
    step_le true k c = omega arith
    step_le false k c = omega arith

    without_le : (y : LockName) (k : ℕ) (rest : Counts) → count_of rest n ≤ count_of hs n → count_of (without_one y k hs rest) n ≤ (if same_name y n then k else 0) + count_of hs n
    without_le y zero rest h = omega (arith, h)
    without_le y (suc zero) rest h = omega arith
    without_le y (suc (suc k)) rest h = step_le (same_name y n) (suc k) (count_of hs n)

-- the count of another name stays, whether this one is held or not
pub lowered-other : (hs : Counts) (m n : LockName) → same_name m n ≡ false → count_of (lowered m hs) n ≡ count_of hs n
lowered-other [] m n o = refl
lowered-other (x ∷ hs) m n o =
    ⊎_elim
    (λ e.
    let i : x.0 ≡ m = same_is x.0 m e in
    let p : same_name x.0 n ≡ false = rw i o in
    rw e (without_other x.0 x.1 (lowered m hs) p (lowered-other hs m n o)))
    (λ e. rw e (omega (arith, lowered-other hs m n o)))
    (cases_Bool (same_name x.0 m))
  where
    without_other : (y : LockName) (k : ℕ) (rest : Counts) → same_name y n ≡ false → count_of rest n ≡ count_of hs n → count_of (without_one y k hs rest) n ≡ (if same_name y n then k else 0) + count_of hs n
    without_other y zero rest p h = rw p (omega (arith, h))
    without_other y (suc zero) rest p h = rw p (omega arith)
    without_other y (suc (suc k)) rest p h = rw p refl

same_false : (m n : LockName) → m ≢ n → same_name m n ≡ false
same_false m n ne = ⊎_elim (λ (e : same_name m n ≡ true). absurd (ne (same_is m n e))) (λ (e : same_name m n ≡ false). e) (cases_Bool (same_name m n))

itself : (m : LockName) → one m m ≡ 1
itself m = rw (same_self m) refl

another : (m n : LockName) → m ≢ n → one m n ≡ 0
another m n ne = rw (same_false m n ne) refl

pub claim_adds_one : ClaimAddsOne
claim_adds_one m held = (
  omega (arith, itself m, count_of-raised held m m),
  λ n ne. omega (arith, another m n ne, count_of-raised held m n),
)

pub release_takes_one : ReleaseTakesOne
release_takes_one m held = (
  λ h. omega (arith, itself m, count_of-lowered held m m h),
  λ h. omega (arith, lowered_le held m m),
  λ n ne. lowered-other held m n (same_false m n ne),
)

-- several names at once
pub all_lowered_le : (ms : List LockName) (hs : Counts) (n : LockName) → count_of (all_lowered ms hs) n ≤ count_of hs n
all_lowered_le [] hs n = omega arith
all_lowered_le (m ∷ ms) hs n = omega (arith, all_lowered_le ms (lowered m hs) n, lowered_le hs m n)

-- what is counted after all of these were claimed was counted before, or is free as all of these are
pub all_added : (free : LockName → Bool) (ns : List LockName) (hs : Counts) → list_all free ns ≡ true → (n : LockName)
    → 0 < count_of (all_raised ns hs) n → (0 < count_of hs n) ⊎ (free n ≡ true)
all_added free [] hs h n p = inl p
all_added free (x ∷ ns) hs h n p =
    let a = and_parts (free x) (list_all free ns) h in
    elim (all_added free ns (raised x hs) a.1 n p) [
      | inl q ↦ elim (cases_Bool (same_name x n)) [
        | inl e ↦ inr (ap free (sym (same_is x n e)) ∙ a.0)
        | inr e ↦
            let o : one x n ≡ 0 = rw e refl in
            let r : 0 < count_of hs n = omega (arith, o, q, count_of-raised hs x n) in inl r
      ]
      | inr q ↦ inr q
    ]

-- if more names are free, all of a list that were free still are
pub all_more : (free more : LockName → Bool) → ((n : LockName) → free n ≡ true → more n ≡ true) → (ns : List LockName)
    → list_all free ns ≡ true → list_all more ns ≡ true
all_more free more f [] h = refl
all_more free more f (n ∷ ns) h =
    let p = and_parts (free n) (list_all free ns) h in
    and_from (more n) (list_all more ns) (f n p.0) (all_more free more f ns p.1)
