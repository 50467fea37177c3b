-- The entry at an index of a list of counts, as the code finds it.
use Rattle.std.proofs.Common.{◌≡◌, ℕ, zero, suc, ◌+◌, ◌-◌, ◌<◌, ◌≤◌, Bool, true, false, List, [], ◌∷◌, ◌++◌, Option, Some, None, refl, sym, ap, ◌∙◌, arith, length, get_or, set, take, drop, remove, subst}
use Rattle.std.specs.Prelude.{◌&&◌, nat_lt, if◌then◌else◌}
use Rattle.std.specs.List.{position, position_or_len, AllZip}
use Rattle.std.proofs.lemmas.Bool.{false≢true, and_parts}
use Rattle.std.proofs.lemmas.Bool.Decides.{nat_tests}
use Rattle.std.proofs.lemmas.Grind.{common_steps}
use Rattle.std.proofs.lemmas.List.Sums.{fails_before_first}
use Rattle.std.proofs.lemmas.List.Quantifiers.{position-Some}
use Rattle.mlk_text.specs.declared.root.Root.{Root}
use Rattle.mlk_text.specs.declared.root.Root.TheVariants.{Global, Local}
use Rattle.mlk_text.specs.contracts.root.RootClone.TheImpl.{by_variants}
use Rattle.mlk_names.specs.declared.lock_name.LockName.{LockName}
use Rattle.mlk_machine_locks.specs.NameTests.{same_name}
use Rattle.mlk_machine_locks.specs.Counts.{Counts, count_of, raised, lowered, without_one}
use Rattle.mlk_machine_locks.proofs.Counting.{one}

-- the entry at an index is raised
pub raised_at : (m : LockName) (hs : Counts) (i : ℕ) (d : LockName × ℕ) → i < length hs
    → same_name (get_or hs i d).0 m ≡ true → ((k : ℕ) → k < i → same_name (get_or hs k d).0 m ≡ false)
    → set hs i ((get_or hs i d).0, (get_or hs i d).1 + 1) ≡ raised m hs
raised_at m [] i d l is before = absurd (omega arith)
raised_at m (h ∷ hs) zero d l is before = let e : h.1 + 1 ≡ suc h.1 = omega arith in rw (is, e) refl
raised_at m (h ∷ hs) (suc i) d l is before =
    rw (before 0 (omega arith))
    (ap (λ (r : Counts). h ∷ r) (raised_at m hs i d (omega arith) is (λ k lt. before (suc k) (omega arith))))

pub raised_past : (m : LockName) (hs : Counts) (d : LockName × ℕ)
    → ((k : ℕ) → k < length hs → same_name (get_or hs k d).0 m ≡ false) → hs ++ (m, 1) ∷ [] ≡ raised m hs
raised_past m [] d none = refl
raised_past m (h ∷ hs) d none =
    rw (none 0 (omega arith))
    (ap (λ (r : Counts). h ∷ r) (raised_past m hs d (λ k lt. none (suc k) (omega arith))))

-- whether an entry is for this name and has a positive count
abbrev pub counts : LockName → LockName × ℕ → Bool
counts m h = same_name h.0 m && nat_lt 0 h.1

some_more : (n : ℕ) → nat_lt 0 (suc n) ≡ true
some_more n = grind (arith, nat_tests)

kept : (b : Bool) (x : LockName) (n : ℕ) (hs rest : Counts) → (b && nat_lt 0 n) ≡ false
    → (if b then without_one x n hs rest else (x, n) ∷ rest) ≡ (x, n) ∷ rest
kept true x zero hs rest e = refl
kept true x (suc n) hs rest e = absurd (false≢true (sym e ∙ some_more n))
kept false x n hs rest e = refl

taken : (b : Bool) (x : LockName) (n : ℕ) (hs rest : Counts) → (b && nat_lt 0 n) ≡ true → n ≡ 1
    → (if b then without_one x n hs rest else (x, n) ∷ rest) ≡ hs
taken true x zero hs rest e o = absurd (false≢true e)
taken true x (suc zero) hs rest e o = refl
taken true x (suc (suc n)) hs rest e o = absurd (omega arith)
taken false x n hs rest e o = absurd (false≢true e)

one_less : (b : Bool) (x : LockName) (n : ℕ) (hs rest : Counts) → (b && nat_lt 0 n) ≡ true → (n ≡ 1 → ⊥)
    → (if b then without_one x n hs rest else (x, n) ∷ rest) ≡ (x, n - 1) ∷ hs
one_less true x zero hs rest e o = absurd (false≢true e)
one_less true x (suc zero) hs rest e o = absurd (o refl)
one_less true x (suc (suc n)) hs rest e o =
    let p : suc n ≡ suc (suc n) - 1 = omega arith in ap (λ (k : ℕ). (x, k) ∷ hs) p
one_less false x n hs rest e o = absurd (false≢true e)

pub lowered_past : (m : LockName) (hs : Counts) (d : LockName × ℕ)
    → ((k : ℕ) → k < length hs → counts m (get_or hs k d) ≡ false) → hs ≡ lowered m hs
lowered_past m [] d none = refl
lowered_past m (h ∷ hs) d none =
    ap (λ (r : Counts). h ∷ r) (lowered_past m hs d (λ k lt. none (suc k) (omega arith)))
    ∙ sym (kept (same_name h.0 m) h.0 h.1 hs (lowered m hs) (none 0 (omega arith)))

pub lowered_last : (m : LockName) (hs : Counts) (i : ℕ) (d : LockName × ℕ) → i < length hs
    → counts m (get_or hs i d) ≡ true → ((k : ℕ) → k < i → counts m (get_or hs k d) ≡ false)
    → (get_or hs i d).1 ≡ 1 → take i hs ++ drop (suc i) hs ≡ lowered m hs
lowered_last m [] i d l is before o = absurd (omega arith)
lowered_last m (h ∷ hs) zero d l is before o = sym (taken (same_name h.0 m) h.0 h.1 hs (lowered m hs) is o)
lowered_last m (h ∷ hs) (suc i) d l is before o =
    ap (λ (r : Counts). h ∷ r) (lowered_last m hs i d (omega arith) is (λ k lt. before (suc k) (omega arith)) o)
    ∙ sym (kept (same_name h.0 m) h.0 h.1 hs (lowered m hs) (before 0 (omega arith)))

pub lowered_more : (m : LockName) (hs : Counts) (i : ℕ) (d : LockName × ℕ) → i < length hs
    → counts m (get_or hs i d) ≡ true → ((k : ℕ) → k < i → counts m (get_or hs k d) ≡ false)
    → ((get_or hs i d).1 ≡ 1 → ⊥) → set hs i ((get_or hs i d).0, (get_or hs i d).1 - 1) ≡ lowered m hs
lowered_more m [] i d l is before o = absurd (omega arith)
lowered_more m (h ∷ hs) zero d l is before o = sym (one_less (same_name h.0 m) h.0 h.1 hs (lowered m hs) is o)
lowered_more m (h ∷ hs) (suc i) d l is before o =
    ap (λ (r : Counts). h ∷ r) (lowered_more m hs i d (omega arith) is (λ k lt. before (suc k) (omega arith)) o)
    ∙ sym (kept (same_name h.0 m) h.0 h.1 hs (lowered m hs) (before 0 (omega arith)))

-- if no index is found, nothing passes
pub none_passes : {X : Type 0} (p : X → Bool) (xs : List X) (d : X) → position p xs ≡ None
    → (k : ℕ) → k < length xs → p (get_or xs k d) ≡ false
none_passes p xs d e k l =
    let past : length xs ≤ position_or_len p xs = grind (arith, common_steps) in
    fails_before_first p xs k d (omega (arith, l, past))

copied_root : (x y : Root) → by_variants x y → y ≡ x
copied_root (Global a) (Global b) h = ap Global h
copied_root (Local a) (Local b) h = ap Local h
copied_root (Global a) (Local b) h = absurd h
copied_root (Local a) (Global b) h = absurd h

copied_subs : (xs ys : List (List ℕ)) → AllZip (λ (x y : List ℕ). y ≡ x) xs ys → ys ≡ xs
copied_subs [] [] h = refl
copied_subs (x ∷ xs) (y ∷ ys) h =
    ap (λ (z : List ℕ). z ∷ ys) h.0 ∙ ap (λ (zs : List (List ℕ)). x ∷ zs) (copied_subs xs ys h.1)
copied_subs [] (y ∷ ys) h = absurd h
copied_subs (x ∷ xs) [] h = absurd h

pub copied : (x y : LockName) → by_variants x.root y.root × AllZip (λ (x y : List ℕ). y ≡ x) x.subs y.subs → y ≡ x
copied x y h =
    let r : y.root ≡ x.root = copied_root x.root y.root h.0 in
    let s : y.subs ≡ x.subs = copied_subs x.subs y.subs h.1 in
    with_parts y.root x.root y.subs x.subs r s
  where
    made : Root → List (List ℕ) → LockName
    made root subs = record { root = root; subs = subs }

    with_parts : (a b : Root) (c d : List (List ℕ)) → a ≡ b → c ≡ d → made a c ≡ made b d
    with_parts a b c d e f = ap (λ k. made k c) e ∙ ap (made b) f

-- an entry's count is at most its name's
pub entry_le : (m : LockName) (hs : Counts) (i : ℕ) (d : LockName × ℕ) → i < length hs
    → same_name (get_or hs i d).0 m ≡ true → (get_or hs i d).1 ≤ count_of hs m
entry_le m [] i d l is = absurd (omega arith)
entry_le m (h ∷ hs) zero d l is = rw is (omega arith)
entry_le m (h ∷ hs) (suc i) d l is =
    omega (arith, entry_le m hs i d (omega arith) is, rest_le (same_name h.0 m) h.1 (count_of hs m))
  where
    rest_le : (b : Bool) (n k : ℕ) → k ≤ (if b then n else 0) + k
    rest_le true n k = omega arith
    rest_le false n k = omega arith

-- What is found at an index, as the code finds it: `xs` is the slice, `r` the result, `d` the entry at the index.
abbrev pub named : LockName → LockName × ℕ → Bool
named m h = same_name h.0 m

record Found (p : LockName × ℕ → Bool) (hs : Counts) (i : ℕ) (d : LockName × ℕ) : Type 0 where
  within : i < length hs
  stands : get_or hs i d ≡ d
  passes : p (get_or hs i d) ≡ true
  before : (k : ℕ) → k < i → p (get_or hs k d) ≡ false

found : (p : LockName × ℕ → Bool) (hs xs : Counts) (r : Option ℕ) (i : ℕ) (d : LockName × ℕ)
    → xs ≡ hs → r ≡ position p xs → r ≡ Some i → d ≡ get_or hs i d → Found p hs i d
found p hs xs r i d same is at stands =
    let e : position p hs ≡ Some i = ap (λ (l : Counts). position p l) (sym same) ∙ sym is ∙ at in
    let f = position-Some p hs i d e in
    record { within = f.0; stands = sym stands; passes = f.1; before = f.2 }

pub entry_found : (m : LockName) (hs xs : Counts) (r : Option ℕ) (i : ℕ) (d : LockName × ℕ)
    → xs ≡ hs → r ≡ position (named m) xs → r ≡ Some i → d ≡ get_or hs i d → d.1 ≤ count_of hs m
entry_found m hs xs r i d same is at stands =
    let f = found (named m) hs xs r i d same is at stands in
    let le = entry_le m hs i d f.within f.passes in
    subst (λ (h : LockName × ℕ). h.1 ≤ count_of hs m) f.stands le

pub raise_found : (m : LockName) (hs xs : Counts) (r : Option ℕ) (i : ℕ) (d : LockName × ℕ)
    → xs ≡ hs → r ≡ position (named m) xs → r ≡ Some i → d ≡ get_or hs i d → set hs i (d.0, d.1 + 1) ≡ raised m hs
raise_found m hs xs r i d same is at stands =
    let f = found (named m) hs xs r i d same is at stands in
    let e = raised_at m hs i d f.within f.passes f.before in
    subst (λ (h : LockName × ℕ). set hs i (h.0, h.1 + 1) ≡ raised m hs) f.stands e

pub raise_past : (m : LockName) (hs xs new : Counts) (r : Option ℕ) (n : LockName) → xs ≡ hs
    → r ≡ position (named m) xs → r ≡ None → n ≡ m → new ≡ hs ++ (n, 1) ∷ [] → new ≡ raised m hs
raise_past m hs xs new r n same is none name made =
    let e : position (named m) hs ≡ None = ap (λ (l : Counts). position (named m) l) (sym same) ∙ sym is ∙ none in
    made ∙ ap (λ (k : LockName). hs ++ (k, 1) ∷ []) name
    ∙ raised_past m hs (m, 1) (none_passes (named m) hs (m, 1) e)

pub lower_past : (m : LockName) (hs xs : Counts) (r : Option ℕ) → xs ≡ hs
    → r ≡ position (counts m) xs → r ≡ None → hs ≡ lowered m hs
lower_past m hs xs r same is none =
    let e : position (counts m) hs ≡ None = ap (λ (l : Counts). position (counts m) l) (sym same) ∙ sym is ∙ none in
    lowered_past m hs (m, 1) (none_passes (counts m) hs (m, 1) e)

pub held_found : (m : LockName) (hs xs : Counts) (r : Option ℕ) (i : ℕ) (d : LockName × ℕ)
    → xs ≡ hs → r ≡ position (counts m) xs → r ≡ Some i → d ≡ get_or hs i d → 1 ≤ d.1
held_found m hs xs r i d same is at stands =
    let f = found (counts m) hs xs r i d same is at stands in
    let p : nat_lt 0 d.1 ≡ true =
    (and_parts (same_name d.0 m) (nat_lt 0 d.1) (ap (λ (h : LockName × ℕ). counts m h) (sym f.stands) ∙ f.passes)).1 in
    lt_means d.1 p
  where
    lt_means : (n : ℕ) → nat_lt 0 n ≡ true → 1 ≤ n
    lt_means n h = grind (arith, nat_tests)

pub lower_last : (m : LockName) (hs xs : Counts) (r : Option ℕ) (i : ℕ) (d : LockName × ℕ)
    → xs ≡ hs → r ≡ position (counts m) xs → r ≡ Some i → d ≡ get_or hs i d → d.1 ≡ 1
    → remove hs i ≡ lowered m hs
lower_last m hs xs r i d same is at stands one =
    let f = found (counts m) hs xs r i d same is at stands in
    lowered_last m hs i d f.within f.passes f.before (ap (λ (h : LockName × ℕ). h.1) f.stands ∙ one)

one_there : (hs : Counts) (i : ℕ) (d e : LockName × ℕ) → i < length hs → get_or hs i d ≡ get_or hs i e
one_there [] i d e l = absurd (omega arith)
one_there (h ∷ hs) zero d e l = refl
one_there (h ∷ hs) (suc i) d e l = one_there hs i d e (omega arith)

pub lower_more : (m : LockName) (hs xs : Counts) (r : Option ℕ) (i : ℕ) (d e : LockName × ℕ)
    → xs ≡ hs → r ≡ position (counts m) xs → r ≡ Some i → d ≡ get_or hs i d → e ≡ get_or hs i e → (e.1 ≡ 1 → ⊥)
    → set hs i (d.0, d.1 - 1) ≡ lowered m hs
lower_more m hs xs r i d e same is at stands also more =
    let f = found (counts m) hs xs r i d same is at stands in
    let one : get_or hs i d ≡ e = one_there hs i d e f.within ∙ sym also in
    let g = lowered_more m hs i d f.within f.passes f.before
    (λ o. more (ap (λ (h : LockName × ℕ). h.1) (sym one) ∙ o)) in
    subst (λ (h : LockName × ℕ). set hs i (h.0, h.1 - 1) ≡ lowered m hs) f.stands g
