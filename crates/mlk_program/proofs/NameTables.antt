-- Tables of names.
use Rattle.std.proofs.Common.{◌≡◌, ◌<◌, ◌+◌, ℕ, suc, true, false, List, [], ◌∷◌, ◌++◌, map, length, get_or, drop, Option, Some, None, refl, sym, ap, subst, ◌∙◌, ⊎_elim, is_some, append_assoc, add-one, drop-cons, arith, ◌⊎◌, inl, inr}
use Rattle.std.proofs.lemmas.Bool.Decides.{nat_tests}
use Rattle.std.specs.Prelude.{bytes_eq, position, option_map, Bool, nat_lt, cond, if◌then◌else◌}
use Rattle.std.specs.List.{position_or_len}
use Rattle.std.proofs.Common.{Bor}
use Rattle.std.specs.Map.{lookup}
use Rattle.std.proofs.lemmas.Bool.{cases_Bool}
use Rattle.std.proofs.lemmas.Slice.Eq.{bytes_eq-Decides}
use Rattle.mlk_program.specs.Tables.{first_with, SameFirst, one_at, IsTableOf}
use Rattle.mlk_program.specs.Entries.{is_label}

abbrev pub Pairs : Type 0
Pairs = List (List ℕ × ℕ)

first_with-append : (t : List ℕ) (ps qs : Pairs) → is_some (first_with t ps) ≡ true → first_with t ps ≡ first_with t (ps ++ qs)
first_with-append t [] qs h = cc
first_with-append t (p ∷ ps) qs h =
    ⊎_elim
    (λ e. rw e refl)
    (λ e. let g : is_some (first_with t ps) ≡ true = rw e at h in rw e (first_with-append t ps qs g))
    (cases_Bool (bytes_eq t p.0))

first_with-other : (t u : List ℕ) (e : ℕ) (ps : Pairs) → bytes_eq t u ≡ false → first_with t ps ≡ first_with t (ps ++ (u, e) ∷ [])
first_with-other t u e [] h = rw h refl
first_with-other t u e (p ∷ ps) h =
    ⊎_elim
    (λ i. rw i refl)
    (λ i. rw i (first_with-other t u e ps h))
    (cases_Bool (bytes_eq t p.0))

-- a name that is in a table need not be added again
pub same-present : (u : List ℕ) (e : ℕ) (ps : Pairs) → is_some (first_with u ps) ≡ true → SameFirst ps (ps ++ (u, e) ∷ [])
same-present u e ps h t =
    ⊎_elim
    (λ i. let same : t ≡ u = (bytes_eq-Decides t u).0 i in first_with-append t ps ((u, e) ∷ []) (rw same h))
    (λ i. first_with-other t u e ps i)
    (cases_Bool (bytes_eq t u))

abbrev pub shown : List (Bor (List ℕ) × ℕ) → Pairs
shown es = map (λ p. (p.0.now, p.1)) es

pub lookup-shown : (t : List ℕ) (es : List (Bor (List ℕ) × ℕ)) → lookup (λ k. bytes_eq t k.now) es ≡ first_with t (shown es)
lookup-shown t [] = refl
lookup-shown t (p ∷ ps) =
    ⊎_elim
    (λ e. rw e refl)
    (λ e. rw e (lookup-shown t ps))
    (cases_Bool (bytes_eq t p.0.now))

pub shown-append : (es : List (Bor (List ℕ) × ℕ)) (k : Bor (List ℕ)) (e : ℕ) → shown (es ++ (k, e) ∷ []) ≡ shown es ++ (k.now, e) ∷ []
shown-append [] k e = refl
shown-append (p ∷ ps) k e = ap (λ l. (p.0.now, p.1) ∷ l) (shown-append ps k e)

pub drop_at : {A : Type 0} (xs : List A) (i : ℕ) (x : A) → i < length xs → x ≡ get_or xs i x → drop i xs ≡ x ∷ drop (i + 1) xs
drop_at xs i x h e = rw (add-one, drop-cons xs i x h) (ap (λ y. y ∷ drop (suc i) xs) (sym e))

pub none_from : {A : Type 0} (o : Option A) → is_some o ≡ false → o ≡ None
none_from None h = refl
none_from (Some x) h = cc

abbrev pub or_first : Option ℕ → Option ℕ → Option ℕ
or_first None o = o
or_first (Some e) o = Some e

first_with-both : (t : List ℕ) (xs ys : Pairs) → first_with t (xs ++ ys) ≡ or_first (first_with t xs) (first_with t ys)
first_with-both t [] ys = refl
first_with-both t (p ∷ ps) ys =
    ⊎_elim
    (λ e. rw e refl)
    (λ e. rw e (first_with-both t ps ys))
    (cases_Bool (bytes_eq t p.0))

same-after : (xs ys zs : Pairs) → SameFirst xs ys → SameFirst (xs ++ zs) (ys ++ zs)
same-after xs ys zs h t = first_with-both t xs zs ∙ ap (λ o. or_first o (first_with t zs)) (h t) ∙ sym (first_with-both t ys zs)

-- the index of the first of some items
zero_lt : (n : ℕ) → nat_lt 0 (suc n) ≡ true
zero_lt n = grind (arith, nat_tests)

lt_suc : (a n : ℕ) → nat_lt (1 + a) (suc n) ≡ nat_lt a n
lt_suc a n = grind (arith, nat_tests)

one_more : (a : ℕ) → 1 + a ≡ suc a
one_more a = omega (arith)

pub position-cons : {A : Type 0} (p : A → Bool) (x : A) (xs : List A)
    → position p (x ∷ xs) ≡ (if p x then Some 0 else option_map suc (position p xs))
position-cons p x xs = ⊎_elim (λ e. rw e (ap (λ b. cond b (Some 0) None) (zero_lt (length xs))))
    (λ e. rw e (go (position_or_len p xs) (length xs))) (cases_Bool (p x))
  where
    go : (a n : ℕ) → cond (nat_lt (1 + a) (suc n)) (Some (1 + a)) None ≡ option_map suc (cond (nat_lt a n) (Some a) None)
    go a n = ap (λ b. cond b (Some (1 + a)) None) (lt_suc a n)
        ∙ ⊎_elim (λ e. rw e (ap Some (one_more a))) (λ e. rw e refl) (cases_Bool (nat_lt a n))

-- names with their indexes
module _ {A : Type 0} (label : A → Option (List ℕ)) where
  abbrev pub listed : ℕ → List A → Pairs
  listed i [] = []
  listed i (a ∷ items) = one_at i (label a) ++ listed (suc i) items

  -- one more item
  pub next_item : (i : ℕ) (xs : List A) (x : A) (rest : List A) (old new whole : Pairs) → xs ≡ x ∷ rest
      → SameFirst (old ++ listed i xs) whole → SameFirst new (old ++ one_at i (label x))
      → SameFirst (new ++ listed (i + 1) rest) whole
  next_item i xs x rest old new whole e h k t =
      let one = one_at i (label x) in
      let P : List A → Type 0 = λ xs. SameFirst (old ++ listed i xs) whole in
      let h' : SameFirst (old ++ (one ++ listed (suc i) rest)) whole = subst P e h in
      rw (add-one i) (same-after new (old ++ one) (listed (suc i) rest) k t
      ∙ ap (first_with t) (append_assoc old one (listed (suc i) rest)) ∙ h' t)

  -- the first item with a name
  place_from : (t : List ℕ) (i : ℕ) (o : Option (List ℕ)) (more : Pairs)
      → first_with t (one_at i o ++ more) ≡ or_first (if is_label t o then Some i else None) (first_with t more)
  place_from t i None more = refl
  place_from t i (Some n) more = ⊎_elim (λ e. rw e refl) (λ e. rw e refl) (cases_Bool (bytes_eq t n))

  no_more : (i : ℕ) → i ≡ i + 0
  no_more i = omega (arith)

  sum_later : (i j : ℕ) → suc i + j ≡ i + suc j
  sum_later i j = omega (arith)

  later : (i : ℕ) (o : Option ℕ) → option_map (λ j. suc i + j) o ≡ option_map (λ j. i + j) (option_map suc o)
  later i None = refl
  later i (Some j) = ap Some (sum_later i j)

  pub listed-place : (t : List ℕ) (i : ℕ) (xs : List A) → first_with t (listed i xs)
      ≡ option_map (λ j. i + j) (position (λ a. is_label t (label a)) xs)
  listed-place t i [] = refl
  listed-place t i (a ∷ xs) = place_from t i (label a) (listed (suc i) xs)
      ∙ ap (or_first (if is_label t (label a) then Some i else None)) (listed-place t (suc i) xs)
      ∙ go (cases_Bool (is_label t (label a)))
      ∙ ap (option_map (λ j. i + j)) (sym (position-cons (λ x. is_label t (label x)) a xs))
    where
      go : ◌⊎◌ (is_label t (label a) ≡ true) (is_label t (label a) ≡ false)
          → or_first (if is_label t (label a) then Some i else None) (option_map (λ j. suc i + j) (position (λ x. is_label t (label x)) xs))
          ≡ option_map (λ j. i + j) (if is_label t (label a) then Some 0 else option_map suc (position (λ x. is_label t (label x)) xs))
      go (inl e) = rw e (ap Some (no_more i))
      go (inr e) = rw e (later i (position (λ x. is_label t (label x)) xs))

  none_more : (j : ℕ) → 0 + j ≡ j
  none_more j = omega (arith)

  from_none : (o : Option ℕ) → option_map (λ j. 0 + j) o ≡ o
  from_none None = refl
  from_none (Some j) = ap Some (none_more j)

  pub table-done : (items : List A) (table : Pairs) → SameFirst table (listed 0 items) → IsTableOf label items table
  table-done items table h t = h t ∙ listed-place t 0 items ∙ from_none (position (λ a. is_label t (label a)) items)
