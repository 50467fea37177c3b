-- Texts of cases in their order, their numbers, and the written text.
use Rattle.std.proofs.Common.{◌≡◌, ◌<◌, ◌≤◌, ◌+◌, ℕ, zero, suc, ◌++◌, List, [], ◌∷◌, length, drop, get_or, Some, None, Bool, true, false, refl, sym, ap, ◌∙◌, arith, inl, inr, append_assoc, nat_eq, Global}
use Rattle.std.specs.Prelude.{Option, ◌==◌, not, nat_lt, cond, bytes_eq, Vec, slice_get, position, Result, Ok, Err, OnOk, IfErr, codes, IsSorted}
use Rattle.std.specs.Fmt.{decimal}
use Rattle.std.specs.List.{list_any, prefix_len, IsDistinct}
use Rattle.std.specs.Cmp.Lexicographic.{pointwise, slice_cmp}
use Rattle.std.specs.Ordering.{nat_cmp, is_lt}
use Rattle.std.specs.Io.KnownBytes.{Appends}
use Rattle.std.proofs.lemmas.Bool.{cases_Bool, not-false}
use Rattle.std.proofs.lemmas.Bool.Decides.{nat_tests}
use Rattle.std.proofs.lemmas.Option.{same_Some}
use Rattle.std.proofs.lemmas.Slice.Eq.{bytes_eq-Decides}
use Rattle.mlk_text.specs.declared.failure.Failure.{Failure}
use Rattle.mlk_text.specs.declared.failure.Failure.TheVariants.{OutOfMemory, Refused}
use Rattle.mlk_cert_parts.specs.declared.block.EntryCert.{EntryCert}
use Rattle.mlk_cert_lexemes.specs.Lists.{Each, ascends, upto, below}
use Rattle.mlk_cert_lexemes.specs.Texts.{line}
use Rattle.mlk_cert_parts.specs.Checks.{has_text}
use Rattle.mlk_cert_parts.specs.Limits.{longest}
use Rattle.mlk_cert.specs.Named.{texts_in, Has}
use Rattle.mlk_cert.specs.Second.{IsOneOf, cases_of_blocks, AreCases, number_of_text, numbered, numbered_text}
use Rattle.mlk_cert.specs.declared.format.CertFormat.{CertFormat}
use Rattle.mlk_cert.specs.declared.format.CertFormat.TheVariants.{Second}
use Rattle.mlk_cert.specs.declared.write.WriteFault.{WriteFault}
use Rattle.mlk_cert.specs.declared.write.WriteFault.TheVariants.{TooLong, Io}
use Rattle.mlk_cert.specs.Theorem.{IsTextIn}
use Rattle.mlk_cert.specs.Writing.{IsWritten, IsTooLong, IsUnwritten, IsTextUnwritten}
use Rattle.mlk_cert_lexemes.proofs.Formats.{both_back}
use Rattle.mlk_cert_lexemes.proofs.TextOrder.{upto-both}
use Rattle.mlk_cert.proofs.BlockLoops.{seen-text, bytes-turned}
use Rattle.mlk_cert.proofs.BothFormats.{among-has, has-among, text-room}

-- the number of a text, from its index
prefix-number : (ks : List (Vec ℕ Global)) (text : List ℕ) → suc (prefix_len (λ k. not (pointwise nat_eq text k.items)) ks) ≡ number_of_text (texts_in ks) text
prefix-number [] text = refl
prefix-number (k ∷ ks) text =
    let h = prefix-number ks text in
    let t = bytes-turned k.items text in
    elim (cases_Bool (bytes_eq k.items text)) [
      | inl e ↦ let f : bytes_eq text k.items ≡ true = sym t ∙ e in rw (e, f) refl
      | inr e ↦ let f : bytes_eq text k.items ≡ false = sym t ∙ e in rw (e, f) (omega arith)
    ]

prefix-within : {A : Type 0} (p : A → Bool) (xs : List A) → prefix_len p xs ≤ length xs
prefix-within p [] = omega arith
prefix-within p (x ∷ xs) = let h = prefix-within p xs in elim (cases_Bool (p x)) [ inl e ↦ rw e (omega arith) | inr e ↦ rw e (omega arith) ]

at-some : (a b i : ℕ) → ◌≡◌ {A = Option ℕ} (Some i) (cond (nat_lt a b) (Some a) None) → i ≡ a
at-some a b i h = elim (cases_Bool (nat_lt a b)) [ inl e ↦ same_Some i a (rw e at h) | inr e ↦ cc (rw e at h) ]

at-none : (a b : ℕ) → ◌≡◌ {A = Option ℕ} None (cond (nat_lt a b) (Some a) None) → a ≤ b → a ≡ b
at-none a b h within = elim (cases_Bool (nat_lt a b)) [ inl e ↦ cc (rw e at h) | inr e ↦ grind (arith, nat_tests) ]

pub number-at : (ks : List (Vec ℕ Global)) (text : List ℕ) (i n : ℕ) → Some i ≡ position (λ k. pointwise nat_eq text k.items) ks → n ≡ i + 1 → n ≡ number_of_text (texts_in ks) text
number-at ks text i n is made =
    let a = at-some (prefix_len (λ k. not (pointwise nat_eq text k.items)) ks) (length ks) i is in
    let b = prefix-number ks text in
    omega arith

pub number-none : (ks : List (Vec ℕ Global)) (text : List ℕ) (l n : ℕ) → None ≡ position (λ k. pointwise nat_eq text k.items) ks → l ≡ length ks → n ≡ l + 1 → n ≡ number_of_text (texts_in ks) text
number-none ks text l n is long made =
    let a = at-none (prefix_len (λ k. not (pointwise nat_eq text k.items)) ks) (length ks) is (prefix-within (λ k. not (pointwise nat_eq text k.items)) ks) in
    let b = prefix-number ks text in
    omega arith

-- the lines of cases, one by one
drop-got : {A : Type 0} (ks : List A) (i : ℕ) (k : A) → Some k ≡ slice_get ks i → drop i ks ≡ k ∷ drop (i + 1) ks
drop-got [] i k h = cc h
drop-got (x ∷ ks) zero k h = ap (λ z. z ∷ ks) (sym (same_Some k x h))
drop-got (x ∷ ks) (suc i) k h = let e : suc i + 1 ≡ suc (i + 1) = omega arith in drop-got ks i k h ∙ ap (λ n. k ∷ drop n (x ∷ ks)) (sym e)

pub got-within : {A : Type 0} (ks : List A) (i : ℕ) (k : A) → Some k ≡ slice_get ks i → i + 1 ≤ length ks
got-within [] i k h = cc h
got-within (x ∷ ks) zero k h = omega arith
got-within (x ∷ ks) (suc i) k h = let l = got-within ks i k h in omega arith

pub cases-step : (text new whole : List ℕ) (ks : List (Vec ℕ Global)) (place : ℕ) (k : Vec ℕ Global) → Some k ≡ slice_get ks place → new ≡ text ++ line (codes "case ") (decimal (place + 1) ++ 32 ∷ k.items)
    → text ++ numbered (suc place) (texts_in (drop place ks)) ≡ whole → new ++ numbered (suc (place + 1)) (texts_in (drop (place + 1) ks)) ≡ whole
cases-step text new whole ks place k got made h =
    let e : place + 1 ≡ suc place = omega arith in
    let d = drop-got ks place k got in
    let rest : List ℕ = numbered (suc (place + 1)) (texts_in (drop (place + 1) ks)) in
    let one : List ℕ = line (codes "case ") (decimal (place + 1) ++ 32 ∷ k.items) in
    let now : one ++ rest ≡ numbered (suc place) (texts_in (drop place ks)) =
    ap (λ n. line (codes "case ") (decimal n ++ 32 ∷ k.items) ++ numbered (suc n) (texts_in (drop (place + 1) ks))) e ∙ ap (λ z. numbered (suc place) (texts_in z)) (sym d) in
    ap (λ z. z ++ rest) made ∙ append_assoc text one rest ∙ ap (λ z. text ++ z) now ∙ h

-- texts in order
lt-step : (x y : ℕ) → nat_lt x y ≡ true → ((y == x) ≡ false) × (nat_lt y x ≡ false)
lt-step x y h = (first x y h, second x y h)
  where
    first : (x y : ℕ) → nat_lt x y ≡ true → (y == x) ≡ false
    first x y h = grind (arith, nat_tests)

    second : (x y : ℕ) → nat_lt x y ≡ true → nat_lt y x ≡ false
    second x y h = grind (arith, nat_tests)

gt-step : (x y : ℕ) → nat_lt x y ≡ false → (x == y) ≡ false → ((y == x) ≡ false) × (nat_lt y x ≡ true)
gt-step x y h k = (first x y h k, second x y h k)
  where
    first : (x y : ℕ) → nat_lt x y ≡ false → (x == y) ≡ false → (y == x) ≡ false
    first x y h k = grind (arith, nat_tests)

    second : (x y : ℕ) → nat_lt x y ≡ false → (x == y) ≡ false → nat_lt y x ≡ true
    second x y h k = grind (arith, nat_tests)

same-step : (x y : ℕ) → (x == y) ≡ true → (y == x) ≡ true
same-step x y h = grind (arith, nat_tests)

lt-is : (xs ys : List ℕ) → is_lt (slice_cmp nat_cmp xs ys) ≡ below xs ys
lt-is [] [] = refl
lt-is [] (y ∷ ys) = refl
lt-is (x ∷ xs) [] = refl
lt-is (x ∷ xs) (y ∷ ys) = elim (cases_Bool (nat_lt x y)) [
  | inl e ↦ let s = lt-step x y e in rw (e, s.0, s.1) refl
  | inr e ↦ elim (cases_Bool (x == y)) [
    | inl f ↦ let s = same-step x y f in rw (e, f, s) (lt-is xs ys)
    | inr f ↦ let s = gt-step x y e f in rw (e, f, s.0, s.1) refl
  ]
]

below-other : (a b : List ℕ) → below b a ≡ false → bytes_eq a b ≡ false → below a b ≡ true
below-other a b h k = go (below a b) refl
  where
    go : (t : Bool) → below a b ≡ t → t ≡ true
    go true e = refl
    go false e =
        let same = upto-both a b (not-false _ h) (not-false _ e) in
        let f : bytes_eq a b ≡ true = (bytes_eq-Decides a b).1 same in cc (sym f ∙ k)

pub sorted-up : (ks : List (Vec ℕ Global)) → IsSorted (λ a b. slice_cmp nat_cmp a.items b.items) ks → IsDistinct (λ a b. pointwise nat_eq a.items b.items) ks → ascends below (texts_in ks) ≡ true
unfolding IsDistinct
sorted-up [] sorted apart = refl
sorted-up (k ∷ []) sorted apart = refl
sorted-up (k ∷ m ∷ ks) sorted apart =
    let low = sorted 0 k (omega arith) (omega arith) in
    both_back _ _ (below-other k.items m.items (sym (lt-is m.items k.items) ∙ low) apart.0.0) (sorted-up (m ∷ ks) rest apart.1)
  where
    rest : IsSorted (λ a b. slice_cmp nat_cmp a.items b.items) (m ∷ ks)
    rest j d from to =
        let e : suc j + 1 ≡ suc (j + 1) = omega arith in
        ap (λ n. is_lt (slice_cmp nat_cmp (get_or (k ∷ m ∷ ks) n d).items (get_or (k ∷ m ∷ ks) (suc j) d).items)) (sym e) ∙ sorted (suc j) d (omega arith) (omega arith)

-- a set's texts, in another order
key-of : (ks : List (Vec ℕ Global)) (t : List ℕ) → IsOneOf (texts_in ks) t → (q : Vec ℕ Global) × (q.items ≡ t)
key-of [] t a = absurd a
key-of (k ∷ ks) t (inl e) = (k, e)
key-of (k ∷ ks) t (inr e) = key-of ks t e

each-of : (P : List ℕ → Type 0) (texts : List (List ℕ)) → ((t : List ℕ) → IsOneOf texts t → P t) → Each P texts
each-of P [] all = tt
each-of P (t ∷ texts) all = (all t (inl refl), each-of P texts (λ u a. all u (inr a)))

module _ (ks ns : List (Vec ℕ Global)) (same : (q : Vec ℕ Global) → list_any (λ k. pointwise nat_eq q.items k.items) ns ≡ list_any (λ k. pointwise nat_eq q.items k.items) ks) where
  has-same : (q : Vec ℕ Global) → has_text (texts_in ns) q.items ≡ has_text (texts_in ks) q.items
  has-same q = sym (seen-text ns q) ∙ same q ∙ seen-text ks q

  there : (t : List ℕ) → IsOneOf (texts_in ks) t → IsOneOf (texts_in ns) t
  there t a = let q = key-of ks t a in among-has (texts_in ns) t (ap (has_text (texts_in ns)) (sym q.1) ∙ has-same q.0 ∙ ap (has_text (texts_in ks)) q.1 ∙ has-among (texts_in ks) t a)

  back : (t : List ℕ) → IsOneOf (texts_in ns) t → IsOneOf (texts_in ks) t
  back t a = let q = key-of ns t a in among-has (texts_in ks) t (ap (has_text (texts_in ks)) (sym q.1) ∙ sym (has-same q.0) ∙ ap (has_text (texts_in ns)) q.1 ∙ has-among (texts_in ns) t a)

  pub cases-made : (bs : List EntryCert) → Has (texts_in ks) (cases_of_blocks bs) → IsSorted (λ a b. slice_cmp nat_cmp a.items b.items) ns → IsDistinct (λ a b. pointwise nat_eq a.items b.items) ns → AreCases bs (texts_in ns)
  cases-made bs has sorted apart = record {
    order = sorted-up ns sorted apart;
    all = each-of (IsOneOf (texts_in ns)) (cases_of_blocks bs) (λ t a. there t (among-has (texts_in ks) t (has t ∙ has-among (cases_of_blocks bs) t a)));
    named = each-of (IsOneOf (cases_of_blocks bs)) (texts_in ns) (λ t a. among-has (cases_of_blocks bs) t (sym (has t) ∙ has-among (texts_in ks) t (back t a)));
  }

-- the written text
pub written : {A E : Type 0} (r : Result A E) (format : CertFormat) (blocks : List EntryCert) (old new : Option (List ℕ)) (text : List ℕ) → IsTextIn format blocks text → OnOk r (Appends old new text) → OnOk r (length text ≤ longest) → OnOk r (IsWritten format blocks old new)
written (Ok a) format blocks old new text is added short = record { text = text; is = is; short = short; added = added }
written (Err e) format blocks old new text is added short = tt

pub unwritten : {A W : Type 0} (r : Result A (Failure WriteFault)) (format : CertFormat) (blocks : List EntryCert) (old new : W) (text : List ℕ) → IsTextIn format blocks text → IfErr r (IsTextUnwritten text old new) → IfErr r (IsUnwritten format blocks old new)
unwritten (Ok a) format blocks old new text is h = tt
unwritten (Err OutOfMemory) format blocks old new text is h = h
unwritten (Err (Refused (TooLong fault))) format blocks old new text is h = ((text, is, h.0), h.1)
unwritten (Err (Refused (Io e))) format blocks old new text is h = (text, is, h)

pub many-cases : (bs : List EntryCert) (texts : List (List ℕ)) (n : ℕ) → AreCases bs texts → n ≡ length texts → longest < n → IsTooLong Second bs
many-cases bs texts n are count long = let room = text-room texts bs in (numbered_text texts bs, (texts, are, refl), omega arith)

pub length-texts : (ks : List (Vec ℕ Global)) → length (texts_in ks) ≡ length ks
length-texts [] = refl
length-texts (k ∷ ks) = ap (λ n. suc n) (length-texts ks)
