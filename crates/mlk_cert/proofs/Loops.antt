-- Loops over lines, each of which must fit after those before it.
use Rattle.std.proofs.Common.{◌≡◌, ◌<◌, ℕ, suc, ◌++◌, List, [], ◌∷◌, length, Some, None, Bool, true, false, refl, sym, ap, ◌∙◌, arith, inl, inr, length-append}
use Rattle.std.specs.Prelude.{Option, ◌⊎◌, ◌&&◌, nat_lt, nat_le, if◌then◌else◌, option_map}
use Rattle.std.proofs.lemmas.Bool.{cases_Bool}
use Rattle.std.proofs.lemmas.Bool.Decides.{nat_tests}
use Rattle.std.proofs.lemmas.Option.{same_Some}
use Rattle.mlk_text.specs.declared.failure.Failure.{Failure}
use Rattle.mlk_text.specs.declared.failure.Failure.TheVariants.{OutOfMemory, Refused}
use Rattle.mlk_text.specs.Failures.{FailsOn}
use Rattle.mlk_text.specs.Reading.{◌>>=◌, put, many}
use Rattle.mlk_text.specs.Lexemes.{byte_at}
use Rattle.mlk_text.proofs.Readers.{then_some, many_stops, many_goes, many_fails}
use Rattle.mlk_cert_parts.specs.declared.case.ExitCase.{ExitCase}
use Rattle.mlk_cert_lexemes.specs.Lists.{last_of, ascends, below}
use Rattle.mlk_cert_parts.specs.Texts.{exit_text}
use Rattle.mlk_cert_parts.specs.Limits.{exits_below}
use Rattle.mlk_cert_parts.specs.Checks.{fit_exits}
use Rattle.mlk_cert.specs.Blocks.{fit, ended, rest_at, after_at, above_last, next_exit_fits}
use Rattle.mlk_cert_lexemes.proofs.Formats.{both_true, both_back, Format, word-is}
use Rattle.mlk_cert.proofs.Grouping.{ascends-front, short-front}
use Rattle.mlk_cert_lexemes.specs.Reading.{word_at}
use Rattle.mlk_cert_lexemes.proofs.Room.{ascends-push, no-longer}

pub put-nil : {A : Type 0} (o : Option (List A × List ℕ)) → put [] o ≡ o
put-nil None = refl
put-nil (Some r) = refl

-- the same for the reading of the line's end
abbrev ended_by : {A : Type 0} → A → Bool → Option (ℕ × List ℕ) → Option (A × List ℕ)
ended_by a p None = None
ended_by a p (Some e) = if p then Some (a, e.1) else None

ended-by : {A : Type 0} (a : A) (p : Bool) (xs : List ℕ) → ended a p xs ≡ ended_by a p (byte_at 10 xs)
ended-by {A} a p xs = go (byte_at 10 xs)
  where
    go : (o : Option (ℕ × List ℕ)) → (◌>>=◌ {B = A × List ℕ} o (λ end. if p then Some (a, end.1) else None)) ≡ ended_by a p o
    go None = refl
    go (Some e) = refl

ended-none : {A : Type 0} (a : A) (p q : Bool) (xs : List ℕ) → ended a (p && q) xs ≡ None → (ended a p xs ≡ None) ⊎ ((ys : List ℕ) × (ended a p xs ≡ Some (a, ys)) × (q ≡ false))
ended-none {A} a p q xs h = rw (ended-by a p xs) (go (byte_at 10 xs) (sym (ended-by a (p && q) xs) ∙ h))
  where
    pass : (p q : Bool) (m : List ℕ) → ◌≡◌ {A = Option (A × List ℕ)} (if p && q then Some (a, m) else None) None
        → (◌≡◌ {A = Option (A × List ℕ)} (if p then Some (a, m) else None) None) ⊎ ((ys : List ℕ) × (◌≡◌ {A = Option (A × List ℕ)} (if p then Some (a, m) else None) (Some (a, ys))) × (q ≡ false))
    pass false q m h = inl refl
    pass true false m h = inr (m, refl, refl)
    pass true true m h = cc h

    go : (o : Option (ℕ × List ℕ)) → ended_by a (p && q) o ≡ None → (ended_by a p o ≡ None) ⊎ ((ys : List ℕ) × (ended_by a p o ≡ Some (a, ys)) × (q ≡ false))
    go None h = inl refl
    go (Some e) h = pass p q e.1 h

ended-some : {A : Type 0} (a b : A) (p q : Bool) (xs ys : List ℕ) → ended a (p && q) xs ≡ Some (b, ys) → (ended a p xs ≡ Some (b, ys)) × (q ≡ true)
ended-some {A} a b p q xs ys h = rw (ended-by a p xs) (go (byte_at 10 xs) (sym (ended-by a (p && q) xs) ∙ h))
  where
    pass : (p q : Bool) (m : List ℕ) → ◌≡◌ {A = Option (A × List ℕ)} (if p && q then Some (a, m) else None) (Some (b, ys))
        → (◌≡◌ {A = Option (A × List ℕ)} (if p then Some (a, m) else None) (Some (b, ys))) × (q ≡ true)
    pass false q m h = cc h
    pass true false m h = cc h
    pass true true m h = (h, refl)

    go : (o : Option (ℕ × List ℕ)) → ended_by a (p && q) o ≡ Some (b, ys) → (ended_by a p o ≡ Some (b, ys)) × (q ≡ true)
    go None h = cc h
    go (Some e) h = pass p q e.1 h

pub ended-value : {A : Type 0} (a b : A) (p : Bool) (xs ys : List ℕ) → ended a p xs ≡ Some (b, ys) → a ≡ b
ended-value {A} a b p xs ys h = go (byte_at 10 xs) (sym (ended-by a p xs) ∙ h)
  where
    pass : (p : Bool) (m : List ℕ) → ◌≡◌ {A = Option (A × List ℕ)} (if p then Some (a, m) else None) (Some (b, ys)) → a ≡ b
    pass false m h = cc h
    pass true m h = ap (λ (z : A × List ℕ). z.0) (same_Some (a, m) (b, ys) h)

    go : (o : Option (ℕ × List ℕ)) → ended_by a p o ≡ Some (b, ys) → a ≡ b
    go None h = cc h
    go (Some e) h = pass p e.1 h

module _ {A : Type 0} (item : List ℕ → Option (A × List ℕ)) (test step : A → Bool) where
  after-none : (xs : List ℕ) → after_at item test step xs ≡ None → (rest_at item test xs ≡ None) ⊎ ((a : A) × (ys : List ℕ) × (rest_at item test xs ≡ Some (a, ys)) × (step a ≡ false))
  unfolding after_at rest_at
  after-none xs h = go (item xs) h
    where
      go : (o : Option (A × List ℕ)) → (o >>= λ r. ended r.0 (test r.0 && step r.0) r.1) ≡ None
          → ((o >>= λ r. ended r.0 (test r.0) r.1) ≡ None) ⊎ ((a : A) × (ys : List ℕ) × ((o >>= λ r. ended r.0 (test r.0) r.1) ≡ Some (a, ys)) × (step a ≡ false))
      go None h = inl refl
      go (Some r) h = elim (ended-none r.0 (test r.0) (step r.0) r.1 h) [ inl e ↦ inl e | inr e ↦ inr (r.0, e.0, e.1, e.2) ]

  pub after-some : (xs : List ℕ) (a : A) (ys : List ℕ) → after_at item test step xs ≡ Some (a, ys) → (rest_at item test xs ≡ Some (a, ys)) × (step a ≡ true)
  unfolding after_at rest_at
  after-some xs a ys h =
      let r = then_some (item xs) _ (a, ys) h in
      let e = ended-some r.0.0 a (test r.0.0) (step r.0.0) r.0.1 ys r.2 in
      let same = ended-value r.0.0 a (test r.0.0) r.0.1 ys e.0 in
      (rw r.1 e.0, ap step (sym same) ∙ e.1)

-- the loop stops: nothing more is there
pub checked_stops : {A B : Type 0} (head : List ℕ → Option (B × List ℕ)) (item : B → List ℕ → Option (A × List ℕ)) (front : List A) (n : ℕ) (xs : List ℕ) (whole : Option (List A × List ℕ))
    → head xs ≡ None → length xs < n → put front (many head item n xs) ≡ put [] whole → whole ≡ Some (front, xs)
checked_stops head item front n xs whole is less h = sym (put-nil whole) ∙ many_stops head item front n xs (put [] whole) is less h

-- it fails at the items, after them, or at the test of all
fails-late : {A : Type 0} (T : List A → Bool) → ((xs ys : List A) → T (xs ++ ys) ≡ true → T xs ≡ true) → (front : List A) (o : Option (List A × List ℕ)) → T front ≡ false → (put front o >>= fit T) ≡ None
fails-late T closed front None bad = refl
fails-late T closed front (Some r) bad = elim (cases_Bool (T (front ++ r.0))) [
  | inl e ↦ cc (closed front r.0 e, bad)
  | inr e ↦ rw e refl
]

pub checked_refused : {A B R : Type 0} (T : List A → Bool) (head : List ℕ → Option (B × List ℕ)) (item : List ℕ → Option (A × List ℕ)) (test step : A → Bool) (front : List A) (n : ℕ) (xs : List ℕ) (whole : Option (List A × List ℕ))
    (b : B) (m : List ℕ) (e : Failure R)
    → ((xs ys : List A) → T (xs ++ ys) ≡ true → T xs ≡ true) → ((a : A) → T (front ++ a ∷ []) ≡ step a)
    → head xs ≡ Some (b, m) → FailsOn e (after_at item test step m) → length xs < n
    → ((a : A) (ys : List ℕ) → rest_at item test m ≡ Some (a, ys) → length ys < length xs)
    → put front (many head (λ _. rest_at item test) n xs) ≡ put [] whole → FailsOn e (whole >>= fit T)
checked_refused T head item test step front n xs whole b m OutOfMemory closed steps is one less shorter h = tt
checked_refused T head item test step front n xs whole b m (Refused r) closed steps is one less shorter h = elim (after-none item test step m one) [
  | inl none ↦
      let gone = sym (put-nil whole) ∙ many_fails head (λ _. rest_at item test) front n xs (put [] whole) b m is none less h in
      rw gone refl
  | inr some ↦
      let next = many_goes head (λ _. rest_at item test) front n xs (put [] whole) b m some.0 some.1 is some.2 (shorter some.0 some.1 some.2) less h in
      let bad = steps some.0 ∙ some.3 in
      let late = fails-late T closed (front ++ some.0 ∷ []) (many head (λ _. rest_at item test) next.0 some.1) bad in
      ap (λ o. o >>= fit T) (sym (put-nil whole) ∙ sym next.2) ∙ late
]

-- exits
pub exits-closed : (xs ys : List ExitCase) → fit_exits (xs ++ ys) ≡ true → fit_exits xs ≡ true
exits-closed xs ys h = let t = both_true (nat_le (length (xs ++ ys)) 16) (ascends exits_below (xs ++ ys)) h in both_back _ _ (short-front 16 xs ys t.0) (ascends-front exits_below xs ys t.1)

-- the end of a list
abbrev Ends : {A : Type 0} → List A → Type 0
Ends {A = A} xs = (xs ≡ []) ⊎ ((front : List A) × (l : A) × (xs ≡ front ++ l ∷ []))

pub ends : {A : Type 0} (xs : List A) → Ends xs
ends [] = inl refl
ends (x ∷ xs) = elim (ends xs) [ inl e ↦ inr ([], x, ap (λ z. x ∷ z) e) | inr e ↦ inr (x ∷ e.0, e.1, ap (λ z. x ∷ z) e.2) ]

pub last-push : {A : Type 0} (xs : List A) (a : A) → last_of (xs ++ a ∷ []) ≡ Some a
last-push [] a = refl
last-push (x ∷ []) a = refl
last-push (x ∷ y ∷ xs) a = last-push (y ∷ xs) a

pub room-same : (most n m : ℕ) → m ≡ suc n → nat_le m most ≡ nat_lt n most
room-same most n m e = grind (arith, nat_tests)

-- one more at the end of texts that ascend
pub ascends-next : {A : Type 0} (text : A → List ℕ) (xs : List A) (a : A) → ascends (λ x y. below (text x) (text y)) xs ≡ true
    → ascends (λ x y. below (text x) (text y)) (xs ++ a ∷ []) ≡ above_last (option_map text (last_of xs)) (text a)
ascends-next {A} text xs a up = elim (ends xs) [
  | inl e ↦ ap (λ z. ascends (λ x y. below (text x) (text y)) (z ++ a ∷ [])) e ∙ ap (λ z. above_last (option_map text (last_of z)) (text a)) (sym e)
  | inr e ↦
      let up' : ascends (λ x y. below (text x) (text y)) (e.0 ++ e.1 ∷ []) ≡ true = ap (ascends (λ x y. below (text x) (text y))) (sym e.2) ∙ up in
      ap (λ z. ascends (λ x y. below (text x) (text y)) (z ++ a ∷ [])) e.2 ∙ ascends-push (λ x y. below (text x) (text y)) e.0 e.1 a ∙ ap (λ b. b && below (text e.1) (text a)) up'
      ∙ ap (λ o. above_last (option_map text o) (text a)) (sym (ap last_of e.2 ∙ last-push e.0 e.1))
]

pub exits-step : (xs : List ExitCase) (a : ExitCase) → fit_exits xs ≡ true → fit_exits (xs ++ a ∷ []) ≡ next_exit_fits (length xs) (option_map exit_text (last_of xs)) a
exits-step xs a h =
    let t = both_true (nat_le (length xs) 16) (ascends exits_below xs) h in
    let long : length (xs ++ a ∷ []) ≡ suc (length xs) = omega (arith, length-append xs (a ∷ [])) in
    ap (λ b. b && ascends exits_below (xs ++ a ∷ [])) (room-same 16 (length xs) (length (xs ++ a ∷ [])) long) ∙ ap (λ b. nat_lt (length xs) 16 && b) (ascends-next exit_text xs a t.1)

-- what a line is read as, from the readings of its parts
pub after-is : {A : Type 0} (item : List ℕ → Option (A × List ℕ)) (test step : A → Bool) (xs rest : List ℕ) (a : A) (both p q : Bool) → item xs ≡ Some (a, rest) → both ≡ (p && q) → p ≡ test a → q ≡ step a
    → after_at item test step xs ≡ ended a both rest
unfolding after_at
after-is item test step xs rest a both p q is b e f = rw is (ap (λ z. ended a z rest) (ap (λ z. z && step a) (sym e) ∙ ap (λ z. p && z) (sym f) ∙ sym b))

pub line-shorter : {A : Type 0} (text : A → List ℕ) (Is : A → Type 0) (Stops : List ℕ → Type 0) (read : List ℕ → Option (A × List ℕ)) → Format text Is Stops read
    → (b : ℕ) (word v xs m : List ℕ) (a : A) (ys : List ℕ) → word_at (b ∷ word) xs ≡ Some (v, m) → read m ≡ Some (a, ys) → length ys < length xs
line-shorter text Is Stops read f b word v xs m a ys is one =
    let w = ap length (word-is (b ∷ word) v xs m is).0 in
    let l = length-append word m in
    let r = no-longer (text a) m ys (f.sound a m ys one).0 in omega arith
