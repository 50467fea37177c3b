-- Lines and their readers.
use Rattle.std.proofs.Common.{◌≡◌, ◌<◌, ℕ, zero, suc, ◌++◌, List, [], ◌∷◌, length, Some, None, Bool, true, false, refl, sym, ap, ◌∙◌, arith, subst, inl, inr, append_assoc, length-append, lit<}
use Rattle.std.specs.Prelude.{Option}
use Rattle.std.proofs.lemmas.Bool.{cases_Bool}
use Rattle.std.proofs.lemmas.Option.{same_Some}
use Rattle.mlk_text.specs.Reading.{many, many_by}
use Rattle.mlk_text.specs.Lexemes.{byte_at, digits}
use Rattle.mlk_text.proofs.Readers.{then_some, pair_parts, with_some}
use Rattle.mlk_cert_lexemes.specs.Lists.{Each, flat}
use Rattle.mlk_cert_parts.specs.Texts.{low_text, drops_text}
use Rattle.mlk_cert_parts.specs.Limits.{IsLow}
use Rattle.mlk_cert_lexemes.specs.Reading.{word_at, number_at}
use Rattle.mlk_cert.specs.Blocks.{fit, rest_at, worded_at, low_by, low_at, drops_by, drops_at}
use Rattle.mlk_cert_lexemes.proofs.Formats.{Format, Anything, byte-is, word-is, word-back}
use Rattle.mlk_cert_lexemes.proofs.NumberFormats.{number-format, decimal-no-dash}

pub fit-is : {A : Type 0} (test : A → Bool) (r s : A × List ℕ) → fit test r ≡ Some s → (r ≡ s) × (test s.0 ≡ true)
fit-is {A} test r s h = elim (cases_Bool (test r.0)) [
  | inl e ↦
      let k : ◌≡◌ {A = Option (A × List ℕ)} (Some r) (Some s) = rw e at h in
      let p = same_Some r s k in
      (p, subst (λ (z : A × List ℕ). test z.0 ≡ true) p e)
  | inr e ↦ cc (rw e at h)
]

pub fit-back : {A : Type 0} (test : A → Bool) (r : A × List ℕ) → test r.0 ≡ true → fit test r ≡ Some r
fit-back test r e = rw e refl

module _ {A : Type 0} (text : A → List ℕ) (Is : A → Type 0) (Stops : List ℕ → Type 0) (read : List ℕ → Option (A × List ℕ)) (f : Format text Is Stops read) where
  -- the rest of a line
  rest-is : (test : A → Bool) (a : A) (xs ys : List ℕ) → rest_at read test xs ≡ Some (a, ys) → (xs ≡ (text a ++ 10 ∷ []) ++ ys) × Is a × (test a ≡ true)
  unfolding rest_at
  rest-is test a xs ys h =
      let r = then_some (read xs) _ (a, ys) h in
      let e = then_some (byte_at 10 r.0.1) _ (a, ys) r.2 in
      let t = fit-is test (r.0.0, e.0.1) (a, ys) e.2 in
      let one = f.sound r.0.0 xs r.0.1 r.1 in
      let P : A → Type 0 = λ z. (xs ≡ (text z ++ 10 ∷ []) ++ ys) × Is z in
      let same : r.0.0 ≡ a = ap (λ z. z.0) t.0 in
      let left : e.0.1 ≡ ys = ap (λ z. z.1) t.0 in
      let p = subst P same (
        one.0 ∙ ap (λ l. text r.0.0 ++ l) ((byte-is 10 e.0.0 r.0.1 e.0.1 e.1).0 ∙ ap (λ l. 10 ∷ l) left) ∙ sym (append_assoc (text r.0.0) (10 ∷ []) ys),
        one.1,
      ) in
      (p.0, p.1, t.1)

  rest-back : (test : A → Bool) → ((n : List ℕ) → Stops (10 ∷ n)) → (a : A) (ys : List ℕ) → Is a → test a ≡ true → rest_at read test ((text a ++ 10 ∷ []) ++ ys) ≡ Some (a, ys)
  unfolding rest_at
  rest-back test stops a ys is good =
      rw (append_assoc (text a) (10 ∷ []) ys) (rw (f.complete a (10 ∷ ys) is (stops ys)) (rw good refl))

  pub rest-format : (test : A → Bool) → ((n : List ℕ) → Stops (10 ∷ n)) → Format (λ a. text a ++ 10 ∷ []) (λ a. Is a × (test a ≡ true)) Anything (rest_at read test)
  rest-format test stops = record {
    sound = λ a xs ys h. let r = rest-is test a xs ys h in (r.0, (r.1, r.2));
    complete = λ a ys is any. rest-back test stops a ys is.0 is.1;
  }

  -- items after words
  many-is : (word : List ℕ) (k : ℕ) (items : List A) (xs ys : List ℕ) → many (word_at word) (λ w. read) k xs ≡ Some (items, ys) → (xs ≡ flat (λ a. word ++ text a) items ++ ys) × Each Is items
  unfolding many
  many-is word zero items xs ys h = cc h
  many-is word (suc k) items xs ys h = go (many-is word k) (word_at word xs) refl h
    where
      go : ((bs : List A) (us vs : List ℕ) → many (word_at word) (λ w. read) k us ≡ Some (bs, vs) → (us ≡ flat (λ a. word ++ text a) bs ++ vs) × Each Is bs)
          → (o : Option (List ℕ × List ℕ)) → word_at word xs ≡ o → many_by (λ w. read) (many (word_at word) (λ w. read) k) xs o ≡ Some (items, ys) → (xs ≡ flat (λ a. word ++ text a) items ++ ys) × Each Is items
      go others None is h =
          let p = pair_parts [] items xs ys h in
          let P : List A → Type 0 = λ l. (xs ≡ flat (λ a. word ++ text a) l ++ ys) × Each Is l in
          subst P p.0 (p.1, tt)
      go others (Some b) is h =
          let a = then_some (read b.1) _ (items, ys) h in
          let r = with_some _ (many (word_at word) (λ w. read) k a.0.1) items ys a.2 in
          let one = f.sound a.0.0 b.1 a.0.1 a.1 in
          let rest = others r.0 a.0.1 ys r.1 in
          let assoc : (word ++ text a.0.0 ++ flat (λ a. word ++ text a) r.0) ++ ys ≡ word ++ (text a.0.0 ++ (flat (λ a. word ++ text a) r.0 ++ ys)) = simp append_assoc in
          let P : List A → Type 0 = λ l. (xs ≡ flat (λ a. word ++ text a) l ++ ys) × Each Is l in
          subst P (sym r.2) ((word-is word b.0 xs b.1 is).0 ∙ ap (λ l. word ++ l) (one.0 ∙ ap (λ l. text a.0.0 ++ l) rest.0) ∙ sym assoc, (one.1, rest.1))

  pub worded-is : (word : List ℕ) (items : List A) (xs ys : List ℕ) → worded_at word read xs ≡ Some (items, ys) → (xs ≡ flat (λ a. word ++ text a) items ++ ys) × Each Is items
  unfolding worded_at
  worded-is word items xs ys h = many-is word (suc (length xs)) items xs ys h

  items-stop : (word : List ℕ) → ((n : List ℕ) → Stops (word ++ n)) → (items : List A) (ys : List ℕ) → Stops ys → Stops (flat (λ a. word ++ text a) items ++ ys)
  items-stop word s [] ys e = e
  items-stop word s (a ∷ items) ys e =
      let assoc : (word ++ text a ++ flat (λ a. word ++ text a) items) ++ ys ≡ word ++ (text a ++ (flat (λ a. word ++ text a) items ++ ys)) = simp append_assoc in
      subst Stops (sym assoc) (s _)

  many-back : (word : List ℕ) → 0 < length word → ((n : List ℕ) → Stops (word ++ n)) → (k : ℕ) (items : List A) (ys : List ℕ) → Each Is items → Stops ys → word_at word ys ≡ None → length (flat (λ a. word ++ text a) items ++ ys) < k
      → many (word_at word) (λ w. read) k (flat (λ a. word ++ text a) items ++ ys) ≡ Some (items, ys)
  unfolding many
  many-back word some s zero items ys is e none less = absurd (omega arith)
  many-back word some s (suc k) [] ys is e none less = rw none refl
  many-back word some s (suc k) (a ∷ items) ys (is, others) e none less =
      let rest : List ℕ = flat (λ a. word ++ text a) items ++ ys in
      let assoc : (word ++ text a ++ flat (λ a. word ++ text a) items) ++ ys ≡ word ++ (text a ++ (flat (λ a. word ++ text a) items ++ ys)) = simp append_assoc in
      let long = length-append word (text a ++ (flat (λ a. word ++ text a) items ++ ys)) in
      let longer = length-append (text a) (flat (λ a. word ++ text a) items ++ ys) in
      let whole = ap length assoc in
      let shorter : length (flat (λ a. word ++ text a) items ++ ys) < k = omega arith in
      let head : word_at word ((word ++ text a ++ flat (λ a. word ++ text a) items) ++ ys) ≡ Some (word, text a ++ (flat (λ a. word ++ text a) items ++ ys)) = ap (word_at word) assoc ∙ word-back word _ in
      rw head (rw (f.complete a (flat (λ a. word ++ text a) items ++ ys) is (items-stop word s items ys e))
      (rw (many-back word some s k items ys others e none shorter) refl))

  pub worded-back : (word : List ℕ) → 0 < length word → ((n : List ℕ) → Stops (word ++ n)) → (items : List A) (ys : List ℕ) → Each Is items → Stops ys → word_at word ys ≡ None
      → worded_at word read (flat (λ a. word ++ text a) items ++ ys) ≡ Some (items, ys)
  unfolding worded_at
  worded-back word some s items ys is e none = many-back word some s (suc (length (flat (λ a. word ++ text a) items ++ ys))) items ys is e none (omega arith)

-- the least rank
low-is : (l : Option ℕ) (xs ys : List ℕ) → low_at xs ≡ Some (l, ys) → (xs ≡ low_text l ++ ys) × IsLow l
unfolding low_at
low-is l xs ys h = go (byte_at 45 xs) refl h
  where
    go : (o : Option (ℕ × List ℕ)) → byte_at 45 xs ≡ o → low_by xs o ≡ Some (l, ys) → (xs ≡ low_text l ++ ys) × IsLow l
    go (Some d) is k =
        let p = pair_parts None l d.1 ys k in
        let P : Option ℕ → Type 0 = λ z. (xs ≡ low_text z ++ ys) × IsLow z in
        subst P p.0 ((byte-is 45 d.0 xs d.1 is).0 ∙ ap (λ z. 45 ∷ z) p.1, tt)
    go None is k =
        let n = with_some Some (number_at 999999 xs) l ys k in
        let P : Option ℕ → Type 0 = λ z. (xs ≡ low_text z ++ ys) × IsLow z in
        subst P (sym n.2) ((number-format 999999 (lit< tt)).sound n.0 xs ys n.1)

-- no digit follows, and no dash
abbrev pub EndsLow : List ℕ → Type 0
EndsLow ys = (digits ys ≡ 0) × (byte_at 45 ys ≡ None)

low-back : (l : Option ℕ) (ys : List ℕ) → IsLow l → EndsLow ys → low_at (low_text l ++ ys) ≡ Some (l, ys)
unfolding low_at
low-back None ys is e = refl
low-back (Some r) ys is e =
    let bound : 999999 < 18446744073709551616 = lit< tt in
    rw (decimal-no-dash r ys (omega arith) e.1) (rw ((number-format 999999 (lit< tt)).complete r ys is e.0) refl)

pub low-format : Format low_text IsLow EndsLow low_at
low-format = record { sound = low-is; complete = low-back }

-- both values are allowed
abbrev pub IsDrops : Bool → Type 0
IsDrops d = Unit {0}

drops-is : (d : Bool) (xs ys : List ℕ) → drops_at xs ≡ Some (d, ys) → (xs ≡ drops_text d ++ ys) × IsDrops d
unfolding drops_at
drops-is d xs ys h = (go (byte_at 48 xs) refl h, tt)
  where
    go : (o : Option (ℕ × List ℕ)) → byte_at 48 xs ≡ o → drops_by xs o ≡ Some (d, ys) → xs ≡ drops_text d ++ ys
    go (Some b) is k =
        let p = pair_parts false d b.1 ys k in
        let P : Bool → Type 0 = λ z. xs ≡ drops_text z ++ ys in
        subst P p.0 ((byte-is 48 b.0 xs b.1 is).0 ∙ ap (λ z. 48 ∷ z) p.1)
    go None is k =
        let n = with_some (λ _. true) (byte_at 49 xs) d ys k in
        let P : Bool → Type 0 = λ z. xs ≡ drops_text z ++ ys in
        subst P (sym n.2) (byte-is 49 n.0 xs ys n.1).0

drops-back : (d : Bool) (ys : List ℕ) → IsDrops d → Anything ys → drops_at (drops_text d ++ ys) ≡ Some (d, ys)
unfolding drops_at
drops-back false ys is any = refl
drops-back true ys is any = refl

pub drops-format : Format drops_text IsDrops Anything drops_at
drops-format = record { sound = drops-is; complete = drops-back }
