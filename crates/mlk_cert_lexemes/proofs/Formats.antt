-- Texts and their readers: what is read is the text, and a text is read if what follows does not continue it.
use Rattle.std.proofs.Common.{◌≡◌, ◌<◌, ℕ, zero, suc, ◌++◌, List, ◌∷◌, length, Some, None, true, refl, sym, ap, ◌∙◌, arith, subst, inl, inr, append_assoc, length-append, []}
use Rattle.std.specs.Prelude.{Option, Bool, false, ◌==◌, ◌&&◌, option_map}
use Rattle.std.proofs.lemmas.Bool.{cases_Bool, eqb-true, eq-eqb}
use Rattle.mlk_text.specs.Reading.{many, many_by}
use Rattle.mlk_text.specs.Lexemes.{byte_at}
use Rattle.mlk_text.proofs.Readers.{then_some, pair_parts, with_some}
use Rattle.mlk_cert_lexemes.specs.Lists.{Each, flat, more}
use Rattle.mlk_cert_lexemes.specs.Texts.{listed}
use Rattle.mlk_cert_lexemes.specs.Reading.{strip, word_at, keep, next, list_at, listed_by, listed_at, part_at}

pub both_true : (a b : Bool) → (a && b) ≡ true → (a ≡ true) × (b ≡ true)
both_true true b h = (refl, h)
both_true false b h = cc h

pub both_back : (a b : Bool) → a ≡ true → b ≡ true → (a && b) ≡ true
both_back a b e f = rw e f

pub record Format {A : Type 0} (text : A → List ℕ) (Is : A → Type 0) (Stops : List ℕ → Type 0) (read : List ℕ → Option (A × List ℕ)) : Type 0 where
  pub sound : (a : A) (xs ys : List ℕ) → read xs ≡ Some (a, ys) → (xs ≡ text a ++ ys) × Is a
  pub complete : (a : A) (ys : List ℕ) → Is a → Stops ys → read (text a ++ ys) ≡ Some (a, ys)

-- whatever follows
abbrev pub Anything : List ℕ → Type 0
Anything ys = Unit {0}

pub byte-is : (b c : ℕ) (xs ys : List ℕ) → byte_at b xs ≡ Some (c, ys) → (xs ≡ b ∷ ys) × (c ≡ b)
byte-is b c [] ys h = cc h
byte-is b c (x ∷ xs) ys h = elim (cases_Bool (x == b)) [
  | inl e ↦ let p = pair_parts x c xs ys (rw e at h) in (rw (eqb-true x b e) (ap (λ l. b ∷ l) p.1), sym p.0 ∙ eqb-true x b e)
  | inr e ↦ cc (rw e at h)
]

pub same-eqb : (n : ℕ) → (n == n) ≡ true
same-eqb n = eq-eqb n n refl

pub byte-back : (b : ℕ) (ys : List ℕ) → byte_at b (b ∷ ys) ≡ Some (b, ys)
byte-back b ys = rw (same-eqb b) refl

strip-is : (w xs ys : List ℕ) → strip w xs ≡ Some ys → xs ≡ w ++ ys
strip-is [] xs ys h = cc h
strip-is (w ∷ ws) [] ys h = cc h
strip-is (w ∷ ws) (x ∷ xs) ys h = elim (cases_Bool (x == w)) [
  | inl e ↦ rw (eqb-true x w e) (ap (λ l. w ∷ l) (strip-is ws xs ys (rw e at h)))
  | inr e ↦ cc (rw e at h)
]

pub word-is : (w v xs ys : List ℕ) → word_at w xs ≡ Some (v, ys) → (xs ≡ w ++ ys) × (v ≡ w)
unfolding word_at
word-is w v xs ys h = go (strip w xs) refl h
  where
    go : (o : Option (List ℕ)) → strip w xs ≡ o → option_map {U = List ℕ × List ℕ} (λ rest. (w, rest)) o ≡ Some (v, ys) → (xs ≡ w ++ ys) × (v ≡ w)
    go None is h = cc h
    go (Some r) is h = let p = pair_parts w v r ys h in (strip-is w xs ys (is ∙ ap (λ l. Some l) p.1), sym p.0)

strip-back : (w ys : List ℕ) → strip w (w ++ ys) ≡ Some ys
strip-back [] ys = refl
strip-back (b ∷ w) ys = rw (same-eqb b) (strip-back w ys)

pub word-back : (w ys : List ℕ) → word_at w (w ++ ys) ≡ Some (w, ys)
unfolding word_at
word-back w ys = rw (strip-back w ys) refl

module _ {A : Type 0} (text : A → List ℕ) (Is : A → Type 0) (Stops : List ℕ → Type 0) (read : List ℕ → Option (A × List ℕ)) (f : Format text Is Stops read) where
  -- items after separators
  pub more-is : (between k : ℕ) (items : List A) (xs ys : List ℕ) → many (byte_at between) (next read) k xs ≡ Some (items, ys) → (xs ≡ more between text items ++ ys) × Each Is items
  unfolding many
  more-is between zero items xs ys h = cc h
  more-is between (suc k) items xs ys h = go (more-is between k) (byte_at between xs) refl h
    where
      go : ((bs : List A) (us vs : List ℕ) → many (byte_at between) (next read) k us ≡ Some (bs, vs) → (us ≡ more between text bs ++ vs) × Each Is bs)
          → (o : Option (ℕ × List ℕ)) → byte_at between xs ≡ o → many_by (next read) (many (byte_at between) (next read) k) xs o ≡ Some (items, ys) → (xs ≡ more between text items ++ ys) × Each Is items
      go others None is h =
          let p = pair_parts [] items xs ys h in
          let P : List A → Type 0 = λ l. (xs ≡ more between text l ++ ys) × Each Is l in
          subst P p.0 (p.1, tt)
      go others (Some b) is h =
          let a = then_some (read b.1) _ (items, ys) h in
          let r = with_some _ (many (byte_at between) (next read) k a.0.1) items ys a.2 in
          let one = f.sound a.0.0 b.1 a.0.1 a.1 in
          let rest = others r.0 a.0.1 ys r.1 in
          let P : List A → Type 0 = λ l. (xs ≡ more between text l ++ ys) × Each Is l in
          subst P (sym r.2) (
            (byte-is between b.0 xs b.1 is).0 ∙ ap (λ l. between ∷ l) (one.0 ∙ ap (λ l. text a.0.0 ++ l) rest.0 ∙ sym (append_assoc (text a.0.0) (more between text r.0) ys)),
            (one.1, rest.1),
          )

  pub more-stops : (between : ℕ) → ((n : List ℕ) → Stops (between ∷ n)) → (items : List A) (ys : List ℕ) → Stops ys → Stops (more between text items ++ ys)
  more-stops between s [] ys e = e
  more-stops between s (a ∷ items) ys e = s _

  pub more-back : (between : ℕ) → ((n : List ℕ) → Stops (between ∷ n)) → (k : ℕ) (items : List A) (ys : List ℕ) → Each Is items → Stops ys → byte_at between ys ≡ None → length (more between text items ++ ys) < k
      → many (byte_at between) (next read) k (more between text items ++ ys) ≡ Some (items, ys)
  unfolding many
  more-back between s zero items ys is e none less = absurd (omega arith)
  more-back between s (suc k) [] ys is e none less = rw none refl
  more-back between s (suc k) (a ∷ items) ys (is, others) e none less =
      let assoc = append_assoc (text a) (more between text items) ys in
      let long = length-append (text a) (more between text items ++ ys) in
      let shorter : length (more between text items ++ ys) < k = omega (arith, ap length assoc) in
      let one : read ((text a ++ more between text items) ++ ys) ≡ Some (a, more between text items ++ ys) = ap read assoc ∙ f.complete a (more between text items ++ ys) is (more-stops between s items ys e) in
      rw (same-eqb between) (rw one (rw (more-back between s k items ys others e none shorter) refl))

  -- one or more items
  pub list-is : (between : ℕ) (items : List A) (xs ys : List ℕ) → list_at read between xs ≡ Some (items, ys)
      → (a : A) × (rest : List A) × (items ≡ a ∷ rest) × (xs ≡ text a ++ (more between text rest ++ ys)) × Each Is items
  unfolding list_at
  list-is between items xs ys h =
      let a = then_some (read xs) _ (items, ys) h in
      let r = with_some _ (many (byte_at between) (next read) (suc (length a.0.1)) a.0.1) items ys a.2 in
      let one = f.sound a.0.0 xs a.0.1 a.1 in
      let rest = more-is between _ r.0 a.0.1 ys r.1 in
      let P : List A → Type 0 = λ l. Each Is l in
      (a.0.0, r.0, r.2, one.0 ∙ ap (λ l. text a.0.0 ++ l) rest.0, subst P (sym r.2) (one.1, rest.1))

  pub list-back : (between : ℕ) → ((n : List ℕ) → Stops (between ∷ n)) → (a : A) (items : List A) (ys : List ℕ) → Is a → Each Is items → Stops ys → byte_at between ys ≡ None
      → list_at read between (text a ++ (more between text items ++ ys)) ≡ Some (a ∷ items, ys)
  unfolding list_at
  list-back between s a items ys is others e none =
      rw (f.complete a (more between text items ++ ys) is (more-stops between s items ys e))
      (rw (more-back between s (suc (length (more between text items ++ ys))) items ys others e none (omega arith)) refl)

  -- none, or one or more
  pub listed-format : ((n : List ℕ) → Stops (59 ∷ n)) → ((a : A) (ys : List ℕ) → Is a → byte_at 45 (text a ++ ys) ≡ None)
      → Format (listed text) (Each Is) (λ ys. Stops ys × (byte_at 59 ys ≡ None)) (listed_at read)
  unfolding listed_at
  listed-format s nodash = record { sound = sound'; complete = complete' }
    where
      sound' : (items : List A) (xs ys : List ℕ) → listed_at read xs ≡ Some (items, ys) → (xs ≡ listed text items ++ ys) × Each Is items
      sound' items xs ys h = go (byte_at 45 xs) refl h
        where
          go : (o : Option (ℕ × List ℕ)) → byte_at 45 xs ≡ o → listed_by read xs o ≡ Some (items, ys) → (xs ≡ listed text items ++ ys) × Each Is items
          go (Some d) is h =
              let p = pair_parts [] items d.1 ys h in
              let P : List A → Type 0 = λ l. (xs ≡ listed text l ++ ys) × Each Is l in
              subst P p.0 ((byte-is 45 d.0 xs d.1 is).0 ∙ ap (λ l. 45 ∷ l) p.1, tt)
          go None is h =
              let r = list-is 59 items xs ys h in
              let P : List A → Type 0 = λ l. xs ≡ listed text l ++ ys in
              (subst P (sym r.2) (r.3 ∙ sym (append_assoc (text r.0) (more 59 text r.1) ys)), r.4)

      complete' : (items : List A) (ys : List ℕ) → Each Is items → Stops ys × (byte_at 59 ys ≡ None) → listed_at read (listed text items ++ ys) ≡ Some (items, ys)
      complete' [] ys is e = refl
      complete' (a ∷ items) ys (is, others) e =
          rw (append_assoc (text a) (more 59 text items) ys)
          (rw (nodash a (more 59 text items ++ ys) is) (list-back 59 s a items ys is others e.0 e.1))

  -- items one after another, to the last one
  pub flat-is : (k : ℕ) (items : List A) (xs ys : List ℕ) → many read keep k xs ≡ Some (items, ys) → (xs ≡ flat text items ++ ys) × Each Is items
  unfolding many
  flat-is zero items xs ys h = cc h
  flat-is (suc k) items xs ys h = go (flat-is k) (read xs) refl h
    where
      go : ((bs : List A) (us vs : List ℕ) → many read keep k us ≡ Some (bs, vs) → (us ≡ flat text bs ++ vs) × Each Is bs)
          → (o : Option (A × List ℕ)) → read xs ≡ o → many_by keep (many read keep k) xs o ≡ Some (items, ys) → (xs ≡ flat text items ++ ys) × Each Is items
      go others None is h =
          let p = pair_parts [] items xs ys h in
          let P : List A → Type 0 = λ l. (xs ≡ flat text l ++ ys) × Each Is l in
          subst P p.0 (p.1, tt)
      go others (Some b) is h =
          let r = with_some _ (many read keep k b.1) items ys h in
          let one = f.sound b.0 xs b.1 is in
          let rest = others r.0 b.1 ys r.1 in
          let P : List A → Type 0 = λ l. (xs ≡ flat text l ++ ys) × Each Is l in
          subst P (sym r.2) (one.0 ∙ ap (λ l. text b.0 ++ l) rest.0 ∙ sym (append_assoc (text b.0) (flat text r.0) ys), (one.1, rest.1))

  pub flat-back : ((a : A) → 0 < length (text a)) → ((n : List ℕ) → Stops n) → (k : ℕ) (items : List A) (ys : List ℕ) → Each Is items → read ys ≡ None → length (flat text items ++ ys) < k
      → many read keep k (flat text items ++ ys) ≡ Some (items, ys)
  unfolding many
  flat-back room any zero items ys is none less = absurd (omega arith)
  flat-back room any (suc k) [] ys is none less = rw none refl
  flat-back room any (suc k) (a ∷ items) ys (is, others) none less =
      let assoc = append_assoc (text a) (flat text items) ys in
      let long = length-append (text a) (flat text items ++ ys) in
      let some = room a in
      let shorter : length (flat text items ++ ys) < k = omega (arith, ap length assoc) in
      let one : read ((text a ++ flat text items) ++ ys) ≡ Some (a, flat text items ++ ys) = ap read assoc ∙ f.complete a (flat text items ++ ys) is (any _) in
      rw one (rw (flat-back room any k items ys others none shorter) refl)

  -- a part after its word
  pub part-is : (w : List ℕ) (a : A) (xs ys : List ℕ) → part_at w read xs ≡ Some (a, ys) → (xs ≡ w ++ (text a ++ ys)) × Is a
  unfolding part_at
  part-is w a xs ys h =
      let v = then_some (word_at w xs) _ (a, ys) h in
      let one = f.sound a v.0.1 ys v.2 in
      ((word-is w v.0.0 xs v.0.1 v.1).0 ∙ ap (λ l. w ++ l) one.0, one.1)

  pub part-back : (w : List ℕ) (a : A) (ys : List ℕ) → Is a → Stops ys → part_at w read (w ++ (text a ++ ys)) ≡ Some (a, ys)
  unfolding part_at
  part-back w a ys is e = rw (word-back w (text a ++ ys)) (f.complete a ys is e)
