-- Laws of the lexemes: each is read exactly.
use Rattle.std.proofs.Common.{◌≡◌, ◌<◌, ◌≤◌, ◌+◌, ℕ, ◌++◌, List, [], ◌∷◌, length, take, drop, Some, None, true, false, refl, sym, ap, ◌∙◌, arith, subst, inl, inr, append_assoc, length-append, take-append-drop}
use Rattle.std.specs.Prelude.{Option, ◌==◌, ◌&&◌, ◌||◌, nat_le, ◌⊎◌}
use Rattle.std.proofs.lemmas.Bool.{cases_Bool, eqb-true}
use Rattle.std.proofs.lemmas.Bool.Decides.{nat_tests}
use Rattle.mlk_text.specs.Reading.{put, separated, Separated, Leaves, Shortens}
use Rattle.mlk_text.specs.Lexemes.{is_letter, is_text_byte, is_text, name_bytes, digits, byte_at, name_at, digits_at, is_exact, canonical, exactly, exact_digits_at, doubled, inside, closing, literal_at, IsNumber, IsQuoted, IsLiteral, IsList, IsSubs, list_at, few, subs_by, subs_at}
use Rattle.mlk_text.proofs.Readers.{then_some, pair_parts, with_some, After, after-self, after-one, after_then, after_length, Exact, Takes, separated-exact}

pub byte-is : (b c : ℕ) (xs ys : List ℕ) → byte_at b xs ≡ Some (c, ys) → xs ≡ b ∷ ys
byte-is b c [] ys h = cc h
byte-is b c (x ∷ xs) ys h = elim (cases_Bool (x == b)) [
  | inl e ↦ let p = pair_parts x c xs ys (rw e at h) in rw (eqb-true x b e) (ap (λ l. b ∷ l) p.1)
  | inr e ↦ cc (rw e at h)
]

pub byte-takes : (b : ℕ) → Takes (byte_at b)
byte-takes b c xs ys h = let e = byte-is b c xs ys h in
    rw e (after-one b ys, omega arith)

-- a name precedes what is after it, and has a byte
pub name-is : (text xs ys : List ℕ) → name_at xs ≡ Some (text, ys) → (text ++ ys ≡ xs) × (0 < length text)
unfolding name_at
name-is text [] ys h = cc h
name-is text (b ∷ xs) ys h = elim (cases_Bool ((is_letter b || (b == 37)) && nat_le (name_bytes xs) 30)) [
  | inr e ↦ cc (rw e at h)
  | inl e ↦ let p = pair_parts (b ∷ take (name_bytes xs) xs) text (drop (name_bytes xs) xs) ys (rw e at h) in
      let P : List ℕ → Type 0 = λ l. (l ++ ys ≡ b ∷ xs) × (0 < length l) in
      subst P p.0 (ap (λ l. b ∷ (take (name_bytes xs) xs ++ l)) (sym p.1) ∙ ap (λ l. b ∷ l) (take-append-drop (name_bytes xs) xs), omega arith)
]

pub name-after : (text xs ys : List ℕ) → name_at xs ≡ Some (text, ys) → After ys xs
name-after text xs ys h = (text, (name-is text xs ys h).0)

pub name-takes : Takes name_at
name-takes text xs ys h =
    let r = name-is text xs ys h in
    let size : length text + length ys ≡ length xs = sym (length-append text ys) ∙ ap length r.0 in
    ((text, r.0), let some = r.1 in omega arith)

pub digits-after : (text xs ys : List ℕ) → digits_at xs ≡ Some (text, ys) → After ys xs
unfolding digits_at
digits-after text xs ys h = elim (cases_Bool (digits xs == 0)) [
  | inl e ↦ cc (rw e at h)
  | inr e ↦ let p = pair_parts (take (digits xs) xs) text (drop (digits xs) xs) ys (rw e at h) in
      (take (digits xs) xs, ap (λ l. take (digits xs) xs ++ l) (sym p.1) ∙ take-append-drop (digits xs) xs)
]

-- the value of digits
exactly-some : (r : List ℕ × List ℕ) (value ys : List ℕ) → exactly r ≡ Some (value, ys) → (is_exact r.0 ≡ true) × (value ≡ canonical r.0) × (r.1 ≡ ys)
exactly-some r value ys h = elim (cases_Bool (is_exact r.0)) [
  | inl e ↦ let p = pair_parts (canonical r.0) value r.1 ys (rw e at h) in (e, sym p.0, p.1)
  | inr e ↦ cc (rw e at h)
]

pub number-exact : Exact exact_digits_at IsNumber
unfolding exact_digits_at
number-exact = record {
  sound = λ value xs ys h.
      let d = then_some (digits_at xs) exactly (value, ys) h in
      let e = exactly-some d.0 value ys d.2 in
      (d.0.0, d.1 ∙ ap (λ l. Some (d.0.0, l)) e.2, e.0, e.1);
  complete = λ value xs ys (ds, is, exact, same). rw is (rw exact (rw same refl));
  after = λ value xs ys (ds, is, exact, same). digits-after ds xs ys is;
}

-- one more byte of a text
text-more : (b : ℕ) (v w : List ℕ) → is_text_byte b ≡ true → is_text v ≡ true → w ≡ b ∷ v → is_text w ≡ true
text-more b v w good more is = rw is (rw good more)

-- a quoted text: what follows an opening quote, and what follows a quote inside
quote-sound : (xs : List ℕ)
    → ((v ys : List ℕ) → inside xs ≡ Some (v, ys) → (xs ≡ doubled v ++ 34 ∷ ys) × (is_text v ≡ true) × (byte_at 34 ys ≡ None))
    × ((v ys : List ℕ) → closing xs ≡ Some (v, ys) → (34 ∷ xs ≡ doubled v ++ 34 ∷ ys) × (is_text v ≡ true) × (byte_at 34 ys ≡ None))
unfolding inside
quote-sound [] = (
  λ v ys h. cc h,
  λ v ys h. let p = pair_parts [] v [] ys h in let P : List ℕ → Type 0 = λ l. (34 ∷ [] ≡ doubled l ++ 34 ∷ ys) × (is_text l ≡ true) × (byte_at 34 ys ≡ None) in
      subst P p.0 (subst (λ l. (34 ∷ [] ≡ 34 ∷ l) × (true ≡ true) × (byte_at 34 l ≡ None)) p.1 (refl, refl, refl)),
)
quote-sound (b ∷ xs) =
    let more = quote-sound xs in
    elim (cases_Bool (b == 34)) [
      | inl e ↦
          let is : b ≡ 34 = eqb-true b 34 e in (
            λ v ys h. let r = more.1 v ys (rw e at h) in (ap (λ c. c ∷ xs) is ∙ r.0, r.1, r.2),
            λ v ys h.
                let w = with_some (λ l. (34 ∷ []) ++ l) (inside xs) v ys (rw e at h) in
                let r = more.0 w.0 ys w.1 in
                (rw w.2 (ap (λ c. 34 ∷ c ∷ xs) is ∙ ap (λ l. 34 ∷ 34 ∷ l) r.0), text-more 34 w.0 v refl r.1 w.2, r.2),
          )
      | inr e ↦ (
        λ v ys h. elim (cases_Bool (is_text_byte b)) [
          | inl good ↦
              let w = with_some (λ l. (b ∷ []) ++ l) (inside xs) v ys (rw (e, good) at h) in
              let r = more.0 w.0 ys w.1 in
              (rw w.2 (rw e (ap (λ l. b ∷ l) r.0)), text-more b w.0 v good r.1 w.2, r.2)
          | inr bad ↦ cc (rw (e, bad) at h)
        ],
        λ v ys h.
            let p = pair_parts [] v (b ∷ xs) ys (rw e at h) in
            let none : byte_at 34 (b ∷ xs) ≡ None = rw e refl in
            let P : List ℕ → Type 0 = λ l. (34 ∷ b ∷ xs ≡ doubled l ++ 34 ∷ ys) × (is_text l ≡ true) × (byte_at 34 ys ≡ None) in
            subst P p.0 (ap (λ l. 34 ∷ l) p.1, refl, subst (λ l. byte_at 34 l ≡ None) p.1 none),
      )
    ]

pub closing-end : (ys : List ℕ) → byte_at 34 ys ≡ None → closing ys ≡ Some ([], ys)
unfolding inside
closing-end [] h = refl
closing-end (b ∷ ys) h = elim (cases_Bool (b == 34)) [ inl e ↦ cc (rw e at h) | inr e ↦ rw e refl ]

quote-complete : (v ys : List ℕ) → is_text v ≡ true → byte_at 34 ys ≡ None → inside (doubled v ++ 34 ∷ ys) ≡ Some (v, ys)
unfolding inside
quote-complete [] ys good h = closing-end ys h
quote-complete (b ∷ v) ys good h =
    elim (cases_Bool (is_text_byte b)) [
      | inr bad ↦ cc (rw bad at good)
      | inl fine ↦
          let others : is_text v ≡ true = rw fine at good in
          elim (cases_Bool (b == 34)) [
            | inl e ↦ let is : b ≡ 34 = eqb-true b 34 e in rw e (rw (quote-complete v ys others h) (ap (λ c. Some (c ∷ v, ys)) (sym is)))
            | inr e ↦ rw e (rw (e, fine) (rw (quote-complete v ys others h) refl))
          ]
    ]

-- the same after the opening quote: its text, and what is after it
pub quoted-sound : (value xs ys : List ℕ) → inside xs ≡ Some (value, ys) → IsQuoted value (34 ∷ xs) ys
quoted-sound value xs ys h = let r = (quote-sound xs).0 value ys h in (ap (λ l. 34 ∷ l) r.0, r.1, r.2)

pub quoted-complete : (value xs ys : List ℕ) → IsQuoted value xs ys → (m : List ℕ) × (xs ≡ 34 ∷ m) × (inside m ≡ Some (value, ys))
quoted-complete value xs ys (is, good, none) = (doubled value ++ 34 ∷ ys, is, quote-complete value ys good none)

pub quoted-after : (value xs ys : List ℕ) → IsQuoted value xs ys → After ys xs
quoted-after value xs ys (is, good, none) = ((34 ∷ doubled value) ++ 34 ∷ [], append_assoc (34 ∷ doubled value) (34 ∷ []) ys ∙ sym is)

-- no number begins with a quote
number-first : (value xs ys : List ℕ) → IsNumber value (34 ∷ xs) ys → ⊥
unfolding digits_at
number-first value xs ys (ds, is, exact, same) = cc is

number-empty : (value ys : List ℕ) → IsNumber value [] ys → ⊥
unfolding digits_at
number-empty value ys (ds, is, exact, same) = cc is

pub literal-exact : Exact literal_at IsLiteral
unfolding literal_at IsLiteral
literal-exact = record { sound = go; complete = done; after = back }
  where
    go : (value xs ys : List ℕ) → literal_at xs ≡ Some (value, ys) → IsNumber value xs ys ⊎ IsQuoted value xs ys
    go value [] ys h = cc h
    go value (b ∷ xs) ys h = elim (cases_Bool (b == 34)) [
      | inl e ↦
          let is : b ≡ 34 = eqb-true b 34 e in
          let r = (quote-sound xs).0 value ys (rw e at h) in
          inr (ap (λ c. c ∷ xs) is ∙ ap (λ l. 34 ∷ l) r.0, r.1, r.2)
      | inr e ↦ inl (number-exact.sound value (b ∷ xs) ys (rw e at h))
    ]

    number : (value xs ys : List ℕ) → IsNumber value xs ys → literal_at xs ≡ Some (value, ys)
    number value [] ys h = absurd (number-empty value ys h)
    number value (b ∷ xs) ys h = elim (cases_Bool (b == 34)) [
      | inl e ↦ absurd (number-first value xs ys (subst (λ c. IsNumber value (c ∷ xs) ys) (eqb-true b 34 e) h))
      | inr e ↦ rw e (number-exact.complete value (b ∷ xs) ys h)
    ]

    done : (value xs ys : List ℕ) → IsNumber value xs ys ⊎ IsQuoted value xs ys → literal_at xs ≡ Some (value, ys)
    done value xs ys (inl h) = number value xs ys h
    done value xs ys (inr (is, good, none)) = rw is (quote-complete value ys good none)

    back : (value xs ys : List ℕ) → IsNumber value xs ys ⊎ IsQuoted value xs ys → After ys xs
    back value xs ys (inl h) = number-exact.after value xs ys h
    back value xs ys (inr (is, good, none)) = (34 ∷ (doubled value ++ 34 ∷ []), ap (λ l. 34 ∷ l) (append_assoc (doubled value) (34 ∷ []) ys) ∙ sym is)

pub list-exact : Exact list_at IsList
unfolding list_at
list-exact = record {
  sound = λ values xs ys h.
      let r = then_some (separated (byte_at 44) literal_at xs) _ (values, ys) h in
      let c = with_some _ (byte_at 41 r.0.1) values ys r.2 in
      let one = literals.sound r.0.0 xs r.0.1 r.1 in
      subst (λ l. IsList l xs ys) (sym c.2) (subst (λ l. Separated (byte_at 44) IsLiteral r.0.0 xs l) (byte-is 41 c.0 r.0.1 ys c.1) one);
  complete = λ values xs ys h. rw (literals.complete values xs (41 ∷ ys) h) refl;
  after = λ values xs ys h. after_then xs (41 ∷ ys) ys (literals.after values xs (41 ∷ ys) h) (after-one 41 ys);
}
  where
    literals : Exact (separated (byte_at 44) literal_at) (Separated (byte_at 44) IsLiteral)
    literals = separated-exact (byte_at 44) literal_at IsLiteral (byte-takes 44) literal-exact

-- needed by the code's loop
pub literal-leaves : Leaves literal_at
literal-leaves value xs ys h = after_length xs ys (literal-exact.after value xs ys (literal-exact.sound value xs ys h))

pub comma-shortens : (b : ℕ) → Shortens (byte_at b)
comma-shortens b c xs ys h = (byte-takes b c xs ys h).1

pub subs-exact : Exact subs_at IsSubs
unfolding subs_at
subs-exact = record { sound = λ values xs ys h. go values xs ys (byte_at 40 xs) refl h; complete = done; after = back }
  where
    few-ok : (r : List (List ℕ) × List ℕ) (values : List (List ℕ)) (ys : List ℕ) → few r ≡ Some (values, ys) → (r.0 ≡ values) × (r.1 ≡ ys) × (length r.0 ≤ 32)
    few-ok r values ys h = elim (cases_Bool (nat_le (length r.0) 32)) [
      | inl e ↦ let p = pair_parts r.0 values r.1 ys (rw e at h) in (p.0, p.1, grind (arith, nat_tests))
      | inr e ↦ cc (rw e at h)
    ]

    filled : (values : List (List ℕ)) (xs m ys : List ℕ) → xs ≡ 40 ∷ m → IsList values m ys → length values ≤ 32 → IsSubs values xs ys
    filled [] xs m ys is (v, vs, n, one, more, e) less = cc e
    filled (v ∷ vs) xs m ys is list less = (m, is, list, less)

    go : (values : List (List ℕ)) (xs ys : List ℕ) (o : Option (ℕ × List ℕ)) → byte_at 40 xs ≡ o → subs_by xs o ≡ Some (values, ys) → IsSubs values xs ys
    go values xs ys None is h = let p = pair_parts [] values xs ys h in subst (λ vs. IsSubs vs xs ys) p.0 (p.1, is)
    go values xs ys (Some b) is h =
        let r = then_some (list_at b.1) few (values, ys) h in
        let f = few-ok r.0 values ys r.2 in
        let w : IsList values b.1 ys = subst (λ l. IsList l b.1 ys) f.0 (subst (λ l. IsList r.0.0 b.1 l) f.1 (list-exact.sound r.0.0 b.1 r.0.1 r.1)) in
        filled values xs b.1 ys (byte-is 40 b.0 xs b.1 is) w (subst (λ l. length l ≤ 32) f.0 f.2)

    done : (values : List (List ℕ)) (xs ys : List ℕ) → IsSubs values xs ys → subs_at xs ≡ Some (values, ys)
    done [] xs ys h = rw h.1 (ap (λ l. Some ([], l)) h.0)
    done (v ∷ vs) xs ys (m, is, list, less) =
        let small : nat_le (length (v ∷ vs)) 32 ≡ true = grind (arith, nat_tests) in
        rw is (rw (list-exact.complete (v ∷ vs) m ys list) (rw small refl))

    back : (values : List (List ℕ)) (xs ys : List ℕ) → IsSubs values xs ys → After ys xs
    back [] xs ys h = subst (λ l. After l xs) h.0 (after-self xs)
    back (v ∷ vs) xs ys (m, is, list, less) = rw is (after_then (40 ∷ m) m ys (after-one 40 m) (list-exact.after (v ∷ vs) m ys list))

-- The code's loop over a quoted text.
pub inside-other : (b : ℕ) (xs : List ℕ) → (b ≡ 34 → ⊥) → is_text_byte b ≡ true → inside (b ∷ xs) ≡ put (b ∷ []) (inside xs)
unfolding inside
inside-other b xs h good = elim (cases_Bool (b == 34)) [ inl e ↦ absurd (h (eqb-true b 34 e)) | inr e ↦ rw (e, good) refl ]

pub inside-bad : (b : ℕ) (xs : List ℕ) → (b ≡ 34 → ⊥) → is_text_byte b ≡ false → inside (b ∷ xs) ≡ None
unfolding inside
inside-bad b xs h bad = elim (cases_Bool (b == 34)) [ inl e ↦ absurd (h (eqb-true b 34 e)) | inr e ↦ rw (e, bad) refl ]

pub inside-twice : (m n : List ℕ) → byte_at 34 m ≡ Some (34, n) → inside (34 ∷ m) ≡ put (34 ∷ []) (inside n)
unfolding inside
inside-twice m n h = rw (byte-is 34 34 m n h) refl

pub inside-closed : (m : List ℕ) → byte_at 34 m ≡ None → inside (34 ∷ m) ≡ Some ([], m)
unfolding inside
inside-closed m h = closing-end m h

pub inside-empty : (xs : List ℕ) → length xs ≡ 0 → inside xs ≡ None
unfolding inside
inside-empty [] h = refl
inside-empty (b ∷ xs) h = absurd (omega (arith, h))
