-- Laws of texts in quotes: each is read exactly.
use Rattle.std.proofs.Common.{◌≡◌, ℕ, ◌++◌, List, [], ◌∷◌, length, Some, None, refl, sym, ap, ◌∙◌, arith, subst, inl, inr, append_assoc}
use Rattle.std.specs.Prelude.{◌==◌}
use Rattle.std.proofs.lemmas.Bool.{cases_Bool, eqb-true}
use Rattle.mlk_text.specs.Reading.{put}
use Rattle.mlk_text.specs.Lexemes.{byte_at, doubled}
use Rattle.mlk_text.proofs.Readers.{pair_parts, with_some, After}
use Rattle.mlk_text.proofs.Lexemes.{byte-is}
use Rattle.mlk_rules_file.specs.RuleTexts.{quoted, closed}

-- what follows an opening quote, and what follows a quote inside
quote-sound : (xs : List ℕ)
    → ((v ys : List ℕ) → quoted xs ≡ Some (v, ys) → (xs ≡ doubled v ++ 34 ∷ ys) × (byte_at 34 ys ≡ None))
    × ((v ys : List ℕ) → closed xs ≡ Some (v, ys) → (34 ∷ xs ≡ doubled v ++ 34 ∷ ys) × (byte_at 34 ys ≡ None))
unfolding quoted
quote-sound [] = (
  λ v ys h. cc h,
  λ v ys h. let p = pair_parts [] v [] ys h in let P : List ℕ → Type 0 = λ l. (34 ∷ [] ≡ doubled l ++ 34 ∷ ys) × (byte_at 34 ys ≡ None) in
      subst P p.0 (subst (λ l. (34 ∷ [] ≡ 34 ∷ l) × (byte_at 34 l ≡ None)) p.1 (refl, refl)),
)
quote-sound (b ∷ xs) =
    let more = quote-sound xs in
    elim (cases_Bool (b == 34)) [
      | inl e ↦
          let is : b ≡ 34 = eqb-true b 34 e in (
            λ v ys h. let r = more.1 v ys (rw e at h) in (ap (λ c. c ∷ xs) is ∙ r.0, r.1),
            λ v ys h.
                let w = with_some (λ l. (34 ∷ []) ++ l) (quoted xs) v ys (rw e at h) in
                let r = more.0 w.0 ys w.1 in
                (rw w.2 (ap (λ c. 34 ∷ c ∷ xs) is ∙ ap (λ l. 34 ∷ 34 ∷ l) r.0), r.1),
          )
      | inr e ↦ (
        λ v ys h.
            let w = with_some (λ l. (b ∷ []) ++ l) (quoted xs) v ys (rw e at h) in
            let r = more.0 w.0 ys w.1 in
            (rw w.2 (rw e (ap (λ l. b ∷ l) r.0)), r.1),
        λ v ys h.
            let p = pair_parts [] v (b ∷ xs) ys (rw e at h) in
            let none : byte_at 34 (b ∷ xs) ≡ None = rw e refl in
            let P : List ℕ → Type 0 = λ l. (34 ∷ b ∷ xs ≡ doubled l ++ 34 ∷ ys) × (byte_at 34 ys ≡ None) in
            subst P p.0 (ap (λ l. 34 ∷ l) p.1, subst (λ l. byte_at 34 l ≡ None) p.1 none),
      )
    ]

closing-end : (ys : List ℕ) → byte_at 34 ys ≡ None → closed ys ≡ Some ([], ys)
unfolding quoted
closing-end [] h = refl
closing-end (b ∷ ys) h = elim (cases_Bool (b == 34)) [ inl e ↦ cc (rw e at h) | inr e ↦ rw e refl ]

pub quoted-sound : (v xs ys : List ℕ) → quoted xs ≡ Some (v, ys) → (xs ≡ doubled v ++ 34 ∷ ys) × (byte_at 34 ys ≡ None)
quoted-sound v xs ys h = (quote-sound xs).0 v ys h

pub quoted-complete : (v ys : List ℕ) → byte_at 34 ys ≡ None → quoted (doubled v ++ 34 ∷ ys) ≡ Some (v, ys)
unfolding quoted
quoted-complete [] ys h = closing-end ys h
quoted-complete (b ∷ v) ys h =
    elim (cases_Bool (b == 34)) [
      | inl e ↦ let is : b ≡ 34 = eqb-true b 34 e in rw e (rw (quoted-complete v ys h) (ap (λ c. Some (c ∷ v, ys)) (sym is)))
      | inr e ↦ rw e (rw e (rw (quoted-complete v ys h) refl))
    ]

pub quoted-after : (v xs ys : List ℕ) → quoted xs ≡ Some (v, ys) → After ys xs
quoted-after v xs ys h = let r = quoted-sound v xs ys h in (doubled v ++ 34 ∷ [], append_assoc (doubled v) (34 ∷ []) ys ∙ sym r.0)

-- The code's loop over a text in quotes.
pub quoted-other : (b : ℕ) (xs : List ℕ) → (b ≡ 34 → ⊥) → quoted (b ∷ xs) ≡ put (b ∷ []) (quoted xs)
unfolding quoted
quoted-other b xs h = elim (cases_Bool (b == 34)) [ inl e ↦ absurd (h (eqb-true b 34 e)) | inr e ↦ rw e refl ]

pub quoted-twice : (m n : List ℕ) → byte_at 34 m ≡ Some (34, n) → quoted (34 ∷ m) ≡ put (34 ∷ []) (quoted n)
unfolding quoted
quoted-twice m n h = rw (byte-is 34 34 m n h) refl

pub quoted-closed : (m : List ℕ) → byte_at 34 m ≡ None → quoted (34 ∷ m) ≡ Some ([], m)
unfolding quoted
quoted-closed m h = closing-end m h

pub quoted-empty : (xs : List ℕ) → length xs ≡ 0 → quoted xs ≡ None
unfolding quoted
quoted-empty [] h = refl
quoted-empty (b ∷ xs) h = absurd (omega (arith, h))
