-- The law that a text has one tree, for the whole from its parts: a thing at a place is the only one of its kind there.
use Rattle.std.proofs.Common.{◌≡◌, ◌≤◌, ◌+◌, ◌⊎◌, ℕ, suc, List, [], ◌∷◌, ◌++◌, length, drop, Some, sym, ap, ◌∙◌, arith, subst, append_assoc, inl, inr, ◌==◌}
use Rattle.std.proofs.lemmas.Bool.{cases_Bool, eqb-true, eq-eqb}
use Rattle.std.proofs.lemmas.Option.{same_Some}
use Rattle.mlk_expr.specs.Grammar.{Spelled}
use Rattle.mlk_expr.specs.Theorem.{Stands, Only, One}
use Rattle.mlk_routine_arguments.specs.PartsRead.{Found, Nowhere, first_of, byte_at}
use Rattle.mlk_routine_arguments.proofs.Sequences.{Parts, Turned, stands_at, next_is}
use Rattle.mlk_routine_arguments.proofs.Bytes.{AfterByte, drop_next, byte_before}

abbrev pub Sole : {A : Type 0} → Spelled A → (A → List ℕ → Type 0) → List ℕ → ℕ → Type 0
Sole {A = A} Is Ends line at = (a : A) (next : ℕ) → Stands Is Ends line at a next → Only Is Ends line at a next

-- the same at every place
abbrev pub Alone : {A : Type 0} → Spelled A → (A → List ℕ → Type 0) → Type 0
Alone Is Ends = (line : List ℕ) (at : ℕ) → at ≤ length line → Sole Is Ends line at

-- a byte is at a place, or is not
pub byte_or_not : (line : List ℕ) (at b : ℕ) → (byte_at line at ≡ Some b) ⊎ (byte_at line at ≡ Some b → ⊥)
byte_or_not line at b = go (drop at line)
  where
    go : (l : List ℕ) → (first_of l ≡ Some b) ⊎ (first_of l ≡ Some b → ⊥)
    go [] = inr (λ bad. cc bad)
    go (c ∷ l) = elim (cases_Bool (c == b)) [
      | inl e ↦ inl (ap Some (eqb-true c b e))
      | inr e ↦ inr (λ same. cc (sym e ∙ eq-eqb c b (same_Some c b same)))
    ]

module _ {A : Type 0} {Is : Spelled A} {Ends : A → List ℕ → Type 0} where
  pub alone_of : One Is Ends → Alone Is Ends
  alone_of one line at less a n s b u rest h is e = one (suc at) b a u s.text rest (drop n line) (sym h ∙ s.joined) is e s.spelled s.ended

  module _ {line : List ℕ} {at : ℕ} where
    pub sole_only : (a : A) (n : ℕ) → Only Is Ends line at a n → Sole Is Ends line at
    sole_only a n only b m s c u rest h is e =
        let same = only b s.text (drop m line) s.joined s.spelled s.ended in
        let other = only c u rest h is e in
        (other.0 ∙ sym same.0, other.1 ∙ sym same.1)

    pub sole_found : (a : A) (n : ℕ) → Found Is Ends line at a n → Sole Is Ends line at
    sole_found a n f = sole_only a n f.1

    pub sole_none : Nowhere Is Ends line at → Sole Is Ends line at
    sole_none none b m s = absurd (none b s.text (drop m line) s.joined s.spelled s.ended)

    -- a thing that belongs to a wider kind too
    pub sole_within : {Wide : Spelled A} {Also : A → List ℕ → Type 0} → ((a : A) (s rest : List ℕ) → Is (suc at) a s → Ends a rest → Wide (suc at) a s × Also a rest) → Sole Wide Also line at → Sole Is Ends line at
    sole_within wide one b n s c u rest h is e =
        let first = wide b s.text (drop n line) s.spelled s.ended in
        let other = wide c u rest is e in
        one b n (record { text = s.text; within = s.within; joined = s.joined; spelled = first.0; ended = first.1 }) c u rest h other.0 other.1

  -- what follows a byte
  pub alone_after : (b : ℕ) → Alone Is Ends → Alone (AfterByte b Is) Ends
  alone_after b one line at less c n whole = go whole.spelled
    where
      go : AfterByte b Is (suc at) c whole.text → Only (AfterByte b Is) Ends line at c n
      go (r, is, spelled) d u rest h (q, also, other) e =
          let far : drop at line ≡ b ∷ (r ++ drop n line) = whole.joined ∙ ap (λ l. l ++ drop n line) is in
          let size = byte_before line at b (ap first_of far) in
          let next = drop_next line at b (r ++ drop n line) far in
          one line (suc at) (omega (arith, size)) c n (record { text = r; within = whole.within; joined = next; spelled = spelled; ended = whole.ended }) d q rest
          (drop_next line at b (q ++ rest) (h ∙ ap (λ l. l ++ rest) also)) other e

-- how a whole splits into two parts
abbrev pub Apart : {A B C : Type 0} → ℕ → Spelled A → (A → List ℕ → Type 0) → (A → Spelled B) → (A → B → List ℕ → Type 0) → (A → B → C) → C → List ℕ → List ℕ → Type 0
Apart {A = A} {B = B} at IsA EndsA IsB EndsB make c u rest = (a : A) × (b : B) × (s t : List ℕ) × (u ≡ s ++ t) × (c ≡ make a b) × IsA (suc at) a s × IsB a (suc at + length s) b t × EndsA a (t ++ rest) × EndsB a b rest

-- a whole of two parts, each of them the only one
module _ {A B C : Type 0} {line : List ℕ} {at : ℕ} {IsA : Spelled A} {EndsA : A → List ℕ → Type 0} {IsB : A → Spelled B} {EndsB : A → B → List ℕ → Type 0} {IsC : Spelled C} {EndsC : C → List ℕ → Type 0}
    (make : A → B → C) (within : at ≤ length line) where
  pub sole_apart : ((c : C) (u rest : List ℕ) → drop at line ≡ u ++ rest → IsC (suc at) c u → EndsC c rest → Apart at IsA EndsA IsB EndsB make c u rest) → Sole IsA EndsA line at
      → ((a : A) (m : ℕ) → Stands IsA EndsA line at a m → Sole (IsB a) (EndsB a) line m) → Sole IsC EndsC line at
  sole_apart apart one two c n whole d u rest h is e =
      let first = placed c whole.text (drop n line) whole.joined (apart c whole.text (drop n line) whole.joined whole.spelled whole.ended) in
      go first (apart d u rest h is e)
    where
      placed : (c : C) (u rest : List ℕ) → drop at line ≡ u ++ rest → Apart at IsA EndsA IsB EndsB make c u rest → (a : A) × (b : B) × (m n : ℕ) × (c ≡ make a b) × Stands IsA EndsA line at a m × Stands (IsB a) (EndsB a) line m b n × (rest ≡ drop n line)
      placed c u rest h (a, b, s, t, is, same, one, two, before, after) =
          let far : drop at line ≡ s ++ (t ++ rest) = h ∙ ap (λ l. l ++ rest) is ∙ append_assoc s t rest in
          let first = stands_at IsA EndsA line at a s (t ++ rest) within far one before in
          let m = at + length s in
          let second = stands_at (IsB a) (EndsB a) line m b t rest first.0.within (sym first.1) (subst (λ k. IsB a k b t) (omega arith) two) after in
          (a, b, m, m + length t, same, first.0, second.0, second.1)

      go : (a : A) × (b : B) × (m k : ℕ) × (c ≡ make a b) × Stands IsA EndsA line at a m × Stands (IsB a) (EndsB a) line m b k × (drop n line ≡ drop k line) → Apart at IsA EndsA IsB EndsB make d u rest → (d ≡ c) × (rest ≡ drop n line)
      go (a, b, m, k, same, first, second, end) (x, y, s, t, split, also, is_x, is_y, before, after) =
          let far : drop at line ≡ s ++ (t ++ rest) = h ∙ ap (λ l. l ++ rest) split ∙ append_assoc s t rest in
          let f = one a m first x s (t ++ rest) far is_x before in
          let here = next_is line s at m within first.within (far ∙ ap (λ l. s ++ l) f.1) in
          let moved : IsB a (suc m) y t = subst (λ q. IsB q (suc m) y t) f.0 (subst (λ k. IsB x k y t) (omega (arith, here)) is_y) in
          let g = two a m first b k second y t rest (sym f.1) moved (subst (λ q. EndsB q y rest) f.0 after) in
          (also ∙ ap (λ q. make q y) f.0 ∙ ap (make a) g.0 ∙ sym same, g.1 ∙ sym end)

module _ {A B C : Type 0} {line : List ℕ} {at : ℕ} {IsA : Spelled A} {EndsA : A → List ℕ → Type 0} {IsB : A → Spelled B} {EndsB : A → B → List ℕ → Type 0} {IsC : Spelled C} {EndsC : C → List ℕ → Type 0} {make : A → B → C} where
  pub sole_both : Parts line at IsA EndsA IsB EndsB IsC EndsC make → at ≤ length line → Sole IsA EndsA line at → ((a : A) (m : ℕ) → Stands IsA EndsA line at a m → Sole (IsB a) (EndsB a) line m) → Sole IsC EndsC line at
  sole_both p within = sole_apart make within p.apart

-- a whole that is one part in another form
module _ {A C : Type 0} {line : List ℕ} {at : ℕ} {IsA : Spelled A} {EndsA : A → List ℕ → Type 0} {IsC : Spelled C} {EndsC : C → List ℕ → Type 0} where
  pub sole_as : (make : A → C) → ((c : C) (u rest : List ℕ) → drop at line ≡ u ++ rest → IsC (suc at) c u → EndsC c rest → (a : A) × (c ≡ make a) × IsA (suc at) a u × EndsA a rest) → Sole IsA EndsA line at → Sole IsC EndsC line at
  sole_as make apart one c n whole d u rest h is e = go (apart c whole.text (drop n line) whole.joined whole.spelled whole.ended) (apart d u rest h is e)
    where
      go : (a : A) × (c ≡ make a) × IsA (suc at) a whole.text × EndsA a (drop n line) → (a : A) × (d ≡ make a) × IsA (suc at) a u × EndsA a rest → (d ≡ c) × (rest ≡ drop n line)
      go (a, same, spelled, ended) (x, also, is_x, e_x) =
          let f = one a n (record { text = whole.text; within = whole.within; joined = whole.joined; spelled = spelled; ended = ended }) x u rest h is_x e_x in
          (also ∙ ap make f.0 ∙ sym same, f.1)

  pub sole_turned : {make : A → C} → Turned line at IsA EndsA IsC EndsC make → Sole IsA EndsA line at → Sole IsC EndsC line at
  sole_turned {make} p = sole_as make p.apart
