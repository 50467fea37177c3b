-- Lists whose elements are changed in place, one after another.
use Rattle.std.proofs.Common.{◌≡◌, ◌<◌, ◌+◌, ◌∙◌, ℕ, zero, suc, List, [], ◌∷◌, ◌++◌, length, drop, map, take, slice_set, slice_index_or, add-one, refl, ap, sym, subst, arith}

-- those before an index are already changed
abbrev pub changed_to : {A : Type 0} → (A → A) → ℕ → List A → List A
changed_to f i xs = map f (take i xs) ++ drop i xs

one_more : {A : Type 0} (f : A → A) (xs : List A) (i : ℕ) (d : A) → i < length (changed_to f i xs)
    → slice_set (changed_to f i xs) i (f (slice_index_or (changed_to f i xs) i d)) ≡ changed_to f (suc i) xs
one_more f [] zero d low = absurd (omega (arith, low))
one_more f [] (suc i) d low = absurd (omega (arith, low))
one_more f (x ∷ xs) zero d low = refl
one_more f (x ∷ xs) (suc i) d low = ap (λ z. f x ∷ z) (one_more f xs i d (omega (arith, low)))

pub changed_step : {A : Type 0} (f : A → A) (xs now : List A) (i : ℕ) (d made : A)
    → i < length now → now ≡ changed_to f i xs → made ≡ f (slice_index_or now i d)
    → slice_set now i made ≡ changed_to f (i + 1) xs
changed_step f xs now i d made low is m =
    ap (λ z. slice_set now i z) m
    ∙ ap (λ z. slice_set z i (f (slice_index_or z i d))) is
    ∙ one_more f xs i d (subst (λ z. i < length z) is low)
    ∙ sym (ap (λ n. changed_to f n xs) (add-one i))
