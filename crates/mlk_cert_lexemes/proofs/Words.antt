-- Words at the front of bytes, which are removed.
use Rattle.std.proofs.Common.{◌≡◌, ◌∷◌, ◌&&◌, ◌==◌, [], ℕ, List, Some, None, true, false, length, take, drop, refl, ⊎_elim}
use Rattle.std.specs.Cmp.Lexicographic.{pointwise}
use Rattle.std.proofs.lemmas.Bool.{cases_Bool}
use Rattle.mlk_cert_lexemes.specs.Reading.{strip}

pub strip_taken : (ws bs : List ℕ) → pointwise ◌==◌ (take (length ws) bs) ws ≡ true → strip ws bs ≡ Some (drop (length ws) bs)
strip_taken [] bs h = refl
strip_taken (w ∷ ws) [] h = cc
strip_taken (w ∷ ws) (b ∷ bs) h = ⊎_elim
    (λ (e : b == w ≡ true). rw e (strip_taken ws bs (rw e at h)))
    (λ (e : b == w ≡ false). let no : false ≡ true = rw e at h in cc)
    (cases_Bool (b == w))

pub strip_other : (ws bs : List ℕ) → pointwise ◌==◌ (take (length ws) bs) ws ≡ false → strip ws bs ≡ None
strip_other [] bs h = cc
strip_other (w ∷ ws) [] h = refl
strip_other (w ∷ ws) (b ∷ bs) h = ⊎_elim
    (λ (e : b == w ≡ true). rw e (strip_other ws bs (rw e at h)))
    (λ (e : b == w ≡ false). rw e refl)
    (cases_Bool (b == w))
