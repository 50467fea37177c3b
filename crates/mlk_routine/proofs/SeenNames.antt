-- Names that were seen.
use Rattle.std.proofs.Common.{◌≡◌, ℕ, List, ◌∷◌, Bool, true, false, refl, sym, ap, ◌∙◌, bytes_eq, not, inl, inr}
use Rattle.std.specs.Prelude.{◌||◌}
use Rattle.std.specs.List.Sorted.{IsPermutation}
use Rattle.std.specs.Bool.{MatchBool}
use Rattle.std.specs.Borrow.{Bor}
use Rattle.std.proofs.lemmas.Bool.{cases_Bool}
use Rattle.std.proofs.lemmas.Slice.Eq.{bytes_eq-Decides}
use Rattle.std.proofs.lemmas.List.Sorted.{list_any-IsPermutation}
use Rattle.mlk_routine.specs.Lines.{has_name}

not_false : (b : Bool) → false ≡ not b → b ≡ true
not_false true h = refl
not_false false h = cc h

-- the names after one is inserted
pub has_after : (added : Bool) (name : Bor (List ℕ)) (old keys : List (Bor (List ℕ))) → added ≡ not (has_name name.now old) → MatchBool added (IsPermutation (name ∷ old) keys) (keys ≡ old)
    → (q : List ℕ) → has_name q keys ≡ (bytes_eq q name.now || has_name q old)
has_after true name old keys is h q = sym (list_any-IsPermutation (λ k. bytes_eq q k.now) (name ∷ old) keys h)
has_after false name old keys is h q = elim (cases_Bool (bytes_eq q name.now)) [
  | inl e ↦
      let there : has_name q old ≡ true = ap (λ l. has_name l old) ((bytes_eq-Decides q name.now).0 e) ∙ not_false (has_name name.now old) is in
      rw (h, e) there
  | inr e ↦ rw (h, e) refl
]
