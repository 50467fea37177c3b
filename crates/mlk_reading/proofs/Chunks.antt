-- Lists that are worked through by pieces.
use Rattle.std.proofs.Common.{◌≡◌, ◌≤◌, ◌+◌, ◌++◌, ◌∙◌, ℕ, List, [], ◌∷◌, take, drop, length, sym, ap, append_assoc, length-append, arith}
use Rattle.std.proofs.lemmas.List.{take-append-drop, length-take-le}
use Rattle.std.proofs.Math.Seq.{take-append_seam}
use Rattle.std.specs.List.{AllZip}

-- two lists that go together, and two more after them
pub more-zipped : {A B : Type 0} (R : A → B → Type 0) (front next : List A) (found more : List B) → AllZip R front found → AllZip R next more → AllZip R (front ++ next) (found ++ more)
more-zipped R [] next [] more are then = then
more-zipped R [] next (b ∷ found) more are then = absurd are
more-zipped R (a ∷ front) next [] more are then = absurd are
more-zipped R (a ∷ front) next (b ∷ found) more are then = (are.0, more-zipped R front next found more are.1 then)

module _ {A : Type 0} (all next after : List A) (done : ℕ) (within : done ≤ length all) (left : next ++ after ≡ drop done all) where
  pub cut : all ≡ take done all ++ (next ++ after)
  cut = sym (take-append-drop done all) ∙ ap (λ l. take done all ++ l) (sym left)

  sizes : length (take done all) + length (drop done all) ≡ length all
  sizes = sym (length-append (take done all) (drop done all)) ∙ ap length (take-append-drop done all)

  taken : length (take done all) ≡ done
  taken = length-take-le done all within

  seam : length (take done all ++ next) ≡ done + length next
  seam = length-append (take done all) next ∙ ap (λ n. n + length next) taken

  pub longer : take (done + length next) all ≡ take done all ++ next
  longer = ap (λ n. take n all) (sym seam) ∙ ap (take (length (take done all ++ next))) (cut ∙ sym (append_assoc (take done all) next after))
      ∙ take-append_seam (take done all ++ next) after

  pub still_within : done + length next ≤ length all
  still_within =
      let size = length-append next after in
      let same = ap length left in
      let whole = sizes in
      let known = taken in
      omega arith
