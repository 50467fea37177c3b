-- One item, or several in parentheses.
use Rattle.std.proofs.Common.{◌≡◌, ℕ, suc, List, [], ◌∷◌, ◌++◌, drop, Some, inl, inr, refl, sym, ap, ◌∙◌, subst}
use Rattle.std.proofs.lemmas.Option.{same_Some}
use Rattle.mlk_expr.specs.Grammar.{Spelled}
use Rattle.mlk_routine_arguments.specs.PartsRead.{first_of, byte_at}
use Rattle.mlk_routine_arguments.specs.Ends.{AnyEnds, Begins, SingleEnds, OneEnds}
use Rattle.mlk_routine_arguments.specs.CommandGrammar.{AreEnclosed, IsOneOrEnclosed}
use Rattle.mlk_routine_arguments.proofs.Sequences.{Turned}

module _ {A : Type 0} (Is : Spelled A) (Ends : A → List ℕ → Type 0) (shut : (k : ℕ) (a : A) (s : List ℕ) → Is k a s → Begins s) (line : List ℕ) (at : ℕ) where
  pub enclosed_one : byte_at line at ≡ Some 40 → Turned line at (AreEnclosed Is) AnyEnds (IsOneOrEnclosed Is) (OneEnds Ends (byte_at line at)) (λ items. items)
  enclosed_one here = record {
    into = λ items s is. inr is;
    ends = λ items rest e. inl here;
    apart = λ c u rest h is e. go c u rest h is;
  }
    where
      go : (c : List A) (u rest : List ℕ) → drop at line ≡ u ++ rest → IsOneOrEnclosed Is (suc at) c u → (items : List A) × (c ≡ items) × AreEnclosed Is (suc at) items u × Unit {0}
      go c u rest h (inl (item, same, one)) =
          let b = shut (suc at) item u one in
          absurd (b.3 (sym (same_Some 40 (b.0) (sym here ∙ ap first_of (h ∙ ap (λ l. l ++ rest) (b.2))))))
      go c u rest h (inr list) = (c, refl, list, tt)

  pub single_one : (byte_at line at ≡ Some 40 → ⊥) → Turned line at Is Ends (IsOneOrEnclosed Is) (OneEnds Ends (byte_at line at)) (λ a. a ∷ [])
  single_one missing = record {
    into = λ a s is. inl (a, refl, is);
    ends = λ a rest e. inr e;
    apart = λ c u rest h is e. go c u rest h is e;
  }
    where
      go : (c : List A) (u rest : List ℕ) → drop at line ≡ u ++ rest → IsOneOrEnclosed Is (suc at) c u → OneEnds Ends (byte_at line at) c rest → (a : A) × (c ≡ a ∷ []) × Is (suc at) a u × Ends a rest
      go c u rest h is (inl here) = absurd (missing here)
      go c u rest h (inl (item, same, one)) (inr e) = (item, same, one, subst (λ l. SingleEnds Ends l rest) same e)
      go c u rest h (inr (inner, is, list)) (inr e) = absurd (missing (ap first_of (h ∙ ap (λ l. l ++ rest) is)))
