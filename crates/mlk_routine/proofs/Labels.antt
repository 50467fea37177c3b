-- The label at the front of a line.
use Rattle.std.proofs.Common.{◌≡◌, ℕ, List, [], ◌∷◌, ◌++◌, Some, None, Bool, true, false, inl, inr, refl, sym, ap, ◌∙◌, arith}
use Rattle.std.specs.Prelude.{Option, ◌||◌, ◌==◌}
use Rattle.std.specs.List.{list_all}
use Rattle.std.proofs.lemmas.Bool.{and_parts}
use Rattle.mlk_text.specs.Lexemes.{is_letter, is_digit}
use Rattle.mlk_text.specs.Spellings.{IsLabel}
use Rattle.mlk_text.proofs.Spelled.{name-parts}
use Rattle.mlk_expr.specs.Grammar.{IsLabelText}
use Rattle.mlk_expr.specs.Theorem.{Stands, LabelEnds}
use Rattle.mlk_routine_arguments.specs.PartsRead.{Found}
use Rattle.mlk_routine_arguments.specs.Ends.{starts}
use Rattle.mlk_routine.specs.Lines.{is_label_byte, IsLabelPart, LabelPartEnds}
use Rattle.mlk_routine_arguments.proofs.Sequences.{Turned}

or_more : (a b c : Bool) → (a || c) ≡ true → (a || b || c) ≡ true
or_more true b c h = refl
or_more false true c h = refl
or_more false false c h = h

or_middle : (a b c : Bool) → b ≡ true → (a || b || c) ≡ true
or_middle true b c h = refl
or_middle false b c h = rw h refl

-- a label begins with one of its bytes
pub label_starts : (label rest : List ℕ) → IsLabel label → starts is_label_byte (label ++ rest) ≡ true
label_starts [] rest (inl name) = cc name
label_starts [] rest (inr h) = absurd (omega (arith, h.1))
label_starts (b ∷ more) rest (inl name) = or_more (is_letter b) (is_digit b) (b == 37) (name-parts b more name).0
label_starts (b ∷ more) rest (inr h) = or_middle (is_letter b) (is_digit b) (b == 37) (and_parts (is_digit b) (list_all is_digit more) h.0).0

module _ (line : List ℕ) where
  pub a_label : starts is_label_byte line ≡ true → Turned line 0 IsLabelText LabelEnds IsLabelPart LabelPartEnds (λ label. Some label)
  a_label here = record {
    into = λ label s is. is;
    ends = λ label rest e. e;
    apart = λ c u rest h is e. go c u rest h is e;
  }
    where
      go : (c : Option (List ℕ)) (u rest : List ℕ) → line ≡ u ++ rest → IsLabelPart 1 c u → LabelPartEnds c rest → (label : List ℕ) × (c ≡ Some label) × IsLabelText 1 label u × LabelEnds label rest
      go None u rest h is e =
          let same : line ≡ rest = h ∙ ap (λ l. l ++ rest) is in
          cc (sym here ∙ ap (starts is_label_byte) same ∙ e)
      go (Some label) u rest h is e = (label, refl, is, e)

  pub no_label : starts is_label_byte line ≡ false → Found IsLabelPart LabelPartEnds line 0 None 0
  no_label missing = (stands, λ c u rest h is e. only c u rest h is e)
    where
      stands : Stands IsLabelPart LabelPartEnds line 0 None 0
      stands = record { text = []; within = omega arith; joined = refl; spelled = refl; ended = missing }

      only : (c : Option (List ℕ)) (u rest : List ℕ) → line ≡ u ++ rest → IsLabelPart 1 c u → LabelPartEnds c rest → (c ≡ None) × (rest ≡ line)
      only None u rest h is e = (refl, sym (h ∙ ap (λ l. l ++ rest) is))
      only (Some label) u rest h is e =
          let begins = ap (λ l. starts is_label_byte (l ++ rest)) is.0 ∙ label_starts label rest is.1 in
          cc (sym missing ∙ ap (starts is_label_byte) h ∙ begins)
