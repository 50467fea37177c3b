-- FOR's variable with its parameters.
use Rattle.mlk_text.specs.Places.{column_at}
use Rattle.std.proofs.Common.{◌≡◌, ◌+◌, ℕ, suc, List, ◌++◌, length, Some, sym, ap, refl, ◌∙◌, arith, subst, add-one}
use Rattle.std.proofs.lemmas.Option.{same_Some}
use Rattle.mlk_expr.specs.Grammar.{IsList, IsNameText}
use Rattle.mlk_expr.specs.Theorem.{LabelEnds}
use Rattle.mlk_syntax.specs.Trees.{ParameterTree, ControlTree, Runs}
use Rattle.mlk_routine_arguments.specs.PartsRead.{byte_at}
use Rattle.mlk_routine_arguments.specs.Ends.{AreEnded, ParameterEnds, ControlEnds}
use Rattle.mlk_routine_arguments.specs.Stops.{name_equals}
use Rattle.mlk_routine_arguments.specs.CommandGrammar.{IsParameter, IsControl}
use Rattle.mlk_routine_arguments.proofs.Sequences.{Parts}
use Rattle.mlk_routine_arguments.proofs.Bytes.{AfterByte}

pub control_parts : (line : List ℕ) (at : ℕ) → Parts line at IsNameText LabelEnds (λ name. AfterByte 61 (IsList IsParameter)) (λ name. AreEnded ParameterEnds) IsControl ControlEnds (λ name parameters. Runs (column_at (at + 1)) name parameters)
control_parts line at = record {
  into = λ name parameters s t one two. (ap column_at (add-one at), (s, t, refl, one, two));
  ends = λ name parameters k t rest is before after. after;
  apart = λ c u rest h is e. go c u rest is e;
}
  where
    go : (c : ControlTree) (u rest : List ℕ) → IsControl (suc at) c u → ControlEnds c rest
        → (name : List ℕ) × (parameters : List ParameterTree) × (s t : List ℕ) × (u ≡ s ++ t) × (c ≡ Runs (column_at (at + 1)) name parameters) × IsNameText (suc at) name s × AfterByte 61 (IsList IsParameter) (suc at + length s) parameters t × LabelEnds name (t ++ rest) × AreEnded ParameterEnds parameters rest
    go (Runs column name parameters) u rest (place, (s, t, is, one, two)) e =
        (name, parameters, s, t, is, ap (λ k. Runs k name parameters) (place ∙ ap column_at (sym (add-one at))), one, two, subst (λ l. LabelEnds name (l ++ rest)) (sym two.1) (name_equals name (two.0 ++ rest)), e)

-- a byte is not another
pub other_byte : (line : List ℕ) (at : ℕ) → byte_at line at ≡ Some 40 → byte_at line at ≡ Some 61 → ⊥
other_byte line at h g = let e = same_Some 40 61 (sym h ∙ g) in omega (arith, e)
