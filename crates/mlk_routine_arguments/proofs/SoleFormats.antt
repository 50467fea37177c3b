-- At a place there is at most one thing of its kind: the arguments of READ, WRITE and SET, those of commands of devices, and those of
-- FOR.
use Rattle.std.proofs.Common.{◌≡◌, ◌+◌, ℕ, suc, List, [], ◌∷◌, ◌++◌, drop, Some, None, refl, sym, ap, ◌∙◌, inl, inr, append-nil}
use Rattle.std.specs.Prelude.{Option}
use Rattle.std.proofs.lemmas.Bool.{cases_Bool}
use Rattle.std.proofs.lemmas.Option.{same_Some}
use Rattle.mlk_text.specs.Lexemes.{word_at}
use Rattle.mlk_text.proofs.Readers.{pair_parts}
use Rattle.mlk_dialect.specs.declared.dialect.Dialect.{Dialect}
use Rattle.mlk_expr.specs.declared.context.Allows.TheVariants.{Everything, NoCalls}
use Rattle.mlk_syntax.specs.ExprTrees.{Tree}
use Rattle.mlk_expr.specs.Grammar.{IsExprWhere, AreNext}
use Rattle.mlk_expr.specs.Theorem.{ExprEnds}
use Rattle.mlk_syntax.specs.Trees.{VariableTree, TargetTree, SetWhole, SetPart}
use Rattle.mlk_routine_arguments.specs.PartsRead.{first_of, byte_at}
use Rattle.mlk_routine_arguments.specs.Ends.{VariableEnds, AfterEnds, AnyEnds, IsPrompt, PromptEnds, starts_format, FormatEnds, WriteEnds, ReadEnds, NextEnds, part_of, IsPartOpening, TargetEnds, SetEnds, ParameterEnds, ControlEnds, DeviceEnds}
use Rattle.mlk_routine_arguments.specs.Stops.{expr_stop, target_stop, parameter_stop}
use Rattle.mlk_routine_arguments.specs.CommandGrammar.{IsAfter, IsVariable, IsLocal, is_mark, IsFormat, IsRead, after_local, after_most, in_set, IsTarget, IsSet, IsWrite, IsParameter, IsControl, IsDevice}
use Rattle.mlk_routine_arguments.proofs.Sole.{Alone, byte_or_not, sole_only, sole_within, alone_after, sole_both, sole_as, sole_turned}
use Rattle.mlk_routine_arguments.proofs.SoleArguments.{expr_alone, variable_alone, name_alone, optional_alone, run_alone, byte_alone, list_alone, one_sole}
use Rattle.mlk_routine_arguments.proofs.Prompts.{read_inside}
use Rattle.mlk_routine_arguments.proofs.Formats.{IsMarked, marked_parts, write_format, write_character, write_value}
use Rattle.mlk_routine_arguments.proofs.Parameters.{IsLimit, LimitEnds, IsSteps, StepsEnd, steps_parts, parameter_parts}
use Rattle.mlk_routine_arguments.proofs.Controls.{control_parts}
use Rattle.mlk_routine_arguments.proofs.DeviceDetails.{device_parts, details_alone}
use Rattle.mlk_routine_arguments.proofs.ReadArguments as reads
use Rattle.mlk_routine_arguments.proofs.ReadArguments.{local_colon, most_colon, IsLimits, LimitsEnd, IsTimedLocal, TimedLocalEnds, read_prompt, read_format, read_character, line_parts}
use Rattle.mlk_routine_arguments.proofs.Targets.{part_reads, target_reads, arguments_turned, IsInner, InnerEnds, inner_parts, IsClosing, closing_parts, target_parts, target_shut, set_parts}

-- formats, and WRITE
format_alone : Alone IsFormat FormatEnds
format_alone line at less =
    sole_within {Wide = IsMarked} (λ tab s rest is e. (wide tab s is, e))
    (sole_both (marked_parts line at) less (run_alone is_mark line at less) (λ u m s. optional_alone 63 Everything line m s.within))
  where
    wide : (tab : Option Tree) (s : List ℕ) → IsFormat (suc at) tab s → IsMarked (suc at) tab s
    wide None s is = (s, [], sym (append-nil s), is.0, refl)
    wide (Some t) s is = is

pub write_alone : Alone IsWrite WriteEnds
write_alone line at less = elim (cases_Bool (starts_format (drop at line))) [
  | inl begins ↦ sole_turned (write_format line at begins) (format_alone line at less)
  | inr other ↦ elim (byte_or_not line at 42) [
    | inl here ↦ sole_turned (write_character line at here) (alone_after 42 (expr_alone Everything) line at less)
    | inr missing ↦ sole_turned (write_value line at other missing) (expr_alone Everything line at less)
  ]
]

-- READ
prompt_alone : Alone IsPrompt PromptEnds
prompt_alone line at less a n s b u rest h is e =
    let here : byte_at line at ≡ Some 34 = ap first_of (s.joined ∙ ap (λ l. l ++ drop n line) s.spelled.0) in
    let one = read_inside line at here a s.text (drop n line) s.joined s.spelled s.ended in
    let two = read_inside line at here b u rest h is e in
    pair_parts b a rest (drop n line) (sym two ∙ one)

local_alone : Alone IsLocal VariableEnds
local_alone line at less = sole_within (λ v s rest is e. (is.0, e)) (variable_alone Everything line at less)

timed_local_alone : (d : Dialect) → Alone (IsTimedLocal d) TimedLocalEnds
timed_local_alone d line at less = sole_both (reads.timed_parts (after_local d) IsLocal VariableEnds local_colon line at) less (local_alone line at less) (λ v m s. optional_alone 58 (after_local d v) line m s.within)

limits_alone : (d : Dialect) (v : VariableTree) → Alone (IsLimits d v) LimitsEnd
limits_alone d v line at less = sole_both (reads.timed_parts (after_most d v) (IsAfter 35 Everything) (AfterEnds 35) most_colon line at) less (optional_alone 35 Everything line at less) (λ most m s. optional_alone 58 (after_most d v most) line m s.within)

pub read_alone : (d : Dialect) → Alone (IsRead d) ReadEnds
read_alone d line at less = elim (byte_or_not line at 34) [
  | inl here ↦ sole_turned (read_prompt d line at here) (prompt_alone line at less)
  | inr quote ↦ elim (cases_Bool (starts_format (drop at line))) [
    | inl begins ↦ sole_turned (read_format d line at begins) (format_alone line at less)
    | inr other ↦ elim (byte_or_not line at 42) [
      | inl here ↦ sole_turned (read_character d line at here) (alone_after 42 (timed_local_alone d) line at less)
      | inr star ↦ sole_both (line_parts d line at quote other star) less (local_alone line at less) (λ v m s. limits_alone d v line m s.within)
    ]
  ]
]

-- SET
opening_alone : Alone IsPartOpening AnyEnds
opening_alone line at less a n s b u rest h is e = go s.spelled is
  where
    go : IsPartOpening (suc at) a s.text → IsPartOpening (suc at) b u → (b ≡ a) × (rest ≡ drop n line)
    go (v, one, good) (w, two, also) =
        let here : byte_at line at ≡ Some 36 = ap first_of (s.joined ∙ ap (λ l. l ++ drop n line) one) in
        let word = (word_at (drop (at + 1) line)).0 in
        let after = (word_at (drop (at + 1) line)).1 in
        let f = part_reads a v good in
        let g = part_reads b w also in
        let x = target_reads line at here word after refl v s.text (drop n line) s.joined one f.0 in
        let y = target_reads line at here word after refl w u rest h two g.0 in
        let same : 40 ∷ rest ≡ 40 ∷ drop n line = y.1 ∙ sym x.1 in
        (same_Some b a (sym g.1 ∙ ap part_of (y.0 ∙ sym x.0) ∙ f.1), cc same)

arguments_alone : Alone (AreNext (IsExprWhere NoCalls)) NextEnds
arguments_alone line at less = elim (byte_or_not line at 44) [
  | inl here ↦ sole_turned (arguments_turned line at here) (alone_after 44 (list_alone (IsExprWhere NoCalls) ExprEnds expr_stop (expr_alone NoCalls)) line at less)
  | inr missing ↦ sole_only [] at (λ c u rest h is e. go missing c u rest h is)
]
  where
    go : (byte_at line at ≡ Some 44 → ⊥) → (c : List Tree) (u rest : List ℕ) → drop at line ≡ u ++ rest → AreNext (IsExprWhere NoCalls) (suc at) c u → (c ≡ []) × (rest ≡ drop at line)
    go missing [] u rest h is = (refl, sym (h ∙ ap (λ l. l ++ rest) is))
    go missing (t ∷ more) u rest h (front, back, is, one, next) = absurd (missing (ap first_of (h ∙ ap (λ l. l ++ rest) is)))

inner_alone : Alone IsInner InnerEnds
inner_alone line at less = sole_both (inner_parts line at) less (variable_alone NoCalls line at less) (λ v m s. arguments_alone line m s.within)

closing_alone : Alone IsClosing AnyEnds
closing_alone line at less = sole_both (closing_parts line at) less (inner_alone line at less) (λ p m s. byte_alone 41 line m s.within)

target_alone : (d : Dialect) → Alone (IsTarget d) TargetEnds
target_alone d line at less = elim (byte_or_not line at 36) [
  | inl here ↦ sole_both (target_parts d line at here) less (opening_alone line at less) (λ p m s. closing_alone line m s.within)
  | inr missing ↦ sole_as SetWhole (λ c u rest h is e. go missing c u rest h is e) (variable_alone (in_set d) line at less)
]
  where
    go : (byte_at line at ≡ Some 36 → ⊥) → (c : TargetTree) (u rest : List ℕ) → drop at line ≡ u ++ rest → IsTarget d (suc at) c u → TargetEnds c rest → (v : VariableTree) × (c ≡ SetWhole v) × IsVariable (in_set d) (suc at) v u × VariableEnds v rest
    go missing (SetWhole v) u rest h is e = (v, refl, is, e)
    go missing (SetPart part v arguments) u rest h is e = absurd (missing (ap first_of (h ∙ ap (λ l. l ++ rest) (is.3))))

pub set_alone : (d : Dialect) → Alone (IsSet d) SetEnds
set_alone d line at less =
    sole_both (set_parts d line at) less (one_sole (IsTarget d) TargetEnds target_stop (target_alone d) (target_shut d) line at less)
    (λ targets m s. alone_after 61 (expr_alone (in_set d)) line m s.within)

-- FOR
limit_alone : (step : Option Tree) → Alone (IsLimit step) (LimitEnds step)
limit_alone None line at less = sole_only None at (λ c u rest h is e. (is.0, sym (h ∙ ap (λ l. l ++ rest) is.1)))
limit_alone (Some step) line at less = optional_alone 58 Everything line at less

steps_alone : Alone IsSteps (λ p rest. StepsEnd (p.0) (p.1) rest)
steps_alone line at less = sole_both (steps_parts line at) less (optional_alone 58 Everything line at less) (λ step m s. limit_alone step line m s.within)

parameter_alone : Alone IsParameter ParameterEnds
parameter_alone line at less = sole_both (parameter_parts line at) less (expr_alone Everything line at less) (λ start m s. steps_alone line m s.within)

pub control_alone : Alone IsControl ControlEnds
control_alone line at less = sole_both (control_parts line at) less (name_alone line at less) (λ name m s. alone_after 61 (list_alone IsParameter ParameterEnds parameter_stop parameter_alone) line m s.within)

-- OPEN, USE and CLOSE
pub device_alone : Alone IsDevice DeviceEnds
device_alone line at less = sole_both (device_parts line at) less (expr_alone Everything line at less) (λ t m s. details_alone line m s.within)
