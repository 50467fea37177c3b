-- What it is worth that a report passes, and what is printed where nothing is asked for.
use Rattle.std.proofs.Common.{◌≡◌, ◌∙◌, ◌++◌, ℕ, length, List, [], ◌∷◌, Option, None, Bor, Bool, true, false, refl, sym, ap, subst, arith}
use Rattle.std.specs.Prelude.{◌==◌, ◌&&◌}
use Rattle.std.proofs.lemmas.Bool.{and_parts, eqb-true}
use Rattle.std.proofs.lemmas.List.{append-nil}
use Rattle.mlk_baseline.specs.declared.baseline.Comparison.{Comparison}
use Rattle.mlk_syntax.specs.Trees.{RoutineTree}
use Rattle.mlk_walk.specs.declared.report.Row.{Row}
use Rattle.mlk_hazards.specs.declared.hazard.HazardAt.{HazardAt}
use Rattle.mlk_cli.specs.declared.words.Output.TheVariants.{Text}
use Rattle.mlk_cli.specs.declared.words.ReportStyle.{ReportStyle}
use Rattle.mlk_plain_report.specs.Texts.{report_text}
use Rattle.mlk_coverage.specs.declared.gap.Gap.{Gap}
use Rattle.mlk_forms.proofs.Answering.{no_rests}
use Rattle.mlk_forms.specs.Rendering.{AreBelow, IsRendered, gap_lines, passes, printed_rows, rests_line, warning_lines}

passes-no-row : (rows : List Row) (hazards : List HazardAt) (gaps : List Gap) → passes rows hazards gaps ≡ true → rows ≡ []
passes-no-row [] hazards gaps is = refl
passes-no-row (r ∷ rows) hazards gaps is =
    let none = eqb-true (length (r ∷ rows)) 0 (and_parts (length (r ∷ rows) == 0) ((length hazards == 0) && (length gaps == 0)) is).0 in
    absurd (omega (arith, none))

-- In whatever form a report is printed, it has no fault that is new where it passes.
pub passed-no-row : (style : ReportStyle) (rests : Option ℕ) (comparison : Option (Bor Comparison)) (trees : List RoutineTree) (rows : List Row) (text : List ℕ) → IsRendered style rests comparison trees rows text true → printed_rows comparison rows ≡ []
passed-no-row style rests comparison trees rows text printed = passes-no-row (printed_rows comparison rows) printed.hazards printed.gaps (sym printed.ended)

-- Below the answer is nothing, where no faults are known and no words beyond the subset are read.
nothing-below : (rows : List Row) (below : List ℕ) → AreBelow None (rests_line rows None) below → below ≡ []
nothing-below rows below (gone, none, is) = is ∙ ap (λ g. g ++ rests_line rows None) none ∙ no_rests rows

-- Where the words ask for nothing else, and no faults are known, the text is that of the report and no byte more.
pub plain-text : (style : ReportStyle) (trees : List RoutineTree) (rows : List Row) (text : List ℕ) (passed : Bool)
    → style ≡ record { output = Text; is_strict = false; is_explained = false; is_quiet = false; exits_zero = false } → IsRendered style None None trees rows text passed → text ≡ report_text trees rows
plain-text style trees rows text passed plain printed =
    let usual = subst (λ s. IsRendered s None None trees rows text passed) plain printed in
    usual.printed ∙ ap (λ below. (report_text trees rows ++ below) ++ warning_lines usual.hazards usual.gaps) (nothing-below rows usual.below usual.lines)
    ∙ ap (λ hazards. (report_text trees rows ++ []) ++ warning_lines hazards usual.gaps) usual.reported
    ∙ ap (λ gaps. (report_text trees rows ++ []) ++ gap_lines gaps) usual.found ∙ append-nil (report_text trees rows ++ []) ∙ append-nil (report_text trees rows)
