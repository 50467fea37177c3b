-- How reports and refusals are printed. This project's own choice.
use Rattle.std.specs.Borrow.{Bor}
use Rattle.std.specs.Prelude.{ℕ, zero, suc, ◌≡◌, ◌+◌, ◌++◌, ◌==◌, ◌&&◌, length, List, [], ◌∷◌, Bool, true, false, Option, None}
use Rattle.std.specs.Prelude.{Some, codes, slice_get}
use Rattle.mlk_baseline.specs.declared.baseline.Comparison.{Comparison}
use Rattle.mlk_syntax.specs.Trees.{RoutineTree}
use Rattle.mlk_walk.specs.declared.report.Row.{Row}
use Rattle.mlk_hazards.specs.declared.hazard.HazardAt.{HazardAt}
use Rattle.mlk_hazards.specs.Words.{hazard_word}
use Rattle.std.specs.Fmt.{decimal}
use Rattle.mlk_coverage.specs.declared.gap.Gap.{Gap}
use Rattle.mlk_coverage.specs.declared.gap.GapPlace.{GapPlace}
use Rattle.mlk_coverage.specs.declared.gap.GapPlace.TheVariants as place
use Rattle.mlk_coverage.specs.Words.{gap_word, kind_word}
use Rattle.mlk_cli.specs.declared.words.Output.{Output}
use Rattle.mlk_cli.specs.declared.words.Output.TheVariants.{Text, Json, Sarif, Lines}
use Rattle.mlk_cli.specs.declared.words.ReportStyle.{ReportStyle}
use Rattle.mlk_plain_report.specs.Texts.{row_line, row_lines, last_line, place_text, space, line_end}
use Rattle.mlk_output.specs.Documents.{IsJsonReport, IsSarifReport, known_in}

-- the rows with these numbers, counted from 0
abbrev pub row_if_there : Option Row → List Row
row_if_there None = []
row_if_there (Some r) = r ∷ []

abbrev pub rows_at : List Row → List ℕ → List Row
rows_at rows [] = []
rows_at rows (n ∷ ns) = row_if_there (slice_get rows n) ++ rows_at rows ns

-- The rows of a report that are printed: all, or, if they are compared with known faults, those that are not known.
abbrev pub printed_rows : Option (Bor Comparison) → List Row → List Row
printed_rows None rows = rows
printed_rows (Some comparison) rows = rows_at rows comparison.now.news.items

-- `known N`
abbrev pub known_line : ℕ → List ℕ
known_line known = codes "known " ++ decimal known ++ line_end

-- The answer of a report with these rows, besides which a number of faults is known: `known N` if there is no row and some are
-- known; else as ever, `yes` or `no N`.
abbrev pub answer_line : ℕ → List Row → List ℕ
answer_line zero rows = last_line rows
answer_line (suc known) [] = known_line (suc known)
answer_line (suc known) (r ∷ rows) = last_line (r ∷ rows)

-- The lines below the answer on known faults that do not occur. What they say is not said; there are none unless faults are
-- compared with known ones.
abbrev pub AreGone : Option (Bor Comparison) → List ℕ → Type 0
AreGone None gone = gone ≡ []
AreGone (Some comparison) gone = Unit {0}

-- `rests on inert N`: on how many words a report rests that were read as any value. There is no such line if there is a fault, if no
-- such word was read, or if such words are not read at all.
abbrev pub rests_line : List Row → Option ℕ → List ℕ
rests_line (r ∷ rows) rests = []
rests_line [] None = []
rests_line [] (Some zero) = []
rests_line [] (Some (suc n)) = codes "rests on inert " ++ decimal (suc n) ++ line_end

-- the lines below the answer
abbrev pub AreBelow : Option (Bor Comparison) → List ℕ → List ℕ → Type 0
AreBelow comparison rests below = (gone : List ℕ) × AreGone comparison gone × (below ≡ gone ++ rests)

-- a line for each row, the answer, and what is below it
abbrev pub answered_text : List RoutineTree → List Row → ℕ → List ℕ → List ℕ
answered_text trees rows known below = (row_lines trees rows ++ answer_line known rows) ++ below

-- The place of a row before its line, `PATH:line:column: `. Which path it is, is not said.
abbrev pub IsPlace : Row → List ℕ → Type 0
IsPlace r text = (path : List ℕ) × (text ≡ path ++ (codes ":" ++ (place_text r.fault.line r.fault.column ++ codes ": ")))

-- lines of rows, each after its place, are added to a text
abbrev pub ArePlaced : List RoutineTree → List Row → List ℕ → List ℕ → Type 0
ArePlaced trees [] old new = new ≡ old
ArePlaced trees (r ∷ rows) old new = (place : List ℕ) × IsPlace r place × ArePlaced trees rows ((old ++ place) ++ row_line trees r) new

-- `hazard ROUTINE line:column NAME`
abbrev pub hazard_line : HazardAt → List ℕ
hazard_line h =
    codes "hazard " ++ h.position.routine.now ++ space ++ place_text h.position.line h.position.column ++ space
    ++ hazard_word h.hazard ++ line_end

abbrev pub hazard_lines : List HazardAt → List ℕ
hazard_lines [] = []
hazard_lines (h ∷ hazards) = hazard_line h ++ hazard_lines hazards

-- the place of a gap: a label's line, or a rule by its section and number
abbrev pub gap_place : GapPlace → List ℕ
gap_place place.Entries = codes "rules entry 0"
gap_place (place.Label l) = l.routine.now ++ space ++ place_text l.line 1
gap_place (place.Rule r) = codes "rules " ++ kind_word r.kind ++ space ++ decimal r.number

-- `hazard PLACE NAME`
abbrev pub gap_line : Gap → List ℕ
gap_line g = codes "hazard " ++ gap_place g.place ++ space ++ gap_word g.kind ++ line_end

abbrev pub gap_lines : List Gap → List ℕ
gap_lines [] = []
gap_lines (g ∷ gaps) = gap_line g ++ gap_lines gaps

-- the lines below an answer
abbrev pub warning_lines : List HazardAt → List Gap → List ℕ
warning_lines hazards gaps = hazard_lines hazards ++ gap_lines gaps

-- The gaps that are reported. Which they are is not said; there are none unless they are asked for.
abbrev pub AreGaps : Bool → List Gap → Type 0
AreGaps true gaps = Unit {0}
AreGaps false gaps = gaps ≡ []

-- The hazards that are reported. Which they are is not said; there are none unless they are asked for.
abbrev pub AreReported : Bool → List HazardAt → Type 0
AreReported true hazards = Unit {0}
AreReported false hazards = hazards ≡ []

-- the report passes: it has no row, and no hazard and no gap is reported with it
abbrev pub passes : List Row → List HazardAt → List Gap → Bool
passes rows hazards gaps = (length rows == 0) && ((length hazards == 0) && (length gaps == 0))

-- The text is one JSON object on lines: its answer says whether there is a fault, and it lists as many as there are.
abbrev pub IsJson : List Row → ℕ → List ℕ → Type 0
IsJson rows known text = (document : List ℕ) × IsJsonReport (length rows) known document × (text ≡ document ++ line_end)

-- The text is one SARIF document on lines, with a result for each fault, each hazard and each gap.
abbrev pub IsSarif : List Row → List HazardAt → List Gap → List ℕ → Type 0
IsSarif rows hazards gaps text =
    (document : List ℕ) × IsSarifReport ((length rows + length hazards) + length gaps) document × (text ≡ document ++ line_end)

-- the text of a report with the place of each fault before its line
abbrev pub IsPlacedText : List RoutineTree → List Row → ℕ → List ℕ → List HazardAt → List Gap → List ℕ → Type 0
IsPlacedText trees rows known below hazards gaps text =
    (faults : List ℕ) × ArePlaced trees rows [] faults
    × (text ≡ ((faults ++ answer_line known rows) ++ below) ++ warning_lines hazards gaps)

-- The text of a report, with a line for each hazard and each gap, and with places or without; or it as JSON or SARIF.
abbrev pub IsReportIn : Output → List RoutineTree → List Row → ℕ → List ℕ → List HazardAt → List Gap → List ℕ → Type 0
IsReportIn Text trees rows known below hazards gaps text = text ≡ answered_text trees rows known below ++ warning_lines hazards gaps
IsReportIn Json trees rows known below hazards gaps text = IsJson rows known text
IsReportIn Sarif trees rows known below hazards gaps text = IsSarif rows hazards gaps text
IsReportIn Lines trees rows known below hazards gaps text = IsPlacedText trees rows known below hazards gaps text

-- The text of a report whose faults are explained. What it says of each fault is not said; then come the answer, perhaps notes, which
-- may list known faults that do not occur, and faults behind these, and say how much was checked, and a line for each hazard and each
-- gap.
abbrev pub IsExplained : List Row → ℕ → List HazardAt → List Gap → List ℕ → Type 0
IsExplained rows known hazards gaps text =
    (faults note : List ℕ) × (text ≡ ((faults ++ answer_line known rows) ++ note) ++ warning_lines hazards gaps)

-- The text where faults are explained or not, and the one that is its answer alone.
abbrev pub IsReportWith : Bool → Bool → Output → List RoutineTree → List Row → ℕ → List ℕ → List HazardAt → List Gap → List ℕ → Type 0
IsReportWith true explained output trees rows known below hazards gaps text = text ≡ answer_line known rows
IsReportWith false true output trees rows known below hazards gaps text = IsExplained rows known hazards gaps text
IsReportWith false false output trees rows known below hazards gaps text = IsReportIn output trees rows known below hazards gaps text

abbrev pub IsReportAs : ReportStyle → List RoutineTree → List Row → ℕ → List ℕ → List HazardAt → List Gap → List ℕ → Type 0
IsReportAs style trees rows known below hazards gaps text =
    IsReportWith style.is_quiet style.is_explained style.output trees rows known below hazards gaps text

-- A report as it is printed in a style, beside known faults if it is compared with these, and whether it passes: it does if each of its
-- faults is known.
pub record IsRendered (style : ReportStyle) (rests : Option ℕ) (comparison : Option (Bor Comparison)) (trees : List RoutineTree)
    (rows : List Row) (text : List ℕ) (passed : Bool) : Type 0 where
  pub hazards : List HazardAt
  pub gaps : List Gap
  pub below : List ℕ
  pub reported : AreReported style.is_strict hazards
  pub found : AreGaps style.is_strict gaps
  pub lines : AreBelow comparison (rests_line (printed_rows comparison rows) rests) below
  pub printed : IsReportAs style trees (printed_rows comparison rows) (known_in comparison) below hazards gaps text
  pub ended : passed ≡ passes (printed_rows comparison rows) hazards gaps

-- what is printed of a refusal beside the line on the error stream: nothing if text is asked for
abbrev pub IsNoticed : Output → Option (List ℕ) → Type 0
IsNoticed Text notice = notice ≡ None
IsNoticed Lines notice = notice ≡ None
IsNoticed Json notice = Unit {0}
IsNoticed Sarif notice = Unit {0}
