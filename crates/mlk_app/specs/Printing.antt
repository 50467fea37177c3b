-- What is printed on the way from texts to an answer. It only serves private clauses.
use Rattle.std.specs.Prelude.{ℕ, ◌≡◌, List, Option, Vec, is_some, true}
use Rattle.std.specs.Global.{Global}
use Rattle.mlk_text.specs.declared.failure.Failure.{Failure}
use Rattle.mlk_text.specs.declared.failure.Failure.TheVariants as failure
use Rattle.mlk_app.specs.declared.answer.Answer.{Answer}
use Rattle.mlk_app.specs.declared.answer.Answer.TheVariants as answer
use Rattle.std.specs.Borrow.{Bor}
use Rattle.mlk_baseline.specs.declared.baseline.Baseline.{Baseline}
use Rattle.mlk_syntax.specs.Trees.{RoutineTree}
use Rattle.mlk_program.specs.Program.{IsProgram}
use Rattle.mlk_rules.specs.declared.rules.RuleLists.{RuleLists}
use Rattle.mlk_rules_file.specs.RuleSections.{SaysRules}
use Rattle.mlk_cli.specs.declared.words.ProgramRequest.{ProgramRequest}
use Rattle.mlk_reading.specs.Reading.{AreRead}
use Rattle.mlk_files.specs.declared.source.Sources.{Sources}
use Rattle.mlk_pool.specs.Headline.{RefusesTexts}
use Rattle.mlk_outcome.specs.declared.refusal.NoReport.{NoReport}
use Rattle.mlk_outcome.specs.declared.refusal.NoReport.TheVariants as refusal
use Rattle.mlk_app.specs.declared.work.Subject.{Subject}
use Rattle.mlk_files.specs.Dialects.{as_read, rests_of}
use Rattle.mlk_app.specs.Ran.{ReportRequest, IsPrinted, IsRefusedFor, IsUnwritten}

-- what a report of sources is asked for with
abbrev pub request_of : ProgramRequest → Option (Bor Baseline) → Sources → ReportRequest
request_of program known sources = record { program = program; known = known; rests = rests_of sources }

-- and what a subject's is
abbrev pub asked_of : Subject → ReportRequest
asked_of subject = request_of subject.request.now subject.known subject.sources.now

-- what is printed of trees that make a program, and of the text of rules
abbrev pub IsPrintedOfTrees : ProgramRequest → Option (Bor Baseline) → List RoutineTree → Sources → List ℕ → ℕ → Type 0
IsPrintedOfTrees program known trees sources text status =
    IsProgram trees × (rules : RuleLists) × SaysRules sources.rules.items rules
    × IsPrinted (request_of program known sources) trees rules sources.work text status

-- and of the texts of routines
abbrev pub IsPrintedOfTexts : ProgramRequest → Option (Bor Baseline) → Sources → List ℕ → ℕ → Type 0
IsPrintedOfTexts program known sources text status =
    (trees : List RoutineTree) × AreRead (as_read sources) trees × IsPrintedOfTrees program known trees sources text status

-- why nothing is printed of them
abbrev pub IsRefusedSources : Sources → NoReport → Type 0
IsRefusedSources sources r = RefusesTexts refusal.Check (as_read sources) sources.rules.items (IsRefusedFor sources.work) r

-- known faults are refused only if they are given
abbrev pub RefusesGiven : {E : Type 0} → Option (Vec ℕ Global) → Failure E → Type 0
RefusesGiven text failure.OutOfMemory = Unit {0}
RefusesGiven text (failure.Refused fault) = is_some text ≡ true

-- the report is answered, or that its faults can't be written as known ones, where memory doesn't run out
abbrev pub IsReportAnswer : ProgramRequest → List ℕ → ℕ → Answer → Type 0
IsReportAnswer program text status (answer.Report said ended) = (said ≡ text) × (ended ≡ status)
IsReportAnswer program text status (answer.Refused line notice help) = ⊥
IsReportAnswer program text status (answer.Unread line help) = IsUnwritten program line
IsReportAnswer program text status (answer.Usage said) = ⊥
IsReportAnswer program text status answer.OutOfMemory = Unit {0}
