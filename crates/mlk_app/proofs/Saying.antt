-- What is answered to a request.
use Rattle.std.proofs.Common.{◌≡◌, ◌∙◌, ◌∷◌, ℕ, List, [], Bool, true, false, Option, None, Some, inl, inr, refl, sym, subst, arith}
use Rattle.std.specs.Prelude.{◌||◌, Vec, is_some}
use Rattle.std.specs.Global.{Global}
use Rattle.mlk_baseline.specs.declared.baseline.Baseline.{Baseline}
use Rattle.mlk_baseline.specs.declared.baseline.BaselineFault.{BaselineFault}
use Rattle.mlk_baseline.specs.declared.baseline.Comparison.{Comparison}
use Rattle.mlk_files.specs.declared.source.Sources.{Sources}
use Rattle.std.specs.Borrow.{Bor}
use Rattle.mlk_text.specs.declared.failure.Failure.TheVariants as failure
use Rattle.mlk_cert.specs.declared.read.fault.CertFault.{CertFault}
use Rattle.mlk_cli.specs.declared.words.Format.{Format}
use Rattle.mlk_cli.specs.declared.words.ProgramRequest.{ProgramRequest}
use Rattle.mlk_cli.specs.declared.words.Request.TheVariants as request
use Rattle.mlk_walk.specs.declared.report.Row.{Row}
use Rattle.mlk_syntax.specs.Trees.{RoutineTree}
use Rattle.mlk_cli.specs.declared.words.Output.{Output}
use Rattle.mlk_cli.specs.declared.words.Output.TheVariants as output
use Rattle.mlk_cli.specs.declared.words.ReportStyle.{ReportStyle}
use Rattle.mlk_cli.specs.declared.words.SurveyRequest.{SurveyRequest}
use Rattle.mlk_forms.specs.Rendering.{IsRendered, IsNoticed, printed_rows}
use Rattle.mlk_forms.proofs.Styles.{passed-no-row}
use Rattle.mlk_outcome.specs.declared.refusal.NoReport.{NoReport}
use Rattle.mlk_reading.specs.declared.source.Source.{Source}
use Rattle.mlk_app.specs.declared.answer.Answer.{Answer}
use Rattle.mlk_app.specs.declared.answer.Answer.TheVariants as answer
use Rattle.mlk_files.specs.declared.source.FileError.TheVariants as error
use Rattle.mlk_files.specs.Files.{AreSources, Texts, AreTexts, written_path, IsGivenText, Loses, LosesFirst, cert_format}
use Rattle.mlk_files.proofs.Texts.{loses-front}
use Rattle.mlk_cli.specs.CommandLine.{bytes_of}
use Rattle.mlk_outcome.specs.Conversion.{IsUnconverted}
use Rattle.mlk_app.specs.Printing.{IsPrintedOfTexts, IsRefusedSources, IsReportAnswer}
use Rattle.mlk_refusal_lines.specs.Lines.{baseline_line}
use Rattle.mlk_app.specs.Ran.{style_in, status_in, status_of, AreKnown, IsBaselineRefused, IsPrintedBeside, IsProgramReported, PrintsSurvey, TellsBaseline, TellsRefusal, TellsFault, TellsUnread, TellsPage, Answers}

one-not-zero : ◌≡◌ {A = ℕ} 1 0 → ⊥
one-not-zero e = omega (arith, e)

-- what is printed of a report
report-yes : (style : ReportStyle) (rests : Option ℕ) (comparison : Option (Bor Comparison)) (trees : List RoutineTree) (rows : List Row) (text : List ℕ) (passed zero : Bool) → IsRendered style rests comparison trees rows text passed → zero ≡ false
    → status_of (passed || zero) ≡ 0 → printed_rows comparison rows ≡ []
report-yes style rests comparison trees rows text true zero printed not ended = passed-no-row style rests comparison trees rows text printed
report-yes style rests comparison trees rows text false true printed not ended = cc
report-yes style rests comparison trees rows text false false printed not ended = absurd (one-not-zero ended)

pub report-printed : (style : ReportStyle) (rests : Option ℕ) (comparison : Option (Bor Comparison)) (trees : List RoutineTree) (rows : List Row) (text : List ℕ) (passed : Bool) (status : ℕ) → IsRendered style rests comparison trees rows text passed
    → status ≡ status_in style passed → IsPrintedBeside style rests comparison trees rows text status
report-printed style rests comparison trees rows text passed status printed ended = record {
  passed = passed;
  printed = printed;
  ended = ended;
  yes = λ not zero. report-yes style rests comparison trees rows text passed style.exits_zero printed not (sym ended ∙ zero);
}

pub no-notice : (output : Output) → IsNoticed output None
no-notice output.Text = refl
no-notice output.Json = record {}
no-notice output.Sarif = record {}
no-notice output.Lines = refl

-- There are known faults if a file of them was read, and one was if the words name it.
known-given : (holds : Texts) (path : Option (Bor (List ℕ))) (text : Option (Vec ℕ Global)) (known : Option (Bor Baseline)) → IsGivenText holds path text → is_some known ≡ is_some text → AreKnown path known
known-given holds None None None given same = refl
known-given holds None None (Some known) given same = cc
known-given holds None (Some text) known given same = absurd given
known-given holds (Some path) None known given same = absurd given
known-given holds (Some path) (Some text) None given same = cc
known-given holds (Some path) (Some text) (Some known) given same = record {}

pub program-reported : (holds : Texts) (program : ProgramRequest) (sources : Sources) (known : Option (Bor Baseline)) (text : List ℕ) (status : ℕ) → AreTexts holds program sources → is_some known ≡ is_some sources.baseline
    → IsPrintedOfTexts program known sources text status → IsProgramReported holds program text status
program-reported holds program sources known text status texts same (trees, read, (linked, rules, said, printed)) = record {
  sources = sources;
  texts = texts;
  trees = trees;
  read = read;
  linked = linked;
  rules = rules;
  said = said;
  known = known;
  beside = known-given holds program.baseline sources.baseline known texts.baseline same;
  printed = printed;
}

pub refusal-answers : (holds : Texts) (unreadable : List ℕ → Type 0) (program : ProgramRequest) (sources : Sources) (r : NoReport) (a : Answer) → AreTexts holds program sources → IsRefusedSources sources r → TellsRefusal (style_in program.asked).output r a
    → Answers holds unreadable (request.Program program) a
refusal-answers holds unreadable program sources r (answer.Report text status) texts refused printed = absurd printed
refusal-answers holds unreadable program sources r (answer.Refused line notice help) texts refused printed = (
  inl (record {
    sources = sources;
    texts = texts;
    reason = r;
    refused = refused;
    printed = printed.0;
  }),
  printed.1,
)
refusal-answers holds unreadable program sources r (answer.Unread line help) texts refused printed = absurd printed
refusal-answers holds unreadable program sources r (answer.Usage text) texts refused printed = absurd printed
refusal-answers holds unreadable program sources r answer.OutOfMemory texts refused printed = record {}

plain-notice : (output : Output) (notice : Option (List ℕ)) → notice ≡ None → IsNoticed output notice
plain-notice output notice none = subst (IsNoticed output) (sym none) (no-notice output)

baseline-refused : (holds : Texts) (program : ProgramRequest) (path : Option (Bor (List ℕ))) (text : Option (Vec ℕ Global)) (fault : BaselineFault) (line : List ℕ) → program.baseline ≡ path → IsGivenText holds path text → is_some text ≡ true
    → line ≡ baseline_line fault → IsBaselineRefused holds program line
baseline-refused holds program None None fault line named given there is = cc
baseline-refused holds program None (Some text) fault line named given there is = absurd given
baseline-refused holds program (Some path) None fault line named given there is = absurd given
baseline-refused holds program (Some path) (Some text) fault line named given there is = record {
  path = path;
  named = named;
  given = text.items;
  held = given;
  fault = fault;
  printed = is;
}

-- what is answered where a line of known faults is refused
pub baseline-answers : (holds : Texts) (unreadable : List ℕ → Type 0) (program : ProgramRequest) (text : Option (Vec ℕ Global)) (fault : BaselineFault) (a : Answer) → IsGivenText holds program.baseline text → is_some text ≡ true
    → TellsBaseline fault a → Answers holds unreadable (request.Program program) a
baseline-answers holds unreadable program text fault (answer.Report said status) given there told = absurd told
baseline-answers holds unreadable program text fault (answer.Refused line notice help) given there told =
    (inr (baseline-refused holds program program.baseline text fault line refl given there told.0), plain-notice (style_in program.asked).output notice told.1)
baseline-answers holds unreadable program text fault (answer.Unread line help) given there told = absurd told
baseline-answers holds unreadable program text fault (answer.Usage said) given there told = absurd told
baseline-answers holds unreadable program text fault answer.OutOfMemory given there told = record {}

-- what is answered where a report was printed
pub report-answers : (holds : Texts) (unreadable : List ℕ → Type 0) (program : ProgramRequest) (text : List ℕ) (status : ℕ) (a : Answer) → IsProgramReported holds program text status → IsReportAnswer program text status a
    → Answers holds unreadable (request.Program program) a
report-answers holds unreadable program text status (answer.Report said ended) reported told = subst (λ t. IsProgramReported holds program t ended) (sym told.0) (subst (IsProgramReported holds program text) (sym told.1) reported)
report-answers holds unreadable program text status (answer.Refused line notice help) reported told = absurd told
report-answers holds unreadable program text status (answer.Unread line help) reported told = inr (inl told)
report-answers holds unreadable program text status (answer.Usage said) reported told = absurd told
report-answers holds unreadable program text status answer.OutOfMemory reported told = record {}

-- what is answered where events can't be written
pub unwritten_answers : (holds : Texts) (unreadable : List ℕ → Type 0) (program : ProgramRequest) (path : List ℕ) (a : Answer) → written_path program.asked ≡ path ∷ [] → TellsUnread path a
    → Answers holds unreadable (request.Program program) a
unwritten_answers holds unreadable program path (answer.Report said status) named told = absurd told
unwritten_answers holds unreadable program path (answer.Refused line notice help) named told = absurd told
unwritten_answers holds unreadable program path (answer.Unread line help) named told = inr (inr (record { path = path; named = named; printed = told }))
unwritten_answers holds unreadable program path (answer.Usage said) named told = absurd told
unwritten_answers holds unreadable program path answer.OutOfMemory named told = record {}

-- what is answered where a certificate can't be read, or is not converted
pub unread-answers : (holds : Texts) (unreadable : List ℕ → Type 0) (certificate : Bor (List ℕ)) (format : Format) (path : Bor (List ℕ)) (a : Answer) → Loses unreadable certificate.now (error.Unread path)
    → TellsUnread path.now a → Answers holds unreadable (request.Convert certificate format) a
unread-answers holds unreadable certificate format path (answer.Report text status) lost printed = absurd printed
unread-answers holds unreadable certificate format path (answer.Refused line notice help) lost printed = absurd printed
unread-answers holds unreadable certificate format path (answer.Unread line help) lost printed = record {
  path = path.now;
  lost = loses-front holds unreadable certificate.now [] (error.Unread path) lost;
  printed = printed;
}
unread-answers holds unreadable certificate format path (answer.Usage text) lost printed = absurd printed
unread-answers holds unreadable certificate format path answer.OutOfMemory lost printed = record {}

pub fault-answers : (holds : Texts) (unreadable : List ℕ → Type 0) (certificate : Bor (List ℕ)) (format : Format) (given : List ℕ) (fault : CertFault) (a : Answer) → holds certificate.now given → IsUnconverted (cert_format format) given (failure.Refused fault)
    → TellsFault fault a → Answers holds unreadable (request.Convert certificate format) a
fault-answers holds unreadable certificate format given fault (answer.Report text status) held refused printed = absurd printed
fault-answers holds unreadable certificate format given fault (answer.Refused line notice help) held refused printed = (
  record {
    given = given;
    held = held;
    fault = fault;
    refused = refused;
    printed = printed.0;
  },
  printed.1,
)
fault-answers holds unreadable certificate format given fault (answer.Unread line help) held refused printed = absurd printed
fault-answers holds unreadable certificate format given fault (answer.Usage text) held refused printed = absurd printed
fault-answers holds unreadable certificate format given fault answer.OutOfMemory held refused printed = record {}

-- what is answered where a routine of a survey can't be read
pub survey-answers : (holds : Texts) (unreadable : List ℕ → Type 0) (survey : SurveyRequest) (sources : List Source) (a : Answer) → AreSources holds survey.routines.items sources → PrintsSurvey a
    → Answers holds unreadable (request.Survey survey) a
survey-answers holds unreadable survey sources (answer.Report text status) texts printed = (
  record {
    sources = sources;
    texts = texts;
  },
  printed,
)
survey-answers holds unreadable survey sources (answer.Refused line notice help) texts printed = absurd printed
survey-answers holds unreadable survey sources (answer.Unread line help) texts printed = absurd printed
survey-answers holds unreadable survey sources (answer.Usage text) texts printed = absurd printed
survey-answers holds unreadable survey sources answer.OutOfMemory texts printed = record {}

pub unsurveyed-answers : (holds : Texts) (unreadable : List ℕ → Type 0) (survey : SurveyRequest) (path : Bor (List ℕ)) (a : Answer) → LosesFirst holds unreadable (bytes_of survey.routines.items) (error.Unread path)
    → TellsUnread path.now a → Answers holds unreadable (request.Survey survey) a
unsurveyed-answers holds unreadable survey path (answer.Report text status) lost printed = absurd printed
unsurveyed-answers holds unreadable survey path (answer.Refused line notice help) lost printed = absurd printed
unsurveyed-answers holds unreadable survey path (answer.Unread line help) lost printed = record {
  path = path.now;
  lost = lost;
  printed = printed;
}
unsurveyed-answers holds unreadable survey path (answer.Usage text) lost printed = absurd printed
unsurveyed-answers holds unreadable survey path answer.OutOfMemory lost printed = record {}

-- what is answered where a page is asked for
pub page-answers : (holds : Texts) (unreadable : List ℕ → Type 0) (code : Bor (List ℕ)) (a : Answer) → TellsPage code.now a → Answers holds unreadable (request.Explain code) a
page-answers holds unreadable code (answer.Report text status) printed = printed
page-answers holds unreadable code (answer.Refused line notice help) printed = printed
page-answers holds unreadable code (answer.Unread line help) printed = absurd printed
page-answers holds unreadable code (answer.Usage text) printed = absurd printed
page-answers holds unreadable code answer.OutOfMemory printed = record {}
