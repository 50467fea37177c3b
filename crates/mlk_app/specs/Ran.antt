-- What the program says: what it prints on standard output, what it tells on the error stream, and the status that
-- it ends with. This project's own choice.
use Rattle.std.specs.Prelude.{◌≡◌, ◌⊎◌, ◌||◌, ◌++◌, ℕ, List, [], ◌∷◌, length, Bool, true, false, Option, None, Some, option_copied, String}
use Rattle.std.specs.Io.KnownBytes.{Keeps, Appends}
use Rattle.mlk_syntax.specs.Trees.{RoutineTree}
use Rattle.mlk_walk.specs.declared.report.Row.{Row}
use Rattle.mlk_cli.specs.declared.words.Output.{Output}
use Rattle.mlk_cli.specs.declared.words.Output.TheVariants.{Text as Plain}
use Rattle.mlk_cli.specs.declared.words.ReportStyle.{ReportStyle}
use Rattle.mlk_cli.specs.declared.words.Asked.{Asked}
use Rattle.mlk_cli.specs.declared.words.Asked.TheVariants as asked
use Rattle.mlk_cli.specs.declared.words.ProgramRequest.{ProgramRequest}
use Rattle.mlk_cli.specs.declared.words.SurveyRequest.{SurveyRequest}
use Rattle.mlk_cli.specs.declared.words.SuggestRequest.{SuggestRequest}
use Rattle.mlk_cli.specs.declared.words.StubsRequest.{StubsRequest}
use Rattle.mlk_cli.specs.declared.words.Invocation.{Invocation}
use Rattle.mlk_cli.specs.declared.words.Request.{Request}
use Rattle.mlk_cli.specs.declared.words.Request.TheVariants as request
use Rattle.mlk_text.specs.declared.failure.Failure.TheVariants as failure
use Rattle.mlk_cert.specs.declared.format.CertFormat.{CertFormat}
use Rattle.mlk_cert.specs.declared.read.fault.CertFault.{CertFault}
use Rattle.mlk_pool.specs.declared.error.CheckError.{CheckError}
use Rattle.mlk_pool.specs.declared.error.CheckError.TheVariants as error
use Rattle.mlk_outcome.specs.declared.refusal.NoReport.{NoReport}
use Rattle.mlk_outcome.specs.declared.refusal.NoReport.TheVariants as refusal
use Rattle.mlk_app.specs.declared.answer.Answer.{Answer}
use Rattle.mlk_app.specs.declared.answer.Answer.TheVariants as answer
use Rattle.mlk_files.specs.declared.source.Sources.{Sources}
use Rattle.mlk_files.specs.declared.source.Work.{Work}
use Rattle.mlk_files.specs.declared.source.Work.TheVariants as work
use Rattle.mlk_reading.specs.declared.source.Source.{Source}
use Rattle.std.specs.Borrow.{Bor}
use Rattle.mlk_rules_file.specs.declared.read.fault.RulesFault.{RulesFault}
use Rattle.mlk_suggest_text.specs.RuleTexts.{IsRuleText}
use Rattle.mlk_stubs.specs.StubTexts.{AreStubs}
use Rattle.mlk_text.specs.declared.fault.Fault.{Fault}
use Rattle.mlk_baseline.specs.declared.baseline.Baseline.{Baseline}
use Rattle.mlk_baseline.specs.declared.baseline.Comparison.{Comparison}
use Rattle.mlk_baseline.specs.declared.baseline.BaselineFault.{BaselineFault}
use Rattle.mlk_baseline.specs.Known.{IsComparison}
use Rattle.mlk_forms.specs.Rendering.{IsRendered, IsNoticed, printed_rows}
use Rattle.mlk_refusal_lines.specs.Lines.{fault_line, rules_line, certificate_line, missing_line, workers_line, stuck_line, events_line}
use Rattle.mlk_refusal_lines.specs.Lines.{baseline_line, file_line, no_page_line}
use Rattle.mlk_files.specs.Dialects.{as_read, rests_of}
use Rattle.mlk_files.specs.Files.{Texts, Folders, AreFound, AreTexts, AreSources, IsFirstLost, given_path, written_path, cert_format}
use Rattle.mlk_files.specs.Files.{paths_of, program_paths}
use Rattle.mlk_files.specs.Named.{named_paths, IsWithRoutines}
use Rattle.mlk_cli.specs.CommandLine.{IsRequest, AsksNothing, bytes_of}
use Rattle.mlk_program.specs.Program.{IsProgram}
use Rattle.mlk_rules.specs.declared.rules.RuleLists.{RuleLists}
use Rattle.mlk_rules_file.specs.RuleSections.{SaysRules, RefusesRules}
use Rattle.mlk_cert_parts.specs.declared.block.EntryCert.{EntryCert}
use Rattle.mlk_cert.specs.Theorem.{Spells}
use Rattle.mlk_reading.specs.Reading.{AreRead}
use Rattle.mlk_pool.specs.Headline.{IsReportBy, RefusesReport, RefusesByText, RefusesTexts}
use Rattle.mlk_outcome.specs.Making.{IsMade, IsUnmade}
use Rattle.mlk_outcome.specs.Replaying.{IsReplayed, IsUnreplayed}
use Rattle.mlk_outcome.specs.Conversion.{IsConverted, IsUnconverted}

-- how a report is printed: as text, without hazards and explanations, unless the words say otherwise
abbrev pub text_style : Bool → ReportStyle
text_style explained = record { output = Plain; is_strict = false; is_explained = explained; is_quiet = false; exits_zero = false }

abbrev pub style_in : Asked → ReportStyle
style_in (asked.Check certificate workers style) = style
style_in (asked.Make format) = text_style false
style_in (asked.Verify workers style) = style
style_in (asked.Replay path style) = text_style style.is_explained

abbrev pub output_in : Request → Output
output_in (request.Program program) = (style_in program.asked).output
output_in (request.Convert certificate format) = Plain
output_in (request.Survey survey) = Plain
output_in (request.Suggest suggestion) = Plain
output_in (request.Stubs stubs) = Plain
output_in (request.Explain code) = Plain

-- 0 for a report that passes, or if the words ask for it; else 1
abbrev pub status_of : Bool → ℕ
status_of true = 0
status_of false = 1

abbrev pub status_in : ReportStyle → Bool → ℕ
status_in style passed = status_of (passed || style.exits_zero)

-- What a report is asked for with: the request of the words, the faults that are known, if there are such, and, if words beyond the
-- subset are read, on how many of them it rests.
pub record ReportRequest : Type 0 where
  pub program : ProgramRequest
  pub known : Option (Bor Baseline)
  pub rests : Option ℕ

-- The faults of a report are compared with known ones if there are such.
abbrev pub AreCompared : Option (Bor Baseline) → List Row → Option Comparison → Type 0
AreCompared None rows comparison = comparison ≡ None
AreCompared (Some known) rows None = ⊥
AreCompared (Some known) rows (Some comparison) = IsComparison (length rows) comparison

-- What is printed of a report, and the status: in whatever form it is printed, 0 says that it has no row, or, beside known faults, no
-- row that is new, unless the words ask for 0 in any case. In the plain style it passes if it has none, and the text is that of the
-- report.
pub record IsPrintedBeside (style : ReportStyle) (rests : Option ℕ) (comparison : Option (Bor Comparison))
    (trees : List RoutineTree) (rows : List Row) (text : List ℕ) (status : ℕ) : Type 0 where
  pub passed : Bool
  pub printed : IsRendered style rests comparison trees rows text passed
  pub ended : status ≡ status_in style passed
  pub yes : style.exits_zero ≡ false → status ≡ 0 → printed_rows comparison rows ≡ []

-- The same, where the faults are compared with known ones if there are such.
pub record IsReportPrinted (asked : ReportRequest) (trees : List RoutineTree) (rows : List Row) (text : List ℕ) (status : ℕ) : Type 0 where
  pub comparison : Option (Bor Comparison)
  pub compared : AreCompared asked.known rows (option_copied comparison)
  pub printed : IsPrintedBeside (style_in asked.program.asked) asked.rests comparison trees rows text status

-- the line of what the check itself refuses
abbrev pub IsErrorLine : CheckError → List ℕ → Type 0
IsErrorLine error.OutOfMemory line = ⊥
IsErrorLine (error.Routine fault) line = line ≡ fault_line fault
IsErrorLine (error.Rules fault) line = line ≡ rules_line fault
IsErrorLine (error.Certificate fault) line = line ≡ certificate_line fault
IsErrorLine (error.Entry entry) line = line ≡ missing_line entry
IsErrorLine error.Workers line = line ≡ workers_line
IsErrorLine (error.GateShut task) line = ⊥

-- the line of some fault of a routine
abbrev pub IsFaultLine : List ℕ → Type 0
IsFaultLine line = (fault : Fault) × (line ≡ fault_line fault)

-- the line of a refusal
abbrev pub IsRefusalLine : NoReport → List ℕ → Type 0
IsRefusalLine (refusal.Check e) line = IsErrorLine e line
IsRefusalLine (refusal.GaveUp entry fault) line = line ≡ stuck_line entry fault
IsRefusalLine (refusal.Events fault) line = line ≡ events_line fault

-- the report of a program by rules and a certificate's blocks is printed
abbrev pub IsReportOfBlocks : ReportRequest → List RoutineTree → RuleLists → List EntryCert → List ℕ → ℕ → Type 0
IsReportOfBlocks asked trees rules blocks text status =
    (rows : List Row) × IsReportBy trees rules blocks rows × IsReportPrinted asked trees rows text status

-- the report by the certificate with this text is printed
abbrev pub IsReportByText : ReportRequest → List RoutineTree → RuleLists → List ℕ → List ℕ → ℕ → Type 0
IsReportByText asked trees rules cert_text text status =
    (blocks : List EntryCert) × Spells blocks cert_text × IsReportOfBlocks asked trees rules blocks text status

-- the report by a certificate that is made is printed; which certificate it is, is not said
abbrev pub IsReportOfMade : ReportRequest → List RoutineTree → RuleLists → List ℕ → ℕ → Type 0
IsReportOfMade asked trees rules text status = (blocks : List EntryCert) × IsReportOfBlocks asked trees rules blocks text status

-- What is printed of a program and its rules, by what is asked, and the status: the report by the certificate that is given, or by
-- one that is made; the text of a certificate that is made; what is shown of jobs after events.
abbrev pub IsPrinted : ReportRequest → List RoutineTree → RuleLists → Work → List ℕ → ℕ → Type 0
IsPrinted asked trees rules (work.Check given workers) text status = IsReportByText asked trees rules given.items text status
IsPrinted asked trees rules (work.Verify workers) text status = IsReportOfMade asked trees rules text status
IsPrinted asked trees rules (work.Make format) text status = IsMade trees rules format text × (status ≡ 0)
IsPrinted asked trees rules (work.Replay events) text status =
    IsReplayed (style_in asked.program.asked).is_explained trees rules events.items text × (status ≡ 0)

-- why there is no report by a certificate that is made
abbrev pub RefusesMade : ℕ → List RoutineTree → RuleLists → NoReport → Type 0
RefusesMade workers trees rules r =
    IsUnmade trees rules r ⊎ ((blocks : List EntryCert) × RefusesReport refusal.Check (Unit {0}) workers trees rules blocks r)

-- Why there is nothing to print: by the certificate that is given, or by one that is made; no certificate is made; or events can't
-- be followed. The gate of the workers is always open.
abbrev pub IsRefusedFor : Work → List RoutineTree → RuleLists → NoReport → Type 0
IsRefusedFor (work.Check given workers) trees rules r = RefusesByText refusal.Check (Unit {0}) workers given.items trees rules r
IsRefusedFor (work.Verify workers) trees rules r = RefusesMade workers trees rules r
IsRefusedFor (work.Make format) trees rules r = IsUnmade trees rules r
IsRefusedFor (work.Replay events) trees rules r = IsUnreplayed trees rules events.items r

-- the line of a refusal, and what is printed beside it, where memory doesn't run out
abbrev pub TellsRefusal : Output → NoReport → Answer → Type 0
TellsRefusal output r (answer.Report text status) = ⊥
TellsRefusal output r (answer.Refused line notice help) = IsRefusalLine r line × IsNoticed output notice
TellsRefusal output r (answer.Unread line help) = ⊥
TellsRefusal output r (answer.Usage text) = ⊥
TellsRefusal output r answer.OutOfMemory = Unit {0}

-- the line of a certificate's fault, where memory doesn't run out
abbrev pub TellsFault : CertFault → Answer → Type 0
TellsFault fault (answer.Report text status) = ⊥
TellsFault fault (answer.Refused line notice help) = (line ≡ certificate_line fault) × (notice ≡ None)
TellsFault fault (answer.Unread line help) = ⊥
TellsFault fault (answer.Usage text) = ⊥
TellsFault fault answer.OutOfMemory = Unit {0}

-- the line of a rule file's fault, where memory doesn't run out
abbrev pub TellsRules : RulesFault → Answer → Type 0
TellsRules fault (answer.Report text status) = ⊥
TellsRules fault (answer.Refused line notice help) = (line ≡ rules_line fault) × (notice ≡ None)
TellsRules fault (answer.Unread line help) = ⊥
TellsRules fault (answer.Usage text) = ⊥
TellsRules fault answer.OutOfMemory = Unit {0}

-- a survey, which says nothing of what it must say, where memory doesn't run out
abbrev pub PrintsSurvey : Answer → Type 0
PrintsSurvey (answer.Report text status) = status ≡ 0
PrintsSurvey (answer.Refused line notice help) = ⊥
PrintsSurvey (answer.Unread line help) = ⊥
PrintsSurvey (answer.Usage text) = ⊥
PrintsSurvey answer.OutOfMemory = Unit {0}

-- the text of a rule file, where memory doesn't run out
abbrev pub PrintsRules : Answer → Type 0
PrintsRules (answer.Report text status) = IsRuleText text × (status ≡ 0)
PrintsRules (answer.Refused line notice help) = ⊥
PrintsRules (answer.Unread line help) = ⊥
PrintsRules (answer.Usage text) = ⊥
PrintsRules answer.OutOfMemory = Unit {0}

-- the line of the fault of a stub, or of a name that one is wanted for, where memory doesn't run out
abbrev pub TellsStubFault : Fault → Answer → Type 0
TellsStubFault fault (answer.Report text status) = ⊥
TellsStubFault fault (answer.Refused line notice help) = (line ≡ fault_line fault) × (notice ≡ None)
TellsStubFault fault (answer.Unread line help) = ⊥
TellsStubFault fault (answer.Usage text) = ⊥
TellsStubFault fault answer.OutOfMemory = Unit {0}

-- the line of a fault of a list of known ones, where memory doesn't run out
abbrev pub TellsBaseline : BaselineFault → Answer → Type 0
TellsBaseline fault (answer.Report text status) = ⊥
TellsBaseline fault (answer.Refused line notice help) = (line ≡ baseline_line fault) × (notice ≡ None)
TellsBaseline fault (answer.Unread line help) = ⊥
TellsBaseline fault (answer.Usage text) = ⊥
TellsBaseline fault answer.OutOfMemory = Unit {0}

-- the texts of stubs, or the line of a fault, where memory doesn't run out
abbrev pub PrintsStubs : Answer → Type 0
PrintsStubs (answer.Report text status) = AreStubs text × (status ≡ 0)
PrintsStubs (answer.Refused line notice help) = IsFaultLine line × (notice ≡ None)
PrintsStubs (answer.Unread line help) = ⊥
PrintsStubs (answer.Usage text) = ⊥
PrintsStubs answer.OutOfMemory = Unit {0}

-- the line of a path that can't be read, where memory doesn't run out
abbrev pub TellsUnread : List ℕ → Answer → Type 0
TellsUnread path (answer.Report text status) = ⊥
TellsUnread path (answer.Refused line notice help) = ⊥
TellsUnread path (answer.Unread line help) = line ≡ file_line path
TellsUnread path (answer.Usage text) = ⊥
TellsUnread path answer.OutOfMemory = Unit {0}

-- the page of a code, which is not said, or that there is none, where memory doesn't run out
abbrev pub TellsPage : List ℕ → Answer → Type 0
TellsPage code (answer.Report text status) = status ≡ 0
TellsPage code (answer.Refused line notice help) = (line ≡ no_page_line code) × (notice ≡ None)
TellsPage code (answer.Unread line help) = ⊥
TellsPage code (answer.Usage text) = ⊥
TellsPage code answer.OutOfMemory = Unit {0}

-- there are known faults if the words name a file of them
abbrev pub AreKnown : Option (Bor (List ℕ)) → Option (Bor Baseline) → Type 0
AreKnown None known = known ≡ None
AreKnown (Some path) None = ⊥
AreKnown (Some path) (Some known) = Unit {0}

-- What the texts at the paths of a program come to: its routines are read and make a program, the text of its rules says rules,
-- and this is printed of both.
pub record IsProgramReported (holds : Texts) (program : ProgramRequest) (text : List ℕ) (status : ℕ) : Type 0 where
  pub sources : Sources
  pub texts : AreTexts holds program sources
  pub trees : List RoutineTree
  pub read : AreRead (as_read sources) trees
  pub linked : IsProgram trees
  pub rules : RuleLists
  pub said : SaysRules sources.rules.items rules
  pub known : Option (Bor Baseline)
  pub beside : AreKnown program.baseline known
  pub printed : IsPrinted (record { program = program; known = known; rests = rests_of sources }) trees rules sources.work text status

-- The refusal of the texts at the paths of a program: of its routines, of their linking, of its rules, or for what is asked.
pub record IsProgramRefused (holds : Texts) (program : ProgramRequest) (line : List ℕ) : Type 0 where
  pub sources : Sources
  pub texts : AreTexts holds program sources
  pub reason : NoReport
  pub refused : RefusesTexts refusal.Check (as_read sources) sources.rules.items (IsRefusedFor sources.work) reason
  pub printed : IsRefusalLine reason line

-- a line of the known faults is refused; which one, is not said
pub record IsBaselineRefused (holds : Texts) (program : ProgramRequest) (line : List ℕ) : Type 0 where
  pub path : Bor (List ℕ)
  pub named : program.baseline ≡ Some path
  pub given : List ℕ
  pub held : holds path.now given
  pub fault : BaselineFault
  pub printed : line ≡ baseline_line fault

-- the file can't be written in which the faults of a report were to be listed as known ones
pub record IsUnwritten (program : ProgramRequest) (line : List ℕ) : Type 0 where
  pub path : Bor (List ℕ)
  pub named : program.new_baseline ≡ Some path
  pub printed : line ≡ file_line path.now

-- the file of the events that are asked for can't be read or written
pub record AreUnwritten (program : ProgramRequest) (line : List ℕ) : Type 0 where
  pub path : List ℕ
  pub named : written_path program.asked ≡ path ∷ []
  pub printed : line ≡ file_line path

-- the text in this format of the certificate whose text is at the path
pub record IsConvertedThere (holds : Texts) (path : List ℕ) (format : CertFormat) (text : List ℕ) : Type 0 where
  pub given : List ℕ
  pub held : holds path given
  pub converted : IsConverted format given text

-- the refusal of the text at the path, or of the one in this format
pub record IsUnconvertedThere (holds : Texts) (path : List ℕ) (format : CertFormat) (line : List ℕ) : Type 0 where
  pub given : List ℕ
  pub held : holds path given
  pub fault : CertFault
  pub refused : IsUnconverted format given (failure.Refused fault)
  pub printed : line ≡ certificate_line fault

-- A survey is made of the texts at the paths, whatever they are: none is refused. What it says is not said.
pub record IsSurveyed (holds : Texts) (survey : SurveyRequest) : Type 0 where
  pub sources : List Source
  pub texts : AreSources holds survey.routines.items sources

-- Rules are suggested for the texts at the paths, whatever they are. What is printed is a rule file; which one, nothing says.
pub record IsSuggested (holds : Texts) (paths : List (Bor (List ℕ))) (text : List ℕ) : Type 0 where
  pub sources : List Source
  pub texts : AreSources holds paths sources
  pub rules : IsRuleText text

-- the refusal of the rules beside which others were to be suggested
pub record IsUnsuggested (holds : Texts) (suggestion : SuggestRequest) (line : List ℕ) : Type 0 where
  pub path : List ℕ
  pub named : given_path suggestion.beside ≡ path ∷ []
  pub given : List ℕ
  pub held : holds path given
  pub fault : RulesFault
  pub refused : RefusesRules given (failure.Refused fault)
  pub printed : line ≡ rules_line fault

-- Stubs are printed for the texts at the paths, whatever they are: routines, one after another; which ones, nothing says.
pub record IsStubbed (holds : Texts) (stubs : StubsRequest) (text : List ℕ) : Type 0 where
  pub sources : List Source
  pub texts : AreSources holds stubs.routines.items sources
  pub printed : AreStubs text

-- the first of these paths that can't be read
pub record IsFirstUnread (holds : Texts) (unreadable : List ℕ → Type 0) (paths : List (List ℕ)) (line : List ℕ) : Type 0 where
  pub path : List ℕ
  pub lost : IsFirstLost holds unreadable paths path
  pub printed : line ≡ file_line path

-- what is answered if rules are suggested for the routines at these paths
abbrev pub SuggestsFor : Texts → (List ℕ → Type 0) → List (Bor (List ℕ)) → Answer → Type 0
SuggestsFor holds unreadable paths (answer.Report text status) = IsSuggested holds paths text × (status ≡ 0)
SuggestsFor holds unreadable paths (answer.Refused line notice help) = ⊥
SuggestsFor holds unreadable paths (answer.Unread line help) = IsFirstUnread holds unreadable (bytes_of paths) line
SuggestsFor holds unreadable paths (answer.Usage text) = ⊥
SuggestsFor holds unreadable paths answer.OutOfMemory = Unit {0}

-- what the texts at the paths of a request come to: a certificate is printed as it is; what a page says is not said
abbrev pub IsReported : Texts → Request → List ℕ → ℕ → Type 0
IsReported holds (request.Program program) text status = IsProgramReported holds program text status
IsReported holds (request.Convert certificate format) text status =
    IsConvertedThere holds certificate.now (cert_format format) text × (status ≡ 0)
IsReported holds (request.Survey survey) text status = IsSurveyed holds survey × (status ≡ 0)
IsReported holds (request.Suggest suggestion) text status = IsSuggested holds suggestion.routines.items text × (status ≡ 0)
IsReported holds (request.Stubs stubs) text status = IsStubbed holds stubs text × (status ≡ 0)
IsReported holds (request.Explain code) text status = status ≡ 0

abbrev pub IsRefusedThere : Texts → Request → List ℕ → Type 0
IsRefusedThere holds (request.Program program) line = IsProgramRefused holds program line ⊎ IsBaselineRefused holds program line
IsRefusedThere holds (request.Convert certificate format) line = IsUnconvertedThere holds certificate.now (cert_format format) line
IsRefusedThere holds (request.Survey survey) line = ⊥
IsRefusedThere holds (request.Suggest suggestion) line = IsUnsuggested holds suggestion line
IsRefusedThere holds (request.Stubs stubs) line = IsFaultLine line
IsRefusedThere holds (request.Explain code) line = line ≡ no_page_line code.now

-- The line on the error stream, and what is printed beside it. What explains the line, below it on the error stream, is not said.
abbrev pub IsRefusedSo : Texts → Request → List ℕ → Option (List ℕ) → Type 0
IsRefusedSo holds request line notice = IsRefusedThere holds request line × IsNoticed (output_in request) notice

-- the first path of a request that can't be read; of a program also the one that can't be written
abbrev pub IsUnread : Texts → (List ℕ → Type 0) → Request → List ℕ → Type 0
IsUnread holds unreadable (request.Program program) line =
    IsFirstUnread holds unreadable (program_paths program) line ⊎ (IsUnwritten program line ⊎ AreUnwritten program line)
IsUnread holds unreadable (request.Convert certificate format) line =
    IsFirstUnread holds unreadable (paths_of (request.Convert certificate format)) line
IsUnread holds unreadable (request.Survey survey) line = IsFirstUnread holds unreadable (paths_of (request.Survey survey)) line
IsUnread holds unreadable (request.Suggest suggestion) line = IsFirstUnread holds unreadable (paths_of (request.Suggest suggestion)) line
IsUnread holds unreadable (request.Stubs stubs) line = IsFirstUnread holds unreadable (paths_of (request.Stubs stubs)) line
IsUnread holds unreadable (request.Explain code) line = ⊥

-- What the program answers to a request. Want of memory says nothing.
abbrev pub Answers : Texts → (List ℕ → Type 0) → Request → Answer → Type 0
Answers holds unreadable request (answer.Report text status) = IsReported holds request text status
Answers holds unreadable request (answer.Refused line notice help) = IsRefusedSo holds request line notice
Answers holds unreadable request (answer.Unread line help) = IsUnread holds unreadable request line
Answers holds unreadable request (answer.Usage text) = ⊥
Answers holds unreadable request answer.OutOfMemory = Unit {0}

-- how a refusal is said, and what is printed beside its line
abbrev pub IsRefusalSaid : Option (List ℕ) → Option (List ℕ) → Option (List ℕ) → ℕ → Type 0
IsRefusalSaid None old new status = (status ≡ 2) × Keeps old new
IsRefusalSaid (Some notice) old new status = (status ≡ 3) ⊎ ((status ≡ 2) × Appends old new notice)

-- how it is said: 3 where standard output takes no more
abbrev pub IsSaid : Answer → Option (List ℕ) → Option (List ℕ) → ℕ → Type 0
IsSaid (answer.Report text ended) old new status = (status ≡ 3) ⊎ ((status ≡ ended) × Appends old new text)
IsSaid (answer.Refused line notice help) old new status = IsRefusalSaid notice old new status
IsSaid (answer.Unread line help) old new status = (status ≡ 3) × Keeps old new
IsSaid (answer.Usage text) old new status = (status ≡ 2) × Keeps old new
IsSaid answer.OutOfMemory old new status = (status ≡ 3) × Keeps old new

-- the paths that a file lists: none if there is no file
abbrev pub AreListed : Texts → Option (Bor (List ℕ)) → List (List ℕ) → Type 0
AreListed holds None paths = paths ≡ []
AreListed holds (Some list) paths = (text : List ℕ) × holds list.now text

-- What a command line asks for, with the routines that are found at its paths, and at those that a file lists: of a folder those below
-- it.
pub record Finds (holds : Texts) (below : Folders) (line : Invocation) (request : Request) : Type 0 where
  pub listed : List (List ℕ)
  pub of_list : AreListed holds line.list listed
  pub paths : List (List ℕ)
  pub found : AreFound below (named_paths line.request ++ listed) paths
  pub replaced : IsWithRoutines line.request paths request

-- the list of routines, or a folder, that can't be read
abbrev pub IsUnfound : (List ℕ → Type 0) → List ℕ → Type 0
IsUnfound unreadable line = (path : List ℕ) × unreadable path × (line ≡ file_line path)

-- what is answered where a list of routines, or a folder, can't be read
abbrev pub TellsUnfound : (List ℕ → Type 0) → Answer → Type 0
TellsUnfound unreadable (answer.Report text status) = ⊥
TellsUnfound unreadable (answer.Refused line notice help) = ⊥
TellsUnfound unreadable (answer.Unread line help) = IsUnfound unreadable line
TellsUnfound unreadable (answer.Usage text) = ⊥
TellsUnfound unreadable answer.OutOfMemory = Unit {0}

-- What is answered to a request with the routines that are found at these paths.
abbrev pub AnswersFound : Texts → Folders → (List ℕ → Type 0) → Request → List (List ℕ) → Answer → Type 0
AnswersFound holds below unreadable named paths a = TellsUnfound unreadable a
    ⊎ ((found : List (List ℕ)) × (request : Request) × AreFound below paths found × IsWithRoutines named found request
    × Answers holds unreadable request a)

-- What is answered to a command line: the answer to its request with the routines that are found.
abbrev pub AnswersLine : Texts → Folders → (List ℕ → Type 0) → Invocation → Answer → Type 0
AnswersLine holds below unreadable line (answer.Report text status) =
    (request : Request) × Finds holds below line request × IsReported holds request text status
AnswersLine holds below unreadable line (answer.Refused text notice help) =
    (request : Request) × Finds holds below line request × IsRefusedSo holds request text notice
AnswersLine holds below unreadable line (answer.Unread text help) =
    ((request : Request) × Finds holds below line request × IsUnread holds unreadable request text) ⊎ IsUnfound unreadable text
AnswersLine holds below unreadable line (answer.Usage text) = ⊥
AnswersLine holds below unreadable line answer.OutOfMemory = Unit {0}

-- What the program answers to its words: the answer to what they ask for, or that they ask for nothing.
abbrev pub AnswersWords : {A : Type 0} → Texts → Folders → (List ℕ → Type 0) → List (String A) → Answer → Type 0
AnswersWords holds below unreadable words (answer.Report text status) =
    (line : Invocation) × IsRequest words line × AnswersLine holds below unreadable line (answer.Report text status)
AnswersWords holds below unreadable words (answer.Refused text notice help) =
    (line : Invocation) × IsRequest words line × AnswersLine holds below unreadable line (answer.Refused text notice help)
AnswersWords holds below unreadable words (answer.Unread text help) =
    (line : Invocation) × IsRequest words line × AnswersLine holds below unreadable line (answer.Unread text help)
AnswersWords holds below unreadable words (answer.Usage text) = AsksNothing words
AnswersWords holds below unreadable words answer.OutOfMemory = Unit {0}

-- What is answered is said.
pub record Ran {A : Type 0} (holds : Texts) (below : Folders) (unreadable : List ℕ → Type 0) (words : List (String A))
    (old new : Option (List ℕ)) (status : ℕ) : Type 0 where
  pub answer : Answer
  pub answered : AnswersWords holds below unreadable words answer
  pub said : IsSaid answer old new status
