-- What the words of a command line ask for, by what `clap` makes of them. This project's own choice.
use Rattle.std.specs.Borrow.{Bor}
use Rattle.std.specs.Global.{Global}
use Rattle.std.specs.Prelude.{option_map, ℕ, ◌≡◌, ◌==◌, ◌<◌, ◌^◌, List, [], Option, Some, None, Bool, if◌then◌else◌, not, ◌&&◌, codes, true, false, map, string_bytes, String, Vec}
use Rattle.std.specs.List.{list_any, starts_with}
use Rattle.std.specs.Str.Parse.{IsNumeral, digits_value, without_leading_plus}
use Rattle.clap.specs.Words.{Row, Text, all_of, first_of, one_of, subcommand_of}
use Rattle.clap.specs.Takes.{takes}
use Rattle.mlk_cli_grammar.specs.Grammar.{mlock_app}
use Rattle.mlk_cli.specs.declared.words.Asked.{Asked}
use Rattle.mlk_cli.specs.declared.words.Asked.TheVariants as asked
use Rattle.mlk_cli.specs.declared.words.Format.{Format}
use Rattle.mlk_cli.specs.declared.words.Format.TheVariants.{First, Second}
use Rattle.mlk_cli.specs.declared.words.Output.{Output}
use Rattle.mlk_cli.specs.declared.words.Output.TheVariants.{Text as Plain, Json, Sarif, Lines}
use Rattle.mlk_dialect.specs.declared.dialect.Dialect.{Dialect}
use Rattle.mlk_dialect.specs.declared.dialect.Dialect.TheVariants as dialect
use Rattle.mlk_cli.specs.declared.words.SurveyOutput.{SurveyOutput}
use Rattle.mlk_cli.specs.declared.words.SurveyOutput.TheVariants as surveyed
use Rattle.mlk_cli.specs.declared.words.ReportStyle.{ReportStyle}
use Rattle.mlk_cli.specs.declared.words.ReplayStyle.{ReplayStyle}
use Rattle.mlk_cli.specs.declared.words.ProgramRequest.{ProgramRequest}
use Rattle.mlk_cli.specs.declared.words.SurveyRequest.{SurveyRequest}
use Rattle.mlk_cli.specs.declared.words.SuggestRequest.{SuggestRequest}
use Rattle.mlk_cli.specs.declared.words.WantedStubs.{WantedStubs}
use Rattle.mlk_cli.specs.declared.words.WantedStubs.TheVariants as wanted
use Rattle.mlk_cli.specs.declared.words.StubsRequest.{StubsRequest}
use Rattle.mlk_cli.specs.declared.words.Request.{Request}
use Rattle.mlk_cli.specs.declared.words.Request.TheVariants as request
use Rattle.mlk_cli.specs.declared.words.Invocation.{Invocation}
use Rattle.mlk_cli.specs.declared.words.UsageError.{UsageError}
use Rattle.mlk_cli.specs.declared.words.UsageError.TheVariants as usage

-- the text is a number of 32 bits in decimal digits, perhaps after a plus
abbrev pub IsNumber : Text → ℕ → Type 0
IsNumber text number = IsNumeral 10 (without_leading_plus text) × (digits_value 10 (without_leading_plus text) ≡ number) × (number < 2 ^ 32)

-- the number that a command was given by the option of this name
abbrev pub IsNumberOf : Text → List Row → ℕ → Type 0
IsNumberOf option rows number = (text : Text) × (one_of option rows ≡ Some text) × IsNumber text number

abbrev pub GivesNumber : Text → List Row → Option ℕ → Type 0
GivesNumber option rows None = (number : ℕ) → IsNumberOf option rows number → ⊥
GivesNumber option rows (Some number) = IsNumberOf option rows number

-- how many workers a command was given
abbrev pub AreWorkers : List Row → ℕ → Type 0
AreWorkers rows workers = IsNumberOf (codes "workers") rows workers

-- the format that a command was given
abbrev pub IsFormat : List Row → Format → Type 0
IsFormat rows First = IsNumberOf (codes "format") rows 1
IsFormat rows Second = IsNumberOf (codes "format") rows 2

abbrev pub GivesFormat : List Row → Option Format → Type 0
GivesFormat rows None = (format : Format) → IsFormat rows format → ⊥
GivesFormat rows (Some format) = IsFormat rows format

-- the word for a form
abbrev pub output_word : Output → Text
output_word Plain = codes "text"
output_word Json = codes "json"
output_word Sarif = codes "sarif"
output_word Lines = codes "lines"

abbrev pub NamesOutput : Text → Option Output → Type 0
NamesOutput text None = (output : Output) → text ≡ output_word output → ⊥
NamesOutput text (Some output) = text ≡ output_word output

-- the form of the report that a command was given
abbrev pub IsOutput : List Row → Output → Type 0
IsOutput rows output = first_of (codes "output") rows ≡ Some (output_word output)

abbrev pub GivesOutput : List Row → Option Output → Type 0
GivesOutput rows None = (output : Output) → IsOutput rows output → ⊥
GivesOutput rows (Some output) = IsOutput rows output

-- the word for how much of M is read
abbrev pub dialect_word : Dialect → Text
dialect_word dialect.Standard = codes "standard"
dialect_word dialect.Extended = codes "extended"

abbrev pub NamesDialect : Text → Option Dialect → Type 0
NamesDialect text None = (d : Dialect) → text ≡ dialect_word d → ⊥
NamesDialect text (Some d) = text ≡ dialect_word d

-- how much of M a command was asked to read
abbrev pub IsDialect : List Row → Dialect → Type 0
IsDialect rows d = first_of (codes "dialect") rows ≡ Some (dialect_word d)

abbrev pub GivesDialect : List Row → Option Dialect → Type 0
GivesDialect rows None = (d : Dialect) → IsDialect rows d → ⊥
GivesDialect rows (Some d) = IsDialect rows d

-- whether a command was given the option of this name
abbrev pub IsFlag : Text → List Row → Bool → Type 0
IsFlag option rows flag = first_of option rows ≡ Some (if flag then codes "true" else codes "false")

abbrev pub GivesFlag : Text → List Row → Option Bool → Type 0
GivesFlag option rows None = (flag : Bool) → IsFlag option rows flag → ⊥
GivesFlag option rows (Some flag) = IsFlag option rows flag

-- whether a command was given `--strict`, and `--explain`
abbrev pub IsStrict : List Row → Bool → Type 0
IsStrict rows strict = IsFlag (codes "strict") rows strict

abbrev pub IsExplained : List Row → Bool → Type 0
IsExplained rows explained = IsFlag (codes "explain") rows explained

-- whether a command was given `--quiet`, and `--exit-zero`
abbrev pub IsQuiet : List Row → Bool → Type 0
IsQuiet rows quiet = IsFlag (codes "quiet") rows quiet

abbrev pub ExitsZero : List Row → Bool → Type 0
ExitsZero rows zero = IsFlag (codes "exit-zero") rows zero

-- Only text is explained, or reduced to its answer, and not both.
abbrev pub goes_together : Output → Bool → Bool → Bool
goes_together Plain explained quiet = not (explained && quiet)
goes_together Json explained quiet = not explained && not quiet
goes_together Sarif explained quiet = not explained && not quiet
goes_together Lines explained quiet = not explained && not quiet

-- the style of a report
pub record IsStyle (rows : List Row) (style : ReportStyle) : Type 0 where
  pub output : IsOutput rows style.output
  pub strict : IsStrict rows style.is_strict
  pub explained : IsExplained rows style.is_explained
  pub quiet : IsQuiet rows style.is_quiet
  pub zero : ExitsZero rows style.exits_zero
  pub possible : goes_together style.output style.is_explained style.is_quiet ≡ true

abbrev pub GivesStyle : List Row → Option ReportStyle → Type 0
GivesStyle rows None = (style : ReportStyle) → IsStyle rows style → ⊥
GivesStyle rows (Some style) = IsStyle rows style

-- how many workers a command was given, and the style of its report
abbrev pub IsWalk : List Row → ℕ → ReportStyle → Type 0
IsWalk rows workers style = AreWorkers rows workers × IsStyle rows style

abbrev pub GivesWalk : List Row → Option (ℕ × ReportStyle) → Type 0
GivesWalk rows None = (workers : ℕ) (style : ReportStyle) → IsWalk rows workers style → ⊥
GivesWalk rows (Some walk) = IsWalk rows walk.0 walk.1

-- the form of a survey
abbrev pub IsSurveyOutput : List Row → SurveyOutput → Type 0
IsSurveyOutput rows surveyed.Text = IsOutput rows Plain
IsSurveyOutput rows surveyed.Json = IsOutput rows Json

abbrev pub GivesSurveyOutput : List Row → Option SurveyOutput → Type 0
GivesSurveyOutput rows None = (output : SurveyOutput) → IsSurveyOutput rows output → ⊥
GivesSurveyOutput rows (Some output) = IsSurveyOutput rows output

-- how events are replayed
pub record IsReplayStyle (rows : List Row) (style : ReplayStyle) : Type 0 where
  pub explained : IsFlag (codes "explain") rows style.is_explained
  pub interactive : IsFlag (codes "interactive") rows style.is_interactive

abbrev pub GivesReplayStyle : List Row → Option ReplayStyle → Type 0
GivesReplayStyle rows None = (style : ReplayStyle) → IsReplayStyle rows style → ⊥
GivesReplayStyle rows (Some style) = IsReplayStyle rows style

-- the path of the events, and how they are replayed
abbrev pub IsReplay : List Row → Bor (List ℕ) → ReplayStyle → Type 0
IsReplay rows events style = (first_of (codes "EVENTS") rows ≡ Some events.now) × IsReplayStyle rows style

abbrev pub GivesReplay : List Row → Option (Bor (List ℕ) × ReplayStyle) → Type 0
GivesReplay rows None = (events : Bor (List ℕ)) (style : ReplayStyle) → IsReplay rows events style → ⊥
GivesReplay rows (Some r) = IsReplay rows r.0 r.1

-- what the command of a name is to do with a program, by what it was given
abbrev pub IsAsked : Text → List Row → Asked → Type 0
IsAsked name rows (asked.Check certificate workers style) = (name ≡ codes "check") × (first_of (codes "CERT") rows ≡ Some certificate.now) × IsWalk rows workers style
IsAsked name rows (asked.Make format) = (name ≡ codes "make") × IsFormat rows format
IsAsked name rows (asked.Verify workers style) = (name ≡ codes "verify") × IsWalk rows workers style
IsAsked name rows (asked.Replay events style) = (name ≡ codes "replay") × IsReplay rows events style

abbrev pub GivesAsked : Text → List Row → Option Asked → Type 0
GivesAsked name rows None = (a : Asked) → IsAsked name rows a → ⊥
GivesAsked name rows (Some a) = IsAsked name rows a

-- the bytes of paths
abbrev pub bytes_of : List (Bor (List ℕ)) → List Text
bytes_of paths = map (λ path. path.now) paths

-- the path that a command was given by the option of this name, if it was
abbrev pub IsPathOf : Text → List Row → Option (Bor (List ℕ)) → Type 0
IsPathOf option rows path = first_of option rows ≡ option_map (λ p. p.now) path

-- The paths of the routines that a command was given. There may be none if a file lists them.
abbrev pub paths_or_list : Option (List Text) → Option Text → Option (List Text)
paths_or_list (Some paths) list = Some paths
paths_or_list None (Some list) = Some []
paths_or_list None None = None

abbrev pub AreRoutines : List Row → List (Bor (List ℕ)) → Type 0
AreRoutines rows routines = paths_or_list (all_of (codes "ROUTINE") rows) (first_of (codes "files-from") rows) ≡ Some (bytes_of routines)

abbrev pub GivesRoutines : List Row → Option (Vec (Bor (List ℕ)) Global) → Type 0
GivesRoutines rows None = (routines : Vec (Bor (List ℕ)) Global) → AreRoutines rows routines.items → ⊥
GivesRoutines rows (Some routines) = AreRoutines rows routines.items

-- the request has the paths, and what else the command of a name was given
pub record IsProgramGiven (name : Text) (rows : List Row) (program : ProgramRequest) : Type 0 where
  pub asked : IsAsked name rows program.asked
  pub rules : first_of (codes "RULES") rows ≡ Some program.rules.now
  pub routines : AreRoutines rows program.routines.items
  pub dialect : IsDialect rows program.dialect
  pub baseline : IsPathOf (codes "baseline") rows program.baseline
  pub new_baseline : IsPathOf (codes "write-baseline") rows program.new_baseline

abbrev pub GivesProgram : Text → List Row → Option ProgramRequest → Type 0
GivesProgram name rows None = (program : ProgramRequest) → IsProgramGiven name rows program → ⊥
GivesProgram name rows (Some program) = IsProgramGiven name rows program

-- the path of the certificate, and the format that it is to have
abbrev pub IsConversion : List Row → Bor (List ℕ) → Format → Type 0
IsConversion rows certificate format = (first_of (codes "CERT") rows ≡ Some certificate.now) × IsFormat rows format

abbrev pub GivesConversion : List Row → Option (Bor (List ℕ) × Format) → Type 0
GivesConversion rows None = (certificate : Bor (List ℕ)) (format : Format) → IsConversion rows certificate format → ⊥
GivesConversion rows (Some c) = IsConversion rows c.0 c.1

-- the routines to survey, and the form of the survey
pub record IsSurvey (rows : List Row) (survey : SurveyRequest) : Type 0 where
  pub routines : AreRoutines rows survey.routines.items
  pub dialect : IsDialect rows survey.dialect
  pub output : IsSurveyOutput rows survey.output

abbrev pub GivesSurvey : List Row → Option SurveyRequest → Type 0
GivesSurvey rows None = (survey : SurveyRequest) → IsSurvey rows survey → ⊥
GivesSurvey rows (Some survey) = IsSurvey rows survey

-- the routines for which rules are suggested, not stubs, and the path of the rules that are there already, if it is given
pub record IsSuggestion (rows : List Row) (suggestion : SuggestRequest) : Type 0 where
  pub routines : AreRoutines rows suggestion.routines.items
  pub dialect : IsDialect rows suggestion.dialect
  pub of_rules : IsFlag (codes "stubs") rows false
  pub beside : IsPathOf (codes "beside") rows suggestion.beside

abbrev pub GivesSuggestion : List Row → Option SuggestRequest → Type 0
GivesSuggestion rows None = (suggestion : SuggestRequest) → IsSuggestion rows suggestion → ⊥
GivesSuggestion rows (Some suggestion) = IsSuggestion rows suggestion

-- Which routines get a stub, by the command of a name and what it was given: `stubs`, with names or without, or `suggest --stubs`,
-- which has no rules beside it.
abbrev pub IsWanted : Text → List Row → WantedStubs → Type 0
IsWanted name rows wanted.Missing = (name ≡ codes "stubs") × (all_of (codes "for") rows ≡ None)
IsWanted name rows wanted.MissingAndUnread = (name ≡ codes "suggest") × IsFlag (codes "stubs") rows true × (first_of (codes "beside") rows ≡ None)
IsWanted name rows (wanted.Named names) = (name ≡ codes "stubs") × (all_of (codes "for") rows ≡ Some (bytes_of names.items))

abbrev pub GivesWanted : Text → List Row → Option WantedStubs → Type 0
GivesWanted name rows None = (wanted : WantedStubs) → IsWanted name rows wanted → ⊥
GivesWanted name rows (Some wanted) = IsWanted name rows wanted

-- which routines get a stub, and the routines that call them
pub record IsStubs (name : Text) (rows : List Row) (stubs : StubsRequest) : Type 0 where
  pub wanted : IsWanted name rows stubs.wanted
  pub routines : AreRoutines rows stubs.routines.items
  pub dialect : IsDialect rows stubs.dialect

abbrev pub GivesStubs : Text → List Row → Option StubsRequest → Type 0
GivesStubs name rows None = (stubs : StubsRequest) → IsStubs name rows stubs → ⊥
GivesStubs name rows (Some stubs) = IsStubs name rows stubs

-- the request is what the command of a name was given
abbrev pub IsGiven : Text → List Row → Request → Type 0
IsGiven name rows (request.Program program) = IsProgramGiven name rows program
IsGiven name rows (request.Convert certificate format) = (name ≡ codes "convert") × IsConversion rows certificate format
IsGiven name rows (request.Survey survey) = (name ≡ codes "survey") × IsSurvey rows survey
IsGiven name rows (request.Suggest suggestion) = (name ≡ codes "suggest") × IsSuggestion rows suggestion
IsGiven name rows (request.Stubs stubs) = IsStubs name rows stubs
IsGiven name rows (request.Explain code) = (name ≡ codes "explain") × (first_of (codes "CODE") rows ≡ Some code.now)

-- what a command's own matches give: nothing where they are those of no request
abbrev pub GivesPaths : Text → List Row → Option Request → Type 0
GivesPaths name rows None = (asked : Request) → IsGiven name rows asked → ⊥
GivesPaths name rows (Some asked) = IsGiven name rows asked

-- the command that was met was given what the request has, and the path of the file that lists more routines
abbrev pub IsMet : Option (Text × List Row) → Invocation → Type 0
IsMet met line = (name : Text) × (rows : List Row) × (met ≡ Some (name, rows)) × IsGiven name rows line.request × IsPathOf (codes "files-from") rows line.list

-- what the command that was met gives: nothing where it was given what no request has
abbrev pub GivesLine : Option (Text × List Row) → Option Invocation → Type 0
GivesLine met None = (line : Invocation) → IsMet met line → ⊥
GivesLine met (Some line) = IsMet met line

abbrev pub texts_of : {A : Type 0} → List (String A) → List Text
texts_of words = map string_bytes words

-- The word names a file that lists routines, as `--files-from` or `--files-from=FILE`.
abbrev pub names_list : Text → Bool
names_list word = starts_with ◌==◌ word (codes "--files-from")

-- Some word does, so that no routine has to be given.
abbrev pub lists_routines : {A : Type 0} → List (String A) → Bool
lists_routines words = list_any (λ w. names_list (string_bytes w)) words

-- what the words ask for, if anything
abbrev pub Asks : {A : Type 0} → List (String A) → Option Invocation → Type 0
Asks words line = GivesLine (subcommand_of (mlock_app (lists_routines words)) (texts_of words)) line

-- The words name a command and give it the paths of the request, and what else it has, as `clap` reads them.
abbrev pub IsRequest : {A : Type 0} → List (String A) → Invocation → Type 0
IsRequest words line = IsMet (subcommand_of (mlock_app (lists_routines words)) (texts_of words)) line

-- `clap` does not take the words, or they are those of no request.
abbrev pub AsksNothing : {A : Type 0} → List (String A) → Type 0
AsksNothing words = takes (mlock_app (lists_routines words)) (texts_of words) ≡ true → (line : Invocation) → IsRequest words line → ⊥

-- Why there is no request. Want of memory says nothing.
abbrev pub LacksRequest : {A : Type 0} → List (String A) → UsageError → Type 0
LacksRequest words usage.OutOfMemory = Unit {0}
LacksRequest words (usage.Usage text) = AsksNothing words
