-- What the words of a command line ask for.
use Rattle.std.specs.Borrow.{Bor}
use Rattle.std.proofs.Common.{◌≡◌, ◌∙◌, sym, ap, subst, ℕ, ◌<◌, ◌^◌, List, Bool, true, false, Option, Some, None, Result, Ok, Err, refl, codes, slice_index, arith}
use Rattle.std.specs.Prelude.{option_map}
use Rattle.std.specs.Str.Parse.{ParsesUnsigned, IsNumeral, digits_value, without_leading_plus}
use Rattle.clap.specs.Matches.{ReadsOne}
use Rattle.clap.specs.Words.{Text, Row, first_of, one_of}
use Rattle.mlk_cli.specs.declared.words.Asked.{Asked}
use Rattle.mlk_cli.specs.declared.words.Asked.TheVariants as asked
use Rattle.mlk_cli.specs.declared.words.Format.{Format}
use Rattle.mlk_cli.specs.declared.words.Format.TheVariants.{First, Second}
use Rattle.mlk_cli.specs.declared.words.Output.{Output}
use Rattle.mlk_cli.specs.declared.words.Output.TheVariants as output
use Rattle.mlk_dialect.specs.declared.dialect.Dialect.{Dialect}
use Rattle.mlk_cli.specs.declared.words.SurveyOutput.{SurveyOutput}
use Rattle.mlk_cli.specs.declared.words.SurveyOutput.TheVariants as surveyed
use Rattle.mlk_cli.specs.declared.words.ReportStyle.{ReportStyle}
use Rattle.mlk_cli.specs.declared.words.ReplayStyle.{ReplayStyle}
use Rattle.mlk_cli.specs.declared.words.SurveyRequest.{SurveyRequest}
use Rattle.mlk_cli.specs.declared.words.SuggestRequest.{SuggestRequest}
use Rattle.mlk_cli.specs.declared.words.WantedStubs.{WantedStubs}
use Rattle.mlk_cli.specs.declared.words.WantedStubs.TheVariants as wanted
use Rattle.mlk_cli.specs.declared.words.StubsRequest.{StubsRequest}
use Rattle.mlk_cli.specs.declared.words.Request.{Request}
use Rattle.mlk_cli.specs.declared.words.Request.TheVariants as request
use Rattle.mlk_cli.specs.declared.words.ProgramRequest.{ProgramRequest}
use Rattle.mlk_cli.specs.CommandLine.{IsAsked, IsNumber, IsNumberOf, IsFormat, IsWalk, IsOutput, output_word, NamesOutput, GivesOutput, NamesDialect, GivesDialect, IsFlag, GivesFlag, IsExplained, IsQuiet, goes_together, IsStyle, IsSurveyOutput, IsReplay, IsSurvey, IsSuggestion, IsWanted, IsStubs, IsConversion, IsProgramGiven, IsGiven, GivesNumber}

-- a number of workers, after a plus and zeros
plus_and_zeros : IsNumber (codes "+004") 4
plus_and_zeros = ((omega arith, (omega arith, (omega arith, (omega arith, tt)))), refl, omega arith)

some_same : {X : Type 0} {x y : X} → Some x ≡ Some y → x ≡ y
some_same e = cc

-- where an option has a value, its two parts are known if each is
pub both-parts : {A X Y : Type 0} (f : A → X) (g : A → Y) (met : Option A) (x : X) (y : Y)
    → Some x ≡ option_map f met → Some y ≡ option_map (λ (p : X × Y). p.1) (option_map {U = X × Y} (λ a. (f a, g a)) met) → option_map {U = X × Y} (λ a. (f a, g a)) met ≡ Some (x, y)
both-parts f g None x y first second = let bad = first in cc bad
both-parts f g (Some a) x y first second =
    ap (λ q. Some (q, g a)) (sym (some_same first)) ∙ ap (λ q. Some (x, q)) (sym (some_same second))

-- the number of an option is what is read of the text that a command was given
pub gives-number : (option : Text) (E : Type 0) (gives : List ℕ → Result ℕ E → Type 0) (rows : List Row) (given : Option Text) (read : Option ℕ)
    → given ≡ one_of option rows
    → (given ≡ None → read ≡ None) → ((text : List ℕ) → given ≡ Some text → ReadsOne gives text read)
    → ((text : List ℕ) (r : Result ℕ E) → gives text r → ParsesUnsigned 32 10 text r)
    → GivesNumber option rows read
gives-number option E gives rows None read is none some parses =
    subst (GivesNumber option rows) (sym (none refl)) (λ number h. let bad = is ∙ h.1 in cc bad)
gives-number option E gives rows (Some text) None is none some parses = λ number h.
    let refused = some text refl in
    let same : text ≡ h.0 = some_same (is ∙ h.1) in
    let small : digits_value 10 (without_leading_plus h.0) < 2 ^ 32 = subst (λ n. n < 2 ^ 32) (sym h.2.1) h.2.2 in
    parses text (Err refused.0) refused.1 (subst (λ t. IsNumeral 10 (without_leading_plus t) × (digits_value 10 (without_leading_plus t) < 2 ^ 32)) (sym same) (h.2.0, small))
gives-number option E gives rows (Some text) (Some number) is none some parses =
    let parsed = parses text (Ok number) (some text refl) in
    (text, sym is, (parsed.0.0, sym parsed.1, subst (λ n. n < 2 ^ 32) (sym parsed.1) parsed.0.1))

-- an option has one number
one-number : (option : Text) (rows : List Row) (m n : ℕ) → IsNumberOf option rows m → IsNumberOf option rows n → m ≡ n
one-number option rows m n g h =
    let same : g.0 ≡ h.0 = some_same (sym g.1 ∙ h.1) in
    sym g.2.1 ∙ ap (λ t. digits_value 10 (without_leading_plus t)) same ∙ h.2.1

-- without a number, and with another one than 1 and 2, there is no format
pub no-format : (rows : List Row) → ((number : ℕ) → IsNumberOf (codes "format") rows number → ⊥) → (f : Format) → IsFormat rows f → ⊥
no-format rows none First h = none 1 h
no-format rows none Second h = none 2 h

pub other-format : (rows : List Row) (n : ℕ) → IsNumberOf (codes "format") rows n → (n ≡ 1 → ⊥) → (n ≡ 2 → ⊥) → (f : Format) → IsFormat rows f → ⊥
other-format rows n is not-first not-second First h = not-first (one-number (codes "format") rows n 1 is h)
other-format rows n is not-first not-second Second h = not-second (one-number (codes "format") rows n 2 is h)

-- they begin with other letters
starts_verify : (text : Text) → text ≡ codes "verify" → slice_index text 0 ≡ 118
starts_verify text is = rw is refl

starts_survey : (text : Text) → text ≡ codes "survey" → slice_index text 0 ≡ 115
starts_survey text is = rw is refl

starts_explain : (text : Text) → text ≡ codes "explain" → slice_index text 0 ≡ 101
starts_explain text is = rw is refl

explain-not-convert : codes "explain" ≡ codes "convert" → ⊥
explain-not-convert e = let bad : ◌≡◌ {A = ℕ} 99 101 = starts_explain (codes "convert") (sym e) in omega arith

verify-not-replay : codes "verify" ≡ codes "replay" → ⊥
verify-not-replay e = let bad : ◌≡◌ {A = ℕ} 114 118 = starts_verify (codes "replay") (sym e) in omega arith

survey-not-replay : codes "survey" ≡ codes "replay" → ⊥
survey-not-replay e = let bad : ◌≡◌ {A = ℕ} 114 115 = starts_survey (codes "replay") (sym e) in omega arith

survey-not-verify : codes "survey" ≡ codes "verify" → ⊥
survey-not-verify e = let bad : ◌≡◌ {A = ℕ} 118 115 = starts_survey (codes "verify") (sym e) in omega arith

starts_suggest : (text : Text) → text ≡ codes "suggest" → slice_index text 0 ≡ 115
starts_suggest text is = rw is refl

suggest-not-convert : codes "suggest" ≡ codes "convert" → ⊥
suggest-not-convert e = let bad : ◌≡◌ {A = ℕ} 99 115 = starts_suggest (codes "convert") (sym e) in omega arith

suggest-not-explain : codes "suggest" ≡ codes "explain" → ⊥
suggest-not-explain e = let bad : ◌≡◌ {A = ℕ} 101 115 = starts_suggest (codes "explain") (sym e) in omega arith

-- what a word of a command line names
pub named-output : (rows : List Row) (text : Text) (r : Option Output) → first_of (codes "output") rows ≡ Some text → NamesOutput text r → GivesOutput rows r
named-output rows text None is none = λ output h. none output (some_same (sym is ∙ h))
named-output rows text (Some output) is named = is ∙ ap Some named

pub named-dialect : (rows : List Row) (text : Text) (r : Option Dialect) → first_of (codes "dialect") rows ≡ Some text → NamesDialect text r → GivesDialect rows r
named-dialect rows text None is none = λ d h. none d (some_same (sym is ∙ h))
named-dialect rows text (Some d) is named = is ∙ ap Some named

pub not-flag : (option : Text) (rows : List Row) (text : Text) → first_of option rows ≡ Some text → (text ≡ codes "true" → ⊥) → (text ≡ codes "false" → ⊥) → (flag : Bool) → IsFlag option rows flag → ⊥
not-flag option rows text is no-true no-false true h = no-true (some_same (sym is ∙ h))
not-flag option rows text is no-true no-false false h = no-false (some_same (sym is ∙ h))

-- An option is given or not.
true-not-false : (option : Text) (rows : List Row) → IsFlag option rows true → IsFlag option rows false → ⊥
true-not-false option rows given not-given = let bad = sym given ∙ not-given in cc bad

pub only-true : (option : Text) (rows : List Row) (flag : Option Bool) → (flag ≡ Some true → ⊥) → GivesFlag option rows flag → IsFlag option rows true → ⊥
only-true option rows None other none given = none true given
only-true option rows (Some true) other is given = other refl
only-true option rows (Some false) other is given = true-not-false option rows given is

pub only-false : (option : Text) (rows : List Row) (flag : Option Bool) → (flag ≡ Some false → ⊥) → GivesFlag option rows flag → IsFlag option rows false → ⊥
only-false option rows None other none not-given = none false not-given
only-false option rows (Some true) other is not-given = true-not-false option rows is not-given
only-false option rows (Some false) other is not-given = other refl

pub one-flag : (option : Text) (rows : List Row) (f g : Bool) → IsFlag option rows f → IsFlag option rows g → f ≡ g
one-flag option rows true true h k = refl
one-flag option rows true false h k = absurd (true-not-false option rows h k)
one-flag option rows false true h k = absurd (true-not-false option rows k h)
one-flag option rows false false h k = refl

-- A report has one form.
starts_text : (text : Text) → text ≡ codes "text" → slice_index text 0 ≡ 116
starts_text text is = rw is refl

starts_lines : (text : Text) → text ≡ codes "lines" → slice_index text 0 ≡ 108
starts_lines text is = rw is refl

text-not-json : codes "text" ≡ codes "json" → ⊥
text-not-json e = let bad : ◌≡◌ {A = ℕ} 106 116 = starts_text (codes "json") (sym e) in omega arith

lines-not-sarif : codes "lines" ≡ codes "sarif" → ⊥
lines-not-sarif e = let bad : ◌≡◌ {A = ℕ} 115 108 = starts_lines (codes "sarif") (sym e) in omega arith

word-of-one : (o p : Output) → output_word o ≡ output_word p → o ≡ p
word-of-one output.Text output.Text e = refl
word-of-one output.Text output.Json e = absurd (text-not-json e)
word-of-one output.Text output.Sarif e = cc
word-of-one output.Text output.Lines e = cc
word-of-one output.Json output.Text e = absurd (text-not-json (sym e))
word-of-one output.Json output.Json e = refl
word-of-one output.Json output.Sarif e = cc
word-of-one output.Json output.Lines e = cc
word-of-one output.Sarif output.Text e = cc
word-of-one output.Sarif output.Json e = cc
word-of-one output.Sarif output.Sarif e = refl
word-of-one output.Sarif output.Lines e = absurd (lines-not-sarif (sym e))
word-of-one output.Lines output.Text e = cc
word-of-one output.Lines output.Json e = cc
word-of-one output.Lines output.Sarif e = absurd (lines-not-sarif e)
word-of-one output.Lines output.Lines e = refl

one-output : (rows : List Row) (o p : Output) → IsOutput rows o → IsOutput rows p → o ≡ p
one-output rows o p h k = word-of-one o p (some_same (sym h ∙ k))

-- What doesn't go together makes no style.
pub no-style : (rows : List Row) (o : Output) (explained quiet : Bool) → IsOutput rows o → IsExplained rows explained → IsQuiet rows quiet → goes_together o explained quiet ≡ false
    → (style : ReportStyle) → IsStyle rows style → ⊥
no-style rows o explained quiet h k l apart style is =
    let one = subst (λ p. goes_together p style.is_explained style.is_quiet ≡ true) (one-output rows style.output o is.output h) is.possible in
    let two = subst (λ e. goes_together o e style.is_quiet ≡ true) (one-flag (codes "explain") rows style.is_explained explained is.explained k) one in
    let three = subst (λ q. goes_together o explained q ≡ true) (one-flag (codes "quiet") rows style.is_quiet quiet is.quiet l) two in
    let bad = sym three ∙ apart in cc bad

pub no-survey-output : (rows : List Row) → ((output : Output) → IsOutput rows output → ⊥) → (output : SurveyOutput) → IsSurveyOutput rows output → ⊥
no-survey-output rows none surveyed.Text h = none output.Text h
no-survey-output rows none surveyed.Json h = none output.Json h

-- A command of another name asks for nothing, nor does a check without the path of a certificate or a number of workers,
-- a certificate that is made without a format, a check by it without a number of workers, or a replay without the path of
-- events or without its style.
pub asks-nothing : (name : Text) (rows : List Row) → (name ≡ codes "make" → ⊥) → (name ≡ codes "verify" → ⊥) → (name ≡ codes "replay" → ⊥) → None ≡ first_of (codes "CERT") rows → (a : Asked) → IsAsked name rows a → ⊥
asks-nothing name rows no-make no-verify no-replay none (asked.Check path workers style) h = let bad = none ∙ h.1 in cc bad
asks-nothing name rows no-make no-verify no-replay none (asked.Make format) h = no-make h.0
asks-nothing name rows no-make no-verify no-replay none (asked.Verify workers style) h = no-verify h.0
asks-nothing name rows no-make no-verify no-replay none (asked.Replay events style) h = no-replay h.0

pub checks-nothing : (name : Text) (rows : List Row) → (name ≡ codes "make" → ⊥) → (name ≡ codes "verify" → ⊥) → (name ≡ codes "replay" → ⊥) → ((workers : ℕ) (style : ReportStyle) → IsWalk rows workers style → ⊥) → (a : Asked) → IsAsked name rows a → ⊥
checks-nothing name rows no-make no-verify no-replay none (asked.Check path workers style) h = none workers style h.2
checks-nothing name rows no-make no-verify no-replay none (asked.Make format) h = no-make h.0
checks-nothing name rows no-make no-verify no-replay none (asked.Verify workers style) h = no-verify h.0
checks-nothing name rows no-make no-verify no-replay none (asked.Replay events style) h = no-replay h.0

pub makes-nothing : (name : Text) (rows : List Row) → name ≡ codes "make" → ((format : Format) → IsFormat rows format → ⊥) → (a : Asked) → IsAsked name rows a → ⊥
makes-nothing name rows is none (asked.Check path workers style) h = let bad = sym is ∙ h.0 in cc bad
makes-nothing name rows is none (asked.Make format) h = none format h.1
makes-nothing name rows is none (asked.Verify workers style) h = let bad = sym is ∙ h.0 in cc bad
makes-nothing name rows is none (asked.Replay events style) h = let bad = sym is ∙ h.0 in cc bad

pub verifies-nothing : (name : Text) (rows : List Row) → name ≡ codes "verify" → ((workers : ℕ) (style : ReportStyle) → IsWalk rows workers style → ⊥) → (a : Asked) → IsAsked name rows a → ⊥
verifies-nothing name rows is none (asked.Check path workers style) h = let bad = sym is ∙ h.0 in cc bad
verifies-nothing name rows is none (asked.Make format) h = let bad = sym is ∙ h.0 in cc bad
verifies-nothing name rows is none (asked.Verify workers style) h = none workers style h.1
verifies-nothing name rows is none (asked.Replay events style) h = verify-not-replay (sym is ∙ h.0)

pub replays-nothing : (name : Text) (rows : List Row) → (name ≡ codes "make" → ⊥) → (name ≡ codes "verify" → ⊥) → name ≡ codes "replay" → ((events : Bor (List ℕ)) (style : ReplayStyle) → IsReplay rows events style → ⊥) → (a : Asked) → IsAsked name rows a → ⊥
replays-nothing name rows no-make no-verify is none (asked.Check path workers style) h = let bad = sym is ∙ h.0 in cc bad
replays-nothing name rows no-make no-verify is none (asked.Make format) h = no-make h.0
replays-nothing name rows no-make no-verify is none (asked.Verify workers style) h = no-verify h.0
replays-nothing name rows no-make no-verify is none (asked.Replay events style) h = none events style h.1

-- `convert` asks for nothing of a program,
no-program : (name : Text) (rows : List Row) → name ≡ codes "convert" → (a : Asked) → IsAsked name rows a → ⊥
no-program name rows is (asked.Check path workers style) h = let bad = sym is ∙ h.0 in cc bad
no-program name rows is (asked.Make format) h = let bad = sym is ∙ h.0 in cc bad
no-program name rows is (asked.Verify workers style) h = let bad = sym is ∙ h.0 in cc bad
no-program name rows is (asked.Replay events style) h = let bad = sym is ∙ h.0 in cc bad

no-stubs-of-convert : (name : Text) (rows : List Row) → name ≡ codes "convert" → (w : WantedStubs) → IsWanted name rows w → ⊥
no-stubs-of-convert name rows is wanted.Missing h = let bad = sym is ∙ h.0 in cc bad
no-stubs-of-convert name rows is wanted.MissingAndUnread h = suggest-not-convert (sym h.0 ∙ is)
no-stubs-of-convert name rows is (wanted.Named names) h = let bad = sym is ∙ h.0 in cc bad

-- and without a path or a format for nothing; another command for no conversion. So it is with `survey`.
pub converts-nothing : (name : Text) (rows : List Row) → name ≡ codes "convert" → ((certificate : Bor (List ℕ)) (format : Format) → IsConversion rows certificate format → ⊥)
    → (r : Request) → IsGiven name rows r → ⊥
converts-nothing name rows is none (request.Program program) h = no-program name rows is program.asked h.asked
converts-nothing name rows is none (request.Convert certificate format) h = none certificate format h.1
converts-nothing name rows is none (request.Survey survey) h = let bad = sym is ∙ h.0 in cc bad
converts-nothing name rows is none (request.Suggest suggestion) h = suggest-not-convert (sym h.0 ∙ is)
converts-nothing name rows is none (request.Stubs stubs) h = no-stubs-of-convert name rows is stubs.wanted h.wanted
converts-nothing name rows is none (request.Explain code) h = explain-not-convert (sym h.0 ∙ is)

no-survey-of-program : (name : Text) (rows : List Row) → name ≡ codes "survey" → (a : Asked) → IsAsked name rows a → ⊥
no-survey-of-program name rows is (asked.Check path workers style) h = let bad = sym is ∙ h.0 in cc bad
no-survey-of-program name rows is (asked.Make format) h = let bad = sym is ∙ h.0 in cc bad
no-survey-of-program name rows is (asked.Verify workers style) h = survey-not-verify (sym is ∙ h.0)
no-survey-of-program name rows is (asked.Replay events style) h = survey-not-replay (sym is ∙ h.0)

pub surveys-nothing : (name : Text) (rows : List Row) → ((stubs : StubsRequest) → IsStubs name rows stubs → ⊥) → name ≡ codes "survey" → ((survey : SurveyRequest) → IsSurvey rows survey → ⊥)
    → (r : Request) → IsGiven name rows r → ⊥
surveys-nothing name rows no-stubs is none (request.Program program) h = no-survey-of-program name rows is program.asked h.asked
surveys-nothing name rows no-stubs is none (request.Convert certificate format) h = let bad = sym is ∙ h.0 in cc bad
surveys-nothing name rows no-stubs is none (request.Survey survey) h = none survey h.1
surveys-nothing name rows no-stubs is none (request.Suggest suggestion) h = let bad = sym is ∙ h.0 in cc bad
surveys-nothing name rows no-stubs is none (request.Stubs stubs) h = no-stubs stubs h
surveys-nothing name rows no-stubs is none (request.Explain code) h = let bad = sym is ∙ h.0 in cc bad

no-suggestion-of-program : (name : Text) (rows : List Row) → name ≡ codes "suggest" → (a : Asked) → IsAsked name rows a → ⊥
no-suggestion-of-program name rows is (asked.Check path workers style) h = let bad = sym is ∙ h.0 in cc bad
no-suggestion-of-program name rows is (asked.Make format) h = let bad = sym is ∙ h.0 in cc bad
no-suggestion-of-program name rows is (asked.Verify workers style) h = let bad = sym is ∙ h.0 in cc bad
no-suggestion-of-program name rows is (asked.Replay events style) h = let bad = sym is ∙ h.0 in cc bad

pub suggests-nothing : (name : Text) (rows : List Row) → ((stubs : StubsRequest) → IsStubs name rows stubs → ⊥) → name ≡ codes "suggest" → ((suggestion : SuggestRequest) → IsSuggestion rows suggestion → ⊥)
    → (r : Request) → IsGiven name rows r → ⊥
suggests-nothing name rows no-stubs is none (request.Program program) h = no-suggestion-of-program name rows is program.asked h.asked
suggests-nothing name rows no-stubs is none (request.Convert certificate format) h = suggest-not-convert (sym is ∙ h.0)
suggests-nothing name rows no-stubs is none (request.Survey survey) h = let bad = sym is ∙ h.0 in cc bad
suggests-nothing name rows no-stubs is none (request.Suggest suggestion) h = none suggestion h.1
suggests-nothing name rows no-stubs is none (request.Stubs stubs) h = no-stubs stubs h
suggests-nothing name rows no-stubs is none (request.Explain code) h = suggest-not-explain (sym is ∙ h.0)

-- Other commands than `stubs` and `suggest` ask for no stubs, nor does `suggest` without `--stubs`, or beside rules.
pub wants-nothing : (name : Text) (rows : List Row) → (name ≡ codes "stubs" → ⊥) → (name ≡ codes "suggest" → ⊥) → (w : WantedStubs) → IsWanted name rows w → ⊥
wants-nothing name rows no-stubs no-suggest wanted.Missing h = no-stubs h.0
wants-nothing name rows no-stubs no-suggest wanted.MissingAndUnread h = no-suggest h.0
wants-nothing name rows no-stubs no-suggest (wanted.Named names) h = no-stubs h.0

pub wants-no-stubs : (name : Text) (rows : List Row) → (name ≡ codes "stubs" → ⊥) → (IsFlag (codes "stubs") rows true → first_of (codes "beside") rows ≡ None → ⊥) → (w : WantedStubs) → IsWanted name rows w → ⊥
wants-no-stubs name rows no-stubs none wanted.Missing h = no-stubs h.0
wants-no-stubs name rows no-stubs none wanted.MissingAndUnread h = none h.1 h.2
wants-no-stubs name rows no-stubs none (wanted.Named names) h = no-stubs h.0

-- `explain` asks for nothing but a page, and without a code for nothing.
no-explained-program : (name : Text) (rows : List Row) → name ≡ codes "explain" → (a : Asked) → IsAsked name rows a → ⊥
no-explained-program name rows is (asked.Check path workers style) h = let bad = sym is ∙ h.0 in cc bad
no-explained-program name rows is (asked.Make format) h = let bad = sym is ∙ h.0 in cc bad
no-explained-program name rows is (asked.Verify workers style) h = let bad = sym is ∙ h.0 in cc bad
no-explained-program name rows is (asked.Replay events style) h = let bad = sym is ∙ h.0 in cc bad

no-stubs-of-explain : (name : Text) (rows : List Row) → name ≡ codes "explain" → (w : WantedStubs) → IsWanted name rows w → ⊥
no-stubs-of-explain name rows is wanted.Missing h = let bad = sym is ∙ h.0 in cc bad
no-stubs-of-explain name rows is wanted.MissingAndUnread h = suggest-not-explain (sym h.0 ∙ is)
no-stubs-of-explain name rows is (wanted.Named names) h = let bad = sym is ∙ h.0 in cc bad

pub explains-nothing : (name : Text) (rows : List Row) → name ≡ codes "explain" → None ≡ first_of (codes "CODE") rows → (r : Request) → IsGiven name rows r → ⊥
explains-nothing name rows is none (request.Program program) h = no-explained-program name rows is program.asked h.asked
explains-nothing name rows is none (request.Convert certificate format) h = explain-not-convert (sym is ∙ h.0)
explains-nothing name rows is none (request.Survey survey) h = let bad = sym is ∙ h.0 in cc bad
explains-nothing name rows is none (request.Suggest suggestion) h = suggest-not-explain (sym h.0 ∙ is)
explains-nothing name rows is none (request.Stubs stubs) h = no-stubs-of-explain name rows is stubs.wanted h.wanted
explains-nothing name rows is none (request.Explain code) h = let bad = none ∙ h.1 in cc bad

pub no-request : (name : Text) (rows : List Row) → (name ≡ codes "convert" → ⊥) → (name ≡ codes "survey" → ⊥) → (name ≡ codes "explain" → ⊥) → (name ≡ codes "suggest" → ⊥)
    → ((stubs : StubsRequest) → IsStubs name rows stubs → ⊥) → ((program : ProgramRequest) → IsProgramGiven name rows program → ⊥) → (r : Request) → IsGiven name rows r → ⊥
no-request name rows no-convert no-survey no-explain no-suggest no-stubs none (request.Program program) h = none program h
no-request name rows no-convert no-survey no-explain no-suggest no-stubs none (request.Convert certificate format) h = no-convert h.0
no-request name rows no-convert no-survey no-explain no-suggest no-stubs none (request.Survey survey) h = no-survey h.0
no-request name rows no-convert no-survey no-explain no-suggest no-stubs none (request.Suggest suggestion) h = no-suggest h.0
no-request name rows no-convert no-survey no-explain no-suggest no-stubs none (request.Stubs stubs) h = no-stubs stubs h
no-request name rows no-convert no-survey no-explain no-suggest no-stubs none (request.Explain code) h = no-explain h.0
