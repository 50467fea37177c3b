-- The lines of a file of events, and their texts, as joined parts: each has one text. This project's own format; names are those
-- of ISO/IEC 11756.
use Rattle.std.specs.Prelude.{ℕ, ◌≤◌, Bool, true, false, List, [], ◌∷◌, ◌++◌, codes}
use Rattle.std.specs.Fmt.{decimal}
use Rattle.mlk_cert_lexemes.specs.Lists.{Each, flat, more}
use Rattle.mlk_cert_lexemes.specs.Texts.{constant_text}
use Rattle.mlk_cert_lexemes.specs.Kinds.{HasBytes, IsEntryText}
use Rattle.mlk_machine.specs.declared.event_line.Beginning.{Beginning}
use Rattle.mlk_machine.specs.declared.event_line.EventLine.{EventLine}
use Rattle.mlk_machine.specs.declared.event_line.EventLine.TheVariants.{Begin, Go, GoValue, GoTruth, Run, Abort}

-- the number of a job, from 1 to this
abbrev pub greatest_job : ℕ
greatest_job = 4294967295

pub record IsJob (k : ℕ) : Type 0 where
  pub low : 1 ≤ k
  pub high : k ≤ greatest_job

abbrev pub truth_text : Bool → List ℕ
truth_text true = codes "yes"
truth_text false = codes "no"

-- `$TEST`
abbrev pub test_digit : Bool → ℕ
test_digit true = 49
test_digit false = 48

-- the begin of a job: its number, its entry, `$TEST`, and values, separated by spaces
abbrev pub begin_text : Beginning → List ℕ
begin_text b = decimal b.job ++ 32 ∷ (b.entry ++ 32 ∷ (test_digit b.test ∷ more 32 constant_text b.values))

-- the order of a line
abbrev pub event_line_text : EventLine → List ℕ
event_line_text (Begin b) = codes "begin " ++ begin_text b
event_line_text (Go job) = codes "go " ++ decimal job
event_line_text (GoValue job value) = codes "go " ++ (decimal job ++ 32 ∷ constant_text value)
event_line_text (GoTruth job truth) = codes "go " ++ (decimal job ++ 32 ∷ truth_text truth)
event_line_text (Run job) = codes "run " ++ decimal job
event_line_text (Abort job) = codes "abort " ++ decimal job

-- a line
abbrev pub line_text : EventLine → List ℕ
line_text o = event_line_text o ++ 10 ∷ []

-- a file: its lines, one after another
abbrev pub file_text : List EventLine → List ℕ
file_text orders = flat line_text orders

-- numbers, entries and values that can be written
pub record IsBeginning (b : Beginning) : Type 0 where
  pub job : IsJob b.job
  pub entry : IsEntryText b.entry
  pub values : Each HasBytes b.values

abbrev pub IsEventLine : EventLine → Type 0
IsEventLine (Begin b) = IsBeginning b
IsEventLine (Go job) = IsJob job
IsEventLine (GoValue job value) = IsJob job × HasBytes value
IsEventLine (GoTruth job truth) = IsJob job
IsEventLine (Run job) = IsJob job
IsEventLine (Abort job) = IsJob job
