-- Reading the parts of a file of events, as functions on lists: what is read, and the rest. For private clauses only: the
-- contracts of public calls use `Texts` and `Files`, and proofs connect the two.
use Rattle.std.specs.Prelude.{ℕ, suc, ◌==◌, Bool, true, false, if◌then◌else◌, List, [], ◌∷◌, length, Option, Some, None, codes}
use Rattle.mlk_text.specs.Reading.{◌>>=◌, with, many}
use Rattle.mlk_text.specs.Lexemes.{byte_at}
use Rattle.mlk_cert_lexemes.specs.Reading.{word_at, counted_at, constant_at, next, entry_at}
use Rattle.mlk_machine.specs.declared.event_line.EventLine.{EventLine}
use Rattle.mlk_machine.specs.declared.event_line.EventLine.TheVariants.{Begin, Go, GoValue, GoTruth, Run, Abort}
use Rattle.mlk_machine.specs.EventTexts.{greatest_job}

abbrev pub job_at : List ℕ → Option (ℕ × List ℕ)
job_at xs = counted_at greatest_job xs

abbrev pub test_at : List ℕ → Option (Bool × List ℕ)
test_at [] = None
test_at (b ∷ xs) = if b == 48 then Some (false, xs) else if b == 49 then Some (true, xs) else None

-- the part of a `begin` line before the values
unfoldable pub head_at : List ℕ → Option ((ℕ × List ℕ × Bool) × List ℕ)
head_at xs =
    job_at xs >>= λ job.
    byte_at 32 job.1 >>= λ first.
    entry_at first.1 >>= λ entry.
    byte_at 32 entry.1 >>= λ second.
    with (λ test. (job.0, entry.0, test)) (test_at second.1)

abbrev pub beginning_of : ℕ × List ℕ × Bool → List (List ℕ) → EventLine
beginning_of head values = Begin (record { job = head.0; entry = head.1; test = head.2; values = values })

unfoldable pub begin_at : List ℕ → Option (EventLine × List ℕ)
begin_at xs =
    head_at xs >>= λ head.
    with (beginning_of head.0) (many (byte_at 32) (next constant_at) (suc (length head.1)) head.1)

-- the choice of a step, after its space
abbrev pub no_by : ℕ → List ℕ → Option (List ℕ × List ℕ) → Option (EventLine × List ℕ)
no_by job xs (Some word) = Some (GoTruth job false, word.1)
no_by job xs None = with (GoValue job) (constant_at xs)

abbrev pub yes_by : ℕ → List ℕ → Option (List ℕ × List ℕ) → Option (EventLine × List ℕ)
yes_by job xs (Some word) = Some (GoTruth job true, word.1)
yes_by job xs None = no_by job xs (word_at (codes "no") xs)

unfoldable pub chosen_at : ℕ → List ℕ → Option (EventLine × List ℕ)
chosen_at job xs = yes_by job xs (word_at (codes "yes") xs)

-- a step
abbrev pub choice_by : ℕ → List ℕ → Option (ℕ × List ℕ) → Option (EventLine × List ℕ)
choice_by job xs (Some space) = chosen_at job space.1
choice_by job xs None = Some (Go job, xs)

unfoldable pub go_at : List ℕ → Option (EventLine × List ℕ)
go_at xs = job_at xs >>= λ job. choice_by job.0 job.1 (byte_at 32 job.1)

-- the order of a line, by its first word
abbrev pub abort_by : Option (List ℕ × List ℕ) → Option (EventLine × List ℕ)
abort_by (Some word) = with Abort (job_at word.1)
abort_by None = None

abbrev pub run_by : List ℕ → Option (List ℕ × List ℕ) → Option (EventLine × List ℕ)
run_by xs (Some word) = with Run (job_at word.1)
run_by xs None = abort_by (word_at (codes "abort ") xs)

abbrev pub go_by : List ℕ → Option (List ℕ × List ℕ) → Option (EventLine × List ℕ)
go_by xs (Some word) = go_at word.1
go_by xs None = run_by xs (word_at (codes "run ") xs)

abbrev pub begin_by : List ℕ → Option (List ℕ × List ℕ) → Option (EventLine × List ℕ)
begin_by xs (Some word) = begin_at word.1
begin_by xs None = go_by xs (word_at (codes "go ") xs)

unfoldable pub event_line_at : List ℕ → Option (EventLine × List ℕ)
event_line_at xs = begin_by xs (word_at (codes "begin ") xs)

unfoldable pub line_at : List ℕ → Option (EventLine × List ℕ)
line_at xs = event_line_at xs >>= λ order. with (λ _. order.0) (byte_at 10 order.1)
