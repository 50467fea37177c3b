-- The printed text of a system: what each job does next and holds, which two clash, which wait for which, and whether some wait
-- in a ring. This project's own.
use Rattle.std.specs.Prelude.{ℕ, Bool, true, false, List, ◌∷◌, ◌++◌, codes}
use Rattle.std.specs.Fmt.{decimal}
use Rattle.mlk_cert_lexemes.specs.Lists.{flat}
use Rattle.mlk_cert_lexemes.specs.Texts.{line}
use Rattle.mlk_machine_locks.specs.Laws.{has_ring_of}
use Rattle.mlk_syntax.specs.Trees.{RoutineTree}
use Rattle.mlk_machine_jobs.specs.Runs.{seen}
use Rattle.mlk_machine_jobs.specs.Seen.{state}
use Rattle.mlk_machine_jobs.specs.Tasks.{Job}
use Rattle.mlk_machine_view.specs.Clashes.{clashes, waits_among}
use Rattle.mlk_machine_view.specs.StateTexts.{state_text, holds_text}

-- the line of a job
abbrev pub job_line : List RoutineTree → Job → List ℕ
job_line routines j = line (codes "job ")
    (decimal j.number ++ 32 ∷ (state_text (state routines j) ++ (codes " holds " ++ holds_text j.held)))

-- the line of a pair of jobs, by their numbers
abbrev pub pair_line : List ℕ → ℕ × ℕ → List ℕ
pair_line word p = line word (decimal p.0 ++ 32 ∷ decimal p.1)

abbrev pub clash_lines : List Job → List ℕ
clash_lines jobs = flat (pair_line (codes "clash ")) (clashes jobs)

abbrev pub waits_lines : List Job → List ℕ
waits_lines jobs = flat (pair_line (codes "waits ")) (waits_among jobs)

-- the line that says whether some of the jobs wait in a ring
abbrev pub ring_text : Bool → List ℕ
ring_text true = codes "yes"
ring_text false = codes "no"

abbrev pub ring_line : List Job → List ℕ
ring_line jobs = line (codes "ring ") (ring_text (has_ring_of seen jobs))

-- All jobs in the order in which they began, then those that clash, those that wait, and the ring.
abbrev pub system_text : List RoutineTree → List Job → List ℕ
system_text routines jobs =
    flat (job_line routines) jobs ++ (clash_lines jobs ++ (waits_lines jobs ++ ring_line jobs))
