-- What a replay shows of a program that keeps its rules, stated as the contracts of the calls that show it. This project's own.
use Rattle.std.specs.Prelude.{◌≡◌, ◌≢◌, ℕ, true, false, List, [], ◌++◌, map, Some, Ok, codes, option_and_then}
use Rattle.mlk_names.specs.Lists.{Among}
use Rattle.mlk_names.specs.declared.lock_name.LockName.{LockName}
use Rattle.mlk_names.specs.References.{Touch}
use Rattle.mlk_rules.specs.declared.rules.RuleLists.{RuleLists}
use Rattle.mlk_rules.specs.Laws.{FreesNoReads, OneReadsFreely}
use Rattle.mlk_syntax.specs.declared.routine.Routine.{Routine}
use Rattle.mlk_syntax.specs.Trees.{RoutineTree}
use Rattle.mlk_syntax.specs.Views.{routine_of}
use Rattle.mlk_program.specs.declared.entry.EntryId.{EntryId}
use Rattle.mlk_program.specs.Entries.{entry_by}
use Rattle.mlk_cert_lexemes.specs.Lists.{flat}
use Rattle.mlk_cert_lexemes.specs.Texts.{line}
use Rattle.mlk_cert_parts.specs.declared.block.EntryCert.{EntryCert}
use Rattle.mlk_machine_locks.specs.Laws.{has_ring_of}
use Rattle.mlk_machine_jobs.specs.Tasks.{Job}
use Rattle.mlk_machine_jobs.specs.Runs.{seen}
use Rattle.mlk_machine_jobs.specs.Seen.{Clash, ready, state, Ended}
use Rattle.mlk_machine.specs.Jobs.{job_numbered, count_held}
use Rattle.mlk_machine.specs.Running.{Running}
use Rattle.mlk_machine.specs.Systems.{jobs_in}
use Rattle.mlk_machine.specs.Laws.{IsMoment}
use Rattle.mlk_machine.specs.Files.{ReplayedFile}
use Rattle.mlk_machine_view.specs.Clashes.{touches_clash, clash, clashes}
use Rattle.mlk_machine_view.specs.Printed.{job_line, clash_lines, waits_lines, system_text}
use Rattle.mlk_check.specs.Theorem.{AreSafe, KeepsRules}

-- two jobs clash, and one of them reads freely
abbrev pub ClashFreely : RuleLists → Job → Job → Type 0
ClashFreely rules i j = (clash : Clash i j) × OneReadsFreely rules clash.one clash.other

-- What calls show of these jobs: of two that `clash` finds, one reads freely. If no rule frees reads, `clash` finds no two,
-- `clashes` lists none, and what `ready` returns for two numbers does not clash. `has_ring` finds no ring; for a job that
-- `state` calls ended, `holds` counts no name; and the printed text has a line for each pair that `clashes` lists, and says that
-- there is no ring.
pub record AreShownSafe (rules : RuleLists) (routines : List RoutineTree) (jobs : List Job) : Type 0 where
  pub clash_freely : (i j : Job) → Among i jobs → Among j jobs → clash i j ≡ true → ClashFreely rules i j
  pub none_clash : FreesNoReads rules → (i j : Job) → Among i jobs → Among j jobs → clash i j ≡ false
  pub no_pairs : FreesNoReads rules → clashes jobs ≡ []
  pub apart : FreesNoReads rules → (k n : ℕ) (t u : Touch) → k ≢ n → option_and_then ready (job_numbered k jobs) ≡ Some t
      → option_and_then ready (job_numbered n jobs) ≡ Some u → touches_clash t u ≡ false
  pub no_ring : has_ring_of seen jobs ≡ false
  pub none_held : (k : ℕ) (j : Job) → job_numbered k jobs ≡ Some j → state routines j ≡ Ended
      → (n : LockName) → count_held n (job_numbered k jobs) ≡ 0
  pub printed : system_text routines jobs
      ≡ flat (job_line routines) jobs ++ (clash_lines jobs ++ (waits_lines jobs ++ line (codes "ring ") (codes "no")))

-- Safe jobs are shown as such.
abbrev pub SafeIsShown : Type 0
SafeIsShown = (rules : RuleLists) (routines : List RoutineTree) (jobs : List Job) → AreSafe rules jobs → AreShownSafe rules routines jobs

-- the entries that these texts name, each exactly one
abbrev pub AreNamed : List RoutineTree → List (List ℕ) → List EntryId → Type 0
AreNamed routines texts entries = map Some entries ≡ map (entry_by routines) texts

-- If a program keeps its rules, jobs are safe at each moment of a run that begins at the entries which the rules name, so also
-- after all lines of a file of events, and are shown as such.
pub record ReplaysAreSafe : Type 0 where
  pub at_moments : (program : List Routine) (rules : RuleLists) (blocks : List EntryCert) (entries : List EntryId) (jobs : List Job)
      → KeepsRules (map routine_of program) rules blocks → AreNamed (map routine_of program) rules.entries entries
      → IsMoment program entries jobs → AreSafe rules jobs
  pub of_files : (program : List Routine) (rules : RuleLists) (blocks : List EntryCert) (entries : List EntryId)
      (bytes : List ℕ) (s : Running)
      → KeepsRules (map routine_of program) rules blocks → AreNamed (map routine_of program) rules.entries entries
      → ReplayedFile program entries bytes (Ok s) → AreShownSafe rules (map routine_of program) (jobs_in s)
