-- What a report without faults says of each run of one job.
use Rattle.std.specs.Prelude.{◌≡◌, List, []}
use Rattle.mlk_rules.specs.declared.rules.RuleLists.{RuleLists}
use Rattle.mlk_rules.specs.Sound.{IsSound}
use Rattle.mlk_syntax.specs.Trees.{RoutineTree}
use Rattle.mlk_cert_parts.specs.declared.block.EntryCert.{EntryCert}
use Rattle.mlk_machine_jobs.specs.Tasks.{Job}
use Rattle.mlk_walk_state.specs.Scope.{certified, declared, is_declared}
use Rattle.mlk_walk.specs.Reports.{report}
use Rattle.mlk_soundness_machine.specs.Listed.{FactsSince}
use Rattle.mlk_soundness_machine.specs.Moments.{AtEachMomentSince}
use Rattle.mlk_machine_laws.specs.WellFormed.{AreFormed}
use Rattle.mlk_soundness_walk.specs.Forms.{ListOnce}

-- The invariants of one job: the reference that it touches next is covered, its next claim is in order, and it ends without a
-- lock; at the begin of a frame, at each line that it moves on to, and at each round of a FOR, a listed case describes it; and
-- before each command and after each argument of a line, a case that the walk derives from a listed one does.
abbrev pub Keeps : List RoutineTree → RuleLists → List EntryCert → List Job → Job → Type 0
Keeps routines rules blocks = FactsSince routines rules (certified routines blocks, declared routines rules.entries)

-- If the report is without faults, each job meets them at each moment of each run of its own that begins at a declared entry.
abbrev pub OneJob : Type 0
OneJob =
    (routines : List RoutineTree) (rules : RuleLists) (blocks : List EntryCert)
    → AreFormed routines → IsSound rules → ListOnce blocks → report routines rules blocks ≡ []
    → AtEachMomentSince routines (is_declared routines rules.entries) (Keeps routines rules blocks)
