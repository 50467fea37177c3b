-- Each job, at each moment of each run of its own, if the report is without faults.
use Rattle.std.proofs.Common.{◌≡◌, List, []}
use Rattle.mlk_rules.specs.declared.rules.RuleLists.{RuleLists}
use Rattle.mlk_rules.specs.Sound.{IsSound}
use Rattle.mlk_syntax.specs.Trees.{RoutineTree}
use Rattle.mlk_cert_parts.specs.declared.block.EntryCert.{EntryCert}
use Rattle.mlk_machine_laws.specs.Moments.{AtEachMoment}
use Rattle.mlk_walk_state.specs.Scope.{is_declared}
use Rattle.mlk_walk.specs.Reports.{report}
use Rattle.mlk_walk.specs.Verdicts.{known}
use Rattle.mlk_soundness_machine.specs.Facts.{Facts}
use Rattle.mlk_machine_laws.specs.WellFormed.{AreFormed}
use Rattle.mlk_soundness_walk.specs.Forms.{ListOnce}
use Rattle.mlk_soundness_walk.specs.Theorem.{OneJob}
use Rattle.mlk_soundness_walk.proofs.Closed.{each_entry}
use Rattle.mlk_soundness_walk.proofs.Starting.{each_moment}
use Rattle.mlk_soundness_walk.proofs.Wells.{its_formals}

pub one_job : OneJob
one_job = λ routines rules blocks formed sound once clean.
    each_moment routines rules blocks clean
    (λ e head body lines heads. its_formals routines rules (known routines rules blocks) e head body lines heads (λ tree i. (formed tree i).formals))
    (each_entry routines rules blocks clean formed sound once)

-- the part that needs no history
pub each_facts : (routines : List RoutineTree) (rules : RuleLists) (blocks : List EntryCert) → AreFormed routines → IsSound rules → ListOnce blocks → report routines rules blocks ≡ []
    → AtEachMoment routines (is_declared routines rules.entries) (Facts rules)
each_facts routines rules blocks formed sound once clean e test values k first j acts begins runs =
    (one_job routines rules blocks formed sound once clean e test values k first j acts begins runs).facts
