-- If the report has no row, every run keeps the rules.
use Rattle.std.proofs.Common.{◌≡◌, List, [], Result, Ok, Err}
use Rattle.std.specs.Prelude.{IfOk}
use Rattle.mlk_rules.specs.declared.rules.RuleLists.{RuleLists}
use Rattle.mlk_rules.specs.Sound.{IsSound}
use Rattle.mlk_syntax.specs.Trees.{RoutineTree}
use Rattle.mlk_cert_parts.specs.declared.block.EntryCert.{EntryCert}
use Rattle.mlk_cert_parts.specs.Limits.{IsCertificate}
use Rattle.mlk_machine_laws.specs.Moments.{StandsCovered, AtEachMoment}
use Rattle.mlk_machine_laws.proofs.Runs.{clashes_are_free, no_clash, no_ring, all_end_empty}
use Rattle.mlk_walk_state.specs.Scope.{is_declared}
use Rattle.mlk_walk.specs.Reports.{report}
use Rattle.mlk_soundness_machine.specs.Facts.{Facts}
use Rattle.mlk_machine_laws.specs.WellFormed.{AreFormed}
use Rattle.mlk_soundness_walk.proofs.Listed.{list_once}
use Rattle.mlk_soundness_walk.proofs.OneJob.{one_job, each_facts}
use Rattle.mlk_check.specs.Theorem.{KeepsRules}

pub ok_turned : {A B : Type 0} {P Q : A → Type 0} (r : Result A B) → ((a : A) → P a → Q a) → IfOk r P → IfOk r Q
ok_turned (Ok a) f h = f a h
ok_turned (Err b) f h = h

pub keeps_rules : (routines : List RoutineTree) (rules : RuleLists) (blocks : List EntryCert) → IsSound rules → IsCertificate blocks → AreFormed routines → report routines rules blocks ≡ []
    → KeepsRules routines rules blocks
keeps_rules routines rules blocks sound certificate formed clean =
    let each : AtEachMoment routines (is_declared routines rules.entries) (Facts rules) = each_facts routines rules blocks formed sound (list_once blocks certificate) clean in
    let covered : AtEachMoment routines (is_declared routines rules.entries) (StandsCovered rules) = λ e test values k first j acts b r. (each e test values k first j acts b r).covered in
    record {
      each_job = one_job routines rules blocks formed sound (list_once blocks certificate) clean;
      all_jobs = λ events jobs h. record {
        clashes = clashes_are_free routines (is_declared routines rules.entries) rules sound covered events jobs h;
        no_clash = λ locked. no_clash routines (is_declared routines rules.entries) rules sound locked covered events jobs h;
        all_end_empty = all_end_empty routines (is_declared routines rules.entries) (λ e test values k first j acts b r. (each e test values k first j acts b r).ends) events jobs h;
        no_ring = no_ring routines (is_declared routines rules.entries) rules sound (λ e test values k first j acts b r. (each e test values k first j acts b r).in_order) events jobs h;
      };
    }
