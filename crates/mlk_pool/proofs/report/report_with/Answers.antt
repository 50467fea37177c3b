use Rattle.std.proofs.Common.{◌∙◌, ap, map, filter}
use Rattle.std.proofs.lemmas.Result.{IfErr-weaker}
use Rattle.mlk_syntax.specs.Views.{routine_of}
use Rattle.mlk_pool.specs.Given.{is_certified}
use Rattle.mlk_pool.specs.Refusals.{IsFirstNotDone, StopsAt}
use Rattle.mlk_pool.proofs.NotDone.{shut_more}
use Rattle.mlk_pool.proofs.Runs.{tasks_known, slots_known}
use Rattle.mlk_pool.proofs.report.report_with.Goals as goal

pub of-requires : goal.of-requires
of-requires g c =
    tasks_known g.N.Inputs.given (map routine_of c.args.checks.now.program.now) c.args.checks.now.rules.now c.args.checks.now.entries.now c.in_ok-entries.entries.items c.in_ok-tasks.tasks.items
    c.requires.inputs c.in_ok-entries.ensures (c.in_ok-tasks.ensures ∙ ap (filter (is_certified c.args.checks.now.entries.now.0)) c.as_slice.ensures.value)

pub collect_report-requires-clause-slots : goal.collect_report-requires-clause-slots
collect_report-requires-clause-slots g c =
    slots_known g.N.Inputs.given (map routine_of c.args.checks.now.program.now) c.args.checks.now.rules.now c.args.checks.now.entries.now c.as_slice-2.result.now c.into_slots-slots.result.items
    c.requires.inputs (c.as_slice-2.ensures.value ∙ c.in_ok-entries.ensures)
    c.into_slots-slots.ensures

pub returns-clause-refused : goal.returns-clause-refused
returns-clause-refused g c =
    let left = c.into_slots-slots.result.items in
    IfErr-weaker c.collect_report.result _ _
    (λ e. shut_more (g.G.Gate.is_open c.args.gate.now) (IsFirstNotDone left) (StopsAt g.N.Inputs.given) e (λ task first. (left, c.into_slots-slots.ensures, first)))
    c.collect_report.ensures.refused
