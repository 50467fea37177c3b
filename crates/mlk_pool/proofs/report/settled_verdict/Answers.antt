use Rattle.std.proofs.Common.{◌≡◌, ◌∙◌, sym, map, subst}
use Rattle.mlk_syntax.specs.Views.{routine_of}
use Rattle.mlk_pool.specs.Given.{verdict_of}
use Rattle.mlk_pool.specs.Boards.{IsSlotOf, IsOutcomeOf}
use Rattle.mlk_pool.proofs.Runs.{verdict_given}
use Rattle.mlk_pool.proofs.report.settled_verdict.Goals as goal

pub returns-in-Some-Posted-default-Done-clause-ok : goal.returns-in-Some-Posted-default-Done-clause-ok
returns-in-Some-Posted-default-Done-clause-ok g c =
    let posted = c.in-Some-Posted-default-Done in
    let given : (posted.verdict ≡ verdict_of g.N.Inputs.given c.args.entry) =
    subst (IsOutcomeOf g.N.Inputs.given c.args.entry) posted.field-0-1-is
    (subst (IsSlotOf g.N.Inputs.given c.args.entry) posted.field-0-is (c.requires.slot posted.field-0 posted.is)) in
    given ∙ sym (verdict_given g.N.Inputs.given (map routine_of c.args.checks.now.program.now) c.args.checks.now.rules.now c.args.checks.now.entries.now c.requires.inputs c.args.entry)
