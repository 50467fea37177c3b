use Rattle.std.proofs.Common.{sym, ◌∙◌, map}
use Rattle.mlk_syntax.specs.Views.{routine_of}
use Rattle.mlk_check.proofs.Theorem.{keeps_rules, ok_turned}
use Rattle.mlk_pool.proofs.report.report_by.Goals as goal

pub returns-clause-safe : goal.returns-clause-safe
returns-clause-safe g c =
    ok_turned c.report_on.result
    (λ r is none formed. keeps_rules (map routine_of c.args.program.now) c.args.rules.now c.args.certificate.now c.lists.ensures.sound c.blocks-2.ensures.limits formed (sym is ∙ none))
    c.report_on.ensures.ok
