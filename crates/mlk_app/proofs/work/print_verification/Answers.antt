use Rattle.std.proofs.Common.{map, inl, inr}
use Rattle.std.proofs.lemmas.Result.{IfOk-weaker, IfErr-weaker}
use Rattle.mlk_syntax.specs.Views.{routine_of}
use Rattle.mlk_pool.proofs.PassedOn.{passed-on}
use Rattle.mlk_app.specs.Ran.{RefusesMade}
use Rattle.mlk_app.proofs.work.print_verification.Goals as goal

pub returns-in_err-certificate-clause-refused : goal.returns-in_err-certificate-clause-refused
returns-in_err-certificate-clause-refused g c =
    passed-on (RefusesMade c.args.workers (map routine_of c.args.subject.now.program.now) c.args.subject.now.rules.now)
    c.from_residual.result c.in_err-certificate.field-0.0 c.from_residual.ensures.1 (inl c.in_err-certificate.ensures.refused)

pub returns-clause-ok : goal.returns-clause-ok
returns-clause-ok g c = IfOk-weaker c.print_report.result _ _ (λ p h. (c.in_ok-certificate.certificate, h)) c.print_report.ensures.ok

pub returns-clause-refused : goal.returns-clause-refused
returns-clause-refused g c = IfErr-weaker c.print_report.result _ _ (λ r h. inr (c.in_ok-certificate.certificate, h)) c.print_report.ensures.refused
