use Rattle.std.proofs.Common.{map, refl, inl, inr}
use Rattle.std.proofs.lemmas.Result.{IfOk-weaker, IfErr-weaker}
use Rattle.mlk_syntax.specs.Views.{routine_of}
use Rattle.mlk_pool.specs.Errors.{error_of_certificate}
use Rattle.mlk_pool.specs.Headline.{RefusesByText}
use Rattle.mlk_pool.proofs.PassedOn.{passed-on}
use Rattle.mlk_pool.proofs.Unread.{unread}
use Rattle.mlk_outcome.specs.declared.refusal.NoReport.TheVariants as refusal
use Rattle.mlk_app.proofs.work.print_check.Goals as goal

pub returns-in_err-certificate-clause-refused : goal.returns-in_err-certificate-clause-refused
returns-in_err-certificate-clause-refused g c =
    let e = c.in_err-certificate.field-0.0 in
    let none = unread c.args.text.now e c.in_err-certificate.ensures.back c.in_err-certificate.ensures.place in
    passed-on (RefusesByText refusal.Check (Unit {0}) c.args.workers c.args.text.now (map routine_of c.args.subject.now.program.now) c.args.subject.now.rules.now)
    c.from_residual.result (refusal.Check (error_of_certificate e)) c.from_residual.ensures.1
    (inl (e, none, refl))

pub returns-clause-ok : goal.returns-clause-ok
returns-clause-ok g c =
    IfOk-weaker c.print_report.result _ _ (λ p h. (c.in_ok-certificate.certificate, c.in_ok-certificate.ensures.ok, h)) c.print_report.ensures.ok

pub returns-clause-refused : goal.returns-clause-refused
returns-clause-refused g c =
    IfErr-weaker c.print_report.result _ _ (λ r h. inr (c.in_ok-certificate.certificate, c.in_ok-certificate.ensures.ok, h)) c.print_report.ensures.refused
