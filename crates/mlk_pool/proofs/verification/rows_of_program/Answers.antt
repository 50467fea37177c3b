use Rattle.std.proofs.Common.{map, refl, inl, inr}
use Rattle.std.proofs.lemmas.Result.{IfOk-weaker, IfErr-weaker}
use Rattle.mlk_syntax.specs.Views.{routine_of}
use Rattle.mlk_pool.specs.Errors.{error_of_rules, error_of_certificate}
use Rattle.mlk_pool.specs.Stages.{IsUnreportedByTexts}
use Rattle.mlk_pool.proofs.PassedOn.{passed-on}
use Rattle.mlk_pool.proofs.Unread.{unread}
use Rattle.mlk_pool.proofs.verification.rows_of_program.Goals as goal

pub returns-in_err-rules-clause-refused : goal.returns-in_err-rules-clause-refused
returns-in_err-rules-clause-refused g c =
    let e = c.in_err-rules.field-0.0 in
    passed-on (IsUnreportedByTexts (g.G.Gate.is_open c.args.gate.now) c.args.workers c.args.rules_text.now c.args.cert_text.now (map routine_of c.args.program.now))
    c.from_residual.result (error_of_rules e) c.from_residual.ensures.1
    (inl (e, c.in_err-rules.ensures.refused, refl))

pub returns-in_err-certificate-clause-refused : goal.returns-in_err-certificate-clause-refused
returns-in_err-certificate-clause-refused g c =
    let e = c.in_err-certificate.field-0.0 in
    let none = unread c.args.cert_text.now e c.in_err-certificate.ensures.back c.in_err-certificate.ensures.place in
    passed-on (IsUnreportedByTexts (g.G.Gate.is_open c.args.gate.now) c.args.workers c.args.rules_text.now c.args.cert_text.now (map routine_of c.args.program.now))
    c.from_residual-in_err-certificate.result (error_of_certificate e) c.from_residual-in_err-certificate.ensures.1
    (inr (c.in_ok-rules.rules, c.in_ok-rules.ensures.ok, inl (e, none, refl)))

pub returns-clause-ok : goal.returns-clause-ok
returns-clause-ok g c =
    IfOk-weaker c.verify_program.result _ _ (λ rows h. (
      c.in_ok-rules.rules,
      c.in_ok-rules.ensures.ok,
      c.in_ok-certificate.certificate,
      c.in_ok-certificate.ensures.ok,
      h,
    )) c.verify_program.ensures.ok

pub returns-clause-refused : goal.returns-clause-refused
returns-clause-refused g c =
    IfErr-weaker c.verify_program.result _ _ (λ e h. inr (
      c.in_ok-rules.rules,
      c.in_ok-rules.ensures.ok,
      inr (
        c.in_ok-certificate.certificate,
        c.in_ok-certificate.ensures.ok,
        (e, h, refl),
      ),
    )) c.verify_program.ensures.refused
