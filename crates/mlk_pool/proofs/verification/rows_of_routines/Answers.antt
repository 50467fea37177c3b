use Rattle.std.proofs.Common.{map, subst, sym, refl, inl, inr}
use Rattle.std.proofs.lemmas.Result.{IfOk-weaker, IfErr-weaker}
use Rattle.mlk_syntax.specs.Views.{routine_of}
use Rattle.mlk_machine_laws.specs.WellFormed.{AreFormed}
use Rattle.mlk_pool.specs.Errors.{error_of_routine}
use Rattle.mlk_pool.specs.Stages.{IsReportByTexts, IsUnreportedByTexts, IsUnreportedOfTrees}
use Rattle.mlk_pool.proofs.PassedOn.{passed-on}
use Rattle.mlk_pool.proofs.verification.rows_of_routines.Goals as goal

pub rows_of_program-requires-after_bounds : goal.rows_of_program-requires-after_bounds
rows_of_program-requires-after_bounds g c κs within = subst (λ l. AreFormed (map routine_of l)) (sym c.in_ok-program.ensures.same) c.requires

pub returns-in_err-program-clause-refused : goal.returns-in_err-program-clause-refused
returns-in_err-program-clause-refused g c =
    let e = c.in_err-program.field-0.0 in
    passed-on (IsUnreportedOfTrees (g.G.Gate.is_open c.args.gate.now) c.args.workers (map routine_of c.args.routines.now) c.args.rules_text.now c.args.cert_text.now)
    c.from_residual.result (error_of_routine e) c.from_residual.ensures.1
    (inl (e, c.in_err-program.ensures.refused, refl))

pub returns-clause-ok : goal.returns-clause-ok
returns-clause-ok g c =
    IfOk-weaker c.rows_of_program.result _ _ (λ rows h. (
      c.in_ok-program.ensures.linked,
      subst (λ l. IsReportByTexts c.args.rules_text.now c.args.cert_text.now (map routine_of l) rows) c.in_ok-program.ensures.same h,
    )) c.rows_of_program.ensures.ok

pub returns-clause-refused : goal.returns-clause-refused
returns-clause-refused g c =
    IfErr-weaker c.rows_of_program.result _ _ (λ e h. inr (
      c.in_ok-program.ensures.linked,
      subst (λ l. IsUnreportedByTexts (g.G.Gate.is_open c.args.gate.now) c.args.workers c.args.rules_text.now c.args.cert_text.now (map routine_of l) e) c.in_ok-program.ensures.same h,
    )) c.rows_of_program.ensures.refused
