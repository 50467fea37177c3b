use Rattle.std.proofs.Common.{map, subst, sym, refl, inl, inr}
use Rattle.std.proofs.lemmas.Result.{IfOk-weaker, IfErr-weaker}
use Rattle.mlk_syntax.specs.Views.{routine_of}
use Rattle.mlk_machine_laws.specs.WellFormed.{AreFormed}
use Rattle.mlk_rules_file.specs.RuleSections.{SaysRules, RefusesRules}
use Rattle.mlk_pool.specs.Errors.{error_of_routine, error_of_rules}
use Rattle.mlk_pool.specs.Headline.{RefusesTrees}
use Rattle.mlk_pool.proofs.PassedOn.{passed-on}
use Rattle.mlk_outcome.specs.declared.refusal.NoReport.TheVariants as refusal
use Rattle.mlk_app.specs.Printing.{request_of}
use Rattle.mlk_app.specs.Ran.{IsPrinted, IsRefusedFor}
use Rattle.mlk_app.proofs.work.print_routines.Goals as goal

pub print_work-printed-requires-after_bounds : goal.print_work-printed-requires-after_bounds
print_work-printed-requires-after_bounds g c κs within = subst (λ l. AreFormed (map routine_of l)) (sym c.in_ok-program.ensures.same) c.requires

pub returns-in_err-program-clause-refused : goal.returns-in_err-program-clause-refused
returns-in_err-program-clause-refused g c =
    let e = c.in_err-program.field-0.0 in
    passed-on (RefusesTrees refusal.Check (map routine_of c.args.routines.now) c.args.sources.now.rules.items (IsRefusedFor c.args.sources.now.work))
    c.from_residual.result (refusal.Check (error_of_routine e)) c.from_residual.ensures.1
    (inl (e, c.in_err-program.ensures.refused, refl))

pub returns-in_err-rules-clause-refused : goal.returns-in_err-rules-clause-refused
returns-in_err-rules-clause-refused g c =
    let e = c.in_err-rules.field-0.0 in
    let refused = subst (λ text. RefusesRules text e) c.as_slice.ensures.value c.in_err-rules.ensures.refused in
    passed-on (RefusesTrees refusal.Check (map routine_of c.args.routines.now) c.args.sources.now.rules.items (IsRefusedFor c.args.sources.now.work))
    c.from_residual-in_err-rules.result (refusal.Check (error_of_rules e)) c.from_residual-in_err-rules.ensures.1
    (inr (c.in_ok-program.ensures.linked, inl (e, refused, refl)))

pub returns-clause-ok : goal.returns-clause-ok
returns-clause-ok g c =
    let rules = c.in_ok-rules.rules in
    let said = subst (λ text. SaysRules text rules) c.as_slice.ensures.value c.in_ok-rules.ensures.ok in
    IfOk-weaker c.print_work-printed.result _ _ (λ p h. (
      c.in_ok-program.ensures.linked,
      rules,
      said,
      subst (λ l. IsPrinted (request_of c.args.request.now c.args.known c.args.sources.now) (map routine_of l) rules c.args.sources.now.work p.text p.status) c.in_ok-program.ensures.same h,
    )) c.print_work-printed.ensures.ok

pub returns-clause-refused : goal.returns-clause-refused
returns-clause-refused g c =
    let rules = c.in_ok-rules.rules in
    let said = subst (λ text. SaysRules text rules) c.as_slice.ensures.value c.in_ok-rules.ensures.ok in
    IfErr-weaker c.print_work-printed.result _ _ (λ r h. inr (
      c.in_ok-program.ensures.linked,
      inr (
        rules,
        said,
        subst (λ l. IsRefusedFor c.args.sources.now.work (map routine_of l) rules r) c.in_ok-program.ensures.same h,
      ),
    )) c.print_work-printed.ensures.refused
