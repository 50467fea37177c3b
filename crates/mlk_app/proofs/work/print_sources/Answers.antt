use Rattle.std.proofs.Common.{map, subst, sym, refl, inl, inr}
use Rattle.std.proofs.lemmas.Result.{IfOk-weaker, IfErr-weaker}
use Rattle.mlk_syntax.specs.Views.{routine_of}
use Rattle.mlk_machine_laws.specs.WellFormed.{AreFormed}
use Rattle.mlk_pool.specs.Errors.{error_of_routine}
use Rattle.mlk_pool.specs.Headline.{RefusesTrees}
use Rattle.mlk_reading.specs.Reading.{AreRead, RefusesFirst}
use Rattle.mlk_pool.proofs.Formed.{read_formed}
use Rattle.mlk_pool.proofs.PassedOn.{passed-on}
use Rattle.mlk_outcome.specs.declared.refusal.NoReport.TheVariants as refusal
use Rattle.mlk_app.specs.Ran.{IsRefusedFor}
use Rattle.mlk_app.specs.Printing.{IsPrintedOfTrees, IsRefusedSources}
use Rattle.mlk_app.proofs.work.print_sources.Goals as goal

pub print_routines-printed-requires-after_bounds : goal.print_routines-printed-requires-after_bounds
print_routines-printed-requires-after_bounds g c κs within =
    subst (λ l. AreFormed (map routine_of l)) (sym c.as_slice.ensures.value)
    (read_formed c.as_read.result.now (map routine_of c.in_ok-routines.routines.items) c.in_ok-routines.ensures.ok)

pub returns-in_err-routines-clause-refused : goal.returns-in_err-routines-clause-refused
returns-in_err-routines-clause-refused g c =
    let e = c.in_err-routines.field-0.0 in
    passed-on (IsRefusedSources c.args.sources.now)
    c.from_residual.result (refusal.Check (error_of_routine e)) c.from_residual.ensures.1
    (inl (e, subst (λ l. RefusesFirst l e) c.as_read.ensures c.in_err-routines.ensures.refused, refl))

pub returns-clause-ok : goal.returns-clause-ok
returns-clause-ok g c =
    let trees = map routine_of c.in_ok-routines.routines.items in
    let read = subst (λ l. AreRead l trees) c.as_read.ensures c.in_ok-routines.ensures.ok in
    IfOk-weaker c.print_routines-printed.result _ _ (λ p h. (
      trees,
      read,
      subst (λ l. IsPrintedOfTrees c.args.request.now c.args.known (map routine_of l) c.args.sources.now p.text p.status) c.as_slice.ensures.value h,
    )) c.print_routines-printed.ensures.ok

pub returns-clause-refused : goal.returns-clause-refused
returns-clause-refused g c =
    let trees = map routine_of c.in_ok-routines.routines.items in
    let read = subst (λ l. AreRead l trees) c.as_read.ensures c.in_ok-routines.ensures.ok in
    IfErr-weaker c.print_routines-printed.result _ _ (λ r h. inr (
      trees,
      read,
      subst (λ l. RefusesTrees refusal.Check (map routine_of l) c.args.sources.now.rules.items (IsRefusedFor c.args.sources.now.work) r) c.as_slice.ensures.value h,
    )) c.print_routines-printed.ensures.refused
