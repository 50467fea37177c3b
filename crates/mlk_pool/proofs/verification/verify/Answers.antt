use Rattle.std.proofs.Common.{map, subst, sym, refl, inl, inr}
use Rattle.mlk_syntax.specs.Views.{routine_of}
use Rattle.mlk_machine_laws.specs.WellFormed.{AreFormed}
use Rattle.mlk_pool.specs.Errors.{error_of_routine}
use Rattle.mlk_pool.specs.Headline.{IsUnverified}
use Rattle.mlk_pool.specs.Stages.{IsUnreportedOfTrees}
use Rattle.mlk_pool.proofs.Formed.{read_formed}
use Rattle.mlk_pool.proofs.PassedOn.{passed-on}
use Rattle.mlk_pool.proofs.verification.verify.Goals as goal

pub rows_of_routines-requires-after_bounds : goal.rows_of_routines-requires-after_bounds
rows_of_routines-requires-after_bounds g c κs within =
    subst (λ l. AreFormed (map routine_of l)) (sym c.as_slice-trees.ensures.value)
    (read_formed c.args.sources.now (map routine_of c.in_ok-routines.routines.items) c.in_ok-routines.ensures.ok)

pub returns-in_err-routines-clause-refused : goal.returns-in_err-routines-clause-refused
returns-in_err-routines-clause-refused g c =
    let e = c.in_err-routines.field-0.0 in
    passed-on (IsUnverified (g.G.Gate.is_open c.args.gate.now) c.args.workers c.args.sources.now c.args.rules.now c.args.certificate.now)
    c.from_residual.result (error_of_routine e) c.from_residual.ensures.1
    (inl (e, c.in_err-routines.ensures.refused, refl))

pub returns-in_err-rows-clause-refused : goal.returns-in_err-rows-clause-refused
returns-in_err-rows-clause-refused g c =
    let e = c.in_err-rows.field-0.0 in
    let of_trees = subst (λ l. IsUnreportedOfTrees (g.G.Gate.is_open c.args.gate.now) c.args.workers (map routine_of l) c.args.rules.now c.args.certificate.now e) c.as_slice-trees.ensures.value c.in_err-rows.ensures.refused in
    passed-on (IsUnverified (g.G.Gate.is_open c.args.gate.now) c.args.workers c.args.sources.now c.args.rules.now c.args.certificate.now)
    c.from_residual-in_err-rows.result e c.from_residual-in_err-rows.ensures.1
    (inr (map routine_of c.in_ok-routines.routines.items, c.in_ok-routines.ensures.ok, of_trees))
