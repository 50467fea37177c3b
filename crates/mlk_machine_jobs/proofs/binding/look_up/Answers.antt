use Rattle.std.proofs.Common.{◌∙◌, ap, arith}
use Rattle.std.proofs.Math.Seq.{take-length}
use Rattle.mlk_machine_jobs.specs.Bindings.{look}
use Rattle.mlk_machine_jobs.specs.Views.{bindings_of, cell_of}
use Rattle.mlk_machine_jobs.proofs.BinderLemmas.{look_bound, look_past}
use Rattle.mlk_machine_jobs.proofs.binding.look_up.Goals as goal

pub loop-count-init : goal.loop-count-init
loop-count-init c = (omega arith, ap (λ bs. look (bindings_of bs) c.args.name.now) (take-length c.args.binders.now))

pub returns-in-Some : goal.returns-in-Some
returns-in-Some c =
    look_bound c.args.binders.now c.loop-count.count c.index-binders-count.result c.args.name.now (cell_of c.in-Some.cell)
    c.loop-count-test.true c.loop-count.invariant.0 c.index-binders-count.is c.in-Some.ensures
    ∙ c.loop-count.invariant.1

pub loop-count-preserved : goal.loop-count-preserved
loop-count-preserved c = (
  omega (arith, c.loop-count.invariant.0),
  look_past c.args.binders.now c.loop-count.count c.index-binders-count.result c.args.name.now c.loop-count-test.true
      c.loop-count.invariant.0 c.index-binders-count.is c.in_default.ensures
      ∙ c.loop-count.invariant.1,
)
