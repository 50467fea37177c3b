use Rattle.std.proofs.Common.{ℕ, suc, ◌+◌, ◌≡◌, Bool, map, ap, ◌∙◌, arith}
use Rattle.std.proofs.lemmas.List.{length-set}
use Rattle.mlk_machine_jobs.specs.Bindings.{Cell}
use Rattle.mlk_machine_jobs.specs.Killing.{is_taken}
use Rattle.mlk_machine_jobs.specs.Views.{names_of, cell_of, bindings_of, value_at}
use Rattle.mlk_machine_jobs.proofs.CellLemmas.{left_out, table_left_out, all_left_out}
use Rattle.mlk_machine_jobs.proofs.cell.leave_out.Goals as goal

pub loop-generation-preserved : goal.loop-generation-preserved
loop-generation-preserved c =
    let test : Cell → Bool = is_taken (bindings_of c.args.binders.now) (names_of c.args.names) (map cell_of c.args.shared.now)
    (map cell_of c.args.spared.now) in
    let more : suc c.loop-generation.generation ≡ c.loop-generation.generation + 1 = omega arith in (
      table_left_out c.loop-generation.tables.items c.loop-generation.generation c.index_mut.result.now c.leave_out.new.self test
          (value_at c.args.tables.now.items) (omega (arith, c.loop-generation-test.true, c.len.ensures, c.loop-generation.tables.ok))
          c.index_mut.ensures.value c.leave_out.ensures c.loop-generation.invariant.0
          ∙ ap (λ (k : ℕ). left_out test k (value_at c.args.tables.now.items)) more,
      length-set c.loop-generation.tables.items c.loop-generation.generation c.leave_out.new.self ∙ c.loop-generation.invariant.1,
    )

pub returns-clause-values : goal.returns-clause-values
returns-clause-values c =
    let test : Cell → Bool = is_taken (bindings_of c.args.binders.now) (names_of c.args.names) (map cell_of c.args.shared.now)
    (map cell_of c.args.spared.now) in
    c.loop-generation.invariant.0
    ∙ all_left_out c.args.tables.now.items c.loop-generation.generation test
    (omega (arith, c.loop-generation-test.false, c.len.ensures, c.loop-generation.tables.ok, c.loop-generation.invariant.1))
