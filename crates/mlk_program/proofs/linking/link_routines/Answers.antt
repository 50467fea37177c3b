use Rattle.std.proofs.lemmas.Result.{err_from_is_err_and}
use Rattle.mlk_program.specs.Tables.{trees}
use Rattle.mlk_program.proofs.DistinctNames.{refused_map}
use Rattle.mlk_program.proofs.LinkedRoutines.{name_here, routine_linked, routine_refused, all_linked}
use Rattle.mlk_program.proofs.linking.link_routines.Goals as goal

pub link_lines-requires : goal.link_lines-requires
link_lines-requires c =
    let v = c.routines-routine-items.ensures in
    name_here (trees c.args.directory.now) c.args.directory.now c.loop-i.i c.routine-item.result (rw v at c.loop-i-test.true) (rw v at c.routine-item.is)

pub returns-in_err-link_lines-clause-refused : goal.returns-in_err-link_lines-clause-refused
returns-in_err-link_lines-clause-refused c =
    let v = c.routines-routine-items.ensures in
    let p = err_from_is_err_and c.from_residual.result c.from_residual.ensures.1 in
    rw (p.1, p.2) (refused_map c.in_err-link_lines.field-0.0 _ _
    (routine_refused (trees c.args.directory.now) c.args.directory.now c.loop-i.i c.routine-item.result (rw v at c.loop-i-test.true)
    (rw v at c.routine-item.is) c.args.shared.now c.loop-i.shared c.loop-i.invariant)
    (rw c.as_slice.ensures.value at c.in_err-link_lines.ensures.refused))

pub loop-i-preserved : goal.loop-i-preserved
loop-i-preserved c =
    let v = c.routines-routine-items.ensures in
    routine_linked (trees c.args.directory.now) c.args.directory.now c.loop-i.i c.routine-item.result (rw v at c.loop-i-test.true)
    (rw v at c.routine-item.is) c.args.shared.now c.loop-i.shared c.link_lines.new.shared c.loop-i.invariant
    (rw c.as_slice.ensures.value at c.in_ok-link_lines.ensures.ok)

pub returns-clause-ok : goal.returns-clause-ok
returns-clause-ok c =
    let v = c.routines-routine-items.ensures in
    all_linked (trees c.args.directory.now) c.args.directory.now c.loop-i.i (rw v at c.loop-i-test.false) c.args.shared.now
    c.loop-i.shared c.loop-i.invariant
