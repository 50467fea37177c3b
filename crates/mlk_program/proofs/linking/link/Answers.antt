use Rattle.std.proofs.Common.{inr}
use Rattle.std.proofs.lemmas.Result.{err_from_is_err_and}
use Rattle.mlk_program.specs.Tables.{trees}
use Rattle.mlk_program.proofs.DistinctNames.{refused_map}
use Rattle.mlk_program.proofs.LinkedRoutines.{is_program, shared_is}
use Rattle.mlk_program.proofs.linking.link.Goals as goal

pub returns-in_err-link_routines-clause-refused : goal.returns-in_err-link_routines-clause-refused
returns-in_err-link_routines-clause-refused c =
    let v = c.in_ok-directory.ensures in
    let p = err_from_is_err_and c.from_residual-in_err-link_routines.result c.from_residual-in_err-link_routines.ensures.1 in
    rw (p.1, p.2) (refused_map c.in_err-link_routines.field-0.0 _ _
    (λ f w. inr (inr (rw v at c.in_ok-check_distinct.ensures.ok, c.in_ok-check_limits.ensures.ok, w)))
    (rw v at c.in_err-link_routines.ensures.refused))

pub invariant_of-result : goal.invariant_of-result
invariant_of-result c =
    let v = c.in_ok-directory.ensures in
    let links = c.in_ok-link_routines.ensures.ok in
    let rs = trees c.in_ok-directory.directory in (
      is_program rs _ c.link_routines.new.shared c.in_ok-check_distinct.ensures.ok (rw (← v) at c.in_ok-check_limits.ensures.ok) links,
      shared_is rs c.link_routines.new.shared (rw c.new-shared.ensures at links),
      c.in_ok-frames.ensures,
    )

pub returns-clause-linked : goal.returns-clause-linked
returns-clause-linked c =
    let v = c.in_ok-directory.ensures in
    is_program (trees c.args.routines.now) _ c.link_routines.new.shared (rw v at c.in_ok-check_distinct.ensures.ok) c.in_ok-check_limits.ensures.ok
    (rw v at c.in_ok-link_routines.ensures.ok)
