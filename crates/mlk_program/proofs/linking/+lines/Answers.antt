use Rattle.std.proofs.Common.{sym, subst}
use Rattle.std.proofs.lemmas.Result.{err_from_is_err_and}
use Rattle.mlk_program.specs.Tables.{trees}
use Rattle.mlk_program.specs.Program.{IsFirstFault}
use Rattle.mlk_program.specs.Linking.{Links, placed_in}
use Rattle.mlk_program.proofs.DistinctNames.{refused_map}
use Rattle.mlk_program.proofs.LinkedCalls.{links_next, first_next, links_all, links_both, first_of_more, first_after}
use Rattle.mlk_program.proofs.LinkedLines.{line_parts}
use Rattle.mlk_program.proofs.linking.+lines.Goals as goal

pub link_line-returns-in_err-link_calls-clause-refused : goal.link_line-returns-in_err-link_calls-clause-refused
link_line-returns-in_err-link_calls-clause-refused t c =
    let p = err_from_is_err_and c.from_residual-in_err-link_calls.result c.from_residual-in_err-link_calls.ensures.1 in
    let rs = trees c.args.directory.now in
    let parts = line_parts c.args.routine c.args.line.now c.in_commands.new.found.items (rw c.new-found.ensures.items at c.in_ok-in_commands.ensures) in
    rw (p.1, p.2) (refused_map c.in_err-link_calls.field-0.0 _ _
    (λ f w. subst (λ calls. IsFirstFault rs calls f) (sym parts) (first_of_more rs _ _ f w))
    (rw c.as_slice.ensures.value at c.in_err-link_calls.ensures.refused))

pub link_line-returns-in_err-link_lines-clause-refused : goal.link_line-returns-in_err-link_lines-clause-refused
link_line-returns-in_err-link_lines-clause-refused t c =
    let p = err_from_is_err_and c.from_residual-in_err-link_lines.result c.from_residual-in_err-link_lines.ensures.1 in
    let rs = trees c.args.directory.now in
    let parts = line_parts c.args.routine c.args.line.now c.in_commands.new.found.items (rw c.new-found.ensures.items at c.in_ok-in_commands.ensures) in
    let good = rw c.as_slice.ensures.value at c.in_ok-link_calls.ensures.ok in
    rw (p.1, p.2) (refused_map c.in_err-link_lines.field-0.0 _ _
    (λ f w. subst (λ calls. IsFirstFault rs calls f) (sym parts) (first_after rs _ _ f good.0 w))
    (rw c.as_slice-2.ensures.value at c.in_err-link_lines.ensures.refused))

pub link_line-returns-clause-ok : goal.link_line-returns-clause-ok
link_line-returns-clause-ok t c =
    let rs = trees c.args.directory.now in
    let parts = line_parts c.args.routine c.args.line.now c.in_commands.new.found.items (rw c.new-found.ensures.items at c.in_ok-in_commands.ensures) in
    subst (λ calls. Links rs calls c.args.shared.now c.link_lines.new.shared) (sym parts)
    (links_both rs _ _ c.args.shared.now c.link_calls.new.shared c.link_lines.new.shared
    (rw c.as_slice.ensures.value at c.in_ok-link_calls.ensures.ok) (rw c.as_slice-2.ensures.value at c.in_ok-link_lines.ensures.ok))

pub link_lines-returns-in_err-link_line-clause-refused : goal.link_lines-returns-in_err-link_line-clause-refused
link_lines-returns-in_err-link_line-clause-refused t c =
    let p = err_from_is_err_and c.from_residual.result c.from_residual.ensures.1 in
    rw (p.1, p.2) (refused_map c.in_err-link_line.field-0.0 _ _
    (first_next (placed_in c.args.routine) (trees c.args.directory.now) c.args.lines.now c.loop-line.line-index c.line-item.result
    c.loop-line-test.true c.line-item.is c.args.shared.now c.loop-line.shared c.loop-line.invariant)
    c.in_err-link_line.ensures.refused)

pub link_lines-loop-line-preserved : goal.link_lines-loop-line-preserved
link_lines-loop-line-preserved t c = links_next (placed_in c.args.routine) (trees c.args.directory.now) c.args.lines.now
    c.loop-line.line-index c.line-item.result c.loop-line-test.true c.line-item.is c.args.shared.now c.loop-line.shared
    c.link_line.new.shared c.loop-line.invariant c.in_ok-link_line.ensures.ok

pub link_lines-returns-clause-ok : goal.link_lines-returns-clause-ok
link_lines-returns-clause-ok t c = links_all (placed_in c.args.routine) (trees c.args.directory.now) c.args.lines.now
    c.loop-line.line-index c.loop-line-test.false c.args.shared.now c.loop-line.shared c.loop-line.invariant
