use Rattle.std.proofs.lemmas.Result.{err_from_is_err_and}
use Rattle.mlk_program.specs.Tables.{trees}
use Rattle.mlk_program.specs.Linking.{placed_at}
use Rattle.mlk_program.proofs.LinkedCalls.{links_next, first_next, first_alone, links_all}
use Rattle.mlk_program.proofs.DistinctNames.{refused_map}
use Rattle.mlk_program.proofs.linking.link_calls.Goals as goal

pub returns-in_err-link_call-clause-refused : goal.returns-in_err-link_call-clause-refused
returns-in_err-link_call-clause-refused c =
    let p = err_from_is_err_and c.from_residual.result c.from_residual.ensures.1 in
    rw (p.1, p.2) (refused_map c.in_err-link_call.field-0.0 _ _
    (λ f w. first_next (placed_at c.args.at.now.routine c.args.at.now.line) (trees c.args.directory.now) c.args.found.now
    c.loop-site.site-index c.site-item.result c.loop-site-test.true c.site-item.is c.args.shared.now c.loop-site.shared
    c.loop-site.invariant f (first_alone (trees c.args.directory.now) _ f w))
    c.in_err-link_call.ensures.refused)

pub loop-site-preserved : goal.loop-site-preserved
loop-site-preserved c = links_next (placed_at c.args.at.now.routine c.args.at.now.line) (trees c.args.directory.now) c.args.found.now
    c.loop-site.site-index c.site-item.result c.loop-site-test.true c.site-item.is c.args.shared.now c.loop-site.shared
    c.link_call.new.shared c.loop-site.invariant c.in_ok-link_call.ensures.ok

pub returns-clause-ok : goal.returns-clause-ok
returns-clause-ok c = links_all (placed_at c.args.at.now.routine c.args.at.now.line) (trees c.args.directory.now) c.args.found.now
    c.loop-site.site-index c.loop-site-test.false c.args.shared.now c.loop-site.shared c.loop-site.invariant
