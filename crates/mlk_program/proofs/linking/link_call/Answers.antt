use Rattle.mlk_program.specs.Tables.{trees}
use Rattle.mlk_program.proofs.LinkedCalls.{call_linked}
use Rattle.mlk_program.proofs.linking.link_call.Goals as goal

pub returns-clause-ok : goal.returns-clause-ok
returns-clause-ok c = call_linked (trees c.args.directory.now) c.args.at.now.routine c.args.at.now.line c.args.site.now
    c.in_ok-formals.formals.now c.args.shared.now c.add_shared.new.shared c.in_ok-formals.ensures.ok.0 c.in_ok-formals.ensures.ok.1
    c.in_ok-add_shared.ensures
