use Rattle.mlk_walk_state.specs.Cases.{includes}
use Rattle.mlk_walk_state.proofs.TermTests.{one_test}
use Rattle.mlk_walk_state.proofs.CaseTests.{includes_decides}
use Rattle.mlk_walk_state.proofs.listed.includes.Goals as goal

pub returns : goal.returns
returns c = one_test c.is_included.result (includes c.args.case.now c.args.listed.now) c.is_included.ensures (includes_decides c.args.case.now c.args.listed.now)
