use Rattle.mlk_walk_state.proofs.Passing.{put_term_is}
use Rattle.mlk_calls.proofs.call.put_term.Goals as goal

pub returns : goal.returns
returns c = put_term_is c.args.formals.now c.args.given.now c.args.term.now c.in_ok-found.found c.in_ok-found.ensures.exact
