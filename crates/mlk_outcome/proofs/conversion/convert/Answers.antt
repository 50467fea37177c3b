use Rattle.mlk_outcome.proofs.Checks.{unread}
use Rattle.mlk_outcome.proofs.conversion.convert.Goals as goal

pub returns-in-Err-clause-refused : goal.returns-in-Err-clause-refused
returns-in-Err-clause-refused g c = unread c.args.format c.args.given.now c.in-Err.failure c.in-Err.ensures.back c.in-Err.ensures.place
