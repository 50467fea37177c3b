use Rattle.std.proofs.Common.{None, Some}
use Rattle.mlk_rules.proofs.Computing.{computed_answers}
use Rattle.mlk_walk_exprs.proofs.reference.fault_of.Goals as goal

pub returns-in-Ok : goal.returns-in-Ok
returns-in-Ok c = (computed_answers c.args.rules.now c.args.held.now c.args.reference.now).only None c.in-Ok.ensures.ok

pub returns-in-Err : goal.returns-in-Err
returns-in-Err c = (computed_answers c.args.rules.now c.args.held.now c.args.reference.now).only (Some c.in-Err.code) c.in-Err.ensures.err
