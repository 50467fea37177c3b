use Rattle.std.proofs.Common.{refl}
use Rattle.mlk_routine_arguments.proofs.Locks.{plus_found, minus_found}
use Rattle.mlk_routine_arguments.proofs.lock.sign.Goals as goal

pub returns-then-has_byte : goal.returns-then-has_byte
returns-then-has_byte c = plus_found c.args.line.now c.args.at (c.if-has_byte.ensures.yes refl)

pub returns-then-has_byte-2 : goal.returns-then-has_byte-2
returns-then-has_byte-2 c = minus_found c.args.line.now c.args.at (c.if-has_byte-2.ensures.yes refl)
