use Rattle.std.proofs.Common.{refl}
use Rattle.mlk_routine_arguments.specs.Ends.{VariableEnds}
use Rattle.mlk_syntax.specs.Views.{variable_of}
use Rattle.mlk_routine_arguments.specs.CommandGrammar.{IsLocal}
use Rattle.mlk_routine_arguments.proofs.Outcomes.{denies}
use Rattle.mlk_routine_arguments.proofs.Locals.{no_local, local_told}
use Rattle.mlk_routine_arguments.proofs.devices.local.Goals as goal

pub returns-then-has_byte : goal.returns-then-has_byte
returns-then-has_byte c = denies IsLocal VariableEnds c.args.line.now c.args.at c.leaves_out.result (c.leaves_out.ensures.fault c.args.line.now c.requires) (no_local c.args.line.now c.args.at (c.if-has_byte.ensures.yes refl))

pub returns : goal.returns
returns c = local_told c.args.line.now c.args.at (c.if-has_byte.ensures.no refl) c.variable.result variable_of c.variable.ensures
