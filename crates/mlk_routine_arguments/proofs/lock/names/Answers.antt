use Rattle.std.proofs.Common.{map, subst}
use Rattle.mlk_expr.specs.declared.context.Allows.TheVariants.{Everything}
use Rattle.mlk_routine_arguments.specs.PartsRead.{ReadsPart, byte_at}
use Rattle.mlk_routine_arguments.specs.Ends.{OneEnds, VariableEnds}
use Rattle.mlk_syntax.specs.Views.{variable_of}
use Rattle.mlk_routine_arguments.specs.CommandGrammar.{IsVariable, IsOneOrEnclosed}
use Rattle.mlk_routine_arguments.proofs.Variables.{variable_shut}
use Rattle.mlk_routine_arguments.proofs.Locks.{in_signed}
use Rattle.mlk_routine_arguments.proofs.lock.names.Goals as goal

pub one_or_enclosed-requires : goal.one_or_enclosed-requires
one_or_enclosed-requires c = record { within = c.requires; shut = variable_shut Everything }

pub returns-in-Plus : goal.returns-in-Plus
returns-in-Plus c =
    subst (λ a. ReadsPart (λ v. map variable_of v.items) (IsOneOrEnclosed (IsVariable a)) (OneEnds VariableEnds (byte_at c.args.line.now c.args.at)) c.args.line.now c.args.at c.one_or_enclosed.result)
    (in_signed c.args.sign c.in-Plus.is) c.one_or_enclosed.ensures
