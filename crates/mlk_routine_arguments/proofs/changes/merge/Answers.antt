use Rattle.std.proofs.Common.{refl}
use Rattle.std.proofs.lemmas.Result.{err_from_is_err_and}
use Rattle.mlk_expr.specs.declared.context.Allows.TheVariants.{NoCalls}
use Rattle.mlk_routine_arguments.specs.Ends.{VariableEnds}
use Rattle.mlk_syntax.specs.Views.{variable_of}
use Rattle.mlk_routine_arguments.specs.CommandGrammar.{IsVariable}
use Rattle.mlk_routine_arguments.proofs.Sequences.{both_found, denied_second}
use Rattle.mlk_routine_arguments.proofs.Bytes.{after_found, after_denied}
use Rattle.mlk_routine_arguments.proofs.Names.{merge_parts}
use Rattle.mlk_routine_arguments.proofs.changes.merge.Goals as goal

pub returns-in_err-source : goal.returns-in_err-source
returns-in_err-source c =
    let p = err_from_is_err_and c.from_residual-in_err-source.result c.from_residual-in_err-source.ensures.1 in
    rw (p.1, p.2) (denied_second (merge_parts c.args.line.now c.args.at) c.requires (variable_of c.in_ok-target.target) c.in_ok-target.next c.in_ok-target.ensures c.in_err-source.field-0.0
    (after_denied (IsVariable NoCalls) VariableEnds c.args.line.now c.in_ok-target.next 61 c.in_err-source.field-0.0 c.in_err-source.ensures))

pub returns : goal.returns
returns c =
    both_found (merge_parts c.args.line.now c.args.at) c.requires (variable_of c.in_ok-target.target) (variable_of c.in_ok-source.source) c.in_ok-target.next c.in_ok-source.next c.in_ok-target.ensures
    (after_found (IsVariable NoCalls) VariableEnds c.args.line.now c.in_ok-target.next 61 (c.if-not-has_byte.ensures.yes refl) (variable_of c.in_ok-source.source) c.in_ok-source.next c.in_ok-source.ensures)
