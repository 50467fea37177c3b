use Rattle.std.proofs.Common.{◌≡◌, map, sym, ap, subst, ◌∙◌}
use Rattle.std.proofs.lemmas.Simd.{map-map}
use Rattle.mlk_expr.specs.declared.context.Allows.TheVariants.{NoTouches}
use Rattle.mlk_routine_arguments.specs.declared.items.Unsigned.{Unsigned}
use Rattle.mlk_routine_arguments.specs.PartsRead.{Found, byte_at}
use Rattle.mlk_routine_arguments.specs.Ends.{OneEnds, VariableEnds}
use Rattle.mlk_syntax.specs.Views.{variable_of}
use Rattle.mlk_routine_arguments.specs.CommandGrammar.{IsVariable, IsOneOrEnclosed}
use Rattle.mlk_routine_arguments.proofs.Variables.{variable_shut}
use Rattle.mlk_routine_arguments.proofs.lock.unsigned_names.Goals as goal

pub one_or_enclosed-requires-clause-shut : goal.one_or_enclosed-requires-clause-shut
one_or_enclosed-requires-clause-shut c = variable_shut NoTouches

pub returns : goal.returns
returns c =
    let inner = λ (u : Unsigned). u.variable in
    let same : map (λ u. variable_of (inner u)) c.in_ok-names.names.items ≡ map variable_of c.in_ok-names-2.names.items =
    sym (map-map variable_of inner c.in_ok-names.names.items) ∙ sym (ap (map variable_of) c.in_ok-names-2.ensures) in
    subst (λ l. Found (IsOneOrEnclosed (IsVariable NoTouches)) (OneEnds VariableEnds (byte_at c.args.line.now c.args.at)) c.args.line.now c.args.at l c.in_ok-names.next) same c.in_ok-names.ensures
