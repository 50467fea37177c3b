use Rattle.std.proofs.Common.{◌≡◌, false, subst, sym, refl}
use Rattle.mlk_expr_tokens.specs.Lexemes.{starts_reference}
use Rattle.mlk_routine_arguments.specs.Ends.{VariableEnds}
use Rattle.mlk_routine_arguments.specs.CommandGrammar.{IsVariable}
use Rattle.mlk_routine_arguments.proofs.Outcomes.{denies}
use Rattle.mlk_routine_arguments.proofs.Variables.{no_variable}
use Rattle.mlk_routine_arguments.proofs.part.variable.Goals as goal

pub returns-then-not-starts_reference : goal.returns-then-not-starts_reference
returns-then-not-starts_reference c =
    let none : starts_reference c.split_at.result.1.now ≡ false = sym c.if-not-starts_reference.ensures in
    denies (IsVariable c.args.allows) VariableEnds c.args.line.now c.args.at c.refusal_at.result (c.refusal_at.ensures.fault c.args.line.now c.requires refl refl)
    (no_variable c.args.allows c.args.line.now c.args.at (subst (λ l. starts_reference l ≡ false) c.split_at.ensures.back none))
