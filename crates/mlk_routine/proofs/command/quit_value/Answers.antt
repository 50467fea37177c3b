use Rattle.std.proofs.Common.{sym, ◌∙◌}
use Rattle.std.proofs.lemmas.Result.{err_from_is_err_and}
use Rattle.mlk_syntax.specs.ExprTrees.{tree_of}
use Rattle.mlk_syntax.specs.Trees.{Quit}
use Rattle.mlk_routine_arguments.specs.CommandGrammar.{IsQuit}
use Rattle.mlk_routine_arguments.specs.Kinds.{ActionEnds}
use Rattle.mlk_routine_arguments.proofs.Outcomes.{denies}
use Rattle.mlk_routine_arguments.proofs.Sequences.{turned_found, turned_denied}
use Rattle.mlk_routine.proofs.Doing.{no_value_found, value_turned, no_quit}
use Rattle.mlk_routine.proofs.command.quit_value.Goals as goal

pub returns-then-is_bare : goal.returns-then-is_bare
returns-then-is_bare c = no_value_found c.args.returns c.args.line.now c.args.at c.requires (sym c.is_bare.ensures ∙ c.if-is_bare.true)

pub returns-then-not-returns : goal.returns-then-not-returns
returns-then-not-returns c =
    denies (IsQuit c.args.returns) (λ t. ActionEnds (Quit t)) c.args.line.now c.args.at c.no_value.result c.no_value.ensures
    (no_quit c.args.returns c.args.line.now c.args.at c.if-not-returns.true (sym c.is_bare.ensures ∙ c.if-is_bare.false))

pub returns-in_err-value : goal.returns-in_err-value
returns-in_err-value c =
    let p = err_from_is_err_and c.from_residual.result c.from_residual.ensures.1 in
    rw (p.1, p.2) (turned_denied (value_turned c.args.returns c.args.line.now c.args.at c.if-not-returns.false (sym c.is_bare.ensures ∙ c.if-is_bare.false)) c.in_err-value.field-0.0 c.in_err-value.ensures)

pub returns : goal.returns
returns c =
    rw c.in_ok-kept.ensures (turned_found (value_turned c.args.returns c.args.line.now c.args.at c.if-not-returns.false (sym c.is_bare.ensures ∙ c.if-is_bare.false)) (tree_of c.in_ok-value.value) c.in_ok-value.next c.in_ok-value.ensures)
