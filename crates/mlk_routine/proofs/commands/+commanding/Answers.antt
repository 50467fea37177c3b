use Rattle.std.proofs.Common.{None, map, option_map, sym, ◌∙◌, ◌+◌, ap, subst, add-one}
use Rattle.mlk_text.specs.Places.{column_at}
use Rattle.std.proofs.lemmas.Result.{err_from_is_err_and}
use Rattle.mlk_syntax.specs.Trees.{CommandTrees, finished, then_for}
use Rattle.mlk_routine_arguments.specs.PartsRead.{Found, Denied}
use Rattle.mlk_routine_arguments.specs.Ends.{CommandsEnd}
use Rattle.mlk_syntax.specs.Views.{command_of, control_of, commands_of, commands_from, commands_step, for_step}
use Rattle.mlk_syntax.specs.declared.command.Commands.{fold-roll-Commands}
use Rattle.mlk_routine_arguments.specs.CommandGrammar.{AreCommands}
use Rattle.mlk_routine.proofs.Looping.{ended_found, loop_denied, rest_denied, loop_found}
use Rattle.mlk_routine.proofs.commands.+commanding.Goals as goal

pub commands-returns-then-is_commands_end : goal.commands-returns-then-is_commands_end
commands-returns-then-is_commands_end t c =
    let view = fold-roll-Commands CommandTrees CommandTrees commands_step for_step (record { before = c.in_ok-before.before; last = None }) in
    subst (λ x. Found (AreCommands c.args.inside.dialect c.args.inside.level c.args.inside.loops) CommandsEnd c.args.line.now c.args.at x c.in_ok-before.next) (sym view)
    (c.in_ok-before.ensures.0.1 finished c.in_ok-before.next
    (ended_found c.args.inside.dialect c.args.inside.level c.args.inside.loops c.args.line.now c.in_ok-before.next c.in_ok-before.ensures.0.0 (sym c.is_commands_end.ensures ∙ c.if-is_commands_end.true)))

pub commands-returns : goal.commands-returns
commands-returns t c = c.with_loop.ensures c.args.at c.in_ok-before.ensures.0

pub with_loop-returns-in_err-control : goal.with_loop-returns-in_err-control
with_loop-returns-in_err-control t c begin leads =
    let p = err_from_is_err_and c.from_residual.result c.from_residual.ensures.1 in
    rw (p.1, p.2)
    (loop_denied c.args.inside.dialect c.args.inside.level c.args.inside.loops c.args.line.now begin c.args.at (map command_of c.args.before.items) leads c.requires.here c.in_err-control.field-0.0 c.in_err-control.ensures)

pub with_loop-returns-in_err-rest : goal.with_loop-returns-in_err-rest
with_loop-returns-in_err-rest t c begin leads =
    let p = err_from_is_err_and c.from_residual-in_err-rest.result c.from_residual-in_err-rest.ensures.1 in
    rw (p.1, p.2)
    (rest_denied c.args.inside.dialect c.args.inside.level c.args.inside.loops c.args.line.now begin c.args.at (map command_of c.args.before.items) leads c.requires.here (option_map control_of c.in_ok-control.control) c.in_ok-control.end c.past_spaces.result c.in_ok-control.ensures c.past_spaces.ensures c.in_err-rest.field-0.0
    (subst (λ k. Denied (AreCommands c.args.inside.dialect c.args.inside.level k) CommandsEnd c.args.line.now c.past_spaces.result c.in_err-rest.field-0.0) (add-one c.args.inside.loops) c.in_err-rest.ensures))

pub with_loop-returns : goal.with_loop-returns
with_loop-returns t c begin leads =
    let whole =
    loop_found c.args.inside.dialect c.args.inside.level c.args.inside.loops c.args.line.now begin c.args.at (map command_of c.args.before.items) leads c.requires.here (option_map control_of c.in_ok-control.control) c.in_ok-control.end c.past_spaces.result c.in_ok-control.ensures c.past_spaces.ensures
    (commands_of c.in_ok-rest.rest) c.in_ok-rest.end
    (subst (λ k. Found (AreCommands c.args.inside.dialect c.args.inside.level k) CommandsEnd c.args.line.now c.past_spaces.result (commands_of c.in_ok-rest.rest) c.in_ok-rest.end) (add-one c.args.inside.loops) c.in_ok-rest.ensures) in
    let done = map command_of c.args.before.items in
    let view =
    c.in_ok-with_for.ensures
    ∙ ap (λ k. commands_from done (then_for k (c.args.inside.loops + 1) (option_map control_of c.in_ok-control.control) (commands_of c.in_ok-rest.rest))) c.at.ensures
    ∙ ap (λ i. commands_from done (then_for (column_at (c.args.at + 1)) i (option_map control_of c.in_ok-control.control) (commands_of c.in_ok-rest.rest))) (add-one c.args.inside.loops) in
    subst (λ x. Found (AreCommands c.args.inside.dialect c.args.inside.level c.args.inside.loops) CommandsEnd c.args.line.now begin x c.in_ok-rest.end) (sym view) whole
