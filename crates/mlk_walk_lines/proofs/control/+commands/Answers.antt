use Rattle.std.proofs.Common.{◌∙◌, ap, sym, map}
use Rattle.std.specs.Prelude.{fold, option_map}
use Rattle.mlk_syntax.specs.declared.command.Commands.TheViews.{out-For}
use Rattle.mlk_syntax.specs.Views.{command_of, commands_of, control_of}
use Rattle.mlk_walk_state.specs.Scope.{scope_of, listed}
use Rattle.mlk_walk_exprs.specs.Spots.{spot_of}
use Rattle.mlk_walk_lines.specs.Loops.{at_word, one_command, after_rounds, commands}
use Rattle.mlk_walk_lines.proofs.Opened.{carried, for_done}
use Rattle.mlk_walk_lines.proofs.control.+commands.Goals as goal

pub returns : goal.returns
returns t c = for_done c.args.given.now c.in-Some.last (spot_of c.args.spot.now) (spot_of c.at_word-here.result)
    c.listed_cases-cases.result.now c.args.walk.now c.apply_before_for.new.walk c.in_ok-inner.inner c.commands.new.walk c.after_rounds.new.walk
    c.after_rounds.result
    (search)
    (c.in_ok-apply_before_for.ensures ∙ ap (λ z. fold (one_command (spot_of c.args.spot.now)) c.args.walk.now (map command_of z)) c.as_slice.ensures.value)
    (c.listed_cases-cases.ensures ∙ ap (λ z. listed (scope_of c.args.spot.now.scope.now) c.args.spot.now.line (out-For z).index) c.deref.ensures)
    c.in_ok-inner.ensures
    (c.in_ok-commands.ensures ∙ ap (λ z. commands (spot_of c.args.spot.now) (commands_of (out-For z).rest) c.in_ok-inner.inner) c.deref-2.ensures)
    (c.at_word-here.ensures ∙ ap (λ z. at_word (spot_of c.args.spot.now) (out-For z).column) c.deref-3.ensures)
    (carried c.after_rounds.result c.after_rounds.new.walk _ _ c.after_rounds.ensures
    (ap (λ z. after_rounds (spot_of c.at_word-here.result) (option_map control_of (out-For z).control)
    c.listed_cases-cases.result.now c.commands.new.walk c.apply_before_for.new.walk) (sym c.deref-4.ensures)))
