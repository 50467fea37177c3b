use Rattle.std.proofs.Common.{sym, ◌∙◌, refl}
use Rattle.mlk_routine.specs.Lines.{IsOpening, OpeningEnds}
use Rattle.mlk_routine_arguments.proofs.Outcomes.{denies}
use Rattle.mlk_routine.proofs.Starts.{start_found, no_opening, opening_nowhere}
use Rattle.mlk_routine.proofs.start.opening.Goals as goal

pub returns-then-next-at : goal.returns-then-next-at
returns-then-next-at c = start_found c.args.line.now c.args.at c.requires c.past_blanks-next.result c.past_blanks-next.ensures c.if-next-at.true c.periods-count.result.0 c.periods-count.result.1 c.periods-count.ensures.found

pub returns-then-not-is_commands_end : goal.returns-then-not-is_commands_end
returns-then-not-is_commands_end c =
    denies IsOpening OpeningEnds c.args.line.now c.args.at c.refusal_at.result (c.refusal_at.ensures.fault c.args.line.now c.requires refl refl)
    (opening_nowhere c.args.line.now c.args.at c.requires c.past_blanks-next.result c.past_blanks-next.ensures c.if-next-at.false (sym c.is_commands_end.ensures ∙ c.if-not-is_commands_end.true))

pub returns : goal.returns
returns c = no_opening c.args.line.now c.args.at c.requires c.past_blanks-next.result c.past_blanks-next.ensures c.if-next-at.false (sym c.is_commands_end.ensures ∙ c.if-not-is_commands_end.false)
