use Rattle.std.proofs.Common.{◌≡◌, ◌+◌, length}
use Rattle.mlk_survey.proofs.surveying.split_answers.Given as goal

abbrev pub invariant-loop-answer : goal.invariant-loop-answer
invariant-loop-answer l = length l.routines.items + length l.refused.items ≡ l.answer-index
