use Rattle.std.proofs.Common.{sym, ap, ◌∙◌}
use Rattle.mlk_text.specs.Lexemes.{word_at}
use Rattle.mlk_routine_arguments.specs.Kinds.{IsNamed, WordEnds}
use Rattle.mlk_routine_arguments.proofs.Outcomes.{denies}
use Rattle.mlk_routine_arguments.proofs.Words.{named_found, none_named}
use Rattle.mlk_routine_arguments.proofs.word.command_word.Goals as goal

pub returns-in-Some : goal.returns-in-Some
returns-in-Some c =
    named_found c.args.dialect c.args.line.now c.args.at c.in-Some.word c.word_at.result.0.now c.word_at.result.1.now c.requires (c.word_at.ensures ∙ ap word_at c.split_at.ensures.back) (sym c.word_in.ensures ∙ c.in-Some.is)

pub returns-in-None : goal.returns-in-None
returns-in-None c =
    denies (IsNamed c.args.dialect) WordEnds c.args.line.now c.args.at c.no_word.result (c.no_word.ensures c.args.line.now c.requires)
    (none_named c.args.dialect c.args.line.now c.args.at c.word_at.result.0.now c.word_at.result.1.now (c.word_at.ensures ∙ ap word_at c.split_at.ensures.back) (sym c.word_in.ensures ∙ c.in-None.is))
