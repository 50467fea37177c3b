use Rattle.clap.specs.Words.{found_of, rows_of}
use Rattle.mlk_cli.proofs.words.replay_style_of.Goals as goal

pub returns-in_default : goal.returns-in_default
returns-in_default c = λ style h. c.in_default.ensures style.is_explained h.explained

pub returns-in_default-flag_of : goal.returns-in_default-flag_of
returns-in_default-flag_of c = λ style h. c.in_default-flag_of.ensures style.is_interactive h.interactive

pub returns : goal.returns
returns c = record { explained = c.in-Some.ensures; interactive = c.in-Some-flag_of.ensures }
