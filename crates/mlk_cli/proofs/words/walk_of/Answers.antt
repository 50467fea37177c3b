use Rattle.mlk_cli.proofs.words.walk_of.Goals as goal

pub returns-in_default : goal.returns-in_default
returns-in_default c = λ workers style h. c.in_default.ensures workers h.0
