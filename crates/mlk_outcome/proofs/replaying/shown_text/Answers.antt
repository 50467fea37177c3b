use Rattle.mlk_outcome.proofs.replaying.shown_text.Goals as goal

pub returns-in-Explained : goal.returns-in-Explained
returns-in-Explained c = rw c.in-Explained.is c.explained_text.ensures
