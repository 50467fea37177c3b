use Rattle.std.proofs.Common.{rules}
use Rattle.mlk_text.proofs.FirstWords.{words_decide}
use Rattle.mlk_text.proofs.text.Short.is_same.Goals as goal

pub returns-then-self-le8 : goal.returns-then-self-le8
returns-then-self-le8 g c = rw (← c.self.view_is, ← c.other.view_is)
    (words_decide g.row.N c.self.inside.length c.other.inside.length c.self.inside.bytes c.other.inside.bytes (search rules) (search rules)
    c.self.invariant.2 c.other.invariant.2 _ _ (search rules) (search rules) c.first_word.ensures c.first_word-then-self-le8.ensures)
