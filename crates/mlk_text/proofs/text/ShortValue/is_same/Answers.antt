use Rattle.std.proofs.Common.{rules}
use Rattle.mlk_text.proofs.FirstWords.{words_decide}
use Rattle.mlk_text.proofs.text.ShortValue.is_same.Goals as goal

pub returns-then-self-le8 : goal.returns-then-self-le8
returns-then-self-le8 c = rw (← c.self.view_is, ← c.other.view_is)
    (words_decide 16 c.self.inside.length c.other.inside.length c.self.inside.bytes c.other.inside.bytes (search rules) (search rules)
    c.self.invariant.1 c.other.invariant.1 _ _ (search rules) (search rules) c.first_word.ensures c.first_word-then-self-le8.ensures)
