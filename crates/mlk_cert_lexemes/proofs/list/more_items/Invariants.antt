use Rattle.std.proofs.Common.{◌≡◌, ◌<◌, ◌++◌, ◌∷◌, [], ℕ, suc, length}
use Rattle.mlk_text.specs.Reading.{many, put}
use Rattle.mlk_text.specs.Lexemes.{byte_at}
use Rattle.mlk_cert_lexemes.specs.Lists.{ascends}
use Rattle.mlk_cert_lexemes.specs.Reading.{next}
use Rattle.mlk_cert_lexemes.proofs.list.more_items.Given as goal

abbrev pub invariant-loop-next : goal.invariant-loop-next
invariant-loop-next g l = record {
  reading : (n : ℕ) × (length l.rest < n) × (put (l.found.items ++ l.last ∷ []) (many (byte_at l.between) (next g.T.Item.reads) n l.rest) ≡ put (l.fn.first ∷ []) (many (byte_at l.between) (next g.T.Item.reads) (suc (length l.bytes)) l.bytes));
  last : l.text ≡ g.T.Written.written l.last;
  order : l.ordered ≡ ascends g.T.Item.before (l.found.items ++ l.last ∷ []);
}

abbrev pub decreases-loop-next : goal.decreases-loop-next
decreases-loop-next g l = length l.rest
