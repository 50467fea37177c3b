use Rattle.std.proofs.Common.{rules}
use Rattle.mlk_cert_lexemes.proofs.Words.{strip_taken, strip_other}
use Rattle.mlk_cert_lexemes.proofs.lexeme.strip_word.Goals as goal

pub returns : goal.returns
returns c = search (rules, strip_taken, strip_other)
