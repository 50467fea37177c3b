use Rattle.mlk_cert_lexemes.specs.Reading.{term_at}
use Rattle.mlk_cert_lexemes.specs.Texts.{term_text}
use Rattle.mlk_cert_lexemes.specs.Kinds.{IsTerm}
use Rattle.mlk_cert_lexemes.proofs.TermFormats.{EndsTerm, term-format}
use Rattle.mlk_cert_lexemes.proofs.Room.{gives-text}
use Rattle.mlk_cert_lexemes.proofs.term.LockTermItem.read.Goals as goal

pub returns-clause-text : goal.returns-clause-text
returns-clause-text c = gives-text term_text IsTerm EndsTerm term_at term-format c.args.bytes.now c.term.result c.term.ensures
