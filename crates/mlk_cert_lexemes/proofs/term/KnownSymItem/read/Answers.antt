use Rattle.mlk_cert_lexemes.specs.Reading.{symbol_at}
use Rattle.mlk_cert_lexemes.specs.Texts.{symbol_text}
use Rattle.mlk_cert_lexemes.specs.Kinds.{IsSymbol}
use Rattle.mlk_cert_lexemes.proofs.TermFormats.{EndsSymbol, symbol-format}
use Rattle.mlk_cert_lexemes.proofs.Room.{gives-text}
use Rattle.mlk_cert_lexemes.proofs.term.KnownSymItem.read.Goals as goal

pub returns-clause-text : goal.returns-clause-text
returns-clause-text c = gives-text symbol_text IsSymbol EndsSymbol symbol_at symbol-format c.args.bytes.now c.symbol.result c.symbol.ensures
