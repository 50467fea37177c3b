use Rattle.mlk_text.specs.Lexemes.{name_at}
use Rattle.mlk_cert_lexemes.specs.Texts.{name_text}
use Rattle.mlk_cert_lexemes.specs.Kinds.{ReadsAsName}
use Rattle.mlk_cert_lexemes.proofs.NameFormats.{NoName, name-format}
use Rattle.mlk_cert_lexemes.proofs.Room.{gives-text}
use Rattle.mlk_cert_lexemes.proofs.term.NameItem.read.Goals as goal

pub returns-clause-text : goal.returns-clause-text
returns-clause-text c = gives-text name_text ReadsAsName NoName name_at name-format c.args.bytes.now c.name.result c.name.ensures
