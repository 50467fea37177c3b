use Rattle.mlk_cert_parts.specs.Reading.{names_at}
use Rattle.mlk_cert_parts.specs.Texts.{names_text}
use Rattle.mlk_cert_lexemes.proofs.NameFormats.{NoName}
use Rattle.mlk_cert_parts.proofs.CaseFormats.{HasNames, names-format}
use Rattle.mlk_cert_lexemes.proofs.Room.{gives-text}
use Rattle.mlk_cert_parts.proofs.read.NameSetItem.read.Goals as goal

pub returns-clause-text : goal.returns-clause-text
returns-clause-text c = gives-text names_text HasNames NoName names_at names-format c.args.bytes.now c.name_set.result c.name_set.ensures
