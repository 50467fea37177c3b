use Rattle.mlk_cert_parts.specs.Reading.{own_at}
use Rattle.mlk_cert_parts.specs.Texts.{own_text}
use Rattle.mlk_cert_lexemes.proofs.NameFormats.{NoName}
use Rattle.mlk_cert_parts.proofs.CaseFormats.{HasOwn, own-format}
use Rattle.mlk_cert_lexemes.proofs.Room.{gives-text}
use Rattle.mlk_cert_parts.proofs.read.OwnItem.read.Goals as goal

pub returns-clause-text : goal.returns-clause-text
returns-clause-text c = gives-text own_text HasOwn NoName own_at own-format c.args.bytes.now c.own_name.result c.own_name.ensures
