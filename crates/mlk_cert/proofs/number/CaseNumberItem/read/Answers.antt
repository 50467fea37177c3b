use Rattle.std.proofs.Common.{sym}
use Rattle.mlk_cert.proofs.NumberedFormats.{case-number-format}
use Rattle.mlk_cert.proofs.number.CaseNumberItem.read.Goals as goal

pub returns-in-Some-clause-text : goal.returns-in-Some-clause-text
returns-in-Some-clause-text c = (case-number-format.sound c.in-Some.number c.args.bytes.now c.in-Some.rest.now (sym c.in-Some.ensures)).0
