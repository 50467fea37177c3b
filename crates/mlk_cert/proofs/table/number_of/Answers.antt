use Rattle.mlk_cert.proofs.WrittenTexts.{number-at, number-none}
use Rattle.mlk_cert.proofs.table.number_of.Goals as goal

pub returns-in-Some : goal.returns-in-Some
returns-in-Some c = number-at c.args.texts.now.keys c.args.text.now c.in-Some.place c.new.result c.in-Some.ensures.index c.new.ensures

pub returns-in-None : goal.returns-in-None
returns-in-None c = number-none c.args.texts.now.keys c.args.text.now c.len.result c.new-in-None.result c.in-None.ensures.index c.len.ensures.len c.new-in-None.ensures
