use Rattle.mlk_cert.proofs.WrittenTexts.{cases-made}
use Rattle.mlk_cert.proofs.table.case_texts.Goals as goal

pub returns : goal.returns
returns c = cases-made c.in_ok-texts.texts.keys c.sort_unstable.new.self.keys c.in_ok-sort_unstable.ensures.reordered.2 c.args.blocks.now c.in_ok-texts.ensures c.in_ok-sort_unstable.ensures.sorted c.in_ok-sort_unstable.ensures.unique
