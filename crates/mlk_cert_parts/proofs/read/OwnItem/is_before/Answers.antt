use Rattle.std.proofs.Common.{◌∙◌}
use Rattle.mlk_cert_parts.proofs.Room.{own-same}
use Rattle.mlk_cert_parts.proofs.read.OwnItem.is_before.Goals as goal

pub returns-then-self-next : goal.returns-then-self-next
returns-then-self-next c = c.is_below.ensures
    ∙ own-same c.args.self.now c.args.next.now c.args.text.now c.args.next_text.now c.requires.text c.requires.next_text c.if-self-next.true
