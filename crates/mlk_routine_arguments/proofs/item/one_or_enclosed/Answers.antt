use Rattle.std.proofs.Common.{map, refl}
use Rattle.mlk_routine_arguments.proofs.Sequences.{turned_told}
use Rattle.mlk_routine_arguments.proofs.Singles.{enclosed_one}
use Rattle.mlk_routine_arguments.proofs.item.one_or_enclosed.Goals as goal

pub returns-then-has_byte : goal.returns-then-has_byte
returns-then-has_byte g c = turned_told (enclosed_one (g.T.Item.is c.args.dialect) g.T.Item.ends c.requires.shut c.args.line.now c.args.at (c.if-has_byte.ensures.yes refl)) c.enclosed_items.result (λ v. map g.T.Item.seen v.items) c.enclosed_items.ensures
