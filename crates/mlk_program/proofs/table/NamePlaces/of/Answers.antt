use Rattle.std.proofs.Common.{append-nil, drop_of_length-le}
use Rattle.mlk_program.proofs.NameTables.{next_item, table-done, drop_at}
use Rattle.mlk_program.proofs.table.NamePlaces.of.Goals as goal

pub loop-i-preserved : goal.loop-i-preserved
loop-i-preserved g c =
    let d = drop_at c.args.items.now c.loop-i.i c.index-items-i.result c.loop-i-test.true c.index-items-i.is in
    next_item g.T.Labelled.label c.loop-i.i _ _ _ c.loop-i.table c.add_label.new.self _ d c.loop-i.invariant c.in_ok-add_label.ensures

pub returns : goal.returns
returns g c = table-done g.T.Labelled.label c.args.items.now c.loop-i.table
    (rw (drop_of_length-le c.args.items.now c.loop-i-test.false, append-nil) at c.loop-i.invariant)
