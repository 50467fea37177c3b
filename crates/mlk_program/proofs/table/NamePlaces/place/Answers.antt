use Rattle.std.proofs.Common.{◌∙◌}
use Rattle.mlk_program.proofs.NameTables.{lookup-shown}
use Rattle.mlk_program.proofs.table.NamePlaces.place.Goals as goal

pub returns : goal.returns
returns c =
    let found = lookup-shown c.args.name.now c.self.inside.places.entries in
    rw (← c.self.view_is) (c.copied.ensures ∙ c.get.ensures.value ∙ found)
