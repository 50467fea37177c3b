use Rattle.std.proofs.Common.{◌∙◌, sym, ap, is_some}
use Rattle.indexmap.proofs.CallerLemmas.{insert_entry-new}
use Rattle.mlk_program.specs.Tables.{first_with}
use Rattle.mlk_program.proofs.NameTables.{lookup-shown, same-present, shown, shown-append, none_from}
use Rattle.mlk_program.proofs.table.NamePlaces.add.Goals as goal

pub returns-then-contains_key : goal.returns-then-contains_key
returns-then-contains_key c =
    let found = lookup-shown c.args.name.now c.self.inside.places.entries in
    rw (← c.self.view_is) (same-present c.args.name.now c.args.place (shown c.self.inside.places.entries) (ap is_some (sym found) ∙ sym c.contains_key.ensures ∙ c.if-contains_key.true))

pub returns : goal.returns
returns c =
    let absent = none_from _ (sym c.contains_key.ensures ∙ c.if-contains_key.false) in
    let last = c.in-Ok.ensures.entries ∙ insert_entry-new _ c.self.inside.places _ c.args.place absent in
    rw (← c.self.view_is) (λ t. ap (λ es. first_with t (shown es)) last ∙ ap (first_with t) (shown-append c.self.inside.places.entries _ c.args.place))
