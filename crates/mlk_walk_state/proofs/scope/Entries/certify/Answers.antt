use Rattle.std.proofs.Common.{◌∙◌, refl, sym, ap}
use Rattle.indexmap.proofs.CallerLemmas.{insert_entry-new}
use Rattle.mlk_program.proofs.NameTables.{none_from}
use Rattle.mlk_walk_state.proofs.EntryTables.{shown, there, shown_more, gains_none, gains_one}
use Rattle.mlk_walk_state.proofs.scope.Entries.certify.Goals as goal

pub returns-then-contains_key-clause-blocks : goal.returns-then-contains_key-clause-blocks
returns-then-contains_key-clause-blocks c =
    let found = there c.args.entry _ (λ k. refl) c.self.inside.certified.entries in
    rw (← c.self.view_is) (gains_none (λ p. p.0) (shown c.self.inside.certified.entries) (c.args.entry, c.args.block.now)
    (sym found ∙ sym c.contains_key.ensures ∙ c.if-contains_key.true))

pub returns-clause-blocks : goal.returns-clause-blocks
returns-clause-blocks c =
    let es = c.self.inside.certified.entries in
    let found = there c.args.entry _ (λ k. refl) es in
    let absent = none_from _ (sym c.contains_key.ensures ∙ c.if-contains_key.false) in
    let last = c.in-Ok.ensures.entries ∙ insert_entry-new _ c.self.inside.certified _ c.args.block absent in
    rw (← c.self.view_is) (ap shown last ∙ shown_more es c.args.entry c.args.block
    ∙ gains_one (λ p. p.0) (shown es) (c.args.entry, c.args.block.now) (sym found ∙ sym c.contains_key.ensures ∙ c.if-contains_key.false))
