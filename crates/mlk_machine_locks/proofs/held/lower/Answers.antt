use Rattle.std.proofs.Common.{◌∙◌}
use Rattle.mlk_machine_locks.proofs.EntryLemmas.{lower_past, held_found, lower_last, lower_more}
use Rattle.mlk_machine_locks.proofs.held.lower.Goals as goal

pub returns-in_default : goal.returns-in_default
returns-in_default c = lower_past c.args.name.now c.args.entries.now.items c.as_slice.result.now c.place_held.result
    c.as_slice.ensures.value c.place_held.ensures.place c.in_default.is

pub overflow_sub-index_mut : goal.overflow_sub-index_mut
overflow_sub-index_mut c = held_found c.args.name.now c.args.entries.now.items c.as_slice.result.now
    c.place_held.result c.in-Some.place c.index_mut.result.now c.as_slice.ensures.value c.place_held.ensures.place
    c.in-Some.is c.index_mut.ensures.value

pub returns-then-index-eq1 : goal.returns-then-index-eq1
returns-then-index-eq1 c =
    c.remove.ensures.items
    ∙ lower_last c.args.name.now c.args.entries.now.items c.as_slice.result.now c.place_held.result c.in-Some.place
    c.index.result.now c.as_slice.ensures.value c.place_held.ensures.place c.in-Some.is c.index.ensures
    c.if-index-eq1.true

pub returns-else-index-eq1 : goal.returns-else-index-eq1
returns-else-index-eq1 c =
    lower_more c.args.name.now c.args.entries.now.items c.as_slice.result.now c.place_held.result c.in-Some.place
    c.index_mut.result.now c.index.result.now c.as_slice.ensures.value c.place_held.ensures.place c.in-Some.is
    c.index_mut.ensures.value c.index.ensures c.if-index-eq1.false
