use Rattle.std.proofs.Common.{rules, arith, ◌<◌, ◌+◌, ◌^◌}
use Rattle.mlk_machine_locks.proofs.EntryLemmas.{entry_found, raise_found, raise_past, copied}
use Rattle.mlk_machine_locks.proofs.held.raise.Goals as goal

pub overflow_add-index_mut : goal.overflow_add-index_mut
overflow_add-index_mut c =
    let le = entry_found c.args.name.now c.args.entries.now.items c.as_slice.result.now c.place_of.result c.in-Some.place
    c.index_mut.result.now c.as_slice.ensures.value c.place_of.ensures.place c.in-Some.is c.index_mut.ensures.value in
    let few : c.index_mut.result.now.1 + 1 < 2 ^ 32 = omega (arith, le, c.requires) in
    search (rules, few)

pub copy_of-requires : goal.copy_of-requires
copy_of-requires c = copied

pub returns-in-Some : goal.returns-in-Some
returns-in-Some c = raise_found c.args.name.now c.args.entries.now.items c.as_slice.result.now c.place_of.result
    c.in-Some.place c.index_mut.result.now c.as_slice.ensures.value c.place_of.ensures.place c.in-Some.is
    c.index_mut.ensures.value

pub returns-in_ok-push-in-None : goal.returns-in_ok-push-in-None
returns-in_ok-push-in-None c = raise_past c.args.name.now c.args.entries.now.items c.as_slice.result.now
    c.push.new.self.items c.place_of.result c.in_ok-copy_of-in-None.field-0 c.as_slice.ensures.value
    c.place_of.ensures.place c.in-None.is c.in_ok-copy_of-in-None.ensures c.in_ok-push-in-None.ensures.items
