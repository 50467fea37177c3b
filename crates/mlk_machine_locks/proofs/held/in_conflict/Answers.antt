use Rattle.std.proofs.Common.{rules, ◌≡◌, Decides}
use Rattle.std.proofs.lemmas.Slice.Eq.{slice_eq-Decides}
use Rattle.mlk_machine_locks.proofs.NameLemmas.{conflict_then, conflict_else, root_tested}
use Rattle.mlk_machine_locks.proofs.held.in_conflict.Goals as goal

pub returns-then-agree : goal.returns-then-agree
returns-then-agree c =
    let e : Decides c.eq.result (c.args.first.now.root ≡ c.args.second.now.root) = search (rules, slice_eq-Decides) in
    conflict_then c.agree.result c.eq.result c.args.first.now c.args.second.now c.as_slice.result.now c.as_slice-2.result.now
    c.as_slice.ensures c.as_slice-2.ensures c.agree.ensures c.if-agree.true
    (root_tested c.eq.result c.args.first.now.root c.args.second.now.root e)

pub returns-else-agree : goal.returns-else-agree
returns-else-agree c =
    conflict_else c.agree.result c.args.first.now c.args.second.now c.as_slice.result.now c.as_slice-2.result.now
    c.as_slice.ensures c.as_slice-2.ensures c.agree.ensures c.if-agree.false
