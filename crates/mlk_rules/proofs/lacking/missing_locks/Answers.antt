use Rattle.std.proofs.Common.{◌+◌, ◌++◌, List, arith, drop, sym, subst}
use Rattle.mlk_names.specs.declared.term.LockTerm.{LockTerm}
use Rattle.mlk_rules.specs.Coverage.{AreLacking}
use Rattle.mlk_rules.proofs.CheckLemmas.{lacking_more, lacking_all, drop_step, drop_past}
use Rattle.mlk_rules.proofs.lacking.missing_locks.Goals as goal

pub loop-cover-preserved : goal.loop-cover-preserved
loop-cover-preserved c =
    let held = c.args.held.now in
    let r = c.args.reference.now in
    let all = c.args.covers.now in
    let i = c.loop-cover.cover-index in
    let x = c.cover-item.result in
    let new = c.in_ok-add_unmet.ensures in
    let step = drop_step all i x c.loop-cover-test.true c.cover-item.is in
    let P : List LockTerm → Type 0 = λ fs. (ts : List LockTerm) → AreLacking held r (drop (i + 1) all) ts → AreLacking held r all (fs ++ ts) in
    subst P (sym new.1) (lacking_more held r all (drop i all) x (drop (i + 1) all) c.loop-cover.found.items new.0 step new.2 c.loop-cover.invariant)

pub returns : goal.returns
returns c =
    let all = c.args.covers.now in
    lacking_all c.args.held.now c.args.reference.now all (drop c.loop-cover.cover-index all) c.loop-cover.found.items (drop_past all c.loop-cover.cover-index (omega arith)) c.loop-cover.invariant
