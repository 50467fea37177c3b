use Rattle.std.proofs.Common.{inl, inr, ⊎_elim}
use Rattle.mlk_program.proofs.DistinctNames.{refused_map}
use Rattle.mlk_program.proofs.Limits.{past_limit, within_next}
use Rattle.mlk_program.proofs.linking.check_limits.Goals as goal

pub returns-then-i-ge-MOST_ROUTINES-clause-refused : goal.returns-then-i-ge-MOST_ROUTINES-clause-refused
returns-then-i-ge-MOST_ROUTINES-clause-refused c =
    let entries = rw c.as_slice.ensures.value at c.entry_count.ensures in
    refused_map c.refusal.result _ _
    (past_limit c.args.routines.now c.loop-i.i c.index-routines-i.result c.loop-i-test.true c.index-routines-i.is
    c.loop-i.entries c.saturating_add-entries.result c.loop-i.invariant (rw entries at c.saturating_add-entries.ensures)
    (⊎_elim inl (λ h. inr h.1) c.then-i-ge-MOST_ROUTINES.either))
    (rw c.new-then-i-ge-MOST_ROUTINES.ensures at rw c.new.ensures at c.refusal.ensures)

pub loop-i-preserved : goal.loop-i-preserved
loop-i-preserved c =
    let entries = rw c.as_slice.ensures.value at c.entry_count.ensures in
    within_next c.args.routines.now c.loop-i.i c.index-routines-i.result c.loop-i-test.true c.index-routines-i.is
    c.loop-i.entries c.saturating_add-entries.result c.loop-i.invariant (rw entries at c.saturating_add-entries.ensures)
    c.if-i-ge-MOST_ROUTINES.false c.if-entries-gt-MOST_ENTRIES.false
