use Rattle.std.proofs.Common.{◌≡◌, ◌-◌, ◌++◌, ◌∙◌, sym, ap, subst, arith, false, length, map, slice_index_or}
use Rattle.mlk_syntax.specs.Views.{routine_of}
use Rattle.mlk_walk_state.specs.Scope.{has_entry}
use Rattle.mlk_walk.specs.Reports.{is_checked, row_of, rows_of}
use Rattle.mlk_pool.specs.Given.{is_certified}
use Rattle.mlk_pool.specs.Boards.{IsSlotOf}
use Rattle.mlk_pool.specs.Refusals.{HadNoMemory, IsFirstNotDone, IsShut}
use Rattle.mlk_pool.proofs.NextSlots.{added, not_added, rows_left, slot_left}
use Rattle.mlk_pool.proofs.NotDone.{first_not_done, next_later, no_slot, not_certified, shut_more}
use Rattle.mlk_pool.proofs.PassedOn.{passed-on}
use Rattle.mlk_pool.proofs.report.collect_report.Goals as goal
use Rattle.mlk_pool.proofs.report.collect_report.Goals.{then-is_checked+in_ok-verdict+in_ok-add, else-is_checked+in-Some+in-Posted+in-Done-1, else-is_checked+in-Some+in-Posted+in-NoMemory-1, else-is_checked+in-Some+in-Open-1, else-is_checked+in-None-1}

pub settled_verdict-requires-clause-slot : goal.settled_verdict-requires-clause-slot
settled_verdict-requires-clause-slot g c =
    (slot_left (IsSlotOf g.N.Inputs.given) (is_certified c.args.checks.now.entries.now.0) c.args.entries.now c.loop-entry.entry-index (record { routine = 0; line = 0 })
    c.loop-entry.left.items c.next_slot-slot.new.slots.items c.next_slot-slot.result c.loop-entry-test.true c.loop-entry.invariant.1 c.next_slot-slot.ensures).0

pub returns-in_err-verdict-clause-refused : goal.returns-in_err-verdict-clause-refused
returns-in_err-verdict-clause-refused g c =
    let left = c.args.slots.items in
    let entry = slice_index_or c.args.entries.now c.loop-entry.entry-index (record { routine = 0; line = 0 }) in
    let is_open = g.G.Gate.is_open c.args.gate.now in
    let e = c.in_err-verdict.field-0.0 in
    let counted : c.saturating_sub-task.result ≡ length left - length c.loop-entry.left.items =
    omega (arith, c.saturating_sub-task.ensures, c.len.ensures, c.loop-entry.left.ok, c.loop-entry.invariant.3) in
    let first = first_not_done left c.loop-entry.left.items c.next_slot-slot.new.slots.items c.next_slot-slot.result (is_certified c.args.checks.now.entries.now.0 entry)
    c.saturating_sub-task.result c.loop-entry.invariant.2 c.next_slot-slot.ensures in
    passed-on (IsShut is_open (IsFirstNotDone left)) c.from_residual.result e c.from_residual.ensures.1
    (shut_more is_open _ (IsFirstNotDone left) e (λ task here. subst (IsFirstNotDone left) (sym here.0) (first here.1 counted)) c.in_err-verdict.ensures.refused)

pub loop-entry-preserved : goal.loop-entry-preserved
loop-entry-preserved g c =
    let entry = slice_index_or c.args.entries.now c.loop-entry.entry-index (record { routine = 0; line = 0 }) in
    let rows = rows_of (map routine_of c.args.checks.now.program.now) c.args.checks.now.rules.now c.args.checks.now.entries.now in
    let checked = is_checked c.args.checks.now.entries.now entry in
    let before = c.loop-entry.report in
    let after = c.if-is_checked.report in
    let skipped : c.is_checked.result ≡ false → after ≡ before → after ≡ before ++ rows entry =
    λ no is. not_added checked before after _ (sym c.is_checked.ensures ∙ no) is in
    let settled : after ≡ before ++ rows entry =
    elim c.if-is_checked.branch [
      | then-is_checked+in_ok-verdict+in_ok-add w ↦ added checked before after _ (sym c.is_checked.ensures ∙ w.if-is_checked.true) (w.report-is ∙ w.in_ok-add.ensures ∙ ap (λ v. before ++ map (row_of entry) v) w.in_ok-verdict.ensures.ok)
      | else-is_checked+in-Some+in-Posted+in-Done-1 w ↦ skipped w.if-is_checked.false w.report-is
      | else-is_checked+in-Some+in-Posted+in-NoMemory-1 w ↦ skipped w.if-is_checked.false w.report-is
      | else-is_checked+in-Some+in-Open-1 w ↦ skipped w.if-is_checked.false w.report-is
      | else-is_checked+in-None-1 w ↦ skipped w.if-is_checked.false w.report-is
    ] in
    let certified = is_certified c.args.checks.now.entries.now.0 entry in
    let no_task : c.is_checked.result ≡ false → HadNoMemory c.next_slot-slot.result → ⊥ =
    λ no_rows. no_slot c.next_slot-slot.result c.loop-entry.left.items c.next_slot-slot.new.slots.items certified
    (not_certified certified (has_entry c.args.checks.now.entries.now.1 entry) (sym c.is_checked.ensures ∙ no_rows)) c.next_slot-slot.ensures in
    let memory : HadNoMemory c.next_slot-slot.result → ⊥ =
    elim c.if-is_checked.branch [
      | then-is_checked+in_ok-verdict+in_ok-add w ↦ w.in_ok-verdict.ensures.memory
      | else-is_checked+in-Some+in-Posted+in-Done-1 w ↦ no_task w.if-is_checked.false
      | else-is_checked+in-Some+in-Posted+in-NoMemory-1 w ↦ no_task w.if-is_checked.false
      | else-is_checked+in-Some+in-Open-1 w ↦ no_task w.if-is_checked.false
      | else-is_checked+in-None-1 w ↦ no_task w.if-is_checked.false
    ] in (
      rows_left rows c.args.entries.now c.loop-entry.entry-index (record { routine = 0; line = 0 }) before after c.loop-entry-test.true c.loop-entry.invariant.0 settled,
      (slot_left (IsSlotOf g.N.Inputs.given) (is_certified c.args.checks.now.entries.now.0) c.args.entries.now c.loop-entry.entry-index (record { routine = 0; line = 0 })
          c.loop-entry.left.items c.next_slot-slot.new.slots.items c.next_slot-slot.result c.loop-entry-test.true c.loop-entry.invariant.1 c.next_slot-slot.ensures).1,
      next_later c.args.slots.items c.loop-entry.left.items c.next_slot-slot.new.slots.items c.next_slot-slot.result certified c.loop-entry.invariant.2 c.next_slot-slot.ensures memory,
      c.loop-entry.invariant.3,
    )
