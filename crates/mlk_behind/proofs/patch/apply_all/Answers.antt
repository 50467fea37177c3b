use Rattle.std.proofs.Common.{subst, sym}
use Rattle.mlk_behind.specs.Mending.{IsPatchAt, IsPatched, DiffersOnlyAt}
use Rattle.mlk_behind.proofs.Patches.{same_text, further, patch_among}
use Rattle.mlk_behind.proofs.patch.apply_all.Goals as goal
use Rattle.mlk_behind.proofs.patch.apply_all.Goals.{then-patch-routine, else-patch-routine}

pub loop-patch-init : goal.loop-patch-init
loop-patch-init c = same_text c.args.text.now

pub loop-patch-preserved : goal.loop-patch-preserved
loop-patch-preserved c =
    let IsHere = IsPatched c.args.patches.now c.args.routine in
    let patch = c.patch-item.result in
    elim c.if-patch-routine.branch [
      | then-patch-routine w ↦
          subst (DiffersOnlyAt IsHere c.args.text.now) (sym w.text-is)
          (further IsHere (λ k. IsPatchAt k patch) IsHere c.loop-patch.invariant w.apply.ensures (λ k h. h)
          (patch_among c.args.patches.now c.args.routine c.loop-patch.patch-index patch c.loop-patch-test.true c.patch-item.is w.if-patch-routine.true))
      | else-patch-routine w ↦ subst (DiffersOnlyAt IsHere c.args.text.now) (sym w.text-is) c.loop-patch.invariant
    ]
