use Rattle.std.proofs.Common.{◌≡◌, ◌∙◌, ◌+◌, ◌-◌, ◌^◌, ◌<◌, min, length, subst, arith}
use Rattle.mlk_behind.specs.Mending.{IsPatchAt}
use Rattle.mlk_behind.proofs.Patches.{same_text, further}
use Rattle.mlk_behind.proofs.patch.apply.Goals as goal

pub loop-offset-init : goal.loop-offset-init
loop-offset-init c = same_text c.args.text.now

pub loop-offset-preserved : goal.loop-offset-preserved
loop-offset-preserved c =
    further (λ k. IsPatchAt k c.args.patch.now) (λ k. k ≡ c.saturating_add.result) (λ k. IsPatchAt k c.args.patch.now) c.loop-offset.invariant c.replace_byte.ensures
    (λ k h. h)
    (λ k h.
    let is = h ∙ c.saturating_add.ensures in
    let within = subst (λ bytes. c.loop-offset.offset < length bytes) c.deref-byte-items.ensures.value c.loop-offset-test.true in
    (omega (arith, is), omega (arith, is, within)))
