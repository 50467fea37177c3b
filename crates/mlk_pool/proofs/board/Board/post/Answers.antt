use Rattle.std.proofs.Common.{◌≡◌, Some, nat_lt, slice_get, refl, sym, ap, ◌∙◌, arith}
use Rattle.mlk_pool.specs.declared.board.Slot.TheVariants.{Claimed, Posted}
use Rattle.mlk_pool.specs.declared.board.Event.TheVariants.{Post as Posting}
use Rattle.mlk_pool.specs.Boards.{stage_of}
use Rattle.mlk_pool.proofs.Slots.{IsKept-set, has_room, claimed_below, slice_get-mapped}
use Rattle.mlk_pool.proofs.board.Board.post.Goals as goal

pub push_reserved-requires : goal.push_reserved-requires
push_reserved-requires g c =
    let at : slice_get c.self.inside.slots.items c.args.claim.task ≡ Some (Claimed c.args.claim.worker) = ap (λ v. slice_get v.slots c.args.claim.task) c.self.view_is ∙ c.requires.claimed in
    has_room _ _ _ _ _ c.args.claim.task (Claimed c.args.claim.worker) c.self.invariant at (omega arith)

pub invariant_of-self : goal.invariant_of-self
invariant_of-self g c =
    let kept = c.self.invariant in
    let task = c.args.claim.task in
    let at : slice_get c.self.inside.slots.items task ≡ Some (Claimed c.args.claim.worker) = ap (λ v. slice_get v.slots task) c.self.view_is ∙ c.requires.claimed in
    let below = claimed_below _ c.self.inside.next task c.args.claim.worker kept.later at (nat_lt task c.self.inside.next) refl in
    IsKept-set _ _ _ _ _ _ _ _ task (Claimed c.args.claim.worker) (Posted c.args.claim.worker c.args.outcome) (Posting c.args.claim.worker task) kept at refl
    (λ t here. c.requires.outcome t (ap (λ l. slice_get l task) (sym kept.tasks_are) ∙ here)) (λ e. absurd (cc e))
    (slice_get-mapped stage_of c.self.inside.slots.items task (Claimed c.args.claim.worker) at) refl below (omega arith) kept.within (λ k lt away. lt)
    refl c.push_reserved.ensures.items c.push_reserved.ensures.len c.push_reserved.ensures.capacity
