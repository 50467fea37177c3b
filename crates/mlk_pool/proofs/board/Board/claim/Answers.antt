use Rattle.std.proofs.Common.{◌<◌, ◌∙◌, length, slice_get, refl, sym, ap, arith, nat_lt, map, subst}
use Rattle.std.proofs.lemmas.Option.{slice_get_read}
use Rattle.mlk_pool.specs.declared.board.Slot.TheVariants.{Open, Claimed}
use Rattle.mlk_pool.specs.declared.board.Event.TheVariants.{Claim as Claiming}
use Rattle.mlk_pool.specs.Boards.{stage_of}
use Rattle.mlk_pool.specs.Shown.{Shown}
use Rattle.mlk_pool.specs.Histories.{IsNext}
use Rattle.mlk_pool.proofs.Slots.{IsKept-set, has_room, next_of, below_or}
use Rattle.mlk_pool.proofs.board.Board.claim.Goals as goal

pub push_reserved-requires : goal.push_reserved-requires
push_reserved-requires g c =
    let kept = c.self.invariant in
    let inside : c.self.inside.next < length c.self.inside.tasks.items = omega (arith, c.if-task-len.false, c.len.ensures, c.self.inside.tasks.ok) in
    has_room _ _ _ _ _ c.self.inside.next Open kept (kept.later c.self.inside.next (omega arith) (omega (arith, inside, kept.long))) (omega arith)

pub invariant_of-result : goal.invariant_of-result
invariant_of-result g c =
    let kept = c.self.invariant in
    let inside : c.self.inside.next < length c.self.inside.tasks.items = omega (arith, c.if-task-len.false, c.len.ensures, c.self.inside.tasks.ok) in
    record { is_task = ap (λ l. slice_get l c.self.inside.next) (sym kept.tasks_are) ∙ slice_get_read _ (length c.self.inside.tasks.items) _ _ refl inside c.index-entry.ensures }

pub invariant_of-self : goal.invariant_of-self
invariant_of-self g c =
    let kept = c.self.invariant in
    let inside : c.self.inside.next < length c.self.inside.tasks.items = omega (arith, c.if-task-len.false, c.len.ensures, c.self.inside.tasks.ok) in
    let open_there = kept.later c.self.inside.next (omega arith) (omega (arith, inside, kept.long)) in
    IsKept-set _ _ _ _ _ _ _ _ c.self.inside.next Open (Claimed c.args.worker) (Claiming c.args.worker c.self.inside.next) kept open_there refl (λ e at. tt) (λ e. absurd (cc e))
    (next_of _ _ _ _ _ kept inside) refl (omega arith) (omega arith) (omega (arith, inside)) (λ k lt away. below_or k c.self.inside.next lt away (nat_lt k c.self.inside.next) refl)
    refl c.push_reserved.ensures.items c.push_reserved.ensures.len c.push_reserved.ensures.capacity

pub returns-clause-next : goal.returns-clause-next
returns-clause-next g c =
    let kept = c.self.invariant in
    let inside : c.self.inside.next < length c.self.inside.tasks.items = omega (arith, c.if-task-len.false, c.len.ensures, c.self.inside.tasks.ok) in
    (subst (λ (v : Shown). IsNext (map stage_of v.slots) c.self.inside.next) c.self.view_is (next_of _ _ _ _ _ kept inside), refl)

pub returns-clause-none : goal.returns-clause-none
returns-clause-none g c =
    let kept = c.self.invariant in
    let inside : c.self.inside.next < length c.self.inside.tasks.items = omega (arith, c.if-task-len.false, c.len.ensures, c.self.inside.tasks.ok) in
    let next = subst (λ (v : Shown). IsNext (map stage_of v.slots) c.self.inside.next) c.self.view_is (next_of _ _ _ _ _ kept inside) in
    (λ e. absurd (cc e), λ all. absurd (all c.self.inside.next next.0))
