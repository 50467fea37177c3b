use Rattle.std.proofs.Common.{◌≡◌, length, ap, ◌∙◌, arith, sum_by, replicate}
use Rattle.std.proofs.lemmas.List.{length-replicate}
use Rattle.mlk_pool.specs.declared.board.Slot.TheVariants.{Open}
use Rattle.mlk_pool.specs.Boards.{events_left}
use Rattle.mlk_pool.proofs.Slots.{AllZip-open, slice_get-replicate, sum_by-open, logged_none}
use Rattle.mlk_pool.proofs.board.Board.of.Goals as goal

pub invariant_of-result : goal.invariant_of-result
invariant_of-result g c =
    let tasks = c.args.tasks.items in
    let n : c.len-count.result ≡ length tasks = omega (arith, c.len-count.ensures, c.args.tasks.ok) in
    let stored : c.in_ok-slots.slots.items ≡ replicate (length tasks) Open = c.in_ok-slots.ensures ∙ ap (λ k. replicate k Open) n in
    record {
      tasks_are = c.requires;
      right = rw stored (AllZip-open g.N.Inputs.given tasks);
      logged = rw (stored, c.in_ok-log.ensures.items) (logged_none (length tasks));
      long = rw stored (length-replicate (length tasks) Open);
      within = omega arith;
      later = λ k past inside. rw stored (slice_get-replicate (length tasks) k Open (rw (stored, length-replicate (length tasks) Open) at inside));
      earlier = λ k lt. absurd (omega arith);
      room = omega (arith, ap (sum_by events_left) stored, sum_by-open (length tasks), n, c.in_ok-log.ensures.len, c.in_ok-log.ensures.capacity);
    }
