use Rattle.std.proofs.Common.{◌≡◌, ◌++◌, length}
use Rattle.std.specs.Prelude.{option_map}
use Rattle.mlk_walk_state.specs.Lists.{all_some}
use Rattle.mlk_calls.specs.Calls.{leave}
use Rattle.mlk_calls.proofs.call.leave_all.Given as goal

abbrev pub invariant-loop-exit : goal.invariant-loop-exit
invariant-loop-exit l =
    option_map (λ ts. l.found.items ++ ts) (all_some (leave l.ending.how l.ending.formals.now l.ending.given.now l.ending.aside.now l.state) l.left)
    ≡ all_some (leave l.ending.how l.ending.formals.now l.ending.given.now l.ending.aside.now l.state) l.fn.exits

abbrev pub decreases-loop-exit : goal.decreases-loop-exit
decreases-loop-exit l = length l.left
