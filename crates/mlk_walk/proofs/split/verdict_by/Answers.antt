use Rattle.std.proofs.Common.{[], map, rules}
use Rattle.mlk_walk_state.specs.Scope.{scope_of}
use Rattle.mlk_walk.specs.Verdicts.{fault_in}
use Rattle.mlk_walk.proofs.Ascending.{put_both}
use Rattle.mlk_walk.proofs.split.verdict_by.Goals as goal

pub returns : goal.returns
returns g c =
    let both = put_both c.in_ok-own.own (map fault_in (map (λ f. f.0) c.in_ok-walk.walk.faults.items)) [] in
    let found = c.in_ok-walk.ensures.0 in
    let lines = c.lines_in-part.ensures (scope_of c.of-scope.result) in
    grind rules
