use Rattle.std.proofs.Common.{[], map, rules}
use Rattle.mlk_walk.specs.Verdicts.{fault_in}
use Rattle.mlk_walk.proofs.Ascending.{put_both}
use Rattle.mlk_walk.proofs.check.verdict_by.Goals as goal

pub returns : goal.returns
returns c =
    let both = put_both c.in_ok-walk.walk.own (map fault_in c.in_ok-walk.walk.lines) [] in
    grind rules
