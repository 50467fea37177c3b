use Rattle.std.proofs.Common.{map, ap}
use Rattle.mlk_walk.specs.Faults.{put_faults}
use Rattle.mlk_walk.specs.Verdicts.{fault_in}
use Rattle.mlk_walk.proofs.Ascending.{map_both}
use Rattle.mlk_walk.proofs.verdict.Verdict.put_found.Goals as goal

pub loop-found-init : goal.loop-found-init
loop-found-init c = ap (λ faults. put_faults faults c.args.self.now) (map_both (λ f. f.0) fault_in c.args.faults.items)
