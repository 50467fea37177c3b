use Rattle.std.proofs.Common.{◌≡◌, ◌++◌, map}
use Rattle.mlk_walk_lines.specs.Lines.{found_in}
use Rattle.mlk_walk_lines.proofs.found.LineFaults.add.Given as goal

abbrev pub invariant-loop-found : goal.invariant-loop-found
invariant-loop-found l = l.self ≡ l.fn.self ++ map (found_in l.walked) (map (λ f. f.fault) l.yielded)
