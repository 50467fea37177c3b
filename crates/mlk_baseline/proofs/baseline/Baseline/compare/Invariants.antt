use Rattle.std.proofs.Common.{◌≡◌, ◌+◌, length}
use Rattle.mlk_baseline.specs.Known.{Ascend}
use Rattle.mlk_baseline.proofs.baseline.Baseline.compare.Given as goal

abbrev pub invariant-loop-key : goal.invariant-loop-key
invariant-loop-key l = (l.known + length l.news.items ≡ l.key-index) × Ascend 0 l.key-index l.news.items
