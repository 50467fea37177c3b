use Rattle.std.proofs.Common.{◌+◌, ◌∙◌, ℕ, ap, arith}
use Rattle.std.specs.Prelude.{Vec}
use Rattle.std.specs.Global.{Global}
use Rattle.mlk_baseline.proofs.Numbers.{known-more, new-more}
use Rattle.mlk_baseline.proofs.baseline.Baseline.compare.Goals as goal
use Rattle.mlk_baseline.proofs.baseline.Baseline.compare.Goals.{then-is_known, else-is_known+in_ok-push_sparing}

pub loop-key-preserved : goal.loop-key-preserved
loop-key-preserved c =
    let items = λ (v : Vec ℕ Global). v.items in
    elim c.if-is_known.branch [
      | then-is_known w ↦ known-more c.loop-key.key-index c.loop-key.known c.if-is_known.known c.loop-key.news.items c.if-is_known.news.items
          c.loop-key.invariant w.known-is (ap items w.news-is)
      | else-is_known+in_ok-push_sparing w ↦ new-more c.loop-key.key-index c.loop-key.known c.if-is_known.known (c.loop-key.known + c.len.result) c.loop-key.news.items
          c.if-is_known.news.items c.loop-key.invariant (omega (arith, c.len.ensures, c.loop-key.news.ok)) w.known-is (ap items w.news-is ∙ w.in_ok-push_sparing.ensures)
    ]
