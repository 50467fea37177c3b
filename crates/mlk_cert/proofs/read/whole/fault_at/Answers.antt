use Rattle.std.proofs.Common.{sym, ◌∙◌, arith}
use Rattle.mlk_cert.proofs.Whole.{lines-within}
use Rattle.mlk_cert.proofs.read.whole.fault_at.Goals as goal

pub returns : goal.returns
returns c =
    let h = lines-within _ c.lines_in-2.result _ c.args.bytes.now c.split_at.ensures.front c.lines_in-2.ensures.count in
    record {
      code = c.args.refusal.known;
      from_one = omega (arith, c.new-line-2.ensures);
      inside = omega (arith, c.new-line-2.ensures);
      ends = λ e. let k = rw e at c.eq.ensures in let l = c.if-eq.false in cc (sym l ∙ k);
      behind_head = λ _. omega (arith, c.new-line-2.ensures);
    }
