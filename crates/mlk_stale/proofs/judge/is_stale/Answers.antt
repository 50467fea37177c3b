use Rattle.std.proofs.Common.{List, subst, sym}
use Rattle.mlk_names.specs.declared.term.LockTerm.{LockTerm}
use Rattle.mlk_rules.specs.Coverage.{IsCovered}
use Rattle.mlk_stale.proofs.judge.is_stale.Goals as goal

pub returns : goal.returns
returns c =
    let By : List LockTerm → Type 0 = λ held. IsCovered c.args.rules.now held c.args.write.now.written in
    let held = c.as_slice.ensures.value in
    let source = c.reads_written.ensures.0 c.if-not-reads_written.false in
    let gap = c.is_gap.ensures.0 c.if-not-is_gap.false in (
      λ is. record {
        source = source;
        unprotected = gap.0;
        not_read_again = gap.1;
        covered = subst By held (c.is_covered.ensures.0 is);
      },
      λ stale. c.is_covered.ensures.1 (subst By (sym held) stale.covered),
    )
