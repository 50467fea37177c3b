use Rattle.std.proofs.Common.{refl, inl, inr, arith}
use Rattle.mlk_files.proofs.Paths.{split-none, split-some}
use Rattle.mlk_files.proofs.source.name_stem.Goals as goal

pub returns-in-None : goal.returns-in-None
returns-in-None c = inl (refl, split-none 46 c.args.name.now c.rsplit_once.result c.in-None.is (omega arith) c.rsplit_once.ensures.cases)

pub returns-in-Some : goal.returns-in-Some
returns-in-Some c =
    let parts = split-some 46 c.args.name.now c.rsplit_once.result c.in-Some.stem c.in-Some.field-0-1 c.in-Some.is (omega arith) c.rsplit_once.ensures.cases in
    inr (c.in-Some.field-0-1.now, parts.0, parts.1)
