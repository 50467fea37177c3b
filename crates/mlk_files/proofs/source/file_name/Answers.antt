use Rattle.std.proofs.Common.{refl, inl, inr, arith}
use Rattle.mlk_files.proofs.Paths.{split-none, split-some}
use Rattle.mlk_files.proofs.source.file_name.Goals as goal

pub returns-in-None : goal.returns-in-None
returns-in-None c = (split-none 47 c.args.path.now c.rsplit_once.result c.in-None.is (omega arith) c.rsplit_once.ensures.cases, inl refl)

pub returns-in-Some : goal.returns-in-Some
returns-in-Some c =
    let parts = split-some 47 c.args.path.now c.rsplit_once.result c.in-Some.field-0-0 c.in-Some.name c.in-Some.is (omega arith) c.rsplit_once.ensures.cases in
    (parts.1, inr (c.in-Some.field-0-0.now, parts.0))
