use Rattle.std.proofs.Common.{subst}
use Rattle.rayon.proofs.ListFacts.{IfOk-then}
use Rattle.std.specs.List.{AllZip}
use Rattle.mlk_reading.specs.Answers.{IsAnswer}
use Rattle.mlk_reading.proofs.Firsts.{all-answered, first_error}
use Rattle.mlk_reading.proofs.readers.read_all.Goals as goal

pub returns-clause-ok : goal.returns-clause-ok
returns-clause-ok g c = IfOk-then c.all_read.result _ _ c.all_read.ensures.ok (λ r e.
    all-answered c.args.sources.now r.items (subst (AllZip IsAnswer c.args.sources.now) e c.in_ok-answers.ensures))

pub returns-clause-refused : goal.returns-clause-refused
returns-clause-refused g c = first_error c.args.sources.now c.in_ok-answers.answers.items c.all_read.result c.in_ok-answers.ensures c.all_read.ensures.refused
