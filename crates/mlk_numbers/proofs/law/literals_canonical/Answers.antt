use Rattle.mlk_numbers.proofs.CanonicalReading.{gives_canonical}
use Rattle.mlk_numbers.proofs.law.literals_canonical.Goals as goal

pub returns : goal.returns
returns c = gives_canonical
