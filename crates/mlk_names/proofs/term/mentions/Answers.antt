use Rattle.mlk_names.proofs.TermLemmas.{names_without}
use Rattle.mlk_names.proofs.term.mentions.Goals as goal

pub returns-clause-without : goal.returns-clause-without
returns-clause-without c =
    let t = c.args.term.now in
    let name = c.args.name.now in
    λ is_false. names_without t name (λ m. let found = (rw c.as_slice.ensures at c.has_local.ensures.1) m in cc)
