use Rattle.std.proofs.Common.{rules}
use Rattle.mlk_names.proofs.TermLemmas.{names_above}
use Rattle.mlk_names.proofs.term.prefix.Goals as goal

pub returns-then-eq-clause-above : goal.returns-then-eq-clause-above
returns-then-eq-clause-above c =
    let begin = rw (c.as_slice.ensures, c.as_slice-then-eq.ensures) at c.begins.ensures.0 in
    λ is. names_above c.args.first.now c.args.second.now (record { root = search rules; subs = begin is })
