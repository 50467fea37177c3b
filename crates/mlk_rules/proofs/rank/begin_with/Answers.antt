use Rattle.std.proofs.Common.{refl}
use Rattle.mlk_rules.proofs.RankLemmas.{begins_no_values}
use Rattle.mlk_rules.proofs.rank.begin_with.Goals as goal

pub returns : goal.returns
returns c =
    let l = c.loop-value in
    (λ is. l.invariant.0 (begins_no_values l.values.now l.symbols.now c.in_default.ensures.cases), λ h. refl)
