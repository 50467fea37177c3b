use Rattle.mlk_rules.proofs.CheckLemmas.{not_both, lacking_none}
use Rattle.mlk_rules.proofs.lacking.add_unmet.Goals as goal

pub returns-then-not-is_unmet : goal.returns-then-not-is_unmet
returns-then-not-is_unmet c =
    lacking_none c.args.held.now c.args.reference.now c.args.cover.now c.args.found.now.items
    (λ l. not_both c.is_unmet.result c.if-not-is_unmet.true (c.is_unmet.ensures.1 l))
