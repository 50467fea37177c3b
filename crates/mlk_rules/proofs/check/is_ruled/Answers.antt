use Rattle.std.proofs.Common.{sym, ◌∙◌}
use Rattle.mlk_rules.proofs.CheckLemmas.{ruled_by_cover, ruled_by_private}
use Rattle.mlk_rules.proofs.check.is_ruled.Goals as goal
use Rattle.mlk_rules.proofs.check.is_ruled.Goals.{then-some_cover_rules, else-some_cover_rules}

pub returns-then-some_pattern_rules : goal.returns-then-some_pattern_rules
returns-then-some_pattern_rules c =
    let rules = c.args.rules.now in
    let r = c.args.reference.now in (
      λ is.
          elim c.if-some_cover_rules.branch [
            | then-some_cover_rules w ↦
                ruled_by_cover rules r (rw c.as_slice.ensures at (c.some_cover_rules.ensures.0 w.if-some_cover_rules.true))
            | else-some_cover_rules w ↦
                ruled_by_private rules r (rw w.as_slice-else-some_cover_rules.ensures at (w.some_pattern_rules.ensures.0 (sym w.value-is ∙ c.if-some_pattern_rules.true)))
          ],
      λ h. c.if-some_pattern_rules.true,
    )
