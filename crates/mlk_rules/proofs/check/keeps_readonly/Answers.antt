use Rattle.std.proofs.Common.{sym, ◌∙◌}
use Rattle.mlk_rules.proofs.CheckLemmas.{keeps_readonly}
use Rattle.mlk_rules.proofs.check.keeps_readonly.Goals as goal

pub returns-in-Writes : goal.returns-in-Writes
returns-in-Writes c =
    keeps_readonly c.args.rules.now c.args.reference.now c.some_may_be_met.result (sym c.access.ensures ∙ c.in-Writes.is) (rw c.as_slice.ensures at c.some_may_be_met.ensures)
