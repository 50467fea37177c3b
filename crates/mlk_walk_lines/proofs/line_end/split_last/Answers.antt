use Rattle.std.proofs.Common.{◌∙◌, ap, sym}
use Rattle.mlk_walk_state.specs.Cases.{last_saved, before_last}
use Rattle.mlk_walk_lines.proofs.Opened.{last_is, before_is}
use Rattle.mlk_walk_lines.proofs.line_end.split_last.Goals as goal

pub returns-in-Some-clause-last : goal.returns-in-Some-clause-last
returns-in-Some-clause-last c = sym (ap last_saved c.in-Some.ensures.cases.0 ∙ last_is c.in-Some.before.now c.in-Some.last.now)

pub returns-in-Some-clause-before : goal.returns-in-Some-clause-before
returns-in-Some-clause-before c = sym (ap before_last c.in-Some.ensures.cases.0 ∙ before_is c.in-Some.before.now c.in-Some.last.now)
