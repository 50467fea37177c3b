use Rattle.std.proofs.Common.{◌≡◌, length}
use Rattle.mlk_rules_file.specs.RuleTexts.{quoted}
use Rattle.mlk_text.specs.Reading.{put}
use Rattle.mlk_rules_file.proofs.read.quoted.quoted_value.Given as goal

abbrev pub invariant-loop-first : goal.invariant-loop-first
invariant-loop-first l = put l.value.items (quoted l.rest) ≡ quoted l.bytes

abbrev pub decreases-loop-first : goal.decreases-loop-first
decreases-loop-first l = length l.rest
