use Rattle.std.proofs.Common.{◌≡◌, ◌++◌, drop}
use Rattle.mlk_cert_lexemes.specs.Lists.{flat}
use Rattle.mlk_cert_parts.specs.Texts.{case_line, point_text}
use Rattle.mlk_cert_parts.proofs.write.entry.PointWritten.push_to.Given as goal

abbrev pub invariant-loop-case : goal.invariant-loop-case
invariant-loop-case l = l.text ++ flat (case_line l.self.line l.self.round) (drop l.case-index l.self.cases) ≡ l.fn.text ++ point_text l.self
