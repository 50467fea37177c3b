use Rattle.std.proofs.Common.{◌≡◌, ◌≤◌, drop}
use Rattle.mlk_cert_lexemes.specs.Reading.{value_after}
use Rattle.mlk_cert_lexemes.proofs.lexeme.value_of.Given as goal

abbrev pub invariant-loop-b : goal.invariant-loop-b
invariant-loop-b l = (l.value ≤ l.limit) × (value_after l.limit l.value (drop l.b-index l.text) ≡ value_after l.limit 0 l.text)
