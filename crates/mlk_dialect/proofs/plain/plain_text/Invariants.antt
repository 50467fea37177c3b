use Rattle.std.proofs.Common.{◌≡◌, ◌≤◌, ◌+◌, ◌++◌, length}
use Rattle.mlk_dialect.specs.Plain.{plain_from, inert_from, plain, inert}
use Rattle.mlk_dialect.proofs.plain.plain_text.Given as goal

abbrev pub invariant-loop-first : goal.invariant-loop-first
invariant-loop-first l = record {
  text : l.reading.text.items ++ plain_from l.reading.place l.reading.form.items l.rest ≡ plain l.text;
  inert : l.reading.inert + inert_from l.reading.place l.reading.form.items l.rest ≡ inert l.text;
  count : l.reading.inert + length l.rest ≤ length l.text;
}

abbrev pub decreases-loop-first : goal.decreases-loop-first
decreases-loop-first l = length l.rest
