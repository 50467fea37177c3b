use Rattle.std.proofs.Common.{◌≡◌, ap, ◌∙◌, map, arith}
use Rattle.std.proofs.lemmas.Grind.{common_steps}
use Rattle.mlk_dialect.specs.Plain.{ends_line, plain_from, plain}
use Rattle.mlk_dialect.proofs.Lines.{lines_kept}
use Rattle.mlk_dialect.proofs.plain.plain_text.Goals as goal

pub returns-clause-lines : goal.returns-clause-lines
unfolding plain_from
returns-clause-lines c =
    let whole : c.loop-first.reading.text.items ≡ plain c.args.text.now = grind (arith, common_steps) in
    ap (map ends_line) whole ∙ lines_kept c.args.text.now
