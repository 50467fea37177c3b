use Rattle.std.proofs.Common.{◌∙◌}
use Rattle.mlk_routine.proofs.Looping.{other_letter}
use Rattle.mlk_routine.proofs.commands.begins_for.Goals as goal

pub returns-then-ne-2 : goal.returns-then-ne-2
returns-then-ne-2 c =
    let first = c.copied-first.ensures ∙ c.first.ensures.value in
    other_letter c.args.bytes.now (rw first at c.if-ne.ensures) (rw first at c.if-ne-2.ensures)
