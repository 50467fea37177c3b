use Rattle.std.proofs.Common.{◌∙◌, sym}
use Rattle.mlk_behind.proofs.Patches.{byte_put}
use Rattle.mlk_behind.proofs.patch.replace_byte.Goals as goal

pub returns-then-not-ends_line-2 : goal.returns-then-not-ends_line-2
returns-then-not-ends_line-2 c =
    byte_put c.args.text.now c.args.place c.args.byte
    (sym c.ends_line-then-not-ends_line.ensures ∙ c.if-not-ends_line-2.true ∙ sym c.if-not-ends_line.true ∙ c.ends_line.ensures)
