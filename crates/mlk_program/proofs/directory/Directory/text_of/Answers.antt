use Rattle.std.proofs.Common.{◌∙◌, sym, ap, Some}
use Rattle.mlk_program.proofs.Directories.{text_some}
use Rattle.mlk_program.proofs.directory.Directory.text_of.Goals as goal

pub returns : goal.returns
returns c = ap Some c.in_ok-entry_text.ensures ∙ rw (← c.self.view_is) (text_some c.self.inside.routines.now c.args.entry c.in-Some.routine.now
    c.item-2.result c.in-Some-item.line (sym c.in-Some.ensures) (rw c.as_slice.ensures.value at c.item-2.ensures) c.in-Some-item.is)
