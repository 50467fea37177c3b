use Rattle.std.proofs.Common.{◌∙◌, sym}
use Rattle.mlk_program.proofs.EntryLines.{later_some}
use Rattle.mlk_program.proofs.directory.Directory.later_line_count.Goals as goal

pub returns : goal.returns
returns c = c.copied.ensures ∙ rw c.as_slice-2.ensures.value at c.item-2.ensures ∙ rw (← c.self.view_is) (later_some c.self.inside.routines.now
    c.self.inside.later.items c.args.entry c.in-Some.counts.now c.self.invariant.2 (sym (rw c.as_slice.ensures.value at c.in-Some.ensures)))
