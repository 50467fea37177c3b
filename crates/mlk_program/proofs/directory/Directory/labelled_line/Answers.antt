use Rattle.std.proofs.Common.{◌∙◌, sym}
use Rattle.mlk_program.proofs.Directories.{label_some, label_none}
use Rattle.mlk_program.proofs.directory.Directory.labelled_line.Goals as goal

pub returns-in_default : goal.returns-in_default
returns-in_default c = rw (← c.self.view_is) (label_none c.self.inside.routines.now c.self.inside.labels.items c.args.routine
    c.args.label.now c.self.invariant.1 (sym (rw c.as_slice.ensures.value at c.in_default.ensures)))

pub returns : goal.returns
returns c = c.place.ensures ∙ rw (← c.self.view_is) (label_some c.self.inside.routines.now c.self.inside.labels.items c.args.routine
    c.args.label.now c.in-Some.table.now c.self.invariant.1 (sym (rw c.as_slice.ensures.value at c.in-Some.ensures)))
