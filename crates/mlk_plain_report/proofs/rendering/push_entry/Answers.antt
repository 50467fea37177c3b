use Rattle.std.proofs.Common.{◌++◌, sym, ap, ◌∙◌, append-nil}
use Rattle.std.specs.Prelude.{slice_get}
use Rattle.mlk_plain_report.proofs.Printing.{line_none}
use Rattle.mlk_plain_report.proofs.rendering.push_entry.Goals as goal

pub returns-in-None : goal.returns-in-None
returns-in-None c =
    let there = c.in-Some.ensures ∙ ap (slice_get c.args.routines.now) c.routine.ensures in
    let none = c.in-None.ensures ∙ ap (slice_get c.as_slice.result.now) c.line.ensures ∙ ap (λ lines. slice_get lines c.args.entry.line) c.as_slice.ensures.value in
    sym (append-nil c.args.text.now) ∙ ap (λ text. c.args.text.now ++ text) (line_none c.args.routines.now c.args.entry c.in-Some.routine.now there none)
