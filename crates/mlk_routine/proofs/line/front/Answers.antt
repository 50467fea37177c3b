use Rattle.std.proofs.lemmas.Result.{err_from_is_err_and}
use Rattle.mlk_routine.specs.Lines.{IsLabelPart, LabelPartEnds, IsFront, FrontEnds}
use Rattle.mlk_routine_arguments.proofs.Outcomes.{hands_on}
use Rattle.mlk_routine.proofs.Fronts.{no_label_front}
use Rattle.mlk_routine.proofs.line.front.Goals as goal

pub returns-in_err-label : goal.returns-in_err-label
returns-in_err-label c =
    let p = err_from_is_err_and c.from_residual.result c.from_residual.ensures.1 in
    let line = c.args.text.now in
    rw (p.1, p.2) (hands_on IsLabelPart LabelPartEnds IsFront FrontEnds line 0 0 (no_label_front line) c.in_err-label.field-0.0 c.in_err-label.ensures)
