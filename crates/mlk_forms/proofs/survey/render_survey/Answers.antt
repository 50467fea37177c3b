use Rattle.std.proofs.Common.{◌∙◌, ap, length}
use Rattle.std.proofs.lemmas.Result.{IfOk-weaker}
use Rattle.std.proofs.lemmas.Slice.Zip.{AllZip-long}
use Rattle.mlk_reading.specs.Answers.{IsAnswer}
use Rattle.mlk_forms.proofs.survey.render_survey.Goals as goal

pub returns : goal.returns
returns g c = IfOk-weaker c.render_answers-printed.result _ _
    (λ printed h. h ∙ ap length c.as_slice-answers.ensures.value ∙ AllZip-long IsAnswer c.args.sources.now c.in_ok-readings.readings.answers.items c.in_ok-readings.ensures)
    c.render_answers-printed.ensures
