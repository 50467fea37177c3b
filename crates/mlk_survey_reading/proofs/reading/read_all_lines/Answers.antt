use Rattle.mlk_survey_reading.proofs.reading.read_all_lines.Goals as goal

pub returns : goal.returns
returns g c = c.in_ok-answers.ensures
