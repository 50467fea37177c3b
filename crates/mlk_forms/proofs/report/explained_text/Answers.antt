use Rattle.mlk_forms.proofs.report.explained_text.Goals as goal

pub returns : goal.returns
returns c = (c.in_ok-faults.faults.items, c.as_slice-below.result.now, c.in_ok-text.ensures)
