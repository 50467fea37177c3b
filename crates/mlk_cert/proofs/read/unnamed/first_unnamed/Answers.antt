use Rattle.std.proofs.Common.{◌∙◌, ap}
use Rattle.std.specs.Prelude.{position, not}
use Rattle.mlk_cert.proofs.NamedCases.{unset-none}
use Rattle.mlk_cert.proofs.read.unnamed.first_unnamed.Goals as goal

pub returns : goal.returns
returns c = unset-none c.args.cases.now c.args.numbers.now c.in_ok-marks.marks.items c.first_unset.result c.requires c.in_ok-marks.ensures (c.first_unset.ensures ∙ ap (position not) c.as_slice.ensures.value)
