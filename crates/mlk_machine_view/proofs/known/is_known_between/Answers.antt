use Rattle.std.proofs.Common.{◌∙◌}
use Rattle.mlk_machine_view.proofs.KnownLemmas.{some_number}
use Rattle.mlk_machine_view.proofs.known.is_known_between.Goals as goal

pub returns : goal.returns
returns c =
    c.is_some.ensures
    ∙ some_number c.args.op c.args.first.now c.args.second.now _ c.in_default.not-Concatenate c.number_between.ensures
