use Rattle.std.proofs.Common.{subst}
use Rattle.mlk_calls.specs.Changes.{change}
use Rattle.mlk_walk_state.specs.Refusals.{AnswersOf}
use Rattle.mlk_walk_exprs.specs.Spots.{spot_of}
use Rattle.mlk_walk_commands.proofs.variable.Change.changed.Goals as goal

pub returns : goal.returns
returns c = subst (λ ns. AnswersOf c.args.state (λ s. s) c.change.result
    (change (spot_of c.args.self.now.spot.now).scope ns c.args.state)) c.from_ref-names.ensures.value c.change.ensures
