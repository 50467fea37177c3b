use Rattle.std.proofs.Common.{◌∙◌, Some, map, sym}
use Rattle.mlk_calls.specs.Changes.{marked}
use Rattle.mlk_calls.proofs.BareExits.{bare}
use Rattle.mlk_calls.proofs.call.given_at_end.Goals as goal

pub returns-then-not-some_hold : goal.returns-then-not-some_hold
returns-then-not-some_hold c =
    bare c.new.result.items (map Some (map (marked c.args.names.now) c.args.actuals.now)) c.args.exits.now
    (sym c.some_hold.ensures ∙ c.if-not-some_hold.true)
