use Rattle.std.proofs.Common.{◌+◌, map, drop, refl, arith}
use Rattle.mlk_machine.specs.Replays.{event_of}
use Rattle.mlk_machine.proofs.ReplayLemmas.{half_more, next_event, replayed_refused, replayed_all, begun, none_left}
use Rattle.mlk_machine.proofs.replaying.replay.Goals as goal

pub loop-index-init : goal.loop-index-init
loop-index-init c = begun c.args.program.now c.args.entries.now c.args.events.now c.start-system.result c.start-system.ensures

pub loop-index-preserved : goal.loop-index-preserved
loop-index-preserved c =
    half_more c.args.program.now c.args.entries.now (map event_of c.args.events.now)
    (map event_of (drop c.loop-index.index c.args.events.now)) (map event_of (drop (c.loop-index.index + 1) c.args.events.now))
    (event_of c.index-events-index.result) c.loop-index.index (c.loop-index.index + 1) c.loop-index.system c.apply_event.new.system
    c.loop-index.invariant
    (next_event c.args.events.now c.loop-index.index c.index-events-index.result (omega (arith, c.loop-index-test.true))
    c.index-events-index.is)
    c.in-Ok.ensures.ok c.apply_event.ensures.same refl

pub returns-in-Err : goal.returns-in-Err
returns-in-Err c =
    replayed_refused c.args.program.now c.args.entries.now (map event_of c.args.events.now)
    (map event_of (drop c.loop-index.index c.args.events.now)) (map event_of (drop (c.loop-index.index + 1) c.args.events.now))
    (event_of c.index-events-index.result) c.loop-index.index c.loop-index.system c.in-Err.why c.loop-index.invariant
    (next_event c.args.events.now c.loop-index.index c.index-events-index.result (omega (arith, c.loop-index-test.true))
    c.index-events-index.is)
    c.in-Err.ensures.refused

pub returns : goal.returns
returns c =
    replayed_all c.args.program.now c.args.entries.now (map event_of c.args.events.now)
    (map event_of (drop c.loop-index.index c.args.events.now)) c.loop-index.index c.loop-index.system c.loop-index.invariant
    (none_left c.args.events.now c.loop-index.index (omega (arith, c.loop-index-test.false)))
