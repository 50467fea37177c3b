use Rattle.std.proofs.Common.{ap, ◌∙◌}
use denote.Param.Send.{sendable}
use Rattle.std.proofs.Crossing.{crosses}
use Rattle.std.proofs.result.Result.TheSendSync as ResultSends
use Rattle.mlk_text.proofs.failure.Failure.TheSendSync as FailureSends
use Rattle.mlk_text.proofs.fault.Fault.TheSendSync as FaultSends
use Rattle.rayon.proofs.ListFacts.{IfOk-then}
use Rattle.rayon.proofs.ToStd.{slice-AllZip}
use Rattle.mlk_reading.proofs.Sends.{routine}
use Rattle.mlk_reading.specs.Answers.{IsAnswer}
use Rattle.mlk_reading.proofs.readers.reader_answers.Goals as goal

pub map-requires-send-U : goal.map-requires-send-U
map-requires-send-U g c κs within = search (crosses, sendable, ResultSends.the_send, FailureSends.the_send, FaultSends.the_send, routine)

pub collect-requires-send-Self-Item : goal.collect-requires-send-Self-Item
collect-requires-send-Self-Item g c κs within = search (crosses, sendable, ResultSends.the_send, FailureSends.the_send, FaultSends.the_send, routine)

pub collect-requires-send-C : goal.collect-requires-send-C
collect-requires-send-C g c κs within = search (crosses, sendable, ResultSends.the_send, FailureSends.the_send, FaultSends.the_send, routine) depth 40 fits 20000

pub returns : goal.returns
returns g c =
    let slice = ap (λ it. it.base.slice.now) c.map.ensures.base ∙ ap (λ it. it.slice.now) c.with_min_len.ensures.base ∙ c.par_iter.ensures in
    IfOk-then c.collect.result _ _ c.collect.ensures (λ v h.
    let chain = h.1 in
    rw h.2 (slice-AllZip chain.0 c.args.sources.now (chain.1 ∙ slice) IsAnswer h.0 chain.2))
