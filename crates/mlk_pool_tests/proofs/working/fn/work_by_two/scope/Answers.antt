use denote.Param.Send.{IsSync, sendable}
use denote.Ref.{NamedLft}
use Rattle.std.proofs.Crossing.{crosses}
use Rattle.mlk_cert_parts.proofs.certificate.Certificate.TheSendSync as CertificateSyncs
use Rattle.mlk_walk.proofs.Syncs.{program}
use Rattle.mlk_pool.proofs.shared.SharedBoard.TheSendSync as BoardSyncs
use Rattle.mlk_rules.proofs.rules.Rules.TheSendSync as RulesSyncs
use Rattle.mlk_pool_tests.specs.contracts.working.Parts as Parts
use Rattle.mlk_pool_tests.proofs.working.fn.work_by_two.scope.Goals as goal

parts : (κ : NamedLft) → IsSync (Parts.the_row κ)
parts κ = search (crosses, sendable, program, RulesSyncs.the_sync, CertificateSyncs.the_sync) depth 60 fits 20000

pub spawn-requires-send-F : goal.spawn-requires-send-F
spawn-requires-send-F g c κs within = search (crosses, sendable, parts, BoardSyncs.the_sync) depth 60 fits 20000
