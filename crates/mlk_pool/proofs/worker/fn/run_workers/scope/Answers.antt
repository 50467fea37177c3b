use denote.Param.Send.{sendable}
use Rattle.std.proofs.Crossing.{crosses}
use Rattle.mlk_pool.proofs.shared.SharedBoard.TheSendSync as BoardSyncs
use Rattle.mlk_pool.proofs.worker.Worker.TheSendSync as WorkerSends
use Rattle.mlk_walk.proofs.Syncs.{checks}
use Rattle.mlk_pool.proofs.worker.fn.run_workers.scope.Goals as goal

pub spawn-requires-send-F : goal.spawn-requires-send-F
spawn-requires-send-F g c κs within = search (crosses, sendable, checks, BoardSyncs.the_sync, WorkerSends.the_send) depth 60 fits 20000
