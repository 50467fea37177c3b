use Rattle.std.proofs.Common.{◌∙◌, ◌<◌, inr, subst}
use Rattle.mlk_names.specs.declared.lock_name.LockName.{LockName}
use Rattle.mlk_machine_locks.specs.Counts.{count_of}
use Rattle.mlk_machine_locks.specs.Tables.{IsFound}
use Rattle.mlk_machine_locks.proofs.TableLemmas.{on_ok}
use Rattle.mlk_machine_locks.proofs.ring.list_waiting.Goals as goal

pub returns-clause-found : goal.returns-clause-found
returns-clause-found g c =
    on_ok c.list_held.result (λ f.
    inr (subst (λ hs. (n : LockName) → 0 < count_of hs n → IsFound c.list_held.new.self c.args.place n)
    (c.entries.ensures ∙ c.held.ensures) f)) c.list_held.ensures.found
