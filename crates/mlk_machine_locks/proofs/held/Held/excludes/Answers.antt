use Rattle.std.proofs.Common.{◌∙◌, ap, ℕ}
use Rattle.std.specs.Prelude.{◌&&◌, nat_lt}
use Rattle.std.specs.List.{list_any}
use Rattle.mlk_names.specs.declared.lock_name.LockName.{LockName}
use Rattle.mlk_machine_locks.specs.NameTests.{in_conflict}
use Rattle.mlk_machine_locks.specs.Counts.{Counts, excludes}
use Rattle.mlk_machine_locks.proofs.HeldLemmas.{excludes_any}
use Rattle.mlk_machine_locks.proofs.held.Held.excludes.Goals as goal

pub returns : goal.returns
returns c =
    c.some_excludes.ensures
    ∙ ap (λ (hs : Counts). list_any (λ (h : LockName × ℕ). nat_lt 0 h.1 && in_conflict c.args.name.now h.0) hs)
    c.as_slice.ensures.value
    ∙ excludes_any c.args.name.now c.self.inside.entries.items
    ∙ ap (λ (hs : Counts). excludes hs c.args.name.now) c.self.view_is
