use Rattle.std.proofs.Common.{rules, ◌≡◌, ◌∷◌}
use Rattle.mlk_machine_locks.specs.Counts.{all_lowered}
use Rattle.mlk_machine_locks.proofs.HeldLemmas.{release_next, Within}
use Rattle.mlk_machine_locks.proofs.held.Held.release.Goals as goal

pub loop-name-preserved : goal.loop-name-preserved
loop-name-preserved c =
    let h : (all_lowered (c.in-Some.name.now ∷ c.in-Some.others.now) c.loop-name.self-inside.entries.items
    ≡ all_lowered c.args.names.now c.args.self.now) × Within c.loop-name.self-inside.entries.items = search rules in
    release_next c.in-Some.name.now c.in-Some.others.now c.args.names.now c.loop-name.self-inside.entries.items
    c.lower.new.entries.items c.args.self.now h c.lower.ensures
