use Rattle.std.proofs.Common.{rules, subst, sym}
use Rattle.mlk_machine_locks.specs.Tables.{Covers}
use Rattle.mlk_machine_locks.proofs.TableLemmas.{none_under, free_under, covers_still}
use Rattle.mlk_machine_locks.proofs.table.LockTable.some_keeps.Goals as goal

pub returns-in_default-clause-free : goal.returns-in_default-clause-free
returns-in_default-clause-free g c = λ same.
    none_under g.J.Seen.seen c.args.jobs.now c.args.number c.args.name.now c.args.key c.args.self.now c.requires (search rules)

pub returns-in_default-clause-covers : goal.returns-in_default-clause-covers
returns-in_default-clause-covers g c =
    subst (λ m. Covers g.J.Seen.seen (record (c.args.self.now) { holders = m }) c.args.jobs.now)
    (sym c.get_mut.follows.holds-at-none) c.requires

pub returns-clause-free : goal.returns-clause-free
returns-clause-free g c = λ same.
    free_under g.J.Seen.seen c.args.jobs.now c.args.number c.args.name.now c.args.key c.args.self.now c.requires
    c.in-Some.holders.now (search rules) (c.some_keeps.ensures.free same)

pub returns-clause-covers : goal.returns-clause-covers
returns-clause-covers g c =
    covers_still g.J.Seen.seen c.args.jobs.now c.args.number c.args.name.now c.args.key c.args.self.now c.requires
    (record (c.args.self.now) { holders = c.get_mut.follows.lender c.some_keeps.new.self }) c.in-Some.holders.now
    c.some_keeps.new.self (search rules)
    ((c.get_mut.follows.holds c.some_keeps.new.self).3 (search rules)).0 c.some_keeps.ensures.stays
