use Rattle.std.proofs.Common.{rules, Some, None}
use Rattle.mlk_machine_locks.proofs.TableLemmas.{listed_still}
use Rattle.mlk_machine_locks.proofs.table.LockTable.add.Goals as goal

pub returns-in-Some-clause-kept : goal.returns-in-Some-clause-kept
returns-in-Some-clause-kept c =
    listed_still c.args.self.now.holders.entries (c.get_mut.follows.lender c.add.new.self).entries c.args.key c.add.new.self
    ((c.get_mut.follows.holds c.add.new.self).3 (search rules)).0 (Some c.in-Some.holders.now) (search rules)
    (λ h e. search rules)

pub returns-clause-kept : goal.returns-clause-kept
returns-clause-kept c =
    listed_still c.args.self.now.holders.entries c.insert.new.self.entries c.args.key c.add-2.new.self
    (λ q. search rules) None (search rules) (λ h e. search rules)
