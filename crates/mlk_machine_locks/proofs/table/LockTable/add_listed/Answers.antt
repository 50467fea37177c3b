use Rattle.std.proofs.Common.{rules, subst}
use Rattle.mlk_names.specs.Lists.{Among}
use Rattle.mlk_machine_locks.proofs.TableLemmas.{listed_added, among_first}
use Rattle.mlk_machine_locks.proofs.table.LockTable.add_listed.Goals as goal

pub returns-in_ok-extend_from_slice-clause-listed :
    goal.returns-in_ok-extend_from_slice-clause-listed
returns-in_ok-extend_from_slice-clause-listed c = λ i l.
    listed_added c.args.self.now c.args.key i c.in-Some.holders.now c.args.found.now.items c.extend_from_slice.new.self.items
    (search rules) (search rules) l

pub returns-in_ok-extend_from_slice-clause-kept : goal.returns-in_ok-extend_from_slice-clause-kept
returns-in_ok-extend_from_slice-clause-kept c = λ i a.
    subst (λ z. Among i z) (search rules) (among_first c.args.found.now.items c.places.result.now i a)
