use Rattle.std.proofs.Common.{ℕ}
use Rattle.mlk_names.specs.Lists.{Among}
use Rattle.mlk_machine_locks.specs.Keys.{asked_of}
use Rattle.mlk_machine_locks.specs.Tables.{IsListed}
use Rattle.mlk_machine_locks.proofs.TableLemmas.{one_done, all_done, no_items}
use Rattle.mlk_machine_locks.proofs.table.LockTable.possible_holders.Goals as goal

pub loop-name-preserved : goal.loop-name-preserved
loop-name-preserved c =
    one_done (λ n. (k : ℕ) → Among k (asked_of n) → (i : ℕ) → IsListed c.args.self.now k i → Among i c.loop-name.found.items)
    (λ n. (k : ℕ) → Among k (asked_of n) → (i : ℕ) → IsListed c.args.self.now k i → Among i c.add_against.new.found.items)
    c.args.names.now c.loop-name.left.now c.loop-name.invariant c.in-Some.others.now c.in-Some.name.now
    c.in-Some.ensures.cases.0 (λ n f k a i l. c.in_ok-add_against.ensures.kept i (f k a i l)) c.in_ok-add_against.ensures.listed

pub returns : goal.returns
returns c =
    all_done (λ n. (k : ℕ) → Among k (asked_of n) → (i : ℕ) → IsListed c.args.self.now k i → Among i c.loop-name.found.items)
    c.args.names.now c.loop-name.left.now c.loop-name.invariant (no_items c.loop-name.left.now c.in_default.ensures.cases)
