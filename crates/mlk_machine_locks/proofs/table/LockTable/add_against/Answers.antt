use Rattle.std.proofs.Common.{ℕ}
use Rattle.mlk_names.specs.Lists.{Among}
use Rattle.mlk_machine_locks.specs.Keys.{asked_from, asked_of}
use Rattle.mlk_machine_locks.specs.Tables.{IsListed}
use Rattle.mlk_machine_locks.proofs.TableLemmas.{one_done, two_done, next_asked, last_asked, on_ok, both_ok}
use Rattle.mlk_machine_locks.proofs.table.LockTable.add_against.Goals as goal

pub loop-subscript-preserved : goal.loop-subscript-preserved
loop-subscript-preserved c = (
  λ i a. c.in_ok-add_listed.ensures.kept i (c.loop-subscript.invariant.0 i a),
  one_done (λ k. (i : ℕ) → IsListed c.args.self.now k i → Among i c.loop-subscript.found.items)
      (λ k. (i : ℕ) → IsListed c.args.self.now k i → Among i c.add_listed.new.found.items)
      (asked_of c.args.name.now) (asked_from c.loop-subscript.key c.loop-subscript.left.now) c.loop-subscript.invariant.1
      (asked_from c.key_below-key.result c.in-Some.others.now) c.own_key.result
      (next_asked c.loop-subscript.key c.key_below-key.result c.own_key.result c.loop-subscript.left.now c.in-Some.others.now
      c.in-Some.subscript.now c.in-Some.ensures.cases.0 c.own_key.ensures c.key_below-key.ensures)
      (λ k f i l. c.in_ok-add_listed.ensures.kept i (f i l)) c.in_ok-add_listed.ensures.listed,
)

pub returns-clause-kept : goal.returns-clause-kept
returns-clause-kept c =
    on_ok c.add_listed-3.result (λ more i a. more i (c.in_ok-add_listed-2.ensures.kept i (c.loop-subscript.invariant.0 i a)))
    c.add_listed-3.ensures.kept

pub returns-clause-listed : goal.returns-clause-listed
returns-clause-listed c =
    both_ok c.add_listed-3.result (λ more last.
    two_done (λ k. (i : ℕ) → IsListed c.args.self.now k i → Among i c.loop-subscript.found.items)
    (λ k. (i : ℕ) → IsListed c.args.self.now k i → Among i c.add_listed-2.new.found.items)
    (λ k. (i : ℕ) → IsListed c.args.self.now k i → Among i c.add_listed-3.new.found.items)
    (asked_of c.args.name.now) (asked_from c.loop-subscript.key c.loop-subscript.left.now) c.own_key-2.result c.loop-subscript.key
    c.loop-subscript.invariant.1
    (last_asked c.loop-subscript.key c.own_key-2.result c.loop-subscript.left.now c.in_default.ensures.cases c.own_key-2.ensures)
    (λ k f i l. c.in_ok-add_listed-2.ensures.kept i (f i l)) c.in_ok-add_listed-2.ensures.listed
    (λ k f i l. more i (f i l)) last) c.add_listed-3.ensures.kept c.add_listed-3.ensures.listed
