use Rattle.mlk_rules.proofs.CheckLemmas.{not_both, missing_one, missing_none}
use Rattle.mlk_rules.proofs.lacking.add_missing.Goals as goal

pub returns-in_ok-push : goal.returns-in_ok-push
returns-in_ok-push c =
    let test = rw c.of.ensures at c.holds_lock.ensures in
    missing_one c.args.held.now c.args.reference.now c.args.lock.now c.in_ok-cut_template.field-0 c.args.found.now.items c.push.new.self.items
    (λ h. not_both c.holds_lock.result c.if-not-holds_lock.true (test.1 h)) c.in_ok-cut_template.ensures c.in_ok-push.ensures.items

pub returns-else-not-holds_lock : goal.returns-else-not-holds_lock
returns-else-not-holds_lock c =
    let test = rw c.of.ensures at c.holds_lock.ensures in
    missing_none c.args.held.now c.args.reference.now c.args.lock.now c.args.found.now.items (test.0 c.if-not-holds_lock.false)
