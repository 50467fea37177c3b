use Rattle.std.proofs.Common.{rules, ◌≡◌, ◌+◌, map, ap}
use Rattle.std.specs.Prelude.{min}
use Rattle.mlk_machine.specs.InstructionViews.{asked_of}
use Rattle.mlk_machine.proofs.FollowLemmas.{half_begun, half_more, half_all, none_left}
use Rattle.mlk_machine.proofs.following.follow.Goals as goal

pub loop-asked-init : goal.loop-asked-init
loop-asked-init c = half_begun c.args.system.now (map asked_of c.args.lines.now)

pub loop-asked-preserved : goal.loop-asked-preserved
loop-asked-preserved c =
    let next : c.saturating_add-number.result ≡ min (c.loop-asked.number + 1) 4294967295 = search rules in
    half_more c.args.system.now c.loop-asked.system c.follow_one.new.system (map asked_of c.args.lines.now)
    (map asked_of c.loop-asked.left.now) (map asked_of c.in-Some.rest.now) (asked_of c.in-Some.asked.now)
    c.loop-asked.number _ c.loop-asked.invariant (ap (map asked_of) c.in-Some.ensures.cases.0) c.in-Ok.ensures.answer
    c.follow_one.ensures.same next

pub returns-clause-followed : goal.returns-clause-followed
returns-clause-followed c =
    half_all c.args.system.now c.loop-asked.system (map asked_of c.args.lines.now) (map asked_of c.loop-asked.left.now)
    c.loop-asked.number c.loop-asked.invariant (none_left c.loop-asked.left.now c.in_default.ensures.cases)
