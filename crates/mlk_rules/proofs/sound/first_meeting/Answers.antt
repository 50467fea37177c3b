use Rattle.std.proofs.Common.{take, arith, subst}
use Rattle.std.proofs.lemmas.List.{take_all}
use Rattle.mlk_rules.specs.Ranks.{FamiliesApart}
use Rattle.mlk_rules.proofs.SoundLemmas.{apart_none}
use Rattle.mlk_rules.proofs.FamilyMeetings.{apart_more, first_found}
use Rattle.mlk_rules.proofs.sound.first_meeting.Goals as goal

pub loop-i-init : goal.loop-i-init
loop-i-init c = apart_none (take 0 c.args.families.now) (omega arith)

pub returns-then-some_conflicts : goal.returns-then-some_conflicts
returns-then-some_conflicts c =
    let fs = c.args.families.now in
    let f = c.index-families-i.result in
    let met = rw c.split_at.ensures.front at (c.some_conflicts.ensures.0 c.if-some_conflicts.true) in
    first_found fs c.loop-i.i f c.loop-i-test.true c.index-families-i.is c.loop-i.invariant met

pub loop-i-preserved : goal.loop-i-preserved
loop-i-preserved c =
    let fs = c.args.families.now in
    let f = c.index-families-i.result in
    let met = rw c.split_at.ensures.front at c.some_conflicts.ensures in
    apart_more fs c.loop-i.i f c.loop-i-test.true c.index-families-i.is c.loop-i.invariant (λ m. let is = met.1 m in absurd (cc (is, c.if-some_conflicts.false)))

pub returns : goal.returns
returns c =
    let fs = c.args.families.now in subst FamiliesApart (take_all c.loop-i.i fs (omega arith)) c.loop-i.invariant
