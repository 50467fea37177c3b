use Rattle.mlk_rules.proofs.FamilyMeetings.{none_met}
use Rattle.mlk_rules.proofs.sound.families_apart.Goals as goal

pub returns : goal.returns
returns c = none_met c.first_meeting.result c.is_none.result c.args.families.now c.first_meeting.ensures c.is_none.ensures
