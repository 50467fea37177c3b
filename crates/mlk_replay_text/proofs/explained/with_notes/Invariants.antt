use Rattle.std.proofs.Common.{[]}
use Rattle.mlk_replay_text.specs.Explained.{Continues}
use Rattle.mlk_replay_text.proofs.explained.with_notes.Given as goal

abbrev pub invariant-loop-note : goal.invariant-loop-note
invariant-loop-note l = Continues [] l.plain l.text.items l.left
