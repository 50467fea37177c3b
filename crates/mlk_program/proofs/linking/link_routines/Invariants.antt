use Rattle.std.proofs.Common.{take}
use Rattle.mlk_program.specs.Tables.{trees}
use Rattle.mlk_program.specs.Program.{calls_of}
use Rattle.mlk_program.specs.Linking.{Links}
use Rattle.mlk_program.proofs.linking.link_routines.Given as goal

abbrev pub invariant-loop-i : goal.invariant-loop-i
invariant-loop-i l = Links (trees l.directory) (calls_of (trees (take l.i l.directory))) l.fn.shared l.shared
