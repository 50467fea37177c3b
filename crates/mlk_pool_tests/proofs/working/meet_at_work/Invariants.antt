use Rattle.std.proofs.Common.{map}
use Rattle.mlk_syntax.specs.Views.{routine_of}
use Rattle.mlk_pool_tests.proofs.working.meet_at_work.Given as goal

-- what this run is given
abbrev pub ghosts-events_of_two : goal.ghosts-events_of_two
ghosts-events_of_two g a = record {
  given = record { routines = map routine_of a.program.now; rules = a.rules.now; blocks = a.certificate.now; workers = 2 };
}
