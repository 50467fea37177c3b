use Rattle.std.proofs.Common.{map}
use Rattle.mlk_syntax.specs.Views.{routine_of}
use Rattle.mlk_pool.specs.Given.{given_of}
use Rattle.mlk_pool.proofs.report.report_by.Given as goal

-- what this run is given
abbrev pub ghosts-report_on : goal.ghosts-report_on
ghosts-report_on g a = record { given = given_of (map routine_of a.program.now) a.rules.now a.certificate.now a.workers }
