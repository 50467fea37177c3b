-- A system: routines, the entries at which jobs may begin, and the jobs, in the order in which they began. This project's own.
use Rattle.std.specs.Prelude.{List}
use Rattle.mlk_syntax.specs.declared.routine.Routine.{Routine}
use Rattle.mlk_program.specs.declared.entry.EntryId.{EntryId}
use Rattle.mlk_machine_jobs.specs.declared.job.Job.{Job as JobIn}

pub record Running : Type 0 where
  pub program : List Routine
  pub entries : List EntryId
  pub jobs : List JobIn
