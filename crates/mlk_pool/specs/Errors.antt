-- Why there is no report, as the readers and the workers say it. This project's own choice.
use Rattle.std.specs.Prelude.{ℕ, ◌≡◌, List}
use Rattle.mlk_text.specs.declared.fault.Fault.{Fault}
use Rattle.mlk_text.specs.declared.failure.Failure.{Failure}
use Rattle.mlk_text.specs.declared.failure.Failure.TheVariants as failure
use Rattle.mlk_rules_file.specs.declared.read.fault.RulesFault.{RulesFault}
use Rattle.mlk_cert.specs.declared.read.fault.CertFault.{CertFault}
use Rattle.mlk_pool.specs.declared.report.PoolFault.{PoolFault}
use Rattle.mlk_pool.specs.declared.report.PoolFault.TheVariants as fault
use Rattle.mlk_pool.specs.declared.error.CheckError.{CheckError}
use Rattle.mlk_pool.specs.declared.error.CheckError.TheVariants as error

abbrev pub error_of_routine : Failure Fault → CheckError
error_of_routine failure.OutOfMemory = error.OutOfMemory
error_of_routine (failure.Refused f) = error.Routine f

abbrev pub error_of_rules : Failure RulesFault → CheckError
error_of_rules failure.OutOfMemory = error.OutOfMemory
error_of_rules (failure.Refused f) = error.Rules f

abbrev pub error_of_certificate : Failure CertFault → CheckError
error_of_certificate failure.OutOfMemory = error.OutOfMemory
error_of_certificate (failure.Refused f) = error.Certificate f

abbrev pub error_of_workers : Failure PoolFault → CheckError
error_of_workers failure.OutOfMemory = error.OutOfMemory
error_of_workers (failure.Refused fault.Workers) = error.Workers
error_of_workers (failure.Refused (fault.GateShut task)) = error.GateShut task

-- What is reported of an entry that is missing. If memory runs out, nothing is said.
abbrev pub ReportsEntry : List ℕ → CheckError → Type 0
ReportsEntry text error.OutOfMemory = Unit {0}
ReportsEntry text (error.Routine f) = ⊥
ReportsEntry text (error.Rules f) = ⊥
ReportsEntry text (error.Certificate f) = ⊥
ReportsEntry text (error.Entry entry) = entry ≡ text
ReportsEntry text error.Workers = ⊥
ReportsEntry text (error.GateShut task) = ⊥
