use Rattle.std.proofs.Common.{map, refl}
use Rattle.mlk_syntax.specs.Views.{routine_of}
use Rattle.mlk_pool.specs.declared.error.CheckError.TheVariants as error
use Rattle.mlk_pool.specs.Headline.{RefusesReport}
use Rattle.mlk_pool.proofs.PassedOn.{passed-on}
use Rattle.mlk_outcome.specs.declared.refusal.NoReport.TheVariants as refusal
use Rattle.mlk_outcome.specs.Refusals.{no_memory}
use Rattle.mlk_app.proofs.work.print_report.Goals as goal

pub returns-in_err-report-clause-refused : goal.returns-in_err-report-clause-refused
returns-in_err-report-clause-refused g c =
    passed-on (RefusesReport refusal.Check (Unit {0}) c.args.workers (map routine_of c.args.subject.now.program.now) c.args.subject.now.rules.now c.args.certificate.now)
    c.from_residual.result c.in_err-report.field-0.0 c.from_residual.ensures.1 c.in_err-report.ensures.refused

pub returns-in_err-printed-clause-refused : goal.returns-in_err-printed-clause-refused
returns-in_err-printed-clause-refused g c =
    passed-on (RefusesReport refusal.Check (Unit {0}) c.args.workers (map routine_of c.args.subject.now.program.now) c.args.subject.now.rules.now c.args.certificate.now)
    c.from_residual-in_err-printed.result no_memory c.from_residual-in_err-printed.ensures.1 (error.OutOfMemory, record {}, refl)

pub returns-clause-ok : goal.returns-clause-ok
returns-clause-ok g c = (c.in_ok-report.report, c.in_ok-report.ensures.ok, c.in_ok-printed.ensures)
