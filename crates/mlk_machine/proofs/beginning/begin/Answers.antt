use Rattle.std.proofs.Common.{map, Some, sym}
use Rattle.mlk_syntax.specs.Views.{routine_of}
use Rattle.mlk_machine.specs.Jobs.{is_listed}
use Rattle.mlk_machine.proofs.NumberLemmas.{added_number, where_ok}
use Rattle.mlk_machine.proofs.beginning.begin.Goals as goal

pub returns-in-Ok-clause-answer : goal.returns-in-Ok-clause-answer
returns-in-Ok-clause-answer c = c.in-Ok.ensures.answer (is_listed c.args.entries.now) (sym c.is_declared-is_declared.ensures)

pub returns-in-Err-clause-answer : goal.returns-in-Err-clause-answer
returns-in-Err-clause-answer c = c.in-Err.ensures.answer (is_listed c.args.entries.now) (sym c.is_declared-is_declared.ensures)

pub returns-in-Ok-clause-numbers : goal.returns-in-Ok-clause-numbers
returns-in-Ok-clause-numbers c =
    added_number (map routine_of c.args.program.now) (is_listed c.args.entries.now) c.args.jobs.now.items c.join.new.jobs.items
    c.args.beginning.now.number c.args.beginning.now.entry c.args.beginning.now.test (map Some c.args.beginning.now.values.now) c.args.numbers.now.keys c.reserve.new.self.keys c.insert.new.self.keys
    c.requires.numbers c.reserve.ensures.keys
    (c.in-Ok.ensures.answer (is_listed c.args.entries.now) (sym c.is_declared-is_declared.ensures))
    (where_ok c.insert.result (c.insert.ensures.succeeds c.in_ok-reserve.ensures.ok) c.insert.ensures.keys)
