use Rattle.std.proofs.Common.{rules}
use Rattle.mlk_program.specs.Tables.{trees}
use Rattle.mlk_program.proofs.Learned.{call_with_values}
use Rattle.mlk_program.proofs.frames.add_call.Goals as goal

pub returns-then-not-any_by_reference : goal.returns-then-not-any_by_reference
returns-then-not-any_by_reference c = call_with_values (trees c.args.directory.now) c.args.part c.args.line c.args.site.now c.in-Some.given.items
    c.args.frames.now (search rules) (search rules)
