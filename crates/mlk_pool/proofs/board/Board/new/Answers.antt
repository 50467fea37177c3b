use Rattle.std.proofs.Common.{◌∙◌, ap, map, filter}
use Rattle.mlk_syntax.specs.Views.{routine_of}
use Rattle.mlk_walk_state.specs.Scope.{certified}
use Rattle.mlk_pool.specs.Given.{is_certified}
use Rattle.mlk_pool.proofs.Runs.{tasks_inputs}
use Rattle.mlk_pool.proofs.board.Board.new.Goals as goal

pub of-requires-2 : goal.of-requires-2
of-requires-2 g c =
    tasks_inputs g.N.Inputs.given (map routine_of c.args.program.now) c.args.rules.now c.args.certificate.now c.in_ok-known.known c.in_ok-entries.entries.items c.in_ok-certified_entries.field-0.items
    c.requires.inputs (c.in_ok-known.ensures.certified ∙ ap (certified (map routine_of c.args.program.now)) c.blocks-2.ensures.blocks) c.in_ok-entries.ensures
    (c.in_ok-certified_entries.ensures ∙ ap (filter (is_certified c.in_ok-known.known.0)) c.as_slice.ensures.value)
