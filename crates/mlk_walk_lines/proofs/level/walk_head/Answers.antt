use Rattle.std.proofs.Common.{◌≡◌, ◌∙◌, ap, rules}
use Rattle.std.specs.Prelude.{option_map, option_copied}
use Rattle.mlk_syntax.specs.declared.routine.Line.TheViews.{out-Line}
use Rattle.mlk_walk_state.specs.Scope.{scope_of}
use Rattle.mlk_walk_exprs.specs.Walks.{begin}
use Rattle.mlk_walk_lines.specs.Endings.{around_of, head_of}
use Rattle.mlk_walk_lines.proofs.Turns.{head_done}
use Rattle.mlk_walk_lines.proofs.level.walk_head.Goals as goal

pub returns : goal.returns
returns c =
    let l = c.args.line.now in
    let at : c.in-Ok.level ≡ (out-Line l).level = search rules in
    let below : option_copied c.as_ref.result ≡ c.args.block.now = search rules in
    let from : c.new.result ≡ 1 = search rules in
    head_done (scope_of c.args.scope.now) (around_of c.args.around) (option_map head_of (option_copied c.args.next)) c.args.block.now l
    c.close.result c.in-Ok.level (option_copied c.as_ref.result) c.new.result c.in_ok-walk.walk c.commands.new.walk at below from
    (c.in_ok-walk.ensures ∙ ap begin c.listed_cases.ensures) c.in_ok-commands.ensures c.close.ensures
