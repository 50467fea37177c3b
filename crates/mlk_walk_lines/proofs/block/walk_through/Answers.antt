use Rattle.std.proofs.Common.{◌≡◌, ◌∙◌, ap, take, rules}
use Rattle.mlk_walk_exprs.specs.Spots.{spot_of}
use Rattle.mlk_walk_exprs.specs.Walks.{each, with_states}
use Rattle.mlk_walk_lines.specs.Commands.{enter_row, some_enter, block_ends}
use Rattle.mlk_walk_lines.specs.Counting.{counted}
use Rattle.mlk_walk_lines.proofs.FewStates.{with_alike}
use Rattle.mlk_walk_lines.proofs.block.walk_through.Goals as goal

pub returns : goal.returns
returns c =
    let p = spot_of c.args.spot.now in
    let b = c.args.block.now in
    let found = c.in_ok-walk.field-0 in
    let ends = block_ends (some_enter p b c.args.walk.now) b in
    let rest : c.enter_all.new.walk ≡ each (enter_row p b) c.args.walk.now = search rules in
    let first : take 17 found ≡ take 17 ends = search rules in
    with_alike found ends c.enter_all.new.walk first ∙ ap (λ z. counted (with_states ends z)) rest
