use Rattle.std.proofs.Common.{◌≡◌, ◌∙◌, ap, rules}
use Rattle.std.specs.Prelude.{if◌then◌else◌, option_map}
use Rattle.mlk_syntax.specs.Views.{control_of}
use Rattle.mlk_walk_exprs.specs.Spots.{spot_of}
use Rattle.mlk_walk_exprs.specs.Walks.{few}
use Rattle.mlk_walk_lines.specs.Counting.{counted}
use Rattle.mlk_walk_lines.specs.Loops.{and_faults, and_states, over_too, quit_in, ended_in, controlled}
use Rattle.mlk_walk_lines.proofs.FewStates.{few_found}
use Rattle.mlk_walk_lines.proofs.Opened.{carried}
use Rattle.mlk_walk_lines.proofs.control.after_rounds.Goals as goal

pub returns : goal.returns
returns c =
    let p = spot_of c.args.spot.now in
    let w = c.args.walk.now in
    let inner = c.args.inner in
    let told = and_faults inner.faults w in
    let rounds = controlled p (option_map control_of c.args.control.now) c.args.cases.now (ended_in inner) told in
    let last = few p.line p.word (and_states (quit_in inner) rounds) in
    let same : and_states c.in_ok-resting_quits.field-0.items c.for_rounds.new.walk ≡ and_states (quit_in inner) rounds = search rules in
    carried c.limit_states.result c.limit_states.new.self last _
    (few_found c.limit_states.result p.line p.word c.limit_states.new.self _ _ c.limit_states.ensures (c.in_ok-and_states.ensures ∙ ap counted same))
    (ap (λ b. if b then w else if inner.over then over_too told else last) c.if-walk.false
    ∙ ap (λ b. if b then over_too told else last) c.if-over.false)
