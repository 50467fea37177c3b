use Rattle.std.proofs.Common.{◌≡◌, ◌∙◌, sym, map, drop, length, true, arith, rules}
use Rattle.std.specs.Prelude.{nat_lt}
use Rattle.std.proofs.lemmas.Bool.{ltb-true}
use Rattle.mlk_walk_state.specs.States.{at_rest}
use Rattle.mlk_walk_lines.proofs.FewStates.{all_first}
use Rattle.mlk_walk_lines.proofs.block.ends_of.Goals as goal

pub returns-then-are_many : goal.returns-then-are_many
returns-then-are_many c =
    let more : nat_lt 16 (length c.loop-case.ends) ≡ true = search rules in
    let above = ltb-true 16 (length c.loop-case.ends) more in
    sym (all_first 17 (map at_rest (drop c.loop-case.case-index c.as_slice-cases.result.now)) c.loop-case.ends (omega (arith, above)))
    ∙ c.loop-case.invariant
