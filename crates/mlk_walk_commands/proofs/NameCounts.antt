-- How many subscripts names have.
use Rattle.std.proofs.Common.{◌≡◌, ◌<◌, ◌+◌, ◌-◌, ◌∙◌, ℕ, List, [], ◌∷◌, length, drop, map, slice_index_or, ap, arith}
use Rattle.mlk_syntax.specs.declared.command.Variable.{Variable}
use Rattle.mlk_syntax.specs.Trees.{VariableTree}
use Rattle.mlk_syntax.specs.Views.{variable_of}
use Rattle.mlk_rules.proofs.CheckLemmas.{drop_step}
use Rattle.mlk_walk_commands.specs.Variables.{count_in}
use Rattle.mlk_walk_commands.specs.Locks.{count_from, count_names}

added : (n : ℕ) (names : List VariableTree) → count_from n names ≡ n + count_names names
added n [] = omega (arith)
added n (v ∷ names) =
    let after : count_from (n + count_in v) names ≡ (n + count_in v) + count_names names = added (n + count_in v) names in
    let alone : count_from (0 + count_in v) names ≡ (0 + count_in v) + count_names names = added (0 + count_in v) names in
    omega (arith, after, alone)

-- one turn of the loop that takes them from a number
pub before_turn : (names : List Variable) (i : ℕ) (v : Variable) (count before next whole : ℕ) → i < length names
    → v ≡ slice_index_or names i v → count ≡ count_in (variable_of v) → next ≡ before - count
    → before - count_names (map variable_of (drop i names)) ≡ whole
    → next - count_names (map variable_of (drop (i + 1) names)) ≡ whole
before_turn names i v count before next whole low at is less kept =
    let later = map variable_of (drop (i + 1) names) in
    let first : count_names (map variable_of (drop i names)) ≡ (0 + count_in (variable_of v)) + count_names later =
    ap (λ vs. count_names (map variable_of vs)) (drop_step names i v low at) ∙ added (0 + count_in (variable_of v)) later in
    omega (arith, first, is, less, kept)
