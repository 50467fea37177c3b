-- How many subscripts a name has.
use Rattle.std.proofs.Common.{◌≡◌, ℕ, List, [], ◌∷◌, Vec, Global, length, map, refl, sym, ap, ◌∙◌, ◌≤◌, ◌+◌, ◌-◌, min, arith}
use Rattle.std.specs.Prelude.{◌^◌}
use Rattle.std.proofs.Math.Nat.{min-eq_left}
use Rattle.mlk_syntax.specs.declared.expr.Subscript.{Subscript}
use Rattle.mlk_syntax.specs.declared.expr.Expr.TheVariants as rust
use Rattle.mlk_syntax.specs.ExprTrees.{tree_of, subs_from, sub_trees, LocalName, GlobalName, count_subs}
use Rattle.mlk_syntax.proofs.Variants.{tree_local, tree_global}
use Rattle.mlk_syntax.specs.declared.command.Variable.{Variable}
use Rattle.mlk_syntax.specs.Views.{variable_of}
use Rattle.mlk_machine_jobs.specs.Commands.{count_in}
use Rattle.mlk_machine_jobs.specs.Locking.{count_all}

count_is : (ss : List Subscript) → length ss ≡ count_subs (subs_from (sub_trees ss))
count_is [] = refl
count_is (s ∷ ss) = let e = count_is ss in omega (arith, e)

pub local_count : (v : Variable) (name : List ℕ) (subs : Vec Subscript Global) (slice : List Subscript)
    → v.name ≡ rust.Local name subs → slice ≡ subs.items → length slice ≡ count_in (variable_of v)
local_count v name subs slice is same =
    let e : tree_of v.name ≡ LocalName name (subs_from (sub_trees subs.items)) = ap tree_of is ∙ tree_local name subs in
    rw (e, same) (count_is subs.items)

pub global_count : (v : Variable) (column : ℕ) (name : List ℕ) (subs : Vec Subscript Global) (slice : List Subscript)
    → v.name ≡ rust.Global column name subs → slice ≡ subs.items → length slice ≡ count_in (variable_of v)
global_count v column name subs slice is same =
    let e : tree_of v.name ≡ GlobalName column name (subs_from (sub_trees subs.items)) =
    ap tree_of is ∙ tree_global column name subs in
    rw (e, same) (count_is subs.items)

-- a count that saturates at the greatest number
pub counted_up : (left : List Variable) (count whole : ℕ) → length left ≡ 0 → count ≤ 2 ^ 64 - 1
    → min (count_all (map variable_of left) + count) (2 ^ 64 - 1) ≡ whole → count ≡ whole
counted_up [] count whole e l h =
    let z : count ≡ 0 + count = omega arith in
    sym (min-eq_left l) ∙ ap (λ k. min k (2 ^ 64 - 1)) z ∙ h
counted_up (v ∷ left) count whole e l h = absurd (omega (arith, e))
