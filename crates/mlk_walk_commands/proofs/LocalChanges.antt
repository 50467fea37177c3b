-- Changes of locals, in every state.
use Rattle.std.proofs.Common.{◌≡◌, ◌∙◌, ap, true, ℕ, List, [], ◌∷◌}
use Rattle.std.specs.Prelude.{is_none, Ok}
use Rattle.std.specs.List.{list_all}
use Rattle.mlk_syntax.specs.declared.expr.Subscript.{Subscript}
use Rattle.mlk_syntax.specs.ExprTrees.{sub_trees, subs_from}
use Rattle.mlk_cert_parts.specs.declared.names.NameSet.{NameSet}
use Rattle.mlk_calls.specs.Changes.{change_fault, changed_state, unless}
use Rattle.mlk_walk_exprs.specs.declared.walk.Walk.{Walk}
use Rattle.mlk_walk_exprs.specs.Walks.{each, each_changed, placed, put_states, with_states}
use Rattle.mlk_walk_exprs.specs.Spots.{Spot}
use Rattle.mlk_walk_exprs.proofs.Passing.{all_change, all_stay, is_nothing}
use Rattle.mlk_walk_commands.specs.Variables.{change_at, change_local}

-- a local with subscripts, whose value is not known
pub local_stays : (p : Spot) (column : ℕ) (name : List ℕ) (w : Walk) (subs : List Subscript) (first : Subscript) (others : List Subscript)
    → subs ≡ first ∷ others → each (change_local p column name (subs_from (sub_trees subs))) w ≡ with_states (put_states w.going []) w
local_stays p column name w subs first others is =
    ap (λ z. each (change_local p column name (subs_from (sub_trees z))) w) is ∙ all_stay w

-- a change that is allowed in all states
pub all_allow : (p : Spot) (column : ℕ) (names : NameSet) (w : Walk)
    → list_all (λ s. is_none (change_fault p.scope (names ∷ []) s)) w.going ≡ true
    → each (change_at p column names) w ≡ each_changed (changed_state (names ∷ [])) w
all_allow p column names =
    all_change (λ s. is_none (change_fault p.scope (names ∷ []) s)) (change_at p column names) (changed_state (names ∷ []))
    (λ s h. ap (λ f. placed p.line column (unless f (Ok (changed_state (names ∷ []) s)))) (is_nothing (change_fault p.scope (names ∷ []) s) h))
