-- Lists of waiting states, and iterations of loops.
use Rattle.std.proofs.Common.{◌≡◌, ◌<◌, ◌+◌, ℕ, true, false, List, [], ◌∷◌, ◌++◌, length, drop, slice_index_or, refl, ap, sym, ◌∙◌}
use Rattle.mlk_walk_state.specs.declared.state.State.{State}
use Rattle.mlk_walk_exprs.specs.declared.walk.Walk.{Walk}
use Rattle.mlk_syntax.specs.declared.expr.Expr.{Expr}
use Rattle.mlk_syntax.specs.declared.expr.Subscript.{Subscript, fold_out-Subscript}
use Rattle.mlk_syntax.specs.ExprTrees.{Tree, Choices, choice, tree_of, choices, choices_from, ActualTree, Subs, sub_of, sub_trees, subs_from, actual_step, expr_step, subscript_step}
use Rattle.mlk_rules.proofs.CheckLemmas.{drop_step}
use Rattle.mlk_walk_exprs.specs.Walks.{joined, joins, with_states}
use Rattle.mlk_walk_exprs.specs.Spots.{Spot}
use Rattle.mlk_walk_exprs.specs.declared.reference.Use.TheVariants.{ItsValue}
use Rattle.mlk_walk_exprs.specs.Expressions.{evaluate, evaluate_choices, where_chosen, passed_over, capture, capture_subs}

-- the last list is joined first
pub joins_last : (waiting : List (List State)) (states : List State) (w : Walk)
    → joins (waiting ++ states ∷ []) w ≡ joins waiting (joined states w)
joins_last [] states w = refl
joins_last (first ∷ waiting) states w = ap (joined first) (joins_last waiting states w)

-- if the walk of the line is over, nothing is joined
pub joins_over : (waiting : List (List State)) (w : Walk) → w.over ≡ true → joins waiting w ≡ w
joins_over [] w e = refl
joins_over (first ∷ waiting) w e = ap (joined first) (joins_over waiting w e) ∙ rw e refl

-- one choice of `$SELECT` is done: the states of its value wait, and the further choices are walked from where it may fail
choice_done : (p : Spot) (waiting : List (List State)) (condition value : Tree) (rest : Choices) (w found : Walk)
    → found ≡ evaluate p ItsValue value (where_chosen p condition w) → found.over ≡ false
    → joins (waiting ++ found.going ∷ []) (evaluate_choices p rest (with_states (passed_over p condition w) found))
    ≡ joins waiting (evaluate_choices p (choice condition value rest) w)
choice_done p waiting condition value rest w found is e =
    let f : (evaluate p ItsValue value (where_chosen p condition w)).over ≡ false = rw is at e in
    joins_last waiting found.going (evaluate_choices p rest (with_states (passed_over p condition w) found))
    ∙ ap (joins waiting) (rw (is, f) refl)

-- and so is one iteration of the loop over them
pub choice_turn : (p : Spot) (cs : List (Expr × Expr)) (i : ℕ) (c : Expr × Expr) (waiting more : List (List State))
    (w held found : Walk) (failed going : List State) (whole : Walk)
    → i < length cs → c ≡ slice_index_or cs i c
    → held ≡ where_chosen p (tree_of c.0) w → failed ≡ passed_over p (tree_of c.0) w
    → found ≡ evaluate p ItsValue (tree_of c.1) held → found.over ≡ false
    → going ≡ found.going → more ≡ waiting ++ going ∷ []
    → joins waiting (evaluate_choices p (choices_from (choices (drop i cs))) w) ≡ whole
    → joins more (evaluate_choices p (choices_from (choices (drop (i + 1) cs))) (with_states failed found)) ≡ whole
choice_turn p cs i c waiting more w held found failed going whole low at h f e o g m before =
    let later : Choices = choices_from (choices (drop (i + 1) cs)) in
    ap (λ z. joins z (evaluate_choices p later (with_states failed found))) (m ∙ ap (λ z. waiting ++ z ∷ []) g)
    ∙ ap (λ z. joins (waiting ++ found.going ∷ []) (evaluate_choices p later (with_states z found))) f
    ∙ choice_done p waiting (tree_of c.0) (tree_of c.1) later w found (e ∙ ap (evaluate p ItsValue (tree_of c.1)) h) o
    ∙ ap (λ z. joins waiting (evaluate_choices p (choices_from (choices z)) w)) (sym (drop_step cs i c low at))
    ∙ before

-- one iteration of the loop over subscripts
sub_is : (s : Subscript) → sub_of s ≡ (s.column, tree_of s.value)
sub_is s = fold_out-Subscript ActualTree Tree (ℕ × Tree) actual_step expr_step subscript_step s

pub sub_turn : (p : Spot) (subs : List Subscript) (i : ℕ) (s : Subscript) (w found captured whole : Walk)
    → i < length subs → s ≡ slice_index_or subs i s
    → found ≡ evaluate p ItsValue (tree_of s.value) w → captured ≡ capture p.scope (tree_of s.value) found
    → capture_subs p (subs_from (sub_trees (drop i subs))) w ≡ whole
    → capture_subs p (subs_from (sub_trees (drop (i + 1) subs))) captured ≡ whole
sub_turn p subs i s w found captured whole low at f c before =
    let later : Subs = subs_from (sub_trees (drop (i + 1) subs)) in
    ap (capture_subs p later) (c ∙ ap (capture p.scope (tree_of s.value)) f)
    ∙ ap (λ (t : ℕ × Tree). capture_subs p later (capture p.scope t.1 (evaluate p ItsValue t.1 w))) (sym (sub_is s))
    ∙ ap (λ z. capture_subs p (subs_from (sub_trees z)) w) (sym (drop_step subs i s low at))
    ∙ before
