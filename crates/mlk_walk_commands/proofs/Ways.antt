-- Two ways, one after another.
use Rattle.std.proofs.Common.{◌≡◌, Bool, true, false, List, refl, ap, sym, ◌∙◌}
use Rattle.mlk_syntax.specs.ExprTrees.{Tree}
use Rattle.mlk_walk_state.specs.declared.state.State.{State}
use Rattle.mlk_walk_state.specs.Scope.{Scope}
use Rattle.mlk_walk_exprs.specs.declared.walk.Walk.{Walk}
use Rattle.mlk_walk_exprs.specs.Walks.{both_ways, with_states, joined}
use Rattle.mlk_walk_exprs.specs.Expressions.{where_it_may_be, by_condition}

module _ (one other : Walk → Walk) (these those : List State) (w : Walk) where
  -- the walk of the line is over after the first
  pub first_over : (one (with_states these w)).over ≡ true → both_ways one these other those w ≡ one (with_states these w)
  first_over e = rw e refl

  -- or both ways are walked
  pub both_walked : (one (with_states these w)).over ≡ false → both_ways one these other those w
      ≡ joined (one (with_states these w)).going (other (with_states those (one (with_states these w))))
  both_walked e = rw e refl

-- the first way, from where the condition may hold
module _ (sc : Scope) (t : Tree) (one other : Walk → Walk) (w held found : Walk)
    (h : held ≡ with_states (where_it_may_be true sc t w.going) w) (f : found ≡ one held) where
  found_is : found ≡ one (with_states (where_it_may_be true sc t w.going) w)
  found_is = f ∙ ap one h

  over_is : (b : Bool) → found.over ≡ b → (one (with_states (where_it_may_be true sc t w.going) w)).over ≡ b
  over_is b e = ap (λ (z : Walk). z.over) (sym found_is) ∙ e

  pub first_is_all : found.over ≡ true → found ≡ by_condition sc t one other w
  first_is_all e = found_is ∙ sym (first_over one other (where_it_may_be true sc t w.going) (where_it_may_be false sc t w.going) w (over_is true e))

  pub then_other : (left : Walk) (failed waiting : List State) → found.over ≡ false
      → failed ≡ where_it_may_be false sc t w.going → waiting ≡ found.going
      → left ≡ other (with_states failed found) → joined waiting left ≡ by_condition sc t one other w
  then_other left failed waiting e g k l =
      let fails : List State = where_it_may_be false sc t w.going in
      ap (joined waiting) (l ∙ ap (λ z. other (with_states z found)) g) ∙ ap (λ z. joined z (other (with_states fails found))) k
      ∙ ap (λ (z : Walk). joined z.going (other (with_states fails z))) found_is
      ∙ sym (both_walked one other (where_it_may_be true sc t w.going) fails w (over_is false e))
