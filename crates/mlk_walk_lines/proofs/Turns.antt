-- Iterations of loops, the steps of FOR's parameters, and the walk of a line to its end.
use Rattle.std.proofs.Common.{◌≡◌, ◌∙◌, ◌<◌, ◌+◌, ap, sym, subst, ℕ, List, length, drop, map, slice_index_or, Option, Result}
use Rattle.std.specs.Prelude.{fold, IfOk, OnOk}
use Rattle.mlk_rules.proofs.CheckLemmas.{drop_step}
use Rattle.mlk_syntax.specs.ExprTrees.{Tree}
use Rattle.mlk_syntax.specs.Trees.{Once, Endless, Limited, HeadTree, LineTrees}
use Rattle.mlk_syntax.specs.declared.routine.Line.{Line}
use Rattle.mlk_syntax.specs.declared.routine.Line.TheViews.{out-Line}
use Rattle.mlk_syntax.specs.declared.routine.Line.TheFolds.{fold_out-Line}
use Rattle.mlk_syntax.specs.Views.{commands_of, line_step}
use Rattle.mlk_walk_state.specs.Scope.{Scope, listed}
use Rattle.mlk_walk_exprs.specs.declared.spot.Block.{Block}
use Rattle.mlk_walk_exprs.specs.declared.walk.Walk.{Walk}
use Rattle.mlk_walk_exprs.specs.Walks.{each, begin}
use Rattle.mlk_walk_exprs.specs.Spots.{Spot}
use Rattle.mlk_walk_exprs.specs.Expressions.{value}
use Rattle.mlk_walk_lines.specs.declared.ending.Ends.{Ends}
use Rattle.mlk_walk_lines.specs.Loops.{Rounds, begin_round, round_or_after, after_round, step_variable, step_again, limited, parameter, commands}
use Rattle.mlk_walk_lines.specs.Endings.{Around, LineEnd, head_of, at_end}
use Rattle.mlk_walk_lines.specs.Lines.{head_walk}
use Rattle.mlk_walk_lines.proofs.Opened.{carried}

-- one more item of a list is done
pub turn_done : {A B S : Type 0} (view : A → B) (step : S → B → S) (items : List A) (i : ℕ) (a : A) (w next whole : S)
    → i < length items → a ≡ slice_index_or items i a → next ≡ step w (view a)
    → fold step w (map view (drop i items)) ≡ whole → fold step next (map view (drop (i + 1) items)) ≡ whole
turn_done view step items i a w next whole low at made before =
    ap (λ z. fold step z (map view (drop (i + 1) items))) made
    ∙ ap (λ z. fold step w (map view z)) (sym (drop_step items i a low at))
    ∙ before

-- a parameter is done, each step from the result of the one before it
module _ {T E : Type 0} (p : Spot) (q : Rounds) (x : Walk) (r : Result T E) where
  pub once_done : (t : Tree) (w valued stepped begun : Walk) → valued ≡ value p t w → stepped ≡ step_variable p q valued
      → begun ≡ each (begin_round p q.cases) stepped → OnOk r (x ≡ after_round q.ended begun)
      → OnOk r (x ≡ parameter p q w (Once t))
  once_done t w valued stepped begun v s b h =
      carried r x _ _ h (sym (ap (after_round q.ended) (b ∙ ap (each (begin_round p q.cases)) (s ∙ ap (step_variable p q) v))))

  pub endless_done : (start step : Tree) (w started valued stepped begun : Walk) → started ≡ value p start w
      → valued ≡ value p step started → stepped ≡ step_variable p q valued → begun ≡ each (begin_round p q.cases) stepped
      → OnOk r (x ≡ step_again p q begun) → OnOk r (x ≡ parameter p q w (Endless start step))
  endless_done start step w started valued stepped begun v u s b h =
      carried r x _ _ h (sym (ap (step_again p q)
      (b ∙ ap (each (begin_round p q.cases)) (s ∙ ap (step_variable p q) (u ∙ ap (value p step) v)))))

  pub limited_done : (start step limit : Tree) (w started stepping valued begun : Walk) → started ≡ value p start w
      → stepping ≡ value p step started → valued ≡ value p limit stepping
      → begun ≡ each (round_or_after p q.cases) (step_variable p q valued)
      → OnOk r (x ≡ limited p q begun) → OnOk r (x ≡ parameter p q w (Limited start step limit))
  limited_done start step limit w started stepping valued begun v u l b h =
      carried r x _ _ h (sym (ap (limited p q)
      (b ∙ ap (λ z. each (round_or_after p q.cases) (step_variable p q z)) (l ∙ ap (value p limit) (u ∙ ap (value p step) v)))))

-- a line is walked to its end
module _ (sc : Scope) (around : Around) (next : Option HeadTree) (block : Option Block) (l : Line) where
  abbrev here : ℕ → Option Block → ℕ → Spot
  here level b word = record { scope = sc; line = (out-Line l).number; level = level; block = b; word = word }

  abbrev end : LineEnd
  end = record { scope = sc; around = around; next = next; line = (out-Line l).number; level = (out-Line l).level; column = (out-Line l).end }

  pub head_done : {E : Type 0} (r : Result Ends E) (level : ℕ) (b : Option Block) (word : ℕ) (first done : Walk) → level ≡ (out-Line l).level
      → b ≡ block → word ≡ 1 → first ≡ begin (listed sc (out-Line l).number 0)
      → done ≡ commands (here level b word) (commands_of (out-Line l).commands) first
      → IfOk r (λ e. e ≡ at_end end done) → IfOk r (λ e. e ≡ head_walk sc around next block (head_of l))
  head_done r level b word first done at below from begun walked h =
      subst (λ z. IfOk r (λ e. e ≡ z))
      (ap (at_end end) (walked
      ∙ ap (λ n. commands (here n b word) (commands_of (out-Line l).commands) first) at
      ∙ ap (λ o. commands (here (out-Line l).level o word) (commands_of (out-Line l).commands) first) below
      ∙ ap (λ n. commands (here (out-Line l).level block n) (commands_of (out-Line l).commands) first) from
      ∙ ap (commands (here (out-Line l).level block 1) (commands_of (out-Line l).commands)) begun)
      ∙ sym (ap (λ (y : HeadTree × LineTrees). head_walk sc around next block y.0) (fold_out-Line (HeadTree × LineTrees) line_step l)))
      h
