-- The effect of a step on the values of names outside.
use Rattle.std.proofs.Common.{◌≡◌, ◌∙◌, ℕ, ◌<◌, true, false, List, [], ◌∷◌, ◌++◌, refl, sym, ap, subst, arith, ⊎_elim}
use Rattle.std.specs.Prelude.{◌==◌, ◌&&◌, not, nat_lt}
use Rattle.std.proofs.lemmas.Bool.{cases_Bool, and_from, ne_eqb}
use Rattle.mlk_syntax.specs.ExprTrees.{ActualTree, Given, ByRef, Missing}
use Rattle.mlk_syntax.specs.Trees.{RoutineTree}
use Rattle.mlk_machine_jobs.specs.Bindings.{Names, covers, Cell, same_cell, is_named, Fresh, ByReference, Bindings, Cells, look, put_value, killed, forgotten}
use Rattle.mlk_machine_jobs.specs.Tasks.{Job}
use Rattle.mlk_machine_jobs.specs.Calling.{with_actuals, formals_in}
use Rattle.mlk_machine_laws.specs.Tidy.{Below}
use Rattle.mlk_machine_laws.specs.Sharing.{binds, is_lent}
use Rattle.mlk_machine_laws.specs.Outside.{changes_name}
use Rattle.mlk_machine_laws.specs.Laws.{OutsideIsKept}
use Rattle.mlk_machine_laws.proofs.Kept.{kept, untouched, stores, kills, news, as_block, as_frame, Move, stays, opens, ends, halts}
use Rattle.mlk_machine_laws.proofs.Moves.{moves}
use Rattle.mlk_machine_laws.proofs.Killing.{differs, same_is, named_by, kept_other}
use Rattle.mlk_machine_laws.proofs.Tidy.{Nested, Tidied, below_look, tidied}
use Rattle.mlk_machine_laws.proofs.Sharing.{Ordered, shares, at_moment}

-- cells of other generations
pub below_behind : (g : ℕ) (front back : Bindings) → Below g (front ++ back) → Below g back
below_behind g [] back h = h
below_behind g (Fresh k names ∷ front) back h = below_behind g front back h.1
below_behind g (ByReference f c ∷ front) back h = below_behind g front back h.1

put_later : (c d : Cell) (v : List ℕ) (cells : Cells) → d.generation < c.generation → put_value c v cells d ≡ cells d
put_later c d v cells l =
    let e : (c.generation == d.generation) ≡ false = ne_eqb c.generation d.generation (λ z. omega (arith, z, l)) in
    rw e refl

pub actuals_before : (g : ℕ) (fs : List (List ℕ)) (given : List ActualTree) (values : List (List ℕ)) (cells : Cells) (c : Cell) → c.generation < g
    → with_actuals g fs given values cells c ≡ cells c
actuals_before g [] given values cells c l = refl
actuals_before g (f ∷ fs) [] values cells c l = refl
actuals_before g (f ∷ fs) (Given t ∷ given) [] cells c l = refl
actuals_before g (f ∷ fs) (Given t ∷ given) (v ∷ values) cells c l =
    actuals_before g fs given values (put_value (record { generation = g; name = f }) v cells) c l
    ∙ put_later (record { generation = g; name = f }) c v cells l
actuals_before g (f ∷ fs) (ByRef column name ∷ given) values cells c l = actuals_before g fs given values cells c l
actuals_before g (f ∷ fs) (Missing ∷ given) values cells c l = actuals_before g fs given values cells c l

pub not_forgotten : (g : ℕ) (cells : Cells) (c : Cell) → c.generation < g → forgotten g cells c ≡ cells c
not_forgotten g cells c l = let e : nat_lt c.generation g ≡ true = grind (arith, l) in rw e refl

-- If no formal shares the cell by reference, a name whose cell a step changes is bound there as itself.
module _ (j : Job) (o : Ordered j.bindings) (front back : Bindings) (e : j.bindings ≡ front ++ back) (n : List ℕ)
    (lent : is_lent j.bindings (look back n) ≡ false) (other : (changes_name j.tasks n && not (binds front n)) ≡ false) where
  not_this : {A : Type 0} → (m : List ℕ) → look j.bindings m ≡ look back n → changes_name j.tasks m ≡ true → A
  not_this m same h =
      let p = shares j.bindings o front back e m n same lent in
      let a : changes_name j.tasks n ≡ true = subst (λ k. changes_name j.tasks k ≡ true) p.0 h in
      let b : binds front n ≡ false = subst (λ k. binds front k ≡ false) p.0 p.1 in
      let c : not (binds front n) ≡ true = rw b refl in
      differs (changes_name j.tasks n && not (binds front n)) (and_from (changes_name j.tasks n) (not (binds front n)) a c) other

  put_elsewhere : (name value : List ℕ) → changes_name j.tasks name ≡ true
      → put_value (look j.bindings name) value j.cells (look back n) ≡ j.cells (look back n)
  put_elsewhere name value h =
      ⊎_elim
      (λ (u : same_cell (look j.bindings name) (look back n) ≡ true). not_this name (same_is (look j.bindings name) (look back n) u) h)
      (λ (u : same_cell (look j.bindings name) (look back n) ≡ false). rw u refl)
      (cases_Bool (same_cell (look j.bindings name) (look back n)))

  killed_elsewhere : (names : Names) → ((m : List ℕ) → changes_name j.tasks m ≡ covers names m)
      → killed j.bindings names j.cells (look back n) ≡ j.cells (look back n)
  killed_elsewhere names h =
      kept_other j.bindings names j.cells (look back n)
      (⊎_elim
      (λ u. let l = named_by j.bindings names (look back n) u in not_this l.0 l.2 (h l.0 ∙ l.1))
      (λ u. u)
      (cases_Bool (is_named j.bindings names (look back n))))

  step_keeps : (routines : List RoutineTree) (i : Job) → Tidied j → Move routines j i → (after : Bindings) → i.bindings ≡ after ++ back
      → i.cells (look back n) ≡ j.cells (look back n)
  step_keeps routines i t (stays k (untouched b m x)) after g = ap (λ q. q (look back n)) x
  step_keeps routines i t (stays k (stores name value h b m x)) after g = ap (λ q. q (look back n)) x ∙ put_elsewhere name value h
  step_keeps routines i t (stays k (kills names h b m x)) after g = ap (λ q. q (look back n)) x ∙ killed_elsewhere names h
  step_keeps routines i t (stays k (news names b m x)) after g = ap (λ q. q (look back n)) x
  step_keeps routines i t (opens test k h (as_block b m x)) after g = ap (λ q. q (look back n)) x
  step_keeps routines i t (opens test k h (as_frame entry head body lines is given values b m x)) after g =
      ap (λ q. q (look back n)) x
      ∙ actuals_before j.next (formals_in head) given values j.cells (look back n)
      (below_look j.next back n (below_behind j.next front back (subst (Below j.next) e t.older)))
  step_keeps routines i t (ends k here b m x h) after g =
      let there : Nested j.bindings j.next (k ∷ kept i.tasks) = subst (Nested j.bindings j.next) here t.nested in
      ap (λ q. q (look back n)) x
      ∙ not_forgotten k.next j.cells (look back n)
      (below_look k.next back n (below_behind k.next after back (subst (Below k.next) (sym b ∙ g) there.2)))
  step_keeps routines i t (halts k b m x) after g = ap (λ q. q (look back n)) x

pub outside_is_kept : OutsideIsKept
outside_is_kept routines declared d entry test values k first j acts b r front after back n free c i h e g lent other =
    step_keeps j (at_moment routines declared d entry test values k first j acts b r) front back e n lent other routines i
    (tidied routines declared entry test values k first j acts b r) (moves routines free c j j.tasks refl i h) after g
