-- Walks of one state.
use Rattle.std.proofs.Common.{◌≡◌, ℕ, true, false, List, [], ◌∷◌, refl, sym, ◌∙◌, subst, ⊎_elim, inl, map}
use Rattle.std.specs.Prelude.{flat_map}
use Rattle.mlk_names.specs.Lists.{Among}
use Rattle.mlk_syntax.specs.ExprTrees.{Tree}
use Rattle.mlk_cert_parts.specs.declared.case.Case.{Case}
use Rattle.mlk_walk_state.specs.declared.state.State.{State}
use Rattle.mlk_walk_state.specs.Scope.{Scope}
use Rattle.mlk_walk_state.specs.Symbols.{truth_in}
use Rattle.mlk_walk_exprs.specs.declared.walk.Walk.{Walk}
use Rattle.mlk_walk_exprs.specs.declared.walk.Quit.{Quit}
use Rattle.mlk_walk_exprs.specs.Walks.{Outcome, Goes, Skips, Quits, Refused, put_states, with_states, each, each_changed, few, joined}
use Rattle.mlk_walk_exprs.specs.Expressions.{agrees, by_condition}
use Rattle.mlk_walk_laws.specs.Fewer.{IsClean, IsPart}
use Rattle.mlk_soundness_machine.specs.Places.{alone}
use Rattle.mlk_walk_laws.proofs.Lists.{in_flat, all_old, all_new}
use Rattle.mlk_walk_laws.proofs.Transfers.{Keeps, all_back, going_new, skips_new, quits_new, clean_with}
use Rattle.mlk_walk_laws.proofs.Counts.{few_clean, few_same, ways_clean, ways_same, joined_same, first_of, second_of, false_of, first_clean}

-- The walk of a piece from one state: nothing is wrong, and all its outcomes are as stated.
pub record Leads (F : Walk → Walk) (s : State) (G : State → Type 0) (S : Case → Type 0) (Q : Quit → Type 0) : Type 0 where
  pub clean : IsClean (F (alone s))
  pub going : (t : State) → Among t (F (alone s)).going → G t
  pub skips : (c : Case) → Among c (F (alone s)).skips → S c
  pub quits : (q : Quit) → Among q (F (alone s)).quits → Q q

pub alone_part : (t : State) (w : Walk) → IsClean w → Among t w.going → IsPart (alone t) w
alone_part t w h i = record {
  clean = record { faultless = refl; goes_on = refl };
  going = λ s r. ⊎_elim (λ (e : s ≡ t). subst (λ z. Among z w.going) (sym e) i) (λ (x : ⊥). absurd x) r;
  skips = λ c r. absurd r;
  quits = λ q r. absurd r;
  distinct = ((λ r. r), tt);
}

-- a part of a walk has a part of the outcomes
pub leads_part : (F : Walk → Walk) → Keeps F → (s : State) (w : Walk) → IsPart (alone s) w → IsClean (F w) → (G : State → Type 0) (S : Case → Type 0) (Q : Quit → Type 0)
    → ((t : State) → Among t (F w).going → G t) → ((c : Case) → Among c (F w).skips → S c) → ((q : Quit) → Among q (F w).quits → Q q) → Leads F s G S Q
leads_part F f s w i h G S Q g k q =
    let p = f.part (alone s) w i h in
    record { clean = p.clean; going = λ t r. g t (p.going t r); skips = λ c r. k c (p.skips c r); quits = λ x r. q x (p.quits x r) }

module _ (G : State → Type 0) (S : Case → Type 0) (Q : Quit → Type 0) where
  -- two pieces, one after another
  pub leads_both : (F H : Walk → Walk) → Keeps F → Keeps H → (s : State) → Leads (λ w. H (F w)) s G S Q → Leads F s (λ t. Leads H t G S Q) S Q
  leads_both F H f h s l =
      let w = F (alone s) in
      let k = h.back w l.clean in
      record {
        clean = k;
        going = λ t i. leads_part H h t w (alone_part t w k i) l.clean G S Q l.going l.skips l.quits;
        skips = λ c i. l.skips c ((h.adds w).skips c i);
        quits = λ q i. l.quits q ((h.adds w).quits q i);
      }

  -- a row
  abbrev pub Meets : Outcome → Type 0
  Meets (Goes t) = G t
  Meets (Skips c) = S c
  Meets (Quits column c) = Q (record { column = column; case = c })
  Meets (Refused line column code) = ⊥

  pub leads_each : (row : State → List Outcome) (s : State) → Leads (each row) s G S Q → (o : Outcome) → Among o (row s) → Meets o
  leads_each row s l o i = by o (in_flat row s o (s ∷ []) (inl refl) i)
    where
      by : (o : Outcome) → Among o (flat_map row (s ∷ [])) → Meets o
      by (Goes t) i = l.going t (going_new (flat_map row (s ∷ [])) (with_states [] (alone s)) t i)
      by (Skips c) i = l.skips c (skips_new (flat_map row (s ∷ [])) (with_states [] (alone s)) c i)
      by (Quits column c) i = l.quits (record { column = column; case = c }) (quits_new (flat_map row (s ∷ [])) (with_states [] (alone s)) (record { column = column; case = c }) i)
      by (Refused line column code) i = (all_back (flat_map row (s ∷ [])) (with_states [] (alone s)) l.clean).1 (Refused line column code) i

  pub leads_few : (line word : ℕ) (s : State) → Leads (few line word) s G S Q → G s
  leads_few line word s l =
      let e = few_same line word (alone s) (few_clean line word (alone s) l.clean).0 in
      l.going s (subst (λ (w : Walk). Among s w.going) (sym e) (inl refl))

  -- with the states that continue
  pub leads_there : (F : Walk → Walk) (s : State) → Leads F s G S Q → Leads F s (λ u. G u × Among u (F (alone s)).going) S Q
  leads_there F s l = record { clean = l.clean; going = λ u i. (l.going u i, i); skips = l.skips; quits = l.quits }

  pub leads_stay : (s : State) → Leads (λ w. w) s G S Q → G s
  leads_stay s l = l.going s (inl refl)

  pub leads_changed : (change : State → State) (s : State) → Leads (each_changed change) s G S Q → G (change s)
  leads_changed change s l = l.going (change s) (inl refl)

  pub leads_mapped : (change : State → State) (s : State) → Leads (λ w. with_states (map change w.going) w) s G S Q → G (change s)
  leads_mapped change s l = l.going (change s) (inl refl)

  -- both ways of a condition
  module _ (sc : Scope) (t : Tree) (run other : Walk → Walk) (one : Keeps run) (two : Keeps other) (s : State) (l : Leads (by_condition sc t run other) s G S Q) where
    opened : ((first_of sc t run other one two (alone s)).over ≡ false) × IsClean (second_of sc t run other one two (alone s))
    opened = ways_clean sc t run other one two (alone s) l.clean

    first_is : IsClean (first_of sc t run other one two (alone s))
    first_is = first_clean sc t run other one two (alone s) opened.1

    whole : by_condition sc t run other (alone s) ≡ joined (first_of sc t run other one two (alone s)).going (second_of sc t run other one two (alone s))
    whole = ways_same sc t run other one two (alone s) opened.0

    both_are : joined (first_of sc t run other one two (alone s)).going (second_of sc t run other one two (alone s))
        ≡ with_states (put_states (second_of sc t run other one two (alone s)).going (first_of sc t run other one two (alone s)).going) (second_of sc t run other one two (alone s))
    both_are = joined_same (first_of sc t run other one two (alone s)).going (second_of sc t run other one two (alone s)) opened.1.goes_on

    all_is : by_condition sc t run other (alone s)
        ≡ with_states (put_states (second_of sc t run other one two (alone s)).going (first_of sc t run other one two (alone s)).going) (second_of sc t run other one two (alone s))
    all_is = whole ∙ both_are

    pub leads_true : agrees true (truth_in sc t s) ≡ true → Leads run s G S Q
    leads_true e =
        let w = first_of sc t run other one two (alone s) in
        let v = second_of sc t run other one two (alone s) in
        let same : w ≡ run (alone s) = rw e refl in
        let a = two.adds (with_states (false_of sc t run other one two (alone s)) w) in
        record {
          clean = subst IsClean same first_is;
          going = λ u i. l.going u (subst (λ (x : Walk). Among u x.going) (sym all_is) (all_old u v.going w.going (subst (λ (x : Walk). Among u x.going) (sym same) i)));
          skips = λ c i. l.skips c (subst (λ (x : Walk). Among c x.skips) (sym all_is) (a.skips c (subst (λ (x : Walk). Among c x.skips) (sym same) i)));
          quits = λ q i. l.quits q (subst (λ (x : Walk). Among q x.quits) (sym all_is) (a.quits q (subst (λ (x : Walk). Among q x.quits) (sym same) i)));
        }

    pub leads_false : agrees false (truth_in sc t s) ≡ true → Leads other s G S Q
    leads_false e =
        let w = first_of sc t run other one two (alone s) in
        let v = second_of sc t run other one two (alone s) in
        let x = with_states (false_of sc t run other one two (alone s)) w in
        let here : Among s x.going = (rw e (inl refl)) in
        leads_part other two s x (alone_part s x (clean_with (false_of sc t run other one two (alone s)) w first_is) here) opened.1 G S Q
        (λ u i. l.going u (subst (λ (y : Walk). Among u y.going) (sym all_is) (all_new u v.going w.going i)))
        (λ c i. l.skips c (subst (λ (y : Walk). Among c y.skips) (sym all_is) i))
        (λ q i. l.quits q (subst (λ (y : Walk). Among q y.quits) (sym all_is) i))
