-- FOR, and the commands of a line, walked from fewer states.
use Rattle.std.proofs.Common.{◌≡◌, true, false, List, [], ◌∷◌, ◌++◌, map, refl, ap, sym, ◌∙◌, inl, inr, ⊎_elim, subst, Option, None, Some}
use Rattle.std.specs.Prelude.{if◌then◌else◌}
use Rattle.std.proofs.lemmas.Bool.{cases_Bool, true≢false, false≢true}
use Rattle.mlk_names.specs.Lists.{Among}
use Rattle.mlk_cert_parts.specs.declared.case.Case.{Case}
use Rattle.mlk_syntax.specs.Trees.{CommandTree, Does, ParameterTree, Once, Endless, Limited, ControlTree, Runs, CommandTrees, finished, then_command, then_for}
use Rattle.mlk_cert_parts.specs.declared.names.NameSet.TheVariants.{Only}
use Rattle.mlk_walk_state.specs.declared.state.State.{State}
use Rattle.mlk_walk_state.specs.States.{at_rest}
use Rattle.mlk_walk_state.specs.Scope.{listed}
use Rattle.mlk_walk_exprs.specs.declared.walk.Walk.{Walk}
use Rattle.mlk_walk_exprs.specs.declared.walk.Fault.{Fault}
use Rattle.mlk_walk_exprs.specs.Walks.{Outcome, put_states, with_states, few, each, begin}
use Rattle.mlk_walk_exprs.specs.Spots.{Spot}
use Rattle.mlk_walk_exprs.specs.Expressions.{value}
use Rattle.mlk_walk_commands.specs.Variables.{change_at}
use Rattle.mlk_walk_lines.specs.Loops.{Rounds, begin_round, round_or_after, after_round, step_variable, step_again, limited, parameter, parameters, controlled, and_faults, ended_in, quit_in, and_states, over_too, after_rounds, at_word, one_command, commands}
use Rattle.mlk_walk_laws.specs.Fewer.{StatesDiffer, IsClean, IsPart, ListsEachOnce, FewerCases, EachAlone}
use Rattle.mlk_walk_laws.proofs.Lists.{all_old, all_new, all_from, all_distinct, in_map}
use Rattle.mlk_walk_laws.proofs.Transfers.{Keeps, Tells, both, stays, each_keeps, clean_without, part_with, added_none, added_both, added_if}
use Rattle.mlk_walk_laws.proofs.Counts.{few_keeps, joined_part, joined_clean, joined_apart, joined_tells, joined_adds}
use Rattle.mlk_walk_laws.proofs.Walks.{command_keeps, value_part}

-- the states in which a round ended
pub round_same : (ended : List State) (w : Walk) → w.over ≡ false → after_round ended w ≡ with_states ended w
round_same ended w e = ap (λ b. if b then w else with_states ended w) e

pub round_clean : (ended : List State) (w : Walk) → IsClean (after_round ended w) → IsClean w
round_clean ended w h =
    ⊎_elim (λ (e : w.over ≡ true). subst IsClean (ap (λ b. if b then w else with_states ended w) e) h)
    (λ (e : w.over ≡ false). clean_without ended w (subst IsClean (round_same ended w e) h)) (cases_Bool w.over)

pub round_keeps : (ended : List State) → StatesDiffer ended → Keeps (after_round ended)
round_keeps ended d = record {
  adds = λ w. added_if w.over w w (with_states ended w) (record { skips = λ c h. h; quits = λ q h. h }) (added_none w ended);
  back = round_clean ended;
  tells = λ w t.
      ⊎_elim (λ (e : w.over ≡ true). subst Tells (sym (ap (λ b. if b then w else with_states ended w) e)) t)
      (λ (e : w.over ≡ false). subst Tells (sym (round_same ended w e)) t) (cases_Bool w.over);
  apart = λ w k.
      ⊎_elim (λ (e : w.over ≡ true). subst (λ (z : Walk). StatesDiffer z.going) (sym (ap (λ b. if b then w else with_states ended w) e)) k)
      (λ (e : w.over ≡ false). subst (λ (z : Walk). StatesDiffer z.going) (sym (round_same ended w e)) d) (cases_Bool w.over);
  part = λ v w i h.
      let c = round_clean ended w h in
      let a = round_same ended v i.clean.goes_on in
      let b = round_same ended w c.goes_on in
      rw (a, b) (part_with v w ended ended i (λ s r. r) d);
}

module _ (p : Spot) (r : Rounds) (d : StatesDiffer r.ended) where
  pub again_keeps : Keeps (step_again p r)
  again_keeps =
      both (λ w. step_variable p r (after_round r.ended w)) (each (begin_round p r.cases))
      (both (after_round r.ended) (step_variable p r) (round_keeps r.ended d) (each_keeps (change_at p r.column r.variable)))
      (each_keeps (begin_round p r.cases))

  abbrev pub after_again : Walk → Walk
  after_again w = after_round r.ended (step_again p r w)

  pub after_again_keeps : Keeps after_again
  after_again_keeps = both (step_again p r) (after_round r.ended) again_keeps (round_keeps r.ended d)

  pub limited_keeps : Keeps (limited p r)
  limited_keeps = record {
    adds = λ w. added_both w (after_again w) (limited p r w) (after_again_keeps.adds w) (joined_adds w.going (after_again w));
    back = λ w h. after_again_keeps.back w (joined_clean w.going (after_again w) h);
    apart = λ w k. joined_apart w.going (after_again w) k (after_again_keeps.apart w k);
    tells = λ w t. joined_tells w.going (after_again w) (after_again_keeps.tells w t);
    part = λ v w i h.
        let c = joined_clean w.going (after_again w) h in
        joined_part v.going w.going (after_again v) (after_again w) (after_again_keeps.part v w i c) c i.going i.distinct;
  }

  pub started_keeps : (f : Walk → Walk) → Keeps f → (row : State → List Outcome) → Keeps (λ w. each row (step_variable p r (f w)))
  started_keeps f k row =
      both (λ w. step_variable p r (f w)) (each row) (both f (step_variable p r) k (each_keeps (change_at p r.column r.variable))) (each_keeps row)

  pub parameter_keeps : (q : ParameterTree) → Keeps (λ w. parameter p r w q)
  parameter_keeps (Once t) =
      both (λ w. each (begin_round p r.cases) (step_variable p r (value p t w))) (after_round r.ended)
      (started_keeps (value p t) (value_part p t) (begin_round p r.cases)) (round_keeps r.ended d)
  parameter_keeps (Endless start step) =
      both (λ w. each (begin_round p r.cases) (step_variable p r (value p step (value p start w)))) (step_again p r)
      (started_keeps (λ w. value p step (value p start w)) (both (value p start) (value p step) (value_part p start) (value_part p step)) (begin_round p r.cases))
      again_keeps
  parameter_keeps (Limited start step limit) =
      both (λ w. each (round_or_after p r.cases) (step_variable p r (value p limit (value p step (value p start w))))) (limited p r)
      (started_keeps (λ w. value p limit (value p step (value p start w)))
      (both (λ w. value p step (value p start w)) (value p limit) (both (value p start) (value p step) (value_part p start) (value_part p step)) (value_part p limit))
      (round_or_after p r.cases))
      limited_keeps

  pub parameters_keep : (qs : List ParameterTree) → Keeps (parameters p r qs)
  parameters_keep [] = stays
  parameters_keep (q ∷ qs) = both (λ w. parameter p r w q) (parameters p r qs) (parameter_keeps q) (parameters_keep qs)

pub controlled_keeps : (p : Spot) (control : Option ControlTree) (cases : List Case) (ended : List State) → StatesDiffer ended → Keeps (controlled p control cases ended)
controlled_keeps p None cases ended d =
    both (λ w. after_round ended (each (begin_round p cases) w)) (each (begin_round p cases))
    (both (each (begin_round p cases)) (after_round ended) (each_keeps (begin_round p cases)) (round_keeps ended d)) (each_keeps (begin_round p cases))
controlled_keeps p (Some (Runs column name qs)) cases ended d =
    parameters_keep p (record { column = column; variable = Only name; cases = cases; ended = ended }) d qs

-- the faults of the rounds
pub no_first : {A : Type 0} (xs ys : List A) → xs ++ ys ≡ [] → xs ≡ []
no_first [] ys e = refl
no_first (x ∷ xs) ys e = cc e

pub no_second : {A : Type 0} (xs ys : List A) → xs ++ ys ≡ [] → ys ≡ []
no_second [] ys e = e
no_second (x ∷ xs) ys e = cc e

pub faults_keep : (faults : List Fault) → Keeps (and_faults faults)
faults_keep faults = record {
  adds = λ w. record { skips = λ c h. h; quits = λ q h. h };
  back = λ w h. record { faultless = no_first w.faults faults h.faultless; goes_on = h.goes_on };
  apart = λ w d. d;
  tells = λ w t e h. t e (no_first w.faults faults h);
  part = λ v w i h.
      let none = no_second w.faults faults h.faultless in
      record {
        clean = record { faultless = ap (λ z. z ++ faults) i.clean.faultless ∙ none; goes_on = i.clean.goes_on };
        going = i.going;
        skips = i.skips;
        quits = i.quits;
        distinct = i.distinct;
      };
}

-- states beside those that continue
pub states_same : (ss : List State) (w : Walk) → w.over ≡ false → and_states ss w ≡ with_states (put_states ss w.going) w
states_same ss w e = ap (λ b. if b then w else with_states (put_states ss w.going) w) e

pub states_clean : (ss : List State) (w : Walk) → IsClean (and_states ss w) → IsClean w
states_clean ss w h =
    ⊎_elim (λ (e : w.over ≡ true). subst IsClean (ap (λ b. if b then w else with_states (put_states ss w.going) w) e) h)
    (λ (e : w.over ≡ false). clean_without (put_states ss w.going) w (subst IsClean (states_same ss w e) h)) (cases_Bool w.over)

pub states_keep : (ss : List State) → Keeps (and_states ss)
states_keep ss = record {
  adds = λ w. added_if w.over w w (with_states (put_states ss w.going) w) (record { skips = λ c h. h; quits = λ q h. h }) (added_none w (put_states ss w.going));
  back = states_clean ss;
  tells = λ w t.
      ⊎_elim (λ (e : w.over ≡ true). subst Tells (sym (ap (λ b. if b then w else with_states (put_states ss w.going) w) e)) t)
      (λ (e : w.over ≡ false). subst Tells (sym (states_same ss w e)) t) (cases_Bool w.over);
  apart = λ w d.
      ⊎_elim (λ (e : w.over ≡ true). subst (λ (z : Walk). StatesDiffer z.going) (sym (ap (λ b. if b then w else with_states (put_states ss w.going) w) e)) d)
      (λ (e : w.over ≡ false). subst (λ (z : Walk). StatesDiffer z.going) (sym (states_same ss w e)) (all_distinct ss w.going d)) (cases_Bool w.over);
  part = λ v w i h.
      let c = states_clean ss w h in
      let a = states_same ss v i.clean.goes_on in
      let b = states_same ss w c.goes_on in
      rw (a, b) (part_with v w (put_states ss v.going) (put_states ss w.going) i
      (λ s r. ⊎_elim (λ (l : Among s v.going). all_old s ss w.going (i.going s l)) (λ (m : Among s ss). all_new s ss w.going m) (all_from s ss v.going r))
      (all_distinct ss v.going i.distinct));
}

-- FOR, given the results of its rounds
module _ (p : Spot) (control : Option ControlTree) (cases : List Case) (inner : Walk) (d : StatesDiffer inner.going) (told : Tells inner) where
  abbrev pub inside : Walk → Walk
  inside w = few p.line p.word (and_states (quit_in inner) (controlled p control cases (ended_in inner) (and_faults inner.faults w)))

  abbrev pub rest_of : Walk → Walk
  rest_of w = if inner.over then over_too (and_faults inner.faults w) else inside w

  pub inside_keeps : Keeps inside
  inside_keeps =
      both (λ w. and_states (quit_in inner) (controlled p control cases (ended_in inner) (and_faults inner.faults w))) (few p.line p.word)
      (both (λ w. controlled p control cases (ended_in inner) (and_faults inner.faults w)) (and_states (quit_in inner))
      (both (and_faults inner.faults) (controlled p control cases (ended_in inner)) (faults_keep inner.faults)
      (controlled_keeps p control cases (ended_in inner) (all_distinct (map at_rest inner.skips) inner.going d)))
      (states_keep (quit_in inner)))
      (few_keeps p.line p.word)

  pub loop_same : (w : Walk) → w.over ≡ false → inner.over ≡ false → after_rounds p control cases inner w ≡ inside w
  loop_same w e k = ap (λ b. if b then w else rest_of w) e ∙ ap (λ b. if b then over_too (and_faults inner.faults w) else inside w) k

  over_not : (w : Walk) → IsClean (over_too w) → ⊥
  over_not w h = true≢false h.goes_on

  pub loop_open : (w : Walk) → IsClean (after_rounds p control cases inner w) → (w.over ≡ false) × (inner.over ≡ false) × IsClean (inside w)
  loop_open w h =
      ⊎_elim
      (λ (e : w.over ≡ true). let k : IsClean w = subst IsClean (ap (λ b. if b then w else rest_of w) e) h in absurd (true≢false (sym e ∙ k.goes_on)))
      (λ (e : w.over ≡ false).
      let k : IsClean (rest_of w) = subst IsClean (ap (λ b. if b then w else rest_of w) e) h in
      ⊎_elim
      (λ (f : inner.over ≡ true). absurd (over_not (and_faults inner.faults w) (subst IsClean (ap (λ b. if b then over_too (and_faults inner.faults w) else inside w) f) k)))
      (λ (f : inner.over ≡ false). (e, f, subst IsClean (ap (λ b. if b then over_too (and_faults inner.faults w) else inside w) f) k))
      (cases_Bool inner.over))
      (cases_Bool w.over)

  loop_apart : (w : Walk) → StatesDiffer w.going → StatesDiffer (after_rounds p control cases inner w).going
  loop_apart w k =
      ⊎_elim (λ (e : w.over ≡ true). subst (λ (z : Walk). StatesDiffer z.going) (sym (ap (λ b. if b then w else rest_of w) e)) k)
      (λ (e : w.over ≡ false).
      subst (λ (z : Walk). StatesDiffer z.going) (sym (ap (λ b. if b then w else rest_of w) e))
      (⊎_elim (λ (f : inner.over ≡ true). subst (λ (z : Walk). StatesDiffer z.going) (sym (ap (λ b. if b then over_too (and_faults inner.faults w) else inside w) f)) tt)
      (λ (f : inner.over ≡ false). subst (λ (z : Walk). StatesDiffer z.going) (sym (ap (λ b. if b then over_too (and_faults inner.faults w) else inside w) f)) (inside_keeps.apart w k))
      (cases_Bool inner.over)))
      (cases_Bool w.over)

  loop_tells : (w : Walk) → Tells w → Tells (after_rounds p control cases inner w)
  loop_tells w t =
      ⊎_elim (λ (e : w.over ≡ true). subst Tells (sym (ap (λ b. if b then w else rest_of w) e)) t)
      (λ (e : w.over ≡ false).
      subst Tells (sym (ap (λ b. if b then w else rest_of w) e))
      (⊎_elim (λ (f : inner.over ≡ true). subst Tells (sym (ap (λ b. if b then over_too (and_faults inner.faults w) else inside w) f)) (λ o h. told f (no_second w.faults inner.faults h)))
      (λ (f : inner.over ≡ false). subst Tells (sym (ap (λ b. if b then over_too (and_faults inner.faults w) else inside w) f)) (inside_keeps.tells w t))
      (cases_Bool inner.over)))
      (cases_Bool w.over)

  pub rounds_keep : Keeps (after_rounds p control cases inner)
  rounds_keep = record {
    adds = λ w. added_if w.over w w (rest_of w) (record { skips = λ c h. h; quits = λ q h. h })
        (added_if inner.over w (over_too (and_faults inner.faults w)) (inside w) (record { skips = λ c h. h; quits = λ q h. h }) (inside_keeps.adds w));
    back = λ w h. let o = loop_open w h in inside_keeps.back w o.2;
    apart = loop_apart;
    tells = loop_tells;
    part = λ v w i h.
        let o = loop_open w h in
        let a = loop_same v i.clean.goes_on o.1 in
        let b = loop_same w o.0 o.1 in
        subst (λ z. IsPart z (after_rounds p control cases inner w)) (sym a)
        (subst (IsPart (inside v)) (sym b) (inside_keeps.part v w i o.2));
  }

-- the commands of a line
pub one_keeps : (p : Spot) (c : CommandTree) → Keeps (λ w. one_command p w c)
one_keeps p (Does column condition action) = command_keeps (at_word p column) condition action

pub commands_keep : (p : Spot) → ListsEachOnce p.scope → (cs : CommandTrees) → Keeps (commands p cs)
commands_keep p once finished = stays
commands_keep p once (then_command c rest) = both (λ w. one_command p w c) (commands p rest) (one_keeps p c) (commands_keep p once rest)
commands_keep p once (then_for column index control rest) =
    rounds_keep (at_word p column) control (listed p.scope p.line index) (commands p rest (begin (listed p.scope p.line index)))
    ((commands_keep p once rest).apart (begin (listed p.scope p.line index)) (once p.line index))
    ((commands_keep p once rest).tells (begin (listed p.scope p.line index)) (λ e h. false≢true e))

pub fewer_cases : FewerCases
fewer_cases p cs once v w i h = (commands_keep p once cs).part v w i h

-- one of the cases by itself
pub from_one : (s t : State) (ss : List State) → Among s ss → Among t (s ∷ []) → Among t ss
from_one s t ss h (inl e) = subst (λ z. Among z ss) (sym e) h
from_one s t ss h (inr r) = absurd r

pub one_part : (cases : List Case) (c : Case) → Among c cases → IsPart (begin (c ∷ [])) (begin cases)
one_part cases c h = record {
  clean = record { faultless = refl; goes_on = refl };
  going = λ s r. from_one (at_rest c) s (map at_rest cases) (in_map at_rest c cases h) r;
  skips = λ d r. r;
  quits = λ q r. r;
  distinct = ((λ r. r), tt);
}

pub each_alone : EachAlone
each_alone p cs once cases c h k = fewer_cases p cs once (begin (c ∷ [])) (begin cases) (one_part cases c h) k
