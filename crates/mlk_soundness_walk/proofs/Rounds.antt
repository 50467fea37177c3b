-- FOR without an argument: each round begins in a case that is listed for it.
use Rattle.std.proofs.Common.{◌≡◌, ◌≤◌, ℕ, zero, suc, true, false, List, [], ◌∷◌, map, None, refl, sym, ◌∙◌, subst, arith, ⊎_elim, inl}
use Rattle.std.specs.Prelude.{if◌then◌else◌, flat_map}
use Rattle.std.proofs.lemmas.Bool.{cases_Bool, false≢true}
use Rattle.mlk_names.specs.Lists.{Among}
use Rattle.mlk_syntax.specs.Trees.{RoutineTree, CommandTrees, then_for, LineTrees}
use Rattle.mlk_cert_parts.specs.declared.case.Case.{Case}
use Rattle.mlk_machine_jobs.specs.Tasks.{Task, RunCommands, Forever, LineTree}
use Rattle.mlk_text.specs.declared.code.Code.TheVariants.{CaseNotListed}
use Rattle.mlk_machine_jobs.specs.Choices.{doing}
use Rattle.mlk_walk_state.specs.declared.state.State.{State}
use Rattle.mlk_walk_state.specs.States.{at_rest}
use Rattle.mlk_walk_state.specs.Scope.{listed}
use Rattle.mlk_walk_state.specs.Cases.{is_listed}
use Rattle.mlk_walk_exprs.specs.declared.walk.Walk.{Walk}
use Rattle.mlk_walk_exprs.specs.declared.walk.Quit.{Quit}
use Rattle.mlk_walk_exprs.specs.Walks.{Refused, each, with_states, begin, few}
use Rattle.mlk_walk_exprs.specs.Spots.{Spot}
use Rattle.mlk_walk_lines.specs.Loops.{begin_round, after_round, controlled, and_faults, ended_in, quit_in, and_states, at_word, commands}
use Rattle.mlk_walk_laws.specs.Fewer.{StatesDiffer, IsClean, ListsEachOnce}
use Rattle.mlk_walk_laws.proofs.Lists.{in_map, in_flat, all_new, all_old}
use Rattle.mlk_walk_laws.proofs.Transfers.{Tells, each_keeps, all_back}
use Rattle.mlk_walk_laws.proofs.Counts.{few_clean, few_same}
use Rattle.mlk_walk_laws.proofs.Rounds.{commands_keep, each_alone, round_clean, round_same, states_clean, states_same, loop_open, loop_same}
use Rattle.mlk_soundness_machine.specs.Described.{World, Level, idle}
use Rattle.mlk_soundness_machine.proofs.Steps.{done, unasked}
use Rattle.mlk_soundness_machine.proofs.Going.{down, less}
use Rattle.mlk_soundness_machine.proofs.Facts.{plain_facts}
use Rattle.mlk_soundness_machine.proofs.Values.{Safe, Fits}
use Rattle.mlk_soundness_machine.specs.Places.{alone}
use Rattle.mlk_soundness_walk.proofs.Alone.{Leads}
use Rattle.mlk_soundness_walk.proofs.Lines.{listed_for, less_law}

-- the rounds of a FOR: the walk from all that is listed for them is clean, and leads to the states with which the loop continues
pub record RoundsLead (p : Spot) (index : ℕ) (rest : CommandTrees) : Type 0 where
  pub cases : List Case
  pub are : cases ≡ listed p.scope p.line index
  pub ended : List State
  pub quits : List State
  pub round : (c : Case) → Among c cases → Leads (commands p rest) (at_rest c) (λ u. Among u ended) (λ d. Among (at_rest d) ended) (λ q. Among (at_rest q.case) quits)

module _ (p : Spot) (column index : ℕ) (rest : CommandTrees) (once : ListsEachOnce p.scope) (s : State) (A : State → Type 0) (S : Case → Type 0) (Q : Quit → Type 0)
    (l : Leads (commands p (then_for column index None rest)) s A S Q) where
  abbrev cs : List Case
  cs = listed p.scope p.line index

  abbrev inner : Walk
  inner = commands p rest (begin (listed p.scope p.line index))

  distinct : StatesDiffer inner.going
  distinct = (commands_keep p once rest).apart (begin cs) (once p.line index)

  tells : Tells inner
  tells = (commands_keep p once rest).tells (begin cs) (λ e h. false≢true e)

  abbrev run : Walk → Walk
  run w = controlled (at_word p column) None cs (ended_in inner) (and_faults inner.faults w)

  opened : (false ≡ false) × (inner.over ≡ false) × IsClean (few p.line column (and_states (quit_in inner) (run (alone s))))
  opened = loop_open (at_word p column) None cs inner distinct tells (alone s) l.clean

  counted : IsClean (and_states (quit_in inner) (run (alone s)))
  counted = (few_clean p.line column (and_states (quit_in inner) (run (alone s))) opened.2).1

  controls : IsClean (run (alone s))
  controls = states_clean (quit_in inner) (run (alone s)) counted

  -- the first row, the rounds' ends, the second row
  second : IsClean (after_round (ended_in inner) (each (begin_round (at_word p column) cs) (and_faults inner.faults (alone s))))
  second = (each_keeps (begin_round (at_word p column) cs)).back (after_round (ended_in inner) (each (begin_round (at_word p column) cs) (and_faults inner.faults (alone s)))) controls

  first : IsClean (each (begin_round (at_word p column) cs) (and_faults inner.faults (alone s)))
  first = round_clean (ended_in inner) (each (begin_round (at_word p column) cs) (and_faults inner.faults (alone s))) second

  faulted : IsClean (and_faults inner.faults (alone s))
  faulted = (each_keeps (begin_round (at_word p column) cs)).back (and_faults inner.faults (alone s)) first

  clean : IsClean inner
  clean = record { faultless = faulted.faultless; goes_on = opened.1 }

  pub rounds_lead : RoundsLead p index rest
  rounds_lead = record {
    cases = cs;
    are = refl;
    ended = ended_in inner;
    quits = quit_in inner;
    round = λ c i.
        let q = each_alone p rest once cs c i clean in
        record {
          clean = q.clean;
          going = λ u r. all_old u (map at_rest inner.skips) inner.going (q.going u r);
          skips = λ d r. all_new (at_rest d) (map at_rest inner.skips) inner.going (in_map at_rest d inner.skips (q.skips d r));
          quits = λ x r. in_map (λ (z : Quit). at_rest z.case) x inner.quits (q.quits x r);
        };
  }

  -- a row that only checks whether a case is listed
  is_begun : (w : Walk) → IsClean (each (begin_round (at_word p column) cs) w) → (u : State) → Among u w.going → is_listed cs u.case ≡ true
  is_begun w h u i =
      let row = begin_round (at_word p column) cs in
      let none = (all_back (flat_map row w.going) (with_states [] w) h).1 in
      ⊎_elim (λ (e : is_listed cs u.case ≡ true). e)
      (λ (e : is_listed cs u.case ≡ false).
      absurd (none (Refused p.line column CaseNotListed)
      (in_flat row u (Refused p.line column CaseNotListed) w.going i
      (subst (λ b. Among (Refused p.line column CaseNotListed) (if b then [] else Refused p.line column CaseNotListed ∷ [])) (sym e) (inl refl)))))
      (cases_Bool (is_listed cs u.case))

  pub enters : is_listed cs s.case ≡ true
  enters = is_begun (and_faults inner.faults (alone s)) first s (inl refl)

  pub again : (u : State) → Among u (ended_in inner) → is_listed cs u.case ≡ true
  again u i =
      let e = round_same (ended_in inner) (each (begin_round (at_word p column) cs) (and_faults inner.faults (alone s))) first.goes_on in
      is_begun (after_round (ended_in inner) (each (begin_round (at_word p column) cs) (and_faults inner.faults (alone s)))) controls u (subst (λ (w : Walk). Among u w.going) (sym e) i)

  pub after_quits : (u : State) → Among u (quit_in inner) → A u
  after_quits u i =
      let a = loop_same (at_word p column) None cs inner distinct tells (alone s) refl opened.1 in
      let b = few_same p.line column (and_states (quit_in inner) (run (alone s))) (few_clean p.line column (and_states (quit_in inner) (run (alone s))) opened.2).0 in
      let c = states_same (quit_in inner) (run (alone s)) controls.goes_on in
      l.going u (subst (λ (w : Walk). Among u w.going) (sym (a ∙ b ∙ c)) (all_new u (quit_in inner) (run (alone s)).going i))

-- the machine: rounds without end, until one quits
module _ (routines : List RoutineTree) (w : World) (b : Level) (p : Spot) (rest : CommandTrees) (here : LineTree) (ts : List Task) (n : ℕ) where
  abbrev At : ℕ → List Task → State → Type 0
  At m us s = Fits routines p.scope w b [] m us s

  fewer : (m : ℕ) (us : List Task) (s : State) → At (suc m) us s → At m us s
  fewer m us s f j d e = less routines p.scope w b m j (f j d e)

  module _ (cs : List Case) (ended quits : List State)
      (round : (m : ℕ) → m ≤ n → (c : Case) → Among c cs → ((u : State) → Among u ended → At m (Forever rest here ∷ ts) u) → ((d : Case) → Among (at_rest d) ended → At m (Forever rest here ∷ ts) (at_rest d))
      → ((q : Quit) → Among (at_rest q.case) quits → At m ts (at_rest q.case)) → At m (RunCommands rest here ∷ Forever rest here ∷ ts) (at_rest c))
      (again : (u : State) → Among u ended → is_listed cs u.case ≡ true) where
    -- for each further number of steps
    pub forever_fits : (m : ℕ) → m ≤ n → ((u : State) → Among u quits → At m ts u) → (u : State) → is_listed cs u.case ≡ true → At m (Forever rest here ∷ ts) u
    forever_fits zero le out u h j d e = plain_facts p.scope w b j (Forever rest here) ts e refl
    forever_fits (suc m) le out u h j d e =
        let r = listed_for cs u.case h in
        let le' : m ≤ n = omega (arith, le) in
        let out' : (v : State) → Among v quits → At m ts v = (λ v i. fewer m ts v (out v i)) in
        down routines p.scope w b m j (Forever rest here) ts e refl (plain_facts p.scope w b j (Forever rest here) ts e refl) (λ free c.
        (unasked (Safe routines p.scope w b m) c _ (done (Safe routines p.scope w b m) (doing (RunCommands rest here ∷ Forever rest here ∷ ts) j)
        (round m le' r.0 r.1 (λ v i. forever_fits m le' out' v (again v i)) (λ x i. forever_fits m le' out' (at_rest x) (again (at_rest x) i)) (λ q i. out' (at_rest q.case) i)
        (doing (RunCommands rest here ∷ Forever rest here ∷ ts) j) (less_law p.scope w b u.case r.0 r.2 u refl (idle j) d) refl))))
