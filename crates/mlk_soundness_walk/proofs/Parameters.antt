-- FOR with parameters: a value, a start and a step, and these with a limit.
use Rattle.std.proofs.Common.{◌≡◌, ◌≤◌, ℕ, zero, suc, Bool, true, false, List, [], ◌∷◌, ◌++◌, drop, reverse, Some, None, Ok, refl, sym, ap, ◌∙◌, subst, arith, ⊎_elim, inl}
use Rattle.std.specs.Prelude.{if◌then◌else◌, flat_map}
use Rattle.std.proofs.lemmas.Bool.{cases_Bool}
use Rattle.mlk_text.specs.declared.code.Code.TheVariants.{CaseNotListed}
use Rattle.mlk_names.specs.Lists.{Among}
use Rattle.mlk_syntax.specs.ExprTrees.{Tree}
use Rattle.mlk_syntax.specs.Trees.{RoutineTree, CommandTrees, LineTrees, ParameterTree, Once, Endless, Limited}
use Rattle.mlk_cert_parts.specs.declared.case.Case.{Case}
use Rattle.mlk_cert_parts.specs.declared.names.NameSet.TheVariants.{Only}
use Rattle.mlk_machine_jobs.specs.Tasks as task
use Rattle.mlk_machine_jobs.specs.Tasks.{Task, Job, RunCommands, Parameters, NextValue, FirstRound, LaterRound, LineTree}
use Rattle.mlk_machine_jobs.specs.Choices.{doing, dropped}
use Rattle.mlk_machine_jobs.specs.Lines.{is_round, first_round, later_round}
use Rattle.mlk_walk_state.specs.declared.state.State.{State}
use Rattle.mlk_walk_state.specs.States.{at_rest}
use Rattle.mlk_walk_state.specs.Cases.{is_listed}
use Rattle.mlk_calls.specs.Changes.{changed_state}
use Rattle.mlk_walk_exprs.specs.declared.walk.Walk.{Walk}
use Rattle.mlk_walk_exprs.specs.declared.walk.Quit.{Quit}
use Rattle.mlk_walk_exprs.specs.Walks.{Outcome, Goes, Refused, each}
use Rattle.mlk_walk_exprs.specs.Spots.{Spot}
use Rattle.mlk_walk_exprs.specs.Expressions.{value}
use Rattle.mlk_walk_commands.specs.Variables.{change_at}
use Rattle.mlk_walk_lines.specs.Loops.{Rounds, begin_round, round_or_after, after_round, parameter, parameters}
use Rattle.mlk_walk_laws.specs.Fewer.{StatesDiffer, IsClean}
use Rattle.mlk_walk_laws.proofs.Lists.{all_old, all_new}
use Rattle.mlk_walk_laws.proofs.Transfers.{Keeps, both, each_keeps}
use Rattle.mlk_walk_laws.proofs.Counts.{joined_clean, joined_same}
use Rattle.mlk_walk_laws.proofs.Walks.{value_keeps}
use Rattle.mlk_walk_laws.proofs.Rounds.{round_clean, round_same, parameter_keeps, parameters_keep}
use Rattle.mlk_soundness_machine.specs.Reads.{now}
use Rattle.mlk_soundness_machine.specs.Places.{round_of, alone}
use Rattle.mlk_soundness_machine.specs.Described.{World, Level, Slot, Bare, IsWorld, idle, Describes}
use Rattle.mlk_soundness_machine.proofs.Worlds.{drop_law}
use Rattle.mlk_soundness_machine.proofs.Steps.{Comes, done, unasked, of_truth}
use Rattle.mlk_soundness_machine.proofs.Going.{down, less}
use Rattle.mlk_soundness_machine.proofs.Facts.{plain_facts}
use Rattle.mlk_soundness_machine.proofs.Changes.{Allowed, store_any, store_last}
use Rattle.mlk_soundness_machine.proofs.Unused.{first_value}
use Rattle.mlk_soundness_machine.proofs.Values.{Safe, Fits, FitsValue, plain_step}
use Rattle.mlk_program.specs.Calls.{in_tree, in_parameter}
use Rattle.mlk_soundness_walk.specs.Ours.{AreOurs}
use Rattle.mlk_soundness_walk.proofs.Ours.{ours_left, ours_right}
use Rattle.mlk_soundness_walk.proofs.Alone.{Leads}
use Rattle.mlk_soundness_walk.proofs.Alone.{alone_part, Meets, leads_both, leads_each, leads_part, leads_stay}
use Rattle.mlk_soundness_walk.proofs.Lines.{listed_for, less_law}
use Rattle.mlk_soundness_walk.proofs.Commands.{changed_goes}

abbrev pub Some_state : State → Type 0
Some_state s = Unit {0}

abbrev pub Some_case : Case → Type 0
Some_case c = Unit {0}

abbrev pub Some_quit : Quit → Type 0
Some_quit q = Unit {0}

-- only that nothing is wrong
only_clean : (F : Walk → Walk) (s : State) → IsClean (F (alone s)) → Leads F s Some_state Some_case Some_quit
only_clean F s h = record { clean = h; going = λ t i. tt; skips = λ c i. tt; quits = λ q i. tt }

begun : (p : Spot) (cases : List Case) (s : State) → ((o : Outcome) → Among o (begin_round p cases s) → Meets Some_state Some_case Some_quit o) → is_listed cases s.case ≡ true
begun p cases s h =
    ⊎_elim (λ (e : is_listed cases s.case ≡ true). e)
    (λ (e : is_listed cases s.case ≡ false).
    absurd (h (Refused p.line p.word CaseNotListed) (subst (λ b. Among (Refused p.line p.word CaseNotListed) (if b then [] else Refused p.line p.word CaseNotListed ∷ [])) (sym e) (inl refl))))
    (cases_Bool (is_listed cases s.case))

or_after : (p : Spot) (cases : List Case) (s : State) (G : State → Type 0) → ((o : Outcome) → Among o (round_or_after p cases s) → Meets G Some_case Some_quit o) → (is_listed cases s.case ≡ true) × G s
or_after p cases s G h =
    ⊎_elim
    (λ (e : is_listed cases s.case ≡ true).
    (e, h (Goes s) (subst (λ b. Among (Goes s) (if b then Goes s ∷ [] else Refused p.line p.word CaseNotListed ∷ [])) (sym e) (inl refl))))
    (λ (e : is_listed cases s.case ≡ false).
    absurd (h (Refused p.line p.word CaseNotListed) (subst (λ b. Among (Refused p.line p.word CaseNotListed) (if b then Goes s ∷ [] else Refused p.line p.word CaseNotListed ∷ [])) (sym e) (inl refl))))
    (cases_Bool (is_listed cases s.case))

module _ (routines : List RoutineTree) (p : Spot) (w : World) (b : Level) (world : IsWorld p.scope w) (column : ℕ) (name : List ℕ) (cases : List Case) (ended : List State) (apart : StatesDiffer ended)
    (rest : CommandTrees) (here : LineTree) (ts : List Task) (n : ℕ)
    (evaluate : (m : ℕ) → m ≤ n → (t : Tree) → AreOurs p.scope (in_tree t) → (slots : List Slot) (us : List Task) (s : State) (A : State → Type 0) → Leads (value p t) s A Some_case Some_quit
    → ((u : State) → A u → FitsValue routines p.scope w b t slots m us u) → Fits routines p.scope w b slots m (task.Evaluate t ∷ us) s) where
  abbrev At : ℕ → List Task → State → Type 0
  At m us s = Fits routines p.scope w b [] m us s

  abbrev pub rounds : Rounds
  rounds = record { column = column; variable = Only name; cases = cases; ended = ended }

  abbrev row : State → List Outcome
  row = change_at p column (Only name)

  abbrev again : Walk → Walk
  again v = each (begin_round p cases) (each row v)

  again_keeps : Keeps again
  again_keeps = both (each row) (each (begin_round p cases)) (each_keeps row) (each_keeps (begin_round p cases))

  -- the variable may change, and a round begins
  starts : (u : State) → Leads again u Some_state Some_case Some_quit → Allowed p.scope (Only name ∷ []) u × (is_listed cases (changed_state (Only name ∷ []) u).case ≡ true)
  starts u l =
      let r = changed_goes p (λ x. Leads (each (begin_round p cases)) x Some_state Some_case Some_quit) Some_case Some_quit column (Only name ∷ []) u
      (leads_each (λ x. Leads (each (begin_round p cases)) x Some_state Some_case Some_quit) Some_case Some_quit row u
      (leads_both Some_state Some_case Some_quit (each row) (each (begin_round p cases)) (each_keeps row) (each_keeps (begin_round p cases)) u l)) in
      (r.0, begun p cases (changed_state (Only name ∷ []) u) (leads_each Some_state Some_case Some_quit (begin_round p cases) (changed_state (Only name ∷ []) u) r.1))

  module _ (quits : List State)
      (round : (m : ℕ) → m ≤ n → (c : Case) → Among c cases → (K : Task) → is_round K ≡ true → round_of K ≡ Some rest → ((u : State) → Among u ended → At m (K ∷ ts) u) → ((u : State) → Among u quits → At m ts u)
      → At m (RunCommands rest here ∷ K ∷ ts) (at_rest c)) where
    fewer : (m : ℕ) (us : List Task) (s : State) → At (suc m) us s → At m us s
    fewer m us s f j d e = less routines p.scope w b m j (f j d e)

    -- a round, from a case that says more than a listed one
    enter : (m : ℕ) → m ≤ n → (K : Task) → is_round K ≡ true → round_of K ≡ Some rest → ((u : State) → Among u ended → At m (K ∷ ts) u) → ((u : State) → Among u quits → At m ts u)
        → (u : State) → is_listed cases u.case ≡ true → At m (RunCommands rest here ∷ K ∷ ts) u
    enter m le K is runs go out u h j d e =
        let r = listed_for cases u.case h in
        round m le r.0 r.1 K is runs go out j (less_law p.scope w b u.case r.0 r.2 u refl (idle j) d) e

    abbrev Out : ℕ → Type 0
    Out m = (u : State) → Among u quits → At m ts u

    -- each further value, without a limit and with one
    next_fits : ((u : State) → Among u ended → Leads again u Some_state Some_case Some_quit) → (m : ℕ) → m ≤ n → Out m → (u : State) → Among u ended → At m (NextValue name rest here ∷ ts) u
    next_fits l zero le out u i j d e = plain_facts p.scope w b j (NextValue name rest here) ts e refl
    next_fits l (suc m) le out u i j d e =
        let le' : m ≤ n = omega (arith, le) in
        let out' : Out m = (λ v x. fewer m ts v (out v x)) in
        let a = starts u (l u i) in
        let to : List Task = task.StoreAny name ∷ RunCommands rest here ∷ NextValue name rest here ∷ ts in
        down routines p.scope w b m j (NextValue name rest here) ts e refl (plain_facts p.scope w b j (NextValue name rest here) ts e refl) (λ free c.
        unasked (Safe routines p.scope w b m) c _ (done (Safe routines p.scope w b m) (doing to j)
        (store_any routines p.scope w b world [] m (RunCommands rest here ∷ NextValue name rest here ∷ ts) u name a.0
        (enter m le' (NextValue name rest here) refl refl (λ v x. next_fits l m le' out' v x) out' (changed_state (Only name ∷ []) u) a.1) (doing to j) d refl)))

    later_fits : (qs : List ParameterTree) → ((u : State) → Among u ended → Leads again u Some_state Some_case Some_quit)
        → (m : ℕ) → m ≤ n → ((k : ℕ) → k ≤ m → (u : State) → Among u ended → At k (Parameters name qs rest here ∷ ts) u) → Out m → (u : State) → Among u ended → At m (LaterRound name qs rest here ∷ ts) u
    later_fits qs l zero le more out u i j d e = plain_facts p.scope w b j (LaterRound name qs rest here) ts e refl
    later_fits qs l (suc m) le more out u i j d e =
        let le' : m ≤ n = omega (arith, le) in
        let out' : Out m = (λ v x. fewer m ts v (out v x)) in
        let more' : (k : ℕ) → k ≤ m → (v : State) → Among v ended → At k (Parameters name qs rest here ∷ ts) v = (λ k lt. more k (omega (arith, lt))) in
        let a = starts u (l u i) in
        let deeper : At m (RunCommands rest here ∷ LaterRound name qs rest here ∷ ts) (changed_state (Only name ∷ []) u) =
        (enter m le' (LaterRound name qs rest here) refl refl (λ v x. later_fits qs l m le' more' out' v x) out' (changed_state (Only name ∷ []) u) a.1) in
        down routines p.scope w b m j (LaterRound name qs rest here) ts e refl (plain_facts p.scope w b j (LaterRound name qs rest here) ts e refl) (λ free c.
        of_truth (Safe routines p.scope w b m) c (λ t. Ok (doing (later_round name qs rest here t ++ ts) j)) (way a.0 deeper (more' m (omega arith) u i)))
      where
        way : Allowed p.scope (Only name ∷ []) u → At m (RunCommands rest here ∷ LaterRound name qs rest here ∷ ts) (changed_state (Only name ∷ []) u) → At m (Parameters name qs rest here ∷ ts) u
            → (t : Bool) → Comes (Safe routines p.scope w b m) (Ok (doing (later_round name qs rest here t ++ ts) j))
        way a deeper other true = done (Safe routines p.scope w b m) (doing (task.StoreAny name ∷ RunCommands rest here ∷ LaterRound name qs rest here ∷ ts) j)
            (store_any routines p.scope w b world [] m (RunCommands rest here ∷ LaterRound name qs rest here ∷ ts) u name a deeper (doing (task.StoreAny name ∷ RunCommands rest here ∷ LaterRound name qs rest here ∷ ts) j) d refl)
        way a deeper other false = done (Safe routines p.scope w b m) (doing (Parameters name qs rest here ∷ ts) j) (other (doing (Parameters name qs rest here ∷ ts) j) d refl)

    -- what a first value and its round require
    firsts : (t : Tree) → AreOurs p.scope (in_tree t) → (s : State) → Leads (λ v. again (value p t v)) s Some_state Some_case Some_quit → (m : ℕ) → m ≤ n → (K : Task) → is_round K ≡ true → round_of K ≡ Some rest
        → ((u : State) → Among u ended → At m (K ∷ ts) u) → Out m → At m (task.Evaluate t ∷ task.StoreLast name ∷ RunCommands rest here ∷ K ∷ ts) s
    firsts t ours s l m le K is runs go out =
        evaluate m le t ours [] (task.StoreLast name ∷ RunCommands rest here ∷ K ∷ ts) s (λ u. Leads again u Some_state Some_case Some_quit)
        (leads_both Some_state Some_case Some_quit (value p t) again (value_keeps p t) again_keeps s l)
        (λ u q j v more d e knows tasks.
        let a = starts u q in
        store_last routines p.scope w b world [] m (RunCommands rest here ∷ K ∷ ts) u name a.0
        (enter m le K is runs go out (changed_state (Only name ∷ []) u) a.1) j v more d e tasks)

    -- where a round ended, the variable may change and another round begins
    from_ended : (v : Walk) → IsClean v → IsClean (again (after_round ended v)) → (u : State) → Among u ended → Leads again u Some_state Some_case Some_quit
    from_ended v clean h u i =
        let ends = again_keeps.back (after_round ended v) h in
        leads_part again again_keeps u (after_round ended v) (alone_part u (after_round ended v) ends (subst (λ (z : Walk). Among u z.going) (sym (round_same ended v clean.goes_on)) i)) h
        Some_state Some_case Some_quit (λ t x. tt) (λ t x. tt) (λ t x. tt)

    drop_first : (slots : List Slot) (u : State) (j : Job) → Describes p.scope w b (Bare None ∷ slots) u (idle j) → Describes p.scope w b slots u (idle (dropped 1 j))
    drop_first slots u j d =
        let f = first_value (now j) slots (reverse u.captured) j.values w.values d.values in
        subst (λ z. Describes p.scope w b slots u (record (idle j) { values = z })) (sym (ap (drop 1) f.2)) (drop_law p.scope w b None slots u (idle j) d f.0 f.1 f.2)

    drop_two : (slots : List Slot) (u : State) (j : Job) → Describes p.scope w b (Bare None ∷ Bare None ∷ slots) u (idle j) → Describes p.scope w b slots u (idle (dropped 2 j))
    drop_two slots u j d =
        let f = first_value (now j) (Bare None ∷ slots) (reverse u.captured) j.values w.values d.values in
        let k = drop_law p.scope w b None (Bare None ∷ slots) u (idle j) d f.0 f.1 f.2 in
        let g = first_value (now j) slots (reverse u.captured) f.1 w.values k.values in
        let l = drop_law p.scope w b None slots u (record (idle j) { values = f.1 }) k g.0 g.1 g.2 in
        subst (λ z. Describes p.scope w b slots u (record (idle j) { values = z })) (sym (ap (drop 2) f.2 ∙ ap (drop 1) g.2)) l

    store_then : (m : ℕ) (us : List Task) (u : State) → Allowed p.scope (Only name ∷ []) u → At m us (changed_state (Only name ∷ []) u)
        → (j : Job) → Describes p.scope w b (Bare None ∷ []) u (idle j) → j.tasks ≡ task.StoreLast name ∷ us → Safe routines p.scope w b m j
    store_then m us u a k j d e =
        let f = first_value (now j) [] (reverse u.captured) j.values w.values d.values in
        store_last routines p.scope w b world [] m us u name a k j f.0 f.1 d f.2 e

    first_fits : (m : ℕ) (qs : List ParameterTree) (u : State) → At m (RunCommands rest here ∷ LaterRound name qs rest here ∷ ts) u → At m (Parameters name qs rest here ∷ ts) u
        → At m (FirstRound name qs rest here ∷ ts) u
    first_fits m qs u yes' other j d e =
        plain_step routines p.scope w b [] m ts u (FirstRound name qs rest here) refl j e (λ free c.
        of_truth (Safe routines p.scope w b m) c (λ t. Ok (doing (first_round name qs rest here t ++ ts) j)) way)
      where
        way : (t : Bool) → Comes (Safe routines p.scope w b m) (Ok (doing (first_round name qs rest here t ++ ts) j))
        way true = done (Safe routines p.scope w b m) (doing (RunCommands rest here ∷ LaterRound name qs rest here ∷ ts) j) (yes' (doing (RunCommands rest here ∷ LaterRound name qs rest here ∷ ts) j) d refl)
        way false = done (Safe routines p.scope w b m) (doing (Parameters name qs rest here ∷ ts) j) (other (doing (Parameters name qs rest here ∷ ts) j) d refl)

    -- the parameters from these on
    pub parameters_fit : (qs : List ParameterTree) → AreOurs p.scope (flat_map in_parameter qs) → (m : ℕ) → m ≤ n → (s : State) (A : State → Type 0) → Leads (parameters p rounds qs) s A Some_case Some_quit
        → ((k : ℕ) → k ≤ m → (u : State) → A u → At k ts u) → ((k : ℕ) → k ≤ m → Out k) → At m (Parameters name qs rest here ∷ ts) s
    parameters_fit [] ours m le s A l go out j d e =
        plain_step routines p.scope w b [] m ts s (Parameters name [] rest here) refl j e (λ free c.
        unasked (Safe routines p.scope w b m) c _ (done (Safe routines p.scope w b m) (doing ts j) (go m (omega arith) s (leads_stay A Some_case Some_quit s l) (doing ts j) d refl)))
    parameters_fit (Once t ∷ qs) ours m le s A l go out j d e =
        let first : Walk → Walk = λ v. again (value p t v) in
        let whole = leads_both A Some_case Some_quit (λ v. parameter p rounds v (Once t)) (parameters p rounds qs) (parameter_keeps p rounds apart (Once t)) (parameters_keep p rounds apart qs) s l in
        let clean = round_clean ended (first (alone s)) whole.clean in
        let after : (u : State) → Among u ended → Leads (parameters p rounds qs) u A Some_case Some_quit =
        (λ u i. whole.going u (subst (λ (v : Walk). Among u v.going) (sym (round_same ended (first (alone s)) clean.goes_on)) i)) in
        let to : List Task = task.Evaluate t ∷ task.StoreLast name ∷ RunCommands rest here ∷ Parameters name qs rest here ∷ ts in
        plain_step routines p.scope w b [] m ts s (Parameters name (Once t ∷ qs) rest here) refl j e (λ free c.
        unasked (Safe routines p.scope w b m) c _ (done (Safe routines p.scope w b m) (doing to j)
        (firsts t (ours_left p.scope (in_tree t) (flat_map in_parameter qs) ours) s (only_clean first s clean) m le (Parameters name qs rest here) refl refl
        (λ u i. parameters_fit qs (ours_right p.scope (in_tree t) (flat_map in_parameter qs) ours) m le u A (after u i) go out) (out m (omega arith)) (doing to j) d refl)))
    parameters_fit (Endless start by ∷ qs) ours m le s A l go out j d e =
        let these = ours_left p.scope (in_tree start ++ in_tree by) (flat_map in_parameter qs) ours in
        let first : Walk → Walk = λ v. again (value p by (value p start v)) in
        let whole = leads_both A Some_case Some_quit (λ v. parameter p rounds v (Endless start by)) (parameters p rounds qs) (parameter_keeps p rounds apart (Endless start by)) (parameters_keep p rounds apart qs) s l in
        let ends = again_keeps.back (after_round ended (first (alone s))) whole.clean in
        let clean = round_clean ended (first (alone s)) ends in
        let more : (u : State) → Among u ended → Leads again u Some_state Some_case Some_quit = (λ u i. from_ended (first (alone s)) clean whole.clean u i) in
        let K : Task = NextValue name rest here in
        let us : List Task = RunCommands rest here ∷ K ∷ ts in
        let to : List Task = task.Evaluate start ∷ task.Evaluate by ∷ task.Drop 1 ∷ task.StoreLast name ∷ us in
        plain_step routines p.scope w b [] m ts s (Parameters name (Endless start by ∷ qs) rest here) refl j e (λ free c.
        unasked (Safe routines p.scope w b m) c _ (done (Safe routines p.scope w b m) (doing to j)
        (evaluate m le start (ours_left p.scope (in_tree start) (in_tree by) these) [] (task.Evaluate by ∷ task.Drop 1 ∷ task.StoreLast name ∷ us) s (λ u. Leads (λ v. again (value p by v)) u Some_state Some_case Some_quit)
        (leads_both Some_state Some_case Some_quit (value p start) (λ v. again (value p by v)) (value_keeps p start) (both (value p by) again (value_keeps p by) again_keeps) s (only_clean first s clean))
        (λ u q i v others f x knows tasks.
        evaluate m le by (ours_right p.scope (in_tree start) (in_tree by) these) (Bare None ∷ []) (task.Drop 1 ∷ task.StoreLast name ∷ us) u (λ y. Leads again y Some_state Some_case Some_quit)
        (leads_both Some_state Some_case Some_quit (value p by) again (value_keeps p by) again_keeps u q)
        (λ y r i' v' others' f' x' knows' tasks'.
        let a = starts y r in
        plain_step routines p.scope w b [] m (task.StoreLast name ∷ us) y (task.Drop 1) refl i' tasks' (λ free' c'.
        unasked (Safe routines p.scope w b m) c' _ (done (Safe routines p.scope w b m) (doing (task.StoreLast name ∷ us) (dropped 1 i'))
        (store_then m us y a.0 (enter m le K refl refl (λ z g. next_fits more m le (out m (omega arith)) z g) (out m (omega arith)) (changed_state (Only name ∷ []) y) a.1)
        (doing (task.StoreLast name ∷ us) (dropped 1 i')) (drop_first (Bare None ∷ []) y i' f') refl))))
        i f tasks)
        (doing to j) d refl)))
    parameters_fit (Limited start by most ∷ qs) ours m le s A l go out j d e =
        let these = ours_left p.scope (in_tree start ++ (in_tree by ++ in_tree most)) (flat_map in_parameter qs) ours in
        let later = ours_right p.scope (in_tree start) (in_tree by ++ in_tree most) these in
        let B : State → Type 0 = λ u. Leads (parameters p rounds qs) u A Some_case Some_quit in
        let last : Walk → Walk = λ v. each (round_or_after p cases) (each row v) in
        let first : Walk → Walk = λ v. last (value p most (value p by (value p start v))) in
        let whole = leads_both A Some_case Some_quit (λ v. parameter p rounds v (Limited start by most)) (parameters p rounds qs) (parameter_keeps p rounds apart (Limited start by most)) (parameters_keep p rounds apart qs) s l in
        let begun = first (alone s) in
        let rounds_end = after_round ended (again (after_round ended begun)) in
        let third = joined_clean begun.going rounds_end whole.clean in
        let second = round_clean ended (again (after_round ended begun)) third in
        let ends = again_keeps.back (after_round ended begun) second in
        let clean = round_clean ended begun ends in
        let same = joined_same begun.going rounds_end third.goes_on in
        let after_ended : (u : State) → Among u ended → B u =
        (λ u i. whole.going u (subst (λ (v : Walk). Among u v.going) (sym same) (all_new u rounds_end.going begun.going (subst (λ (v : Walk). Among u v.going) (sym (round_same ended (again (after_round ended begun)) second.goes_on)) i)))) in
        let after_begun : (u : State) → Among u begun.going → B u = (λ u i. whole.going u (subst (λ (v : Walk). Among u v.going) (sym same) (all_old u rounds_end.going begun.going i))) in
        let more : (u : State) → Among u ended → Leads again u Some_state Some_case Some_quit = (λ u i. from_ended begun clean second u i) in
        let lead : Leads first s B Some_case Some_quit = record { clean = clean; going = after_begun; skips = λ c i. tt; quits = λ q i. tt } in
        let last_keeps : Keeps last = both (each row) (each (round_or_after p cases)) (each_keeps row) (each_keeps (round_or_after p cases)) in
        let by_keeps : Keeps (λ v. last (value p most (value p by v))) = both (value p by) (λ v. last (value p most v)) (value_keeps p by) (both (value p most) last (value_keeps p most) last_keeps) in
        let us : List Task = FirstRound name qs rest here ∷ ts in
        let to : List Task = task.Evaluate start ∷ task.Evaluate by ∷ task.Evaluate most ∷ task.Drop 2 ∷ task.StoreLast name ∷ us in
        let others : (k : ℕ) → k ≤ m → (u : State) → B u → At k (Parameters name qs rest here ∷ ts) u =
        (λ k lt u h. parameters_fit qs (ours_right p.scope (in_tree start ++ (in_tree by ++ in_tree most)) (flat_map in_parameter qs) ours) k (omega (arith, lt, le)) u A h (λ i less. go i (omega (arith, less, lt))) (λ i less. out i (omega (arith, less, lt)))) in
        plain_step routines p.scope w b [] m ts s (Parameters name (Limited start by most ∷ qs) rest here) refl j e (λ free c.
        unasked (Safe routines p.scope w b m) c _ (done (Safe routines p.scope w b m) (doing to j)
        (evaluate m le start (ours_left p.scope (in_tree start) (in_tree by ++ in_tree most) these) [] (task.Evaluate by ∷ task.Evaluate most ∷ task.Drop 2 ∷ task.StoreLast name ∷ us) s (λ u. Leads (λ v. last (value p most (value p by v))) u B Some_case Some_quit)
        (leads_both B Some_case Some_quit (value p start) (λ v. last (value p most (value p by v))) (value_keeps p start) by_keeps s lead)
        (λ u q i v o f x knows tasks.
        evaluate m le by (ours_left p.scope (in_tree by) (in_tree most) later) (Bare None ∷ []) (task.Evaluate most ∷ task.Drop 2 ∷ task.StoreLast name ∷ us) u (λ y. Leads (λ v. last (value p most v)) y B Some_case Some_quit)
        (leads_both B Some_case Some_quit (value p by) (λ v. last (value p most v)) (value_keeps p by) (both (value p most) last (value_keeps p most) last_keeps) u q)
        (λ u2 q2 i2 v2 o2 f2 x2 knows2 tasks2.
        evaluate m le most (ours_right p.scope (in_tree by) (in_tree most) later) (Bare None ∷ Bare None ∷ []) (task.Drop 2 ∷ task.StoreLast name ∷ us) u2 (λ y. Leads last y B Some_case Some_quit)
        (leads_both B Some_case Some_quit (value p most) last (value_keeps p most) last_keeps u2 q2)
        (λ y r i' v' o' f' x' knows' tasks'.
        let ch = changed_goes p (λ z. Leads (each (round_or_after p cases)) z B Some_case Some_quit) Some_case Some_quit column (Only name ∷ []) y
        (leads_each (λ z. Leads (each (round_or_after p cases)) z B Some_case Some_quit) Some_case Some_quit row y
        (leads_both B Some_case Some_quit (each row) (each (round_or_after p cases)) (each_keeps row) (each_keeps (round_or_after p cases)) y r)) in
        let li = or_after p cases (changed_state (Only name ∷ []) y) B (leads_each B Some_case Some_quit (round_or_after p cases) (changed_state (Only name ∷ []) y) ch.1) in
        plain_step routines p.scope w b [] m (task.StoreLast name ∷ us) y (task.Drop 2) refl i' tasks' (λ free' c'.
        unasked (Safe routines p.scope w b m) c' _ (done (Safe routines p.scope w b m) (doing (task.StoreLast name ∷ us) (dropped 2 i'))
        (store_then m us y ch.0
        (first_fits m qs (changed_state (Only name ∷ []) y)
        (enter m le (LaterRound name qs rest here) refl refl (λ z g. later_fits qs more m le (λ k lt h g'. others k lt h (after_ended h g')) (out m (omega arith)) z g) (out m (omega arith)) (changed_state (Only name ∷ []) y) li.0)
        (others m (omega arith) (changed_state (Only name ∷ []) y) li.1))
        (doing (task.StoreLast name ∷ us) (dropped 2 i')) (drop_two (Bare None ∷ []) y i' f') refl))))
        i2 f2 tasks2)
        i f tasks)
        (doing to j) d refl)))
