-- Arguments in turn, values that are not used, and postconditionals.
use Rattle.std.proofs.Common.{◌≡◌, ℕ, zero, suc, Bool, true, false, List, [], ◌∷◌, ◌++◌, take, drop, Option, Some, None, sym, ap, ◌∙◌, subst, append_assoc, refl}
use Rattle.std.specs.Prelude.{flat_map}
use Rattle.mlk_names.specs.Lists.{Among}
use Rattle.mlk_syntax.specs.ExprTrees.{Tree}
use Rattle.mlk_syntax.specs.Trees.{RoutineTree, ActionTree, CallTree}
use Rattle.mlk_program.specs.Calls.{in_tree, in_option}
use Rattle.mlk_cert_parts.specs.declared.case.Case.{Case}
use Rattle.mlk_machine_jobs.specs.Tasks as task
use Rattle.mlk_machine_jobs.specs.Tasks.{Task, Job}
use Rattle.mlk_names.specs.declared.lock_name.LockName.{LockName}
use Rattle.mlk_machine_jobs.specs.declared.choice.Choice.{Choice}
use Rattle.mlk_machine_jobs.specs.Advance.{advance}
use Rattle.mlk_numbers.specs.Operators.{truth_of_text}
use Rattle.mlk_machine_jobs.specs.Choices.{Stepped, by_truth, doing, dropped}
use Rattle.mlk_machine_jobs.specs.Commands as made
use Rattle.mlk_machine_jobs.specs.Commands.{evaluated, evaluated_if}
use Rattle.mlk_walk_state.specs.declared.state.State.{State}
use Rattle.mlk_walk_state.specs.Symbols.{truth_in}
use Rattle.mlk_walk_exprs.specs.declared.walk.Walk.{Walk}
use Rattle.mlk_walk_exprs.specs.declared.walk.Quit.{Quit}
use Rattle.mlk_walk_exprs.specs.Walks.{few}
use Rattle.mlk_walk_exprs.specs.Spots.{Spot}
use Rattle.mlk_walk_exprs.specs.Expressions.{agrees, by_condition, value, value_if}
use Rattle.mlk_walk_lines.specs.Commands.{turn, in_turn}
use Rattle.mlk_walk_laws.proofs.Counts.{few_keeps, few_same, few_clean, ways_keep}
use Rattle.mlk_walk_laws.proofs.Transfers.{Keeps, both}
use Rattle.mlk_walk_laws.proofs.Walks.{value_keeps, turns_keep}
use Rattle.mlk_soundness_machine.specs.Described.{World, Level, Slot, idle, Describes}
use Rattle.mlk_soundness_machine.proofs.Worlds.{drop_law}
use Rattle.mlk_soundness_machine.proofs.Steps.{Comes, done, unasked, of_last, of_known}
use Rattle.mlk_soundness_machine.proofs.Going.{Next, by_step, step}
use Rattle.mlk_soundness_machine.specs.Places.{alone, come_to}
use Rattle.mlk_soundness_machine.specs.Safe.{KeepsIn, is_plain}
use Rattle.mlk_soundness_machine.proofs.Facts.{plain_facts}
use Rattle.mlk_soundness_machine.proofs.Unused.{drop_fits}
use Rattle.mlk_soundness_machine.proofs.Values.{Safe, Fits, FitsValue}
use Rattle.mlk_soundness_walk.proofs.Alone.{Leads}
use Rattle.mlk_soundness_walk.proofs.Alone.{leads_both, leads_few, leads_stay, leads_there, leads_true, leads_false}
use Rattle.mlk_soundness_walk.proofs.Symbols.{truth_agrees}
use Rattle.mlk_soundness_walk.specs.Ours.{AreOurs}
use Rattle.mlk_soundness_walk.proofs.Ours.{ours_left, ours_right}

module _ (routines : List RoutineTree) (p : Spot) (w : World) (b : Level) (S : Case → Type 0) (Q : Quit → Type 0) (n : ℕ) where
  abbrev Fit : List Slot → ℕ → List Task → State → Type 0
  Fit = Fits routines p.scope w b

  -- an argument has ended
  pub ended_fits : (a : ActionTree) (count : ℕ) (ts : List Task) (u : State)
      → ((j : Job) → Describes p.scope w b [] u (idle j) → j.tasks ≡ task.NextArgument a count ∷ ts → KeepsIn p.scope w b j)
      → Fit [] n ts u → Fit [] n (task.NextArgument a count ∷ ts) u
  ended_fits a count ts u keeps k j d e =
      step routines p.scope w b n j (task.NextArgument a count) ts e refl (keeps j d e) (λ free c.
      unasked (Safe routines p.scope w b n) c _ (done (Safe routines p.scope w b n) (doing ts j) (k (doing ts j) d refl)))

  -- if an argument and the check for too many states lead on, the argument leads to states from which the check does
  pub leads_turn : {X : Type 0} (row : Spot → X → Walk → Walk) (keeps : (x : X) → Keeps (row p x)) (x : X) (s : State) (B : State → Type 0) → Leads (λ v. few p.line p.word (row p x v)) s B S Q
      → Leads (row p x) s (λ u. Leads (few p.line p.word) u B S Q × Among u (turn row p (alone s) x).going) S Q
  leads_turn row keeps x s B l =
      let e = few_same p.line p.word (row p x (alone s)) (few_clean p.line p.word (row p x (alone s)) l.clean).0 in
      let m = leads_both B S Q (row p x) (few p.line p.word) (keeps x) (few_keeps p.line p.word) s l in
      record { clean = m.clean; going = λ u i. (m.going u i, subst (λ (v : Walk). Among u v.going) (sym e) i); skips = m.skips; quits = m.quits }

  -- one more argument
  pub come_further : {X : Type 0} (row : Spot → X → Walk → Walk) (all : List X) (k : ℕ) (x : X) (xs : List X) (s u v : State) → drop k all ≡ x ∷ xs → come_to row p (take k all) s u
      → Among v (turn row p (alone u) x).going → come_to row p (take (suc k) all) s v
  come_further row [] zero x xs s u v h c i = let z : [] ≡ x ∷ xs = h in absurd (cc z)
  come_further row [] (suc k) x xs s u v h c i = let z : [] ≡ x ∷ xs = h in absurd (cc z)
  come_further row (y ∷ all) zero x xs s u v h c i =
      let same : y ≡ x = (let z : y ∷ all ≡ x ∷ xs = h in cc) in
      (v, subst (λ z. Among v (turn row p (alone z) y).going) (sym c) (subst (λ z. Among v (turn row p (alone u) z).going) (sym same) i), refl)
  come_further row (y ∷ all) (suc k) x xs s u v h c i = (c.0, c.1, come_further row all k x xs c.0 u v h c.2 i)

  pub one_dropped : {X : Type 0} (all : List X) (k : ℕ) (x : X) (xs : List X) → drop k all ≡ x ∷ xs → drop (suc k) all ≡ xs
  one_dropped [] zero x xs h = let z : [] ≡ x ∷ xs = h in absurd (cc z)
  one_dropped [] (suc k) x xs h = let z : [] ≡ x ∷ xs = h in absurd (cc z)
  one_dropped (y ∷ all) zero x xs h = let z : y ∷ all ≡ x ∷ xs = h in cc
  one_dropped (y ∷ all) (suc k) x xs h = one_dropped all k x xs h

  -- arguments, each as a command of its own: from the first `k` on, of all those of the action
  module _ {X : Type 0} (row : Spot → X → Walk → Walk) (keeps : (x : X) → Keeps (row p x)) (parts : X → List Task) (calls : X → List CallTree) (ts : List Task)
      (one : (x : X) → AreOurs p.scope (calls x) → (more : List Task) (s : State) (A : State → Type 0) → Leads (row p x) s A S Q → ((u : State) → A u → Fit [] n more u) → Fit [] n (parts x ++ more) s)
      (a : ActionTree) (all : List X) (first : State)
      (mark : (k : ℕ) (u : State) → come_to row p (take k all) first u → (j : Job) → Describes p.scope w b [] u (idle j) → j.tasks ≡ task.NextArgument a k ∷ (made.in_turn parts a k (drop k all) ++ ts) → KeepsIn p.scope w b j) where
    turns_from : (k : ℕ) (xs : List X) → drop k all ≡ xs → AreOurs p.scope (flat_map calls xs) → (s : State) → come_to row p (take k all) first s → (A : State → Type 0) → Leads (in_turn row p xs) s A S Q → ((u : State) → A u → Fit [] n ts u) → Fit [] n (made.in_turn parts a k xs ++ ts) s
    turns_from k [] left ours s come A l go = go s (leads_stay A S Q s l)
    turns_from k (x ∷ xs) left ours s come A l go =
        let B : State → Type 0 = λ u. Leads (in_turn row p xs) u A S Q in
        let l0 = leads_both A S Q (λ v. few p.line p.word (row p x v)) (in_turn row p xs) (both (row p x) (few p.line p.word) (keeps x) (few_keeps p.line p.word)) (turns_keep row p keeps xs) s l in
        let behind : List Task = made.in_turn parts a (suc k) xs ++ ts in
        subst (λ z. Fit [] n z s) (sym (append_assoc (parts x) (task.NextArgument a (suc k) ∷ made.in_turn parts a (suc k) xs) ts))
        (one x (ours_left p.scope (calls x) (flat_map calls xs) ours) (task.NextArgument a (suc k) ∷ behind) s (λ u. Leads (few p.line p.word) u B S Q × Among u (turn row p (alone s) x).going)
        (leads_turn row keeps x s B l0)
        (λ u m.
        let on = come_further row all k x xs first s u left come m.1 in
        let less = one_dropped all k x xs left in
        ended_fits a (suc k) behind u
        (λ j d e. mark (suc k) u on j d (e ∙ ap (λ z. task.NextArgument a (suc k) ∷ (made.in_turn parts a (suc k) z ++ ts)) (sym less)))
        (turns_from (suc k) xs less (ours_right p.scope (calls x) (flat_map calls xs) ours) u on A (leads_few B S Q p.line p.word u m.0) go)))

    pub turns_fit : AreOurs p.scope (flat_map calls all) → (A : State → Type 0) → Leads (in_turn row p all) first A S Q → ((u : State) → A u → Fit [] n ts u) → Fit [] n (made.in_turn parts a 0 all ++ ts) first
    turns_fit ours A l go = turns_from 0 all refl ours first refl A l go

  module _ (evaluate : (t : Tree) → AreOurs p.scope (in_tree t) → (slots : List Slot) (ts : List Task) (s : State) (A : State → Type 0) → Leads (value p t) s A S Q
      → ((u : State) → A u → FitsValue routines p.scope w b t slots n ts u) → Fit slots n (task.Evaluate t ∷ ts) s) where
    -- a value that is not used
    pub evaluated_fits : (t : Tree) → AreOurs p.scope (in_tree t) → (slots : List Slot) (ts : List Task) (s : State) (A : State → Type 0) → Leads (value p t) s A S Q
        → ((u : State) → A u → Fit slots n ts u) → Fit slots n (evaluated t ++ ts) s
    evaluated_fits t ours slots ts s A l k =
        evaluate t ours slots (task.Drop 1 ∷ ts) s A l (λ u a j v more d e knows tasks. drop_fits routines p.scope w b slots n ts u 1 (k u a) j d tasks)

    pub optional_fits : (o : Option Tree) → AreOurs p.scope (in_option o) → (slots : List Slot) (ts : List Task) (s : State) (A : State → Type 0) → Leads (value_if p o) s A S Q
        → ((u : State) → A u → Fit slots n ts u) → Fit slots n (evaluated_if o ++ ts) s
    optional_fits None ours slots ts s A l k = k s (leads_stay A S Q s l)
    optional_fits (Some t) ours slots ts s A l k = evaluated_fits t ours slots ts s A l k

    -- a condition, and a task that uses its truth: the tasks if it may be true, and those if it may be false
    module _ (t : Tree) (run other : Walk → Walk) (one : Keeps run) (two : Keeps other) (slots : List Slot) (T : Task) (plain : is_plain T ≡ true) (ts : List Task) (f : Bool → Job → Stepped)
        (reduces : (free : LockName → Bool) (c : Choice) (i : Job) → advance routines free c i (T ∷ ts) ≡ by_truth c i f) (A : State → Type 0)
        (P : ℕ → Job → Type 0) (close : (m : ℕ) (free : LockName → Bool) (c : Choice) (i : Job) (x : Stepped) → x ≡ advance routines free c i (T ∷ ts) → Comes (P m) x → Comes (Next routines p.scope w b (T ∷ ts) m) x)
        (From : State → Type 0)
        (yes : (m : ℕ) → n ≡ suc m → (u : State) → From u → agrees true (truth_in p.scope t u) ≡ true → Leads run u A S Q → (i : Job) → Describes p.scope w b slots u (idle i) → Comes (P m) (f true i))
        (no : (m : ℕ) → n ≡ suc m → (u : State) → Leads other u A S Q → (i : Job) → Describes p.scope w b slots u (idle i) → Comes (P m) (f false i)) where
      abbrev G : Walk → Walk
      G = by_condition p.scope t run other

      pick : (k : ℕ) → n ≡ suc k → (u : State) → From u → Leads G u A S Q → (z : Bool) → agrees z (truth_in p.scope t u) ≡ true → (i : Job) → Describes p.scope w b slots u (idle i) → Comes (P k) (f z i)
      pick k is u from m true may i d = yes k is u from may (leads_true A S Q p.scope t run other one two u m may) i d
      pick k is u from m false may i d = no k is u (leads_false A S Q p.scope t run other one two u m may) i d

      used : (u : State) → From u → Leads G u A S Q → FitsValue routines p.scope w b t slots n (T ∷ ts) u
      used u from m i x more d g knows at =
          by_step routines p.scope w b n i (T ∷ ts) at (plain_facts p.scope w b i T ts at plain) (λ k is free c.
          close k free c i (advance routines free c i (T ∷ ts)) refl (subst (Comes (P k)) (sym (reduces free c i))
          (of_last (P k) i.values _ (λ y below ey.
          let same : y ≡ x = (let z : y ∷ below ≡ x ∷ more = sym ey ∙ g in cc) in
          of_known (P k) c (truth_of_text y) _ (λ z is_known.
          let less : Describes p.scope w b slots u (idle (dropped 1 i)) = subst (λ q. Describes p.scope w b slots u (record (idle i) { values = q })) (sym (ap (drop 1) g)) (drop_law p.scope w b None slots u (idle i) d x more g) in
          let may : agrees z (truth_in p.scope t u) ≡ true = truth_agrees (truth_in p.scope t u) x knows.truth z (λ q h. is_known q (ap truth_of_text same ∙ h)) in
          pick k is u from m z may (dropped 1 i) less)))))

      pub condition_fits : AreOurs p.scope (in_tree t) → (s : State) → ((u : State) → Among u (value p t (alone s)).going → From u) → Leads (λ v. by_condition p.scope t run other (value p t v)) s A S Q → Fit slots n (task.Evaluate t ∷ T ∷ ts) s
      condition_fits ours s from l =
          evaluate t ours slots (T ∷ ts) s (λ u. Leads G u A S Q × Among u (value p t (alone s)).going)
          (leads_there (λ u. Leads G u A S Q) S Q (value p t) s (leads_both A S Q (value p t) G (value_keeps p t) (ways_keep p.scope t run other one two) s l)) (λ u m. used u (from u m.1) m.0)
