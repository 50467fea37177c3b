-- READ: its subscripts, its length and its timeout; then the variable changes.
use Rattle.std.proofs.Common.{◌≡◌, ℕ, Bool, true, false, List, [], ◌∷◌, ◌++◌, drop, Option, Some, None, refl, sym, ◌∙◌, subst, arith, inl, inr, append_assoc, suc, take, ap}
use Rattle.std.specs.Prelude.{flat_map}
use Rattle.std.specs.List.{list_all}
use Rattle.std.proofs.lemmas.Bool.{and_parts}
use Rattle.mlk_syntax.specs.ExprTrees.{Tree, Lit, Free, LocalName, GlobalName, SpecialName, Prefixed, Chain, PatternText, Func, Selected, BareCall, CallOf, no_subs, sub, count_subs}
use Rattle.mlk_syntax.specs.Trees.{RoutineTree, VariableTree, Named, ReadTree, ReadText, ReadFormat, ReadLine, ReadCharacter, ActionTree}
use Rattle.mlk_program.specs.Calls as calls
use Rattle.mlk_program.specs.Calls.{in_tree, in_option, in_read}
use Rattle.mlk_cert_parts.specs.declared.case.Case.{Case}
use Rattle.mlk_cert_parts.specs.declared.case.Test.TheVariants.{Zero, One}
use Rattle.mlk_cert_parts.specs.declared.names.NameSet.TheVariants as those
use Rattle.mlk_machine_jobs.specs.Choices.{doing}
use Rattle.mlk_machine_jobs.specs.Commands as made
use Rattle.mlk_machine_jobs.specs.Commands.{in_variable, evaluated_if, store_last, in_time, read_into, read_parts}
use Rattle.mlk_machine_jobs.specs.Locking.{tested}
use Rattle.mlk_machine_jobs.specs.Tasks as task
use Rattle.mlk_machine_jobs.specs.Tasks.{Task, Job}
use Rattle.mlk_walk_state.specs.States as state
use Rattle.mlk_walk_state.specs.States.{without_last}
use Rattle.mlk_walk_state.specs.declared.state.State.{State}
use Rattle.mlk_calls.specs.Changes.{changed_state}
use Rattle.mlk_walk_exprs.specs.Expressions.{value, value_if}
use Rattle.mlk_walk_exprs.specs.Spots.{Spot}
use Rattle.mlk_walk_exprs.specs.Walks.{Goes, each, few}
use Rattle.mlk_walk_exprs.specs.declared.walk.Quit.{Quit}
use Rattle.mlk_walk_exprs.specs.declared.walk.Walk.{Walk}
use Rattle.mlk_walk_commands.specs.Arguments.{in_time_or_not, read_row, read_variable, read_argument}
use Rattle.mlk_walk_commands.specs.Variables.{capture_variable}
use Rattle.mlk_walk_lines.specs.Commands.{in_turn, turn}
use Rattle.mlk_walk_laws.proofs.Counts.{few_keeps}
use Rattle.mlk_walk_laws.proofs.Transfers.{each_keeps, both}
use Rattle.mlk_walk_laws.proofs.Walks.{variable_keeps, if_keeps, read_argument_keeps, turns_keep}
use Rattle.mlk_soundness_machine.specs.Described.{World, Level, Slot, IsWorld, idle, Describes}
use Rattle.mlk_soundness_machine.proofs.Changes as changes
use Rattle.mlk_soundness_machine.proofs.Stack.{kepts}
use Rattle.mlk_soundness_machine.proofs.Steps.{done, of_truth}
use Rattle.mlk_soundness_machine.proofs.Unused.{ask_fits, drop_fits, forgotten_fits, nothing_less}
use Rattle.mlk_soundness_machine.proofs.Values.{Safe, Fits, FitsValue, plain_step}
use Rattle.mlk_machine_laws.specs.WellFormed.{is_local, reads_local}
use Rattle.mlk_soundness_walk.specs.Ours.{AreOurs}
use Rattle.mlk_soundness_walk.proofs.Alone.{Leads, leads_both, leads_each, leads_few, leads_stay}
use Rattle.mlk_soundness_walk.proofs.Commands.{changed_goes, tested_law}
use Rattle.mlk_soundness_walk.proofs.Ours.{ours_left, ours_right}
use Rattle.mlk_soundness_walk.proofs.Turns.{optional_fits, leads_turn, come_further, one_dropped, ended_fits}
use Rattle.mlk_names.specs.Lists.{Among}
use Rattle.mlk_soundness_machine.specs.Places.{alone, come_to}
use Rattle.mlk_soundness_machine.specs.Safe.{KeepsIn}

-- tasks in another grouping
regroup : (first second third fourth fifth ts : List Task) → ((((first ++ second) ++ third) ++ fourth) ++ fifth) ++ ts ≡ first ++ (second ++ (third ++ (fourth ++ (fifth ++ ts))))
regroup first second third fourth fifth ts =
    append_assoc (((first ++ second) ++ third) ++ fourth) fifth ts ∙ append_assoc ((first ++ second) ++ third) fourth (fifth ++ ts) ∙ append_assoc (first ++ second) third (fourth ++ (fifth ++ ts))
    ∙ append_assoc first second (third ++ (fourth ++ (fifth ++ ts)))

module _ (routines : List RoutineTree) (p : Spot) (w : World) (b : Level) (world : IsWorld p.scope w) (S : Case → Type 0) (Q : Quit → Type 0) (n : ℕ)
    (evaluate : (t : Tree) → AreOurs p.scope (in_tree t) → (slots : List Slot) (ts : List Task) (s : State) (A : State → Type 0) → Leads (value p t) s A S Q
    → ((u : State) → A u → FitsValue routines p.scope w b t slots n ts u) → Fits routines p.scope w b slots n (task.Evaluate t ∷ ts) s)
    (variable : (v : VariableTree) → AreOurs p.scope (calls.in_variable v) → (slots : List Slot) (us : List Task) (s : State) (B : State → Type 0) → Leads (capture_variable p v) s B S Q
    → ((u : State) → B u → Fits routines p.scope w b (kepts (made.count_in v) slots) n us u) → Fits routines p.scope w b slots n (in_variable v ++ us) s) where
  abbrev Fit : List Slot → ℕ → List Task → State → Type 0
  Fit = Fits routines p.scope w b

  -- whether the input was in time
  told : (t : Tree) (ts : List Task) (s : State) (A : State → Type 0) → Leads (each (in_time_or_not (Some t))) s A S Q → ((u : State) → A u → Fit [] n ts u)
      → (j : Job) → Describes p.scope w b [] s (idle j) → (x : Bool) → Safe routines p.scope w b n (doing ts (tested x j))
  told t ts s A l k j d true =
      k (state.tested One s) (leads_each A S Q (in_time_or_not (Some t)) s l (Goes (state.tested One s)) (inl refl)) (doing ts (tested true j))
      (tested_law routines p w b world S Q n evaluate s j One true refl d) refl
  told t ts s A l k j d false =
      k (state.tested Zero s) (leads_each A S Q (in_time_or_not (Some t)) s l (Goes (state.tested Zero s)) (inr (inl refl))) (doing ts (tested false j))
      (tested_law routines p w b world S Q n evaluate s j Zero false refl d) refl

  in_time_fits : (timeout : Option Tree) (ts : List Task) (s : State) (A : State → Type 0) → Leads (each (in_time_or_not timeout)) s A S Q → ((u : State) → A u → Fit [] n ts u) → Fit [] n (in_time timeout ++ ts) s
  in_time_fits None ts s A l k = k s (leads_each A S Q (in_time_or_not None) s l (Goes s) (inl refl))
  in_time_fits (Some t) ts s A l k = λ j d tasks.
      plain_step routines p.scope w b [] n ts s task.AskTest refl j tasks (λ free c.
      of_truth (Safe routines p.scope w b n) c _ (λ x. done (Safe routines p.scope w b n) (doing ts (tested x j)) (told t ts s A l k j d x)))

  -- the variable
  stored_fits : (v : VariableTree) → is_local v ≡ true → (ts : List Task) (s : State) (B : State → Type 0) → Leads (each (read_row p v)) s B S Q → ((u : State) → B u → Fit [] n ts u)
      → Fit (kepts (made.count_in v) []) n (task.AskValue (made.count_in v) ∷ (store_last v ++ ts)) s
  stored_fits (Named column (LocalName name no_subs)) is ts s B l k =
      let r = changed_goes p B S Q column (those.Only name ∷ []) (without_last 0 s) (leads_each B S Q (read_row p (Named column (LocalName name no_subs))) s l) in
      subst (λ z. Fit [] n (task.AskValue 0 ∷ task.StoreLast name ∷ ts) z) (nothing_less s)
      (ask_fits routines p.scope w b [] n (task.StoreLast name ∷ ts) (without_last 0 s) 0
      (λ j x d e tasks. changes.store_last routines p.scope w b world [] n ts (without_last 0 s) name r.0 (k (changed_state (those.Only name ∷ []) (without_last 0 s)) r.1) j x (drop 1 j.values) d e tasks))
  stored_fits (Named column (LocalName name (sub c t rest))) is ts s B l k =
      let count : ℕ = count_subs (sub c t rest) in
      let a : B (without_last count s) = leads_each B S Q (read_row p (Named column (LocalName name (sub c t rest)))) s l (Goes (without_last (count_subs (sub c t rest)) s)) (inl refl) in
      forgotten_fits routines p.scope w b [] n (task.AskValue count ∷ task.Drop 1 ∷ ts) s count
      (ask_fits routines p.scope w b [] n (task.Drop 1 ∷ ts) (without_last count s) count
      (λ j x d e tasks. drop_fits routines p.scope w b [] n ts (without_last count s) 1 (k (without_last count s) a) j d tasks))
  stored_fits (Named column (GlobalName caret name subs)) is ts s B l k = cc is
  stored_fits (Named column (Lit v)) is ts s B l k = cc is
  stored_fits (Named column Free) is ts s B l k = cc is
  stored_fits (Named column (SpecialName x)) is ts s B l k = cc is
  stored_fits (Named column (Prefixed op t)) is ts s B l k = cc is
  stored_fits (Named column (Chain first rest)) is ts s B l k = cc is
  stored_fits (Named column (PatternText text)) is ts s B l k = cc is
  stored_fits (Named column (Func f args)) is ts s B l k = cc is
  stored_fits (Named column (Selected cs)) is ts s B l k = cc is
  stored_fits (Named column (BareCall at callee)) is ts s B l k = cc is
  stored_fits (Named column (CallOf at callee given)) is ts s B l k = cc is

  read_into_fits : (v : VariableTree) → is_local v ≡ true → (most timeout : Option Tree) → AreOurs p.scope (calls.in_variable v) → AreOurs p.scope (in_option most) → AreOurs p.scope (in_option timeout)
      → (ts : List Task) (s : State) (A : State → Type 0) → Leads (read_variable p v most timeout) s A S Q → ((u : State) → A u → Fit [] n ts u) → Fit [] n (read_into v most timeout ++ ts) s
  read_into_fits v is most timeout its_own mosts timeouts ts s A l k =
      let last : Walk → Walk = λ x. each (in_time_or_not timeout) (each (read_row p v) x) in
      let third : Walk → Walk = λ x. each (in_time_or_not timeout) (each (read_row p v) (value_if p timeout x)) in
      let second : Walk → Walk = λ x. each (in_time_or_not timeout) (each (read_row p v) (value_if p timeout (value_if p most x))) in
      let last_keeps = both (each (read_row p v)) (each (in_time_or_not timeout)) (each_keeps (read_row p v)) (each_keeps (in_time_or_not timeout)) in
      let third_keeps = both (value_if p timeout) last (if_keeps p timeout) last_keeps in
      let second_keeps = both (value_if p most) third (if_keeps p most) third_keeps in
      let ends : List Task = task.AskValue (made.count_in v) ∷ (store_last v ++ (in_time timeout ++ ts)) in
      subst (λ z. Fit [] n z s) (sym (regroup (in_variable v) (evaluated_if most) (evaluated_if timeout) (task.AskValue (made.count_in v) ∷ store_last v) (in_time timeout) ts))
      (variable v its_own [] (evaluated_if most ++ (evaluated_if timeout ++ ends)) s (λ u. Leads second u A S Q)
      (leads_both A S Q (capture_variable p v) second (variable_keeps p v) second_keeps s l)
      (λ u m. optional_fits routines p w b S Q n evaluate most mosts (kepts (made.count_in v) []) (evaluated_if timeout ++ ends) u (λ x. Leads third x A S Q)
      (leads_both A S Q (value_if p most) third (if_keeps p most) third_keeps u m)
      (λ x q. optional_fits routines p w b S Q n evaluate timeout timeouts (kepts (made.count_in v) []) ends x (λ y. Leads last y A S Q)
      (leads_both A S Q (value_if p timeout) last (if_keeps p timeout) last_keeps x q)
      (λ y r. stored_fits v is (in_time timeout ++ ts) y (λ z. Leads (each (in_time_or_not timeout)) z A S Q)
      (leads_both A S Q (each (read_row p v)) (each (in_time_or_not timeout)) (each_keeps (read_row p v)) (each_keeps (in_time_or_not timeout)) y r)
      (λ z i. in_time_fits timeout ts z A i k)))))

  read_one_fits : (r : ReadTree) → reads_local r ≡ true → AreOurs p.scope (in_read r) → (ts : List Task) (s : State) (A : State → Type 0) → Leads (read_argument p r) s A S Q
      → ((u : State) → A u → Fit [] n ts u) → Fit [] n (read_parts r ++ ts) s
  read_one_fits (ReadText prompt) is ours ts s A l k = k s (leads_stay A S Q s l)
  read_one_fits (ReadFormat tab) is ours ts s A l k = optional_fits routines p w b S Q n evaluate tab ours [] ts s A l k
  read_one_fits (ReadLine v most timeout) is ours ts s A l k =
      let more = ours_right p.scope (calls.in_variable v) (in_option most ++ in_option timeout) ours in
      read_into_fits v is most timeout (ours_left p.scope (calls.in_variable v) (in_option most ++ in_option timeout) ours)
      (ours_left p.scope (in_option most) (in_option timeout) more) (ours_right p.scope (in_option most) (in_option timeout) more) ts s A l k
  read_one_fits (ReadCharacter v timeout) is ours ts s A l k =
      let whole : AreOurs p.scope (calls.in_variable v ++ in_option timeout) = ours in
      read_into_fits v is None timeout (ours_left p.scope (calls.in_variable v) (in_option timeout) whole)
      (λ c i. absurd (omega (arith, i.1))) (ours_right p.scope (calls.in_variable v) (in_option timeout) whole) ts s A l k

  -- one after another: from the first `k` on, of all
  module _ (a : ActionTree) (all : List ReadTree) (ts : List Task) (start : State)
      (mark : (k : ℕ) (u : State) → come_to read_argument p (take k all) start u → (j : Job) → Describes p.scope w b [] u (idle j) → j.tasks ≡ task.NextArgument a k ∷ (made.in_turn read_parts a k (drop k all) ++ ts) → KeepsIn p.scope w b j) where
    reads_from : (k : ℕ) (reads : List ReadTree) → drop k all ≡ reads → list_all reads_local reads ≡ true → AreOurs p.scope (flat_map in_read reads) → (s : State) → come_to read_argument p (take k all) start s → (A : State → Type 0)
        → Leads (in_turn read_argument p reads) s A S Q → ((u : State) → A u → Fit [] n ts u) → Fit [] n (made.in_turn read_parts a k reads ++ ts) s
    reads_from k [] left is ours s come A l go = go s (leads_stay A S Q s l)
    reads_from k (x ∷ reads) left is ours s come A l go =
        let local = and_parts (reads_local x) (list_all reads_local reads) is in
        let B : State → Type 0 = λ u. Leads (in_turn read_argument p reads) u A S Q in
        let first = leads_both A S Q (λ v. few p.line p.word (read_argument p x v)) (in_turn read_argument p reads)
        (both (read_argument p x) (few p.line p.word) (read_argument_keeps p x) (few_keeps p.line p.word)) (turns_keep read_argument p (read_argument_keeps p) reads) s l in
        let behind : List Task = made.in_turn read_parts a (suc k) reads ++ ts in
        subst (λ z. Fit [] n z s) (sym (append_assoc (read_parts x) (task.NextArgument a (suc k) ∷ made.in_turn read_parts a (suc k) reads) ts))
        (read_one_fits x local.0 (ours_left p.scope (in_read x) (flat_map in_read reads) ours) (task.NextArgument a (suc k) ∷ behind) s (λ u. Leads (few p.line p.word) u B S Q × Among u (turn read_argument p (alone s) x).going)
        (leads_turn routines p w b S Q n read_argument (read_argument_keeps p) x s B first)
        (λ u m.
        let on = come_further routines p w b S Q n read_argument all k x reads start s u left come m.1 in
        let less = one_dropped routines p w b S Q n all k x reads left in
        ended_fits routines p w b S Q n a (suc k) behind u
        (λ j d e. mark (suc k) u on j d (e ∙ ap (λ z. task.NextArgument a (suc k) ∷ (made.in_turn read_parts a (suc k) z ++ ts)) (sym less)))
        (reads_from (suc k) reads less local.1 (ours_right p.scope (in_read x) (flat_map in_read reads) ours) u on A (leads_few B S Q p.line p.word u m.0) go)))

    pub reads_fit : list_all reads_local all ≡ true → AreOurs p.scope (flat_map in_read all) → (A : State → Type 0) → Leads (in_turn read_argument p all) start A S Q → ((u : State) → A u → Fit [] n ts u)
        → Fit [] n (made.in_turn read_parts a 0 all ++ ts) start
    reads_fit is ours A l go = reads_from 0 all refl is ours start refl A l go
