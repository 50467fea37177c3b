-- KILL: a variable, and all locals but some; and HALT.
use Rattle.std.proofs.Common.{◌≡◌, ℕ, Bool, true, false, List, [], ◌∷◌, ◌++◌, refl, sym, ap, ◌∙◌, subst, inl, append_assoc}
use Rattle.std.specs.Prelude.{◌||◌, not, if◌then◌else◌, bytes_eq}
use Rattle.mlk_text.specs.declared.code.Code.TheVariants.{HeldAtEnd, SummaryShort}
use Rattle.mlk_names.specs.Lists.{Among}
use Rattle.mlk_names.specs.declared.reference.Extent.TheVariants as extent
use Rattle.mlk_names.specs.declared.reference.Access.TheVariants.{Writes}
use Rattle.mlk_syntax.specs.ExprTrees.{Tree, Lit, Free, LocalName, GlobalName, SpecialName, Prefixed, Chain, PatternText, Func, Selected, BareCall, CallOf, no_subs, sub, count_subs}
use Rattle.mlk_syntax.specs.Trees.{RoutineTree, VariableTree, Named, KillTree, KillOne, KillAllBut}
use Rattle.mlk_program.specs.Calls as calls
use Rattle.mlk_program.specs.Calls.{in_kill}
use Rattle.mlk_cert_parts.specs.declared.case.Case.{Case}
use Rattle.mlk_cert_parts.specs.declared.names.NameSet.{NameSet}
use Rattle.mlk_cert_parts.specs.declared.names.NameSet.TheVariants as those
use Rattle.mlk_machine_jobs.specs.Bindings as bound
use Rattle.mlk_machine_jobs.specs.Bindings.{covers}
use Rattle.mlk_machine_jobs.specs.Commands as made
use Rattle.mlk_machine_jobs.specs.Commands.{in_variable, kill_variable, kill_parts}
use Rattle.mlk_machine_jobs.specs.Tasks as task
use Rattle.mlk_machine_jobs.specs.Tasks.{Task}
use Rattle.mlk_walk_state.specs.Cases.{holds_some}
use Rattle.mlk_walk_state.specs.Names.{have, is_among}
use Rattle.mlk_walk_state.specs.States.{without_last, last_captured}
use Rattle.mlk_walk_state.specs.declared.state.State.{State}
use Rattle.mlk_calls.specs.Changes.{changed_state}
use Rattle.mlk_walk_exprs.specs.References.{checked}
use Rattle.mlk_walk_exprs.specs.Spots.{Spot}
use Rattle.mlk_walk_exprs.specs.Walks.{Outcome, Goes, Refused, each}
use Rattle.mlk_walk_exprs.specs.declared.walk.Quit.{Quit}
use Rattle.mlk_walk_commands.specs.Arguments.{kill_argument, kill_all_but, kill_row}
use Rattle.mlk_calls.specs.Order.{in_order}
use Rattle.mlk_walk_commands.specs.Variables.{capture_variable, change_at}
use Rattle.mlk_walk_lines.specs.Commands.{halt_row}
use Rattle.mlk_walk_laws.proofs.Transfers.{each_keeps}
use Rattle.mlk_walk_laws.proofs.Walks.{variable_keeps}
use Rattle.mlk_soundness_machine.specs.Described.{World, Level, Slot, IsWorld}
use Rattle.mlk_soundness_machine.proofs.Killing.{kill_fits, halt_fits}
use Rattle.mlk_soundness_machine.proofs.Stack.{kepts}
use Rattle.mlk_soundness_machine.proofs.Touches.{form}
use Rattle.mlk_soundness_machine.proofs.Unused.{drop_fits, forgotten_fits, nothing_less}
use Rattle.mlk_soundness_machine.proofs.Values.{Fits}
use Rattle.mlk_soundness_walk.specs.Ours.{AreOurs}
use Rattle.mlk_soundness_walk.proofs.Alone.{Leads, Meets, leads_both, leads_each}
use Rattle.mlk_soundness_walk.proofs.Commands.{changed_goes}
use Rattle.mlk_soundness_walk.proofs.Entries.{in_order_same}
use Rattle.mlk_soundness_walk.proofs.Goes.{covered_goes}

or_none : (b : Bool) → b ≡ (b || false)
or_none true = refl
or_none false = refl

-- names of the machine, and of the walk
only_same : (name x : List ℕ) → covers (bound.Only name) x ≡ have (those.Only name ∷ []) x
unfolding have
only_same name x = or_none (bytes_eq name x)

pub all_but_same : (names : List (List ℕ)) (x : List ℕ) → covers (bound.AllBut names) x ≡ have (those.AllBut (in_order names) ∷ []) x
unfolding have is_among
all_but_same names x = ap not (sym (in_order_same names x)) ∙ or_none (not (is_among (in_order names) x))

-- HALT is refused if something is held, and if the summary does not list that all may be released
halts : (p : Spot) (A : State → Type 0) (S : Case → Type 0) (Q : Quit → Type 0) (s : State) → ((o : Outcome) → Among o (halt_row p s) → Meets A S Q o) → (holds_some s.case.held ≡ false) × (p.scope.summary.drops ≡ true)
halts p A S Q s h = by (holds_some s.case.held) p.scope.summary.drops refl refl h
  where
    by : (x y : Bool) → holds_some s.case.held ≡ x → p.scope.summary.drops ≡ y
        → ((o : Outcome) → Among o (if x then Refused p.line p.word HeldAtEnd ∷ [] else if y then [] else Refused p.line p.word SummaryShort ∷ []) → Meets A S Q o)
        → (holds_some s.case.held ≡ false) × (p.scope.summary.drops ≡ true)
    by true y e k g = absurd (g (Refused p.line p.word HeldAtEnd) (inl refl))
    by false true e k g = (e, k)
    by false false e k g = absurd (g (Refused p.line p.word SummaryShort) (inl refl))

module _ (routines : List RoutineTree) (p : Spot) (w : World) (b : Level) (world : IsWorld p.scope w) (S : Case → Type 0) (Q : Quit → Type 0) (n : ℕ) where
  abbrev Fit : List Slot → ℕ → List Task → State → Type 0
  Fit = Fits routines p.scope w b

  pub halted : (ts : List Task) (s : State) (A : State → Type 0) → Leads (each (halt_row p)) s A S Q → Fit [] n (task.HaltJob ∷ ts) s
  halted ts s A l =
      let r = halts p A S Q s (leads_each A S Q (halt_row p) s l) in
      halt_fits routines p.scope w b world [] n ts s r.0 r.1

  module _ (ts : List Task) (A : State → Type 0) (go : (u : State) → A u → Fit [] n ts u) where
    -- names that lose their values
    killed : (column : ℕ) (names : bound.Names) (set : NameSet) → ((x : List ℕ) → covers names x ≡ have (set ∷ []) x) → (s : State) → ((o : Outcome) → Among o (change_at p column set s) → Meets A S Q o)
        → Fit [] n (task.KillNames names ∷ ts) s
    killed column names set same s h =
        let r = changed_goes p A S Q column (set ∷ []) s h in
        kill_fits routines p.scope w b world [] n ts s names set same r.0 (go (changed_state (set ∷ []) s) r.1)

    pub all_but_fits : (names : List (List ℕ)) (s : State) → Leads (kill_all_but p names) s A S Q → Fit [] n (task.KillNames (bound.AllBut names) ∷ ts) s
    all_but_fits names s l =
        killed p.word (bound.AllBut names) (those.AllBut (in_order names)) (all_but_same names) s (leads_each A S Q (change_at p p.word (those.AllBut (in_order names))) s l)

    stays : (s : State) → ((o : Outcome) → Among o (Goes s ∷ []) → Meets A S Q o) → Fit [] n (task.Drop 0 ∷ ts) s
    stays s h = drop_fits routines p.scope w b [] n ts s 0 (go s (h (Goes s) (inl refl)))

    after : (v : VariableTree) (u : State) → ((o : Outcome) → Among o (kill_row p v u) → Meets A S Q o) → Fit (kepts (made.count_in v) []) n (kill_variable v ++ ts) u
    after (Named column (LocalName name no_subs)) u h =
        subst (λ z. Fit [] n (task.KillNames (bound.Only name) ∷ ts) z) (nothing_less u)
        (killed column (bound.Only name) (those.Only name) (only_same name) (without_last 0 u) h)
    after (Named column (LocalName name (sub c t rest))) u h =
        let count : ℕ = count_subs (sub c t rest) in
        let a : A (without_last count u) = h (Goes (without_last (count_subs (sub c t rest)) u)) (inl refl) in
        forgotten_fits routines p.scope w b [] n (task.Drop count ∷ ts) u count (drop_fits routines p.scope w b [] n ts (without_last count u) count (go (without_last count u) a))
    after (Named column (GlobalName caret name subs)) u h =
        let r = covered_goes A S Q (checked p extent.Tree Writes name (last_captured (count_subs subs) u) u) p.line caret (without_last (count_subs subs) u) h in
        form routines p.scope w b [] n ts u name (count_subs subs) extent.Tree Writes
        r.0
        (go (without_last (count_subs subs) u) r.1)
    after (Named column (Lit v)) u h = stays u h
    after (Named column Free) u h = stays u h
    after (Named column (SpecialName x)) u h = stays u h
    after (Named column (Prefixed op t)) u h = stays u h
    after (Named column (Chain first rest)) u h = stays u h
    after (Named column (PatternText text)) u h = stays u h
    after (Named column (Func f args)) u h = stays u h
    after (Named column (Selected cs)) u h = stays u h
    after (Named column (BareCall k callee)) u h = stays u h
    after (Named column (CallOf k callee given)) u h = stays u h

  -- KILL of one argument
  pub kill_one_fits : ((v : VariableTree) → AreOurs p.scope (calls.in_variable v) → (slots : List Slot) (us : List Task) (s : State) (B : State → Type 0) → Leads (capture_variable p v) s B S Q
      → ((u : State) → B u → Fit (kepts (made.count_in v) slots) n us u) → Fit slots n (in_variable v ++ us) s)
      → (k : KillTree) → AreOurs p.scope (in_kill k) → (ts : List Task) (s : State) (A : State → Type 0) → Leads (kill_argument p k) s A S Q → ((u : State) → A u → Fit [] n ts u) → Fit [] n (kill_parts k ++ ts) s
  kill_one_fits variable (KillOne v) ours ts s A l go =
      subst (λ z. Fit [] n z s) (sym (append_assoc (in_variable v) (kill_variable v) ts))
      (variable v ours [] (kill_variable v ++ ts) s (λ u. Leads (each (kill_row p v)) u A S Q)
      (leads_both A S Q (capture_variable p v) (each (kill_row p v)) (variable_keeps p v) (each_keeps (kill_row p v)) s l)
      (λ u m. after ts A go v u (leads_each A S Q (kill_row p v) u m)))
  kill_one_fits variable (KillAllBut names) ours ts s A l go = all_but_fits ts A go names s l
