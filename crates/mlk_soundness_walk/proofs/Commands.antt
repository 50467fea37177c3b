-- Commands: SET of a local, and IF of one condition; a postconditional.
use Rattle.std.proofs.Common.{◌≡◌, ℕ, ◌-◌, Bool, true, false, List, [], ◌∷◌, ◌++◌, drop, Option, Some, None, Ok, refl, sym, ap, ◌∙◌, subst, ⊎_elim, inl, inr}
use Rattle.std.specs.Prelude.{◌⊎◌, if◌then◌else◌}
use Rattle.mlk_names.specs.Lists.{Among}
use Rattle.mlk_soundness_walk.proofs.Lines.{at_rest_law}
use Rattle.mlk_text.specs.declared.code.Code.{Code}
use Rattle.mlk_syntax.specs.ExprTrees.{Tree, LocalName, no_subs}
use Rattle.mlk_syntax.specs.Trees.{RoutineTree, Named, SetWhole, SetTo}
use Rattle.mlk_cert_parts.specs.declared.case.Case.{Case}
use Rattle.mlk_cert_parts.specs.declared.case.Test.{Test}
use Rattle.mlk_cert_parts.specs.declared.case.Test.TheVariants.{Zero, One}
use Rattle.mlk_cert_parts.specs.declared.names.NameSet.{NameSet}
use Rattle.mlk_cert_parts.specs.declared.names.NameSet.TheVariants.{Only}
use Rattle.mlk_numbers.specs.Operators.{truth_of_text}
use Rattle.mlk_machine_jobs.specs.Tasks as task
use Rattle.mlk_machine_jobs.specs.Tasks.{Task, Job}
use Rattle.mlk_machine_jobs.specs.Choices.{dropped, doing, same_truth}
use Rattle.mlk_machine_jobs.specs.Locking.{tested}
use Rattle.mlk_machine_jobs.specs.Commands.{set_parts, if_parts}
use Rattle.mlk_machine_jobs.specs.Lines.{skipped}
use Rattle.mlk_walk_state.specs.declared.state.State.{State}
use Rattle.mlk_walk_state.specs.States.{at_rest, without_last}
use Rattle.mlk_walk_state.specs.States as state
use Rattle.mlk_walk_state.specs.Symbols.{truth_in}
use Rattle.mlk_calls.specs.Changes.{changed_state, change_fault, change, unless}
use Rattle.mlk_walk_exprs.specs.declared.walk.Quit.{Quit}
use Rattle.mlk_walk_exprs.specs.Walks.{Outcome, Goes, Skips, Refused, each, placed}
use Rattle.mlk_walk_exprs.specs.Spots.{Spot}
use Rattle.mlk_walk_exprs.specs.Expressions.{value}
use Rattle.mlk_walk_commands.specs.Variables.{change_at}
use Rattle.mlk_walk_commands.specs.Arguments.{forget, set_argument, if_argument}
use Rattle.mlk_walk_commands.specs.Arguments as walked
use Rattle.mlk_walk_laws.proofs.Transfers.{both, each_keeps, changed_keeps}
use Rattle.mlk_walk_laws.proofs.Walks.{value_keeps}
use Rattle.mlk_soundness_machine.specs.Frames.{Agrees}
use Rattle.mlk_soundness_machine.specs.Described.{World, Level, Slot, IsWorld, idle, Describes}
use Rattle.mlk_soundness_machine.proofs.Known.{IsTruth}
use Rattle.mlk_soundness_machine.proofs.Worlds.{drop_law}
use Rattle.mlk_soundness_machine.proofs.Steps.{done, unasked, of_last, of_known}
use Rattle.mlk_soundness_machine.proofs.Changes.{Allowed, allowed, store}
use Rattle.mlk_soundness_machine.proofs.Unused.{nothing_less}
use Rattle.mlk_soundness_machine.proofs.Values.{Safe, Fits, FitsValue, plain_step}
use Rattle.mlk_program.specs.Calls.{in_tree}
use Rattle.mlk_soundness_walk.specs.Ours.{AreOurs}
use Rattle.mlk_soundness_walk.proofs.Alone.{Leads}
use Rattle.mlk_soundness_walk.proofs.Alone.{Meets, leads_both, leads_each, leads_changed}

-- a change that is not refused
pub changed_goes : (p : Spot) (G : State → Type 0) (S : Case → Type 0) (Q : Quit → Type 0) (column : ℕ) (names : List NameSet) (s : State)
    → ((o : Outcome) → Among o (placed p.line column (change p.scope names s)) → Meets G S Q o) → Allowed p.scope names s × G (changed_state names s)
changed_goes p G S Q column names s h = on (change_fault p.scope names s) refl h
  where
    on : (o : Option Code) → change_fault p.scope names s ≡ o → ((x : Outcome) → Among x (placed p.line column (unless (change_fault p.scope names s) (Ok (changed_state names s)))) → Meets G S Q x)
        → Allowed p.scope names s × G (changed_state names s)
    on None e g = (allowed p.scope names s e, (let k : (x : Outcome) → Among x (placed p.line column (unless None (Ok (changed_state names s)))) → Meets G S Q x = subst (λ z. (x : Outcome) → Among x (placed p.line column (unless z (Ok (changed_state names s)))) → Meets G S Q x) e g in k (Goes (changed_state names s)) (inl refl)))
    on (Some code) e g = absurd (let k : (x : Outcome) → Among x (placed p.line column (unless (Some code) (Ok (changed_state names s)))) → Meets G S Q x = subst (λ z. (x : Outcome) → Among x (placed p.line column (unless z (Ok (changed_state names s)))) → Meets G S Q x) e g in k (Refused p.line column code) (inl refl))

module _ (routines : List RoutineTree) (p : Spot) (w : World) (b : Level) (world : IsWorld p.scope w) (S : Case → Type 0) (Q : Quit → Type 0) (n : ℕ)
    (evaluate : (t : Tree) → AreOurs p.scope (in_tree t) → (slots : List Slot) (ts : List Task) (s : State) (A : State → Type 0) → Leads (value p t) s A S Q
    → ((u : State) → A u → FitsValue routines p.scope w b t slots n ts u) → Fits routines p.scope w b slots n (task.Evaluate t ∷ ts) s) where
  abbrev Fit : ℕ → List Task → State → Type 0
  Fit n ts s = Fits routines p.scope w b [] n ts s

  -- SET of a local
  pub set_local : (column : ℕ) (name : List ℕ) (t : Tree) → AreOurs p.scope (in_tree t) → (ts : List Task) (s : State) (A : State → Type 0)
      → Leads (set_argument p (SetTo (SetWhole (Named column (LocalName name no_subs)) ∷ []) t)) s A S Q → ((u : State) → A u → Fit n ts u)
      → Fit n (set_parts (SetTo (SetWhole (Named column (LocalName name no_subs)) ∷ []) t) ++ ts) s
  set_local column name t ours ts s A l k =
      let row = change_at p column (Only name) in
      evaluate t ours [] (task.Assign (SetWhole (Named column (LocalName name no_subs)) ∷ []) ∷ ts) s
      (λ u. Leads (λ v. forget 0 (each row v)) u A S Q)
      (leads_both A S Q (value p t) (λ v. forget 0 (each row v)) (value_keeps p t) (both (each row) (forget 0) (each_keeps row) (changed_keeps (without_last 0))) s l)
      (λ u m j v more d e knows tasks.
      let r = changed_goes p (λ x. Leads (forget 0) x A S Q) S Q column (Only name ∷ []) u
      (leads_each (λ x. Leads (forget 0) x A S Q) S Q row u (leads_both A S Q (each row) (forget 0) (each_keeps row) (changed_keeps (without_last 0)) u m)) in
      let a : A (changed_state (Only name ∷ []) u) = subst A (nothing_less (changed_state (Only name ∷ []) u)) (leads_changed A S Q (without_last 0) (changed_state (Only name ∷ []) u) r.1) in
      plain_step routines p.scope w b [] n ts u (task.Assign (SetWhole (Named column (LocalName name no_subs)) ∷ [])) refl j tasks (λ free c.
      unasked (Safe routines p.scope w b n) c _ (of_last (Safe routines p.scope w b n) j.values _ (λ x rest ex.
      done (Safe routines p.scope w b n) (doing (task.Store name x ∷ ts) (dropped 1 j))
      (store routines p.scope w b world [] n ts u name r.0 x (k (changed_state (Only name ∷ []) u) a) (doing (task.Store name x ∷ ts) (dropped 1 j))
      (subst (λ z. Describes p.scope w b [] u (record (idle j) { values = z })) (sym (ap (drop 1) e)) (drop_law p.scope w b None [] u (idle j) d v more e)) refl)))))

  -- `$TEST` is the truth of the last value
  pub tested_law : (u : State) (j : Job) (t : Test) (x : Bool) → Agrees t x → Describes p.scope w b [] u (idle j) → Describes p.scope w b [] (state.tested t u) (idle (tested x j))
  tested_law u j t x h d = record {
    stands = record {
      test = h;
      saved = d.stands.saved;
      counts = d.stands.counts;
      defined = d.stands.defined;
      frame = d.stands.frame;
      block = d.stands.block;
      outer = d.stands.outer;
      low = d.stands.low;
      formals = d.stands.formals;
      held_sole = d.stands.held_sole;
      kept_sole = d.stands.kept_sole;
      unshared = d.stands.unshared;
      kept = d.stands.kept;
      kept_formal = d.stands.kept_formal;
      kept_out = d.stands.kept_out;
      guarded = d.stands.guarded;
      numbered = d.stands.numbered;
      running = d.stands.running;
      routine = d.stands.routine;
      ordered = d.stands.ordered;
      older = d.stands.older;
    };
    captured_sole = d.captured_sole;
    values = d.values;
  }

  -- IF's row, by the truth of a value
  ways : (u : State) (A : State → Type 0) (o : Option Bool) (v : List ℕ) → IsTruth o v → ((x : Outcome) → Among x (walked.if_outcomes o u) → Meets A S Q x)
      → (x : Bool) → ((t : Bool) → truth_of_text v ≡ Some t → x ≡ t)
      → ((x ≡ true) × A (state.tested One u)) ⊎ ((x ≡ false) × S (state.tested Zero u).case)
  ways u A None v truth h true same = inl (refl, h (Goes (state.tested One u)) (inl refl))
  ways u A None v truth h false same = inr (refl, h (Skips (state.tested Zero u).case) (inr (inl refl)))
  ways u A (Some true) v truth h x same = inl (same true truth, h (Goes (state.tested One u)) (inl refl))
  ways u A (Some false) v truth h x same = inr (same false truth, h (Skips (state.tested Zero u).case) (inl refl))

  pub if_one : (t : Tree) → AreOurs p.scope (in_tree t) → (ts : List Task) (s : State) (A : State → Type 0) → Leads (if_argument p t) s A S Q
      → ((u : State) → A u → Fit n ts u) → ((c : Case) → S c → Fit n (skipped ts) (at_rest c)) → Fit n (if_parts t ++ ts) s
  if_one t ours ts s A l go skip =
      let row : State → List Outcome = λ u. walked.if_outcomes (truth_in p.scope t u) u in
      evaluate t ours [] (task.SetTest ∷ task.SkipIf false ∷ ts) s (λ u. Leads (each row) u A S Q)
      (leads_both A S Q (value p t) (each row) (value_keeps p t) (each_keeps row) s l)
      (λ u m j v more d e knows tasks.
      plain_step routines p.scope w b [] n (task.SkipIf false ∷ ts) u task.SetTest refl j tasks (λ free c.
      of_last (Safe routines p.scope w b n) j.values _ (λ y rest ey.
      let same : y ≡ v = (let z : y ∷ rest ≡ v ∷ more = sym ey ∙ e in cc) in
      of_known (Safe routines p.scope w b n) c (truth_of_text y) _ (λ x is_known.
      let less : Describes p.scope w b [] u (idle (dropped 1 j)) = subst (λ z. Describes p.scope w b [] u (record (idle j) { values = z })) (sym (ap (drop 1) e)) (drop_law p.scope w b None [] u (idle j) d v more e) in
      let i : Job = doing (task.SkipIf false ∷ ts) (tested x (dropped 1 j)) in
      done (Safe routines p.scope w b n) i
      (plain_step routines p.scope w b [] n ts u (task.SkipIf false) refl i refl (λ free' c'.
      unasked (Safe routines p.scope w b n) c' _ (done (Safe routines p.scope w b n) (doing (if same_truth false x then skipped ts else ts) i)
      (⊎_elim
      (λ (k : (x ≡ true) × A (state.tested One u)).
      go (state.tested One u) k.1 (doing (if same_truth false x then skipped ts else ts) i) (tested_law u (dropped 1 j) One x k.0 less) (ap (λ z. if same_truth false z then skipped ts else ts) k.0))
      (λ (k : (x ≡ false) × S (state.tested Zero u).case).
      skip (state.tested Zero u).case k.1 (doing (if same_truth false x then skipped ts else ts) i)
      (at_rest_law p.scope w b (state.tested Zero u) (idle (tested x (dropped 1 j))) (tested_law u (dropped 1 j) Zero x k.0 less)) (ap (λ z. if same_truth false z then skipped ts else ts) k.0))
      (ways u A (truth_in p.scope t u) v knows.truth (leads_each A S Q row u m) x (λ t h. is_known t (ap truth_of_text same ∙ h)))))))))))
