-- LOCK: names are evaluated, then claimed or released; without a sign all are released before.
use Rattle.std.proofs.Common.{◌≡◌, ℕ, zero, suc, ◌+◌, ◌-◌, Bool, true, false, List, [], ◌∷◌, ◌++◌, length, take, drop, Option, Some, None, refl, sym, ap}
use Rattle.std.proofs.Common.{◌∙◌, subst, arith, inl, inr, append_assoc, take-append-drop}
use Rattle.std.specs.Prelude.{◌&&◌, flat_map, is_some, option_and_then, Result, Ok, Err, if◌then◌else◌}
use Rattle.std.specs.List.{list_all}
use Rattle.mlk_text.specs.declared.code.Code.{Code}
use Rattle.mlk_text.specs.declared.code.Code.TheVariants.{NotHeld, SummaryShort, UnknownSubscript}
use Rattle.mlk_names.specs.Lists.{Among}
use Rattle.mlk_names.specs.declared.lock_name.LockName.{LockName}
use Rattle.mlk_names.specs.declared.term.LockTerm.{LockTerm}
use Rattle.mlk_rules.specs.Ranks.{FamiliesApart}
use Rattle.mlk_rules.specs.Laws.{RankedOnce}
use Rattle.mlk_syntax.specs.ExprTrees.{Tree}
use Rattle.mlk_syntax.specs.declared.command.Sign.{Sign}
use Rattle.mlk_syntax.specs.declared.command.Sign.TheVariants as sign
use Rattle.mlk_syntax.specs.Trees.{RoutineTree, VariableTree, LockTree, LockNames, LineTrees, Lock}
use Rattle.mlk_program.specs.Calls as calls
use Rattle.mlk_program.specs.Calls.{in_tree, in_option, in_lock, in_action}
use Rattle.mlk_cert_parts.specs.declared.case.Case.{Case}
use Rattle.mlk_cert_parts.specs.declared.case.Test.TheVariants.{Zero, One}
use Rattle.mlk_machine_locks.specs.Counts.{all_lowered, has_room}
use Rattle.mlk_machine_jobs.specs.Choices.{doing, dropped, last_values}
use Rattle.mlk_machine_jobs.specs.Commands as made
use Rattle.mlk_machine_jobs.specs.Commands.{in_variable, evaluated_if, lock_parts, action_parts}
use Rattle.mlk_machine_jobs.specs.Locking as run
use Rattle.mlk_machine_jobs.specs.Locking.{count_all, names_of, held_more, if_free, tested}
use Rattle.mlk_machine_jobs.specs.Tasks as task
use Rattle.mlk_machine_jobs.specs.Tasks.{Task, Job}
use Rattle.mlk_walk_state.specs.States as state
use Rattle.mlk_walk_state.specs.States.{holding, last_captured, without_last}
use Rattle.mlk_walk_state.specs.Terms.{taken, all_taken}
use Rattle.mlk_walk_state.specs.declared.state.State.{State}
use Rattle.mlk_calls.specs.Claims.{claim_refused, held_too, release_all, one_less}
use Rattle.mlk_walk_exprs.specs.Expressions.{value, value_if}
use Rattle.mlk_walk_exprs.specs.Spots.{Spot}
use Rattle.mlk_walk_exprs.specs.Walks.{Outcome, Goes, Refused, each, few, placed}
use Rattle.mlk_walk_exprs.specs.declared.walk.Quit.{Quit}
use Rattle.mlk_walk_exprs.specs.declared.walk.Walk.{Walk}
use Rattle.mlk_walk_commands.specs.Locks as walked
use Rattle.mlk_walk_commands.specs.Locks.{capture_names, count_names, names_fault, unless_unknown, known_names, terms_of, is_timed, column_at}
use Rattle.mlk_walk_commands.specs.Locks.{given_back, give_back, granted, claim_outcomes, claim, claim_after, lock_terms, lock_row, lock_argument, release}
use Rattle.mlk_walk_commands.specs.Variables.{column_in, capture_variable}
use Rattle.mlk_walk_lines.specs.Commands.{act}
use Rattle.mlk_walk_laws.proofs.Counts.{few_keeps}
use Rattle.mlk_walk_laws.proofs.Transfers.{each_keeps, both}
use Rattle.mlk_walk_laws.proofs.Walks.{variable_keeps, names_keep, if_keeps, lock_keeps}
use Rattle.mlk_soundness_machine.specs.Described.{some_local, World, Level, Slot, Kept, IsWorld, idle, Describes}
use Rattle.mlk_soundness_machine.specs.Reads.{now}
use Rattle.mlk_soundness_machine.proofs.Reading.{local_back}
use Rattle.mlk_soundness_machine.proofs.Stack.{kepts}
use Rattle.mlk_soundness_machine.proofs.Steps.{Comes, done, refused, unasked, of_truth}
use Rattle.mlk_soundness_machine.proofs.Going.{step}
use Rattle.mlk_soundness_machine.proofs.Touches.{forget_law, last_stand}
use Rattle.mlk_soundness_machine.proofs.Values.{Safe, Fits, FitsValue, plain_step}
use Rattle.mlk_soundness_walk.specs.Ours.{AreOurs}
use Rattle.mlk_soundness_walk.proofs.Alone.{Leads, Meets, leads_both, leads_each, leads_few, leads_stay}
use Rattle.mlk_soundness_walk.proofs.Commands.{tested_law}
use Rattle.mlk_soundness_walk.proofs.LockNames.{count_all_same, as_many, terms_local, names_stand}
use Rattle.mlk_soundness_walk.proofs.Ours.{ours_left, ours_right}
use Rattle.mlk_soundness_walk.proofs.Releases.{AreNamed, held_law, less_law, none_law, all_in_order, claim_facts}
use Rattle.mlk_soundness_walk.proofs.Turns.{turns_fit, optional_fits}
use Rattle.mlk_soundness_machine.specs.Places.{acts_to, arguments_from}
use Rattle.mlk_soundness_machine.specs.Safe.{KeepsIn}

kepts_after : (a b : ℕ) (slots : List Slot) → kepts b (kepts a slots) ≡ kepts (a + b) slots
kepts_after zero b slots = let e : b ≡ 0 + b = omega arith in ap (λ k. kepts k slots) e
kepts_after (suc a) b slots = let e : suc (a + b) ≡ suc a + b = omega arith in kepts_after a b (Kept ∷ slots) ∙ ap (λ k. kepts k slots) e

timed_same : (timeout : Option Tree) → is_timed timeout ≡ is_some timeout
timed_same None = refl
timed_same (Some t) = refl

-- the results of rows if nothing is wrong
module _ (p : Spot) (A : State → Type 0) (S : Case → Type 0) (Q : Quit → Type 0) where
  abbrev AllMeet : List Outcome → Type 0
  AllMeet os = (o : Outcome) → Among o os → Meets A S Q o

  known_goes : (names : List VariableTree) (s : State) → AllMeet (known_names p names s) → A s
  known_goes names s h = on (names_fault (p.scope.is_shared s.case.own) names (last_captured (count_names names) s)) h
    where
      on : (o : Option (ℕ × Code)) → AllMeet (unless_unknown p.line o s) → A s
      on None h = h (Goes s) (inl refl)
      on (Some found) h = absurd (h (Refused p.line found.0 found.1) (inl refl))

  claim_goes : (timed : Bool) (names : List VariableTree) (terms : List LockTerm) (s : State) → AllMeet (claim held_too p timed names terms s)
      → (claim_refused p.scope timed s.case.held terms ≡ None) × AllMeet (granted held_too timed terms s)
  claim_goes timed names terms s h = on (claim_refused p.scope timed s.case.held terms) refl h
    where
      on : (o : Option (ℕ × Code)) → claim_refused p.scope timed s.case.held terms ≡ o → AllMeet (claim_outcomes held_too p timed names terms s o)
          → (claim_refused p.scope timed s.case.held terms ≡ None) × AllMeet (granted held_too timed terms s)
      on None e h = (e, h)
      on (Some found) e h = absurd (h (Refused p.line (column_at names found.0) found.1) (inl refl))

  give_goes : (names : List VariableTree) (terms : List LockTerm) (s : State) → length names ≡ length terms → AllMeet (give_back p names terms s)
      → (left : List LockTerm) × (all_taken terms s.case.held ≡ Some left) × A (holding left s)
  give_goes [] [] s l h = (s.case.held, refl, h (Goes s) (inl refl))
  give_goes [] (t ∷ terms) s l h = absurd (omega (arith, l))
  give_goes (v ∷ names) [] s l h = absurd (omega (arith, l))
  give_goes (v ∷ names) (t ∷ terms) s l h = on (taken t s.case.held) h (λ mid g. give_goes names terms (holding mid s) (omega (arith, l)) g)
    where
      on : (o : Option (List LockTerm)) → AllMeet (given_back p (column_in v) (give_back p names terms) (one_less s o))
          → ((mid : List LockTerm) → AllMeet (give_back p names terms (holding mid s)) → (left : List LockTerm) × (all_taken terms mid ≡ Some left) × A (holding left s))
          → (left : List LockTerm) × (option_and_then (all_taken terms) o ≡ Some left) × A (holding left s)
      on None h more = absurd (h (Refused p.line (column_in v) NotHeld) (inl refl))
      on (Some mid) h more = more mid h

  released : (s : State) (next : Result State Code → List Outcome) → AllMeet (next (release_all p.scope s)) → ((code : Code) → AllMeet (next (Err code)) → ⊥)
      → (p.scope.summary.drops ≡ true) × AllMeet (next (Ok (holding [] s)))
  released s next h not = on p.scope.summary.drops refl h
    where
      on : (x : Bool) → p.scope.summary.drops ≡ x → AllMeet (next (if x then Ok (holding [] s) else Err SummaryShort)) → (p.scope.summary.drops ≡ true) × AllMeet (next (Ok (holding [] s)))
      on true e h = (e, h)
      on false e h = absurd (not SummaryShort h)

module _ (routines : List RoutineTree) (p : Spot) (w : World) (b : Level) (world : IsWorld p.scope w) (apart : FamiliesApart p.scope.rules.families) (ranked : RankedOnce p.scope.rules.families)
    (S : Case → Type 0) (Q : Quit → Type 0) (n : ℕ)
    (evaluate : (t : Tree) → AreOurs p.scope (in_tree t) → (slots : List Slot) (ts : List Task) (s : State) (A : State → Type 0) → Leads (value p t) s A S Q
    → ((u : State) → A u → FitsValue routines p.scope w b t slots n ts u) → Fits routines p.scope w b slots n (task.Evaluate t ∷ ts) s)
    (variable : (v : VariableTree) → AreOurs p.scope (calls.in_variable v) → (slots : List Slot) (us : List Task) (s : State) (B : State → Type 0) → Leads (capture_variable p v) s B S Q
    → ((u : State) → B u → Fits routines p.scope w b (kepts (made.count_in v) slots) n us u) → Fits routines p.scope w b slots n (in_variable v ++ us) s) where
  abbrev Fit : List Slot → ℕ → List Task → State → Type 0
  Fit = Fits routines p.scope w b

  abbrev IsSafe : Job → Type 0
  IsSafe = Safe routines p.scope w b n

  -- names are evaluated
  names_fit : (names : List VariableTree) → AreOurs p.scope (flat_map calls.in_variable names) → (slots : List Slot) (us : List Task) (s : State) (B : State → Type 0) → Leads (capture_names p names) s B S Q
      → ((u : State) → B u → Fit (kepts (count_all names) slots) n us u) → Fit slots n (flat_map in_variable names ++ us) s
  names_fit [] ours slots us s B l k = k s (leads_stay B S Q s l)
  names_fit (v ∷ names) ours slots us s B l k =
      subst (λ z. Fit slots n z s) (sym (append_assoc (in_variable v) (flat_map in_variable names) us))
      (variable v (ours_left p.scope (calls.in_variable v) (flat_map calls.in_variable names) ours) slots (flat_map in_variable names ++ us) s (λ u. Leads (capture_names p names) u B S Q)
      (leads_both B S Q (capture_variable p v) (capture_names p names) (variable_keeps p v) (names_keep p names) s l)
      (λ u m. names_fit names (ours_right p.scope (calls.in_variable v) (flat_map calls.in_variable names) ours) (kepts (made.count_in v) slots) us u B m
      (λ x i. subst (λ z. Fit z n us x) (sym (kepts_after (made.count_in v) (count_all names) slots)) (k x i))))

  module _ (ts : List Task) (A : State → Type 0) (go : (u : State) → A u → Fit [] n ts u) where
    came : (x : Bool) (i : Job) → IsSafe i → Comes IsSafe (if_free x i)
    came true i h = done IsSafe i h
    came false i h = refused IsSafe _

    -- a claim
    claim_fits : (timed : Bool) (trees : List VariableTree) (terms : List LockTerm) (names : List LockName) (s : State) → AllMeet p A S Q (claim held_too p timed trees terms s)
        → (j : Job) → Describes p.scope w b [] s (idle j) → AreNamed (now j) j.bindings terms names → j.tasks ≡ task.Claim names timed ∷ ts → IsSafe j
    claim_fits timed trees terms names s h j d named tasks =
        let r = claim_goes p A S Q timed trees terms s h in
        step routines p.scope w b n j (task.Claim names timed) ts tasks refl
        (claim_facts p.scope w b j names timed ts tasks
        (λ e m i. all_in_order p.scope w b [] s j d world apart ranked 0 terms names named.named (subst (λ x. claim_refused p.scope x s.case.held terms ≡ None) e r.0) m i))
        (λ free c. by timed r.1 free c)
      where
        held : (u : State) → A u → (i : Job) → Describes p.scope w b [] u (idle i) → IsSafe (doing ts i)
        held u a i d = go u a (doing ts i) d refl

        after : Describes p.scope w b [] (held_too terms s) (idle (held_more names j))
        after = held_law p.scope w b [] s j d terms names named

        in_time : (x : Bool) → AllMeet p A S Q (granted held_too true terms s) → (free : LockName → Bool) → Comes IsSafe (run.timed_claim free names x (doing ts j))
        in_time true g free =
            came (list_all free names && has_room names j.held) (held_more names (tested true (doing ts j)))
            (held (state.tested One (held_too terms s)) (g (Goes (state.tested One (held_too terms s))) (inl refl)) (tested true (held_more names j))
            (tested_law routines p w b world S Q n evaluate (held_too terms s) (held_more names j) One true refl after))
        in_time false g free =
            done IsSafe (tested false (doing ts j))
            (held (state.tested Zero s) (g (Goes (state.tested Zero s)) (inr (inl refl))) (tested false j) (tested_law routines p w b world S Q n evaluate s j Zero false refl d))

        by : (x : Bool) → AllMeet p A S Q (granted held_too x terms s) → (free : LockName → Bool) (c : _) → Comes IsSafe (run.claim_step free c names x (doing ts j))
        by false g free c =
            unasked IsSafe c _ (came (list_all free names && has_room names j.held) (held_more names (doing ts j)) (held (held_too terms s) (g (Goes (held_too terms s)) (inl refl)) (held_more names j) after))
        by true g free c = of_truth IsSafe c _ (λ x. in_time x g free)

    -- released names
    give_fits : (trees : List VariableTree) (terms : List LockTerm) (names : List LockName) (s : State) → length trees ≡ length terms → AllMeet p A S Q (give_back p trees terms s)
        → (j : Job) → Describes p.scope w b [] s (idle j) → AreNamed (now j) j.bindings terms names → j.tasks ≡ task.Release names ∷ ts → IsSafe j
    give_fits trees terms names s l h j d named tasks =
        let r = give_goes p A S Q trees terms s l h in
        plain_step routines p.scope w b [] n ts s (task.Release names) refl j tasks (λ free c.
        unasked IsSafe c _ (done IsSafe (doing ts (record j { held = all_lowered names j.held }))
        (go (holding r.0 s) r.2 (doing ts (record j { held = all_lowered names j.held })) (less_law p.scope w b [] s j d terms names named.named r.0 r.1) refl)))

    -- LOCK by its sign
    sign_fits : (by : Sign) (timed : Bool) (trees : List VariableTree) (terms : List LockTerm) (names : List LockName) (s : State) → length trees ≡ length terms
        → AllMeet p A S Q (walked.by_sign held_too p by timed trees terms s) → (j : Job) → Describes p.scope w b [] s (idle j) → AreNamed (now j) j.bindings terms names
        → j.tasks ≡ run.by_sign by names timed ++ ts → IsSafe j
    sign_fits sign.Plus timed trees terms names s l h j d named tasks = claim_fits timed trees terms names s h j d named tasks
    sign_fits sign.Minus timed trees terms names s l h j d named tasks = give_fits trees terms names s l h j d named tasks
    sign_fits sign.None timed trees terms names s l h j d named tasks =
        let r = released p A S Q s (claim_after held_too p timed trees terms) h (λ code g. g (Refused p.line p.word code) (inl refl)) in
        let i : Job = doing (task.Claim names timed ∷ ts) (record j { held = [] }) in
        plain_step routines p.scope w b [] n (task.Claim names timed ∷ ts) s task.ReleaseAll refl j tasks (λ free c.
        unasked IsSafe c _ (done IsSafe i (claim_fits timed trees terms names (holding [] s) r.1 i (none_law p.scope w b [] s j d world r.0) named refl)))

    -- names whose subscripts are computed
    row_fits : (by : Sign) (timed : Bool) (trees : List VariableTree) (u : State) → AllMeet p A S Q (lock_row held_too p by timed trees u)
        → Fit (kepts (count_all trees) []) n (task.LockNamed by trees timed ∷ ts) u
    row_fits by timed trees u h =
        on (terms_of trees (last_captured (count_all trees) u)) refl
        (subst (λ k. AllMeet p A S Q (lock_terms held_too p by timed trees (without_last k u) (terms_of trees (last_captured k u)))) (count_all_same trees) h)
      where
        captured_local : (x : List ℕ) → some_local x (last_captured (count_all trees) u) ≡ true → some_local x u.captured ≡ true
        captured_local x h =
            let k = length u.captured - count_all trees in
            subst (λ z. some_local x z ≡ true) (take-append-drop k u.captured) (local_back x (take k u.captured) (drop k u.captured) h)

        on : (o : Option (List LockTerm)) → terms_of trees (last_captured (count_all trees) u) ≡ o → AllMeet p A S Q (lock_terms held_too p by timed trees (without_last (count_all trees) u) o)
            → Fit (kepts (count_all trees) []) n (task.LockNamed by trees timed ∷ ts) u
        on None e h = absurd (h (Refused p.line p.word UnknownSubscript) (inl refl))
        on (Some terms) e h = λ j d tasks.
            let count : ℕ = count_all trees in
            let names : List LockName = names_of (last_values count j) trees in
            let i : Job = doing (run.by_sign by names timed ++ ts) (dropped count j) in
            plain_step routines p.scope w b (kepts count []) n ts u (task.LockNamed by trees timed) refl j tasks (λ free c.
            unasked IsSafe c _ (done IsSafe i
            (sign_fits by timed trees terms names (without_last count u) (as_many trees (last_captured count u) terms e) h i
            (forget_law p.scope.rules p.scope w b [] count u (idle j) d)
            (record {
              named = names_stand (now j) trees (last_captured count u) (last_values count j) terms (last_stand p.scope.rules p.scope w b [] count u (idle j) d) e;
              sole = λ x m. d.captured_sole x (captured_local x (terms_local x trees (last_captured count u) terms e m));
            }) refl)))

    -- without arguments
    release_fits : (s : State) → Leads (each (release p)) s A S Q → Fit [] n (task.ReleaseAll ∷ ts) s
    release_fits s l j d tasks =
        let r = released p A S Q s (placed p.line p.word) (leads_each A S Q (release p) s l) (λ code g. g (Refused p.line p.word code) (inl refl)) in
        let i : Job = doing ts (record j { held = [] }) in
        plain_step routines p.scope w b [] n ts s task.ReleaseAll refl j tasks (λ free c.
        unasked IsSafe c _ (done IsSafe i (go (holding [] s) (r.1 (Goes (holding [] s)) (inl refl)) i (none_law p.scope w b [] s j d world r.0) refl)))

  -- one argument
  lock_one_fits : (l : LockTree) → AreOurs p.scope (in_lock l) → (ts : List Task) (s : State) (A : State → Type 0) → Leads (lock_argument p l) s A S Q → ((u : State) → A u → Fit [] n ts u)
      → Fit [] n (lock_parts l ++ ts) s
  lock_one_fits (LockNames by names timeout) ours ts s A l k =
      let row : State → List Outcome = lock_row held_too p by (is_timed timeout) names in
      let third : Walk → Walk = λ x. few p.line p.word (each row x) in
      let second : Walk → Walk = λ x. few p.line p.word (each row (value_if p timeout x)) in
      let first : Walk → Walk = λ x. few p.line p.word (each row (value_if p timeout (each (known_names p names) x))) in
      let third_keeps = both (each row) (few p.line p.word) (each_keeps row) (few_keeps p.line p.word) in
      let second_keeps = both (value_if p timeout) third (if_keeps p timeout) third_keeps in
      let first_keeps = both (each (known_names p names)) second (each_keeps (known_names p names)) second_keeps in
      let last : Task = task.LockNamed by names (is_some timeout) in
      let grouped : ((flat_map in_variable names ++ evaluated_if timeout) ++ last ∷ []) ++ ts ≡ flat_map in_variable names ++ (evaluated_if timeout ++ last ∷ ts) =
      append_assoc (flat_map in_variable names ++ evaluated_if timeout) (last ∷ []) ts ∙ append_assoc (flat_map in_variable names) (evaluated_if timeout) (last ∷ ts) in
      subst (λ z. Fit [] n z s) (sym grouped)
      (names_fit names (ours_left p.scope (flat_map calls.in_variable names) (in_option timeout) ours) [] (evaluated_if timeout ++ last ∷ ts) s (λ u. Leads first u A S Q)
      (leads_both A S Q (capture_names p names) first (names_keep p names) first_keeps s l)
      (λ u m.
      let known : Leads second u A S Q =
      known_goes p (λ x. Leads second x A S Q) S Q names u
      (leads_each (λ x. Leads second x A S Q) S Q (known_names p names) u (leads_both A S Q (each (known_names p names)) second (each_keeps (known_names p names)) second_keeps u m)) in
      optional_fits routines p w b S Q n evaluate timeout (ours_right p.scope (flat_map calls.in_variable names) (in_option timeout) ours) (kepts (count_all names) []) (last ∷ ts) u (λ x. Leads third x A S Q)
      (leads_both A S Q (value_if p timeout) third (if_keeps p timeout) third_keeps u known)
      (λ x q.
      let B : State → Type 0 = λ y. Leads (few p.line p.word) y A S Q in
      row_fits ts B (λ y i. k y (leads_few A S Q p.line p.word y i)) by (is_some timeout) names x
      (subst (λ z. AllMeet p B S Q (lock_row held_too p by z names x)) (timed_same timeout)
      (leads_each B S Q row x (leads_both A S Q (each row) (few p.line p.word) (each_keeps row) (few_keeps p.line p.word) x q))))))

  -- LOCK
  pub lock_fits : (locks : List LockTree) → AreOurs p.scope (in_action (Lock locks)) → (block : LineTrees) (ts : List Task) (s : State)
      → ((k : ℕ) (u : State) → acts_to p (Lock locks) k s u → (j : Job) → Describes p.scope w b [] u (idle j) → j.tasks ≡ task.NextArgument (Lock locks) k ∷ (arguments_from (Lock locks) k ++ ts) → KeepsIn p.scope w b j)
      → (A : State → Type 0) → Leads (act p (Lock locks)) s A S Q → ((u : State) → A u → Fit [] n ts u) → Fit [] n (action_parts block (Lock locks) ++ ts) s
  lock_fits [] ours block ts s mark A l k = release_fits ts A k s l
  lock_fits (x ∷ locks) ours block ts s mark A l k =
      turns_fit routines p w b S Q n lock_argument (lock_keeps p) lock_parts in_lock ts (λ y its more u B m g. lock_one_fits y its more u B m g) (Lock (x ∷ locks)) (x ∷ locks) s mark ours A l k
