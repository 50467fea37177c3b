-- SET of any targets: what they need, and the assignments.
use Rattle.std.proofs.Common.{◌≡◌, ℕ, ◌+◌, ◌-◌, List, [], ◌∷◌, ◌++◌, length, take, drop, reverse, None, refl, sym, ap, ◌∙◌, subst, arith, append_assoc, length-append}
use Rattle.std.specs.Prelude.{flat_map}
use Rattle.std.specs.List.{AllZip}
use Rattle.std.proofs.lemmas.List.{reverse-append}
use Rattle.std.proofs.Math.Seq.{drop-append_seam, take-append_seam}
use Rattle.mlk_names.specs.declared.symbol.Sym.{Sym}
use Rattle.mlk_names.specs.Symbols.{Assignment, StandsFor}
use Rattle.mlk_syntax.specs.ExprTrees.{Tree, Lit, Free, LocalName, GlobalName, SpecialName, Prefixed, Chain, PatternText, Func, Selected, BareCall, CallOf, Subs, count_subs}
use Rattle.mlk_syntax.specs.Trees.{RoutineTree, VariableTree, Named, TargetTree, SetWhole, SetPart}
use Rattle.mlk_cert_parts.specs.declared.case.Case.{Case}
use Rattle.mlk_machine_jobs.specs.Tasks as task
use Rattle.mlk_machine_jobs.specs.Tasks.{Task}
use Rattle.mlk_machine_jobs.specs.Expressions.{each_sub}
use Rattle.mlk_machine_jobs.specs.Expressions as run
use Rattle.mlk_machine_jobs.specs.Commands.{subs_in, in_variable, target_parts}
use Rattle.mlk_machine_jobs.specs.Commands as made
use Rattle.mlk_machine_jobs.specs.Assigning.{subs_of_target, parts_in, count_parts}
use Rattle.mlk_walk_state.specs.declared.state.State.{State}
use Rattle.mlk_walk_exprs.specs.declared.walk.Quit.{Quit}
use Rattle.mlk_walk_exprs.specs.Spots.{Spot}
use Rattle.mlk_walk_exprs.specs.Expressions.{capture_subs, value, values}
use Rattle.mlk_walk_commands.specs.Variables.{subs_of, name_in, capture_variable}
use Rattle.mlk_walk_commands.specs.Arguments.{capture_target, capture_targets}
use Rattle.mlk_walk_laws.proofs.Walks.{value_keeps, values_keep, variable_keeps, target_keeps, targets_keep}
use Rattle.mlk_soundness_machine.specs.Described.{World, Level, Slot, Bare, Fills}
use Rattle.mlk_soundness_machine.proofs.Values.{Fits, FitsValue}
use Rattle.mlk_soundness_machine.proofs.Stack.{kepts, taken}
use Rattle.mlk_program.specs.Calls as calls
use Rattle.mlk_program.specs.Calls.{in_tree, in_subs, in_target}
use Rattle.mlk_soundness_machine.proofs.Unused.{bares, bares_taken}
use Rattle.mlk_soundness_walk.specs.Ours.{AreOurs}
use Rattle.mlk_soundness_walk.proofs.Ours.{ours_left, ours_right}
use Rattle.mlk_soundness_walk.proofs.Alone.{Leads}
use Rattle.mlk_soundness_walk.proofs.Alone.{leads_both, leads_stay}

-- both list a variable's subscripts
pub subs_same : (v : VariableTree) → subs_of (name_in v) ≡ subs_in v
subs_same (Named column (LocalName name subs)) = refl
subs_same (Named column (GlobalName caret name subs)) = refl
subs_same (Named column (Lit v)) = refl
subs_same (Named column Free) = refl
subs_same (Named column (SpecialName s)) = refl
subs_same (Named column (Prefixed op t)) = refl
subs_same (Named column (Chain first rest)) = refl
subs_same (Named column (PatternText text)) = refl
subs_same (Named column (Func f args)) = refl
subs_same (Named column (Selected cs)) = refl
subs_same (Named column (BareCall c callee)) = refl
subs_same (Named column (CallOf c callee given)) = refl

-- what is on the stack after targets were evaluated
abbrev pub target_slots : TargetTree → List Slot → List Slot
target_slots (SetWhole v) slots = kepts (made.count_in v) slots
target_slots (SetPart part v args) slots = bares (length args) (kepts (made.count_in v) slots)

abbrev pub all_slots : List TargetTree → List Slot → List Slot
all_slots [] slots = slots
all_slots (t ∷ targets) slots = all_slots targets (target_slots t slots)

-- the values of the subscripts among what targets need
abbrev pub subs_values : List TargetTree → List (List ℕ) → List (List ℕ)
subs_values [] needs = []
subs_values (t ∷ targets) needs = take (subs_of_target t) needs ++ subs_values targets (drop (parts_in t) needs)

-- what targets need: symbols of subscripts, oldest first, with their values
pub record AllTaken (a : Assignment) (targets : List TargetTree) (slots : List Slot) (ss : List Sym) (values below : List (List ℕ)) : Type 0 where
  pub front : List Sym
  pub needs : List (List ℕ)
  pub syms : List Sym
  pub more : List (List ℕ)
  pub symbols : ss ≡ reverse front ++ syms
  pub are : values ≡ reverse needs ++ more
  pub many : length needs ≡ count_parts targets
  pub stand : AllZip (StandsFor a) front (subs_values targets needs)
  pub fills : Fills a slots syms more below

zip_append : (a : Assignment) (xs : List Sym) (us : List (List ℕ)) (ys : List Sym) (vs : List (List ℕ)) → AllZip (StandsFor a) xs us → AllZip (StandsFor a) ys vs → AllZip (StandsFor a) (xs ++ ys) (us ++ vs)
zip_append a [] [] ys vs h k = k
zip_append a [] (u ∷ us) ys vs h k = absurd h
zip_append a (x ∷ xs) [] ys vs h k = absurd h
zip_append a (x ∷ xs) (u ∷ us) ys vs h k = (h.0, zip_append a xs us ys vs h.1 k)

turn_append : {A : Type 0} (xs ys zs : List A) → reverse ys ++ (reverse xs ++ zs) ≡ reverse (xs ++ ys) ++ zs
turn_append xs ys zs = sym (append_assoc (reverse ys) (reverse xs) zs) ∙ ap (λ z. z ++ zs) (sym (reverse-append xs ys))

take_front : {A : Type 0} (xs ys zs : List A) (n : ℕ) → length xs ≡ n → take n ((xs ++ ys) ++ zs) ≡ xs
take_front xs ys zs n e = ap (λ k. take k ((xs ++ ys) ++ zs)) (sym e) ∙ ap (take (length xs)) (append_assoc xs ys zs) ∙ take-append_seam xs (ys ++ zs)

drop_front : {A : Type 0} (xs zs : List A) (n : ℕ) → length xs ≡ n → drop n (xs ++ zs) ≡ zs
drop_front xs zs n e = ap (λ k. drop k (xs ++ zs)) (sym e) ∙ drop-append_seam xs zs

pub all_taken : (a : Assignment) (targets : List TargetTree) (slots : List Slot) (ss : List Sym) (values below : List (List ℕ)) → Fills a (all_slots targets slots) ss values below → AllTaken a targets slots ss values below
all_taken a [] slots ss values below f = record { front = []; needs = []; syms = ss; more = values; symbols = refl; are = refl; many = refl; stand = tt; fills = f }
all_taken a (SetWhole v ∷ targets) slots ss values below f =
    let r = all_taken a targets (kepts (made.count_in v) slots) ss values below f in
    let q = taken a (made.count_in v) slots r.syms r.more below r.fills in
    record {
      front = q.front ++ r.front;
      needs = q.vals ++ r.needs;
      syms = q.syms;
      more = q.more;
      symbols = r.symbols ∙ ap (λ z. reverse r.front ++ z) q.symbols ∙ turn_append q.front r.front q.syms;
      are = r.are ∙ ap (λ z. reverse r.needs ++ z) q.values_are ∙ turn_append q.vals r.needs q.more;
      many = (let e = length-append q.vals r.needs in let g = q.many in let h = r.many in omega (arith, e, g, h));
      stand =
          let one : take (made.count_in v) (q.vals ++ r.needs) ≡ q.vals = ap (λ k. take k (q.vals ++ r.needs)) (sym q.many) ∙ take-append_seam q.vals r.needs in
          let rest : drop (made.count_in v) (q.vals ++ r.needs) ≡ r.needs = drop_front q.vals r.needs (made.count_in v) q.many in
          subst (λ z. AllZip (StandsFor a) (q.front ++ r.front) (z ++ subs_values targets (drop (made.count_in v) (q.vals ++ r.needs)))) (sym one)
          (subst (λ z. AllZip (StandsFor a) (q.front ++ r.front) (q.vals ++ subs_values targets z)) (sym rest) (zip_append a q.front q.vals r.front (subs_values targets r.needs) q.stand r.stand));
      fills = q.fills;
    }
all_taken a (SetPart part v args ∷ targets) slots ss values below f =
    let r = all_taken a targets (bares (length args) (kepts (made.count_in v) slots)) ss values below f in
    let p = bares_taken a (length args) (kepts (made.count_in v) slots) r.syms r.more below r.fills in
    let q = taken a (made.count_in v) slots r.syms p.more below p.fills in
    let size : length (q.vals ++ p.vals) ≡ made.count_in v + length args = (let e = length-append q.vals p.vals in let g = q.many in let h = p.many in omega (arith, e, g, h)) in
    record {
      front = q.front ++ r.front;
      needs = (q.vals ++ p.vals) ++ r.needs;
      syms = q.syms;
      more = q.more;
      symbols = r.symbols ∙ ap (λ z. reverse r.front ++ z) q.symbols ∙ turn_append q.front r.front q.syms;
      are = r.are ∙ ap (λ z. reverse r.needs ++ z) (p.are ∙ ap (λ z. reverse p.vals ++ z) q.values_are ∙ turn_append q.vals p.vals q.more) ∙ turn_append (q.vals ++ p.vals) r.needs q.more;
      many = (let e = length-append (q.vals ++ p.vals) r.needs in let h = r.many in omega (arith, e, size, h));
      stand =
          let one : take (made.count_in v) ((q.vals ++ p.vals) ++ r.needs) ≡ q.vals = take_front q.vals p.vals r.needs (made.count_in v) q.many in
          let rest : drop (made.count_in v + length args) ((q.vals ++ p.vals) ++ r.needs) ≡ r.needs = drop_front (q.vals ++ p.vals) r.needs (made.count_in v + length args) size in
          subst (λ z. AllZip (StandsFor a) (q.front ++ r.front) (z ++ subs_values targets (drop (made.count_in v + length args) ((q.vals ++ p.vals) ++ r.needs)))) (sym one)
          (subst (λ z. AllZip (StandsFor a) (q.front ++ r.front) (q.vals ++ subs_values targets z)) (sym rest) (zip_append a q.front q.vals r.front (subs_values targets r.needs) q.stand r.stand));
      fills = q.fills;
    }

-- what targets need is evaluated
module _ (routines : List RoutineTree) (p : Spot) (w : World) (b : Level) (S : Case → Type 0) (Q : Quit → Type 0) (n : ℕ)
    (evaluate : (t : Tree) → AreOurs p.scope (in_tree t) → (slots : List Slot) (ts : List Task) (s : State) (A : State → Type 0) → Leads (value p t) s A S Q
    → ((u : State) → A u → FitsValue routines p.scope w b t slots n ts u) → Fits routines p.scope w b slots n (task.Evaluate t ∷ ts) s)
    (subs_fit : (subs : Subs) → AreOurs p.scope (in_subs subs) → (slots : List Slot) (ts : List Task) (s : State) (A : State → Type 0) → Leads (capture_subs p subs) s A S Q
    → ((u : State) → A u → Fits routines p.scope w b (kepts (count_subs subs) slots) n ts u) → Fits routines p.scope w b slots n (each_sub subs ++ ts) s) where
  abbrev Fit : List Slot → ℕ → List Task → State → Type 0
  Fit = Fits routines p.scope w b

  in_its_subs : (v : VariableTree) → AreOurs p.scope (calls.in_variable v) → AreOurs p.scope (in_subs (subs_in v))
  in_its_subs (Named column (LocalName name subs)) ours = ours
  in_its_subs (Named column (GlobalName caret name subs)) ours = ours
  in_its_subs (Named column (Lit v)) ours = λ c i. absurd (omega (arith, i.1))
  in_its_subs (Named column Free) ours = λ c i. absurd (omega (arith, i.1))
  in_its_subs (Named column (SpecialName s)) ours = λ c i. absurd (omega (arith, i.1))
  in_its_subs (Named column (Prefixed op t)) ours = λ c i. absurd (omega (arith, i.1))
  in_its_subs (Named column (Chain first rest)) ours = λ c i. absurd (omega (arith, i.1))
  in_its_subs (Named column (PatternText text)) ours = λ c i. absurd (omega (arith, i.1))
  in_its_subs (Named column (Func f args)) ours = λ c i. absurd (omega (arith, i.1))
  in_its_subs (Named column (Selected cs)) ours = λ c i. absurd (omega (arith, i.1))
  in_its_subs (Named column (BareCall k callee)) ours = λ c i. absurd (omega (arith, i.1))
  in_its_subs (Named column (CallOf k callee given)) ours = λ c i. absurd (omega (arith, i.1))

  values_fit : (args : List Tree) → AreOurs p.scope (flat_map in_tree args) → (slots : List Slot) (ts : List Task) (s : State) (A : State → Type 0) → Leads (values p args) s A S Q → ((u : State) → A u → Fit (bares (length args) slots) n ts u)
      → Fit slots n (flat_map (λ t. task.Evaluate t ∷ []) args ++ ts) s
  values_fit [] ours slots ts s A l k = k s (leads_stay A S Q s l)
  values_fit (t ∷ args) ours slots ts s A l k =
      evaluate t (ours_left p.scope (in_tree t) (flat_map in_tree args) ours) slots (flat_map (λ t. task.Evaluate t ∷ []) args ++ ts) s (λ u. Leads (values p args) u A S Q)
      (leads_both A S Q (value p t) (values p args) (value_keeps p t) (values_keep p args) s l)
      (λ u m j v more d e knows tasks. values_fit args (ours_right p.scope (in_tree t) (flat_map in_tree args) ours) (Bare None ∷ slots) ts u A m k j d tasks)

  pub variable_fits : (v : VariableTree) → AreOurs p.scope (calls.in_variable v) → (slots : List Slot) (ts : List Task) (s : State) (A : State → Type 0) → Leads (capture_variable p v) s A S Q → ((u : State) → A u → Fit (kepts (made.count_in v) slots) n ts u)
      → Fit slots n (in_variable v ++ ts) s
  variable_fits v ours slots ts s A l k = subs_fit (subs_in v) (in_its_subs v ours) slots ts s A (subst (λ z. Leads (capture_subs p z) s A S Q) (subs_same v) l) k

  target_fits : (t : TargetTree) → AreOurs p.scope (in_target t) → (slots : List Slot) (ts : List Task) (s : State) (A : State → Type 0) → Leads (λ v. capture_target p v t) s A S Q → ((u : State) → A u → Fit (target_slots t slots) n ts u)
      → Fit slots n (target_parts t ++ ts) s
  target_fits (SetWhole v) ours slots ts s A l k = variable_fits v ours slots ts s A l k
  target_fits (SetPart part v args) ours slots ts s A l k =
      subst (λ z. Fit slots n z s) (sym (append_assoc (in_variable v) (flat_map (λ t. task.Evaluate t ∷ []) args) ts))
      (variable_fits v (ours_left p.scope (calls.in_variable v) (flat_map in_tree args) ours) slots (flat_map (λ t. task.Evaluate t ∷ []) args ++ ts) s (λ u. Leads (values p args) u A S Q)
      (leads_both A S Q (capture_variable p v) (values p args) (variable_keeps p v) (values_keep p args) s l)
      (λ u m. values_fit args (ours_right p.scope (calls.in_variable v) (flat_map in_tree args) ours) (kepts (made.count_in v) slots) ts u A m k))

  pub targets_fit : (targets : List TargetTree) → AreOurs p.scope (flat_map in_target targets) → (slots : List Slot) (ts : List Task) (s : State) (A : State → Type 0) → Leads (capture_targets p targets) s A S Q
      → ((u : State) → A u → Fit (all_slots targets slots) n ts u) → Fit slots n (flat_map target_parts targets ++ ts) s
  targets_fit [] ours slots ts s A l k = k s (leads_stay A S Q s l)
  targets_fit (t ∷ targets) ours slots ts s A l k =
      subst (λ z. Fit slots n z s) (sym (append_assoc (target_parts t) (flat_map target_parts targets) ts))
      (target_fits t (ours_left p.scope (in_target t) (flat_map in_target targets) ours) slots (flat_map target_parts targets ++ ts) s (λ u. Leads (capture_targets p targets) u A S Q)
      (leads_both A S Q (λ v. capture_target p v t) (capture_targets p targets) (target_keeps p t) (targets_keep p targets) s l)
      (λ u m. targets_fit targets (ours_right p.scope (in_target t) (flat_map in_target targets) ours) (target_slots t slots) ts u A m k))
