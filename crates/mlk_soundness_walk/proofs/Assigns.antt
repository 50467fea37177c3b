-- SET: the assignments, one target after another.
use Rattle.std.proofs.Common.{◌≡◌, ℕ, zero, suc, ◌+◌, ◌-◌, ◌≤◌, List, [], ◌∷◌, ◌++◌, length, take, drop, reverse, None, refl, sym, ap, ◌∙◌, subst, arith, inl, append_assoc, append-nil}
use Rattle.std.specs.List.{AllZip}
use Rattle.mlk_names.specs.declared.symbol.Sym.{Sym}
use Rattle.mlk_names.specs.declared.reference.Extent.TheVariants.{Node}
use Rattle.mlk_names.specs.declared.reference.Access.TheVariants.{Reads, Writes}
use Rattle.mlk_names.specs.Symbols.{Assignment, StandsFor}
use Rattle.mlk_cert_parts.specs.declared.names.NameSet.TheVariants.{Only}
use Rattle.mlk_syntax.specs.ExprTrees.{Tree, LocalName, GlobalName, no_subs, sub, count_subs}
use Rattle.mlk_syntax.specs.Trees.{RoutineTree, VariableTree, Named, TargetTree, SetWhole, SetPart}
use Rattle.mlk_cert_parts.specs.declared.case.Case.{Case}
use Rattle.mlk_machine_jobs.specs.Tasks as task
use Rattle.mlk_machine_jobs.specs.Tasks.{Task, Job}
use Rattle.mlk_machine_jobs.specs.Choices.{doing, dropped}
use Rattle.std.proofs.Math.Seq.{drop-append_seam, take-append_seam}
use Rattle.mlk_machine_jobs.specs.Commands as made
use Rattle.mlk_walk_commands.specs.Arguments.{variable_in, assign, assign_all}
use Rattle.mlk_walk_laws.proofs.Walks.{assigned_keeps, all_assigned_keep}
use Rattle.mlk_soundness_walk.proofs.Sets.{subs_same, subs_values}
use Rattle.mlk_machine_jobs.specs.Assigning.{assigned, assignments, subs_of_target, parts_in, count_parts}
use Rattle.mlk_walk_state.specs.declared.state.State.{State}
use Rattle.mlk_walk_state.specs.Scope.{Scope}
use Rattle.mlk_syntax.specs.declared.command.Part.{Part}
use Rattle.mlk_machine_jobs.specs.Choices.{touch_at}
use Rattle.mlk_calls.specs.Changes.{changed_state}
use Rattle.mlk_walk_exprs.specs.declared.walk.Quit.{Quit}
use Rattle.mlk_walk_exprs.specs.Walks.{Goes, each}
use Rattle.mlk_walk_exprs.specs.Spots.{Spot}
use Rattle.mlk_walk_exprs.specs.References.{checked}
use Rattle.mlk_walk_commands.specs.Variables.{count_in, change_at}
use Rattle.mlk_walk_commands.specs.Arguments.{symbols_at, read_part, write_variable}
use Rattle.mlk_walk_laws.proofs.Transfers.{each_keeps}
use Rattle.mlk_soundness_machine.specs.Reads.{now}
use Rattle.mlk_soundness_machine.specs.Described.{World, Level, Slot, Spent, Fills, IsWorld, idle, Describes}
use Rattle.mlk_soundness_machine.proofs.Worlds.{drop_law}
use Rattle.mlk_soundness_machine.proofs.Steps.{done, unasked}
use Rattle.mlk_soundness_machine.proofs.Changes.{store, store_any}
use Rattle.mlk_soundness_machine.proofs.Touches.{touch}
use Rattle.mlk_soundness_machine.proofs.Values.{Safe, Fits, plain_step}
use Rattle.mlk_soundness_machine.proofs.Stack.{back_one, turned_twice}
use Rattle.mlk_soundness_walk.proofs.Alone.{Leads}
use Rattle.mlk_soundness_walk.proofs.Alone.{leads_both, leads_each, leads_stay}
use Rattle.mlk_soundness_walk.proofs.Goes.{covered_goes}
use Rattle.mlk_soundness_walk.proofs.Commands.{changed_goes}

-- captured symbols whose values the job no longer has
abbrev pub spents : List (List ℕ) → List Slot → List Slot
spents [] slots = slots
spents (v ∷ vs) slots = spents vs (Spent v ∷ slots)

pub spent_fills : (a : Assignment) (captured : List Sym) (vals : List (List ℕ)) (slots : List Slot) (ss : List Sym) (values below : List (List ℕ)) → AllZip (StandsFor a) captured vals → Fills a slots ss values below
    → Fills a (spents vals slots) (reverse captured ++ ss) values below
spent_fills a [] [] slots ss values below z f = f
spent_fills a [] (v ∷ vals) slots ss values below z f = absurd z
spent_fills a (s ∷ captured) [] slots ss values below z f = absurd z
spent_fills a (s ∷ captured) (v ∷ vals) slots ss values below z f =
    subst (λ x. Fills a (spents vals (Spent v ∷ slots)) x values below) (back_one s captured ss) (spent_fills a captured vals (Spent v ∷ slots) (s ∷ ss) values below z.1 (z.0, f))

pub record SpentTaken (a : Assignment) (vals : List (List ℕ)) (slots : List Slot) (ss : List Sym) (values below : List (List ℕ)) : Type 0 where
  pub front : List Sym
  pub syms : List Sym
  pub symbols : ss ≡ reverse front ++ syms
  pub stand : AllZip (StandsFor a) front vals
  pub fills : Fills a slots syms values below

pub spent_taken : (a : Assignment) (vals : List (List ℕ)) (slots : List Slot) (ss : List Sym) (values below : List (List ℕ)) → Fills a (spents vals slots) ss values below → SpentTaken a vals slots ss values below
spent_taken a [] slots ss values below f = record { front = []; syms = ss; symbols = refl; stand = tt; fills = f }
spent_taken a (v ∷ vals) slots ss values below f = one (spent_taken a vals (Spent v ∷ slots) ss values below f)
  where
    by : (r : SpentTaken a vals (Spent v ∷ slots) ss values below) (syms : List Sym) → r.syms ≡ syms → Fills a (Spent v ∷ slots) syms values below → SpentTaken a (v ∷ vals) slots ss values below
    by r [] e f = absurd f
    by r (s ∷ syms) e f = record { front = s ∷ r.front; syms = syms; symbols = r.symbols ∙ ap (λ z. reverse r.front ++ z) e ∙ back_one s r.front syms; stand = (f.0, r.stand); fills = f.1 }

    one : SpentTaken a vals (Spent v ∷ slots) ss values below → SpentTaken a (v ∷ vals) slots ss values below
    one r = by r r.syms refl r.fills

-- all captured symbols denote these values
no_symbols : (a : Assignment) (ss : List Sym) (values below : List (List ℕ)) → Fills a [] ss values below → ss ≡ []
no_symbols a [] values below f = refl
no_symbols a (s ∷ ss) values below f = absurd f

module _ (sc : Scope) (w : World) (b : Level) (vals : List (List ℕ)) (s : State) (j : Job) (d : Describes sc w b (spents vals []) s j) where
  pub captured_stand : AllZip (StandsFor (now j)) s.captured vals
  captured_stand =
      let r = spent_taken (now j) vals [] (reverse s.captured) j.values w.values d.values in
      let e : reverse s.captured ≡ reverse r.front = r.symbols ∙ ap (λ z. reverse r.front ++ z) (no_symbols (now j) r.syms j.values w.values r.fills) ∙ append-nil (reverse r.front) in
      let g : s.captured ≡ r.front = sym (turned_twice s.captured) ∙ ap reverse e ∙ turned_twice r.front in
      subst (λ z. AllZip (StandsFor (now j)) z vals) (sym g) r.stand

-- one target
module _ (routines : List RoutineTree) (p : Spot) (w : World) (b : Level) (world : IsWorld p.scope w) (S : Case → Type 0) (Q : Quit → Type 0) (slots : List Slot) (n from : ℕ) (value : List ℕ) (subs : List (List ℕ)) (us : List Task) where
  abbrev Fit : List Task → State → Type 0
  Fit ts s = Fits routines p.scope w b slots n ts s

  abbrev Zipped : ℕ → Type 0
  Zipped count = (u : State) (j : Job) → Describes p.scope w b slots u (idle j) → AllZip (StandsFor (now j)) (symbols_at from count u) subs

  pub whole_fits : (v : VariableTree) → Zipped (count_in v) → (s : State) (A : State → Type 0) → Leads (each (write_variable p from v)) s A S Q → ((u : State) → A u → Fit us u) → Fit (assigned value subs (SetWhole v) ++ us) s
  whole_fits (Named column (LocalName name no_subs)) zip s A l k =
      let r = changed_goes p A S Q column (Only name ∷ []) s (leads_each A S Q (change_at p column (Only name)) s l) in
      store routines p.scope w b world slots n us s name r.0 value (k (changed_state (Only name ∷ []) s) r.1)
  whole_fits (Named column (LocalName name (sub c t rest))) zip s A l k = k s (leads_each A S Q (write_variable p from (Named column (LocalName name (sub c t rest)))) s l (Goes s) (inl refl))
  whole_fits (Named column (GlobalName caret name ss)) zip s A l k = λ j d e.
      let r = covered_goes A S Q (checked p Node Writes name (symbols_at from (count_subs ss) s) s) p.line caret s (leads_each A S Q (write_variable p from (Named column (GlobalName caret name ss))) s l) in
      touch routines p.scope w b slots n us s Node Writes name (symbols_at from (count_subs ss) s) subs r.0 (k s r.1) j d (zip s j d) e
  whole_fits (Named column x) zip s A l k = k s (leads_each A S Q (write_variable p from (Named column x)) s l (Goes s) (inl refl))

  pub part_fits : (part : Part) (v : VariableTree) (args : List Tree) → Zipped (count_in v) → (s : State) (A : State → Type 0)
      → Leads (λ x. each (write_variable p from v) (each (read_part p from v) x)) s A S Q → ((u : State) → A u → Fit us u) → Fit (assigned value subs (SetPart part v args) ++ us) s
  part_fits part (Named column (LocalName name no_subs)) args zip s A l k =
      let m = leads_both A S Q (each (read_part p from (Named column (LocalName name no_subs)))) (each (write_variable p from (Named column (LocalName name no_subs)))) (each_keeps (read_part p from (Named column (LocalName name no_subs)))) (each_keeps (write_variable p from (Named column (LocalName name no_subs)))) s l in
      let i = leads_each (λ u. Leads (each (write_variable p from (Named column (LocalName name no_subs)))) u A S Q) S Q (read_part p from (Named column (LocalName name no_subs))) s m (Goes s) (inl refl) in
      let r = changed_goes p A S Q column (Only name ∷ []) s (leads_each A S Q (change_at p column (Only name)) s i) in
      store_any routines p.scope w b world slots n us s name r.0 (k (changed_state (Only name ∷ []) s) r.1)
  part_fits part (Named column (LocalName name (sub c t rest))) args zip s A l k =
      let v = Named column (LocalName name (sub c t rest)) in
      let m = leads_both A S Q (each (read_part p from v)) (each (write_variable p from v)) (each_keeps (read_part p from v)) (each_keeps (write_variable p from v)) s l in
      let i = leads_each (λ u. Leads (each (write_variable p from v)) u A S Q) S Q (read_part p from v) s m (Goes s) (inl refl) in
      k s (leads_each A S Q (write_variable p from v) s i (Goes s) (inl refl))
  part_fits part (Named column (GlobalName caret name ss)) args zip s A l k = λ j d e.
      let v = Named column (GlobalName caret name ss) in
      let m = leads_both A S Q (each (read_part p from v)) (each (write_variable p from v)) (each_keeps (read_part p from v)) (each_keeps (write_variable p from v)) s l in
      let i = covered_goes (λ u. Leads (each (write_variable p from v)) u A S Q) S Q (checked p Node Reads name (symbols_at from (count_subs ss) s) s) p.line caret s
      (leads_each (λ u. Leads (each (write_variable p from v)) u A S Q) S Q (read_part p from v) s m) in
      let r = covered_goes A S Q (checked p Node Writes name (symbols_at from (count_subs ss) s) s) p.line caret s (leads_each A S Q (write_variable p from v) s i.1) in
      touch routines p.scope w b slots n (task.Drop 1 ∷ task.DoTouch (touch_at name subs Node Writes) ∷ us) s Node Reads name (symbols_at from (count_subs ss) s) subs i.0
      (λ j' v' d' e' tasks'.
      plain_step routines p.scope w b slots n (task.DoTouch (touch_at name subs Node Writes) ∷ us) s (task.Drop 1) refl j' tasks' (λ free c.
      unasked (Safe routines p.scope w b n) c _ (done (Safe routines p.scope w b n) (doing (task.DoTouch (touch_at name subs Node Writes) ∷ us) (dropped 1 j'))
      (let less : Describes p.scope w b slots s (idle (dropped 1 j')) = drop_law p.scope w b None slots s (idle j') d' v' (drop 1 j'.values) e' in
      touch routines p.scope w b slots n us s Node Writes name (symbols_at from (count_subs ss) s) subs r.0 (k s r.1) (doing (task.DoTouch (touch_at name subs Node Writes) ∷ us) (dropped 1 j')) less (zip s (dropped 1 j') less) refl))))
      j d (zip s j d) e
  part_fits part (Named column x) args zip s A l k =
      let m = leads_both A S Q (each (read_part p from (Named column x))) (each (write_variable p from (Named column x))) (each_keeps (read_part p from (Named column x))) (each_keeps (write_variable p from (Named column x))) s l in
      let i = leads_each (λ u. Leads (each (write_variable p from (Named column x))) u A S Q) S Q (read_part p from (Named column x)) s m (Goes s) (inl refl) in
      k s (leads_each A S Q (write_variable p from (Named column x)) s i (Goes s) (inl refl))

-- all targets
zip_take : (a : Assignment) (n : ℕ) (xs : List Sym) (ys : List (List ℕ)) → AllZip (StandsFor a) xs ys → AllZip (StandsFor a) (take n xs) (take n ys)
zip_take a zero xs ys h = tt
zip_take a (suc n) [] [] h = tt
zip_take a (suc n) [] (y ∷ ys) h = absurd h
zip_take a (suc n) (x ∷ xs) [] h = absurd h
zip_take a (suc n) (x ∷ xs) (y ∷ ys) h = (h.0, zip_take a n xs ys h.1)

zip_drop : (a : Assignment) (n : ℕ) (xs : List Sym) (ys : List (List ℕ)) → AllZip (StandsFor a) xs ys → AllZip (StandsFor a) (drop n xs) (drop n ys)
zip_drop a zero xs ys h = h
zip_drop a (suc n) [] [] h = tt
zip_drop a (suc n) [] (y ∷ ys) h = absurd h
zip_drop a (suc n) (x ∷ xs) [] h = absurd h
zip_drop a (suc n) (x ∷ xs) (y ∷ ys) h = zip_drop a n xs ys h.1

pub taken_size : {A : Type 0} (n : ℕ) (xs : List A) → n ≤ length xs → length (take n xs) ≡ n
taken_size zero xs h = refl
taken_size (suc n) [] h = absurd (omega (arith, h))
taken_size (suc n) (x ∷ xs) h = ap suc (taken_size n xs (omega (arith, h)))

pub dropped_size : {A : Type 0} (n : ℕ) (xs : List A) → length (drop n xs) ≡ length xs - n
dropped_size zero xs = omega arith
dropped_size (suc n) [] = omega arith
dropped_size (suc n) (x ∷ xs) = let e = dropped_size n xs in omega (arith, e)

dropped_more : {A : Type 0} (m n : ℕ) (xs : List A) → drop (m + n) xs ≡ drop n (drop m xs)
dropped_more zero n xs = let e : zero + n ≡ n = omega arith in ap (λ k. drop k xs) e
dropped_more {A} (suc m) n [] = nothing (suc m + n) ∙ sym (nothing n)
  where
    nothing : (k : ℕ) → drop {A = A} k [] ≡ []
    nothing zero = refl
    nothing (suc k) = refl
dropped_more (suc m) n (x ∷ xs) = let e : suc m + n ≡ suc (m + n) = omega arith in ap (λ k. drop k (x ∷ xs)) e ∙ dropped_more m n xs

count_is : (v : VariableTree) → count_in v ≡ made.count_in v
count_is v = ap count_subs (subs_same v)

pub enough : (t : TargetTree) (m k : ℕ) → k ≡ parts_in t + m → subs_of_target t ≤ k
enough (SetWhole v) m k e = omega (arith, e)
enough (SetPart part v args) m k e = omega (arith, e)

pub counted : (t : TargetTree) → count_in (variable_in t) ≡ subs_of_target t
counted (SetWhole v) = count_is v
counted (SetPart part v args) = count_is v

module _ (routines : List RoutineTree) (p : Spot) (w : World) (b : Level) (world : IsWorld p.scope w) (S : Case → Type 0) (Q : Quit → Type 0) (vals : List (List ℕ)) (n : ℕ) (value : List ℕ) (us : List Task) where
  abbrev FitSpent : List Task → State → Type 0
  FitSpent ts s = Fits routines p.scope w b (spents vals []) n ts s

  -- symbols from an index on denote the values there
  zipped : (from count : ℕ) (t : TargetTree) (targets : List TargetTree) (needs : List (List ℕ)) → drop from vals ≡ subs_values (t ∷ targets) needs → count ≡ subs_of_target t → subs_of_target t ≤ length needs
      → (u : State) (j : Job) → Describes p.scope w b (spents vals []) u (idle j) → AllZip (StandsFor (now j)) (symbols_at from count u) (take (subs_of_target t) needs)
  zipped from count t targets needs e c le u j d =
      let z = zip_take (now j) count (drop from u.captured) (drop from vals) (zip_drop (now j) from u.captured vals (captured_stand p.scope w b vals u (idle j) d)) in
      let f : take count (drop from vals) ≡ take (subs_of_target t) needs =
      ap (take count) e ∙ ap (λ k. take k (take (subs_of_target t) needs ++ subs_values targets (drop (parts_in t) needs))) (c ∙ sym (taken_size (subs_of_target t) needs le))
      ∙ take-append_seam (take (subs_of_target t) needs) (subs_values targets (drop (parts_in t) needs)) in
      subst (AllZip (StandsFor (now j)) (symbols_at from count u)) f z

  further : (from : ℕ) (t : TargetTree) (targets : List TargetTree) (needs : List (List ℕ)) → drop from vals ≡ subs_values (t ∷ targets) needs → subs_of_target t ≤ length needs
      → drop (from + subs_of_target t) vals ≡ subs_values targets (drop (parts_in t) needs)
  further from t targets needs e le =
      dropped_more from (subs_of_target t) vals ∙ ap (drop (subs_of_target t)) e
      ∙ ap (λ k. drop k (take (subs_of_target t) needs ++ subs_values targets (drop (parts_in t) needs))) (sym (taken_size (subs_of_target t) needs le))
      ∙ drop-append_seam (take (subs_of_target t) needs) (subs_values targets (drop (parts_in t) needs))

  one_fits : (from : ℕ) (t : TargetTree) (subs : List (List ℕ)) → Zipped routines p w b world S Q (spents vals []) n from value subs us (count_in (variable_in t)) → (rest : List Task) (s : State) (A : State → Type 0)
      → Leads (assign p from t) s A S Q → ((u : State) → A u → FitSpent rest u) → FitSpent (assigned value subs t ++ rest) s
  one_fits from (SetWhole v) subs zip rest s A l k = whole_fits routines p w b world S Q (spents vals []) n from value subs rest v zip s A l k
  one_fits from (SetPart part v args) subs zip rest s A l k = part_fits routines p w b world S Q (spents vals []) n from value subs rest part v args zip s A l k

  pub targets_assigned : (targets : List TargetTree) (from : ℕ) (needs : List (List ℕ)) → drop from vals ≡ subs_values targets needs → length needs ≡ count_parts targets → (s : State) (A : State → Type 0)
      → Leads (assign_all p from targets) s A S Q → ((u : State) → A u → FitSpent us u) → FitSpent (assignments value needs targets ++ us) s
  targets_assigned [] from needs e size s A l k = k s (leads_stay A S Q s l)
  targets_assigned (t ∷ targets) from needs e size s A l k =
      let le = enough t (count_parts targets) (length needs) size in
      let rest = assign_all p (from + count_in (variable_in t)) targets in
      let deeper : drop (from + count_in (variable_in t)) vals ≡ subs_values targets (drop (parts_in t) needs) =
      ap (λ c. drop (from + c) vals) (counted t) ∙ further from t targets needs e le in
      let left : length (drop (parts_in t) needs) ≡ count_parts targets = (let x = dropped_size (parts_in t) needs in omega (arith, x, size)) in
      subst (λ z. FitSpent z s) (sym (append_assoc (assigned value (take (subs_of_target t) needs) t) (assignments value (drop (parts_in t) needs) targets) us))
      (one_fits from t (take (subs_of_target t) needs) (zipped from (count_in (variable_in t)) t targets needs e (counted t) le) (assignments value (drop (parts_in t) needs) targets ++ us) s (λ u. Leads rest u A S Q)
      (leads_both A S Q (assign p from t) rest (assigned_keeps p from t) (all_assigned_keep p (from + count_in (variable_in t)) targets) s l)
      (λ u m. targets_assigned targets (from + count_in (variable_in t)) (drop (parts_in t) needs) deeper left u A m k))
