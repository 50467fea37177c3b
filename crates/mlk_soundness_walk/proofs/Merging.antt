-- MERGE: the subscripts of both sides; then the right tree is read, and the left one is written.
use Rattle.std.proofs.Common.{◌≡◌, ℕ, ◌+◌, ◌-◌, Bool, true, false, List, [], ◌∷◌, ◌++◌, length, take, drop, reverse, None, refl, sym, ap, ◌∙◌, subst, arith, inl, append_assoc, length-append}
use Rattle.std.specs.Prelude.{flat_map}
use Rattle.std.specs.List.{AllZip}
use Rattle.std.proofs.lemmas.List.{reverse-append}
use Rattle.std.proofs.Math.Seq.{drop-append_seam, take-append_seam}
use Rattle.mlk_names.specs.Lists.{Among}
use Rattle.mlk_names.specs.Symbols.{StandsFor}
use Rattle.mlk_names.specs.declared.reference.Extent.TheVariants as extent
use Rattle.mlk_names.specs.declared.reference.Access.TheVariants.{Reads, Writes}
use Rattle.mlk_syntax.specs.ExprTrees.{LocalName, GlobalName, Subs, no_subs, sub, count_subs}
use Rattle.mlk_syntax.specs.Trees.{RoutineTree, VariableTree, Named, MergeTree, MergeInto, Merge}
use Rattle.mlk_program.specs.Calls as calls
use Rattle.mlk_program.specs.Calls.{in_merge}
use Rattle.mlk_cert_parts.specs.declared.case.Case.{Case}
use Rattle.mlk_cert_parts.specs.declared.names.NameSet.TheVariants as those
use Rattle.mlk_machine_jobs.specs.Assigning.{merge_source, merge_target}
use Rattle.mlk_machine_jobs.specs.Choices.{doing, dropped, last_values, touch_at}
use Rattle.mlk_machine_jobs.specs.Commands as made
use Rattle.mlk_machine_jobs.specs.Commands.{in_variable, merge_parts}
use Rattle.mlk_machine_jobs.specs.Tasks as task
use Rattle.mlk_machine_jobs.specs.Tasks.{Task, Job}
use Rattle.mlk_walk_state.specs.Scope.{Scope}
use Rattle.mlk_walk_state.specs.States.{last_captured, without_last}
use Rattle.mlk_walk_state.specs.declared.state.State.{State}
use Rattle.mlk_calls.specs.Changes.{changed_state}
use Rattle.mlk_walk_exprs.specs.References.{checked}
use Rattle.mlk_walk_exprs.specs.Spots.{Spot}
use Rattle.mlk_walk_exprs.specs.Walks.{Outcome, Goes, each}
use Rattle.mlk_walk_exprs.specs.declared.walk.Quit.{Quit}
use Rattle.mlk_walk_exprs.specs.declared.walk.Walk.{Walk}
use Rattle.mlk_walk_commands.specs.Arguments.{kill_row, merge_from, merge_argument}
use Rattle.mlk_walk_commands.specs.Variables as variable
use Rattle.mlk_walk_commands.specs.Variables.{capture_variable}
use Rattle.mlk_walk_lines.specs.Commands.{in_turn}
use Rattle.mlk_walk_laws.proofs.Transfers.{both, each_keeps}
use Rattle.mlk_walk_laws.proofs.Walks.{variable_keeps, merge_keeps}
use Rattle.mlk_soundness_machine.specs.Reads.{now}
use Rattle.mlk_soundness_machine.specs.Described.{some_local, World, Level, Slot, Bare, Fills, IsWorld, idle, Describes}
use Rattle.mlk_soundness_machine.proofs.Changes.{store_any, store_last}
use Rattle.mlk_soundness_machine.proofs.Reading.{differs, local_front}
use Rattle.mlk_soundness_machine.proofs.Stack.{kepts, Taken, taken, whole, last_are, others_are, others_turned, taken_are, dropped_are}
use Rattle.mlk_soundness_machine.proofs.Steps.{done, unasked}
use Rattle.mlk_soundness_machine.proofs.Touches.{FitsAny, touch}
use Rattle.mlk_soundness_machine.proofs.Unused.{drop_fits, nothing_less}
use Rattle.mlk_soundness_machine.proofs.Values.{Safe, Fits, plain_step}
use Rattle.mlk_soundness_machine.proofs.Worlds.{drop_law, push_law}
use Rattle.mlk_soundness_walk.specs.Ours.{AreOurs}
use Rattle.mlk_soundness_walk.proofs.Alone.{Leads, Meets, leads_both, leads_each}
use Rattle.mlk_soundness_walk.proofs.Assigns.{spents, spent_fills, captured_stand}
use Rattle.mlk_soundness_walk.proofs.Commands.{changed_goes}
use Rattle.mlk_soundness_walk.proofs.Goes.{covered_goes}
use Rattle.mlk_soundness_walk.proofs.Ours.{ours_left, ours_right}
use Rattle.mlk_soundness_walk.proofs.Sets.{subs_same}
use Rattle.mlk_soundness_walk.proofs.Setting.{zip_size, bottom, forgotten}
use Rattle.mlk_soundness_walk.proofs.Turns.{turns_fit}
use Rattle.mlk_soundness_machine.specs.Places.{acts_to, arguments_from}
use Rattle.mlk_soundness_machine.specs.Safe.{KeepsIn}

-- the values of both sides' subscripts, the target's below the source's
module _ (sc : Scope) (w : World) (b : Level) (of_target of_source : ℕ) (u : State) (j : Job) (d : Describes sc w b (kepts of_source (kepts of_target [])) u (idle j)) where
  right : Taken (now j) of_source (kepts of_target []) (reverse u.captured) j.values w.values
  right = taken (now j) of_source (kepts of_target []) (reverse u.captured) j.values w.values d.values

  left : Taken (now j) of_target [] right.syms right.more w.values
  left = taken (now j) of_target [] right.syms right.more w.values right.fills

  are : j.values ≡ reverse (left.vals ++ right.vals) ++ left.more
  are =
      right.values_are ∙ ap (λ z. reverse right.vals ++ z) left.values_are ∙ sym (append_assoc (reverse right.vals) (reverse left.vals) left.more)
      ∙ ap (λ z. z ++ left.more) (sym (reverse-append left.vals right.vals))

  many : length (left.vals ++ right.vals) ≡ of_target + of_source
  many = let e = length-append left.vals right.vals in let f = left.many in let g = right.many in omega (arith, e, f, g)

  last_are_both : last_values (of_target + of_source) j ≡ left.vals ++ right.vals
  last_are_both = taken_are j.values (left.vals ++ right.vals) left.more (of_target + of_source) are many

  -- those of each side
  source_are : drop of_target (last_values (of_target + of_source) j) ≡ right.vals
  source_are = ap (drop of_target) last_are_both ∙ ap (λ k. drop k (left.vals ++ right.vals)) (sym left.many) ∙ drop-append_seam left.vals right.vals

  target_are : take of_target (last_values (of_target + of_source) j) ≡ left.vals
  target_are = ap (take of_target) last_are_both ∙ ap (λ k. take k (left.vals ++ right.vals)) (sym left.many) ∙ take-append_seam left.vals right.vals

  source_stands : AllZip (StandsFor (now j)) (last_captured of_source u) right.vals
  source_stands = subst (λ z. AllZip (StandsFor (now j)) z right.vals) (sym (last_are u.captured right.front right.syms of_source right.symbols right.count)) right.stand

  -- all values are used, and the target's symbols stay
  target_law : Describes sc w b (spents left.vals []) (without_last of_source u) (idle (dropped (of_target + of_source) j))
  target_law =
      let low = bottom (now j) left.syms left.more w.values left.fills in
      let f = spent_fills (now j) left.front left.vals [] [] w.values w.values left.stand refl in
      let g : reverse (take (length u.captured - of_source) u.captured) ≡ reverse left.front ++ [] =
      others_turned u.captured right.front right.syms of_source right.symbols right.count ∙ left.symbols ∙ ap (λ z. reverse left.front ++ z) low.0 in
      let h : drop (of_target + of_source) j.values ≡ w.values = dropped_are j.values (left.vals ++ right.vals) left.more (of_target + of_source) are many ∙ low.1 in
      record {
        stands = d.stands;
        captured_sole = λ x k. d.captured_sole x
            (subst (λ z. some_local x z ≡ true) (sym (whole u.captured right.front right.syms of_source right.symbols right.count))
            (local_front x (reverse right.syms) right.front (subst (λ z. some_local x z ≡ true) (others_are u.captured right.front right.syms of_source right.symbols right.count) k)));
        values =
            subst (λ z. Fills (now j) (spents left.vals []) (reverse (take (length u.captured - of_source) u.captured)) z w.values) (sym h)
            (subst (λ z. Fills (now j) (spents left.vals []) z w.values w.values) (sym g) f);
      }

-- a tree is read if the source is a global
abbrev is_global : VariableTree → Bool
is_global (Named column (GlobalName caret name subs)) = true
is_global v = false

-- what is written if nothing was read
abbrev alone_parts : List (List ℕ) → VariableTree → List Task
alone_parts vals (Named column (LocalName name no_subs)) = task.StoreAny name ∷ []
alone_parts vals (Named column (GlobalName caret name subs)) = task.DoTouch (touch_at name vals extent.Tree Writes) ∷ []
alone_parts vals v = []

alone_same : (vals : List (List ℕ)) (target source : VariableTree) → is_global source ≡ false → merge_target vals target source ≡ alone_parts vals target
alone_same vals (Named column x) (Named c (GlobalName caret name subs)) is = differs true refl is
alone_same vals (Named column (LocalName name no_subs)) (Named c y) is = refl
alone_same vals (Named column (LocalName name (sub k t rest))) (Named c y) is = refl
alone_same vals (Named column (GlobalName at name ss)) (Named c y) is = refl
alone_same vals (Named column x) (Named c y) is = refl

count_is : (v : VariableTree) → variable.count_in v ≡ made.count_in v
count_is v = ap count_subs (subs_same v)

module _ (routines : List RoutineTree) (p : Spot) (w : World) (b : Level) (world : IsWorld p.scope w) (S : Case → Type 0) (Q : Quit → Type 0) (n : ℕ) where
  abbrev Fit : List Slot → ℕ → List Task → State → Type 0
  Fit = Fits routines p.scope w b

  module _ (ts : List Task) (A : State → Type 0) (go : (u : State) → A u → Fit [] n ts u) where
    abbrev Killed : VariableTree → State → Type 0
    Killed target s = (o : Outcome) → Among o (kill_row p target s) → Meets A S Q o

    -- the target's symbols are dropped
    over : (vals : List (List ℕ)) (count : ℕ) → length vals ≡ count → (us : List Task) (v : State) → Fit [] n us (without_last count v) → Fit (spents vals []) n us v
    over vals count size us v k = λ j d tasks. k j (forgotten p.scope w b vals count size v (idle j) d) tasks

    -- all captured symbols denote the target's values
    all_stand : (vals : List (List ℕ)) (count : ℕ) → length vals ≡ count → (v : State) (j : Job) → Describes p.scope w b (spents vals []) v (idle j)
        → AllZip (StandsFor (now j)) (last_captured count v) vals
    all_stand vals count size v j d =
        let stand : AllZip (StandsFor (now j)) v.captured vals = captured_stand p.scope w b vals v (idle j) d in
        let z = zip_size (now j) v.captured vals stand in
        let e : length v.captured - count ≡ 0 = omega (arith, z, size) in
        subst (λ q. AllZip (StandsFor (now j)) q vals) (sym (ap (λ k. drop k v.captured) e)) stand

    -- the target is written
    alone_fits : (target : VariableTree) (vals : List (List ℕ)) → length vals ≡ made.count_in target → (v : State) → Killed target v → Fit (spents vals []) n (alone_parts vals target ++ ts) v
    alone_fits (Named column (LocalName name no_subs)) vals size v h =
        let r = changed_goes p A S Q column (those.Only name ∷ []) (without_last 0 v) h in
        over vals 0 size (task.StoreAny name ∷ ts) v (store_any routines p.scope w b world [] n ts (without_last 0 v) name r.0 (go (changed_state (those.Only name ∷ []) (without_last 0 v)) r.1))
    alone_fits (Named column (LocalName name (sub c t rest))) vals size v h =
        over vals (count_subs (sub c t rest)) size ts v (go (without_last (count_subs (sub c t rest)) v)
        (h (Goes (without_last (count_subs (sub c t rest)) v)) (inl refl)))
    alone_fits (Named column (GlobalName caret name subs)) vals size v h = λ j d tasks.
        let count : ℕ = count_subs subs in
        let r = covered_goes A S Q (checked p extent.Tree Writes name (last_captured (count_subs subs) v) v) p.line caret (without_last (count_subs subs) v) h in
        let c : checked p extent.Tree Writes name (last_captured count v) v ≡ None = r.0 in
        let a : A (without_last count v) = r.1 in
        touch routines p.scope w b (spents vals []) n ts v extent.Tree Writes name (last_captured count v) vals c (over vals count size ts v (go (without_last count v) a)) j d
        (all_stand vals count size v j d) tasks
    alone_fits (Named column x) vals size v h = over vals 0 size ts v (subst (λ z. Fit [] n ts z) (sym (nothing_less v)) (go v (h (Goes v) (inl refl))))

    -- and likewise after a tree was read, whose value is not used
    unread : (target : VariableTree) (vals : List (List ℕ)) → length vals ≡ made.count_in target → (v : State) → Killed target v
        → FitsAny routines p.scope w b (spents vals []) n (task.Drop 1 ∷ (alone_parts vals target ++ ts)) v
    unread target vals size v h = λ j x d e tasks. drop_fits routines p.scope w b (spents vals []) n (alone_parts vals target ++ ts) v 1 (alone_fits target vals size v h) j d tasks

    read_fits : (target : VariableTree) (vals : List (List ℕ)) → length vals ≡ made.count_in target → (c caret : ℕ) (name : List ℕ) (subs : Subs) (v : State) → Killed target v
        → FitsAny routines p.scope w b (spents vals []) n (merge_target vals target (Named c (GlobalName caret name subs)) ++ ts) v
    read_fits (Named column (LocalName name no_subs)) vals size c caret other subs v h = λ j x d e tasks.
        let r = changed_goes p A S Q column (those.Only name ∷ []) (without_last 0 v) h in
        let less : Describes p.scope w b [] (without_last 0 v) (idle (dropped 1 j)) =
        forgotten p.scope w b vals 0 size v (idle (dropped 1 j)) (drop_law p.scope w b None (spents vals []) v (idle j) d x (drop 1 j.values) e) in
        let more : Describes p.scope w b (Bare None ∷ []) (without_last 0 v) (idle j) =
        subst (λ z. Describes p.scope w b (Bare None ∷ []) (without_last 0 v) (record (idle j) { values = z })) (sym e) (push_law p.scope w b [] (without_last 0 v) (idle (dropped 1 j)) less x) in
        store_last routines p.scope w b world [] n ts (without_last 0 v) name r.0 (go (changed_state (those.Only name ∷ []) (without_last 0 v)) r.1) j x (drop 1 j.values) more e tasks
    read_fits (Named column (LocalName name (sub k t rest))) vals size c caret other subs v h = unread (Named column (LocalName name (sub k t rest))) vals size v h
    read_fits (Named column (GlobalName at name ss)) vals size c caret other subs v h = unread (Named column (GlobalName at name ss)) vals size v h
    read_fits (Named column x) vals size c caret other subs v h = unread (Named column x) vals size v h

    -- both sides
    sides_fit : (source target : VariableTree) (found vals : List (List ℕ)) → length vals ≡ made.count_in target → (u : State)
        → ((o : Outcome) → Among o (merge_from p source u) → Meets (λ v. Leads (each (kill_row p target)) v A S Q) S Q o)
        → (j : Job) → Describes p.scope w b (spents vals []) (without_last (made.count_in source) u) (idle j) → AllZip (StandsFor (now j)) (last_captured (made.count_in source) u) found
        → j.tasks ≡ merge_source found source ++ (merge_target vals target source ++ ts) → Safe routines p.scope w b n j
    sides_fit (Named column (GlobalName caret name subs)) target found vals size u h j d stand tasks =
        let B : State → Type 0 = λ v. Leads (each (kill_row p target)) v A S Q in
        let count : ℕ = count_subs subs in
        let r = covered_goes B S Q (checked p extent.Tree Reads name (last_captured (count_subs subs) u) u) p.line caret (without_last (count_subs subs) u) h in
        let c : checked p extent.Tree Reads name (last_captured count u) u ≡ None = r.0 in
        let a : B (without_last count u) = r.1 in
        touch routines p.scope w b (spents vals []) n (merge_target vals target (Named column (GlobalName caret name subs)) ++ ts) (without_last count u) extent.Tree Reads name (last_captured count u) found c
        (read_fits target vals size column caret name subs (without_last count u) (leads_each A S Q (kill_row p target) (without_last count u) a)) j d stand tasks
    sides_fit (Named column x) target found vals size u h j d stand tasks =
        let v : State = without_last (made.count_in (Named column x)) u in
        let a : Leads (each (kill_row p target)) v A S Q =
        subst (λ z. Leads (each (kill_row p target)) (without_last z u) A S Q) (count_is (Named column x)) (h (Goes (without_last (variable.count_in (Named column x)) u)) (inl refl)) in
        alone_fits target vals size v (leads_each A S Q (kill_row p target) v a) j d (tasks ∙ ap (λ z. z ++ ts) (alone_same vals target (Named column x) refl))

    merge_fits : (target source : VariableTree) (u : State) → Leads (λ x. each (kill_row p target) (each (merge_from p source) x)) u A S Q
        → Fit (kepts (made.count_in source) (kepts (made.count_in target) [])) n (task.Merge target source ∷ ts) u
    merge_fits target source u l = λ j d tasks.
        let of_target : ℕ = made.count_in target in
        let of_source : ℕ = made.count_in source in
        let t = left p.scope w b of_target of_source u (idle j) d in
        let s = right p.scope w b of_target of_source u (idle j) d in
        let subs : List (List ℕ) = last_values (of_target + of_source) j in
        let i : Job = doing (merge_source (drop of_target subs) source ++ merge_target (take of_target subs) target source ++ ts) (dropped (of_target + of_source) j) in
        let m = leads_both A S Q (each (merge_from p source)) (each (kill_row p target)) (each_keeps (merge_from p source)) (each_keeps (kill_row p target)) u l in
        let same : i.tasks ≡ merge_source s.vals source ++ (merge_target t.vals target source ++ ts) =
        append_assoc (merge_source (drop of_target subs) source) (merge_target (take of_target subs) target source) ts
        ∙ ap (λ z. merge_source z source ++ (merge_target (take of_target subs) target source ++ ts)) (source_are p.scope w b of_target of_source u (idle j) d)
        ∙ ap (λ z. merge_source s.vals source ++ (merge_target z target source ++ ts)) (target_are p.scope w b of_target of_source u (idle j) d) in
        plain_step routines p.scope w b (kepts of_source (kepts of_target [])) n ts u (task.Merge target source) refl j tasks (λ free c.
        unasked (Safe routines p.scope w b n) c _ (done (Safe routines p.scope w b n) i
        (sides_fit source target s.vals t.vals t.many u (leads_each (λ v. Leads (each (kill_row p target)) v A S Q) S Q (merge_from p source) u m) i
        (target_law p.scope w b of_target of_source u (idle j) d) (source_stands p.scope w b of_target of_source u (idle j) d) same)))

  module _
      (variable : (v : VariableTree) → AreOurs p.scope (calls.in_variable v) → (slots : List Slot) (us : List Task) (s : State) (B : State → Type 0) → Leads (capture_variable p v) s B S Q
      → ((u : State) → B u → Fit (kepts (made.count_in v) slots) n us u) → Fit slots n (in_variable v ++ us) s) where
    -- MERGE of one argument
    merge_one_fits : (m : MergeTree) → AreOurs p.scope (in_merge m) → (ts : List Task) (s : State) (A : State → Type 0) → Leads (merge_argument p m) s A S Q → ((u : State) → A u → Fit [] n ts u)
        → Fit [] n (merge_parts m ++ ts) s
    merge_one_fits (MergeInto target source) ours ts s A l go =
        let last : Walk → Walk = λ x. each (kill_row p target) (each (merge_from p source) x) in
        let second : Walk → Walk = λ x. each (kill_row p target) (each (merge_from p source) (capture_variable p source x)) in
        let last_keeps = both (each (merge_from p source)) (each (kill_row p target)) (each_keeps (merge_from p source)) (each_keeps (kill_row p target)) in
        let second_keeps = both (capture_variable p source) last (variable_keeps p source) last_keeps in
        subst (λ z. Fit [] n z s)
        (sym (append_assoc (in_variable target ++ in_variable source) (task.Merge target source ∷ []) ts ∙ append_assoc (in_variable target) (in_variable source) (task.Merge target source ∷ ts)))
        (variable target (ours_left p.scope (calls.in_variable target) (calls.in_variable source) ours) [] (in_variable source ++ (task.Merge target source ∷ ts)) s (λ u. Leads second u A S Q)
        (leads_both A S Q (capture_variable p target) second (variable_keeps p target) second_keeps s l)
        (λ u m. variable source (ours_right p.scope (calls.in_variable target) (calls.in_variable source) ours) (kepts (made.count_in target) []) (task.Merge target source ∷ ts) u (λ x. Leads last x A S Q)
        (leads_both A S Q (capture_variable p source) last (variable_keeps p source) last_keeps u m)
        (λ x q. merge_fits ts A go target source x q)))

    -- one after another
    pub merges_fit : (merges : List MergeTree) → AreOurs p.scope (flat_map in_merge merges) → (ts : List Task) (s : State)
        → ((k : ℕ) (u : State) → acts_to p (Merge merges) k s u → (j : Job) → Describes p.scope w b [] u (idle j) → j.tasks ≡ task.NextArgument (Merge merges) k ∷ (arguments_from (Merge merges) k ++ ts) → KeepsIn p.scope w b j)
        → (A : State → Type 0) → Leads (in_turn merge_argument p merges) s A S Q → ((u : State) → A u → Fit [] n ts u) → Fit [] n (made.in_turn merge_parts (Merge merges) 0 merges ++ ts) s
    merges_fit merges ours ts s mark A l go =
        turns_fit routines p w b S Q n merge_argument (merge_keeps p) merge_parts in_merge ts (λ x its more u B m f. merge_one_fits x its more u B m f) (Merge merges) merges s mark ours A l go
