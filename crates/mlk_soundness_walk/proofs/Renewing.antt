-- NEW: names that it creates are own from then on, at the level of the line.
use Rattle.std.proofs.Common.{◌≡◌, ◌≤◌, ℕ, suc, Bool, true, false, List, [], ◌∷◌, ◌++◌, map, reverse, filter, Ok, Err, refl, sym, ap, ◌∙◌, subst, ⊎_elim, inl, arith}
use Rattle.std.specs.Prelude.{◌||◌, ◌&&◌, ◌==◌, not, if◌then◌else◌, flat_map}
use Rattle.std.specs.List.{list_any}
use Rattle.std.proofs.Math.Bool.{or-false}
use Rattle.std.proofs.lemmas.Bool.{cases_Bool, or_right}
use Rattle.std.proofs.lemmas.Bool.Decides.{Decides-eqb}
use Rattle.std.proofs.lemmas.List.Folds.{list_any-append}
use Rattle.mlk_names.specs.Lists.{Among}
use Rattle.mlk_cert_lexemes.specs.Lists.{Each}
use Rattle.mlk_text.specs.declared.code.Code.TheVariants.{Pinned}
use Rattle.mlk_syntax.specs.Trees.{RoutineTree, CallTree, NewTree, NewOne, NewAllBut, New, LineTrees}
use Rattle.mlk_cert_parts.specs.declared.case.Case.{Case}
use Rattle.mlk_cert_parts.specs.declared.names.NameSet.{NameSet}
use Rattle.mlk_cert_parts.specs.declared.names.NameSet.TheVariants as those
use Rattle.mlk_cert_parts.specs.declared.names.Own.{Own}
use Rattle.mlk_cert_parts.specs.Limits.{own_below}
use Rattle.mlk_machine_jobs.specs.Bindings as bound
use Rattle.mlk_machine_jobs.specs.Bindings.{Names, covers, Fresh}
use Rattle.mlk_machine_jobs.specs.Choices.{doing}
use Rattle.mlk_machine_jobs.specs.Commands.{new_parts, action_parts}
use Rattle.mlk_machine_jobs.specs.Tasks as task
use Rattle.mlk_machine_jobs.specs.Tasks.{Task, Job}
use Rattle.mlk_walk_state.specs.Cases.{same_own}
use Rattle.mlk_walk_state.specs.Names.{has, have, is_own, is_among}
use Rattle.mlk_walk_state.specs.Terms.{mention}
use Rattle.mlk_walk_state.specs.declared.state.State.{State}
use Rattle.mlk_walk_state.proofs.CaseTests.{own_decides}
use Rattle.mlk_calls.specs.Changes.{marked, changed_state}
use Rattle.mlk_walk_exprs.specs.Spots.{Spot}
use Rattle.mlk_walk_exprs.specs.Walks.{Outcome, Goes, Refused, each, placed}
use Rattle.mlk_walk_exprs.specs.declared.walk.Quit.{Quit}
use Rattle.mlk_walk_commands.specs.Arguments.{new_all_but, new_argument}
use Rattle.mlk_walk_commands.specs.News.{with_own, owned, renew}
use Rattle.mlk_calls.specs.Order.{in_order}
use Rattle.mlk_walk_commands.specs.Order.{is_before, put_own}
use Rattle.mlk_walk_lines.specs.Commands.{act}
use Rattle.mlk_walk_laws.proofs.Walks.{new_keeps}
use Rattle.mlk_soundness_machine.specs.Reads.{now}
use Rattle.mlk_soundness_machine.specs.Described.{some_local, World, Level, Slot, Fills, own_at, idle, Describes}
use Rattle.mlk_soundness_machine.proofs.News.{new_stands}
use Rattle.mlk_soundness_machine.proofs.Reading.{differs}
use Rattle.mlk_soundness_machine.proofs.Sharing.{SharesByOwn}
use Rattle.mlk_soundness_machine.proofs.Stack.{turned_twice}
use Rattle.mlk_soundness_machine.proofs.Steps.{done, unasked}
use Rattle.mlk_soundness_machine.proofs.Values.{Safe, Fits, plain_step}
use Rattle.mlk_soundness_walk.specs.Ours.{AreOurs}
use Rattle.mlk_soundness_walk.proofs.Alone.{Leads, Meets, leads_each}
use Rattle.mlk_soundness_walk.proofs.Entries.{in_order_same}
use Rattle.mlk_soundness_walk.proofs.Lines.{none_local}
use Rattle.mlk_soundness_walk.proofs.Setting.{bottom}
use Rattle.mlk_soundness_walk.proofs.Turns.{turns_fit}
use Rattle.mlk_soundness_machine.specs.Places.{acts_to, arguments_from}
use Rattle.mlk_soundness_machine.specs.Safe.{KeepsIn}

-- adding an item to the own names adds exactly its names: the only item that is left out is that item itself
module _ (test : Own → Bool) where
  kept_any : (keep : Own → Bool) (p : Own) (os : List Own) → list_any test (filter keep (p ∷ os)) ≡ ((keep p && test p) || list_any test (filter keep os))
  kept_any keep p os = ⊎_elim (λ (u : keep p ≡ true). rw u refl) (λ (u : keep p ≡ false). rw u refl) (cases_Bool (keep p))

  one_side : (same below t l m : Bool) → (same ≡ true → t ≡ false) → ((((not same && not below) && t) || l) || ((below && t) || m)) ≡ (t || (l || m))
  one_side true below true l m h = differs true refl (h refl)
  one_side true true false l m h = refl
  one_side true false false l m h = refl
  one_side false true true true m h = refl
  one_side false true true false m h = refl
  one_side false true false l m h = refl
  one_side false false true l m h = refl
  one_side false false false l m h = refl

  others_have : (o : Own) → test o ≡ false → (os : List Own) → (list_any test (filter (is_before o) os) || list_any test (filter (own_below o) os)) ≡ list_any test os
  others_have o none [] = refl
  others_have o none (p ∷ os) =
      let before : Bool = list_any test (filter (is_before o) os) in
      let below : Bool = list_any test (filter (own_below o) os) in
      ap (λ z. z || list_any test (filter (own_below o) (p ∷ os))) (kept_any (is_before o) p os)
      ∙ ap (λ z. ((is_before o p && test p) || before) || z) (kept_any (own_below o) p os)
      ∙ one_side (same_own p o) (own_below o p) (test p) before below (λ e. ap test ((own_decides p o).0 e) ∙ none)
      ∙ ap (λ z. test p || z) (others_have o none os)

  pub put_own_any : (o : Own) (os : List Own) → list_any test (put_own o os) ≡ (test o || list_any test os)
  put_own_any o os = list_any-append test (filter (is_before o) os) (o ∷ filter (own_below o) os) ∙ on (test o) refl
    where
      on : (x : Bool) → test o ≡ x → (list_any test (filter (is_before o) os) || (test o || list_any test (filter (own_below o) os))) ≡ (test o || list_any test os)
      on true e = rw e (or_right (list_any test (filter (is_before o) os)) true refl)
      on false e = rw e (others_have o e os)

-- and each has the property of all
module _ (Is : Own → Type 0) where
  each_append : (xs ys : List Own) → Each Is xs → Each Is ys → Each Is (xs ++ ys)
  each_append [] ys h k = k
  each_append (x ∷ xs) ys h k = (h.0, each_append xs ys h.1 k)

  each_filter : (keep : Own → Bool) (xs : List Own) → Each Is xs → Each Is (filter keep xs)
  each_filter keep [] h = tt
  each_filter keep (x ∷ xs) h =
      ⊎_elim (λ (u : keep x ≡ true). rw u (h.0, each_filter keep xs h.1)) (λ (u : keep x ≡ false). rw u (each_filter keep xs h.1)) (cases_Bool (keep x))

  pub put_own_each : (o : Own) (os : List Own) → Is o → Each Is os → Each Is (put_own o os)
  put_own_each o os h k = each_append (filter (is_before o) os) (o ∷ filter (own_below o) os) (each_filter (is_before o) os k) (h, each_filter (own_below o) os k)

-- names of the machine, and of the walk
has_one : (names : NameSet) (x : List ℕ) → has names x ≡ have (names ∷ []) x
unfolding have
has_one names x = sym (or-false (has names x))

all_but_has : (names : List (List ℕ)) (x : List ℕ) → covers (bound.AllBut names) x ≡ has (those.AllBut (in_order names)) x
unfolding is_among
all_but_has names x = ap not (sym (in_order_same names x))

-- names that are made new, none of which a held term mentions
renewed_goes : (p : Spot) (G : State → Type 0) (S : Case → Type 0) (Q : Quit → Type 0) (column : ℕ) (names : NameSet) (s : State) → ((o : Outcome) → Among o (renew p column names s) → Meets G S Q o)
    → (mention (names ∷ []) s.case.held ≡ false) × G (with_own (record { level = p.level; names = names }) (changed_state (names ∷ []) s))
renewed_goes p G S Q column names s h = on (mention (names ∷ []) s.case.held) refl h
  where
    on : (x : Bool) → mention (names ∷ []) s.case.held ≡ x
        → ((o : Outcome) → Among o (placed p.line column (owned (record { level = p.level; names = names }) (if x then Err Pinned else Ok (changed_state (names ∷ []) s)))) → Meets G S Q o)
        → (mention (names ∷ []) s.case.held ≡ false) × G (with_own (record { level = p.level; names = names }) (changed_state (names ∷ []) s))
    on true e g = absurd (g (Refused p.line column Pinned) (inl refl))
    on false e g = (e, g (Goes (with_own (record { level = p.level; names = names }) (changed_state (names ∷ []) s))) (inl refl))

module _ (routines : List RoutineTree) (p : Spot) (w : World) (b : Level) (S : Case → Type 0) (Q : Quit → Type 0) (n : ℕ)
    (shares : SharesByOwn p.scope.is_shared p.scope.is_shared) (level : p.level ≡ b.level) where
  abbrev Fit : List Slot → ℕ → List Task → State → Type 0
  Fit = Fits routines p.scope w b

  module _ (names : NameSet) (machine_names : Names) (same : (x : List ℕ) → covers machine_names x ≡ has names x) (s : State) (unheld : mention (names ∷ []) s.case.held ≡ false) where
    abbrev item : Own
    item = record { level = p.level; names = names }

    abbrev after : State
    after = with_own item (changed_state (names ∷ []) s)

    own_is : (x : List ℕ) → is_own (put_own item s.case.own) x ≡ (covers machine_names x || is_own s.case.own x)
    own_is x = put_own_any (λ (o : Own). has o.names x) item s.case.own ∙ ap (λ z. z || is_own s.case.own x) (sym (same x))

    at_level : (l : ℕ) (x : List ℕ) → own_at l (put_own item s.case.own) x ≡ (((p.level == l) && has names x) || own_at l s.case.own x)
    at_level l x = put_own_any (λ (o : Own). (o.level == l) && has o.names x) item s.case.own

    here_is : (x : List ℕ) → own_at b.level (put_own item s.case.own) x ≡ (covers machine_names x || own_at b.level s.case.own x)
    here_is x =
        let e : (p.level == b.level) ≡ true = (Decides-eqb p.level b.level).1 level in
        at_level b.level x ∙ ap (λ z. (z && has names x) || own_at b.level s.case.own x) e ∙ ap (λ z. z || own_at b.level s.case.own x) (sym (same x))

    others_are : (l : ℕ) → (l ≡ b.level → ⊥) → (x : List ℕ) → own_at l (put_own item s.case.own) x ≡ own_at l s.case.own x
    others_are l other x =
        let e : (p.level == l) ≡ false =
        ⊎_elim (λ (u : (p.level == l) ≡ true). absurd (other (sym ((Decides-eqb p.level l).0 u) ∙ level))) (λ (u : (p.level == l) ≡ false). u) (cases_Bool (p.level == l)) in
        at_level l x ∙ ap (λ z. (z && has names x) || own_at l s.case.own x) e

    -- names are bound anew, and then nothing is captured
    renewed_law : (j : Job) → Describes p.scope w b [] s (idle j) → Describes p.scope w b [] after (idle (record j { bindings = Fresh j.next machine_names ∷ j.bindings; next = suc j.next }))
    renewed_law j d =
        let low = bottom (now j) (reverse s.captured) j.values w.values d.values in
        let none : s.captured ≡ [] = sym (turned_twice s.captured) ∙ ap reverse low.0 in
        record {
          stands =
              new_stands p.scope w b s.case (idle j) d.stands shares machine_names names (put_own item s.case.own) (λ x. same x ∙ has_one names x) own_is here_is others_are
              (put_own_each (λ (o : Own). o.level ≤ b.level) item s.case.own (omega (arith, level)) d.stands.low)
              (λ x h. at_level 1 x ∙ or_right ((p.level == 1) && has names x) (own_at 1 s.case.own x) h) unheld;
          captured_sole = λ x h. (let k : some_local x [] ≡ true = subst (λ z. some_local x (map (marked (names ∷ [])) z) ≡ true) none h in differs (some_local x []) k (none_local x));
          values = subst (λ z. Fills (now (record j { bindings = Fresh j.next machine_names ∷ j.bindings; next = suc j.next })) [] (reverse (map (marked (names ∷ [])) z)) j.values w.values) (sym none) low.1;
        }

    renew_fits : (ts : List Task) → Fit [] n ts after → Fit [] n (task.NewNames machine_names ∷ ts) s
    renew_fits ts k j d tasks =
        let i : Job = doing ts (record j { bindings = Fresh j.next machine_names ∷ j.bindings; next = suc j.next }) in
        plain_step routines p.scope w b [] n ts s (task.NewNames machine_names) refl j tasks (λ free c.
        unasked (Safe routines p.scope w b n) c _ (done (Safe routines p.scope w b n) i (k i (renewed_law j d) refl)))

  module _ (ts : List Task) (A : State → Type 0) (go : (u : State) → A u → Fit [] n ts u) where
    one_name : (column : ℕ) (names : NameSet) (machine_names : Names) → ((x : List ℕ) → covers machine_names x ≡ has names x) → (s : State) → Leads (each (renew p column names)) s A S Q
        → Fit [] n (task.NewNames machine_names ∷ ts) s
    one_name column names machine_names same s l =
        let r = renewed_goes p A S Q column names s (leads_each A S Q (renew p column names) s l) in
        renew_fits names machine_names same s r.0 ts (go (with_own (record { level = p.level; names = names }) (changed_state (names ∷ []) s)) r.1)

    all_but : (names : List (List ℕ)) (s : State) → Leads (new_all_but p names) s A S Q → Fit [] n (task.NewNames (bound.AllBut names) ∷ ts) s
    all_but names s l = one_name p.word (those.AllBut (in_order names)) (bound.AllBut names) (all_but_has names) s l

  new_one_fits : (t : NewTree) (ts : List Task) (s : State) (A : State → Type 0) → Leads (new_argument p t) s A S Q → ((u : State) → A u → Fit [] n ts u) → Fit [] n (new_parts t ++ ts) s
  new_one_fits (NewOne column name) ts s A l go = one_name ts A go column (those.Only name) (bound.Only name) (λ x. refl) s l
  new_one_fits (NewAllBut names) ts s A l go = all_but ts A go names s l

  abbrev no_calls : NewTree → List CallTree
  no_calls t = []

  nothing_called : (news : List NewTree) → AreOurs p.scope (flat_map no_calls news)
  nothing_called [] = λ c i. absurd (omega (arith, i.1))
  nothing_called (t ∷ news) = nothing_called news

  -- NEW of names, of all but some, and of all
  pub news_fit : (news : List NewTree) (block : LineTrees) (ts : List Task) (s : State)
      → ((k : ℕ) (u : State) → acts_to p (New news) k s u → (j : Job) → Describes p.scope w b [] u (idle j) → j.tasks ≡ task.NextArgument (New news) k ∷ (arguments_from (New news) k ++ ts) → KeepsIn p.scope w b j)
      → (A : State → Type 0) → Leads (act p (New news)) s A S Q → ((u : State) → A u → Fit [] n ts u) → Fit [] n (action_parts block (New news) ++ ts) s
  news_fit [] block ts s mark A l go = all_but ts A go [] s l
  news_fit (t ∷ news) block ts s mark A l go =
      turns_fit routines p w b S Q n new_argument (new_keeps p) new_parts no_calls ts (λ x its more u B m f. new_one_fits x more u B m f) (New (t ∷ news)) (t ∷ news) s mark (nothing_called (t ∷ news)) A l go
