-- DO of a label: the job enters the callee's lines, which are safe for fewer steps, and returns at its end.
use Rattle.std.proofs.Common.{◌≡◌, ℕ, zero, suc, ◌<◌, Bool, true, false, List, [], ◌∷◌, ◌++◌, length, drop, reverse, map, Option, Some, None, Ok, refl, sym, ap, ◌∙◌, subst, arith, ⊎_elim, inl, inr, ◌+◌}
use Rattle.std.specs.Prelude.{◌||◌, ◌&&◌, option_map, option_and_then, slice_get}
use Rattle.std.proofs.lemmas.Bool.{cases_Bool, or_cases, and_parts, ne_eqb}
use Rattle.mlk_names.specs.Lists.{Among}
use Rattle.mlk_names.specs.declared.term.LockTerm.{LockTerm}
use Rattle.mlk_names.specs.declared.symbol.Sym.{Sym}
use Rattle.mlk_rules.specs.declared.rules.RuleLists.{RuleLists}
use Rattle.mlk_rules.specs.Ranks.{FamiliesApart}
use Rattle.mlk_rules.specs.Laws.{RankedOnce}
use Rattle.mlk_cert_lexemes.specs.Lists.{Each}
use Rattle.std.specs.BTreeSet.{insert_key}
use Rattle.std.specs.Prelude.{bytes_eq, ◌==◌, ◌≤◌}
use Rattle.std.specs.Cmp.Lexicographic.{slice_cmp}
use Rattle.std.specs.Ordering.{nat_cmp, is_eq, match_ordering}
use Rattle.std.specs.declared.cmp.Ordering.{Ordering}
use Rattle.std.specs.declared.cmp.Ordering.TheVariants.{Less, Equal, Greater}
use Rattle.std.proofs.lemmas.Map.Text.{is_eq-slice_cmp}
use Rattle.std.specs.List.{list_all}
use Rattle.mlk_calls.specs.Order.{put_names, in_order}
use Rattle.mlk_walk.specs.Verdicts.{own_formal}
use Rattle.mlk_program.specs.Entries.{lines_in}
use Rattle.mlk_walk_state.specs.Cases.{pairwise}
use Rattle.mlk_walk_state.specs.Terms.{same_term}
use Rattle.mlk_walk_state.proofs.TermTests.{same_term_decides}
use Rattle.mlk_program.specs.declared.entry.EntryId.{EntryId}
use Rattle.mlk_program.specs.Entries.{target_of, line_of_entry}
use Rattle.mlk_syntax.specs.Distinct.{AreDistinct}
use Rattle.mlk_syntax.specs.declared.expr.Callee.{Callee}
use Rattle.mlk_syntax.specs.ExprTrees.{ActualTree, Given, ByRef, Missing}
use Rattle.mlk_syntax.specs.Trees.{RoutineTree, HeadTree, LineHead, LineTrees}
use Rattle.mlk_cert_parts.specs.declared.case.Case.{Case}
use Rattle.mlk_cert_parts.specs.declared.case.ExitCase.{ExitCase}
use Rattle.mlk_cert_parts.specs.declared.case.Test.{Test}
use Rattle.mlk_cert_parts.specs.declared.case.Test.TheVariants.{Any, Zero, One}
use Rattle.mlk_cert_parts.specs.declared.names.Own.{Own}
use Rattle.mlk_cert_parts.specs.declared.block.EntryCert.{EntryCert}
use Rattle.mlk_machine_locks.specs.declared.refusal.Refusal.TheVariants.{NotEnabled}
use Rattle.mlk_machine_jobs.specs.Bindings.{Bindings, look}
use Rattle.mlk_machine_jobs.specs.Tasks as task
use Rattle.mlk_machine_jobs.specs.Tasks.{Task, Job, marks, Frame, NoValue, AwaitsValue, HasValue, LineTree, RunLines, RunCommands, EndFrame}
use Rattle.mlk_machine_jobs.specs.Choices.{doing, pushed, dropped, last_values}
use Rattle.mlk_machine_jobs.specs.Locking.{tested}
use Rattle.std.specs.Fmt.{decimal}
use Rattle.mlk_cert_parts.specs.declared.names.NameSet.{NameSet}
use Rattle.mlk_cert_parts.specs.declared.block.Summary.{Summary}
use Rattle.mlk_soundness_walk.specs.Entries as stated
use Rattle.mlk_soundness_walk.specs.Entries.{first_level}
use Rattle.mlk_soundness_walk.proofs.Lines.{nothing}
use Rattle.mlk_machine_jobs.specs.Calling.{binder, binders, next_actual, later_actuals, with_actuals, formals_in, commands_in, lines_after, entered, called, count_given, back_to}
use Rattle.mlk_walk_state.specs.declared.state.State.{State}
use Rattle.mlk_walk_state.specs.States.{at_rest, last_captured, without_last}
use Rattle.mlk_walk_state.specs.Scope.{Scope, block_at}
use Rattle.mlk_walk_state.specs.Names.{is_own, is_among, without}
use Rattle.mlk_walk_state.specs.Cases.{leaves_by, says_no_more}
use Rattle.mlk_walk_state.specs.Terms.{put_terms, add_terms, mention_such}
use Rattle.mlk_calls.specs.Changes.{marked, changed_state}
use Rattle.mlk_calls.specs.Calls as walked
use Rattle.mlk_calls.specs.Calls.{Called, changed_by_call, ranks_fault, test_after}
use Rattle.mlk_calls.specs.declared.call.Calling.{Calling}
use Rattle.mlk_calls.specs.declared.call.Calling.TheVariants as by
use Rattle.mlk_walk_lines.specs.Endings.{escapes}
use Rattle.mlk_walk.specs.Verdicts.{begin_case}
use Rattle.mlk_machine_laws.specs.Sharing.{is_lent}
use Rattle.mlk_soundness_machine.specs.Frames.{Agrees, times_waiting}
use Rattle.mlk_soundness_machine.specs.Reads.{now, mentions, times}
use Rattle.mlk_soundness_machine.specs.Described.{some_local, World, Level, Slot, Bare, Fills, own_at, IsWorld, idle, bare, Stands, Describes}
use Rattle.mlk_soundness_machine.specs.Safe.{SafeFor, KeepsTo}
use Rattle.mlk_soundness_machine.specs.History.{count_frames, is_reference}
use Rattle.mlk_soundness_machine.specs.Marked.{Begun, Marked}
use Rattle.mlk_soundness_machine.proofs.Sharing.{SharesByOwn}
use Rattle.mlk_soundness_machine.proofs.Reading.{differs, name_is, name_self, mentioned_such, local_front, local_back, local_reversed, fills_same, marked_fills, reversed_map}
use Rattle.mlk_soundness_machine.proofs.Steps.{Comes, done, refused, unasked, of_value}
use Rattle.mlk_soundness_machine.proofs.Going.{Next, one_more, by_step, end_step, less}
use Rattle.mlk_soundness_machine.proofs.Facts.{plain_facts}
use Rattle.mlk_soundness_machine.proofs.Stack.{last_are, whole, others_are, others_turned, taken_are, dropped_are}
use Rattle.mlk_soundness_machine.proofs.Changes.{Allowed, allowed}
use Rattle.mlk_soundness_machine.proofs.Passing.{Passed, refs_of, passes}
use Rattle.mlk_soundness_machine.proofs.Passing as passing
use Rattle.mlk_soundness_machine.proofs.Calling as calling
use Rattle.mlk_soundness_machine.proofs.Values.{Safe, Fits}
use Rattle.mlk_soundness_machine.proofs.Touches.{FitsAny}
use Rattle.mlk_soundness_machine.proofs.Unused.{first_value}
use Rattle.mlk_soundness_machine.proofs.Worlds.{push_law, drop_law}
use Rattle.mlk_soundness_walk.proofs.Calls.{CallRow, given_slots, GivenTaken, given_taken}

-- what a program's form implies for a call: no formal occurs twice, and what is passed by reference is shared
pub record IsWell (caller callee : List Own → List ℕ → Bool) (formals : List (List ℕ)) (given : List ActualTree) : Type 0 where
  pub distinct : AreDistinct formals
  pub shares : SharesByOwn caller callee
  pub filled : (x : List ℕ) → refs_of formals given x ≡ true → (own : List Own) → is_own own x ≡ true → callee own x ≡ true
  pub lent : (n : List ℕ) → passes formals given n ≡ true → (own : List Own) → is_own own n ≡ false → callee own n ≡ true

-- equal lists of terms
terms_same : (xs ys : List LockTerm) → pairwise same_term xs ys ≡ true → xs ≡ ys
terms_same [] [] h = refl
terms_same [] (y ∷ ys) h = differs false h refl
terms_same (x ∷ xs) [] h = differs false h refl
terms_same (x ∷ xs) (y ∷ ys) h =
    let p = and_parts (same_term x y) (pairwise same_term xs ys) h in
    let a : x ≡ y = (same_term_decides x y).0 p.0 in
    let b : xs ≡ ys = terms_same xs ys p.1 in
    rw (a, b) refl

pub leaves_same : (c : Case) (x : ExitCase) → leaves_by c x ≡ true → (c.held ≡ x.held) × (says_no_more c.test x.test ≡ true)
unfolding leaves_by
leaves_same c x h =
    let p = and_parts (says_no_more c.test x.test) (pairwise same_term c.held x.held && list_all (is_among c.kept) x.kept) h in
    let q = and_parts (pairwise same_term c.held x.held) (list_all (is_among c.kept) x.kept) p.1 in
    (terms_same c.held x.held q.0, p.0)

pub none_local : (x : List ℕ) → some_local x [] ≡ false
unfolding some_local
none_local x = refl

-- names in order are the same names
turned : (n x : List ℕ) → bytes_eq n x ≡ bytes_eq x n
turned n x = ⊎_elim (λ (u : bytes_eq n x ≡ true). u ∙ sym (subst (λ z. bytes_eq z n ≡ true) (name_is n x u) (name_self n)))
    (λ (u : bytes_eq n x ≡ false). ⊎_elim (λ (v : bytes_eq x n ≡ true). differs (bytes_eq n x) (subst (λ z. bytes_eq z x ≡ true) (name_is x n v) (name_self x)) u) (λ (v : bytes_eq x n ≡ false). u ∙ sym v) (cases_Bool (bytes_eq x n)))
    (cases_Bool (bytes_eq n x))

swap : (a b c : Bool) → (a || (b || c)) ≡ (b || (a || c))
swap true true c = refl
swap true false c = refl
swap false true c = refl
swap false false c = refl

nest : (a b c : Bool) → ((a || b) || c) ≡ (a || (b || c))
nest true b c = refl
nest false b c = refl

twice : (a b : Bool) → (a || b) ≡ (a || (a || b))
twice true b = refl
twice false b = refl

none_more : (a : Bool) → a ≡ (a || false)
none_more true = refl
none_more false = refl

among_insert : (xs : List (List ℕ)) (k x : List ℕ) → is_among (insert_key (slice_cmp nat_cmp) xs k) x ≡ (bytes_eq x k || is_among xs x)
unfolding is_among
among_insert [] k x = refl
among_insert (y ∷ xs) k x = on (slice_cmp nat_cmp k y) refl (among_insert xs k x)
  where
    on : (o : Ordering) → slice_cmp nat_cmp k y ≡ o → is_among (insert_key (slice_cmp nat_cmp) xs k) x ≡ (bytes_eq x k || is_among xs x)
        → is_among (match_ordering o (k ∷ y ∷ xs) (y ∷ xs) (y ∷ insert_key (slice_cmp nat_cmp) xs k)) x ≡ (bytes_eq x k || (bytes_eq x y || is_among xs x))
    on Less e h = refl
    on Equal e h =
        let z : bytes_eq k y ≡ true = sym (is_eq-slice_cmp k y) ∙ ap is_eq e in
        subst (λ q. (bytes_eq x y || is_among xs x) ≡ (bytes_eq x q || (bytes_eq x y || is_among xs x))) (sym (name_is k y z)) (twice (bytes_eq x y) (is_among xs x))
    on Greater e h = ap (λ z. bytes_eq x y || z) h ∙ swap (bytes_eq x y) (bytes_eq x k) (is_among xs x)

among_order : (found names : List (List ℕ)) (x : List ℕ) → is_among (put_names found names) x ≡ (is_among found x || is_among names x)
unfolding is_among
among_order found [] x = none_more (is_among found x)
among_order found (n ∷ names) x =
    among_order (insert_key (slice_cmp nat_cmp) found n) names x ∙ ap (λ z. z || is_among names x) (among_insert found n x) ∙ nest (bytes_eq x n) (is_among found x) (is_among names x)
    ∙ swap (bytes_eq x n) (is_among found x) (is_among names x)

pub in_order_same : (names : List (List ℕ)) (x : List ℕ) → is_among (in_order names) x ≡ is_among names x
unfolding is_among
in_order_same names x = among_order [] names x

pub own_formals : (names : List (List ℕ)) (x : List ℕ) → is_own (map own_formal names) x ≡ is_among names x
unfolding is_among
own_formals [] x = refl
own_formals (n ∷ names) x = ap (λ z. z || is_own (map own_formal names) x) (turned n x) ∙ ap (λ z. bytes_eq x n || z) (own_formals names x)

pub at_formals : (names : List (List ℕ)) (x : List ℕ) → own_at 1 (map own_formal names) x ≡ is_own (map own_formal names) x
at_formals [] x = refl
at_formals (n ∷ names) x = ap (λ z. bytes_eq n x || z) (at_formals names x)

pub at_others : (names : List (List ℕ)) (l : ℕ) → (l ≡ 1 → ⊥) → (x : List ℕ) → own_at l (map own_formal names) x ≡ false
at_others [] l ne x = refl
at_others (n ∷ names) l ne x = let e : (1 == l) ≡ false = ne_eqb 1 l (λ z. ne (sym z)) in rw e (at_others names l ne x)

pub low_formals : (names : List (List ℕ)) → Each (λ (o : Own). o.level ≤ 1) (map own_formal names)
low_formals [] = tt
low_formals (n ∷ names) = (omega arith, low_formals names)

-- a formal that is bound by value is passed no name by reference
refs_false : (caller : Bindings) (g : ℕ) (formals : List (List ℕ)) (given : List ActualTree) (back : Bindings) (x : List ℕ) → is_among formals x ≡ true
    → is_reference (binders caller g formals given ++ back) x ≡ false → refs_of formals given x ≡ false
unfolding is_among
refs_false caller g [] given back x h r = refl
refs_false caller g (f ∷ formals) given back x h r =
    ⊎_elim
    (λ (u : bytes_eq f x ≡ true). rw u (here (next_actual given) u r))
    (λ (u : bytes_eq f x ≡ false). rw u (there (next_actual given) u r
    (refs_false caller g formals (later_actuals given) back x (⊎_elim (λ (v : bytes_eq x f ≡ true). differs (bytes_eq f x) (turned f x ∙ v) u) (λ (v : is_among formals x ≡ true). v) (or_cases (bytes_eq x f) (is_among formals x) h)))))
    (cases_Bool (bytes_eq f x))
  where
    here : (a : ActualTree) → bytes_eq f x ≡ true → is_reference (binder caller g f a ∷ (binders caller g formals (later_actuals given) ++ back)) x ≡ false → passing.is_reference a ≡ false
    here (Given e) u q = refl
    here Missing u q = refl
    here (ByRef column name) u q = let z : true ≡ false = (rw u at q) in absurd (cc z)

    there : (a : ActualTree) → bytes_eq f x ≡ false → is_reference (binder caller g f a ∷ (binders caller g formals (later_actuals given) ++ back)) x ≡ false
        → (is_reference (binders caller g formals (later_actuals given) ++ back) x ≡ false → refs_of formals (later_actuals given) x ≡ false) → refs_of formals (later_actuals given) x ≡ false
    there (Given e) u q k = k (rw u at q)
    there Missing u q k = k (rw u at q)
    there (ByRef column name) u q k = k (rw u at q)

module _ (routines : List RoutineTree) (rules : RuleLists) (entries : List (EntryId × EntryCert) × List EntryId) where
  abbrev pub scope : EntryId → EntryCert → Scope
  scope = stated.scope routines rules entries

  abbrev pub Safely : Scope → World → ℕ → Job → Type 0
  Safely = stated.Safely routines rules entries

  abbrev pub EndsFit : Scope → World → ℕ → Frame → Bindings → ℕ → ℕ → List Task → Type 0
  EndsFit = stated.EndsFit routines rules entries

  abbrev pub EntryFits : ℕ → Type 0
  EntryFits = stated.EntryFits routines rules entries

  -- what a call's target is
  pub record IsTarget (sc : Scope) (callee : Callee) (c : Called) : Type 0 where
    pub entry : EntryId
    pub block : EntryCert
    pub target : target_of sc.routines sc.own callee ≡ Some entry
    pub certified : block_at sc.blocks entry ≡ Some block
    pub is : record { formals = walked.formals_in (line_of_entry sc.routines entry); summary = block.summary } ≡ c

  target_is : (sc : Scope) (callee : Callee) (c : Called) → walked.called sc callee ≡ Some c → IsTarget sc callee c
  target_is sc callee c h = on (target_of sc.routines sc.own callee) refl h
    where
      on : (o : Option EntryId) → target_of sc.routines sc.own callee ≡ o → option_and_then (walked.called_entry sc) o ≡ Some c → IsTarget sc callee c
      on None e g = let z : None ≡ Some c = g in absurd (cc z)
      on (Some entry) e g = by (block_at sc.blocks entry) refl g
        where
          by : (o : Option EntryCert) → block_at sc.blocks entry ≡ o
              → option_map (λ summary. record { formals = walked.formals_in (line_of_entry sc.routines entry); summary = summary }) (option_map (λ (b : EntryCert). b.summary) o) ≡ Some c → IsTarget sc callee c
          by None f g = let z : None ≡ Some c = g in absurd (cc z)
          by (Some block) f g = record { entry = entry; block = block; target = e; certified = f; is = cc g }

  -- the formals of an entry's line
  pub first_line : (ls : List LineTree) (k : ℕ) (l : LineTree) (more : List LineTree) → drop k ls ≡ l ∷ more → slice_get ls k ≡ Some l
  first_line [] zero l more h = absurd (cc h)
  first_line [] (suc k) l more h = absurd (cc h)
  first_line (x ∷ ls) zero l more h = let z : x ≡ l = cc h in ap Some z
  first_line (x ∷ ls) (suc k) l more h = first_line ls k l more h

  pub formals_same : (e : EntryId) (head : HeadTree) (body : LineTrees) (lines : List LineTree) → lines_after routines e ≡ (head, body) ∷ lines → walked.formals_in (line_of_entry routines e) ≡ formals_in head
  formals_same e head body lines h = on (slice_get routines e.routine) refl h
    where
      given : (head : HeadTree) → walked.formals_in (Some (head, body)) ≡ formals_in head
      given (LineHead n level end label None commands) = refl
      given (LineHead n level end label (Some formals) commands) = refl

      on : (o : Option RoutineTree) → slice_get routines e.routine ≡ o → lines_after routines e ≡ (head, body) ∷ lines → walked.formals_in (line_of_entry routines e) ≡ formals_in head
      on None f g = let z : [] ≡ (head, body) ∷ lines = (rw f at g) in absurd (cc z)
      on (Some tree) f g =
          let z : drop e.line (lines_in tree) ≡ (head, body) ∷ lines = (rw f at g) in
          let y : line_of_entry routines e ≡ Some (head, body) = ap (λ o. option_and_then (λ x. slice_get (lines_in x) e.line) o) f ∙ first_line (lines_in tree) e.line (head, body) lines z in
          ap walked.formals_in y ∙ given head

  less_test : (s t : Test) (x : Bool) → says_no_more s t ≡ true → Agrees s x → Agrees t x
  less_test s Any x h a = tt
  less_test Any Zero x h a = differs false h refl
  less_test Zero Zero x h a = a
  less_test One Zero x h a = differs false h refl
  less_test Any One x h a = differs false h refl
  less_test Zero One x h a = differs false h refl
  less_test One One x h a = a

  same_held : (c : Case) (x : ExitCase) → leaves_by c x ≡ true → (c.held ≡ x.held) × (says_no_more c.test x.test ≡ true)
  same_held c x h = leaves_same c x h

  -- a case at an exit holds no own name that is not kept
  fine_case : (c : Case) → mention_such (escapes c) c.held ≡ false → (x : List ℕ) → mentions x c.held ≡ true → is_own c.own x ≡ true → is_among c.kept x ≡ true
  fine_case c h x m o =
      ⊎_elim (λ (u : is_among c.kept x ≡ true). u)
      (λ (u : is_among c.kept x ≡ false).
      let e : escapes c x ≡ true = (rw (o, u) refl) in
      differs (mention_such (escapes c) c.held) (mentioned_such (escapes c) x c.held m e) h)
      (cases_Bool (is_among c.kept x))

  module _ (e : EntryId) (blk : EntryCert) (w : World) (b : Level) (k : IsWorld (scope e blk) w) (slots : List Slot) (n : ℕ) (ts : List Task) (s : State) (callee : Callee) (given : List ActualTree)
      (lower : (m : ℕ) → m < n → EntryFits m) (how : Calling) (G : State → Type 0)
      (row : CallRow (scope e blk) how callee given (last_captured (length given) s) (without_last (length given) s) G) where
    pub t : IsTarget (scope e blk) callee row.called
    t = target_is (scope e blk) callee row.called row.is

    abbrev pub its : Scope
    its = scope t.entry t.block

    -- what remains to be shown of the callee's head, its begin and its world: by the program's form, and by 708, 712, 719
    module _ (apart : FamiliesApart rules.families) (once : RankedOnce rules.families) (head : HeadTree) (body : LineTrees) (lines : List LineTree) (heads : lines_after routines t.entry ≡ (head, body) ∷ lines)
        (dist : AreDistinct (formals_in head))
        (shares : SharesByOwn (scope e blk).is_shared its.is_shared)
        (filled : (x : List ℕ) → refs_of (formals_in head) given x ≡ true → (own : List Own) → is_own own x ≡ true → its.is_shared own x ≡ true)
        (lent : (n : List ℕ) → passes (formals_in head) given n ≡ true → (own : List Own) → is_own own n ≡ false → its.is_shared own n ≡ true)
        (j : Job) (d : Describes (scope e blk) w b (given_slots given slots) s (idle j)) (begun : List Job) where
      g : GivenTaken (now j) given slots (reverse s.captured) j.values w.values
      g = given_taken (now j) given slots (reverse s.captured) j.values w.values d.values

      abbrev rest : Job
      rest = record (idle j) { values = drop (count_given given) j.values }

      abbrev syms : List Sym
      syms = last_captured (length given) s

      abbrev vals : List (List ℕ)
      vals = last_values (count_given given) j

      passed : Passed (now rest) given syms vals
      passed =
          let a = last_are s.captured g.front g.syms (length given) g.symbols g.count in
          let c = taken_are j.values g.vals g.more (count_given given) g.values_are g.many in
          subst (λ z. Passed (now j) given z vals) (sym a) (subst (λ z. Passed (now j) given g.front z) (sym c) g.passed)

      sole : (x : List ℕ) → some_local x (without_last (length given) s).captured ≡ true → is_lent j.bindings (look j.bindings x) ≡ false
      sole x h = d.captured_sole x
          (subst (λ z. some_local x z ≡ true) (sym (whole s.captured g.front g.syms (length given) g.symbols g.count))
          (local_front x (reverse g.syms) g.front (subst (λ z. some_local x z ≡ true) (others_are s.captured g.front g.syms (length given) g.symbols g.count) h)))

      syms_sole : (x : List ℕ) → some_local x syms ≡ true → is_lent j.bindings (look j.bindings x) ≡ false
      syms_sole x h = d.captured_sole x
          (subst (λ z. some_local x z ≡ true) (sym (whole s.captured g.front g.syms (length given) g.symbols g.count))
          (local_back x (reverse g.syms) g.front (subst (λ z. some_local x z ≡ true) (last_are s.captured g.front g.syms (length given) g.symbols g.count) h)))

      formals_are : row.called.formals ≡ formals_in head
      formals_are = sym (ap (λ (c : Called). c.formals) t.is) ∙ formals_same t.entry head body lines heads

      summary_is : row.called.summary ≡ its.summary
      summary_is = sym (ap (λ (c : Called). c.summary) t.is)

      -- the row, for the callee's own formals and summary
      put : put_terms (formals_in head) (map Some syms) its.summary.need ≡ Some row.needs
      put = subst (λ z. put_terms z (map Some syms) its.summary.need ≡ Some row.needs) formals_are (subst (λ z. put_terms row.called.formals (map Some syms) z.need ≡ Some row.needs) summary_is row.put)

      ok : Allowed (scope e blk) (changed_by_call its.summary given) (without_last (length given) s)
      ok = subst (λ z. Allowed (scope e blk) (changed_by_call z given) (without_last (length given) s)) summary_is (allowed (scope e blk) (changed_by_call row.called.summary given) (without_last (length given) s) row.changed)

      abbrev world : World
      world = calling.world (scope e blk) its w b (without_last (length given) s) rest d.stands k sole (formals_in head) dist given syms vals passed syms_sole row.needs row.aside put row.taken ok shares filled lent begun t.entry

      is_world : IsWorld its world
      is_world = calling.call_world (scope e blk) its w b (without_last (length given) s) rest d.stands k sole (formals_in head) dist given syms vals passed syms_sole row.needs row.aside put row.taken ok shares filled lent begun t.entry
          refl apart once (subst (λ z. ranks_fault (scope e blk) z row.aside ≡ None) summary_is row.ranked)

      begins : Describes its world (first_level world) [] (at_rest (begin_case its.summary (formals_in head)))
          (calling.called (scope e blk) its w b (without_last (length given) s) rest d.stands k sole (formals_in head) dist given syms vals passed syms_sole row.needs row.aside put row.taken ok shares filled lent begun t.entry)
      begins = record {
        stands = calling.call_stands (scope e blk) its w b (without_last (length given) s) rest d.stands k sole (formals_in head) dist given syms vals passed syms_sole row.needs row.aside put row.taken ok shares filled lent begun t.entry
            (begin_case its.summary (formals_in head)).own (begin_case its.summary (formals_in head)).kept
            (λ x. own_formals (in_order (formals_in head)) x ∙ in_order_same (formals_in head) x)
            (λ x. at_formals (in_order (formals_in head)) x ∙ own_formals (in_order (formals_in head)) x ∙ in_order_same (formals_in head) x)
            (at_others (in_order (formals_in head))) (low_formals (in_order (formals_in head)))
            (λ x h. sym (in_order_same (formals_in head) x) ∙ h);
        captured_sole = λ x h. differs (some_local x []) h (none_local x);
        values = refl;
      }

      abbrev ch : List NameSet
      ch = changed_by_call its.summary given

      module _ (m : ℕ) (same : n ≡ suc m) where
        module _ (c : Case) (x : ExitCase) (among : Among x its.summary.exits) (leaves : leaves_by c x ≡ true) (esc : mention_such (escapes c) c.held ≡ false)
            (i : Job) (f : Describes its world (first_level world) [] (at_rest c) (idle i)) (kept : Bool) (agrees : Agrees (test_after how s.case.test x.test) kept) where
          exit : (terms : List LockTerm) × (put_terms (formals_in head) (map Some (map (marked ch) syms)) x.held ≡ Some terms)
              × G (record (changed_state ch (without_last (length given) s)) { case = record (changed_state ch (without_last (length given) s)).case { test = test_after how s.case.test x.test; held = add_terms terms row.aside } })
          exit =
              let P : Summary → Type 0 = λ z. (y : ExitCase) → Among y z.exits → (terms : List LockTerm) × (put_terms row.called.formals (map Some (map (marked (changed_by_call z given)) syms)) y.held ≡ Some terms)
              × G (record (changed_state (changed_by_call z given) (without_last (length given) s)) { case = record (changed_state (changed_by_call z given) (without_last (length given) s)).case { test = test_after how s.case.test y.test; held = add_terms terms row.aside } }) in
              let R : List (List ℕ) → Type 0 = λ z. (terms : List LockTerm) × (put_terms z (map Some (map (marked ch) syms)) x.held ≡ Some terms)
              × G (record (changed_state ch (without_last (length given) s)) { case = record (changed_state ch (without_last (length given) s)).case { test = test_after how s.case.test x.test; held = add_terms terms row.aside } }) in
              subst R formals_are (subst P summary_is row.exits x among)

          held_is : c.held ≡ x.held
          held_is = (same_held c x leaves).0

          out : put_terms (formals_in head) (map Some (map (marked ch) syms)) c.held ≡ Some exit.0
          out = subst (λ z. put_terms (formals_in head) (map Some (map (marked ch) syms)) z ≡ Some exit.0) (sym held_is) exit.1

          abbrev back : Job
          back = calling.returned (scope e blk) its w b (without_last (length given) s) rest d.stands k sole (formals_in head) dist given syms vals passed syms_sole row.needs row.aside put row.taken ok shares filled lent begun t.entry
              c i f.stands (fine_case c esc) exit.0 out (test_after how s.case.test x.test) kept agrees

          left : Stands (scope e blk) w b (record { test = test_after how s.case.test x.test; saved = s.case.saved; held = add_terms exit.0 row.aside; own = s.case.own; kept = without ch s.case.kept }) (bare back)
          left = calling.leave_stands (scope e blk) its w b (without_last (length given) s) rest d.stands k sole (formals_in head) dist given syms vals passed syms_sole row.needs row.aside put row.taken ok shares filled lent begun t.entry
              c i f.stands (fine_case c esc) exit.0 out (test_after how s.case.test x.test) kept agrees

          guarded_now : (y : List ℕ) → some_local y (map (marked ch) (without_last (length given) s).captured) ≡ true
              → (back.cells (look j.bindings y) ≡ j.cells (look j.bindings y)) × (is_lent j.bindings (look j.bindings y) ≡ false)
          guarded_now y h =
              let q = calling.in_captured (scope e blk) its w b (without_last (length given) s) rest d.stands k sole (formals_in head) dist given syms vals passed syms_sole row.needs row.aside put row.taken ok shares filled lent begun t.entry
              c i f.stands (fine_case c esc) exit.0 out (test_after how s.case.test x.test) kept agrees y h in (
                calling.guard_value (scope e blk) its w b (without_last (length given) s) rest d.stands k sole (formals_in head) dist given syms vals passed syms_sole row.needs row.aside put row.taken ok shares filled lent begun t.entry
                    c i f.stands (fine_case c esc) exit.0 out (test_after how s.case.test x.test) kept agrees y q,
                calling.guard_behind (scope e blk) its w b (without_last (length given) s) rest d.stands k sole (formals_in head) dist given syms vals passed syms_sole row.needs row.aside put row.taken ok shares filled lent begun t.entry
                    c i f.stands (fine_case c esc) exit.0 out (test_after how s.case.test x.test) kept agrees y q,
              )

          number_same : back.number ≡ j.number
          number_same = left.numbered ∙ sym d.stands.numbered

          after : Describes (scope e blk) w b slots (record (changed_state ch (without_last (length given) s)) { case = record (changed_state ch (without_last (length given) s)).case { test = test_after how s.case.test x.test; held = add_terms exit.0 row.aside } }) (idle back)
          after = record {
            stands = left;
            captured_sole = λ y h. (guarded_now y h).1;
            values =
                let more : drop (count_given given) j.values ≡ g.more = dropped_are j.values g.vals g.more (count_given given) g.values_are g.many in
                let vs : i.values ≡ g.more = nothing (now i) [] i.values world.values f.values ∙ more in
                let ss : reverse (map (marked ch) (without_last (length given) s).captured) ≡ map (marked ch) g.syms =
                reversed_map (marked ch) (without_last (length given) s).captured ∙ ap (map (marked ch)) (others_turned s.captured g.front g.syms (length given) g.symbols g.count) in
                let fills : Fills (now j) slots (map (marked ch) g.syms) g.more w.values = marked_fills ch (now j) slots g.syms g.more w.values g.fills in
                let now_fills : Fills (now back) slots (map (marked ch) g.syms) g.more w.values = fills_same (now j) (now back) (ap decimal number_same) slots (map (marked ch) g.syms) g.more w.values
                (λ y h. (guarded_now y (local_reversed y (map (marked ch) (without_last (length given) s).captured) (subst (λ z. some_local y z ≡ true) (sym ss) h))).0) fills in
                subst (λ z. Fills (now back) slots z i.values w.values) (sym ss) (subst (λ z. Fills (now back) slots (map (marked ch) g.syms) z w.values) (sym vs) now_fills);
          }

        -- what follows the call
        abbrev Ends : State → ExitCase → List LockTerm → State
        Ends u x terms = record (changed_state ch (without_last (length given) u)) { case = record (changed_state ch (without_last (length given) u)).case { test = test_after how u.case.test x.test; held = add_terms terms row.aside } }

        left_test : (c : Case) (x : ExitCase) → leaves_by c x ≡ true → (i : Job) → Describes its world (first_level world) [] (at_rest c) (idle i) → Agrees x.test i.test
        left_test c x leaves i f = less_test c.test x.test i.test (same_held c x leaves).1 f.stands.test

        -- when the callee ends, the job is in the caller's frame again
        abbrev Back : Job → Type 0
        Back i = (i.tasks ≡ ts) × SafeFor routines (KeepsTo its) m (drop 1 begun) i

        goes_back : drop 1 begun ≡ w.begun → Marked (scope e blk) w b (marks ts) → (to : Job) → to.tasks ≡ ts → Safe routines (scope e blk) w b n to → Back to
        goes_back past marked to at safe =
            (at, subst (λ z. SafeFor routines (KeepsTo its) m z to) (sym past) (less routines (scope e blk) w b m to (subst (λ z. Safe routines (scope e blk) w b z to) same safe) (subst (λ z. Marked (scope e blk) w b (marks z)) (sym at) marked)))

        returns : drop 1 begun ≡ w.begun → Marked (scope e blk) w b (marks ts) → how ≡ by.ByDo → ((u : State) → G u → Fits routines (scope e blk) w b slots n ts u) → EndsFit its world m NoValue j.bindings j.next j.routine ts
        returns past marked by_do next c x among leaves esc slots' end (inr q) i f tasks = let z : NoValue ≡ AwaitsValue q.0 = q.1 in absurd (cc z)
        returns past marked by_do next c x among leaves esc slots' end (inl q) i f tasks =
            let f' : Describes its world (first_level world) [] (at_rest c) (idle i) = subst (λ z. Describes its world (first_level world) z (at_rest c) (idle i)) q.1 f in
            let tasks' : i.tasks ≡ EndFrame NoValue j.bindings j.next j.routine ∷ ts = subst (λ z. i.tasks ≡ EndFrame z j.bindings j.next j.routine ∷ ts) q.0 tasks in
            let agrees : Agrees (test_after how s.case.test x.test) i.test = subst (λ h. Agrees (test_after h s.case.test x.test) i.test) (sym by_do) (left_test c x leaves i f') in
            let to : Job = doing ts (record (back_to j.bindings j.next i) { routine = j.routine }) in
            end_step routines its world (first_level world) m i NoValue j.bindings j.next j.routine ts tasks' (plain_facts its world (first_level world) i (EndFrame NoValue j.bindings j.next j.routine) ts tasks' refl) (λ free y.
            unasked Back y (Ok to) (done Back to
            (goes_back past marked to refl (next _ (exit c x among leaves esc i f' i.test agrees).2 to (after c x among leaves esc i f' i.test agrees) refl))))

        -- an extrinsic function restores `$TEST`, and has the value of QUIT, or any value if QUIT has none
        gives_back : drop 1 begun ≡ w.begun → Marked (scope e blk) w b (marks ts) → how ≡ by.Extrinsic → ((u : State) → G u → FitsAny routines (scope e blk) w b slots n ts u) → EndsFit its world m (AwaitsValue j.test) j.bindings j.next j.routine ts
        gives_back past marked extrinsic next c x among leaves esc slots' end (inl q) i f tasks =
            let f' : Describes its world (first_level world) [] (at_rest c) (idle i) = subst (λ z. Describes its world (first_level world) z (at_rest c) (idle i)) q.1 f in
            let tasks' : i.tasks ≡ EndFrame (AwaitsValue j.test) j.bindings j.next j.routine ∷ ts = subst (λ z. i.tasks ≡ EndFrame z j.bindings j.next j.routine ∷ ts) q.0 tasks in
            let agrees : Agrees (test_after how s.case.test x.test) j.test = subst (λ h. Agrees (test_after h s.case.test x.test) j.test) (sym extrinsic) d.stands.test in
            let to : List ℕ → Job = λ v. pushed v (tested j.test (doing ts (record (back_to j.bindings j.next i) { routine = j.routine }))) in
            end_step routines its world (first_level world) m i (AwaitsValue j.test) j.bindings j.next j.routine ts tasks' (plain_facts its world (first_level world) i (EndFrame (AwaitsValue j.test) j.bindings j.next j.routine) ts tasks' refl) (λ free y.
            of_value Back y _ (λ v. done Back (to v)
            (goes_back past marked (to v) refl
            (next _ (exit c x among leaves esc i f' j.test agrees).2 (to v) v
            (push_law (scope e blk) w b slots _ (idle (tested j.test (record (back_to j.bindings j.next i) { routine = j.routine }))) (after c x among leaves esc i f' j.test agrees) v) refl refl))))
        gives_back past marked extrinsic next c x among leaves esc slots' end (inr (t', frame_is, end_is, slots_are)) i f tasks =
            let of_frame : j.test ≡ t' = (let z : AwaitsValue j.test ≡ AwaitsValue t' = frame_is in cc z) in
            let f1 : Describes its world (first_level world) (Bare None ∷ []) (at_rest c) (idle i) = subst (λ z. Describes its world (first_level world) z (at_rest c) (idle i)) slots_are f in
            let tasks' : i.tasks ≡ EndFrame (HasValue j.test) j.bindings j.next j.routine ∷ ts = subst (λ z. i.tasks ≡ EndFrame (HasValue z) j.bindings j.next j.routine ∷ ts) (sym of_frame) (subst (λ z. i.tasks ≡ EndFrame z j.bindings j.next j.routine ∷ ts) end_is tasks) in
            let has = first_value (now i) [] [] i.values world.values f1.values in
            let low : drop 1 i.values ≡ has.1 = ap (drop 1) has.2 in
            let whole_is : i.values ≡ has.0 ∷ drop 1 i.values = has.2 ∙ ap (λ z. has.0 ∷ z) (sym low) in
            let f' : Describes its world (first_level world) [] (at_rest c) (idle (dropped 1 i)) = drop_law its world (first_level world) None [] (at_rest c) (idle i) f1 has.0 (drop 1 i.values) whole_is in
            let agrees : Agrees (test_after how s.case.test x.test) j.test = subst (λ h. Agrees (test_after h s.case.test x.test) j.test) (sym extrinsic) d.stands.test in
            let to : Job = tested j.test (doing ts (record (back_to j.bindings j.next i) { routine = j.routine })) in
            end_step routines its world (first_level world) m i (HasValue j.test) j.bindings j.next j.routine ts tasks' (plain_facts its world (first_level world) i (EndFrame (HasValue j.test) j.bindings j.next j.routine) ts tasks' refl) (λ free y.
            unasked Back y (Ok to) (done Back to
            (goes_back past marked to refl (next _ (exit c x among leaves esc (dropped 1 i) f' j.test agrees).2 to has.0
            (subst (λ z. Describes (scope e blk) w b (Bare None ∷ slots) (Ends s x (exit c x among leaves esc (dropped 1 i) f' j.test agrees).0) (record (idle to) { values = z })) (sym whole_is)
            (push_law (scope e blk) w b slots (Ends s x (exit c x among leaves esc (dropped 1 i) f' j.test agrees).0) (record (idle to) { values = drop 1 i.values }) (after c x among leaves esc (dropped 1 i) f' j.test agrees) has.0))
            whole_is refl))))

      -- the job as it enters the callee
      abbrev to_callee : Frame → Job
      to_callee frame = record j {
        routine = t.entry.routine;
        bindings = binders j.bindings j.next (formals_in head) given ++ j.bindings;
        next = suc j.next;
        cells = with_actuals j.next (formals_in head) given vals j.cells;
        values = drop (count_given given) j.values;
        tasks = RunCommands (commands_in head) (head, body) ∷ RunLines lines ∷ EndFrame frame j.bindings j.next j.routine ∷ ts;
      }

      -- how its frame begins
      begun_in : (frame : Frame) → begun ≡ to_callee frame ∷ w.begun → Begun its world
      begun_in frame past = record {
        block = t.block;
        certified = t.certified;
        scope = refl;
        first = to_callee frame;
        others = w.begun;
        since = past;
        began = record { head = head; body = body; lines = lines; more = EndFrame frame j.bindings j.next j.routine ∷ ts; are = heads; tasks = refl };
        back = refl;
        values = λ x f r. (refs_false j.bindings j.next (formals_in head) given j.bindings x f r, refl);
        rests = is_world.rests;
        held = λ m. begins.stands.counts m ∙ ap (λ z. times (now (to_callee frame)) its.summary.need m + times_waiting world.saved z world.waiting m) begins.stands.numbered;
      }

      goes_in : (m : ℕ) → n ≡ suc m → (frame : Frame) → begun ≡ to_callee frame ∷ w.begun → EndsFit its world m frame j.bindings j.next j.routine ts → Marked (scope e blk) w b (marks ts) → SafeFor routines (KeepsTo its) m begun (to_callee frame)
      unfolding begun_in
      goes_in m same frame past ends k =
          lower m (subst (λ z. m < z) (sym same) (omega arith)) t.entry t.block t.certified head body lines heads world is_world refl (λ x. refl) frame j.next j.routine ts ends (to_callee frame) begins refl
          (begun_in frame past) refl refl (record { tests = refl; frames = ap (λ z. j.bindings ∷ z) k.marks.frames })

    -- the call begins a frame
    goes_on : (frame : Frame) (m : ℕ) (to : Job) → count_frames (marks to.tasks) ≡ suc (count_frames (marks ts)) → ((marked : Marked (scope e blk) w b (marks ts)) → SafeFor routines (KeepsTo (scope e blk)) m (to ∷ w.begun) to)
        → Next routines (scope e blk) w b ts m to
    goes_on frame m to more h k = subst (λ z. SafeFor routines (KeepsTo (scope e blk)) m z to) (sym (one_more w.begun to (count_frames (marks ts)) more)) (h k)

    -- what the program's form implies for the callee's line
    abbrev pub Wells : Type 0
    Wells = (head : HeadTree) (body : LineTrees) (lines : List LineTree) → lines_after routines t.entry ≡ (head, body) ∷ lines → IsWell (scope e blk).is_shared its.is_shared (formals_in head) given

    -- a call: into the callee's lines, which lead to an end of the frame that is safe
    enters_callee : (frame : Frame) (m : ℕ) → (j : Job)
        → ((head : HeadTree) (body : LineTrees) (lines : List LineTree) → lines_after routines t.entry ≡ (head, body) ∷ lines → Next routines (scope e blk) w b ts m (record j {
          routine = t.entry.routine;
          bindings = binders j.bindings j.next (formals_in head) given ++ j.bindings;
          next = suc j.next;
          cells = with_actuals j.next (formals_in head) given (last_values (count_given given) j) j.cells;
          values = drop (count_given given) j.values;
          tasks = RunCommands (commands_in head) (head, body) ∷ RunLines lines ∷ EndFrame frame j.bindings j.next j.routine ∷ ts;
        }))
        → (ls : List LineTree) → lines_after routines t.entry ≡ ls → Comes (Next routines (scope e blk) w b ts m) (entered frame t.entry.routine given ls ts j)
    enters_callee frame m j f [] h = refused (Next routines (scope e blk) w b ts m) NotEnabled
    enters_callee frame m j f ((head, body) ∷ lines) h = done (Next routines (scope e blk) w b ts m) _ (f head body lines h)

    -- DO: the call, the callee's lines, and what follows
    pub do_comes : FamiliesApart rules.families → RankedOnce rules.families → Wells → how ≡ by.ByDo → ((u : State) → G u → Fits routines (scope e blk) w b slots n ts u)
        → (j : Job) → Describes (scope e blk) w b (given_slots given slots) s (idle j) → (m : ℕ) → n ≡ suc m → Comes (Next routines (scope e blk) w b ts m) (called routines NoValue (target_of routines j.routine callee) given ts j)
    do_comes apart once well by_do next j d m same =
        subst (λ o. Comes (Next routines (scope e blk) w b ts m) (called routines NoValue o given ts j)) (sym (ap (λ r. target_of routines r callee) d.stands.routine ∙ t.target))
        (enters_callee NoValue m j (λ head body lines h.
        let q = well head body lines h in
        let to : Job = to_callee apart once head body lines h q.distinct q.shares q.filled q.lent j d [] NoValue in
        goes_on NoValue m to refl (λ marked.
        goes_in apart once head body lines h q.distinct q.shares q.filled q.lent j d (to ∷ w.begun) m same NoValue refl (returns apart once head body lines h q.distinct q.shares q.filled q.lent j d (to ∷ w.begun) m same refl marked by_do next) marked)) (lines_after routines t.entry) refl)

    pub do_fits : FamiliesApart rules.families → RankedOnce rules.families → Wells → how ≡ by.ByDo → ((u : State) → G u → Fits routines (scope e blk) w b slots n ts u)
        → Fits routines (scope e blk) w b (given_slots given slots) n (task.Call false callee given ∷ ts) s
    do_fits apart once well by_do next j d tasks =
        by_step routines (scope e blk) w b n j (task.Call false callee given ∷ ts) tasks (plain_facts (scope e blk) w b j (task.Call false callee given) ts tasks refl) (λ m same free c.
        unasked (Next routines (scope e blk) w b ts m) c (called routines NoValue (target_of routines j.routine callee) given ts j) (do_comes apart once well by_do next j d m same))

    -- an extrinsic function: the same, and its value
    pub value_fits : FamiliesApart rules.families → RankedOnce rules.families → Wells → how ≡ by.Extrinsic → ((u : State) → G u → FitsAny routines (scope e blk) w b slots n ts u)
        → Fits routines (scope e blk) w b (given_slots given slots) n (task.Call true callee given ∷ ts) s
    value_fits apart once well extrinsic next j d tasks =
        by_step routines (scope e blk) w b n j (task.Call true callee given ∷ ts) tasks (plain_facts (scope e blk) w b j (task.Call true callee given) ts tasks refl) (λ m same free c.
        unasked (Next routines (scope e blk) w b ts m) c (called routines (AwaitsValue j.test) (target_of routines j.routine callee) given ts j)
        (subst (λ o. Comes (Next routines (scope e blk) w b ts m) (called routines (AwaitsValue j.test) o given ts j)) (sym (ap (λ r. target_of routines r callee) d.stands.routine ∙ t.target))
        (enters_callee (AwaitsValue j.test) m j (λ head body lines h.
        let q = well head body lines h in
        let to : Job = to_callee apart once head body lines h q.distinct q.shares q.filled q.lent j d [] (AwaitsValue j.test) in
        goes_on (AwaitsValue j.test) m to refl (λ marked.
        goes_in apart once head body lines h q.distinct q.shares q.filled q.lent j d (to ∷ w.begun) m same (AwaitsValue j.test) refl (gives_back apart once head body lines h q.distinct q.shares q.filled q.lent j d (to ∷ w.begun) m same refl marked extrinsic next) marked)) (lines_after routines t.entry) refl)))
