-- What the form of a program and of a certificate implies for calls and for listed cases: formals of one line differ, what a call
-- passes by reference is shared, and no case is listed twice at a point.
use Rattle.std.proofs.Common.{◌≡◌, ℕ, zero, suc, Bool, true, false, List, [], ◌∷◌, map, drop, Option, Some, None, refl, sym, ap, ◌∙◌, subst, arith, ⊎_elim}
use Rattle.std.specs.Prelude.{◌⊎◌, Contains, bytes_eq, find, flat_map, zip, slice_get, option_map, option_and_then}
use Rattle.std.proofs.lemmas.Bool.{cases_Bool, or_cases}
use Rattle.std.proofs.lemmas.List.Elements.{Contains-append_left, Contains-append_right}
use Rattle.mlk_names.proofs.ListLemmas.{contains_cases}
use Rattle.mlk_rules.specs.declared.rules.RuleLists.{RuleLists}
use Rattle.mlk_syntax.specs.Distinct as names
use Rattle.mlk_syntax.specs.declared.expr.Callee.{Callee}
use Rattle.mlk_syntax.specs.ExprTrees.{ActualTree, Given, ByRef, Missing}
use Rattle.mlk_syntax.specs.Trees.{RoutineTree, Called, HeadTree, LineHead, LineTrees}
use Rattle.mlk_program.specs.Entries.{lines_in, formals_of, target_of, line_of_entry}
use Rattle.mlk_program.specs.Program.{PlacedCall, called_formals, lent_by, received_by, received_with, of_entry, passed_with}
use Rattle.mlk_program.specs.declared.entry.EntryId.{EntryId}
use Rattle.mlk_cert_parts.specs.declared.block.EntryCert.{EntryCert}
use Rattle.mlk_cert_parts.specs.declared.block.Point.{Point}
use Rattle.mlk_machine_jobs.specs.Calling.{formals_in, lines_after}
use Rattle.mlk_machine_jobs.specs.Tasks.{LineTree}
use Rattle.mlk_walk_state.specs.Scope.{block_at, block_of, names_entry, cases_of, is_at, listed_at, shared_in_frame}
use Rattle.mlk_walk_state.specs.States.{at_rest}
use Rattle.mlk_walk_state.proofs.EntryTables.{tables_are}
use Rattle.mlk_walk_state.proofs.Shared.{shares_by_own}
use Rattle.mlk_walk_commands.specs.Arguments.{given_list}
use Rattle.mlk_walk.specs.Verdicts.{known}
use Rattle.mlk_walk_laws.specs.Fewer.{StatesDiffer, ListsEachOnce}
use Rattle.mlk_machine_laws.specs.Sharing.{FormalsDiffer}
use Rattle.mlk_soundness_machine.proofs.Passing.{is_reference, refs_of, refers_to, passes}
use Rattle.mlk_soundness_machine.proofs.Reading.{differs, name_is}
use Rattle.mlk_soundness_machine.proofs.Sharing.{SharesByOwn}
use Rattle.mlk_soundness_walk.specs.Entries.{scope}
use Rattle.mlk_machine_laws.specs.WellFormed.{AreFormed}
use Rattle.mlk_soundness_walk.specs.Forms.{ListOnce}
use Rattle.mlk_soundness_walk.specs.Ours.{IsOurs}
use Rattle.mlk_soundness_walk.proofs.Entries.{IsWell, first_line}
use Rattle.mlk_soundness_walk.proofs.Formed.{contains_get}

-- what is found, what is left of a list, and a list joined from lists
found_in : {A : Type 0} (is : A → Bool) (xs : List A) (a : A) → find is xs ≡ Some a → Contains xs a
found_in is [] a h = absurd (cc h)
found_in is (x ∷ xs) a h =
    ⊎_elim
    (λ (u : is x ≡ true). let z : Some x ≡ Some a = (rw u at h) in let y : x ≡ a = cc z in subst (λ k. Contains (x ∷ xs) k) y (0, omega arith, refl))
    (λ (u : is x ≡ false). let z : find is xs ≡ Some a = (rw u at h) in let r = found_in is xs a z in (suc r.0, omega (arith, r.1), r.2))
    (cases_Bool (is x))

left_in : {A : Type 0} (n : ℕ) (xs : List A) (a : A) → Contains (drop n xs) a → Contains xs a
left_in zero xs a i = i
left_in (suc n) [] a i = i
left_in (suc n) (x ∷ xs) a i = let r = left_in n xs a i in (suc r.0, omega (arith, r.1), r.2)

-- no case is listed twice at a point
once_at : (number round : ℕ) (points : List Point) → ((p : Point) → Contains points p → StatesDiffer (map at_rest p.cases)) → StatesDiffer (map at_rest (listed_at points number round))
once_at number round points h = on (find (is_at number round) points) refl
  where
    on : (o : Option Point) → find (is_at number round) points ≡ o → StatesDiffer (map at_rest (cases_of o))
    on None e = tt
    on (Some p) e = h p (found_in (is_at number round) points p e)

pub lists_once : (routines : List RoutineTree) (rules : RuleLists) (blocks : List EntryCert) → ListOnce blocks → (e : EntryId) (blk : EntryCert) → block_at (known routines rules blocks).0 e ≡ Some blk
    → ListsEachOnce (scope routines rules (known routines rules blocks) e blk)
lists_once routines rules blocks once e blk at number round =
    let of : block_of routines blocks e ≡ Some blk = sym ((tables_are routines blocks rules.entries).certified e) ∙ at in
    once_at number round blk.points (once blk (found_in (λ (b : EntryCert). names_entry routines e b.entry) blocks blk of))

-- formals that receive a name, and names that are passed
none_received : (fs : List (List ℕ)) (x : List ℕ) → refs_of fs [] x ≡ false
none_received [] x = refl
none_received (f ∷ fs) x = ⊎_elim (λ (u : bytes_eq f x ≡ true). rw u refl) (λ (u : bytes_eq f x ≡ false). rw u (none_received fs x)) (cases_Bool (bytes_eq f x))

none_passed : (fs : List (List ℕ)) (n : List ℕ) → passes fs [] n ≡ false
none_passed [] n = refl
none_passed (f ∷ fs) n = none_passed fs n

receives : (f : List ℕ) (a : ActualTree) (x : List ℕ) → f ≡ x → is_reference a ≡ true → Contains (received_by (f, a)) x
receives f (ByRef column name) x e h = subst (λ z. Contains (f ∷ []) z) e (0, omega arith, refl)
receives f (Given t) x e h = differs false h refl
receives f Missing x e h = differs false h refl

received : (fs : List (List ℕ)) (given : List ActualTree) (x : List ℕ) → refs_of fs given x ≡ true → Contains (flat_map received_by (zip fs given)) x
received [] given x h = differs false h refl
received (f ∷ fs) [] x h = differs (refs_of (f ∷ fs) [] x) h (none_received (f ∷ fs) x)
received (f ∷ fs) (a ∷ given) x h =
    ⊎_elim
    (λ (u : bytes_eq f x ≡ true).
    let z : is_reference a ≡ true = (rw u at h) in
    Contains-append_left (received_by (f, a)) (flat_map received_by (zip fs given)) x (receives f a x (name_is f x u) z))
    (λ (u : bytes_eq f x ≡ false).
    let z : refs_of fs given x ≡ true = (rw u at h) in
    Contains-append_right (received_by (f, a)) (flat_map received_by (zip fs given)) x (received fs given x z))
    (cases_Bool (bytes_eq f x))

lends : (a : ActualTree) (n : List ℕ) → refers_to n a ≡ true → Contains (lent_by a) n
lends (ByRef column name) n h = subst (λ z. Contains (name ∷ []) z) (name_is name n h) (0, omega arith, refl)
lends (Given t) n h = differs false h refl
lends Missing n h = differs false h refl

lent : (fs : List (List ℕ)) (given : List ActualTree) (n : List ℕ) → passes fs given n ≡ true → Contains (flat_map lent_by given) n
lent [] given n h = differs false h refl
lent (f ∷ fs) [] n h = differs (passes (f ∷ fs) [] n) h (none_passed (f ∷ fs) n)
lent (f ∷ fs) (a ∷ given) n h =
    ⊎_elim
    (λ u. Contains-append_left (lent_by a) (flat_map lent_by given) n (lends a n u))
    (λ u. Contains-append_right (lent_by a) (flat_map lent_by given) n (lent fs given n u))
    (or_cases (refers_to n a) (passes fs given n) h)

-- a call fills and passes them
mapped_in : {A B : Type 0} (f : A → B) (xs : List A) (a : A) → Contains xs a → Contains (map f xs) (f a)
mapped_in f [] a i = absurd (omega (arith, i.1))
mapped_in f (x ∷ xs) a i =
    ⊎_elim
    (λ (e : x ≡ a). (0, omega arith, ap f e))
    (λ (r : Contains xs a). let q = mapped_in f xs a r in (suc q.0, omega (arith, q.1), q.2))
    (contains_cases x xs a i)

filled_names : (head : HeadTree) (written : Option (List ActualTree)) (x : List ℕ) → refs_of (formals_in head) (given_list written) x ≡ true → Contains (received_with (Some (formals_of head)) written) x
filled_names head None x h = differs (refs_of (formals_in head) [] x) h (none_received (formals_in head) x)
filled_names (LineHead number level end label None commands) (Some given) x h = differs false h refl
filled_names (LineHead number level end label (Some fs) commands) (Some given) x h = received fs given x h

lent_names : (fs : List (List ℕ)) (written : Option (List ActualTree)) (n : List ℕ) → passes fs (given_list written) n ≡ true → Contains (passed_with written) n
lent_names fs None n h = differs (passes fs [] n) h (none_passed fs n)
lent_names fs (Some given) n h = lent fs given n h

-- which names are shared in frames of two entries, one of which may call the other
pub frames_share : (routines : List RoutineTree) (caller callee : EntryId) → SharesByOwn (shared_in_frame routines caller) (shared_in_frame routines callee)
frames_share routines caller callee = record {
  by_own = (shares_by_own routines).by_own caller;
  nowhere = (shares_by_own routines).nowhere caller callee;
}

module _ (routines : List RoutineTree) (rules : RuleLists) (entries : List (EntryId × EntryCert) × List EntryId) (t : EntryId) (head : HeadTree) (body : LineTrees) (lines : List LineTree)
    (heads : lines_after routines t ≡ (head, body) ∷ lines) where
  its_line : line_of_entry routines t ≡ Some (head, body)
  its_line = on (slice_get routines t.routine) refl heads
    where
      on : (o : Option RoutineTree) → slice_get routines t.routine ≡ o → lines_after routines t ≡ (head, body) ∷ lines → line_of_entry routines t ≡ Some (head, body)
      on None f g = let z : [] ≡ (head, body) ∷ lines = (rw f at g) in absurd (cc z)
      on (Some tree) f g =
          let z : drop t.line (lines_in tree) ≡ (head, body) ∷ lines = (rw f at g) in
          ap (λ o. option_and_then (λ x. slice_get (lines_in x) t.line) o) f ∙ first_line routines rules entries (lines_in tree) t.line (head, body) lines z

  pub its_formals : FormalsDiffer routines → names.AreDistinct (formals_in head)
  its_formals differ = on (slice_get routines t.routine) refl heads
    where
      on : (o : Option RoutineTree) → slice_get routines t.routine ≡ o → lines_after routines t ≡ (head, body) ∷ lines → names.AreDistinct (formals_in head)
      on None f g = let z : [] ≡ (head, body) ∷ lines = (rw f at g) in absurd (cc z)
      on (Some tree) f g =
          let z : drop t.line (lines_in tree) ≡ (head, body) ∷ lines = (rw f at g) in
          differ tree (contains_get routines t.routine tree f) (head, body)
          (left_in t.line (lines_in tree) (head, body) (subst (λ y. Contains y (head, body)) (sym z) (0, omega arith, refl)))

  -- a call of the program is well formed
  pub well_of : AreFormed routines → (e : EntryId) (blk its : EntryCert) (column : ℕ) (callee : Callee) (written : Option (List ActualTree)) → IsOurs (scope routines rules entries e blk) (Called column callee written)
      → target_of routines e.routine callee ≡ Some t → IsWell (scope routines rules entries e blk).is_shared (scope routines rules entries t its).is_shared (formals_in head) (given_list written)
  well_of formed e blk its column callee written ours target =
      let q : PlacedCall = record { routine = e.routine; line = ours.0; call = Called column callee written } in
      let are : called_formals routines e.routine callee ≡ Some (formals_of head) =
      ap (λ o. option_map (λ (l : LineTree). formals_of l.0) (option_and_then (line_of_entry routines) o)) target ∙ ap (option_map (λ (l : LineTree). formals_of l.0)) its_line in
      record {
        distinct = its_formals (λ tree i. (formed tree i).formals);
        shares = frames_share routines e t;
        filled = λ x h own i.
            let p : EntryId × List ℕ = (t, x) in
            let here : Contains {X = EntryId × List ℕ} (of_entry (Some t) (received_with (Some (formals_of head)) written)) p =
            mapped_in (λ f. (t, f)) (received_with (Some (formals_of head)) written) x (filled_names head written x h) in
            (shares_by_own routines).filled q t own x ours.1
            (subst (λ o. Contains {X = EntryId × List ℕ} (of_entry o (received_with (called_formals routines e.routine callee) written)) p) (sym target)
            (subst (λ o. Contains {X = EntryId × List ℕ} (of_entry (Some t) (received_with o written)) p) (sym are) here));
        lent = λ n h own i. (shares_by_own routines).passed q t own n ours.1 (lent_names (formals_in head) written n h) i;
      }
