-- What is kept of calls, one after another.
use Rattle.std.proofs.Common.{◌≡◌, ◌<◌, ◌+◌, suc, refl, sym, ap, ◌∙◌, subst, ℕ, Bool, true, false, List, [], ◌∷◌, ◌++◌, map, take, length, get_or, add-one, append-nil, length-take-le, le_of_lt, arith, Option, Some, None}
use Rattle.std.proofs.Math.Seq.{take-suc}
use Rattle.std.specs.Prelude.{◌||◌, flat_map, zip, slice_get}
use Rattle.std.specs.List.{list_any}
use Rattle.std.proofs.lemmas.List.Folds.{list_any-append}
use Rattle.std.proofs.lemmas.Grind.{flat_map-append}
use Rattle.mlk_syntax.specs.ExprTrees.{ActualTree, Given, ByRef, Missing, actual_of, actual_trees}
use Rattle.mlk_syntax.specs.declared.expr.Actual.{Actual}
use Rattle.mlk_syntax.specs.declared.routine.Routine.{Routine}
use Rattle.mlk_program.specs.Tables.{trees}
use Rattle.mlk_program.specs.Linking.{placed_in, placed_at}
use Rattle.mlk_program.specs.Found.{given_of}
use Rattle.mlk_program.specs.declared.call.CallSite.{CallSite}
use Rattle.mlk_program.proofs.LinkedLines.{calls_flat}
use Rattle.mlk_syntax.specs.declared.expr.Callee.{Callee}
use Rattle.mlk_program.specs.declared.entry.EntryId.{EntryId}
use Rattle.mlk_program.specs.Entries.{target_of}
use Rattle.mlk_program.proofs.SharedNames.{received_more, trees_snoc, trees_length, zip_none}
use Rattle.mlk_syntax.specs.Trees.{RoutineTree}
use Rattle.mlk_program.specs.Program.{PlacedCall, calls_from, filled_by, passed_by, lent_by, received_by, received_at, received_with, of_entry, called_formals, is_by_reference, passed_with}
use Rattle.mlk_program.specs.Frames.{NameAt, Kept, same_name, is_kept, is_passed, answers, Learns, LearnsCalls, entry_name, formal_name, fillings, part_name, passings, passed_at, passed_by_list, filled_at, filled_by_list, filled_in, formals_of_entry, formals_known, passed_in_lines, passed_from}
use Rattle.mlk_program.specs.declared.part.RoutinePart.{RoutinePart}

or_moved : (a b c : Bool) → ((a || b) || c) ≡ (a || (b || c))
or_moved true b c = refl
or_moved false b c = refl

or_none : (b : Bool) → b ≡ (b || false)
or_none true = refl
or_none false = refl

or_turned : (a b c : Bool) → ((a || b) || c) ≡ (a || (c || b))
or_turned true b c = refl
or_turned false true true = refl
or_turned false true false = refl
or_turned false false true = refl
or_turned false false false = refl

pub learns_none : (kept : Kept) → Learns [] [] kept kept
learns_none kept = ((λ q. or_none (is_kept kept.0 q)), (λ q left. or_none (is_passed kept.1 q left)))

-- first the ones, then the others
pub learns_both : (f g : List NameAt) (p r : List (NameAt × ℕ)) (old mid new : Kept) → Learns f p old mid → Learns g r mid new
    → Learns (f ++ g) (p ++ r) old new
learns_both f g p r old mid new h k = (
  (λ q. k.0 q ∙ ap (λ b. b || is_kept g q) (h.0 q) ∙ or_moved (is_kept old.0 q) (is_kept f q) (is_kept g q)
      ∙ ap (λ b. is_kept old.0 q || b) (sym (list_any-append (same_name q) f g))),
  (λ q left. k.1 q left ∙ ap (λ b. b || list_any (answers q left) r) (h.1 q left)
      ∙ or_moved (is_passed old.1 q left) (list_any (answers q left) p) (list_any (answers q left) r)
      ∙ ap (λ b. is_passed old.1 q left || b) (sym (list_any-append (answers q left) p r))),
)

-- what is learned in one order is learned in the other
pub learns_before : (f g : List NameAt) (p r : List (NameAt × ℕ)) (old mid new : Kept) → Learns f p old mid → Learns g r mid new
    → Learns (g ++ f) (r ++ p) old new
learns_before f g p r old mid new h k = (
  (λ q. k.0 q ∙ ap (λ b. b || is_kept g q) (h.0 q) ∙ or_turned (is_kept old.0 q) (is_kept f q) (is_kept g q)
      ∙ ap (λ b. is_kept old.0 q || b) (sym (list_any-append (same_name q) g f))),
  (λ q left. k.1 q left ∙ ap (λ b. b || list_any (answers q left) r) (h.1 q left)
      ∙ or_turned (is_passed old.1 q left) (list_any (answers q left) p) (list_any (answers q left) r)
      ∙ ap (λ b. is_passed old.1 q left || b) (sym (list_any-append (answers q left) r p))),
)

map_append : {A B : Type 0} (f : A → B) (xs ys : List A) → map f (xs ++ ys) ≡ map f xs ++ map f ys
map_append f [] ys = refl
map_append f (x ∷ xs) ys = ap (λ more. f x ∷ more) (map_append f xs ys)

fillings_both : (rs : List RoutineTree) (a b : List PlacedCall) → fillings rs (a ++ b) ≡ fillings rs a ++ fillings rs b
fillings_both rs a b = ap (map entry_name) (flat_map-append (filled_by rs) a b)
    ∙ map_append entry_name (flat_map (filled_by rs) a) (flat_map (filled_by rs) b)

passings_both : (part : RoutinePart) (a b : List PlacedCall) → passings part (a ++ b) ≡ passings part a ++ passings part b
passings_both part a b = ap (map (part_name part)) (flat_map-append passed_by a b)
    ∙ map_append (part_name part) (flat_map passed_by a) (flat_map passed_by b)

pub learns_calls : (rs : List RoutineTree) (part : RoutinePart) (a b : List PlacedCall) (old mid new : Kept) → LearnsCalls rs part a old mid
    → LearnsCalls rs part b mid new → LearnsCalls rs part (a ++ b) old new
learns_calls rs part a b old mid new h k = rw (fillings_both rs a b, passings_both part a b)
    (learns_both (fillings rs a) (fillings rs b) (passings part a) (passings part b) old mid new h k)

-- the calls of one more item
module _ {A : Type 0} (calls : A → List PlacedCall) (rs : List RoutineTree) (part : RoutinePart) (items : List A) (i : ℕ) (x : A)
    (low : i < length items) (is : x ≡ get_or items i x) where
  pub learns_next : (old mid new : Kept) → LearnsCalls rs part (flat_map calls (take i items)) old mid
      → LearnsCalls rs part (calls x) mid new → LearnsCalls rs part (flat_map calls (take (i + 1) items)) old new
  learns_next old mid new h k =
      let step : take (i + 1) items ≡ take i items ++ x ∷ [] =
      rw (add-one) (take-suc items i x low ∙ ap (λ y. take i items ++ y ∷ []) (sym is)) in
      let parts : flat_map calls (take (i + 1) items) ≡ flat_map calls (take i items) ++ calls x =
      ap (flat_map calls) step ∙ flat_map-append calls (take i items) (x ∷ [])
      ∙ ap (λ more. flat_map calls (take i items) ++ more) (append-nil (calls x)) in
      subst (λ c. LearnsCalls rs part c old new) (sym parts) (learns_calls rs part _ (calls x) old mid new h k)

-- calls before others
pub learns_routine : (rs : List RoutineTree) (a rest : List PlacedCall) (r p : List (NameAt × ℕ))
    (old mid new : Kept) → Learns (fillings rs rest) p old mid → Learns (fillings rs a) r mid new
    → Learns (fillings rs (a ++ rest)) (r ++ p) old new
learns_routine rs a rest r p old mid new h k = rw (fillings_both rs a rest)
    (learns_before (fillings rs rest) (fillings rs a) p r old mid new h k)

-- an actual list without one by reference fills and passes nothing
pub none_lent : (given : List ActualTree) → list_any is_by_reference given ≡ false → flat_map lent_by given ≡ []
none_lent [] h = refl
none_lent (Given t ∷ given) h = none_lent given h
none_lent (Missing ∷ given) h = none_lent given h
none_lent (ByRef column name ∷ given) h = cc h

pub none_received : (formals : List (List ℕ)) (given : List ActualTree) → list_any is_by_reference given ≡ false
    → flat_map received_by (zip formals given) ≡ []
none_received [] given h = refl
none_received (f ∷ formals) [] h = refl
none_received (f ∷ formals) (Given t ∷ given) h = none_received formals given h
none_received (f ∷ formals) (Missing ∷ given) h = none_received formals given h
none_received (f ∷ formals) (ByRef column name ∷ given) h = cc h

-- one more actual
pub passed_next : (part : RoutinePart) (given : List Actual) (i : ℕ) (a : Actual) (old mid new : Kept) → i < length given
    → a ≡ get_or given i a → Learns [] (passed_by_list part (actual_trees (take i given))) old mid
    → Learns [] (passed_at part (actual_of a)) mid new → Learns [] (passed_by_list part (actual_trees (take (i + 1) given))) old new
passed_next part given i a old mid new low is h k =
    let step : take (i + 1) given ≡ take i given ++ a ∷ [] =
    rw (add-one) (take-suc given i a low ∙ ap (λ x. take i given ++ x ∷ []) (sym is)) in
    let parts : passed_by_list part (actual_trees (take (i + 1) given))
    ≡ passed_by_list part (actual_trees (take i given)) ++ passed_at part (actual_of a) =
    ap (passed_by_list part) (ap actual_trees step ∙ trees_snoc (take i given) a)
    ∙ ap (map (part_name part)) (flat_map-append lent_by (actual_trees (take i given)) (actual_of a ∷ [])
    ∙ ap (λ more. flat_map lent_by (actual_trees (take i given)) ++ more) (append-nil (lent_by (actual_of a))))
    ∙ map_append (part_name part) (flat_map lent_by (actual_trees (take i given))) (lent_by (actual_of a)) in
    subst (λ p. Learns [] p old new) (sym parts) (learns_both [] [] _ (passed_at part (actual_of a)) old mid new h k)

pub filled_next : (e : EntryId) (formals : List (List ℕ)) (given : List Actual) (i : ℕ) (a : Actual) (old mid new : Kept)
    → i < length given → a ≡ get_or given i a → Learns (filled_by_list e formals (actual_trees (take i given))) [] old mid
    → Learns (filled_at e (slice_get formals i) (actual_of a)) [] mid new
    → Learns (filled_by_list e formals (actual_trees (take (i + 1) given))) [] old new
filled_next e formals given i a old mid new low is h k =
    let step : take (i + 1) given ≡ take i given ++ a ∷ [] =
    rw (add-one) (take-suc given i a low ∙ ap (λ x. take i given ++ x ∷ []) (sym is)) in
    let count : length (actual_trees (take i given)) ≡ i =
    trees_length (take i given) ∙ length-take-le i given (le_of_lt low) in
    let parts : filled_by_list e formals (actual_trees (take (i + 1) given))
    ≡ filled_by_list e formals (actual_trees (take i given)) ++ filled_at e (slice_get formals i) (actual_of a) =
    ap (filled_by_list e formals) (ap actual_trees step ∙ trees_snoc (take i given) a)
    ∙ ap (map (formal_name e)) (received_more formals (actual_trees (take i given)) (actual_of a))
    ∙ map_append (formal_name e) (flat_map received_by (zip formals (actual_trees (take i given))))
    (received_at (slice_get formals (length (actual_trees (take i given)))) (actual_of a))
    ∙ ap (λ n. filled_by_list e formals (actual_trees (take i given)) ++ filled_at e (slice_get formals n) (actual_of a)) count in
    subst (λ f. Learns f [] old new) (sym parts) (learns_both _ (filled_at e (slice_get formals i) (actual_of a)) [] [] old mid new h k)

pub filled_first : (e : EntryId) (formals : List (List ℕ)) (kept : Kept) → Learns (filled_by_list e formals []) [] kept kept
filled_first e formals kept = subst (λ pairs. Learns (map (formal_name e) (flat_map received_by pairs)) [] kept kept)
    (sym (zip_none formals)) (learns_none kept)

-- what a call fills if it names an entry, and if it names none
pub filled_unknown : (routines : List RoutineTree) (own : ℕ) (callee : Callee) (given : List ActualTree) (kept : Kept)
    → target_of routines own callee ≡ None → Learns (filled_in routines own callee given) [] kept kept
filled_unknown routines own callee given kept is =
    subst (λ o. Learns (map entry_name (of_entry o (received_with (called_formals routines own callee) (Some given)))) [] kept kept)
    (sym is) (learns_none kept)

pub filled_without : (routines : List RoutineTree) (own : ℕ) (callee : Callee) (given : List ActualTree) (e : EntryId) (kept : Kept)
    → target_of routines own callee ≡ Some e → formals_known (formals_of_entry routines e) ≡ None
    → Learns (filled_in routines own callee given) [] kept kept
filled_without routines own callee given e kept is none =
    rw is (no_formals (formals_of_entry routines e) none)
  where
    no_formals : (o : Option (Option (List (List ℕ)))) → formals_known o ≡ None
        → Learns (map entry_name (of_entry (Some e) (received_with o (Some given)))) [] kept kept
    no_formals None h = learns_none kept
    no_formals (Some None) h = learns_none kept
    no_formals (Some (Some formals)) h = cc h

pub filled_with : (routines : List RoutineTree) (own : ℕ) (callee : Callee) (given : List ActualTree) (e : EntryId)
    (formals : List (List ℕ)) (old new : Kept) → target_of routines own callee ≡ Some e
    → formals_known (formals_of_entry routines e) ≡ Some formals → Learns (filled_by_list e formals given) [] old new
    → Learns (filled_in routines own callee given) [] old new
filled_with routines own callee given e formals old new is some h =
    rw is (with_formals (formals_of_entry routines e) some)
  where
    mapped : (fs : List (List ℕ)) → map entry_name (map (λ f. (e, f)) fs) ≡ map (formal_name e) fs
    mapped [] = refl
    mapped (f ∷ fs) = ap (λ more. formal_name e f ∷ more) (mapped fs)

    with_formals : (o : Option (Option (List (List ℕ)))) → formals_known o ≡ Some formals
        → Learns (map entry_name (of_entry (Some e) (received_with o (Some given)))) [] old new
    with_formals None q = cc q
    with_formals (Some None) q = cc q
    with_formals (Some (Some fs)) q = subst (λ f. Learns f [] old new)
        (sym (mapped (flat_map received_by (zip fs given))))
        (subst (λ z. Learns (filled_by_list e z given) [] old new) (one q) h)
      where
        one : Some fs ≡ Some formals → formals ≡ fs
        one r = cc r

-- a call that passes nothing by reference
none_of : (target : Option EntryId) → of_entry target [] ≡ []
none_of None = refl
none_of (Some e) = refl

any_actual : (given : List Actual) → list_any is_by_reference (actual_trees given) ≡ list_any (λ a. is_by_reference (actual_of a)) given
any_actual [] = refl
any_actual (a ∷ given) = ap (λ b. is_by_reference (actual_of a) || b) (any_actual given)

module _ (rs : List RoutineTree) (part : RoutinePart) (line : ℕ) (site : CallSite) where
  abbrev called : Option (Option (List (List ℕ)))
  called = called_formals rs part.routine site.callee.now

  abbrev target : Option EntryId
  target = target_of rs part.routine site.callee.now

  call_learned : (o : Option (List ActualTree)) (old new : Kept) → given_of site.actuals.now ≡ o
      → Learns (map entry_name (of_entry target (received_with called o))) (map (part_name part) (passed_with o)) old new
      → LearnsCalls rs part (placed_at part.routine line site) old new
  call_learned o old new is h =
      subst (λ g. Learns (map entry_name (of_entry target (received_with called g) ++ [])) (map (part_name part) (passed_with g ++ [])) old new) (sym is)
      (subst (λ f. Learns (map entry_name f) (map (part_name part) (passed_with o ++ [])) old new) (sym (append-nil (of_entry target (received_with called o))))
      (subst (λ p. Learns (map entry_name (of_entry target (received_with called o))) (map (part_name part) p) old new) (sym (append-nil (passed_with o))) h))

  nothing_learned : (o : Option (List ActualTree)) (kept : Kept) → given_of site.actuals.now ≡ o → received_with called o ≡ []
      → passed_with o ≡ [] → LearnsCalls rs part (placed_at part.routine line site) kept kept
  nothing_learned o kept is none lent = call_learned o kept kept is
      (subst (λ r. Learns (map entry_name (of_entry target r)) (map (part_name part) (passed_with o)) kept kept) (sym none)
      (subst (λ f. Learns (map entry_name f) (map (part_name part) (passed_with o)) kept kept) (sym (none_of target))
      (subst (λ p. Learns [] (map (part_name part) p) kept kept) (sym lent) (learns_none kept))))

  received_values : (o : Option (Option (List (List ℕ)))) (given : List ActualTree) → list_any is_by_reference given ≡ false
      → received_with o (Some given) ≡ []
  received_values None given h = refl
  received_values (Some None) given h = refl
  received_values (Some (Some formals)) given h = none_received formals given h

  pub call_with_values : (given : List Actual) (kept : Kept) → given_of site.actuals.now ≡ Some (actual_trees given)
      → list_any (λ a. is_by_reference (actual_of a)) given ≡ false → LearnsCalls rs part (placed_at part.routine line site) kept kept
  call_with_values given kept is h =
      let none : list_any is_by_reference (actual_trees given) ≡ false = any_actual given ∙ h in
      nothing_learned (Some (actual_trees given)) kept is (received_values called (actual_trees given) none) (none_lent (actual_trees given) none)

-- one routine before others
pub routine_step : (rs : List RoutineTree) (k : ℕ) (routine : Routine) (done : List Routine) (old mid new : Kept)
    → Learns (fillings rs (calls_from (suc k) (trees done))) (passed_from (suc k) done) old mid
    → Learns (fillings rs (flat_map (placed_in k) routine.lines.items)) (passed_in_lines k routine.lines.items) mid new
    → Learns (fillings rs (calls_from k (trees (routine ∷ done)))) (passed_from k (routine ∷ done)) old new
routine_step rs k routine done old mid new h g =
    subst (λ calls. Learns (fillings rs (calls ++ calls_from (suc k) (trees done))) (passed_from k (routine ∷ done)) old new)
    (sym (calls_flat k routine.lines.items))
    (learns_routine rs (flat_map (placed_in k) routine.lines.items) (calls_from (suc k) (trees done))
    (passed_in_lines k routine.lines.items) (passed_from (suc k) done) old mid new h g)

pub length_last : {A : Type 0} (before : List A) (x : A) → length (before ++ x ∷ []) ≡ suc (length before)
length_last [] x = refl
length_last (y ∷ before) x = ap suc (length_last before x)

no_length : {A : Type 0} (xs : List A) → length xs ≡ 0 → xs ≡ []
no_length [] h = refl
no_length (x ∷ xs) h = absurd (omega (arith, h))

-- after the last, all are learned
pub routines_all : (rs : List RoutineTree) (routines left done : List Routine) (old new : Kept) → routines ≡ left ++ done → length left ≡ 0
    → Learns (fillings rs (calls_from (length left) (trees done))) (passed_from (length left) done) old new
    → Learns (fillings rs (calls_from 0 (trees routines))) (passed_from 0 routines) old new
routines_all rs routines left done old new e empty h =
    let none : left ≡ [] = no_length left empty in
    let same : done ≡ routines = sym (e ∙ ap (λ l. l ++ done) none) in
    subst (λ ds. Learns (fillings rs (calls_from 0 (trees ds))) (passed_from 0 ds) old new) same
    (subst (λ l. Learns (fillings rs (calls_from (length l) (trees done))) (passed_from (length l) done) old new) none h)
