-- What an empty report implies: each certified entry has a clean verdict.
use Rattle.std.proofs.Common.{◌≡◌, refl, sym, ap, subst, ◌∙◌, ℕ, zero, suc, ◌+◌, List, [], ◌∷◌, ◌++◌, map, Option, Some, None, true, false, inl, ⊎_elim, arith, is_some, eqb-true}
use Rattle.std.specs.Prelude.{◌⊎◌, ◌==◌, position, flat_map, option_map, option_and_then, slice_get, if◌then◌else◌}
use Rattle.std.specs.Ordering.{match_ordering}
use Rattle.std.specs.declared.cmp.Ordering.{Ordering}
use Rattle.std.specs.declared.cmp.Ordering.TheVariants.{Less, Equal, Greater}
use Rattle.std.proofs.lemmas.Bool.{cases_Bool, and_parts, or_left, or_right}
use Rattle.mlk_text.specs.declared.code.Code.TheVariants.{NoCertificate}
use Rattle.mlk_names.specs.Lists.{Among}
use Rattle.mlk_syntax.specs.Trees.{RoutineTree, HeadTree, LineTrees}
use Rattle.mlk_program.specs.Entries.{same_entry, lines_in, label_of, is_label, line_named, entry_by, has_label, line_of_entry}
use Rattle.mlk_program.specs.Laws.{IsEntryOf}
use Rattle.mlk_program.specs.declared.entry.EntryId.{EntryId}
use Rattle.mlk_program.proofs.EntryTexts.{entries-named, one_place, first_passes}
use Rattle.mlk_program.proofs.NameTables.{position-cons}
use Rattle.mlk_cert_parts.specs.declared.block.EntryCert.{EntryCert}
use Rattle.mlk_rules.specs.declared.rules.RuleLists.{RuleLists}
use Rattle.mlk_walk_state.specs.Scope.{block_at, block_of, has_entry, is_declared, certified, declared, scope_with}
use Rattle.mlk_walk_state.proofs.EntryTables.{tables_are}
use Rattle.mlk_calls.specs.Calls.{formals_in}
use Rattle.mlk_walk_exprs.specs.declared.walk.Fault.{Fault}
use Rattle.mlk_walk.specs.Faults.{fault_cmp, put_fault, put_faults}
use Rattle.mlk_walk.specs.Verdicts.{fault_at, known, verdict, entry_faults, faults_with, all_faults, own_faults, begin_faults, need_faults, exit_faults, entry_number, entry_walk, fault_in}
use Rattle.mlk_walk.specs.Reports.{is_entry, entry_at, line_entries, entries_from, is_checked, row_of, rows_of, report}
use Rattle.mlk_walk_laws.proofs.Lists.{in_front, in_back}
use Rattle.mlk_soundness_walk.specs.Clean.{IsCleanEntry}

-- lists that are empty
left_none : {A : Type 0} (xs ys : List A) → xs ++ ys ≡ [] → xs ≡ []
left_none [] ys h = refl
left_none (x ∷ xs) ys h = cc h

right_none : {A : Type 0} (xs ys : List A) → xs ++ ys ≡ [] → ys ≡ []
right_none [] ys h = h
right_none (x ∷ xs) ys h = cc h

map_none : {A B : Type 0} (f : A → B) (xs : List A) → map f xs ≡ [] → xs ≡ []
map_none f [] h = refl
map_none f (x ∷ xs) h = cc h

flat_none : {A B : Type 0} (f : A → List B) (xs : List A) (a : A) → flat_map f xs ≡ [] → Among a xs → f a ≡ []
flat_none f [] a h m = absurd m
flat_none f (x ∷ xs) a h m = ⊎_elim (λ e. ap f e ∙ left_none (f x) (flat_map f xs) h) (λ k. flat_none f xs a (right_none (f x) (flat_map f xs) h) k) m

-- no fault is lost
put_some : (f : Fault) (faults : List Fault) → put_fault f faults ≡ [] → ⊥
put_some f [] h = cc h
put_some f (g ∷ faults) h = by (fault_cmp f g) h
  where
    by : (o : Ordering) → match_ordering o (f ∷ g ∷ faults) (g ∷ faults) (g ∷ put_fault f faults) ≡ [] → ⊥
    by Less h = cc h
    by Equal h = cc h
    by Greater h = cc h

put_none : (faults : List Fault) → put_faults faults [] ≡ [] → faults ≡ []
put_none [] h = refl
put_none (f ∷ faults) h = absurd (put_some f (put_faults faults []) h)

-- the line that a label names is an entry
is_its : (label : List ℕ) (o : Option (List ℕ)) → is_label label o ≡ true → is_some o ≡ true
is_its label None h = cc h
is_its label (Some l) h = refl

any_first : (lines : List (HeadTree × LineTrees)) (n : ℕ) → position (λ l. true) lines ≡ Some n → n ≡ 0
any_first [] n h = cc h
any_first (l ∷ lines) n h = sym (one_place 0 n (sym (position-cons (λ l. true) l lines) ∙ h))

named_entry : (label : Option (List ℕ)) (lines : List (HeadTree × LineTrees)) (n : ℕ) → line_named label lines ≡ Some n → (l : HeadTree × LineTrees) × (slice_get lines n ≡ Some l) × (is_entry n l ≡ true)
named_entry None lines n h =
    let found = first_passes (λ l. true) lines n h in
    let first : (n == 0) ≡ true = ap (λ k. k == 0) (any_first lines n h) in
    (found.0, found.1, or_left (n == 0) (has_label found.0) first)
named_entry (Some label) lines n h =
    let found = first_passes (λ l. is_label label (label_of l.0)) lines n h in
    (found.0, found.1, or_right (n == 0) (has_label found.0) (is_its label (label_of found.0.0) found.2))

among_lines : (r number n : ℕ) (lines : List (HeadTree × LineTrees)) (l : HeadTree × LineTrees) → slice_get lines n ≡ Some l → is_entry (number + n) l ≡ true → Among (entry_at r (number + n)) (line_entries r number lines)
among_lines r number n [] l h e = cc h
among_lines r number zero (x ∷ lines) l h e = in_front (entry_at r (number + 0)) (if is_entry number x then entry_at r number ∷ [] else []) (line_entries r (suc number) lines) here
  where
    z : number + 0 ≡ number
    z = omega arith

    same : x ≡ l
    same = cc h

    is : is_entry number x ≡ true
    is = ap (is_entry number) same ∙ sym (ap (λ k. is_entry k l) z) ∙ e

    here : Among (entry_at r (number + 0)) (if is_entry number x then entry_at r number ∷ [] else [])
    here = subst (λ q. Among (entry_at r (number + 0)) (if q then entry_at r number ∷ [] else [])) (sym is) (inl (ap (entry_at r) z))
among_lines r number (suc n) (x ∷ lines) l h e =
    let z : suc number + n ≡ number + suc n = omega arith in
    in_back (entry_at r (number + suc n)) (if is_entry number x then entry_at r number ∷ [] else []) (line_entries r (suc number) lines)
    (subst (λ k. Among (entry_at r k) (line_entries r (suc number) lines)) z (among_lines r (suc number) n lines l h (ap (λ k. is_entry k l) z ∙ e)))

among_routines : (e : EntryId) (base r : ℕ) (routines : List RoutineTree) (tree : RoutineTree) → slice_get routines r ≡ Some tree → Among e (line_entries (base + r) 0 (lines_in tree)) → Among e (entries_from base routines)
among_routines e base r [] tree h m = cc h
among_routines e base zero (x ∷ routines) tree h m =
    let z : base + 0 ≡ base = omega arith in
    let same : tree ≡ x = cc h in
    in_front e (line_entries base 0 (lines_in x)) (entries_from (suc base) routines)
    (subst (λ k. Among e (line_entries k 0 (lines_in x))) z (subst (λ t. Among e (line_entries (base + 0) 0 (lines_in t))) same m))
among_routines e base (suc r) (x ∷ routines) tree h m =
    let z : base + suc r ≡ suc base + r = omega arith in
    in_back e (line_entries base 0 (lines_in x)) (entries_from (suc base) routines)
    (among_routines e (suc base) r routines tree h (subst (λ k. Among e (line_entries k 0 (lines_in tree))) z m))

pub entry_among : (routines : List RoutineTree) (e : EntryId) → IsEntryOf routines e → Among e (entries_from 0 routines)
entry_among routines e (r, label, h) = in_routine (slice_get routines r) refl h
  where
    in_line : (tree : RoutineTree) → slice_get routines r ≡ Some tree → (o : Option ℕ) → line_named label (lines_in tree) ≡ o → option_map (λ l. record { routine = r; line = l }) o ≡ Some e → Among e (entries_from 0 routines)
    in_line tree at None is k = cc k
    in_line tree at (Some n) is k =
        let found = named_entry label (lines_in tree) n is in
        let z : 0 + n ≡ n = omega arith in
        let m = among_lines r 0 n (lines_in tree) found.0 found.1 (ap (λ q. is_entry q found.0) z ∙ found.2) in
        let one : entry_at r n ≡ e = cc k in
        let same : entry_at r (0 + n) ≡ e = ap (entry_at r) z ∙ one in
        let y : r ≡ 0 + r = omega arith in
        among_routines e 0 r routines tree at (subst (λ k. Among e (line_entries k 0 (lines_in tree))) y (subst (λ x. Among x (line_entries r 0 (lines_in tree))) same m))

    in_routine : (o : Option RoutineTree) → slice_get routines r ≡ o → option_and_then (λ tree. option_map (λ l. record { routine = r; line = l }) (line_named label (lines_in tree))) o ≡ Some e → Among e (entries_from 0 routines)
    in_routine None at k = cc k
    in_routine (Some tree) at k = in_line tree at (line_named label (lines_in tree)) refl k

-- a certified entry is an entry
entry_is : (e f : EntryId) → same_entry e f ≡ true → e ≡ f
entry_is e f h =
    let p = and_parts (e.routine == f.routine) (e.line == f.line) h in
    ap (λ z. record e { routine = z }) (eqb-true e.routine f.routine p.0) ∙ ap (λ z. record f { line = z }) (eqb-true e.line f.line p.1)

block_entry : (routines : List RoutineTree) (blocks : List EntryCert) (e : EntryId) (b : EntryCert) → block_of routines blocks e ≡ Some b → IsEntryOf routines e
block_entry routines [] e b h = cc h
block_entry routines (x ∷ blocks) e b h = of (entry_by routines x.entry) refl (block_entry routines blocks e b)
  where
    of : (o : Option EntryId) → entry_by routines x.entry ≡ o → (block_of routines blocks e ≡ Some b → IsEntryOf routines e) → IsEntryOf routines e
    of None i more = more (rw i at h)
    of (Some k) i more =
        ⊎_elim (λ (g : same_entry e k ≡ true). subst (IsEntryOf routines) (sym (entry_is e k g)) ((entries-named routines k).0 x.entry i))
        (λ (g : same_entry e k ≡ false). more (rw (i, g) at h)) (cases_Bool (same_entry e k))

report_rows : (routines : List RoutineTree) (rules : RuleLists) (blocks : List EntryCert) → report routines rules blocks ≡ [] → (e : EntryId) → Among e (entries_from 0 routines) → rows_of routines rules (known routines rules blocks) e ≡ []
unfolding report
report_rows routines rules blocks h e m = flat_none (rows_of routines rules (known routines rules blocks)) (entries_from 0 routines) e h m

faults_are : (routines : List RoutineTree) (rules : RuleLists) (entries : List (EntryId × EntryCert) × List EntryId) (e : EntryId) (b : EntryCert) → block_at entries.0 e ≡ Some b → entry_faults routines rules entries e ≡ all_faults routines e (scope_with routines rules entries e b)
unfolding entry_faults
faults_are routines rules entries e b h = ap (faults_with routines rules entries e) h

unsaid : (routines : List RoutineTree) (rules : RuleLists) (entries : List (EntryId × EntryCert) × List EntryId) (e : EntryId) → block_at entries.0 e ≡ None → entry_faults routines rules entries e ≡ [] → ⊥
unfolding entry_faults
unsaid routines rules entries e i h = let z : fault_at (entry_number (line_of_entry routines e)) 1 NoCertificate ∷ [] ≡ [] = sym (ap (faults_with routines rules entries e) i) ∙ h in cc z

pub clean_entry : (routines : List RoutineTree) (rules : RuleLists) (blocks : List EntryCert) → report routines rules blocks ≡ [] → (e : EntryId) (b : EntryCert) → block_at (certified routines blocks) e ≡ Some b → IsCleanEntry routines rules blocks e b
clean_entry routines rules blocks h e b at =
    let entries = known routines rules blocks in
    let sc = scope_with routines rules (known routines rules blocks) e b in
    let number = entry_number (line_of_entry routines e) in
    let formals = formals_in (line_of_entry routines e) in
    let of : IsEntryOf routines e = block_entry routines blocks e b (sym ((tables_are routines blocks rules.entries).certified e) ∙ at) in
    let rows = report_rows routines rules blocks h e (entry_among routines e of) in
    let checked : is_checked (known routines rules blocks) e ≡ true = or_left (is_some (block_at (certified routines blocks) e)) (has_entry (declared routines rules.entries) e) (ap is_some at) in
    let some : map (row_of e) (verdict routines rules (known routines rules blocks) e) ≡ [] = sym (ap (λ q. if q then map (row_of e) (verdict routines rules (known routines rules blocks) e) else []) checked) ∙ rows in
    let none : entry_faults routines rules (known routines rules blocks) e ≡ [] = put_none (entry_faults routines rules (known routines rules blocks) e) (map_none (row_of e) (verdict routines rules (known routines rules blocks) e) some) in
    let all : all_faults routines e (scope_with routines rules (known routines rules blocks) e b) ≡ [] = sym (faults_are routines rules (known routines rules blocks) e b at) ∙ none in
    let own = left_none (own_faults sc number formals) (map fault_in (entry_walk routines e sc).faults) all in
    let rest = right_none (begin_faults sc number formals) (need_faults sc number ++ exit_faults sc number) own in
    record {
      begins = left_none (begin_faults sc number formals) (need_faults sc number ++ exit_faults sc number) own;
      needs = left_none (need_faults sc number) (exit_faults sc number) rest;
      exits = right_none (need_faults sc number) (exit_faults sc number) rest;
      lines = map_none fault_in (entry_walk routines e sc).faults (right_none (own_faults sc number formals) (map fault_in (entry_walk routines e sc).faults) all);
    }

-- a declared entry is certified
declared_named : (routines : List RoutineTree) (e : EntryId) (texts : List (List ℕ)) → is_declared routines texts e ≡ true → IsEntryOf routines e
declared_named routines e [] h = cc h
declared_named routines e (text ∷ texts) h = of (entry_by routines text) refl (declared_named routines e texts)
  where
    of : (o : Option EntryId) → entry_by routines text ≡ o → (is_declared routines texts e ≡ true → IsEntryOf routines e) → IsEntryOf routines e
    of None i more = more (rw i at h)
    of (Some k) i more =
        ⊎_elim (λ (g : same_entry e k ≡ true). subst (IsEntryOf routines) (sym (entry_is e k g)) ((entries-named routines k).0 text i))
        (λ (g : same_entry e k ≡ false). more (rw (i, g) at h)) (cases_Bool (same_entry e k))

pub certified_entry : (routines : List RoutineTree) (rules : RuleLists) (blocks : List EntryCert) → report routines rules blocks ≡ [] → (e : EntryId) → is_declared routines rules.entries e ≡ true
    → (b : EntryCert) × (block_at (known routines rules blocks).0 e ≡ Some b) × (has_entry (known routines rules blocks).1 e ≡ true)
certified_entry routines rules blocks h e is =
    let there : has_entry (declared routines rules.entries) e ≡ true = (tables_are routines blocks rules.entries).declared e ∙ is in
    let rows = report_rows routines rules blocks h e (entry_among routines e (declared_named routines e rules.entries is)) in
    let checked : is_checked (known routines rules blocks) e ≡ true = or_right (is_some (block_at (certified routines blocks) e)) (has_entry (declared routines rules.entries) e) there in
    let some : map (row_of e) (verdict routines rules (known routines rules blocks) e) ≡ [] = sym (ap (λ q. if q then map (row_of e) (verdict routines rules (known routines rules blocks) e) else []) checked) ∙ rows in
    let none : entry_faults routines rules (known routines rules blocks) e ≡ [] = put_none (entry_faults routines rules (known routines rules blocks) e) (map_none (row_of e) (verdict routines rules (known routines rules blocks) e) some) in
    of (block_at (certified routines blocks) e) refl there none
  where
    of : (o : Option EntryCert) → block_at (certified routines blocks) e ≡ o → has_entry (declared routines rules.entries) e ≡ true → entry_faults routines rules (known routines rules blocks) e ≡ []
        → (b : EntryCert) × (block_at (known routines rules blocks).0 e ≡ Some b) × (has_entry (known routines rules blocks).1 e ≡ true)
    of None i there none = absurd (unsaid routines rules (known routines rules blocks) e i none)
    of (Some b) i there none = (b, i, there)
