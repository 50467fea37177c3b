-- The lines of an entry are its routine's: each at one level, with calls of the program.
use Rattle.std.proofs.Common.{◌≡◌, ℕ, zero, suc, ◌+◌, Bool, true, false, List, [], ◌∷◌, ◌++◌, map, take, drop, Option, Some, None, refl, subst, arith, ⊎_elim}
use Rattle.std.specs.Prelude.{◌⊎◌, Contains, take_while, slice_get}
use Rattle.std.proofs.lemmas.Bool.{cases_Bool}
use Rattle.std.proofs.lemmas.List.Elements.{Contains-append_left, Contains-append_right}
use Rattle.std.specs.List.{prefix_len}
use Rattle.mlk_names.proofs.ListLemmas.{contains_cases}
use Rattle.mlk_cert_lexemes.specs.Lists.{Each}
use Rattle.mlk_syntax.specs.Trees.{RoutineTree, Named_routine, CallTree, HeadTree, LineHead, LineTrees, no_lines, line}
use Rattle.mlk_syntax.specs.Views.{lines_from}
use Rattle.mlk_program.specs.Calls.{in_commands}
use Rattle.mlk_program.specs.Entries.{as_lines, lines_in, lines_of, up_to_formals, has_no_formals}
use Rattle.mlk_program.specs.Program.{PlacedCall, calls_in, calls_from, calls_of}
use Rattle.mlk_program.specs.declared.entry.EntryId.{EntryId}
use Rattle.mlk_rules.specs.declared.rules.RuleLists.{RuleLists}
use Rattle.mlk_cert_parts.specs.declared.block.EntryCert.{EntryCert}
use Rattle.mlk_walk_state.specs.Scope.{Scope}
use Rattle.mlk_soundness_walk.specs.Entries.{scope}
use Rattle.mlk_machine_laws.specs.WellFormed.{AreLeveled, LinesReadLocals, lines_of_routine}
use Rattle.mlk_machine_laws.specs.WellFormed.{AreFormed}
use Rattle.mlk_soundness_walk.specs.Ours.{IsHeadOf, AreLinesOf}

contains_map : {A B : Type 0} (f : A → B) (xs : List A) (a : A) → Contains xs a → Contains (map f xs) (f a)
contains_map f [] a i = absurd (omega (arith, i.1))
contains_map f (x ∷ xs) a i =
    ⊎_elim
    (λ (e : x ≡ a). subst (λ z. Contains (f x ∷ map f xs) (f z)) e (0, omega arith, refl))
    (λ (k : Contains xs a). let r = contains_map f xs a k in (suc r.0, omega (arith, r.1), r.2))
    (contains_cases x xs a i)

pub contains_get : {A : Type 0} (xs : List A) (n : ℕ) (a : A) → slice_get xs n ≡ Some a → Contains xs a
contains_get [] n a h = absurd (cc h)
contains_get (x ∷ xs) zero a h = let z : x ≡ a = cc h in subst (λ y. Contains (x ∷ xs) y) z (0, omega arith, refl)
contains_get (x ∷ xs) (suc n) a h = let r = contains_get xs n a h in (suc r.0, omega (arith, r.1), r.2)

-- each element of a part of a list
each_drop : {A : Type 0} (P : A → Type 0) (n : ℕ) (xs : List A) → Each P xs → Each P (drop n xs)
each_drop P zero xs h = h
each_drop P (suc n) [] h = h
each_drop P (suc n) (x ∷ xs) h = each_drop P n xs h.1

each_while : {A : Type 0} (P : A → Type 0) (is : A → Bool) (xs : List A) → Each P xs → Each P (take_while is xs)
each_while P is [] h = h
each_while P is (x ∷ xs) h = by (each_while P is xs h.1)
  where
    by : Each P (take_while is xs) → Each P (take_while is (x ∷ xs))
    by more =
        ⊎_elim
        (λ (u : is x ≡ true). let n = prefix_len is xs in let e : suc n ≡ 1 + n = omega arith in rw u (subst (λ k. Each P (take k (x ∷ xs))) e (h.0, more)))
        (λ (u : is x ≡ false). rw u tt)
        (cases_Bool (is x))

module _ (sc : Scope) where
  from_calls : (level : ℕ) (may : Bool) (lines : LineTrees) → AreLeveled level may lines → LinesReadLocals lines → ((q : PlacedCall) → Contains (calls_in sc.own lines) q → Contains (calls_of sc.routines) q) → AreLinesOf sc level may lines
  from_calls level may no_lines deep reads h = tt
  from_calls level may (line (LineHead number at end label formals commands) block rest) deep reads h =
      let put : CallTree → PlacedCall = λ x. record { routine = sc.own; line = number; call = x } in
      let here : List PlacedCall = map put (in_commands commands) in
      let others : List PlacedCall = calls_in sc.own block ++ calls_in sc.own rest in (
        (deep.0.0, record { at_end = deep.0.1; reads = reads.0; ours = λ c i. (number, h (put c) (Contains-append_left here others (put c) (contains_map put (in_commands commands) c i))) }),
        from_calls (suc level) false block deep.1 reads.1 (λ q i. h q (Contains-append_right here others q (Contains-append_left (calls_in sc.own block) (calls_in sc.own rest) q i))),
        from_calls level may rest deep.2 reads.2 (λ q i. h q (Contains-append_right here others q (Contains-append_right (calls_in sc.own block) (calls_in sc.own rest) q i))),
      )

  abbrev IsLineOf : ℕ → Bool → HeadTree × LineTrees → Type 0
  IsLineOf level may l = IsHeadOf sc level may l.0 × AreLinesOf sc (suc level) false l.1

  each_line : (level : ℕ) (may : Bool) (lines : LineTrees) → AreLinesOf sc level may lines → Each (IsLineOf level may) (as_lines lines)
  each_line level may no_lines h = tt
  each_line level may (line head block rest) h = ((h.0, h.1), each_line level may rest h.2)

  lines_back : (level : ℕ) (may : Bool) (ls : List (HeadTree × LineTrees)) → Each (IsLineOf level may) ls → AreLinesOf sc level may (lines_from ls)
  lines_back level may [] h = tt
  lines_back level may (l ∷ ls) h = (h.0.0, h.0.1, lines_back level may ls h.1)

  up_to : (level : ℕ) (may : Bool) (ls : List (HeadTree × LineTrees)) → Each (IsLineOf level may) ls → Each (IsLineOf level may) (up_to_formals ls)
  up_to level may [] h = tt
  up_to level may (l ∷ ls) h = (h.0, each_while (IsLineOf level may) has_no_formals ls h.1)

-- the calls of a routine are the program's
routine_calls : (base r : ℕ) (routines : List RoutineTree) (tree : RoutineTree) → slice_get routines r ≡ Some tree → (q : PlacedCall) → Contains (calls_in (base + r) (lines_of_routine tree)) q → Contains (calls_from base routines) q
routine_calls base r [] tree h q i = absurd (cc h)
routine_calls base zero (Named_routine name lines ∷ routines) tree h q i =
    let z : base + 0 ≡ base = omega arith in
    let same : tree ≡ Named_routine name lines = cc h in
    Contains-append_left (calls_in base lines) (calls_from (suc base) routines) q
    (subst (λ k. Contains (calls_in k lines) q) z (subst (λ t. Contains (calls_in (base + 0) (lines_of_routine t)) q) same i))
routine_calls base (suc r) (Named_routine name lines ∷ routines) tree h q i =
    let z : base + suc r ≡ suc base + r = omega arith in
    Contains-append_right (calls_in base lines) (calls_from (suc base) routines) q
    (routine_calls (suc base) r routines tree h q (subst (λ k. Contains (calls_in k (lines_of_routine tree)) q) z i))

pub entry_lines : (routines : List RoutineTree) (rules : RuleLists) (entries : List (EntryId × EntryCert) × List EntryId) → AreFormed routines → (e : EntryId) (blk : EntryCert)
    → AreLinesOf (scope routines rules entries e blk) 1 true (lines_from (lines_of routines e))
entry_lines routines rules entries formed e blk = on (slice_get routines e.routine) refl
  where
    of_tree : (tree : RoutineTree) → slice_get routines e.routine ≡ Some tree → AreLinesOf (scope routines rules entries e blk) 1 true (lines_of_routine tree)
    of_tree tree h =
        let z : e.routine ≡ 0 + e.routine = omega arith in
        from_calls (scope routines rules entries e blk) 1 true (lines_of_routine tree) (formed tree (contains_get routines e.routine tree h)).levels (formed tree (contains_get routines e.routine tree h)).reads
        (λ q i. routine_calls 0 e.routine routines tree h q (subst (λ k. Contains (calls_in k (lines_of_routine tree)) q) z i))

    in_tree : (tree : RoutineTree) → as_lines (lines_of_routine tree) ≡ lines_in tree
    in_tree (Named_routine name lines) = refl

    on : (o : Option RoutineTree) → slice_get routines e.routine ≡ o → AreLinesOf (scope routines rules entries e blk) 1 true (lines_from (lines_of routines e))
    on None h = rw h tt
    on (Some tree) h =
        let sc : Scope = scope routines rules entries e blk in
        let all : Each (IsLineOf sc 1 true) (lines_in tree) = subst (Each (IsLineOf sc 1 true)) (in_tree tree) (each_line sc 1 true (lines_of_routine tree) (of_tree tree h)) in
        rw h (lines_back sc 1 true (up_to_formals (drop e.line (lines_in tree))) (up_to sc 1 true (drop e.line (lines_in tree)) (each_drop (IsLineOf sc 1 true) e.line (lines_in tree) all)))
