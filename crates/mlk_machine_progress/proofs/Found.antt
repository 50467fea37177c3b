-- The calls in what is pending: each has a line to enter, in the routine of its frame.
use Rattle.std.proofs.Common.{◌≡◌, ℕ, zero, suc, ◌+◌, Bool, true, false, List, [], ◌∷◌, ◌++◌, flat_map, map, Option, Some, None, refl, ap, subst, arith, ⊎_elim, drop}
use Rattle.std.specs.Prelude.{Contains, slice_get, option_and_then, option_map}
use Rattle.std.proofs.lemmas.Bool.{cases_Bool}
use Rattle.std.proofs.lemmas.List.Elements.{Contains-append_left, Contains-append_right}
use Rattle.mlk_syntax.specs.declared.expr.Callee.{Callee}
use Rattle.mlk_syntax.specs.ExprTrees.{ActualTree}
use Rattle.mlk_syntax.specs.Trees.{RoutineTree, Named_routine, CallTree, Called, LineHead, LineTrees, no_lines, line}
use Rattle.mlk_program.specs.Calls.{in_tree, in_choices, in_action, in_commands, in_parameter}
use Rattle.mlk_program.specs.Entries.{target_of, line_of_entry, as_lines, lines_in, formals_of}
use Rattle.mlk_program.specs.Program.{PlacedCall, calls_in, calls_from, calls_of, fault_with, call_fault, AreResolved, IsProgram}
use Rattle.mlk_program.specs.declared.entry.EntryId.{EntryId}
use Rattle.mlk_machine_jobs.specs.Tasks as task
use Rattle.mlk_machine_jobs.specs.Tasks.{Task, LineTree, RunLines, RunCommands, Parameters, Forever, NextValue, FirstRound, LaterRound, EndBlock, EndFrame}
use Rattle.mlk_machine_jobs.specs.Lines.{is_end, is_round, is_lines, from_first, skipped, to_end, quit, quit_from}
use Rattle.mlk_machine_jobs.specs.Calling.{lines_after, commands_in}
use Rattle.mlk_machine_laws.specs.WellFormed.{lines_of_routine}
use Rattle.mlk_machine_progress.proofs.Effects.{last_false}

abbrev pub after : ℕ → Task → ℕ
after r (EndFrame frame back next routine) = routine
after r t = r

pub same_after : (r : ℕ) (t : Task) → is_end t ≡ false → after r t ≡ r
same_after r (EndFrame frame back next routine) h = cc
same_after r t h = refl

pub round_after : (r : ℕ) (t : Task) → is_round t ≡ true → after r t ≡ r
round_after r (EndFrame frame back next routine) h = cc
round_after r t h = refl

module _ (routines : List RoutineTree) where
  -- a callee has a line in these routines
  pub record Reaches (r : ℕ) (callee : Callee) : Type 0 where
    pub entry : EntryId
    pub is_entry : target_of routines r callee ≡ Some entry
    pub first : LineTree
    pub others : List LineTree
    pub is_line : lines_after routines entry ≡ first ∷ others

  abbrev pub AreFound : ℕ → List CallTree → Type 0
  AreFound r [] = Unit {0}
  AreFound r (Called column callee given ∷ cs) = Reaches r callee × AreFound r cs

  pub found_left : (r : ℕ) (xs ys : List CallTree) → AreFound r (xs ++ ys) → AreFound r xs
  found_left r [] ys h = tt
  found_left r (Called column callee given ∷ xs) ys h = (h.0, found_left r xs ys h.1)

  pub found_right : (r : ℕ) (xs ys : List CallTree) → AreFound r (xs ++ ys) → AreFound r ys
  found_right r [] ys h = h
  found_right r (Called column callee given ∷ xs) ys h = found_right r xs ys h.1

  -- those of lines and their blocks
  abbrev pub AreFoundIn : ℕ → LineTrees → Type 0
  AreFoundIn r no_lines = Unit {0}
  AreFoundIn r (line head block rest) = AreFound r (in_commands (commands_in head)) × AreFoundIn r block × AreFoundIn r rest

  abbrev pub AreFoundAt : ℕ → List LineTree → Type 0
  AreFoundAt r [] = Unit {0}
  AreFoundAt r (l ∷ lines) = AreFound r (in_commands (commands_in l.0)) × AreFoundIn r l.1 × AreFoundAt r lines

  pub found_as_lines : (r : ℕ) (lines : LineTrees) → AreFoundIn r lines → AreFoundAt r (as_lines lines)
  found_as_lines r no_lines h = tt
  found_as_lines r (line head block rest) h = (h.0, h.1, found_as_lines r rest h.2)

  -- those of a task that is done in this routine
  abbrev pub Finds : ℕ → Task → Type 0
  Finds r (task.Evaluate t) = AreFound r (in_tree t)
  Finds r (task.Select choices) = AreFound r (in_choices choices)
  Finds r (task.Selected value others) = AreFound r (in_tree value) × AreFound r (in_choices others)
  Finds r (task.Conditionally action block) = AreFound r (in_action action) × AreFoundIn r block
  Finds r (task.Call extrinsic callee given) = Reaches r callee
  Finds r (task.CallIf callee given) = Reaches r callee
  Finds r (task.Block lines) = AreFoundIn r lines
  Finds r (RunLines lines) = AreFoundAt r lines
  Finds r (RunCommands commands here) = AreFound r (in_commands commands) × AreFoundIn r here.1
  Finds r (Parameters v ps rest here) = AreFound r (flat_map in_parameter ps) × AreFound r (in_commands rest) × AreFoundIn r here.1
  Finds r (Forever rest here) = AreFound r (in_commands rest) × AreFoundIn r here.1
  Finds r (NextValue v rest here) = AreFound r (in_commands rest) × AreFoundIn r here.1
  Finds r (FirstRound v ps rest here) = AreFound r (flat_map in_parameter ps) × AreFound r (in_commands rest) × AreFoundIn r here.1
  Finds r (LaterRound v ps rest here) = AreFound r (flat_map in_parameter ps) × AreFound r (in_commands rest) × AreFoundIn r here.1
  Finds r t = Unit {0}

  -- those of tasks: behind a frame's end the routine is the caller's
  abbrev pub AllFind : ℕ → List Task → Type 0
  AllFind r [] = Unit {0}
  AllFind r (t ∷ ts) = Finds r t × AllFind (after r t) ts

  pub find_from : (is : Task → Bool) → ((t : Task) → is t ≡ false → is_end t ≡ false) → (r : ℕ) (ts : List Task) → AllFind r ts → AllFind r (from_first is ts)
  find_from is far r [] h = tt
  find_from is far r (t ∷ ts) h =
      ⊎_elim (λ (u : is t ≡ true). rw u h) (λ (u : is t ≡ false). rw u (find_from is far r ts (subst (λ q. AllFind q ts) (same_after r t (far t u)) h.1)))
      (cases_Bool (is t))

  pub find_skipped : (r : ℕ) (ts : List Task) → AllFind r ts → AllFind r (skipped ts)
  find_skipped = find_from _ (λ t u. last_false (is_round t) (is_lines t) (is_end t) u)

  pub find_to_end : (r : ℕ) (ts : List Task) → AllFind r ts → AllFind r (to_end ts)
  find_to_end = find_from _ (λ t u. u)

  pub find_quit : (r : ℕ) (ts : List Task) → AllFind r ts → AllFind r (quit ts)
  find_quit r ts h = go (skipped ts) (find_skipped r ts h)
    where
      go : (us : List Task) → AllFind r us → AllFind r (quit_from us)
      go [] h = tt
      go (t ∷ us) h =
          ⊎_elim (λ (u : is_round t ≡ true). rw u (subst (λ q. AllFind q us) (round_after r t u) h.1)) (λ (u : is_round t ≡ false). rw u (find_to_end r (t ∷ us) h))
          (cases_Bool (is_round t))

  -- The calls of the program are found.
  first_line : (ls : List LineTree) (k : ℕ) (l : LineTree) → slice_get ls k ≡ Some l → (more : List LineTree) × (drop k ls ≡ l ∷ more)
  first_line [] k l h = absurd (cc h)
  first_line (x ∷ ls) zero l h = let z : x ≡ l = cc h in (ls, ap (λ y. y ∷ ls) z)
  first_line (x ∷ ls) (suc k) l h = first_line ls k l h

  reached : (r : ℕ) (callee : Callee) (e : EntryId) → target_of routines r callee ≡ Some e → (l : LineTree) → line_of_entry routines e ≡ Some l → Reaches r callee
  reached r callee e t l h = on (slice_get routines e.routine) refl h
    where
      on : (o : Option RoutineTree) → slice_get routines e.routine ≡ o → option_and_then (λ tree. slice_get (lines_in tree) e.line) o ≡ Some l → Reaches r callee
      on None is h = absurd (cc h)
      on (Some tree) is h =
          let x = first_line (lines_in tree) e.line l h in
          record { entry = e; is_entry = t; first = l; others = x.0; is_line = rw is x.1 }

  no_fault : (r number : ℕ) (column : ℕ) (callee : Callee) (given : Option (List ActualTree))
      → call_fault routines (record { routine = r; line = number; call = Called column callee given }) ≡ None → Reaches r callee
  no_fault r number column callee given h = on (target_of routines r callee) refl h
    where
      at_line : (e : EntryId) → target_of routines r callee ≡ Some e → (o : Option LineTree) → line_of_entry routines e ≡ o
          → fault_with given (option_map (λ l. formals_of l.0) o) ≡ None → Reaches r callee
      at_line e t None is h = absurd (cc h)
      at_line e t (Some l) is h = reached r callee e t l is

      on : (o : Option EntryId) → target_of routines r callee ≡ o
          → fault_with given (option_map (λ l. formals_of l.0) (option_and_then (line_of_entry routines) o)) ≡ None → Reaches r callee
      on None is h = absurd (cc h)
      on (Some e) is h = at_line e is (line_of_entry routines e) refl h

  found_placed : (r number : ℕ) (cs : List CallTree)
      → ((q : PlacedCall) → Contains (map (λ c. record { routine = r; line = number; call = c }) cs) q → call_fault routines q ≡ None) → AreFound r cs
  found_placed r number [] h = tt
  found_placed r number (Called column callee given ∷ cs) h =
      (no_fault r number column callee given (h _ (0, omega arith, refl)), found_placed r number cs (λ q i. h q (suc i.0, omega (arith, i.1), i.2)))

  found_lines : (r : ℕ) (lines : LineTrees) → AreResolved routines (calls_in r lines) → AreFoundIn r lines
  found_lines r no_lines h = tt
  found_lines r (line (LineHead number level end label formals commands) block rest) h =
      let here : List PlacedCall = map (λ c. record { routine = r; line = number; call = c }) (in_commands commands) in
      let others : List PlacedCall = calls_in r block ++ calls_in r rest in (
        found_placed r number (in_commands commands) (λ q i. h q (Contains-append_left here others q i)),
        found_lines r block (λ q i. h q (Contains-append_right here others q (Contains-append_left (calls_in r block) (calls_in r rest) q i))),
        found_lines r rest (λ q i. h q (Contains-append_right here others q (Contains-append_right (calls_in r block) (calls_in r rest) q i))),
      )

  routine_calls : (base r : ℕ) (trees : List RoutineTree) (tree : RoutineTree) → slice_get trees r ≡ Some tree → (q : PlacedCall)
      → Contains (calls_in (base + r) (lines_of_routine tree)) q → Contains (calls_from base trees) q
  routine_calls base r [] tree h q i = absurd (cc h)
  routine_calls base zero (Named_routine name lines ∷ trees) tree h q i =
      let z : base + 0 ≡ base = omega arith in
      let same : tree ≡ Named_routine name lines = cc h in
      Contains-append_left (calls_in base lines) (calls_from (suc base) trees) q
      (subst (λ k. Contains (calls_in k lines) q) z (subst (λ t. Contains (calls_in (base + 0) (lines_of_routine t)) q) same i))
  routine_calls base (suc r) (Named_routine name lines ∷ trees) tree h q i =
      let z : base + suc r ≡ suc base + r = omega arith in
      Contains-append_right (calls_in base lines) (calls_from (suc base) trees) q
      (routine_calls (suc base) r trees tree h q (subst (λ k. Contains (calls_in k (lines_of_routine tree)) q) z i))

  found_drop : (r n : ℕ) (lines : List LineTree) → AreFoundAt r lines → AreFoundAt r (drop n lines)
  found_drop r zero lines h = h
  found_drop r (suc n) [] h = h
  found_drop r (suc n) (l ∷ lines) h = found_drop r n lines h.2

  all_resolved : IsProgram routines → AreResolved routines (calls_of routines)
  unfolding IsProgram
  all_resolved p = p.2

  pub entry_found : IsProgram routines → (e : EntryId) → AreFoundAt e.routine (lines_after routines e)
  entry_found p e = on (slice_get routines e.routine) refl
    where
      of_tree : (tree : RoutineTree) → slice_get routines e.routine ≡ Some tree → AreFoundIn e.routine (lines_of_routine tree)
      of_tree tree h =
          let z : e.routine ≡ 0 + e.routine = omega arith in
          found_lines e.routine (lines_of_routine tree)
          (λ q i. all_resolved p q (routine_calls 0 e.routine routines tree h q (subst (λ k. Contains (calls_in k (lines_of_routine tree)) q) z i)))

      in_routine : (tree : RoutineTree) → as_lines (lines_of_routine tree) ≡ lines_in tree
      in_routine (Named_routine name lines) = refl

      on : (o : Option RoutineTree) → slice_get routines e.routine ≡ o → AreFoundAt e.routine (lines_after routines e)
      on None h = rw h tt
      on (Some tree) h =
          rw h (found_drop e.routine e.line (lines_in tree)
          (subst (AreFoundAt e.routine) (in_routine tree) (found_as_lines e.routine (lines_of_routine tree) (of_tree tree h))))
