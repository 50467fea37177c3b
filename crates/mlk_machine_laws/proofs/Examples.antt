-- Worked examples, found by hand: runs for the laws.
use Rattle.std.proofs.Common.{◌≡◌, refl, sym, subst, ℕ, zero, suc, ◌<◌, Bool, true, false, List, [], ◌∷◌, ◌++◌, None, arith}
use Rattle.std.specs.Prelude.{◌&&◌, not, nat_lt, codes, Ok, Err}
use Rattle.std.proofs.lemmas.Bool.{and_parts}
use Rattle.mlk_machine_locks.specs.Systems.{Machine, Act, Go, and_then, alone, lone_run}
use Rattle.mlk_syntax.specs.Trees.{New, NewOne, Do, Quit, no_lines, RoutineTree}
use Rattle.mlk_program.specs.declared.entry.EntryId.{EntryId}
use Rattle.mlk_machine_jobs.specs.declared.choice.Choice.{Choice}
use Rattle.mlk_machine_jobs.specs.declared.choice.Choice.TheVariants as choice
use Rattle.mlk_machine_jobs.specs.Bindings.{Only, AllBut, Fresh}
use Rattle.mlk_machine_jobs.specs.Tasks.{Job, Store, KillNames}
use Rattle.mlk_machine_jobs.specs.Choices.{Stepped}
use Rattle.mlk_machine_jobs.specs.Runs.{blank, begun, machine}
use Rattle.mlk_machine_jobs.proofs.Trees.{at_label, unlabelled, commands, lines, routine, first_entry}
use Rattle.mlk_machine_laws.specs.Outside.{changes_name}
use Rattle.mlk_machine_laws.specs.Scopes.{count_open, GoesThrough}
use Rattle.mlk_machine_laws.specs.Sharing.{binds}

-- whether more than `n` are open, at each moment of these acts
abbrev more_open : Machine Job Choice EntryId → ℕ → List (Act Choice EntryId) → Stepped → Bool
more_open m n [] (Ok j) = nat_lt n (count_open j)
more_open m n (a ∷ acts) (Ok j) = nat_lt n (count_open j) && more_open m n acts (alone m a j)
more_open m n acts (Err why) = true

more_are_open : (m : Machine Job Choice EntryId) (n : ℕ) (acts : List (Act Choice EntryId)) (first : Job) → more_open m n acts (Ok first) ≡ true
    → (before later : List (Act Choice EntryId)) (k : Job) → acts ≡ before ++ later → lone_run m before first ≡ Ok k
    → n < count_open k
more_are_open m n acts first t before later k e h = steps acts before (Ok first) t e h
  where
    from : List (Act Choice EntryId) → Stepped → Stepped
    from before (Ok j) = lone_run m before j
    from before (Err why) = Err why

    steps : (acts before : List (Act Choice EntryId)) (s : Stepped) → more_open m n acts s ≡ true → acts ≡ before ++ later
        → from before s ≡ Ok k → n < count_open k
    steps acts before (Err why) t e h = cc
    steps [] [] (Ok j) t e h = let i : j ≡ k = cc in let p : nat_lt n (count_open j) ≡ true = t in rw (sym i) (grind (arith, p))
    steps [] (b ∷ before) (Ok j) t e h = cc
    steps (a ∷ acts) [] (Ok j) t e h = let i : j ≡ k = cc in let p = (and_parts (nat_lt n (count_open j)) _ t).0 in rw (sym i) (grind (arith, p))
    steps (a ∷ acts) (b ∷ before) (Ok j) t e h =
        let d : acts ≡ before ++ later = cc in
        let x : b ≡ a = cc in
        let q : from before (alone m b j) ≡ Ok k = as_from (alone m b j) h in
        let r : from before (alone m a j) ≡ Ok k = subst (λ y. from before (alone m y j) ≡ Ok k) x q in
        steps acts before (alone m a j) ((and_parts (nat_lt n (count_open j)) _ t).1) d r
      where
        as_from : (s : Stepped) → and_then (lone_run m before) s ≡ Ok k → from before s ≡ Ok k
        as_from (Ok i) g = g
        as_from (Err why) g = g

-- A DO  QUIT / . NEW X
abbrev in_block : List RoutineTree
in_block = routine ((
  at_label (codes "A") None (commands (Do [] ∷ Quit None ∷ [])),
  lines ((unlabelled (commands (New (NewOne 0 (codes "X") ∷ []) ∷ [])), no_lines) ∷ []),
) ∷ [])

abbrev its_machine : Machine Job Choice EntryId
its_machine = machine in_block (λ e. true)

abbrev so_many : ℕ → List (Act Choice EntryId)
so_many zero = []
so_many (suc n) = Go choice.None ∷ so_many n

abbrev of_steps : Stepped → ℕ → Job
of_steps (Ok j) n = the_job (lone_run its_machine (so_many n) j)
  where
    the_job : Stepped → Job
    the_job (Ok i) = i
    the_job (Err why) = j
of_steps (Err why) n = blank 0 false []

abbrev after_steps : ℕ → Job
after_steps n = of_steps (begun in_block first_entry 1 false []) n

-- The block: its begin, its line, the command, NEW, the argument's end, the line's end, the block's lines' end; then its own end.
block_is_gone_through : GoesThrough its_machine (after_steps 1) (after_steps 9)
block_is_gone_through = record {
  is_in_frame = omega arith;
  goes_in = Go choice.None;
  first = after_steps 2;
  is_first = refl;
  acts = so_many 6;
  last = after_steps 8;
  is_last = refl;
  is_within = more_are_open its_machine 1 (so_many 6) (after_steps 2) refl;
  goes_out = Go choice.None;
  is_out = refl;
  as_many = refl;
}

-- inside X is bound anew, afterwards it is not
bound_inside : (after_steps 5).bindings ≡ Fresh 2 (Only (codes "X")) ∷ []
bound_inside = refl

bound_as_before : (after_steps 9).bindings ≡ []
bound_as_before = refl

-- A name that is bound in front is another variable, and is not changed; one that is not bound there is changed.
changes_the_new_one : (changes_name (Store (codes "X") (codes "5") ∷ []) (codes "X") && not (binds (Fresh 2 (Only (codes "X")) ∷ []) (codes "X"))) ≡ false
changes_the_new_one = refl

changes_the_old_one : (changes_name (Store (codes "X") (codes "5") ∷ []) (codes "X") && not (binds (Fresh 2 (Only (codes "Y")) ∷ []) (codes "X"))) ≡ true
changes_the_old_one = refl

-- KILL (Y)
kills_all_others : changes_name (KillNames (AllBut (codes "Y" ∷ [])) ∷ []) (codes "X") ≡ true
kills_all_others = refl

kills_not_the_listed : changes_name (KillNames (AllBut (codes "Y" ∷ [])) ∷ []) (codes "Y") ≡ false
kills_not_the_listed = refl
