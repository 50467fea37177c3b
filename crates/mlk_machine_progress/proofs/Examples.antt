-- Worked examples, whose answers were found by hand: how many values are pending where a job stops, and whether it can continue
-- from there. Each program is above its example, ` / ` ends a line.
use Rattle.std.proofs.Common.{◌≡◌, refl, ℕ, Bool, true, false, List, [], ◌∷◌, length, Some, None}
use Rattle.std.specs.Prelude.{codes, Ok, Err}
use Rattle.mlk_machine_locks.specs.NameTests.{same_name, is_above}
use Rattle.mlk_syntax.specs.declared.command.Sign.TheVariants as sign
use Rattle.mlk_syntax.specs.ExprTrees.{Tree, Lit, GlobalName, CallOf, actual, no_actuals, Given, Selected, choice, no_choices, no_subs, sub}
use Rattle.mlk_syntax.specs.Trees.{VariableTree, Named, ActionTree, Lock, LockNames, Quit, If, Runs, Once, no_lines, RoutineTree}
use Rattle.mlk_machine_jobs.specs.Tasks.{Job}
use Rattle.mlk_machine_jobs.specs.Choices.{Stepped}
use Rattle.mlk_machine_jobs.specs.Runs.{begun}
use Rattle.mlk_machine_jobs.specs.Seen.{Stuck, settled}
use Rattle.mlk_machine_jobs.proofs.Trees.{value_of, global, global_at, set, callee, do_label, commands, for_each, at_label, routine, first_entry, played}
use Rattle.mlk_machine_progress.specs.Progress.{can_go}
use Rattle.mlk_machine_progress.proofs.Effects.{needs}

-- A job that runs by itself from the first line until it stops: the number of pending values, the number that its tasks need,
-- and whether it can continue, with all names free or none.
abbrev of : Stepped → (Job → ℕ × ℕ × Bool) → ℕ × ℕ × Bool
of (Ok j) f = f j
of (Err why) f = (0, 0, false)

abbrev stands : List RoutineTree → Bool → ℕ × ℕ × Bool
stands routines free =
    of (begun routines first_entry 1 false []) (λ i. let j = (settled routines 100 i).0 in (length j.values, needs j.tasks, can_go routines (λ n. free) j j.tasks))

-- `$SELECT(0:1)`, which has no true condition
abbrev no_true : Tree
no_true = Selected (choice (Lit (codes "0")) (Lit (codes "1")) no_choices)

abbrev straight : List ActionTree → List RoutineTree
straight actions = routine ((at_label (codes "A") None (commands actions), no_lines) ∷ [])

-- A SET ^A(1)=$SELECT(0:1)
-- The subscript is pending.
pub one_subscript : stands (straight (set (global_at (codes "A") (Lit (codes "1"))) no_true ∷ [])) true ≡ (1, 1, false)
unfolding settled
one_subscript = refl

-- `^A(1,e)`
abbrev second : Tree → VariableTree
second t = Named 0 (GlobalName 0 (codes "A") (sub 0 (Lit (codes "1")) (sub 0 t no_subs)))

-- A SET ^A(1,$$B(2))=3 QUIT / B(X) SET ^B(X)=$SELECT(0:1)
-- That of the caller, and that of the called line; the actual was used up.
abbrev calling : ActionTree → List RoutineTree
calling action = routine (
    (at_label (codes "A") None (commands (set (second (CallOf 0 (callee (codes "B")) (actual (Given (Lit (codes "2"))) no_actuals))) (Lit (codes "3")) ∷ Quit None ∷ [])), no_lines)
    ∷ (at_label (codes "B") (Some (codes "X" ∷ [])) (commands (action ∷ [])), no_lines)
    ∷ []
    )

pub caller_and_called : stands (calling (set (global_at (codes "B") (value_of (codes "X"))) no_true)) true ≡ (2, 2, false)
unfolding settled
caller_and_called = refl

-- A SET ^A(1,$$B(2))=3 QUIT / B(X) QUIT $SELECT(0:1)
pub caller_alone : stands (calling (Quit (Some no_true))) true ≡ (1, 1, false)
unfolding settled
caller_alone = refl

-- A FOR I=1 SET ^A(I)=$SELECT(0:1)
-- The value of FOR's variable was stored, and so it is not pending.
abbrev for_one : ActionTree → List RoutineTree
for_one action = routine ((at_label (codes "A") None (for_each (Some (Runs 0 (codes "I") (Once (Lit (codes "1")) ∷ []))) (action ∷ [])), no_lines) ∷ [])

pub within_for : stands (for_one (set (global_at (codes "A") (value_of (codes "I"))) no_true)) true ≡ (1, 1, false)
unfolding settled
within_for = refl

-- A SET ^A(X)=1
-- The local has no value.
pub no_value : stands (straight (set (global_at (codes "A") (value_of (codes "X"))) (Lit (codes "1")) ∷ [])) true ≡ (0, 0, false)
unfolding settled
no_value = refl

-- A IF 0 / B(X) QUIT
-- It would run into a line with a formal list.
pub into_formals : stands (routine (
    (at_label (codes "A") None (commands (If (Lit (codes "0") ∷ []) ∷ [])), no_lines)
    ∷ (at_label (codes "B") (Some (codes "X" ∷ [])) (commands (Quit None ∷ [])), no_lines)
    ∷ []
    )) true ≡ (0, 0, false)
unfolding settled
into_formals = refl

-- A LOCK +^A
-- It continues if the name is free.
abbrev locking : List RoutineTree
locking = straight (Lock (LockNames sign.Plus (global (codes "A") ∷ []) None ∷ []) ∷ [])

pub where_free : stands locking true ≡ (0, 0, true)
unfolding settled same_name is_above
where_free = refl

pub where_not_free : stands locking false ≡ (0, 0, false)
unfolding settled
where_not_free = refl

-- A DO B
-- Not a program, since no line has the label: so the job has no next step, though nothing that can happen in a program stops it.
pub no_program : stands (straight (do_label (codes "B") None ∷ [])) true ≡ (0, 0, true)
unfolding settled
no_program = refl

pub has_no_step : played (straight (do_label (codes "B") None ∷ [])) [] ≡ Stuck
unfolding settled
has_no_step = refl

-- A SET ^A(1)=2
-- It touches the node, and nothing else is pending.
pub at_a_touch : stands (straight (set (global_at (codes "A") (Lit (codes "1"))) (Lit (codes "2")) ∷ [])) true ≡ (0, 0, true)
unfolding settled
at_a_touch = refl
