-- The machine of a program's jobs is a machine, so all that is proved of machines holds of it.
use Rattle.std.proofs.Common.{◌≡◌, ℕ, Bool, true, false, List, [], ◌∷◌, ◌++◌, refl, ap, arith, inl, inr, drop, length, Option}
use Rattle.std.specs.Prelude.{◌&&◌, nat_lt, Ok, Err}
use Rattle.std.specs.List.{list_all}
use Rattle.std.proofs.lemmas.Bool.{cases_Bool, and_parts}
use Rattle.mlk_names.specs.declared.lock_name.LockName.{LockName}
use Rattle.mlk_machine_locks.specs.declared.refusal.Refusal.TheVariants.{NotEnabled, BadChoice}
use Rattle.mlk_machine_locks.specs.Counts.{has_room}
use Rattle.mlk_machine_locks.specs.Systems.{IsMachine}
use Rattle.mlk_machine_locks.proofs.Counting.{all_more}
use Rattle.mlk_machine_locks.proofs.SystemLemmas as systems
use Rattle.mlk_machine_locks.proofs.LeavingLemmas as leaving
use Rattle.mlk_machine_locks.proofs.WaitLemmas as waiting
use Rattle.mlk_syntax.specs.Trees.{RoutineTree}
use Rattle.mlk_program.specs.Entries.{target_of}
use Rattle.mlk_program.specs.declared.entry.EntryId.{EntryId}
use Rattle.mlk_machine_jobs.specs.declared.choice.Choice.{Choice}
use Rattle.mlk_machine_jobs.specs.declared.choice.Choice.TheVariants as choice
use Rattle.mlk_machine_jobs.specs.Tasks as task
use Rattle.mlk_machine_jobs.specs.Tasks.{Task, Job, NoValue}
use Rattle.mlk_machine_jobs.specs.Tasks.{RunLines, RunCommands, Parameters, Forever, NextValue, FirstRound, LaterRound, EndBlock, EndFrame}
use Rattle.mlk_machine_jobs.specs.Commands.{action_parts}
use Rattle.mlk_machine_jobs.specs.Choices.{Stepped, without_choice, dropped, doing}
use Rattle.mlk_machine_jobs.specs.Locking.{if_free, granted, claim_step, held_more, tested}
use Rattle.mlk_machine_jobs.specs.Lines.{to_end, chosen, tasks_if}
use Rattle.mlk_machine_jobs.specs.Calling.{call_frame, called_if, lines_after}
use Rattle.mlk_machine_jobs.specs.Advance.{advance}
use Rattle.mlk_machine_jobs.specs.Runs.{blank, by_value, formals_at, begun, aborted, seen, is_job_number, machine}
use Rattle.mlk_machine_jobs.specs.Laws.{HeldApart, NumbersDistinct, OneRunOfMany, LeavingOut, ChangesOne, RingsAreFound, EndedStays}
use Rattle.mlk_machine_jobs.proofs.StepLemmas.{Keeps, when_done, same, refused, unasked, of_value, of_truth, of_last, of_condition, of_result}
use Rattle.mlk_machine_jobs.proofs.StepLemmas.{of_fetch, of_touch, of_select, of_choice, of_line, of_entered, of_call, of_call_if, of_gone, of_answer, of_answer_held, of_end, of_claim, of_release, of_release_all}

steps : (routines : List RoutineTree) (free : LockName → Bool) (c : Choice) (j : Job) (ts : List Task)
    → Keeps free j (advance routines free c j ts)
steps routines free c j [] = refused free j NotEnabled
steps routines free c j (task.Evaluate t ∷ ts) = unasked free j c _ (same free j _ refl refl)
steps routines free c j (task.Push value ∷ ts) = unasked free j c _ (same free j _ refl refl)
steps routines free c j (task.Fetch name ∷ ts) = unasked free j c _ (of_fetch free j ts _)
steps routines free c j (task.PushJob ∷ ts) = unasked free j c _ (same free j _ refl refl)
steps routines free c j (task.PushTest ∷ ts) = unasked free j c _ (same free j _ refl refl)
steps routines free c j (task.ApplyUnary op ∷ ts) = of_last free j j.values _ (λ a. of_result free j c _ _ (λ v. same free j _ refl refl))
steps routines free c j (task.ApplyBinary op ∷ ts) = of_last free j j.values _ (λ b. of_last free j (drop 1 j.values) _ (λ a. of_result free j c _ _ (λ v. same free j _ refl refl)))
steps routines free c j (task.AskValue n ∷ ts) = of_value free j c _ (λ v. same free j _ refl refl)
steps routines free c j (task.Drop n ∷ ts) = unasked free j c _ (same free j _ refl refl)
steps routines free c j (task.Select choices ∷ ts) = unasked free j c _ (of_select free j choices ts)
steps routines free c j (task.Selected value others ∷ ts) = of_condition free j c j (chosen value others ts) (λ t. of_choice free j value others ts t)
steps routines free c j (task.FormReference name n e a ∷ ts) = unasked free j c _ (same free j _ refl refl)
steps routines free c j (task.DoTouch touch ∷ ts) = of_touch free j c touch.access ts
steps routines free c j (task.Store name value ∷ ts) = unasked free j c _ (same free j _ refl refl)
steps routines free c j (task.StoreAny name ∷ ts) = of_value free j c _ (λ v. same free j _ refl refl)
steps routines free c j (task.StoreLast name ∷ ts) = unasked free j c _ (of_last free j j.values _ (λ v. same free j _ refl refl))
steps routines free c j (task.KillNames names ∷ ts) = unasked free j c _ (same free j _ refl refl)
steps routines free c j (task.NewNames names ∷ ts) = unasked free j c _ (same free j _ refl refl)
steps routines free c j (task.Assign targets ∷ ts) = unasked free j c _ (of_last free j j.values _ (λ v. same free j _ refl refl))
steps routines free c j (task.Merge target source ∷ ts) = unasked free j c _ (same free j _ refl refl)
steps routines free c j (task.SetTest ∷ ts) = of_condition free j c j (λ t i. Ok (doing ts (tested t i))) (λ t. same free j _ refl refl)
steps routines free c j (task.AskTest ∷ ts) = of_truth free j c _ (λ t. same free j _ refl refl)
steps routines free c j (task.SkipIf test ∷ ts) = unasked free j c _ (same free j _ refl refl)
steps routines free c j (task.Conditionally action block ∷ ts) = of_condition free j c j (λ t i. Ok (doing (tasks_if t (action_parts block action) ++ ts) i)) (λ t. same free j _ refl refl)
steps routines free c j (task.LockNamed sign names timed ∷ ts) = unasked free j c _ (same free j _ refl refl)
steps routines free c j (task.Claim names timed ∷ ts) = of_claim free j c names timed ts
steps routines free c j (task.Release names ∷ ts) = of_release free j c _ names refl refl
steps routines free c j (task.ReleaseAll ∷ ts) = of_release_all free j c _ refl refl
steps routines free c j (task.Call extrinsic callee given ∷ ts) = unasked free j c _ (of_call free j routines (call_frame extrinsic j) _ given ts j refl refl)
steps routines free c j (task.CallIf callee given ∷ ts) = of_condition free j c j (λ t i. called_if t routines (target_of routines i.routine callee) given ts i) (λ t. of_call_if free j t routines (target_of routines j.routine callee) given ts (dropped 1 j) refl refl)
steps routines free c j (task.Block lines ∷ ts) = unasked free j c _ (same free j _ refl refl)
steps routines free c j (task.GoTo callee ∷ ts) = unasked free j c _ (of_gone free j routines _ ts j refl refl)
steps routines free c j (task.GoIf callee ∷ ts) = of_condition free j c j (λ t i. Ok (doing (tasks_if t (task.GoTo callee ∷ []) ++ ts) i)) (λ t. same free j _ refl refl)
steps routines free c j (task.StartJob callee given ∷ ts) = unasked free j c _ (same free j _ refl refl)
steps routines free c j (RunLines lines ∷ ts) = unasked free j c _ (of_line free j lines ts)
steps routines free c j (RunCommands commands block ∷ ts) = unasked free j c _ (same free j _ refl refl)
steps routines free c j (task.NextArgument action done ∷ ts) = unasked free j c _ (same free j _ refl refl)
steps routines free c j (Parameters v ps rest block ∷ ts) = unasked free j c _ (same free j _ refl refl)
steps routines free c j (Forever rest block ∷ ts) = unasked free j c _ (same free j _ refl refl)
steps routines free c j (NextValue v rest block ∷ ts) = unasked free j c _ (same free j _ refl refl)
steps routines free c j (FirstRound v ps rest block ∷ ts) = of_truth free j c _ (λ t. same free j _ refl refl)
steps routines free c j (LaterRound v ps rest block ∷ ts) = of_truth free j c _ (λ t. same free j _ refl refl)
steps routines free c j (task.QuitHere ∷ ts) = unasked free j c _ (same free j _ refl refl)
steps routines free c j (task.QuitWithValue ∷ ts) = unasked free j c _ (same free j _ (of_answer free j (to_end ts)) (of_answer_held free j (to_end ts)))
steps routines free c j (task.HaltJob ∷ ts) = unasked free j c _ (same free j _ refl refl)
steps routines free c j (EndBlock back next test ∷ ts) = unasked free j c _ (same free j _ refl refl)
steps routines free c j (EndFrame frame back next routine ∷ ts) = of_end free j c frame _ refl refl

-- With more names free, a granted claim has the same result.
granted_more : (free more : LockName → Bool) → ((n : LockName) → free n ≡ true → more n ≡ true) → (names : List LockName)
    → (j i : Job) → granted free names j ≡ Ok i → granted more names j ≡ Ok i
granted_more free more f names j i h = on _ refl
  where
    on : (b : Bool) → (list_all free names && has_room names j.held) ≡ b → granted more names j ≡ Ok i
    on false g = let e : if_free false (held_more names j) ≡ Ok i = rw g at h in cc
    on true g =
        let p = and_parts (list_all free names) (has_room names j.held) g in
        let e : if_free true (held_more names j) ≡ Ok i = rw g at h in
        rw (all_more free more f names p.0, p.1) e

claim_more : (free more : LockName → Bool) → ((n : LockName) → free n ≡ true → more n ≡ true) → (c : Choice)
    → (names : List LockName) (timed : Bool) (j i : Job) → claim_step free c names timed j ≡ Ok i
    → claim_step more c names timed j ≡ Ok i
claim_more free more f choice.None names false j i h = granted_more free more f names j i h
claim_more free more f (choice.Value v) names false j i h = asked (granted free names j) h
  where
    asked : (s : Stepped) → without_choice (choice.Value v) s ≡ Ok i → without_choice (choice.Value v) (granted more names j) ≡ Ok i
    asked (Ok k) e = cc
    asked (Err w) e = cc
claim_more free more f (choice.Truth t) names false j i h = asked (granted free names j) h
  where
    asked : (s : Stepped) → without_choice (choice.Truth t) s ≡ Ok i → without_choice (choice.Truth t) (granted more names j) ≡ Ok i
    asked (Ok k) e = cc
    asked (Err w) e = cc
claim_more free more f choice.None names true j i h = cc
claim_more free more f (choice.Value v) names true j i h = cc
claim_more free more f (choice.Truth true) names true j i h = granted_more free more f names (tested true j) i h
claim_more free more f (choice.Truth false) names true j i h = h

steps_more : (routines : List RoutineTree) (free more : LockName → Bool)
    → ((n : LockName) → free n ≡ true → more n ≡ true) → (c : Choice) (j : Job) (ts : List Task) (i : Job)
    → advance routines free c j ts ≡ Ok i → advance routines more c j ts ≡ Ok i
steps_more routines free more f c j [] i h = h
steps_more routines free more f c j (task.Evaluate t ∷ ts) i h = h
steps_more routines free more f c j (task.Push value ∷ ts) i h = h
steps_more routines free more f c j (task.Fetch name ∷ ts) i h = h
steps_more routines free more f c j (task.PushJob ∷ ts) i h = h
steps_more routines free more f c j (task.PushTest ∷ ts) i h = h
steps_more routines free more f c j (task.ApplyUnary op ∷ ts) i h = h
steps_more routines free more f c j (task.ApplyBinary op ∷ ts) i h = h
steps_more routines free more f c j (task.AskValue n ∷ ts) i h = h
steps_more routines free more f c j (task.Drop n ∷ ts) i h = h
steps_more routines free more f c j (task.Select choices ∷ ts) i h = h
steps_more routines free more f c j (task.Selected value others ∷ ts) i h = h
steps_more routines free more f c j (task.FormReference name n e a ∷ ts) i h = h
steps_more routines free more f c j (task.DoTouch touch ∷ ts) i h = h
steps_more routines free more f c j (task.Store name value ∷ ts) i h = h
steps_more routines free more f c j (task.StoreAny name ∷ ts) i h = h
steps_more routines free more f c j (task.StoreLast name ∷ ts) i h = h
steps_more routines free more f c j (task.KillNames names ∷ ts) i h = h
steps_more routines free more f c j (task.NewNames names ∷ ts) i h = h
steps_more routines free more f c j (task.Assign targets ∷ ts) i h = h
steps_more routines free more f c j (task.Merge target source ∷ ts) i h = h
steps_more routines free more f c j (task.SetTest ∷ ts) i h = h
steps_more routines free more f c j (task.AskTest ∷ ts) i h = h
steps_more routines free more f c j (task.SkipIf test ∷ ts) i h = h
steps_more routines free more f c j (task.Conditionally action block ∷ ts) i h = h
steps_more routines free more f c j (task.LockNamed sign names timed ∷ ts) i h = h
steps_more routines free more f c j (task.Claim names timed ∷ ts) i h = claim_more free more f c names timed (doing ts j) i h
steps_more routines free more f c j (task.Release names ∷ ts) i h = h
steps_more routines free more f c j (task.ReleaseAll ∷ ts) i h = h
steps_more routines free more f c j (task.Call extrinsic callee given ∷ ts) i h = h
steps_more routines free more f c j (task.CallIf callee given ∷ ts) i h = h
steps_more routines free more f c j (task.Block lines ∷ ts) i h = h
steps_more routines free more f c j (task.GoTo callee ∷ ts) i h = h
steps_more routines free more f c j (task.GoIf callee ∷ ts) i h = h
steps_more routines free more f c j (task.StartJob callee given ∷ ts) i h = h
steps_more routines free more f c j (RunLines lines ∷ ts) i h = h
steps_more routines free more f c j (RunCommands commands block ∷ ts) i h = h
steps_more routines free more f c j (task.NextArgument action done ∷ ts) i h = h
steps_more routines free more f c j (Parameters v ps rest block ∷ ts) i h = h
steps_more routines free more f c j (Forever rest block ∷ ts) i h = h
steps_more routines free more f c j (NextValue v rest block ∷ ts) i h = h
steps_more routines free more f c j (FirstRound v ps rest block ∷ ts) i h = h
steps_more routines free more f c j (LaterRound v ps rest block ∷ ts) i h = h
steps_more routines free more f c j (task.QuitHere ∷ ts) i h = h
steps_more routines free more f c j (task.QuitWithValue ∷ ts) i h = h
steps_more routines free more f c j (task.HaltJob ∷ ts) i h = h
steps_more routines free more f c j (EndBlock back next test ∷ ts) i h = h
steps_more routines free more f c j (EndFrame frame back next routine ∷ ts) i h = h

stops : (j : Job) (ts : List Task) → Keeps (λ n. false) j (aborted j ts)
stops j [] = refused (λ n. false) j NotEnabled
stops j (t ∷ ts) =
    when_done (λ n. false) j (record j { held = []; tasks = []; stopped = true })
    (record { number = refl; holds = λ x p. absurd (omega (arith, p)) })

begins : (routines : List RoutineTree) (declared : EntryId → Bool) (e : EntryId) (test : Bool) (values : List (Option (List ℕ))) (k : ℕ)
    → Keeps (λ n. false) (blank k test values) ((machine routines declared).begin e test values k)
begins routines declared e test values k i h = elim (cases_Bool (declared e && is_job_number k)) [
  | inl d ↦
      let g : begun routines e k test values ≡ Ok i = rw d at h in
      elim (cases_Bool (nat_lt (formals_at (lines_after routines e)) (length values))) [
        | inl m ↦ let z : Err BadChoice ≡ Ok i = rw m at g in cc
        | inr m ↦
            of_entered (λ n. false) (blank k test values) NoValue e.routine (by_value values) (lines_after routines e) []
            (blank k test values) refl refl i (rw m at g)
      ]
  | inr d ↦ let z : Err NotEnabled ≡ Ok i = rw d at h in cc
]

module _ (routines : List RoutineTree) (declared : EntryId → Bool) where
  pub is_machine : IsMachine (machine routines declared)
  is_machine = record {
    begin_number = λ e test values k j h. (begins routines declared e test values k j h).number;
    begin_holds = λ e test values k j h n p. elim ((begins routines declared e test values k j h).holds n p) [
      | inl q ↦ omega (arith, q)
      | inr q ↦ cc
    ];
    go_number = λ free c j i h. (steps routines free c j j.tasks i h).number;
    go_more = λ free more c j i f h. steps_more routines free more f c j j.tasks i h;
    go_holds = λ free c j i h n p. (steps routines free c j j.tasks i h).holds n p;
    abort_number = λ j i h. (stops j j.tasks i h).number;
    abort_holds = λ j i h n p. elim ((stops j j.tasks i h).holds n p) [
      | inl q ↦ q
      | inr q ↦ cc
    ];
  }

pub held_apart : HeldApart
held_apart routines declared = systems.held_apart (machine routines declared) (is_machine routines declared)

pub numbers_distinct : NumbersDistinct
numbers_distinct routines declared = systems.numbers_distinct (machine routines declared) (is_machine routines declared)

pub one_run_of_many : OneRunOfMany
one_run_of_many routines declared = systems.one_run_of_many (machine routines declared) (is_machine routines declared)

pub leaving_out : LeavingOut
leaving_out routines declared = leaving.leaving_out (machine routines declared) (is_machine routines declared)

pub changes_one : ChangesOne
changes_one routines declared = leaving.changes_one (machine routines declared) (is_machine routines declared)

pub rings_found : RingsAreFound
rings_found = waiting.rings_are_found seen

pub ended_stays : EndedStays
ended_stays routines j e = record {
  goes_not = λ free c. ap (advance routines free c j) e;
  aborts_not = ap (aborted j) e;
}
