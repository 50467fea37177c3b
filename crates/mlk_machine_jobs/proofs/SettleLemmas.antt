-- A job that runs by itself makes steps, whatever names are free.
use Rattle.std.proofs.Common.{◌≡◌, ℕ, zero, suc, Bool, true, false, List, [], ◌∷◌, refl, sym, ap, ◌∙◌, subst, inl, inr}
use Rattle.std.specs.Prelude.{◌⊎◌, Ok, Err}
use Rattle.mlk_names.specs.declared.lock_name.LockName.{LockName}
use Rattle.mlk_machine_locks.specs.declared.refusal.Refusal.{Refusal}
use Rattle.mlk_machine_locks.specs.declared.refusal.Refusal.TheVariants.{UnknownJob, NotEnabled, BadChoice}
use Rattle.mlk_machine_locks.specs.Systems.{and_then}
use Rattle.mlk_syntax.specs.Trees.{RoutineTree}
use Rattle.mlk_machine_jobs.specs.declared.choice.Choice.TheVariants as choice
use Rattle.mlk_machine_jobs.specs.Tasks as task
use Rattle.mlk_machine_jobs.specs.Tasks.{Task, Job}
use Rattle.mlk_machine_jobs.specs.Tasks.{RunLines, RunCommands, Parameters, Forever, NextValue, FirstRound, LaterRound, EndBlock, EndFrame}
use Rattle.mlk_machine_jobs.specs.Choices.{Stepped}
use Rattle.mlk_machine_jobs.specs.Advance.{advance}
use Rattle.mlk_machine_jobs.specs.Seen.{State, Ready, Claims, Releases, AsksChoice, Stuck, Silent, Ended, Stopped, state_in, state, silent_step, settled_after, settled, done, asks}
use Rattle.mlk_machine_jobs.specs.Laws.{goes, Settles, SettlesBySteps}

ended_is_not_silent : (b : Bool) → done b ≡ Silent → ⊥
ended_is_not_silent true h = cc
ended_is_not_silent false h = cc

-- no silent step depends on which names are free
alike : (routines : List RoutineTree) (free : LockName → Bool) (j : Job) (ts : List Task) → state_in routines j ts ≡ Silent
    → advance routines free choice.None j ts ≡ advance routines (λ n. true) choice.None j ts
alike routines free j [] is = absurd (ended_is_not_silent j.stopped is)
alike routines free j (task.Evaluate t ∷ ts) is = refl
alike routines free j (task.Push value ∷ ts) is = refl
alike routines free j (task.Fetch name ∷ ts) is = refl
alike routines free j (task.PushJob ∷ ts) is = refl
alike routines free j (task.PushTest ∷ ts) is = refl
alike routines free j (task.ApplyUnary op ∷ ts) is = refl
alike routines free j (task.ApplyBinary op ∷ ts) is = refl
alike routines free j (task.AskValue n ∷ ts) is = refl
alike routines free j (task.Drop n ∷ ts) is = refl
alike routines free j (task.Select choices ∷ ts) is = refl
alike routines free j (task.Selected value others ∷ ts) is = refl
alike routines free j (task.FormReference name n e a ∷ ts) is = refl
alike routines free j (task.DoTouch touch ∷ ts) is = refl
alike routines free j (task.Store name value ∷ ts) is = refl
alike routines free j (task.StoreAny name ∷ ts) is = refl
alike routines free j (task.StoreLast name ∷ ts) is = refl
alike routines free j (task.KillNames names ∷ ts) is = refl
alike routines free j (task.NewNames names ∷ ts) is = refl
alike routines free j (task.Assign targets ∷ ts) is = refl
alike routines free j (task.Merge target source ∷ ts) is = refl
alike routines free j (task.SetTest ∷ ts) is = refl
alike routines free j (task.AskTest ∷ ts) is = refl
alike routines free j (task.SkipIf test ∷ ts) is = refl
alike routines free j (task.Conditionally action block ∷ ts) is = refl
alike routines free j (task.LockNamed sign names timed ∷ ts) is = refl
alike routines free j (task.Claim names timed ∷ ts) is = cc
alike routines free j (task.Release names ∷ ts) is = refl
alike routines free j (task.ReleaseAll ∷ ts) is = refl
alike routines free j (task.Call extrinsic callee given ∷ ts) is = refl
alike routines free j (task.CallIf callee given ∷ ts) is = refl
alike routines free j (task.Block lines ∷ ts) is = refl
alike routines free j (task.GoTo callee ∷ ts) is = refl
alike routines free j (task.GoIf callee ∷ ts) is = refl
alike routines free j (task.StartJob callee given ∷ ts) is = refl
alike routines free j (RunLines lines ∷ ts) is = refl
alike routines free j (RunCommands commands block ∷ ts) is = refl
alike routines free j (task.NextArgument action done ∷ ts) is = refl
alike routines free j (Parameters v ps rest block ∷ ts) is = refl
alike routines free j (Forever rest block ∷ ts) is = refl
alike routines free j (NextValue v rest block ∷ ts) is = refl
alike routines free j (FirstRound v ps rest block ∷ ts) is = refl
alike routines free j (LaterRound v ps rest block ∷ ts) is = refl
alike routines free j (task.QuitHere ∷ ts) is = refl
alike routines free j (task.QuitWithValue ∷ ts) is = refl
alike routines free j (task.HaltJob ∷ ts) is = refl
alike routines free j (EndBlock back next test ∷ ts) is = refl
alike routines free j (EndFrame frame back next routine ∷ ts) is = refl

went : (routines : List RoutineTree) (j i : Job) (s : State) → state routines j ≡ s → silent_step routines j s ≡ Ok i
    → (state routines j ≡ Silent) × (advance routines (λ n. true) choice.None j j.tasks ≡ Ok i)
went routines j i Silent e h = (e, h)
went routines j i (Ready touch) e h = cc
went routines j i (Claims names timed) e h = cc
went routines j i Releases e h = cc
went routines j i AsksChoice e h = cc
went routines j i Stuck e h = cc
went routines j i Ended e h = cc
went routines j i Stopped e h = cc

asked : (r : Stepped) {why : Refusal} → asks r ≡ Silent → r ≡ Err why → ⊥
asked (Ok k) s a = cc
asked (Err UnknownJob) s a = cc
asked (Err NotEnabled) s a = cc
asked (Err BadChoice) s a = cc

-- a silent step is always enabled
stays : (routines : List RoutineTree) (j : Job) (why : Refusal) → silent_step routines j (state routines j) ≡ Err why → state routines j ≡ Silent → ⊥
stays routines j why h e = on j.tasks e (let P : State → Type 0 = λ s. silent_step routines j s ≡ Err why in subst P e h)
  where
    on : (ts : List Task) → state_in routines j ts ≡ Silent → advance routines (λ n. true) choice.None j ts ≡ Err why → ⊥
    on [] quiet fails = ended_is_not_silent j.stopped quiet
    on (task.Evaluate t ∷ ts) quiet fails = asked (advance routines (λ n. true) choice.None j (task.Evaluate t ∷ ts)) quiet fails
    on (task.Push value ∷ ts) quiet fails = asked (advance routines (λ n. true) choice.None j (task.Push value ∷ ts)) quiet fails
    on (task.Fetch name ∷ ts) quiet fails = asked (advance routines (λ n. true) choice.None j (task.Fetch name ∷ ts)) quiet fails
    on (task.PushJob ∷ ts) quiet fails = asked (advance routines (λ n. true) choice.None j (task.PushJob ∷ ts)) quiet fails
    on (task.PushTest ∷ ts) quiet fails = asked (advance routines (λ n. true) choice.None j (task.PushTest ∷ ts)) quiet fails
    on (task.ApplyUnary op ∷ ts) quiet fails = asked (advance routines (λ n. true) choice.None j (task.ApplyUnary op ∷ ts)) quiet fails
    on (task.ApplyBinary op ∷ ts) quiet fails = asked (advance routines (λ n. true) choice.None j (task.ApplyBinary op ∷ ts)) quiet fails
    on (task.AskValue n ∷ ts) quiet fails = asked (advance routines (λ n. true) choice.None j (task.AskValue n ∷ ts)) quiet fails
    on (task.Drop n ∷ ts) quiet fails = asked (advance routines (λ n. true) choice.None j (task.Drop n ∷ ts)) quiet fails
    on (task.Select choices ∷ ts) quiet fails = asked (advance routines (λ n. true) choice.None j (task.Select choices ∷ ts)) quiet fails
    on (task.Selected value others ∷ ts) quiet fails = asked (advance routines (λ n. true) choice.None j (task.Selected value others ∷ ts)) quiet fails
    on (task.FormReference name n e a ∷ ts) quiet fails = asked (advance routines (λ n. true) choice.None j (task.FormReference name n e a ∷ ts)) quiet fails
    on (task.DoTouch touch ∷ ts) quiet fails = cc
    on (task.Store name value ∷ ts) quiet fails = asked (advance routines (λ n. true) choice.None j (task.Store name value ∷ ts)) quiet fails
    on (task.StoreAny name ∷ ts) quiet fails = asked (advance routines (λ n. true) choice.None j (task.StoreAny name ∷ ts)) quiet fails
    on (task.StoreLast name ∷ ts) quiet fails = asked (advance routines (λ n. true) choice.None j (task.StoreLast name ∷ ts)) quiet fails
    on (task.KillNames names ∷ ts) quiet fails = asked (advance routines (λ n. true) choice.None j (task.KillNames names ∷ ts)) quiet fails
    on (task.NewNames names ∷ ts) quiet fails = asked (advance routines (λ n. true) choice.None j (task.NewNames names ∷ ts)) quiet fails
    on (task.Assign targets ∷ ts) quiet fails = asked (advance routines (λ n. true) choice.None j (task.Assign targets ∷ ts)) quiet fails
    on (task.Merge target source ∷ ts) quiet fails = asked (advance routines (λ n. true) choice.None j (task.Merge target source ∷ ts)) quiet fails
    on (task.SetTest ∷ ts) quiet fails = asked (advance routines (λ n. true) choice.None j (task.SetTest ∷ ts)) quiet fails
    on (task.AskTest ∷ ts) quiet fails = asked (advance routines (λ n. true) choice.None j (task.AskTest ∷ ts)) quiet fails
    on (task.SkipIf test ∷ ts) quiet fails = asked (advance routines (λ n. true) choice.None j (task.SkipIf test ∷ ts)) quiet fails
    on (task.Conditionally action block ∷ ts) quiet fails = asked (advance routines (λ n. true) choice.None j (task.Conditionally action block ∷ ts)) quiet fails
    on (task.LockNamed sign names timed ∷ ts) quiet fails = asked (advance routines (λ n. true) choice.None j (task.LockNamed sign names timed ∷ ts)) quiet fails
    on (task.Claim names timed ∷ ts) quiet fails = cc
    on (task.Release names ∷ ts) quiet fails = cc
    on (task.ReleaseAll ∷ ts) quiet fails = cc
    on (task.Call extrinsic callee given ∷ ts) quiet fails = asked (advance routines (λ n. true) choice.None j (task.Call extrinsic callee given ∷ ts)) quiet fails
    on (task.CallIf callee given ∷ ts) quiet fails = asked (advance routines (λ n. true) choice.None j (task.CallIf callee given ∷ ts)) quiet fails
    on (task.Block lines ∷ ts) quiet fails = asked (advance routines (λ n. true) choice.None j (task.Block lines ∷ ts)) quiet fails
    on (task.GoTo callee ∷ ts) quiet fails = asked (advance routines (λ n. true) choice.None j (task.GoTo callee ∷ ts)) quiet fails
    on (task.GoIf callee ∷ ts) quiet fails = asked (advance routines (λ n. true) choice.None j (task.GoIf callee ∷ ts)) quiet fails
    on (task.StartJob callee given ∷ ts) quiet fails = asked (advance routines (λ n. true) choice.None j (task.StartJob callee given ∷ ts)) quiet fails
    on (RunLines lines ∷ ts) quiet fails = asked (advance routines (λ n. true) choice.None j (RunLines lines ∷ ts)) quiet fails
    on (RunCommands commands block ∷ ts) quiet fails = asked (advance routines (λ n. true) choice.None j (RunCommands commands block ∷ ts)) quiet fails
    on (task.NextArgument action done ∷ ts) quiet fails = asked (advance routines (λ n. true) choice.None j (task.NextArgument action done ∷ ts)) quiet fails
    on (Parameters v ps rest block ∷ ts) quiet fails = asked (advance routines (λ n. true) choice.None j (Parameters v ps rest block ∷ ts)) quiet fails
    on (Forever rest block ∷ ts) quiet fails = asked (advance routines (λ n. true) choice.None j (Forever rest block ∷ ts)) quiet fails
    on (NextValue v rest block ∷ ts) quiet fails = asked (advance routines (λ n. true) choice.None j (NextValue v rest block ∷ ts)) quiet fails
    on (FirstRound v ps rest block ∷ ts) quiet fails = asked (advance routines (λ n. true) choice.None j (FirstRound v ps rest block ∷ ts)) quiet fails
    on (LaterRound v ps rest block ∷ ts) quiet fails = asked (advance routines (λ n. true) choice.None j (LaterRound v ps rest block ∷ ts)) quiet fails
    on (task.QuitHere ∷ ts) quiet fails = asked (advance routines (λ n. true) choice.None j (task.QuitHere ∷ ts)) quiet fails
    on (task.QuitWithValue ∷ ts) quiet fails = asked (advance routines (λ n. true) choice.None j (task.QuitWithValue ∷ ts)) quiet fails
    on (task.HaltJob ∷ ts) quiet fails = asked (advance routines (λ n. true) choice.None j (task.HaltJob ∷ ts)) quiet fails
    on (EndBlock back next test ∷ ts) quiet fails = asked (advance routines (λ n. true) choice.None j (EndBlock back next test ∷ ts)) quiet fails
    on (EndFrame frame back next routine ∷ ts) quiet fails = asked (advance routines (λ n. true) choice.None j (EndFrame frame back next routine ∷ ts)) quiet fails

module _ (routines : List RoutineTree) (most : ℕ) (j : Job) where
  abbrev Steps : Stepped → Type 0
  Steps s = (free : LockName → Bool) → goes routines free (settled_after (λ i. settled routines most i) j s).1 j
      ≡ Ok (settled_after (λ i. settled routines most i) j s).0

  abbrev Stops : Stepped → Type 0
  Stops s = (state routines (settled_after (λ i. settled routines most i) j s).0 ≡ Silent → ⊥)
      ⊎ ((settled_after (λ i. settled routines most i) j s).1 ≡ suc most)

  makes : (s : Stepped) → silent_step routines j (state routines j) ≡ s → ((i : Job) → Settles routines most i) → Steps s
  makes (Err why) e more free = refl
  makes (Ok i) e more free =
      let w = went routines j i (state routines j) refl e in
      let P : Stepped → Type 0 = λ s. and_then (goes routines free (settled routines most i).1) s ≡ Ok (settled routines most i).0 in
      subst P (sym (alike routines free j j.tasks w.0 ∙ w.1)) ((more i).by_steps free)

  ends : (s : Stepped) → silent_step routines j (state routines j) ≡ s → ((i : Job) → Settles routines most i) → Stops s
  ends (Err why) e more = inl (stays routines j why e)
  ends (Ok i) e more = elim (more i).stops [
    | inl n ↦ inl n
    | inr n ↦ inr (ap (λ k. suc k) n)
  ]

  one_more : ((i : Job) → Settles routines most i) → Settles routines (suc most) j
  unfolding settled
  one_more more = record {
    by_steps = makes (silent_step routines j (state routines j)) refl more;
    stops = ends (silent_step routines j (state routines j)) refl more;
  }

settles : (routines : List RoutineTree) (most : ℕ) (j : Job) → Settles routines most j
unfolding settled
settles routines zero j = record { by_steps = λ free. refl; stops = inr refl }
settles routines (suc most) j = one_more routines most j (λ i. settles routines most i)

pub settles_by_steps : SettlesBySteps
settles_by_steps = settles
