-- A job that is shown as ended has nothing left to do, and was not stopped.
use Rattle.std.proofs.Common.{◌≡◌, Bool, true, false, List, [], ◌∷◌, Ok, Err, refl}
use Rattle.mlk_machine_locks.specs.declared.refusal.Refusal.TheVariants.{UnknownJob, NotEnabled, BadChoice}
use Rattle.mlk_syntax.specs.Trees.{RoutineTree}
use Rattle.mlk_machine_jobs.specs.declared.choice.Choice.TheVariants as choice
use Rattle.mlk_machine_jobs.specs.Tasks as task
use Rattle.mlk_machine_jobs.specs.Tasks.{Task, Job}
use Rattle.mlk_machine_jobs.specs.Tasks.{RunLines, RunCommands, Parameters, Forever, NextValue, FirstRound, LaterRound, EndBlock, EndFrame}
use Rattle.mlk_machine_jobs.specs.Choices.{Stepped}
use Rattle.mlk_machine_jobs.specs.Advance.{advance}
use Rattle.mlk_machine_jobs.specs.Seen.{HasEnded, Ended, state_in, state, done, asks}

not_ended : (s : Stepped) → asks s ≡ Ended → ⊥
not_ended (Ok j) h = cc
not_ended (Err UnknownJob) h = cc
not_ended (Err NotEnabled) h = cc
not_ended (Err BadChoice) h = cc

by_itself : (stopped : Bool) → done stopped ≡ Ended → stopped ≡ false
by_itself true h = cc
by_itself false h = refl

-- a job with a task shows something else
no_end : (routines : List RoutineTree) (j : Job) (ts : List Task) → state_in routines j ts ≡ Ended
    → (ts ≡ []) × (j.stopped ≡ false)
no_end routines j [] h = (refl, by_itself j.stopped h)
no_end routines j (task.Evaluate t ∷ ts) h = absurd (not_ended (advance routines (λ n. true) choice.None j (task.Evaluate t ∷ ts)) h)
no_end routines j (task.Push value ∷ ts) h = absurd (not_ended (advance routines (λ n. true) choice.None j (task.Push value ∷ ts)) h)
no_end routines j (task.Fetch name ∷ ts) h = absurd (not_ended (advance routines (λ n. true) choice.None j (task.Fetch name ∷ ts)) h)
no_end routines j (task.PushJob ∷ ts) h = absurd (not_ended (advance routines (λ n. true) choice.None j (task.PushJob ∷ ts)) h)
no_end routines j (task.PushTest ∷ ts) h = absurd (not_ended (advance routines (λ n. true) choice.None j (task.PushTest ∷ ts)) h)
no_end routines j (task.ApplyUnary op ∷ ts) h = absurd (not_ended (advance routines (λ n. true) choice.None j (task.ApplyUnary op ∷ ts)) h)
no_end routines j (task.ApplyBinary op ∷ ts) h = absurd (not_ended (advance routines (λ n. true) choice.None j (task.ApplyBinary op ∷ ts)) h)
no_end routines j (task.AskValue n ∷ ts) h = absurd (not_ended (advance routines (λ n. true) choice.None j (task.AskValue n ∷ ts)) h)
no_end routines j (task.Drop n ∷ ts) h = absurd (not_ended (advance routines (λ n. true) choice.None j (task.Drop n ∷ ts)) h)
no_end routines j (task.Select choices ∷ ts) h = absurd (not_ended (advance routines (λ n. true) choice.None j (task.Select choices ∷ ts)) h)
no_end routines j (task.Selected value others ∷ ts) h = absurd (not_ended (advance routines (λ n. true) choice.None j (task.Selected value others ∷ ts)) h)
no_end routines j (task.FormReference name n e a ∷ ts) h = absurd (not_ended (advance routines (λ n. true) choice.None j (task.FormReference name n e a ∷ ts)) h)
no_end routines j (task.DoTouch touch ∷ ts) h = absurd (cc)
no_end routines j (task.Store name value ∷ ts) h = absurd (not_ended (advance routines (λ n. true) choice.None j (task.Store name value ∷ ts)) h)
no_end routines j (task.StoreAny name ∷ ts) h = absurd (not_ended (advance routines (λ n. true) choice.None j (task.StoreAny name ∷ ts)) h)
no_end routines j (task.StoreLast name ∷ ts) h = absurd (not_ended (advance routines (λ n. true) choice.None j (task.StoreLast name ∷ ts)) h)
no_end routines j (task.KillNames names ∷ ts) h = absurd (not_ended (advance routines (λ n. true) choice.None j (task.KillNames names ∷ ts)) h)
no_end routines j (task.NewNames names ∷ ts) h = absurd (not_ended (advance routines (λ n. true) choice.None j (task.NewNames names ∷ ts)) h)
no_end routines j (task.Assign targets ∷ ts) h = absurd (not_ended (advance routines (λ n. true) choice.None j (task.Assign targets ∷ ts)) h)
no_end routines j (task.Merge target source ∷ ts) h = absurd (not_ended (advance routines (λ n. true) choice.None j (task.Merge target source ∷ ts)) h)
no_end routines j (task.SetTest ∷ ts) h = absurd (not_ended (advance routines (λ n. true) choice.None j (task.SetTest ∷ ts)) h)
no_end routines j (task.AskTest ∷ ts) h = absurd (not_ended (advance routines (λ n. true) choice.None j (task.AskTest ∷ ts)) h)
no_end routines j (task.SkipIf test ∷ ts) h = absurd (not_ended (advance routines (λ n. true) choice.None j (task.SkipIf test ∷ ts)) h)
no_end routines j (task.Conditionally action block ∷ ts) h = absurd (not_ended (advance routines (λ n. true) choice.None j (task.Conditionally action block ∷ ts)) h)
no_end routines j (task.LockNamed sign names timed ∷ ts) h = absurd (not_ended (advance routines (λ n. true) choice.None j (task.LockNamed sign names timed ∷ ts)) h)
no_end routines j (task.Claim names timed ∷ ts) h = absurd (cc)
no_end routines j (task.Release names ∷ ts) h = absurd (cc)
no_end routines j (task.ReleaseAll ∷ ts) h = absurd (cc)
no_end routines j (task.Call extrinsic callee given ∷ ts) h = absurd (not_ended (advance routines (λ n. true) choice.None j (task.Call extrinsic callee given ∷ ts)) h)
no_end routines j (task.CallIf callee given ∷ ts) h = absurd (not_ended (advance routines (λ n. true) choice.None j (task.CallIf callee given ∷ ts)) h)
no_end routines j (task.StartJob callee given ∷ ts) h = absurd (not_ended (advance routines (λ n. true) choice.None j (task.StartJob callee given ∷ ts)) h)
no_end routines j (task.Block lines ∷ ts) h = absurd (not_ended (advance routines (λ n. true) choice.None j (task.Block lines ∷ ts)) h)
no_end routines j (task.GoTo callee ∷ ts) h = absurd (not_ended (advance routines (λ n. true) choice.None j (task.GoTo callee ∷ ts)) h)
no_end routines j (task.GoIf callee ∷ ts) h = absurd (not_ended (advance routines (λ n. true) choice.None j (task.GoIf callee ∷ ts)) h)
no_end routines j (RunLines lines ∷ ts) h = absurd (not_ended (advance routines (λ n. true) choice.None j (RunLines lines ∷ ts)) h)
no_end routines j (RunCommands commands block ∷ ts) h = absurd (not_ended (advance routines (λ n. true) choice.None j (RunCommands commands block ∷ ts)) h)
no_end routines j (task.NextArgument action done ∷ ts) h = absurd (not_ended (advance routines (λ n. true) choice.None j (task.NextArgument action done ∷ ts)) h)
no_end routines j (Parameters v ps rest block ∷ ts) h = absurd (not_ended (advance routines (λ n. true) choice.None j (Parameters v ps rest block ∷ ts)) h)
no_end routines j (Forever rest block ∷ ts) h = absurd (not_ended (advance routines (λ n. true) choice.None j (Forever rest block ∷ ts)) h)
no_end routines j (NextValue v rest block ∷ ts) h = absurd (not_ended (advance routines (λ n. true) choice.None j (NextValue v rest block ∷ ts)) h)
no_end routines j (FirstRound v ps rest block ∷ ts) h = absurd (not_ended (advance routines (λ n. true) choice.None j (FirstRound v ps rest block ∷ ts)) h)
no_end routines j (LaterRound v ps rest block ∷ ts) h = absurd (not_ended (advance routines (λ n. true) choice.None j (LaterRound v ps rest block ∷ ts)) h)
no_end routines j (task.QuitHere ∷ ts) h = absurd (not_ended (advance routines (λ n. true) choice.None j (task.QuitHere ∷ ts)) h)
no_end routines j (task.QuitWithValue ∷ ts) h = absurd (not_ended (advance routines (λ n. true) choice.None j (task.QuitWithValue ∷ ts)) h)
no_end routines j (task.HaltJob ∷ ts) h = absurd (not_ended (advance routines (λ n. true) choice.None j (task.HaltJob ∷ ts)) h)
no_end routines j (EndBlock back next test ∷ ts) h = absurd (not_ended (advance routines (λ n. true) choice.None j (EndBlock back next test ∷ ts)) h)
no_end routines j (EndFrame frame back next routine ∷ ts) h = absurd (not_ended (advance routines (λ n. true) choice.None j (EndFrame frame back next routine ∷ ts)) h)

pub has_ended : (routines : List RoutineTree) (j : Job) → state routines j ≡ Ended → HasEnded j
has_ended routines j h = no_end routines j j.tasks h
