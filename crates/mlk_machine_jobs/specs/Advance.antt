-- One step of a job: the effect of its first task, with a clause for each kind of task. Restates ISO/IEC 11756, commands and
-- expressions.
use Rattle.std.specs.Prelude.{suc, ◌+◌, Bool, if◌then◌else◌, List, [], ◌∷◌, ◌++◌, take, drop, Ok, Err}
use Rattle.std.specs.Fmt.{decimal}
use Rattle.mlk_names.specs.declared.lock_name.LockName.{LockName}
use Rattle.mlk_syntax.specs.Trees.{RoutineTree}
use Rattle.mlk_program.specs.Entries.{target_of, as_lines}
use Rattle.mlk_machine_locks.specs.declared.refusal.Refusal.TheVariants.{NotEnabled}
use Rattle.mlk_machine_locks.specs.Counts.{all_lowered}
use Rattle.mlk_machine_jobs.specs.declared.choice.Choice.{Choice}
use Rattle.mlk_machine_jobs.specs.Bindings.{Fresh, look, killed}
use Rattle.mlk_numbers.specs.Operators.{fold_before, fold_between}
use Rattle.mlk_machine_jobs.specs.Tasks as task
use Rattle.mlk_machine_jobs.specs.Tasks.{Task, Job}
use Rattle.mlk_machine_jobs.specs.Tasks.{RunLines, RunCommands, Parameters, Forever, NextValue, FirstRound, LaterRound, EndBlock, EndFrame}
use Rattle.mlk_machine_jobs.specs.Expressions.{parts_of}
use Rattle.mlk_machine_jobs.specs.Commands.{action_parts, count_in}
use Rattle.mlk_machine_jobs.specs.Choices.{Stepped, without_choice, with_value, with_truth, pushed, dropped, last_values, doing, with_last}
use Rattle.mlk_machine_jobs.specs.Choices.{by_truth, same_truth, test_text, given_or_asked, fetched, stored, touch_at, touched}
use Rattle.mlk_machine_jobs.specs.Assigning.{assignments, count_parts, merge_source, merge_target}
use Rattle.mlk_machine_jobs.specs.Locking.{count_all, names_of, by_sign, tested, claim_step}
use Rattle.mlk_machine_jobs.specs.Lines.{skipped, to_end, quit, answered, tasks_if, selected, chosen, next_line, next_command}
use Rattle.mlk_machine_jobs.specs.Lines.{parameter_parts, first_round, later_round}
use Rattle.mlk_machine_jobs.specs.Calling.{count_given, call_frame, called, called_if, gone, back_to, frame_end}

-- The effect of a job's first task, given which names are free. The tasks after it are `ts`.
abbrev pub advance : List RoutineTree → (LockName → Bool) → Choice → Job → List Task → Stepped
advance routines free c j [] = Err NotEnabled
advance routines free c j (task.Evaluate t ∷ ts) = without_choice c (Ok (doing (parts_of t ++ ts) j))
advance routines free c j (task.Push value ∷ ts) = without_choice c (Ok (doing ts (pushed value j)))
advance routines free c j (task.Fetch name ∷ ts) = without_choice c (fetched j ts (j.cells (look j.bindings name)))
advance routines free c j (task.PushJob ∷ ts) = without_choice c (Ok (doing ts (pushed (decimal j.number) j)))
advance routines free c j (task.PushTest ∷ ts) = without_choice c (Ok (doing ts (pushed (test_text j.test) j)))
advance routines free c j (task.ApplyUnary op ∷ ts) =
    with_last j.values (λ a. given_or_asked c (fold_before op a) (λ v. Ok (doing ts (pushed v (dropped 1 j)))))
advance routines free c j (task.ApplyBinary op ∷ ts) =
    with_last j.values (λ b. with_last (drop 1 j.values) (λ a.
    given_or_asked c (fold_between op a b) (λ v. Ok (doing ts (pushed v (dropped 2 j))))))
advance routines free c j (task.AskValue n ∷ ts) = with_value c (λ v. Ok (doing ts (pushed v (dropped n j))))
advance routines free c j (task.Drop n ∷ ts) = without_choice c (Ok (doing ts (dropped n j)))
advance routines free c j (task.Select choices ∷ ts) = without_choice c (selected choices ts j)
advance routines free c j (task.Selected value others ∷ ts) = by_truth c j (chosen value others ts)
advance routines free c j (task.FormReference name n e a ∷ ts) =
    without_choice c (Ok (doing (task.DoTouch (touch_at name (last_values n j) e a) ∷ ts) (dropped n j)))
advance routines free c j (task.DoTouch touch ∷ ts) = touched c touch.access j ts
advance routines free c j (task.Store name value ∷ ts) = without_choice c (Ok (doing ts (stored name value j)))
advance routines free c j (task.StoreAny name ∷ ts) = with_value c (λ v. Ok (doing ts (stored name v j)))
advance routines free c j (task.StoreLast name ∷ ts) =
    without_choice c (with_last j.values (λ v. Ok (doing ts (stored name v (dropped 1 j)))))
advance routines free c j (task.KillNames names ∷ ts) =
    without_choice c (Ok (doing ts (record j { cells = killed j.bindings names j.cells })))
advance routines free c j (task.NewNames names ∷ ts) =
    without_choice c (Ok (doing ts (record j { bindings = Fresh j.next names ∷ j.bindings; next = suc j.next })))
advance routines free c j (task.Assign targets ∷ ts) = without_choice c (with_last j.values (λ v.
    Ok (doing (assignments v (last_values (count_parts targets) (dropped 1 j)) targets ++ ts)
    (dropped (suc (count_parts targets)) j))))
advance routines free c j (task.Merge target source ∷ ts) =
    let subs = last_values (count_in target + count_in source) j in
    without_choice c (Ok (doing (merge_source (drop (count_in target) subs) source
    ++ merge_target (take (count_in target) subs) target source ++ ts)
    (dropped (count_in target + count_in source) j)))
advance routines free c j (task.SetTest ∷ ts) = by_truth c j (λ t i. Ok (doing ts (tested t i)))
advance routines free c j (task.AskTest ∷ ts) = with_truth c (λ t. Ok (doing ts (tested t j)))
advance routines free c j (task.SkipIf test ∷ ts) =
    without_choice c (Ok (doing (if same_truth test j.test then skipped ts else ts) j))
advance routines free c j (task.Conditionally action block ∷ ts) =
    by_truth c j (λ t i. Ok (doing (tasks_if t (action_parts block action) ++ ts) i))
advance routines free c j (task.LockNamed sign names timed ∷ ts) = without_choice c
    (Ok (doing (by_sign sign (names_of (last_values (count_all names) j) names) timed ++ ts)
    (dropped (count_all names) j)))
advance routines free c j (task.Claim names timed ∷ ts) = claim_step free c names timed (doing ts j)
advance routines free c j (task.Release names ∷ ts) =
    without_choice c (Ok (doing ts (record j { held = all_lowered names j.held })))
advance routines free c j (task.ReleaseAll ∷ ts) = without_choice c (Ok (doing ts (record j { held = [] })))
advance routines free c j (task.Call extrinsic callee given ∷ ts) =
    without_choice c (called routines (call_frame extrinsic j) (target_of routines j.routine callee) given ts j)
advance routines free c j (task.CallIf callee given ∷ ts) =
    by_truth c j (λ t i. called_if t routines (target_of routines i.routine callee) given ts i)
advance routines free c j (task.StartJob callee given ∷ ts) = without_choice c (Ok (doing ts (dropped (count_given given) j)))
advance routines free c j (task.Block lines ∷ ts) =
    without_choice c (Ok (doing (RunLines (as_lines lines) ∷ EndBlock j.bindings j.next j.test ∷ ts) j))
advance routines free c j (task.GoTo callee ∷ ts) =
    without_choice c (gone routines (target_of routines j.routine callee) ts j)
advance routines free c j (task.GoIf callee ∷ ts) =
    by_truth c j (λ t i. Ok (doing (tasks_if t (task.GoTo callee ∷ []) ++ ts) i))
advance routines free c j (RunLines lines ∷ ts) = without_choice c (next_line lines ts j)
advance routines free c j (RunCommands commands here ∷ ts) =
    without_choice c (Ok (doing (next_command commands here ts) j))
advance routines free c j (task.NextArgument action done ∷ ts) = without_choice c (Ok (doing ts j))
advance routines free c j (Parameters v ps rest here ∷ ts) =
    without_choice c (Ok (doing (parameter_parts v ps rest here ++ ts) j))
advance routines free c j (Forever rest here ∷ ts) =
    without_choice c (Ok (doing (RunCommands rest here ∷ Forever rest here ∷ ts) j))
advance routines free c j (NextValue v rest here ∷ ts) =
    without_choice c (Ok (doing (task.StoreAny v ∷ RunCommands rest here ∷ NextValue v rest here ∷ ts) j))
advance routines free c j (FirstRound v ps rest here ∷ ts) =
    with_truth c (λ t. Ok (doing (first_round v ps rest here t ++ ts) j))
advance routines free c j (LaterRound v ps rest here ∷ ts) =
    with_truth c (λ t. Ok (doing (later_round v ps rest here t ++ ts) j))
advance routines free c j (task.QuitHere ∷ ts) = without_choice c (Ok (doing (quit ts) j))
advance routines free c j (task.QuitWithValue ∷ ts) = without_choice c (Ok (answered j (to_end ts)))
advance routines free c j (task.HaltJob ∷ ts) = without_choice c (Ok (doing [] j))
advance routines free c j (EndBlock back next test ∷ ts) =
    without_choice c (Ok (doing ts (tested test (back_to back next j))))
advance routines free c j (EndFrame frame back next routine ∷ ts) =
    frame_end c frame (doing ts (record (back_to back next j) { routine = routine }))
