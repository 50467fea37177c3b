-- The effect of each step on the open blocks and frames of a job.
use Rattle.std.proofs.Common.{◌≡◌, ◌∙◌, inl, inr, ℕ, Bool, true, false, List, [], ◌∷◌, ◌++◌, map, append_assoc, take, Some, refl, sym, ap, arith, drop}
use Rattle.std.specs.Prelude.{◌||◌, if◌then◌else◌, bytes_eq, Ok}
use Rattle.std.proofs.lemmas.Bool.{cases_Bool}
use Rattle.std.proofs.lemmas.Slice.Eq.{bytes_eq-Decides}
use Rattle.mlk_names.specs.declared.lock_name.LockName.{LockName}
use Rattle.mlk_machine_locks.specs.declared.refusal.Refusal.TheVariants.{NotEnabled}
use Rattle.mlk_syntax.specs.Trees.{RoutineTree, VariableTree}
use Rattle.mlk_program.specs.Entries.{target_of}
use Rattle.mlk_machine_jobs.specs.Commands.{count_in, action_parts}
use Rattle.mlk_machine_jobs.specs.Assigning.{merge_source, merge_target}
use Rattle.mlk_machine_jobs.specs.declared.choice.Choice.{Choice}
use Rattle.mlk_machine_jobs.specs.Bindings.{Bindings}
use Rattle.mlk_machine_jobs.specs.Tasks as task
use Rattle.mlk_machine_jobs.specs.Tasks.{Task, Job, LineTree, Frame, NoValue, AwaitsValue, HasValue, Mark, BlockMark, FrameMark, marks}
use Rattle.mlk_machine_jobs.specs.Tasks.{RunLines, RunCommands, Parameters, Forever, NextValue, FirstRound, LaterRound, EndBlock, EndFrame}
use Rattle.mlk_machine_jobs.specs.Choices.{doing, same_truth}
use Rattle.mlk_machine_jobs.specs.Locking.{tested}
use Rattle.mlk_machine_jobs.specs.Lines.{tasks_if, chosen, answered, is_end, is_round, is_lines, from_first, skipped, to_end, quit, quit_from}
use Rattle.mlk_machine_jobs.specs.Calling.{call_frame, back_to, called_if, frame_end}
use Rattle.mlk_machine_jobs.specs.Advance.{advance}
use Rattle.mlk_machine_jobs.specs.Runs.{aborted}
use Rattle.mlk_machine_laws.specs.Outside.{changes_name}
use Rattle.mlk_machine_laws.proofs.Plain.{Plain, expressions, actions, assigns, merged_source, merged_target, signed, rounds_of, round_first, round_later, next_commands}
use Rattle.mlk_machine_laws.proofs.Kept.{test_in, kept_by, kept, Bound, untouched, stores, kills, news, as_block, stays, opens, ends, halts, Moves, done, refused, same, unasked, of_value, of_truth, of_last, of_condition, of_result, of_fetch, of_touch, of_select, of_choice, of_line, of_claim, of_call, of_call_if, of_gone}

-- What is skipped or quit ends nothing.
no_end : (t : Task) (ts : List Task) → is_end t ≡ false → marks (t ∷ ts) ≡ marks ts
no_end (task.Evaluate t) ts e = refl
no_end (task.Push value) ts e = refl
no_end (task.Fetch name) ts e = refl
no_end task.PushJob ts e = refl
no_end task.PushTest ts e = refl
no_end (task.ApplyUnary op) ts e = refl
no_end (task.ApplyBinary op) ts e = refl
no_end (task.AskValue n) ts e = refl
no_end (task.Drop n) ts e = refl
no_end (task.Select cs) ts e = refl
no_end (task.Selected value others) ts e = refl
no_end (task.FormReference name n x a) ts e = refl
no_end (task.DoTouch touch) ts e = refl
no_end (task.Store name value) ts e = refl
no_end (task.StoreAny name) ts e = refl
no_end (task.StoreLast name) ts e = refl
no_end (task.KillNames names) ts e = refl
no_end (task.NewNames names) ts e = refl
no_end (task.Assign targets) ts e = refl
no_end (task.Merge target source) ts e = refl
no_end task.SetTest ts e = refl
no_end task.AskTest ts e = refl
no_end (task.SkipIf test) ts e = refl
no_end (task.Conditionally action block) ts e = refl
no_end (task.LockNamed sign names timed) ts e = refl
no_end (task.Claim names timed) ts e = refl
no_end (task.Release names) ts e = refl
no_end task.ReleaseAll ts e = refl
no_end (task.Call extrinsic callee given) ts e = refl
no_end (task.CallIf callee given) ts e = refl
no_end (task.Block lines) ts e = refl
no_end (task.GoTo callee) ts e = refl
no_end (task.GoIf callee) ts e = refl
no_end (task.StartJob callee given) ts e = refl
no_end (task.RunLines lines) ts e = refl
no_end (task.RunCommands commands block) ts e = refl
no_end (task.NextArgument action done) ts e = refl
no_end (task.Parameters v ps rest block) ts e = refl
no_end (task.Forever rest block) ts e = refl
no_end (task.NextValue v rest block) ts e = refl
no_end (task.FirstRound v ps rest block) ts e = refl
no_end (task.LaterRound v ps rest block) ts e = refl
no_end task.QuitHere ts e = refl
no_end task.QuitWithValue ts e = refl
no_end task.HaltJob ts e = refl
no_end (EndBlock back next test) ts e = cc
no_end (EndFrame frame back next routine) ts e = cc

from : (is : Task → Bool) → ((t : Task) → is t ≡ false → is_end t ≡ false) → (ts : List Task) → marks (from_first is ts) ≡ marks ts
from is f [] = refl
from is f (t ∷ ts) = elim (cases_Bool (is t)) [
  | inl y ↦ rw y refl
  | inr n ↦ rw n (from is f ts ∙ sym (no_end t ts (f t n)))
]

pub to_its_end : (ts : List Task) → marks (to_end ts) ≡ marks ts
to_its_end ts = from is_end (λ t n. n) ts

no_skip : (t : Task) → (is_round t || is_lines t || is_end t) ≡ false → is_end t ≡ false
no_skip t e = grind arith

pub after_skip : (ts : List Task) → marks (skipped ts) ≡ marks ts
after_skip ts = from _ no_skip ts

round_no_end : (t : Task) → is_round t ≡ true → is_end t ≡ false
round_no_end t e = grind arith

after_quit_from : (ts : List Task) → marks (quit_from ts) ≡ marks ts
after_quit_from [] = refl
after_quit_from (t ∷ ts) = elim (cases_Bool (is_round t)) [
  | inl y ↦ rw y (sym (no_end t ts (round_no_end t y)))
  | inr n ↦ rw n (to_its_end (t ∷ ts))
]

pub after_quit : (ts : List Task) → marks (quit ts) ≡ marks ts
after_quit ts = after_quit_from (skipped ts) ∙ after_skip ts

-- A value that the frame of an extrinsic call keeps does not change what is restored.
after_answer : (j : Job) (ts : List Task) → kept (answered j ts).tasks ≡ kept ts
after_answer j [] = refl
after_answer j (EndFrame (AwaitsValue test) back next routine ∷ ts) = refl
after_answer j (EndFrame NoValue back next routine ∷ ts) = refl
after_answer j (EndFrame (HasValue test) back next routine ∷ ts) = refl
after_answer j (EndBlock back next test ∷ ts) = refl
after_answer j (task.Evaluate t ∷ ts) = refl
after_answer j (task.Push value ∷ ts) = refl
after_answer j (task.Fetch name ∷ ts) = refl
after_answer j (task.PushJob ∷ ts) = refl
after_answer j (task.PushTest ∷ ts) = refl
after_answer j (task.ApplyUnary op ∷ ts) = refl
after_answer j (task.ApplyBinary op ∷ ts) = refl
after_answer j (task.AskValue n ∷ ts) = refl
after_answer j (task.Drop n ∷ ts) = refl
after_answer j (task.Select cs ∷ ts) = refl
after_answer j (task.Selected value others ∷ ts) = refl
after_answer j (task.FormReference name n x a ∷ ts) = refl
after_answer j (task.DoTouch touch ∷ ts) = refl
after_answer j (task.Store name value ∷ ts) = refl
after_answer j (task.StoreAny name ∷ ts) = refl
after_answer j (task.StoreLast name ∷ ts) = refl
after_answer j (task.KillNames names ∷ ts) = refl
after_answer j (task.NewNames names ∷ ts) = refl
after_answer j (task.Assign targets ∷ ts) = refl
after_answer j (task.Merge target source ∷ ts) = refl
after_answer j (task.SetTest ∷ ts) = refl
after_answer j (task.AskTest ∷ ts) = refl
after_answer j (task.SkipIf test ∷ ts) = refl
after_answer j (task.Conditionally action block ∷ ts) = refl
after_answer j (task.LockNamed sign names timed ∷ ts) = refl
after_answer j (task.Claim names timed ∷ ts) = refl
after_answer j (task.Release names ∷ ts) = refl
after_answer j (task.ReleaseAll ∷ ts) = refl
after_answer j (task.Call extrinsic callee given ∷ ts) = refl
after_answer j (task.CallIf callee given ∷ ts) = refl
after_answer j (task.Block lines ∷ ts) = refl
after_answer j (task.GoTo callee ∷ ts) = refl
after_answer j (task.GoIf callee ∷ ts) = refl
after_answer j (task.StartJob callee given ∷ ts) = refl
after_answer j (task.RunLines lines ∷ ts) = refl
after_answer j (task.RunCommands commands block ∷ ts) = refl
after_answer j (task.NextArgument action done ∷ ts) = refl
after_answer j (task.Parameters v ps rest block ∷ ts) = refl
after_answer j (task.Forever rest block ∷ ts) = refl
after_answer j (task.NextValue v rest block ∷ ts) = refl
after_answer j (task.FirstRound v ps rest block ∷ ts) = refl
after_answer j (task.LaterRound v ps rest block ∷ ts) = refl
after_answer j (task.QuitHere ∷ ts) = refl
after_answer j (task.QuitWithValue ∷ ts) = refl
after_answer j (task.HaltJob ∷ ts) = refl

-- nor names and cells
answer_bound : (j : Job) (ts : List Task) → Bound j (answered j ts)
answer_bound j [] = untouched refl refl refl
answer_bound j (EndFrame (AwaitsValue test) back next routine ∷ ts) = untouched refl refl refl
answer_bound j (EndFrame NoValue back next routine ∷ ts) = untouched refl refl refl
answer_bound j (EndFrame (HasValue test) back next routine ∷ ts) = untouched refl refl refl
answer_bound j (EndBlock back next test ∷ ts) = untouched refl refl refl
answer_bound j (task.Evaluate t ∷ ts) = untouched refl refl refl
answer_bound j (task.Push value ∷ ts) = untouched refl refl refl
answer_bound j (task.Fetch name ∷ ts) = untouched refl refl refl
answer_bound j (task.PushJob ∷ ts) = untouched refl refl refl
answer_bound j (task.PushTest ∷ ts) = untouched refl refl refl
answer_bound j (task.ApplyUnary op ∷ ts) = untouched refl refl refl
answer_bound j (task.ApplyBinary op ∷ ts) = untouched refl refl refl
answer_bound j (task.AskValue n ∷ ts) = untouched refl refl refl
answer_bound j (task.Drop n ∷ ts) = untouched refl refl refl
answer_bound j (task.Select cs ∷ ts) = untouched refl refl refl
answer_bound j (task.Selected value others ∷ ts) = untouched refl refl refl
answer_bound j (task.FormReference name n x a ∷ ts) = untouched refl refl refl
answer_bound j (task.DoTouch touch ∷ ts) = untouched refl refl refl
answer_bound j (task.Store name value ∷ ts) = untouched refl refl refl
answer_bound j (task.StoreAny name ∷ ts) = untouched refl refl refl
answer_bound j (task.StoreLast name ∷ ts) = untouched refl refl refl
answer_bound j (task.KillNames names ∷ ts) = untouched refl refl refl
answer_bound j (task.NewNames names ∷ ts) = untouched refl refl refl
answer_bound j (task.Assign targets ∷ ts) = untouched refl refl refl
answer_bound j (task.Merge target source ∷ ts) = untouched refl refl refl
answer_bound j (task.SetTest ∷ ts) = untouched refl refl refl
answer_bound j (task.AskTest ∷ ts) = untouched refl refl refl
answer_bound j (task.SkipIf test ∷ ts) = untouched refl refl refl
answer_bound j (task.Conditionally action block ∷ ts) = untouched refl refl refl
answer_bound j (task.LockNamed sign names timed ∷ ts) = untouched refl refl refl
answer_bound j (task.Claim names timed ∷ ts) = untouched refl refl refl
answer_bound j (task.Release names ∷ ts) = untouched refl refl refl
answer_bound j (task.ReleaseAll ∷ ts) = untouched refl refl refl
answer_bound j (task.Call extrinsic callee given ∷ ts) = untouched refl refl refl
answer_bound j (task.CallIf callee given ∷ ts) = untouched refl refl refl
answer_bound j (task.Block lines ∷ ts) = untouched refl refl refl
answer_bound j (task.GoTo callee ∷ ts) = untouched refl refl refl
answer_bound j (task.GoIf callee ∷ ts) = untouched refl refl refl
answer_bound j (task.StartJob callee given ∷ ts) = untouched refl refl refl
answer_bound j (task.RunLines lines ∷ ts) = untouched refl refl refl
answer_bound j (task.RunCommands commands block ∷ ts) = untouched refl refl refl
answer_bound j (task.NextArgument action done ∷ ts) = untouched refl refl refl
answer_bound j (task.Parameters v ps rest block ∷ ts) = untouched refl refl refl
answer_bound j (task.Forever rest block ∷ ts) = untouched refl refl refl
answer_bound j (task.NextValue v rest block ∷ ts) = untouched refl refl refl
answer_bound j (task.FirstRound v ps rest block ∷ ts) = untouched refl refl refl
answer_bound j (task.LaterRound v ps rest block ∷ ts) = untouched refl refl refl
answer_bound j (task.QuitHere ∷ ts) = untouched refl refl refl
answer_bound j (task.QuitWithValue ∷ ts) = untouched refl refl refl
answer_bound j (task.HaltJob ∷ ts) = untouched refl refl refl

pub merged : (ss : List (List ℕ)) (target source : VariableTree) (ts : List Task)
    → marks (merge_source (drop (count_in target) ss) source ++ merge_target (take (count_in target) ss) target source ++ ts) ≡ marks ts
merged ss target source ts =
    ap marks (append_assoc (merge_source (drop (count_in target) ss) source) (merge_target (take (count_in target) ss) target source) ts)
    ∙ merged_source (drop (count_in target) ss) source (merge_target (take (count_in target) ss) target source ++ ts)
    ∙ merged_target (take (count_in target) ss) target source ts

pub skip_if : (b : Bool) (ts : List Task) → marks (if b then skipped ts else ts) ≡ marks ts
skip_if true ts = after_skip ts
skip_if false ts = refl

pub run_if : (b : Bool) (xs ts : List Task) → Plain xs → marks (tasks_if b xs ++ ts) ≡ marks ts
run_if true xs ts p = p ts
run_if false xs ts p = refl

own_test : (extrinsic : Bool) (j : Job) (t : Bool) → test_in (call_frame extrinsic j) ≡ Some t → j.test ≡ t
own_test true j t h = cc
own_test false j t h = cc

of_frame_end : (routines : List RoutineTree) (j : Job) (c : Choice) (frame : Frame) (back : Bindings) (next routine : ℕ) (ts : List Task)
    → j.tasks ≡ EndFrame frame back next routine ∷ ts
    → Moves routines j (frame_end c frame (doing ts (record (back_to back next j) { routine = routine })))
of_frame_end routines j c NoValue back next routine ts e =
    unasked routines j c _ (done routines j _ (ends (kept_by (FrameMark NoValue back next routine)) (ap kept e) refl refl refl (λ t h. cc)))
of_frame_end routines j c (AwaitsValue test) back next routine ts e =
    of_value routines j c _ (λ v. done routines j _ (ends (kept_by (FrameMark (AwaitsValue test) back next routine)) (ap kept e) refl refl refl (λ t h. cc)))
of_frame_end routines j c (HasValue test) back next routine ts e =
    unasked routines j c _ (done routines j _ (ends (kept_by (FrameMark (HasValue test) back next routine)) (ap kept e) refl refl refl (λ t h. cc)))

own_name : (name : List ℕ) → bytes_eq name name ≡ true
own_name name = (bytes_eq-Decides name name).1 refl

pub moves : (routines : List RoutineTree) (free : LockName → Bool) (c : Choice) (j : Job) (ts : List Task) → j.tasks ≡ ts
    → Moves routines j (advance routines free c j ts)
moves routines free c j [] e = refused routines j NotEnabled
moves routines free c j (task.Evaluate t ∷ ts) e = unasked routines j c _ (same routines j _ (expressions t ts ∙ sym (ap marks e)) refl refl refl)
moves routines free c j (task.Push value ∷ ts) e = unasked routines j c _ (same routines j _ (sym (ap marks e)) refl refl refl)
moves routines free c j (task.Fetch name ∷ ts) e = unasked routines j c _ (of_fetch routines j ts (sym (ap marks e)) _)
moves routines free c j (task.PushJob ∷ ts) e = unasked routines j c _ (same routines j _ (sym (ap marks e)) refl refl refl)
moves routines free c j (task.PushTest ∷ ts) e = unasked routines j c _ (same routines j _ (sym (ap marks e)) refl refl refl)
moves routines free c j (task.ApplyUnary op ∷ ts) e = of_last routines j j.values _ (λ a. of_result routines j c _ _ (λ v. same routines j _ (sym (ap marks e)) refl refl refl))
moves routines free c j (task.ApplyBinary op ∷ ts) e = of_last routines j j.values _ (λ b. of_last routines j (drop 1 j.values) _ (λ a. of_result routines j c _ _ (λ v. same routines j _ (sym (ap marks e)) refl refl refl)))
moves routines free c j (task.AskValue n ∷ ts) e = of_value routines j c _ (λ v. same routines j _ (sym (ap marks e)) refl refl refl)
moves routines free c j (task.Drop n ∷ ts) e = unasked routines j c _ (same routines j _ (sym (ap marks e)) refl refl refl)
moves routines free c j (task.Select cs ∷ ts) e = unasked routines j c _ (of_select routines j cs ts (sym (ap marks e)))
moves routines free c j (task.Selected value others ∷ ts) e = of_condition routines j c j (chosen value others ts) (λ t. of_choice routines j value others ts (sym (ap marks e)) t)
moves routines free c j (task.FormReference name n x a ∷ ts) e = unasked routines j c _ (same routines j _ (sym (ap marks e)) refl refl refl)
moves routines free c j (task.DoTouch touch ∷ ts) e = of_touch routines j c touch.access ts (sym (ap marks e))
moves routines free c j (task.Store name value ∷ ts) e = unasked routines j c _ (done routines j _ (stays (sym (ap kept e)) (stores name value (rw e (own_name name)) refl refl refl)))
moves routines free c j (task.StoreAny name ∷ ts) e = of_value routines j c _ (λ v. done routines j _ (stays (sym (ap kept e)) (stores name v (rw e (own_name name)) refl refl refl)))
moves routines free c j (task.StoreLast name ∷ ts) e = unasked routines j c _ (of_last routines j j.values _ (λ v. done routines j _ (stays (sym (ap kept e)) (stores name v (rw e (own_name name)) refl refl refl))))
moves routines free c j (task.KillNames names ∷ ts) e = unasked routines j c _ (done routines j _ (stays (sym (ap kept e)) (kills names (λ n. ap (λ l. changes_name l n) e) refl refl refl)))
moves routines free c j (task.NewNames names ∷ ts) e = unasked routines j c _ (done routines j _ (stays (sym (ap kept e)) (news names refl refl refl)))
moves routines free c j (task.Assign targets ∷ ts) e = unasked routines j c _ (of_last routines j j.values _ (λ v. same routines j _ (assigns v targets _ ts ∙ sym (ap marks e)) refl refl refl))
moves routines free c j (task.Merge target source ∷ ts) e = unasked routines j c _ (same routines j _ (merged _ target source ts ∙ sym (ap marks e)) refl refl refl)
moves routines free c j (task.SetTest ∷ ts) e = of_condition routines j c j (λ t i. Ok (doing ts (tested t i))) (λ t. same routines j _ (sym (ap marks e)) refl refl refl)
moves routines free c j (task.AskTest ∷ ts) e = of_truth routines j c _ (λ t. same routines j _ (sym (ap marks e)) refl refl refl)
moves routines free c j (task.SkipIf test ∷ ts) e = unasked routines j c _ (same routines j _ (skip_if (same_truth test j.test) ts ∙ sym (ap marks e)) refl refl refl)
moves routines free c j (task.Conditionally action block ∷ ts) e = of_condition routines j c j (λ t i. Ok (doing (tasks_if t (action_parts block action) ++ ts) i)) (λ t. same routines j _ (run_if t (action_parts block action) ts (actions block action) ∙ sym (ap marks e)) refl refl refl)
moves routines free c j (task.LockNamed sign names timed ∷ ts) e = unasked routines j c _ (same routines j _ (signed sign _ timed ts ∙ sym (ap marks e)) refl refl refl)
moves routines free c j (task.Claim names timed ∷ ts) e = of_claim routines j c names timed free ts (sym (ap marks e))
moves routines free c j (task.Release names ∷ ts) e = unasked routines j c _ (same routines j _ (sym (ap marks e)) refl refl refl)
moves routines free c j (task.ReleaseAll ∷ ts) e = unasked routines j c _ (same routines j _ (sym (ap marks e)) refl refl refl)
moves routines free c j (task.Call extrinsic callee given ∷ ts) e = unasked routines j c _ (of_call routines j (call_frame extrinsic j) _ given ts j (sym (ap marks e)) refl refl refl (own_test extrinsic j))
moves routines free c j (task.CallIf callee given ∷ ts) e = of_condition routines j c j (λ t i. called_if t routines (target_of routines i.routine callee) given ts i) (λ t. of_call_if routines j t (target_of routines j.routine callee) given ts (sym (ap marks e)))
moves routines free c j (task.Block lines ∷ ts) e = unasked routines j c _ (done routines j _ (opens (Some j.test) (ap (λ ks. record { back = j.bindings; next = j.next; test = Some j.test } ∷ ks) (sym (ap kept e))) (λ t h. cc) (as_block refl refl refl)))
moves routines free c j (task.GoTo callee ∷ ts) e = unasked routines j c _ (of_gone routines j _ ts (to_its_end ts ∙ sym (ap marks e)))
moves routines free c j (task.GoIf callee ∷ ts) e = of_condition routines j c j (λ t i. Ok (doing (tasks_if t (task.GoTo callee ∷ []) ++ ts) i)) (λ t. same routines j _ (run_if t (task.GoTo callee ∷ []) ts (λ us. refl) ∙ sym (ap marks e)) refl refl refl)
moves routines free c j (task.StartJob callee given ∷ ts) e = unasked routines j c _ (same routines j _ (sym (ap marks e)) refl refl refl)
moves routines free c j (task.RunLines lines ∷ ts) e = unasked routines j c _ (of_line routines j lines ts (sym (ap marks e)))
moves routines free c j (task.RunCommands commands block ∷ ts) e = unasked routines j c _ (same routines j _ (next_commands commands block ts ∙ sym (ap marks e)) refl refl refl)
moves routines free c j (task.NextArgument action done ∷ ts) e = unasked routines j c _ (same routines j _ (sym (ap marks e)) refl refl refl)
moves routines free c j (task.Parameters v ps rest block ∷ ts) e = unasked routines j c _ (same routines j _ (rounds_of v ps rest block ts ∙ sym (ap marks e)) refl refl refl)
moves routines free c j (task.Forever rest block ∷ ts) e = unasked routines j c _ (same routines j _ (sym (ap marks e)) refl refl refl)
moves routines free c j (task.NextValue v rest block ∷ ts) e = unasked routines j c _ (same routines j _ (sym (ap marks e)) refl refl refl)
moves routines free c j (task.FirstRound v ps rest block ∷ ts) e = of_truth routines j c _ (λ t. same routines j _ (round_first v ps rest block t ts ∙ sym (ap marks e)) refl refl refl)
moves routines free c j (task.LaterRound v ps rest block ∷ ts) e = of_truth routines j c _ (λ t. same routines j _ (round_later v ps rest block t ts ∙ sym (ap marks e)) refl refl refl)
moves routines free c j (task.QuitHere ∷ ts) e = unasked routines j c _ (same routines j _ (after_quit ts ∙ sym (ap marks e)) refl refl refl)
moves routines free c j (task.QuitWithValue ∷ ts) e = unasked routines j c _ (done routines j _ (stays (after_answer j (to_end ts) ∙ ap (map kept_by) (to_its_end ts ∙ sym (ap marks e))) (answer_bound j (to_end ts))))
moves routines free c j (task.HaltJob ∷ ts) e = unasked routines j c _ (done routines j _ (halts refl refl refl refl))
moves routines free c j (EndBlock back next test ∷ ts) e = unasked routines j c _ (done routines j _ (ends (kept_by (BlockMark back next test)) (ap kept e) refl refl refl (λ t h. cc)))
moves routines free c j (EndFrame frame back next routine ∷ ts) e = of_frame_end routines j c frame back next routine ts e

pub stops : (routines : List RoutineTree) (j : Job) (ts : List Task) → Moves routines j (aborted j ts)
stops routines j [] = refused routines j NotEnabled
stops routines j (t ∷ ts) = done routines j _ (halts refl refl refl refl)
