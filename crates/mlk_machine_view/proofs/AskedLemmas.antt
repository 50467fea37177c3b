-- What a step without a choice shows of a job.
use Rattle.std.proofs.Common.{◌≡◌, ◌∙◌, ◌++◌, ℕ, suc, Bool, true, false, List, [], ◌∷◌, drop, Option, Some, None, Ok, Err, refl, ap}
use Rattle.std.specs.Prelude.{◌==◌, if◌then◌else◌, is_some}
use Rattle.mlk_text.specs.declared.operator.Op.{Op}
use Rattle.mlk_text.specs.declared.operator.UnaryOp.{UnaryOp}
use Rattle.mlk_syntax.specs.declared.expr.Callee.{Callee}
use Rattle.mlk_syntax.specs.ExprTrees.{Tree, Choices, no_choices, choice, ActualTree}
use Rattle.mlk_machine_locks.specs.Lists.{is_some_there}
use Rattle.mlk_machine_locks.specs.declared.refusal.Refusal.TheVariants.{NotEnabled}
use Rattle.mlk_syntax.specs.Trees.{RoutineTree, LineHead, LineTrees, ActionTree, TargetTree}
use Rattle.mlk_program.specs.declared.entry.EntryId.{EntryId}
use Rattle.mlk_program.specs.Entries.{target_of}
use Rattle.mlk_machine_jobs.specs.declared.choice.Choice.TheVariants as chosen
use Rattle.mlk_machine_jobs.specs.Bindings.{Bindings, look}
use Rattle.mlk_numbers.specs.Operators.{truth_of_text, fold_before, fold_between}
use Rattle.mlk_machine_jobs.specs.Tasks as task
use Rattle.mlk_machine_jobs.specs.Tasks.{Task, Job, LineTree, Frame, NoValue, AwaitsValue, HasValue, RunLines, EndFrame}
use Rattle.mlk_machine_jobs.specs.Choices.{Stepped, given_or_asked, with_last, truth_or_asked, by_truth, dropped, fetched}
use Rattle.mlk_machine_jobs.specs.Choices.{doing, pushed, stored, last_values}
use Rattle.mlk_machine_jobs.specs.Commands.{action_parts}
use Rattle.mlk_machine_jobs.specs.Assigning.{assignments, count_parts}
use Rattle.mlk_machine_jobs.specs.Locking.{tested}
use Rattle.mlk_machine_jobs.specs.Lines.{to_end, tasks_if, chosen as part_chosen, next_line}
use Rattle.mlk_machine_jobs.specs.Calling.{call_frame, called, called_if, entered, gone, lines_after, back_to, frame_end}
use Rattle.mlk_machine_jobs.specs.Seen.{State, Silent, asks, state_in}
use Rattle.mlk_machine_view.specs.Asked.{if_enabled, if_known, by_value, by_last, by_unary, by_binary, by_known_truth, by_last_truth, by_target, by_goto, by_lines, by_frame, has_choices}

fetched_asks : (j : Job) (ts : List Task) (o : Option (List ℕ)) → asks (fetched j ts o) ≡ by_value o
fetched_asks j ts None = refl
fetched_asks j ts (Some v) = refl

known_asks : (o : Option (List ℕ)) (f : List ℕ → Job)
    → asks (given_or_asked chosen.None o (λ v. Ok (f v))) ≡ if_known (is_some o)
known_asks None f = refl
known_asks (Some v) f = refl

last_asks : (vs : List (List ℕ)) (f : List ℕ → Job) → asks (with_last vs (λ v. Ok (f v))) ≡ by_last vs
last_asks [] f = refl
last_asks (v ∷ vs) f = refl

unary_asks : (op : UnaryOp) (vs : List (List ℕ)) (f : List ℕ → Job)
    → asks (with_last vs (λ a. given_or_asked chosen.None (fold_before op a) (λ v. Ok (f v)))) ≡ by_unary op vs
unary_asks op [] f = refl
unary_asks op (a ∷ vs) f = known_asks (fold_before op a) f

binary_asks : (op : Op) (vs : List (List ℕ)) (f : List ℕ → Job)
    → asks (with_last vs (λ b. with_last (drop 1 vs) (λ a. given_or_asked chosen.None (fold_between op a b) (λ v. Ok (f v)))))
    ≡ by_binary op vs
binary_asks op [] f = refl
binary_asks op (b ∷ []) f = refl
binary_asks op (b ∷ a ∷ vs) f = known_asks (fold_between op a b) f

one_truth_asks : (o : Option Bool) (f : Bool → Stepped)
    → asks (truth_or_asked chosen.None o f) ≡ by_known_truth o (asks (f true)) (asks (f false))
one_truth_asks None f = refl
one_truth_asks (Some true) f = refl
one_truth_asks (Some false) f = refl

last_truth_asks : (vs : List (List ℕ)) (f : Bool → Stepped)
    → asks (with_last vs (λ v. truth_or_asked chosen.None (truth_of_text v) f))
    ≡ by_last_truth vs (asks (f true)) (asks (f false))
last_truth_asks [] f = refl
last_truth_asks (v ∷ vs) f = one_truth_asks (truth_of_text v) f

truth_asks : (j : Job) (f : Bool → Job → Stepped)
    → asks (by_truth chosen.None j f)
    ≡ by_last_truth j.values (asks (f true (dropped 1 j))) (asks (f false (dropped 1 j)))
truth_asks j f = last_truth_asks j.values (λ t. f t (dropped 1 j))

entered_asks : (frame : Frame) (r : ℕ) (given : List ActualTree) (ls : List LineTree) (ts : List Task) (j : Job)
    → asks (entered frame r given ls ts j) ≡ if_enabled (is_some_there ls)
entered_asks frame r given [] ts j = refl
entered_asks frame r given ((head, block) ∷ ls) ts j = refl

called_asks : (routines : List RoutineTree) (frame : Frame) (o : Option EntryId) (given : List ActualTree)
    (ts : List Task) (j : Job) → asks (called routines frame o given ts j) ≡ by_target routines o
called_asks routines frame None given ts j = refl
called_asks routines frame (Some e) given ts j = entered_asks frame e.routine given (lines_after routines e) ts j

if_asks : (b : Bool) (i : Job) → asks (if b then Ok i else Err NotEnabled) ≡ if_enabled b
if_asks true i = refl
if_asks false i = refl

gone_asks : (routines : List RoutineTree) (o : Option EntryId) (ts : List Task) (j : Job)
    → asks (gone routines o ts j) ≡ by_goto j.routine o
gone_asks routines None ts j = refl
gone_asks routines (Some e) ts j = if_asks (e.routine == j.routine) (doing (RunLines (lines_after routines e) ∷ to_end ts) j)

line_asks : (ls : List LineTree) (ts : List Task) (j : Job) → asks (next_line ls ts j) ≡ by_lines ls
line_asks [] ts j = refl
line_asks ((LineHead n level end label None commands, block) ∷ ls) ts j = refl
line_asks ((LineHead n level end label (Some formals) commands, block) ∷ ls) ts j = refl

frame_asks : (frame : Frame) (j : Job) → asks (frame_end chosen.None frame j) ≡ by_frame frame
frame_asks NoValue j = refl
frame_asks (AwaitsValue test) j = refl
frame_asks (HasValue test) j = refl

module _ (routines : List RoutineTree) (j : Job) (ts : List Task) where
  pub fetch_shows : (name : List ℕ)
      → state_in routines j (task.Fetch name ∷ ts) ≡ by_value (j.cells (look j.bindings name))
  fetch_shows name = fetched_asks j ts (j.cells (look j.bindings name))

  pub unary_shows : (op : UnaryOp) → state_in routines j (task.ApplyUnary op ∷ ts) ≡ by_unary op j.values
  unary_shows op = unary_asks op j.values (λ v. doing ts (pushed v (dropped 1 j)))

  pub binary_shows : (op : Op) → state_in routines j (task.ApplyBinary op ∷ ts) ≡ by_binary op j.values
  binary_shows op = binary_asks op j.values (λ v. doing ts (pushed v (dropped 2 j)))

  pub select_shows : (choices : Choices)
      → state_in routines j (task.Select choices ∷ ts) ≡ if_enabled (has_choices choices)
  select_shows no_choices = refl
  select_shows (choice condition value rest) = refl

  pub selected_shows : (value : Tree) (others : Choices)
      → state_in routines j (task.Selected value others ∷ ts) ≡ by_last_truth j.values Silent Silent
  selected_shows value others = truth_asks j (part_chosen value others ts)

  pub store_last_shows : (name : List ℕ) → state_in routines j (task.StoreLast name ∷ ts) ≡ by_last j.values
  store_last_shows name = last_asks j.values (λ v. doing ts (stored name v (dropped 1 j)))

  pub assign_shows : (targets : List TargetTree) → state_in routines j (task.Assign targets ∷ ts) ≡ by_last j.values
  assign_shows targets = last_asks j.values (λ v.
      doing (assignments v (last_values (count_parts targets) (dropped 1 j)) targets ++ ts)
      (dropped (suc (count_parts targets)) j))

  pub set_test_shows : state_in routines j (task.SetTest ∷ ts) ≡ by_last_truth j.values Silent Silent
  set_test_shows = truth_asks j (λ t i. Ok (doing ts (tested t i)))

  pub conditionally_shows : (action : ActionTree) (block : LineTrees)
      → state_in routines j (task.Conditionally action block ∷ ts) ≡ by_last_truth j.values Silent Silent
  conditionally_shows action block = truth_asks j (λ t i. Ok (doing (tasks_if t (action_parts block action) ++ ts) i))

  pub call_shows : (extrinsic : Bool) (callee : Callee) (given : List ActualTree)
      → state_in routines j (task.Call extrinsic callee given ∷ ts)
      ≡ by_target routines (target_of routines j.routine callee)
  call_shows extrinsic callee given =
      called_asks routines (call_frame extrinsic j) (target_of routines j.routine callee) given ts j

  pub call_if_shows : (callee : Callee) (given : List ActualTree)
      → state_in routines j (task.CallIf callee given ∷ ts)
      ≡ by_last_truth j.values (by_target routines (target_of routines j.routine callee)) Silent
  call_if_shows callee given =
      truth_asks j (λ t i. called_if t routines (target_of routines i.routine callee) given ts i)
      ∙ ap (λ (s : State). by_last_truth j.values s Silent)
      (called_asks routines NoValue (target_of routines j.routine callee) given ts (dropped 1 j))

  pub goto_shows : (callee : Callee)
      → state_in routines j (task.GoTo callee ∷ ts) ≡ by_goto j.routine (target_of routines j.routine callee)
  goto_shows callee = gone_asks routines (target_of routines j.routine callee) ts j

  pub goto_if_shows : (callee : Callee) → state_in routines j (task.GoIf callee ∷ ts) ≡ by_last_truth j.values Silent Silent
  goto_if_shows callee = truth_asks j (λ t i. Ok (doing (tasks_if t (task.GoTo callee ∷ []) ++ ts) i))

  pub lines_show : (ls : List LineTree) → state_in routines j (RunLines ls ∷ ts) ≡ by_lines ls
  lines_show ls = line_asks ls ts j

  pub frame_shows : (frame : Frame) (back : Bindings) (next routine : ℕ)
      → state_in routines j (EndFrame frame back next routine ∷ ts) ≡ by_frame frame
  frame_shows frame back next routine =
      frame_asks frame (doing ts (record (back_to back next j) { routine = routine }))
