-- The effect of one argument of a command on states. Standard: SET, KILL, NEW, READ, MERGE, WRITE, DO, JOB, IF; the order
-- within an argument is from left to right, except that SET evaluates its left subscripts, then its value, then assigns.
use Rattle.std.specs.Prelude.{ℕ, ◌+◌, Bool, true, false, List, [], ◌∷◌, length, take, drop, fold, Option, Some, None}
use Rattle.mlk_syntax.specs.ExprTrees.{Tree, LocalName, GlobalName, ActualTree, actuals_from, count_subs}
use Rattle.mlk_syntax.specs.Trees.{VariableTree, Named, CallTree, Called, DoTree, DoCall, KillTree, KillOne, KillAllBut}
use Rattle.mlk_syntax.specs.Trees.{NewTree, NewOne, NewAllBut, MergeTree, MergeInto, ReadTree, ReadText, ReadFormat}
use Rattle.mlk_syntax.specs.Trees.{ReadLine, ReadCharacter, TargetTree, SetWhole, SetPart, SetTree, SetTo}
use Rattle.mlk_syntax.specs.Trees.{WriteTree, WriteValue, WriteCharacter, WriteFormat}
use Rattle.mlk_names.specs.declared.symbol.Sym.{Sym}
use Rattle.mlk_names.specs.declared.reference.Access.TheVariants.{Reads, Writes}
use Rattle.mlk_names.specs.declared.reference.Extent.TheVariants as extent
use Rattle.mlk_cert_parts.specs.declared.case.Test.TheVariants.{Zero, One}
use Rattle.mlk_cert_parts.specs.declared.names.NameSet.TheVariants.{Only, AllBut}
use Rattle.mlk_walk_state.specs.declared.state.State.{State}
use Rattle.mlk_walk_state.specs.States.{without_last, tested}
use Rattle.mlk_walk_state.specs.Symbols.{truth_in}
use Rattle.mlk_calls.specs.declared.call.Calling.TheVariants.{ByDo}
use Rattle.mlk_calls.specs.Calls.{at_call, at_job}
use Rattle.mlk_walk_exprs.specs.declared.walk.Walk.{Walk}
use Rattle.mlk_walk_exprs.specs.Walks.{Outcome, Goes, Skips, each, each_changed, placed, all_placed}
use Rattle.mlk_walk_exprs.specs.Spots.{Spot}
use Rattle.mlk_walk_exprs.specs.References.{touch, touch_last}
use Rattle.mlk_walk_exprs.specs.Expressions.{capture_actuals, value, value_if, values, conditioned}
use Rattle.mlk_walk_commands.specs.Variables.{count_in, capture_variable, change_at, change_local}
use Rattle.mlk_walk_commands.specs.News.{renew}
use Rattle.mlk_calls.specs.Order.{in_order}

-- SET. The subscripts of all targets, and the further arguments of `$PIECE` and `$EXTRACT`, are evaluated where they are written.
abbrev pub variable_in : TargetTree → VariableTree
variable_in (SetWhole v) = v
variable_in (SetPart part v arguments) = v

abbrev pub arguments_in : TargetTree → List Tree
arguments_in (SetWhole v) = []
arguments_in (SetPart part v arguments) = arguments

abbrev pub capture_target : Spot → Walk → TargetTree → Walk
capture_target p w t = values p (arguments_in t) (capture_variable p (variable_in t) w)

abbrev pub capture_targets : Spot → List TargetTree → Walk → Walk
capture_targets p targets w = fold (capture_target p) w targets

-- The targets are assigned one after another; their subscripts are where they were captured, and all are removed at the end. A
-- part of a global is read, then written.
abbrev pub symbols_at : ℕ → ℕ → State → List Sym
symbols_at from count s = take count (drop from s.captured)

abbrev pub write_node : Spot → ℕ → List ℕ → ℕ → ℕ → State → List Outcome
write_node p column name from count s = touch p extent.Node Writes column name (symbols_at from count s) s

abbrev pub read_node : Spot → ℕ → List ℕ → ℕ → ℕ → State → List Outcome
read_node p column name from count s = touch p extent.Node Reads column name (symbols_at from count s) s

-- a global is read first if a part of it is assigned
abbrev pub read_part : Spot → ℕ → VariableTree → State → List Outcome
read_part p from (Named column (GlobalName caret name subs)) s = read_node p caret name from (count_subs subs) s
read_part p from (Named column _) s = Goes s ∷ []

abbrev pub read_target : Spot → ℕ → TargetTree → Walk → Walk
read_target p from (SetWhole v) w = w
read_target p from (SetPart part v arguments) w = each (read_part p from v) w

abbrev pub write_variable : Spot → ℕ → VariableTree → State → List Outcome
write_variable p from (Named column (GlobalName caret name subs)) s = write_node p caret name from (count_subs subs) s
write_variable p from (Named column (LocalName name subs)) s = change_local p column name subs s
write_variable p from (Named column _) s = Goes s ∷ []

abbrev pub assign : Spot → ℕ → TargetTree → Walk → Walk
assign p from t w = each (write_variable p from (variable_in t)) (read_target p from t w)

abbrev pub assign_all : Spot → ℕ → List TargetTree → Walk → Walk
assign_all p from [] w = w
assign_all p from (t ∷ targets) w = assign_all p (from + count_in (variable_in t)) targets (assign p from t w)

abbrev pub count_from : ℕ → List TargetTree → ℕ
count_from n targets = fold (λ m t. m + count_in (variable_in t)) n targets

abbrev pub count_targets : List TargetTree → ℕ
count_targets targets = count_from 0 targets

abbrev pub forget : ℕ → Walk → Walk
forget count w = each_changed (without_last count) w

abbrev pub set_argument : Spot → SetTree → Walk → Walk
set_argument p (SetTo targets t) w = forget (count_targets targets)
    (assign_all p 0 targets (value p t (capture_targets p targets w)))

-- KILL of one variable, or of all locals but some, at the column of the word. The names of a change ascend without duplicates.
abbrev pub kill_row : Spot → VariableTree → State → List Outcome
kill_row p (Named column (GlobalName caret name subs)) s =
    touch_last p extent.Tree Writes caret name (count_subs subs) s
kill_row p (Named column (LocalName name subs)) s =
    change_local p column name subs (without_last (count_subs subs) s)
kill_row p (Named column _) s = Goes s ∷ []

abbrev pub kill_all_but : Spot → List (List ℕ) → Walk → Walk
kill_all_but p names w = each (change_at p p.word (AllBut (in_order names))) w

abbrev pub kill_argument : Spot → KillTree → Walk → Walk
kill_argument p (KillOne v) w = each (kill_row p v) (capture_variable p v w)
kill_argument p (KillAllBut names) w = kill_all_but p names w

-- NEW of one name, or of all but some, at the column of the word. The names of an item ascend without duplicates.
abbrev pub new_all_but : Spot → List (List ℕ) → Walk → Walk
new_all_but p names w = each (renew p p.word (AllBut (in_order names))) w

abbrev pub new_argument : Spot → NewTree → Walk → Walk
new_argument p (NewOne column name) w = each (renew p column (Only name)) w
new_argument p (NewAllBut names) w = new_all_but p names w

-- READ: the subscripts, the length, the timeout; then the variable changes, and with a timeout `$TEST` is 1 or 0.
abbrev pub in_time_or_not : Option Tree → State → List Outcome
in_time_or_not None s = Goes s ∷ []
in_time_or_not (Some timeout) s = Goes (tested One s) ∷ Goes (tested Zero s) ∷ []

abbrev pub read_row : Spot → VariableTree → State → List Outcome
read_row p (Named column (LocalName name subs)) s =
    change_local p column name subs (without_last (count_subs subs) s)
read_row p (Named column _) s = Goes s ∷ []

abbrev pub read_variable : Spot → VariableTree → Option Tree → Option Tree → Walk → Walk
read_variable p v most timeout w = each (in_time_or_not timeout)
    (each (read_row p v) (value_if p timeout (value_if p most (capture_variable p v w))))

abbrev pub read_argument : Spot → ReadTree → Walk → Walk
read_argument p (ReadText prompt) w = w
read_argument p (ReadFormat tab) w = value_if p tab w
read_argument p (ReadLine v most timeout) w = read_variable p v most timeout w
read_argument p (ReadCharacter v timeout) w = read_variable p v None timeout w

-- MERGE: the subscripts of both sides; then the right tree is read, then the left one is written.
abbrev pub merge_from : Spot → VariableTree → State → List Outcome
merge_from p (Named column (GlobalName caret name subs)) s =
    touch_last p extent.Tree Reads caret name (count_subs subs) s
merge_from p v s = Goes (without_last (count_in v) s) ∷ []

abbrev pub merge_argument : Spot → MergeTree → Walk → Walk
merge_argument p (MergeInto target source) w = each (kill_row p target)
    (each (merge_from p source) (capture_variable p source (capture_variable p target w)))

-- WRITE: its expressions
abbrev pub write_argument : Spot → WriteTree → Walk → Walk
write_argument p (WriteValue t) w = value p t w
write_argument p (WriteCharacter t) w = value p t w
write_argument p (WriteFormat tab) w = value_if p tab w

-- the actuals of a call
abbrev pub given_list : Option (List ActualTree) → List ActualTree
given_list None = []
given_list (Some given) = given

abbrev pub given_in : CallTree → List ActualTree
given_in (Called column callee given) = given_list given

abbrev pub capture_given : Spot → CallTree → Walk → Walk
capture_given p call w = capture_actuals p (actuals_from (given_in call)) w

abbrev pub do_row : Spot → CallTree → State → List Outcome
do_row p (Called column callee given) s = all_placed p.line column (at_call p.scope ByDo callee (given_list given) s)

-- the actuals of a call that is not made are removed
abbrev pub forget_given : CallTree → Walk → Walk
forget_given call w = forget (length (given_in call)) w

-- DO with a label: the actuals, the argument's own postconditional, the call.
abbrev pub do_argument : Spot → DoTree → Walk → Walk
do_argument p (DoCall call condition) w =
    conditioned p condition (each (do_row p call)) (forget_given call) (capture_given p call w)

-- JOB: the actuals, then 713 unless the entry is declared
abbrev pub job_row : Spot → CallTree → State → List Outcome
job_row p (Called column callee given) s = placed p.line column (at_job p.scope callee (given_list given) s)

abbrev pub job_argument : Spot → CallTree → Walk → Walk
job_argument p call w = each (job_row p call) (capture_given p call w)

-- IF: `$TEST` is the truth of the argument; a false one skips the rest of the line
abbrev pub if_outcomes : Option Bool → State → List Outcome
if_outcomes None s = Goes (tested One s) ∷ Skips (tested Zero s).case ∷ []
if_outcomes (Some true) s = Goes (tested One s) ∷ []
if_outcomes (Some false) s = Skips (tested Zero s).case ∷ []

abbrev pub if_argument : Spot → Tree → Walk → Walk
if_argument p t w = each (λ s. if_outcomes (truth_in p.scope t s) s) (value p t w)
