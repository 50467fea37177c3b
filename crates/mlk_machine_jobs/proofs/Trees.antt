-- Short ways to write the trees of the worked examples; columns and numbers of lines are left at 0.
use Rattle.std.specs.Prelude.{ℕ, true, false, List, [], ◌∷◌, Option, Some, None, Ok, Err}
use Rattle.mlk_names.specs.declared.reference.Extent.TheVariants as extent
use Rattle.mlk_names.specs.declared.reference.Access.TheVariants.{Writes}
use Rattle.mlk_syntax.specs.declared.expr.Callee.{Callee}
use Rattle.mlk_syntax.specs.ExprTrees.{Tree, LocalName, GlobalName, no_subs, sub, ActualTree, ByRef}
use Rattle.mlk_syntax.specs.Trees.{VariableTree, Named, Called, DoCall, SetTo, SetWhole, ActionTree, Do, Set, CommandTrees}
use Rattle.mlk_syntax.specs.Trees.{Does, finished, then_command, then_for, ControlTree, HeadTree, LineHead, LineTrees, no_lines, line}
use Rattle.mlk_syntax.specs.Trees.{RoutineTree, Named_routine}
use Rattle.mlk_program.specs.declared.entry.EntryId.{EntryId}
use Rattle.mlk_machine_jobs.specs.declared.choice.Choice.{Choice}
use Rattle.mlk_machine_jobs.specs.Tasks.{Job}
use Rattle.mlk_machine_jobs.specs.Choices.{Stepped}
use Rattle.mlk_machine_jobs.specs.Runs.{begun, go}
use Rattle.mlk_machine_jobs.specs.Seen.{State, Ready, Stuck, state, settled}

abbrev pub value_of : List ℕ → Tree
value_of name = LocalName name no_subs

abbrev pub local : List ℕ → VariableTree
local name = Named 0 (value_of name)

abbrev pub global : List ℕ → VariableTree
global name = Named 0 (GlobalName 0 name no_subs)

-- `^A(e)`
abbrev pub global_at : List ℕ → Tree → VariableTree
global_at name t = Named 0 (GlobalName 0 name (sub 0 t no_subs))

abbrev pub set : VariableTree → Tree → ActionTree
set v t = Set (SetTo (SetWhole v ∷ []) t ∷ [])

abbrev pub callee : List ℕ → Callee
callee label = record { label = Some label; routine = None }

abbrev pub do_label : List ℕ → Option (List ActualTree) → ActionTree
do_label label given = Do (DoCall (Called 0 (callee label) given) None ∷ [])

abbrev pub by_reference : List ℕ → ActualTree
by_reference name = ByRef 0 name

-- the commands of a line, and those that a FOR contains
abbrev pub commands : List ActionTree → CommandTrees
commands [] = finished
commands (a ∷ actions) = then_command (Does 0 None a) (commands actions)

abbrev pub for_each : Option ControlTree → List ActionTree → CommandTrees
for_each control actions = then_for 0 1 control (commands actions)

abbrev pub at_label : List ℕ → Option (List (List ℕ)) → CommandTrees → HeadTree
at_label label formals cs = LineHead 0 1 0 (Some label) formals cs

abbrev pub unlabelled : CommandTrees → HeadTree
unlabelled cs = LineHead 0 1 0 None None cs

-- lines, each with its block
abbrev pub lines : List (HeadTree × LineTrees) → LineTrees
lines [] = no_lines
lines (l ∷ ls) = line l.0 l.1 (lines ls)

abbrev pub routine : List (HeadTree × LineTrees) → List RoutineTree
routine ls = Named_routine (82 ∷ []) (lines ls) ∷ []

abbrev pub first_entry : EntryId
first_entry = record { routine = 0; line = 0 }

-- A lone job from the first line on: it runs by itself, makes a choice, and so on.
abbrev pub then_state : (Job → State) → Stepped → State
then_state f (Ok j) = f j
then_state f (Err why) = Stuck

abbrev pub plays : List RoutineTree → List Choice → Job → State
plays routines [] j = state routines (settled routines 100 j).0
plays routines (c ∷ choices) j =
    then_state (plays routines choices) (go routines (λ n. true) c (settled routines 100 j).0)

abbrev pub played : List RoutineTree → List Choice → State
played routines choices = then_state (plays routines choices) (begun routines first_entry 1 false [])

-- ready to write a node of `^A`
abbrev pub writes_at : List (List ℕ) → State
writes_at subs = Ready (record {
  region = record { node = record { root = 65 ∷ []; subs = subs }; extent = extent.Node };
  access = Writes;
})
