-- Variables in arguments of commands, and changes of locals. Standard: SET, KILL, READ (a variable's subscripts are evaluated
-- before the command acts on it).
use Rattle.std.specs.Prelude.{ℕ, List, [], ◌∷◌}
use Rattle.mlk_syntax.specs.ExprTrees.{Tree, LocalName, GlobalName, Subs, no_subs, sub, count_subs}
use Rattle.mlk_syntax.specs.Trees.{VariableTree, Named}
use Rattle.mlk_cert_parts.specs.declared.names.NameSet.{NameSet}
use Rattle.mlk_cert_parts.specs.declared.names.NameSet.TheVariants.{Only}
use Rattle.mlk_walk_state.specs.declared.state.State.{State}
use Rattle.mlk_calls.specs.Changes.{change}
use Rattle.mlk_walk_exprs.specs.declared.walk.Walk.{Walk}
use Rattle.mlk_walk_exprs.specs.Walks.{Outcome, Goes, placed}
use Rattle.mlk_walk_exprs.specs.Spots.{Spot}
use Rattle.mlk_walk_exprs.specs.Expressions.{capture_subs}

-- a variable's name with its subscripts, and its column; only locals and globals are variables
abbrev pub subs_of : Tree → Subs
subs_of (GlobalName column name subs) = subs
subs_of (LocalName name subs) = subs
subs_of _ = no_subs

abbrev pub name_in : VariableTree → Tree
name_in (Named column name) = name

abbrev pub column_in : VariableTree → ℕ
column_in (Named column name) = column

abbrev pub count_in : VariableTree → ℕ
count_in v = count_subs (subs_of (name_in v))

-- the subscripts of a variable are evaluated
abbrev pub capture_variable : Spot → VariableTree → Walk → Walk
capture_variable p v w = capture_subs p (subs_of (name_in v)) w

-- a change of names, at a column
abbrev pub change_at : Spot → ℕ → NameSet → State → List Outcome
change_at p column names s = placed p.line column (change p.scope (names ∷ []) s)

-- a change of a local without subscripts, at its column; with subscripts it changes nothing that is known
abbrev pub change_local : Spot → ℕ → List ℕ → Subs → State → List Outcome
change_local p column name no_subs s = change_at p column (Only name) s
change_local p column name (sub c t rest) s = Goes s ∷ []
