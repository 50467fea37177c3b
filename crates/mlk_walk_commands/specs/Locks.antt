-- LOCK. Standard: LOCK; the order of its parts, and the checks of names and ranks, are this project's own choice: the names are
-- evaluated, their subscripts are checked, the timeout is evaluated, without a sign all locks are released, and then all names
-- are claimed at once.
use Rattle.std.specs.Prelude.{ℕ, ◌+◌, zero, suc, Bool, true, false, if◌then◌else◌, List, [], ◌∷◌, take}
use Rattle.std.specs.Prelude.{drop, fold, Option, Some, None, option_map, option_and_then, Result, Ok, Err}
use Rattle.mlk_text.specs.declared.code.Code.{Code}
use Rattle.mlk_text.specs.declared.code.Code.TheVariants.{SharedName, UnknownSubscript}
use Rattle.mlk_text.specs.declared.root.Root.{Root}
use Rattle.mlk_text.specs.declared.root.Root.TheVariants as root
use Rattle.mlk_syntax.specs.ExprTrees.{Tree, LocalName, GlobalName, Subs, no_subs, sub}
use Rattle.mlk_syntax.specs.declared.command.Sign.{Sign}
use Rattle.mlk_syntax.specs.declared.command.Sign.TheVariants as sign
use Rattle.mlk_syntax.specs.Trees.{VariableTree, LockTree, LockNames}
use Rattle.mlk_names.specs.declared.symbol.Sym.{Sym}
use Rattle.mlk_names.specs.declared.symbol.Sym.TheVariants.{Const, Local, Job, Unknown}
use Rattle.mlk_names.specs.declared.term.LockTerm.{LockTerm}
use Rattle.mlk_cert_parts.specs.declared.case.Test.TheVariants.{Zero, One}
use Rattle.mlk_walk_state.specs.declared.state.State.{State}
use Rattle.mlk_walk_state.specs.Terms.{all_known}
use Rattle.mlk_walk_state.specs.States.{last_captured, without_last, tested}
use Rattle.mlk_calls.specs.Claims.{claim_refused, held_too, release_all, release_one}
use Rattle.mlk_walk_exprs.specs.declared.walk.Walk.{Walk}
use Rattle.mlk_walk_exprs.specs.Walks.{Outcome, Goes, Refused, each, few, placed}
use Rattle.mlk_walk_exprs.specs.Spots.{Spot}
use Rattle.mlk_walk_exprs.specs.Expressions.{value_if}
use Rattle.mlk_walk_commands.specs.Variables.{subs_of, name_in, column_in, count_in, capture_variable}

-- the root of a lock name; only locals and globals are lock names
abbrev pub root_of : Tree → Root
root_of (GlobalName column name subs) = root.Global name
root_of (LocalName name subs) = root.Local name
root_of _ = root.Local []

-- the names are evaluated in order
abbrev pub capture_names : Spot → List VariableTree → Walk → Walk
capture_names p names w = fold (λ found v. capture_variable p v found) w names

abbrev pub count_from : ℕ → List VariableTree → ℕ
count_from n names = fold (λ m v. m + count_in v) n names

abbrev pub count_names : List VariableTree → ℕ
count_names names = count_from 0 names

-- The fault of a subscript: 714 for a shared local without subscripts, 715 for any other unknown one.
abbrev pub unknown_code : (List ℕ → Bool) → Tree → Code
unknown_code shared (LocalName name no_subs) = if shared name then SharedName else UnknownSubscript
unknown_code shared _ = UnknownSubscript

abbrev pub subscript_fault : (List ℕ → Bool) → Tree → Sym → Option Code
subscript_fault shared t (Const v) = None
subscript_fault shared t (Local name) = None
subscript_fault shared t Job = None
subscript_fault shared t Unknown = Some (unknown_code shared t)

-- the first fault, with its column
abbrev pub or_later : ℕ → Option Code → Option (ℕ × Code) → Option (ℕ × Code)
or_later column None later = later
or_later column (Some code) later = Some (column, code)

abbrev pub subs_fault : (List ℕ → Bool) → Subs → List Sym → Option (ℕ × Code)
subs_fault shared no_subs symbols = None
subs_fault shared (sub column t rest) [] = Some (column, UnknownSubscript)
subs_fault shared (sub column t rest) (symbol ∷ symbols) =
    or_later column (subscript_fault shared t symbol) (subs_fault shared rest symbols)

abbrev pub or_next : Option (ℕ × Code) → Option (ℕ × Code) → Option (ℕ × Code)
or_next None later = later
or_next (Some found) later = Some found

abbrev pub names_fault : (List ℕ → Bool) → List VariableTree → List Sym → Option (ℕ × Code)
names_fault shared [] symbols = None
names_fault shared (v ∷ names) symbols =
    or_next (subs_fault shared (subs_of (name_in v)) (take (count_in v) symbols))
    (names_fault shared names (drop (count_in v) symbols))

abbrev pub unless_unknown : ℕ → Option (ℕ × Code) → State → List Outcome
unless_unknown line None s = Goes s ∷ []
unless_unknown line (Some found) s = Refused line found.0 found.1 ∷ []

abbrev pub known_names : Spot → List VariableTree → State → List Outcome
known_names p names s = unless_unknown p.line
    (names_fault (p.scope.is_shared s.case.own) names (last_captured (count_names names) s)) s

-- the terms of names whose subscripts were captured
abbrev pub term_of : Tree → List Sym → Option LockTerm
term_of name symbols = option_map (λ subs. record { root = root_of name; subs = subs }) (all_known symbols)

abbrev pub terms_of : List VariableTree → List Sym → Option (List LockTerm)
terms_of [] symbols = Some []
terms_of (v ∷ names) symbols = option_and_then
    (λ t. option_map (λ ts. t ∷ ts) (terms_of names (drop (count_in v) symbols)))
    (term_of (name_in v) (take (count_in v) symbols))

-- whether a claim has a timeout
abbrev pub is_timed : Option Tree → Bool
is_timed None = false
is_timed (Some timeout) = true

-- the column of the name at an index
abbrev pub column_at : List VariableTree → ℕ → ℕ
column_at [] index = 1
column_at (v ∷ names) zero = column_in v
column_at (v ∷ names) (suc index) = column_at names index

-- `LOCK -`: names one after another
abbrev pub given_back : Spot → ℕ → (State → List Outcome) → Result State Code → List Outcome
given_back p column next (Ok after) = next after
given_back p column next (Err code) = Refused p.line column code ∷ []

abbrev pub give_back : Spot → List VariableTree → List LockTerm → State → List Outcome
give_back p [] terms s = Goes s ∷ []
give_back p (v ∷ names) [] s = Goes s ∷ []
give_back p (v ∷ names) (t ∷ terms) s = given_back p (column_in v) (give_back p names terms) (release_one t s)

-- A claim that is granted adds its terms to the held ones; how it does is a parameter, since it makes no difference how more
-- terms than any state may have are added.
module _ (hold : List LockTerm → State → State) where
  -- a timed claim is granted and `$TEST` is 1, or it is not and `$TEST` is 0
  abbrev pub granted : Bool → List LockTerm → State → List Outcome
  granted false terms s = Goes (hold terms s) ∷ []
  granted true terms s = Goes (tested One (hold terms s)) ∷ Goes (tested Zero s) ∷ []

  -- a claim of terms, each at the column of its name
  abbrev pub claim_outcomes : Spot → Bool → List VariableTree → List LockTerm → State → Option (ℕ × Code) → List Outcome
  claim_outcomes p timed names terms s None = granted timed terms s
  claim_outcomes p timed names terms s (Some refused) = Refused p.line (column_at names refused.0) refused.1 ∷ []

  abbrev pub claim : Spot → Bool → List VariableTree → List LockTerm → State → List Outcome
  claim p timed names terms s = claim_outcomes p timed names terms s (claim_refused p.scope timed s.case.held terms)

  -- the release of all locks, a step of its own, is refused at the word; then the names are claimed
  abbrev pub claim_after : Spot → Bool → List VariableTree → List LockTerm → Result State Code → List Outcome
  claim_after p timed names terms (Ok s) = claim p timed names terms s
  claim_after p timed names terms (Err code) = Refused p.line p.word code ∷ []

  abbrev pub by_sign : Spot → Sign → Bool → List VariableTree → List LockTerm → State → List Outcome
  by_sign p sign.Plus timed names terms s = claim p timed names terms s
  by_sign p sign.None timed names terms s = claim_after p timed names terms (release_all p.scope s)
  by_sign p sign.Minus timed names terms s = give_back p names terms s

  -- 715 if a call in the timeout may have changed a local in a name. Without such a call no subscript is unknown here, since 714 and
  -- 715 were checked before it.
  abbrev pub lock_terms : Spot → Sign → Bool → List VariableTree → State → Option (List LockTerm) → List Outcome
  lock_terms p s timed names state (Some terms) = by_sign p s timed names terms state
  lock_terms p s timed names state None = Refused p.line p.word UnknownSubscript ∷ []

  abbrev pub lock_row : Spot → Sign → Bool → List VariableTree → State → List Outcome
  lock_row p s timed names state = lock_terms p s timed names (without_last (count_names names) state)
      (terms_of names (last_captured (count_names names) state))

-- One argument of LOCK. At its end, before anything else follows, it is checked that there are not too many states.
abbrev pub lock_states : Spot → LockTree → Walk → Walk
lock_states p (LockNames s names timeout) w = each (lock_row held_too p s (is_timed timeout) names)
    (value_if p timeout (each (known_names p names) (capture_names p names w)))

abbrev pub lock_argument : Spot → LockTree → Walk → Walk
lock_argument p l w = few p.line p.word (lock_states p l w)

-- LOCK without arguments
abbrev pub release : Spot → State → List Outcome
release p s = placed p.line p.word (release_all p.scope s)
