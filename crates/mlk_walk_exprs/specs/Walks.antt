-- The outcomes of states, and the walk of a line. This project's own choice.
use Rattle.std.specs.Prelude.{ℕ, Bool, true, false, ◌||◌, nat_lt, if◌then◌else◌, List, []}
use Rattle.std.specs.Prelude.{◌∷◌, ◌++◌, length, map, flat_map, fold, Result, Ok, Err}
use Rattle.std.specs.List.{list_any}
use Rattle.mlk_text.specs.declared.code.Code.{Code}
use Rattle.mlk_text.specs.declared.code.Code.TheVariants.{TooManyCases}
use Rattle.mlk_cert_parts.specs.declared.case.Case.{Case}
use Rattle.mlk_walk_state.specs.declared.state.State.{State}
use Rattle.mlk_walk_state.specs.States.{same_state, at_rest}
use Rattle.mlk_walk_exprs.specs.declared.walk.Walk.{Walk}

-- A state goes, that is, stays live; skips the rest of its line or round; quits at a column; or is refused at a place. A state
-- without outcomes has ended: it continues where the certificate has a case for it.
pub data Outcome : Type 0 where
  Goes : (s : State) → Outcome
  Skips : (c : Case) → Outcome
  Quits : (column : ℕ) → (c : Case) → Outcome
  Refused : (line column : ℕ) → (code : Code) → Outcome

-- adds a state, unless it is there
abbrev pub put_state : State → List State → List State
put_state s ss = if list_any (same_state s) ss then ss else ss ++ s ∷ []

-- adds each of these states, unless it is there
abbrev pub put_states : List State → List State → List State
put_states new ss = fold (λ found s. put_state s found) ss new

abbrev pub with_fault : ℕ → ℕ → Code → Walk → Walk
with_fault line column code w = record w { faults = w.faults ++ record { line = line; column = column; code = code } ∷ [] }

-- The intermediate result of a walk: the live states, each once; the cases that skipped and that quit; the faults; and
-- whether the walk of the line is over, because it had more states than allowed.
abbrev pub add : Outcome → Walk → Walk
add (Goes s) w = record w { going = put_state s w.going }
add (Skips c) w = record w { skips = w.skips ++ c ∷ [] }
add (Quits column c) w = record w { quits = w.quits ++ record { column = column; case = c } ∷ [] }
add (Refused line column code) w = with_fault line column code w

abbrev pub add_all : List Outcome → Walk → Walk
add_all os w = fold (λ found o. add o found) w os

-- with these states as the live ones
abbrev pub with_states : List State → Walk → Walk
with_states ss w = record w { going = ss }

-- applies a transfer function to each live state
abbrev pub each : (State → List Outcome) → Walk → Walk
each row w = add_all (flat_map row w.going) (with_states [] w)

-- changes each live state, and removes duplicates
abbrev pub each_changed : (State → State) → Walk → Walk
each_changed change w = with_states (put_states (map change w.going) []) w

-- the walk of a line or of a round at its begin, from the cases that are listed there
abbrev pub begin : List Case → Walk
begin cases = record { going = map at_rest cases; skips = []; quits = []; faults = []; over = false }

-- At most 16 states, each with at most 16 held terms and 64 items of own names: otherwise the walk of the line is over, at the
-- column of the command's word. Those that skipped or quit are not counted, nor those that wait in another branch.
abbrev pub is_large : State → Bool
is_large s = nat_lt 16 (length s.case.held) || nat_lt 64 (length s.case.own)

unfoldable pub too_many : List State → Bool
too_many ss = nat_lt 16 (length ss) || list_any is_large ss

abbrev pub overfull : ℕ → ℕ → Walk → Walk
overfull line word w = with_fault line word TooManyCases (record w { going = []; over = true })

unfoldable pub few : ℕ → ℕ → Walk → Walk
few line word w = if too_many w.going then overfull line word w else w

-- adds states to the live ones, unless the walk of the line is over
abbrev pub joined : List State → Walk → Walk
joined ss w = if w.over then w else with_states (put_states w.going ss) w

-- Two branches, one after the other: the states of the one wait while the other is walked. If the first has too many states, the
-- walk of the line is over and the other is not walked.
abbrev pub both_ways : (Walk → Walk) → List State → (Walk → Walk) → List State → Walk → Walk
both_ways one these other those w = first (one (with_states these w))
  where
    first : Walk → Walk
    first found = if found.over then found else joined found.going (other (with_states those found))

-- several lists of waiting states; those that waited longest come first
abbrev pub joins : List (List State) → Walk → Walk
joins [] w = w
joins (states ∷ waiting) w = joined states (joins waiting w)

-- the outcomes of a transfer function for one state, at a place
abbrev pub placed : ℕ → ℕ → Result State Code → List Outcome
placed line column (Ok s) = Goes s ∷ []
placed line column (Err code) = Refused line column code ∷ []

abbrev pub all_placed : ℕ → ℕ → Result (List State) Code → List Outcome
all_placed line column (Ok states) = map Goes states
all_placed line column (Err code) = Refused line column code ∷ []
