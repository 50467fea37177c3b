-- A state of a walk: a case, and the symbols that the running command has captured so far, oldest first: those of subscripts,
-- actuals and lock names that were evaluated and not used yet. This project's own choice.
use Rattle.std.specs.Prelude.{ℕ, Bool, true, false, ◌&&◌, ◌-◌, List, [], ◌∷◌, ◌++◌, length, take, drop, bytes_eq}
use Rattle.mlk_names.specs.declared.symbol.Sym.{Sym}
use Rattle.mlk_names.specs.declared.symbol.Sym.TheVariants.{Const, Local, Job, Unknown}
use Rattle.mlk_names.specs.declared.term.LockTerm.{LockTerm}
use Rattle.mlk_cert_parts.specs.declared.case.Test.{Test}
use Rattle.mlk_cert_parts.specs.declared.case.Case.{Case}
use Rattle.mlk_walk_state.specs.declared.state.State.{State}
use Rattle.mlk_walk_state.specs.Cases.{same_case, pairwise}

abbrev pub same_sym : Sym → Sym → Bool
same_sym (Const a) (Const b) = bytes_eq a b
same_sym (Local a) (Local b) = bytes_eq a b
same_sym Job Job = true
same_sym Unknown Unknown = true
same_sym _ _ = false

unfoldable pub same_state : State → State → Bool
same_state s t = same_case s.case t.case && pairwise same_sym s.captured t.captured

-- the last n captured symbols, the state without them, and with one more
abbrev pub last_captured : ℕ → State → List Sym
last_captured n s = drop (length s.captured - n) s.captured

abbrev pub without_last : ℕ → State → State
without_last n s = record s { captured = take (length s.captured - n) s.captured }

abbrev pub with_symbol : Sym → State → State
with_symbol symbol s = record s { captured = s.captured ++ symbol ∷ [] }

-- the first n captured symbols, and the state without them
abbrev pub first_captured : ℕ → State → List Sym
first_captured n s = take n s.captured

abbrev pub without_first : ℕ → State → State
without_first n s = record s { captured = drop n s.captured }

-- a case before a command, with nothing captured
abbrev pub at_rest : Case → State
at_rest c = record { case = c; captured = [] }

-- the state with other terms held, and with another `$TEST`
abbrev pub holding : List LockTerm → State → State
holding held s = record s { case = record s.case { held = held } }

abbrev pub tested : Test → State → State
tested test s = record s { case = record s.case { test = test } }
