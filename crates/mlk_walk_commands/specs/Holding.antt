-- How the code adds claimed terms, for clauses of private functions only: if there are more terms than any state may have, they
-- are not put in order.
use Rattle.std.specs.Prelude.{nat_lt, if◌then◌else◌, List, ◌++◌, length}
use Rattle.mlk_names.specs.declared.term.LockTerm.{LockTerm}
use Rattle.mlk_walk_state.specs.declared.state.State.{State}
use Rattle.mlk_walk_state.specs.States.{holding}
use Rattle.mlk_calls.specs.Claims.{held_too}

abbrev pub held_quickly : List LockTerm → State → State
held_quickly terms s = if nat_lt 16 (length terms) then holding (terms ++ s.case.held) s else held_too terms s
