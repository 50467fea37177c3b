-- FOR, and the commands of a line. Standard: FOR, forparameter; that its rounds are walked once, from the cases that the
-- certificate lists for them, is this project's own choice.
use Rattle.std.specs.Prelude.{ℕ, true, if◌then◌else◌, List, [], ◌∷◌, ◌++◌, map, fold, Option, Some, None}
use Rattle.mlk_text.specs.declared.code.Code.TheVariants.{CaseNotListed}
use Rattle.mlk_syntax.specs.Trees.{CommandTree, Does, CommandTrees, finished, then_command, then_for}
use Rattle.mlk_syntax.specs.Trees.{ParameterTree, Once, Endless, Limited, ControlTree, Runs}
use Rattle.mlk_cert_parts.specs.declared.case.Case.{Case}
use Rattle.mlk_cert_parts.specs.declared.names.NameSet.{NameSet}
use Rattle.mlk_cert_parts.specs.declared.names.NameSet.TheVariants.{Only}
use Rattle.mlk_walk_state.specs.Cases.{is_listed}
use Rattle.mlk_walk_state.specs.Scope.{listed}
use Rattle.mlk_walk_state.specs.declared.state.State.{State}
use Rattle.mlk_walk_state.specs.States.{at_rest}
use Rattle.mlk_walk_exprs.specs.declared.walk.Walk.{Walk}
use Rattle.mlk_walk_exprs.specs.declared.walk.Fault.{Fault}
use Rattle.mlk_walk_exprs.specs.declared.walk.Quit.{Quit}
use Rattle.mlk_walk_exprs.specs.Walks.{Outcome, Goes, Refused, each, few, put_states, joined, with_states, begin}
use Rattle.mlk_walk_exprs.specs.Spots.{Spot}
use Rattle.mlk_walk_exprs.specs.Expressions.{value}
use Rattle.mlk_walk_commands.specs.Variables.{change_at}
use Rattle.mlk_walk_lines.specs.declared.rounds.Rounds.{Rounds as GivenRounds}
use Rattle.mlk_walk_lines.specs.Commands.{command}

-- A FOR, whose word is at the spot's column. Its variable with the column of its name, the cases that are listed for its rounds,
-- and the states in which a round ended, at its end or at a skip.
pub record Rounds : Type 0 where
  pub column : ℕ
  pub variable : NameSet
  pub cases : List Case
  pub ended : List State

-- the rounds of the code's value
abbrev pub rounds_of : GivenRounds → Rounds
rounds_of r = record { column = r.column; variable = r.variable.now; cases = r.cases.now; ended = r.ended.now }

-- A round begins in a case that is listed for it, otherwise 710 at FOR's word. The rounds are walked separately.
abbrev pub begin_round : Spot → List Case → State → List Outcome
begin_round p cases s = if is_listed cases s.case then [] else Refused p.line p.word CaseNotListed ∷ []

-- a case that begins a round, and may also continue after the loop
abbrev pub round_or_after : Spot → List Case → State → List Outcome
round_or_after p cases s = if is_listed cases s.case then Goes s ∷ [] else Refused p.line p.word CaseNotListed ∷ []

-- the states in which a round ended, unless the walk of the line is over
abbrev pub after_round : List State → Walk → Walk
after_round ended w = if w.over then w else with_states ended w

abbrev pub step_variable : Spot → Rounds → Walk → Walk
step_variable p r w = each (change_at p r.column r.variable) w

-- after each round of a stepping loop: the variable changes, and another round begins
abbrev pub step_again : Spot → Rounds → Walk → Walk
step_again p r w = each (begin_round p r.cases) (step_variable p r (after_round r.ended w))

-- One parameter, from the states that reach it. After a value come the cases in which its round ended; after a start with a limit
-- those too, and those in which no round began; a loop without a limit ends only by QUIT.
abbrev pub limited : Spot → Rounds → Walk → Walk
limited p r w = joined w.going (after_round r.ended (step_again p r w))

abbrev pub parameter : Spot → Rounds → Walk → ParameterTree → Walk
parameter p r w (Once t) = after_round r.ended (each (begin_round p r.cases) (step_variable p r (value p t w)))
parameter p r w (Endless start step) =
    step_again p r (each (begin_round p r.cases) (step_variable p r (value p step (value p start w))))
parameter p r w (Limited start step limit) = limited p r
    (each (round_or_after p r.cases) (step_variable p r (value p limit (value p step (value p start w)))))

abbrev pub parameters : Spot → Rounds → List ParameterTree → Walk → Walk
parameters p r qs w = fold (parameter p r) w qs

-- without a parameter each round begins where the loop is reached, and where a round ended
abbrev pub controlled : Spot → Option ControlTree → List Case → List State → Walk → Walk
controlled p None cases ended w =
    each (begin_round p cases) (after_round ended (each (begin_round p cases) w))
controlled p (Some (Runs column name qs)) cases ended w =
    parameters p (record { column = column; variable = Only name; cases = cases; ended = ended }) qs w

abbrev pub and_faults : List Fault → Walk → Walk
and_faults faults w = record w { faults = w.faults ++ faults }

-- The results of the rounds, walked from the cases that are listed for them: those that ended, and those that quit.
abbrev pub ended_in : Walk → List State
ended_in inner = put_states (map at_rest inner.skips) inner.going

abbrev pub quit_in : Walk → List State
quit_in inner = map (λ (q : Quit). at_rest q.case) inner.quits

-- FOR, given the results of its rounds. After it come the last parameter's cases and those that quit: that is the line's end. If
-- the rounds have too many states, the walk of the line is over.
abbrev pub and_states : List State → Walk → Walk
and_states ss w = if w.over then w else with_states (put_states ss w.going) w

abbrev pub over_too : Walk → Walk
over_too w = record w { going = []; over = true }

abbrev pub after_rounds : Spot → Option ControlTree → List Case → Walk → Walk → Walk
after_rounds p control cases inner w =
    if w.over then w
    else if inner.over then over_too (and_faults inner.faults w)
    else few p.line p.word (and_states (quit_in inner) (controlled p control cases (ended_in inner) (and_faults inner.faults w)))

abbrev pub at_word : Spot → ℕ → Spot
at_word p column = record p { word = column }

abbrev pub one_command : Spot → Walk → CommandTree → Walk
one_command p w (Does column condition action) = command (at_word p column) condition action w

-- The commands of a line from here on. The rest of the line after a FOR is run in each round.
abbrev pub commands : Spot → CommandTrees → Walk → Walk
commands p finished w = w
commands p (then_command c rest) w = commands p rest (one_command p w c)
commands p (then_for column index control rest) w =
    after_rounds (at_word p column) control (listed p.scope p.line index)
    (commands p rest (begin (listed p.scope p.line index))) w
