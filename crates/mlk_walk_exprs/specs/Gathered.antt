-- Lists of states that are joined in one step. For private clauses only. This project's own.
use Rattle.std.specs.Prelude.{List, [], ◌∷◌, fold}
use Rattle.mlk_walk_state.specs.declared.state.State.{State}
use Rattle.mlk_walk_exprs.specs.Walks.{put_states}

-- the states of each list after those of the lists before it, each once
abbrev pub in_turn : List State → List (List State) → List State
in_turn first others = fold (λ all ss. put_states ss all) first others

-- the waiting lists, and then the live states
abbrev pub gathered : List (List State) → List State → List State
gathered [] going = going
gathered (first ∷ others) going = put_states going (in_turn first others)
