-- Walks from fewer cases. A walk without faults covers all cases that are listed at a line; a job is in one of them. This
-- project's own.
use Rattle.std.specs.Prelude.{◌≡◌, ◌⊎◌, ℕ, false, List, [], ◌∷◌, map}
use Rattle.mlk_names.specs.Lists.{Among}
use Rattle.mlk_cert_parts.specs.declared.case.Case.{Case}
use Rattle.mlk_syntax.specs.Trees.{CommandTrees}
use Rattle.mlk_walk_state.specs.declared.state.State.{State}
use Rattle.mlk_walk_state.specs.States.{at_rest}
use Rattle.mlk_walk_state.specs.Scope.{Scope, listed}
use Rattle.mlk_walk_exprs.specs.declared.walk.Walk.{Walk}
use Rattle.mlk_walk_exprs.specs.declared.walk.Quit.{Quit}
use Rattle.mlk_walk_exprs.specs.Walks.{begin}
use Rattle.mlk_walk_exprs.specs.Spots.{Spot}
use Rattle.mlk_walk_lines.specs.Loops.{commands}

-- no two states are equal
abbrev pub StatesDiffer : List State → Type 0
StatesDiffer [] = Unit {0}
StatesDiffer (s ∷ ss) = (Among s ss → ⊥) × StatesDiffer ss

-- no fault was found, and the walk of the line is not over
pub record IsClean (w : Walk) : Type 0 where
  pub faultless : w.faults ≡ []
  pub goes_on : w.over ≡ false

-- A walk without faults, with distinct states, whose results are among those of another: live states, cases that skipped,
-- cases that quit.
pub record IsPart (v w : Walk) : Type 0 where
  pub clean : IsClean v
  pub going : (s : State) → Among s v.going → Among s w.going
  pub skips : (c : Case) → Among c v.skips → Among c w.skips
  pub quits : (q : Quit) → Among q v.quits → Among q w.quits
  pub distinct : StatesDiffer v.going

-- no case is listed twice at one place, as in each certificate
abbrev pub ListsEachOnce : Scope → Type 0
ListsEachOnce sc = (number round : ℕ) → StatesDiffer (map at_rest (listed sc number round))

-- If the walk of commands from some states finds no fault, the walk from fewer of them finds none, and its results are among
-- those of the first.
abbrev pub FewerCases : Type 0
FewerCases =
    (p : Spot) (cs : CommandTrees) → ListsEachOnce p.scope
    → (v w : Walk) → IsPart v w → IsClean (commands p cs w) → IsPart (commands p cs v) (commands p cs w)

-- So does the walk from each of them by itself.
abbrev pub EachAlone : Type 0
EachAlone =
    (p : Spot) (cs : CommandTrees) → ListsEachOnce p.scope
    → (cases : List Case) (c : Case) → Among c cases → IsClean (commands p cs (begin cases))
    → IsPart (commands p cs (begin (c ∷ []))) (commands p cs (begin cases))
