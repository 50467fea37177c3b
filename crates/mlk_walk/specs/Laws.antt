-- Verdicts: the faults of an entry as a set, each once, in order.
use Rattle.std.specs.Prelude.{◌≡◌, ◌↔◌, ◌⊎◌, List, [], ◌∷◌}
use Rattle.std.specs.declared.cmp.Ordering.TheVariants.{Less}
use Rattle.mlk_names.specs.Lists.{Among}
use Rattle.mlk_walk_exprs.specs.declared.walk.Fault.{Fault}
use Rattle.mlk_walk.specs.Faults.{fault_cmp, ascending}

-- each is below the next, so there are no duplicates
abbrev pub IsAscending : List Fault → Type 0
IsAscending [] = Unit {0}
IsAscending (f ∷ []) = Unit {0}
IsAscending (f ∷ g ∷ faults) = (fault_cmp f g ≡ Less) × IsAscending (g ∷ faults)

abbrev pub FaultsInOrder : Type 0
FaultsInOrder = (faults : List Fault)
    → IsAscending (ascending faults) × ((f : Fault) → Among f (ascending faults) ↔ Among f faults)
