-- States without duplicates.
use Rattle.std.proofs.Common.{◌≡◌, false, List, [], ◌∷◌, ◌++◌, refl, ap, ◌∙◌}
use Rattle.std.specs.List.{list_any}
use Rattle.mlk_walk_state.specs.declared.state.State.{State}
use Rattle.mlk_walk_state.specs.States.{same_state}
use Rattle.mlk_walk_exprs.specs.Walks.{put_state, put_states}
use Rattle.mlk_walk_exprs.proofs.Gathering.{one_after}

-- one more, which is not among those before it
pub distinct_after : (before : List State) (last : State) → list_any (same_state last) before ≡ false
    → put_states before [] ≡ before → put_states (before ++ last ∷ []) [] ≡ before ++ last ∷ []
distinct_after before last h once = one_after last before [] ∙ ap (put_state last) once ∙ rw h refl
