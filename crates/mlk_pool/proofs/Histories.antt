-- A history after one more event.
use Rattle.std.proofs.Common.{◌≡◌, List, [], ◌∷◌, ◌++◌, refl}
use Rattle.mlk_pool.specs.declared.board.Event.{Event}
use Rattle.mlk_pool.specs.Histories.{Stage, MayFollow, IsHistory, stages_after, stages_at_end}

pub history_more : (stages : List Stage) (log : List Event) (e : Event) → IsHistory stages log → MayFollow (stages_at_end stages log) e → IsHistory stages (log ++ e ∷ [])
history_more stages [] e is may = (may, tt)
history_more stages (d ∷ log) e is may = (is.0, history_more (stages_after stages d) log e is.1 may)

pub stages_more : (stages : List Stage) (log : List Event) (e : Event) → stages_at_end stages (log ++ e ∷ []) ≡ stages_after (stages_at_end stages log) e
stages_more stages [] e = refl
stages_more stages (d ∷ log) e = stages_more (stages_after stages d) log e
