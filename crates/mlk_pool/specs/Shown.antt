-- What callers see of a board. This project's own choice.
use Rattle.std.specs.Prelude.{List}
use Rattle.mlk_pool.specs.declared.board.Slot.{Slot}
use Rattle.mlk_pool.specs.declared.board.Event.{Event}

pub record Shown : Type 0 where
  -- what is at each task
  pub slots : List Slot
  -- the claims and posts so far
  pub log : List Event
