-- What the theorem on one job requires of certificates; each one meets it. This project's own choice.
use Rattle.std.specs.Prelude.{List, Contains, map}
use Rattle.mlk_cert_parts.specs.declared.block.EntryCert.{EntryCert}
use Rattle.mlk_cert_parts.specs.declared.block.Point.{Point}
use Rattle.mlk_walk_state.specs.States.{at_rest}
use Rattle.mlk_walk_laws.specs.Fewer.{StatesDiffer}

-- no case is listed twice at one point
abbrev pub ListOnce : List EntryCert → Type 0
ListOnce blocks = (b : EntryCert) → Contains blocks b → (p : Point) → Contains b.points p → StatesDiffer (map at_rest p.cases)
