-- The last points of a list. For private clauses only. This project's own.
use Rattle.std.specs.Prelude.{◌≡◌, ◌-◌, List, length, drop}
use Rattle.mlk_cert_parts.specs.declared.block.Point.{Point}

abbrev pub IsEnd : List Point → List Point → Type 0
IsEnd points ahead = drop (length points - length ahead) points ≡ ahead
