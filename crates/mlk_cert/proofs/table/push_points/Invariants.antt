use Rattle.std.proofs.Common.{◌≡◌, ◌++◌, drop}
use Rattle.mlk_cert_lexemes.specs.Lists.{flat}
use Rattle.mlk_cert.specs.Named.{texts_in}
use Rattle.mlk_cert.specs.Second.{point_line}
use Rattle.mlk_cert.proofs.table.push_points.Given as goal

abbrev pub invariant-loop-point : goal.invariant-loop-point
invariant-loop-point l = l.text ++ flat (point_line (texts_in l.texts.keys)) (drop l.point-index l.points) ≡ l.fn.text ++ flat (point_line (texts_in l.texts.keys)) l.points
