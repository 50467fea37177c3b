use Rattle.std.proofs.Common.{◌≡◌, ◌<◌, ℕ, List, [], suc, length, codes, true, Some}
use Rattle.mlk_text.specs.Reading.{many, put}
use Rattle.mlk_cert_lexemes.specs.Reading.{word_at}
use Rattle.mlk_cert.specs.Blocks.{rest_at}
use Rattle.mlk_cert.specs.Second.{cases_of_points}
use Rattle.mlk_cert.specs.Named.{AddsNumbers}
use Rattle.mlk_cert.specs.Numbered.{NumberedPoint, numbered_point_at, fits_numbered_point, points_by, fit_places}
use Rattle.mlk_cert.proofs.read.numbered.numbered_points.Given as goal

abbrev pub invariant-loop-after : goal.invariant-loop-after
invariant-loop-after l = record {
  reading : (n : ℕ) × (ls : List NumberedPoint) × (length l.rest < n) × (l.found.items ≡ points_by l.cases ls)
      × (put ls (many (word_at (codes "at ")) (λ w. rest_at (numbered_point_at (length l.cases)) fits_numbered_point) n l.rest)
      ≡ put [] (many (word_at (codes "at ")) (λ w. rest_at (numbered_point_at (length l.cases)) fits_numbered_point) (suc (length l.bytes)) l.bytes));
  fits : fit_places l.found.items ≡ true;
  numbers : AddsNumbers (Some l.cases) l.fn.named.items l.named.items (cases_of_points l.found.items);
}

abbrev pub decreases-loop-after : goal.decreases-loop-after
decreases-loop-after l = length l.rest
