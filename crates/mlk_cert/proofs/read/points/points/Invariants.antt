use Rattle.std.proofs.Common.{◌≡◌, ◌<◌, ℕ, List, [], suc, length, codes, true}
use Rattle.std.specs.Prelude.{option_map}
use Rattle.mlk_text.specs.Reading.{many, put}
use Rattle.mlk_cert_parts.specs.Checks.{fit_points}
use Rattle.mlk_cert_lexemes.specs.Reading.{word_at}
use Rattle.mlk_cert.specs.Blocks.{Listed, rest_at, listed_case_at, fits_listed, grouped, last_case_text}
use Rattle.mlk_cert.proofs.read.points.points.Given as goal

abbrev pub invariant-loop-after : goal.invariant-loop-after
invariant-loop-after l = record {
  reading : (n : ℕ) × (ls : List Listed) × (length l.rest < n) × (l.found.items ≡ grouped [] ls)
      × (put ls (many (word_at (codes "at ")) (λ w. rest_at listed_case_at fits_listed) n l.rest) ≡ put [] (many (word_at (codes "at ")) (λ w. rest_at listed_case_at fits_listed) (suc (length l.bytes)) l.bytes));
  fits : fit_points l.found.items ≡ true;
  last : option_map (λ x. x.now) l.last ≡ last_case_text l.found.items;
}

abbrev pub decreases-loop-after : goal.decreases-loop-after
decreases-loop-after l = length l.rest
