use Rattle.std.proofs.Common.{◌≡◌, ◌<◌, ℕ, List, [], suc, length, codes, true}
use Rattle.std.specs.Prelude.{option_map}
use Rattle.mlk_text.specs.Reading.{many, put}
use Rattle.mlk_cert_lexemes.specs.Lists.{last_of}
use Rattle.mlk_cert_parts.specs.Texts.{case_text}
use Rattle.mlk_cert_lexemes.specs.Reading.{word_at}
use Rattle.mlk_cert.specs.Blocks.{rest_at}
use Rattle.mlk_cert.specs.Numbered.{NumberedCase, numbered_case_at, fits_numbered, fit_numbered, cases_in}
use Rattle.mlk_cert.proofs.read.cases.cases.Given as goal

abbrev pub invariant-loop-after : goal.invariant-loop-after
invariant-loop-after l = record {
  reading : (n : ℕ) × (ls : List NumberedCase) × (length l.rest < n) × (l.found.items ≡ cases_in ls) × (fit_numbered ls ≡ true)
      × (put ls (many (word_at (codes "case ")) (λ w. rest_at numbered_case_at fits_numbered) n l.rest) ≡ put [] (many (word_at (codes "case ")) (λ w. rest_at numbered_case_at fits_numbered) (suc (length l.bytes)) l.bytes));
  last : option_map (λ x. x.now) l.last ≡ option_map case_text (last_of l.found.items);
}

abbrev pub decreases-loop-after : goal.decreases-loop-after
decreases-loop-after l = length l.rest
