use Rattle.std.proofs.Common.{◌≡◌, ◌<◌, ℕ, [], suc, length, codes, true}
use Rattle.std.specs.Prelude.{option_map}
use Rattle.mlk_text.specs.Reading.{many, put}
use Rattle.mlk_cert_lexemes.specs.Lists.{last_of}
use Rattle.mlk_cert_parts.specs.Texts.{exit_text}
use Rattle.mlk_cert_parts.specs.Checks.{fits_exit, fit_exits}
use Rattle.mlk_cert_lexemes.specs.Reading.{word_at}
use Rattle.mlk_cert_parts.specs.Reading.{exit_at}
use Rattle.mlk_cert.specs.Blocks.{rest_at}
use Rattle.mlk_cert.proofs.read.line.exits.Given as goal

abbrev pub invariant-loop-after : goal.invariant-loop-after
invariant-loop-after l = record {
  reading : (n : ℕ) × (length l.rest < n) × (put l.found.items (many (word_at (codes "exit ")) (λ w. rest_at exit_at fits_exit) n l.rest) ≡ put [] (many (word_at (codes "exit ")) (λ w. rest_at exit_at fits_exit) (suc (length l.bytes)) l.bytes));
  fits : fit_exits l.found.items ≡ true;
  last : option_map (λ x. x.now) l.last ≡ option_map exit_text (last_of l.found.items);
}

abbrev pub decreases-loop-after : goal.decreases-loop-after
decreases-loop-after l = length l.rest
