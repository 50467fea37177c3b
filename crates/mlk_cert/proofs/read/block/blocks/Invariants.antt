use Rattle.std.proofs.Common.{◌≡◌, ◌<◌, ℕ, [], suc, length, codes, true, map}
use Rattle.mlk_text.specs.Reading.{many, put}
use Rattle.mlk_cert_parts.specs.Checks.{fit_blocks, entries}
use Rattle.mlk_cert_lexemes.specs.Reading.{word_at}
use Rattle.mlk_cert.specs.Blocks.{block_at}
use Rattle.mlk_cert.specs.Second.{cases_of_blocks}
use Rattle.mlk_cert.specs.Numbered.{listed_points_at}
use Rattle.mlk_cert.specs.Named.{AddsNumbers}
use Rattle.std.specs.Prelude.{option_map}
use Rattle.mlk_cert.proofs.read.block.blocks.Given as goal

abbrev pub invariant-loop-after : goal.invariant-loop-after
invariant-loop-after l = record {
  reading : (n : ℕ) × (length l.rest < n) × (put l.found.items (many (word_at (codes "entry ")) (λ w. block_at (listed_points_at (option_map (λ x. x.now) l.fn.cases))) n l.rest) ≡ put [] (many (word_at (codes "entry ")) (λ w. block_at (listed_points_at (option_map (λ x. x.now) l.fn.cases))) (suc (length l.bytes)) l.bytes));
  fits : fit_blocks l.found.items ≡ true;
  numbers : AddsNumbers (option_map (λ x. x.now) l.fn.cases) l.fn.named.items l.named.items (cases_of_blocks l.found.items);
  keys : map (λ k. k.items) l.seen.keys ≡ entries l.found.items;
}

abbrev pub decreases-loop-after : goal.decreases-loop-after
decreases-loop-after l = length l.rest
