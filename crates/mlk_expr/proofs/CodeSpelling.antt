-- Pattern codes: what is spelled is read to its end, and what is read is spelled there.
use Rattle.std.proofs.Common.{◌≡◌, ℕ, ◌++◌, List, [], ◌∷◌, Some, true, refl, arith, subst, inl, inr}
use Rattle.std.proofs.lemmas.Bool.{cases_Bool, not_from_false}
use Rattle.std.proofs.lemmas.Bool.Decides.{nat_tests}
use Rattle.mlk_text.specs.Lexemes.{is_letter}
use Rattle.mlk_expr_tokens.specs.Lexemes.{is_pattern_code, pattern_codes, pattern_codes_at}
use Rattle.mlk_expr.specs.Spellings.{IsCodes}
use Rattle.mlk_text.proofs.Runs.{stops, run-length, run-is, cut-reads, cut-spelled}
use Rattle.mlk_expr.proofs.Runs.{after_word}

-- each pattern code is a letter
code-letter : (b : ℕ) → is_pattern_code b ≡ true → is_letter b ≡ true
code-letter b h = grind (arith, nat_tests)

-- pattern codes end where words end
word-codes : (ys : List ℕ) → after_word ys ≡ true → stops is_pattern_code ys ≡ true
word-codes [] h = refl
word-codes (b ∷ ys) h = elim (cases_Bool (is_pattern_code b)) [
  | inl e ↦ cc (rw (code-letter b e) at h)
  | inr e ↦ not_from_false (is_pattern_code b) e
]

-- pattern codes are read to their end
pub codes-reads : (c ys : List ℕ) → IsCodes c → after_word ys ≡ true → pattern_codes_at (c ++ ys) ≡ Some (c, ys)
unfolding pattern_codes_at
codes-reads c ys (all, some) stop = cut-reads (pattern_codes (c ++ ys)) c ys (run-length is_pattern_code c ys all (word-codes ys stop)) some

-- the pattern codes that are read are spelled there
pub codes-spelled : (c xs ys : List ℕ) → pattern_codes_at xs ≡ Some (c, ys) → IsCodes c × (xs ≡ c ++ ys)
unfolding pattern_codes_at
codes-spelled c xs ys h =
    let (front, rest, is, all, stop, size) = run-is is_pattern_code xs in
    let r = cut-spelled (pattern_codes xs) front rest c xs ys is size h in
    (subst IsCodes r.0 (all, r.2), r.3)
