-- Runs of bytes of one kind, and what may follow them.
use Rattle.std.proofs.Common.{◌≡◌, ℕ, ◌++◌, List, [], ◌∷◌, length, Bool, true, false, refl, arith}
use Rattle.std.specs.Prelude.{◌==◌, ◌||◌, not}
use Rattle.std.proofs.lemmas.Bool.Decides.{nat_tests}
use Rattle.mlk_text.specs.Lexemes.{is_digit, is_letter, is_name_byte, digits, are_digits}
use Rattle.mlk_text.proofs.Runs.{stops, run-length, run-is}

-- a whole run of digits is counted
pub digits-length : (ds ys : List ℕ) → are_digits ds ≡ true → stops is_digit ys ≡ true → digits (ds ++ ys) ≡ length ds
digits-length ds ys all stop = run-length is_digit ds ys all stop

-- a text is a longest run of digits, and what is after it
abbrev pub Digits : List ℕ → Type 0
Digits xs = (front rest : List ℕ) × (xs ≡ front ++ rest) × (are_digits front ≡ true) × (stops is_digit rest ≡ true)

-- each text is such a run and the rest
pub digits-are : (xs : List ℕ) → Digits xs
digits-are xs = let (front, rest, is, all, stop, size) = run-is is_digit xs in (front, rest, is, all, stop)

-- no name continues here
abbrev pub after_name : List ℕ → Bool
after_name = stops is_name_byte

-- no digit and no point is here
abbrev pub after_count : List ℕ → Bool
after_count = stops (λ b. is_digit b || (b == 46))

-- no letter is here
abbrev pub after_word : List ℕ → Bool
after_word = stops is_letter

-- nothing is here that could continue an operand or a pattern
abbrev pub tame : List ℕ → Bool
tame [] = true
tame (b ∷ xs) = not (is_name_byte b || (b == 46) || (b == 34) || (b == 40) || (b == 94))

-- a byte is here that makes no operator longer
abbrev pub starts : List ℕ → Bool
starts [] = false
starts (b ∷ xs) = not ((b == 42) || (b == 93))

-- tame text ends names
pub tame-name : (ys : List ℕ) → tame ys ≡ true → after_name ys ≡ true
tame-name [] h = refl
tame-name (b ∷ ys) h = grind (arith, nat_tests)

-- tame text ends counts
pub tame-count : (ys : List ℕ) → tame ys ≡ true → after_count ys ≡ true
tame-count [] h = refl
tame-count (b ∷ ys) h = grind (arith, nat_tests)

-- what ends names ends words
pub name-word : (ys : List ℕ) → after_name ys ≡ true → after_word ys ≡ true
name-word [] h = refl
name-word (b ∷ ys) h = grind (arith, nat_tests)

-- digits end where counts end
pub count-digits : (ys : List ℕ) → after_count ys ≡ true → stops is_digit ys ≡ true
count-digits [] h = refl
count-digits (b ∷ ys) h = grind (arith, nat_tests)
