-- How the reader of traps takes a text apart. For private clauses only. This project's own.
use Rattle.std.specs.Prelude.{ℕ, ◌==◌, ◌||◌, not, is_some, if◌then◌else◌, List, take, drop, Option, Some, None, Bool, false, codes}
use Rattle.std.specs.List.{prefix_len}
use Rattle.mlk_dialect.specs.declared.dialect.Dialect.{Dialect}
use Rattle.mlk_dialect.specs.declared.dialect.Dialect.TheVariants as dialect
use Rattle.mlk_text.specs.Lexemes.{byte_at, word_at}
use Rattle.mlk_text.specs.Reading.{◌>>=◌}
use Rattle.mlk_expr_tokens.specs.Words.{is_either}
use Rattle.mlk_syntax.specs.Trees.{ActionTree, CallTree}
use Rattle.mlk_routine_arguments.specs.Traps.{is_trap, is_unquoted, IsRestart, IsHandler}

-- what follows the name of a trap and `=`
abbrev pub named_value : List ℕ × List ℕ → Option (ℕ × List ℕ)
named_value word = if is_trap word.0 then byte_at 61 word.1 else None

-- what follows the `=` of a SET whose first target is a trap, from the space before its arguments on
unfoldable pub trap_value : List ℕ → Option (ℕ × List ℕ)
trap_value s = byte_at 32 s >>= λ space. byte_at 36 space.1 >>= λ dollar. named_value (word_at dollar.1)

-- whether the only argument of a SET may be a trap
abbrev pub sets_trap : Dialect → List ℕ → Bool
sets_trap dialect.Standard s = false
sets_trap dialect.Extended s = is_some (trap_value s)

-- a text in quotes without quotes inside, and what follows it
abbrev pub closed : List ℕ → Option (ℕ × List ℕ) → Option (List ℕ × List ℕ)
closed text None = None
closed text (Some quote) = Some (text, quote.1)

abbrev pub unquoted : List ℕ → ℕ
unquoted = prefix_len is_unquoted

unfoldable pub quoted_code : List ℕ → Option (List ℕ × List ℕ)
quoted_code s = byte_at 34 s >>= λ quote. closed (take (unquoted quote.1) quote.1) (byte_at 34 (drop (unquoted quote.1) quote.1))

unfoldable pub trap_code : List ℕ → Option (List ℕ × List ℕ)
trap_code s = trap_value s >>= λ value. quoted_code value.1

-- what follows a word and a space, and a command without arguments and two spaces
unfoldable pub past_word : (List ℕ → Bool) → List ℕ → Option (ℕ × List ℕ)
past_word is_word s = if is_word (word_at s).0 then byte_at 32 (word_at s).1 else None

unfoldable pub past_command : (List ℕ → Bool) → List ℕ → Option (ℕ × List ℕ)
past_command is_word s = past_word is_word s >>= λ space. byte_at 32 space.1

-- what follows `L  N  D `
unfoldable pub past_clearing : List ℕ → Option (ℕ × List ℕ)
past_clearing s = past_command (is_either (codes "L") (codes "LOCK")) s
    >>= λ locked. past_command (is_either (codes "N") (codes "NEW")) locked.1
    >>= λ cleared. past_word (is_either (codes "D") (codes "DO")) cleared.1

-- whether this is a space and HALT
abbrev pub halts_by : Option (ℕ × List ℕ) → Bool
halts_by None = false
halts_by (Some space) = is_either (codes "H") (codes "HALT") space.1

unfoldable pub halts_here : List ℕ → Bool
halts_here s = halts_by (byte_at 32 s)

-- a byte of an argument that is no stop
abbrev pub is_argument_byte : ℕ → Bool
is_argument_byte b = not ((b == 32) || (b == 44) || (b == 41) || (b == 59))

-- what was read of a text, or that there is nothing
abbrev pub IsRestartIn : ℕ → List ℕ → Option CallTree → Type 0
IsRestartIn at s (Some call) = IsRestart at call s
IsRestartIn at s None = (call : CallTree) → IsRestart at call s → ⊥

abbrev pub IsHandlerIn : ℕ → List ℕ → Option ActionTree → Type 0
IsHandlerIn at s (Some action) = IsHandler at action s
IsHandlerIn at s None = (action : ActionTree) → IsHandler at action s → ⊥
