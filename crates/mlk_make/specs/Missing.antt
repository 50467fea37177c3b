-- Declared entries that are not in a program. This project's own choice.
use Rattle.std.specs.Prelude.{ℕ, Bool, List, is_none, find, Some, None, ◌≡◌}
use Rattle.mlk_text.specs.declared.failure.Failure.{Failure}
use Rattle.mlk_text.specs.declared.failure.Failure.TheVariants as failure
use Rattle.mlk_syntax.specs.Trees.{RoutineTree}
use Rattle.mlk_program.specs.Entries.{entry_by}
use Rattle.mlk_text.specs.declared.code.Code.TheVariants.{CertLimit}
use Rattle.mlk_make.specs.declared.stop.MakeError.{MakeError}
use Rattle.mlk_make.specs.declared.stop.MakeError.TheVariants as error

-- whether a text names no entry of a program
abbrev pub is_missing : List RoutineTree → List ℕ → Bool
is_missing routines text = is_none (entry_by routines text)

-- the text of what was made is too long, or the maker gave up
abbrev pub IsUnspelled : MakeError → Type 0
IsUnspelled (error.EntryMissing text) = ⊥
IsUnspelled (error.TooLong fault) = (fault.code ≡ CertLimit) × (fault.line ≡ 1)
IsUnspelled (error.GaveUp place) = Unit {0}

-- Why no certificate is made: the first of these entry texts that is not in the program, if there is one; else its text is
-- too long, which is a limit at its first line, or the maker gave up. Out of memory promises nothing.
abbrev pub IsUnmade : List RoutineTree → List (List ℕ) → Failure MakeError → Type 0
IsUnmade routines texts failure.OutOfMemory = Unit {0}
IsUnmade routines texts (failure.Refused (error.EntryMissing text)) = find (is_missing routines) texts ≡ Some text
IsUnmade routines texts (failure.Refused (error.TooLong fault)) =
    (find (is_missing routines) texts ≡ None) × (fault.code ≡ CertLimit) × (fault.line ≡ 1)
IsUnmade routines texts (failure.Refused (error.GaveUp place)) = find (is_missing routines) texts ≡ None
