-- The faults of a line. This project's own.
use Rattle.std.specs.Prelude.{ℕ, suc, ◌≡◌, ◌≤◌, ◌==◌, ◌&&◌, ◌||◌, nat_le, is_some, Bool, true, Option, List, [], length}
use Rattle.mlk_text.specs.Codes.{number_of}
use Rattle.mlk_text.specs.Places.{column_at}
use Rattle.mlk_text.specs.declared.code.Code.{Code}
use Rattle.mlk_text.specs.declared.failure.Failure.{Failure}
use Rattle.mlk_text.specs.declared.failure.Failure.TheVariants.{OutOfMemory, Refused}
use Rattle.mlk_text.specs.declared.fault.Fault.{Fault}
use Rattle.mlk_text.specs.declared.fault.LeftOut.{LeftOut}

-- the given code and part that is not read, in the column of the given byte of the first line of a routine without a name
pub record IsPlacedFault (code : Code) (left_out : Option LeftOut) (at : ℕ) (fault : Fault) : Type 0 where
  pub coded : fault.code ≡ code
  pub worded : fault.left_out ≡ left_out
  pub unnamed : fault.place.routine ≡ []
  pub on_line : fault.place.line ≡ 1
  pub placed : fault.place.column ≡ column_at (suc at)

-- a refusal, not out of memory
abbrev pub RefusesAt : Code → Option LeftOut → ℕ → Failure Fault → Type 0
RefusesAt code left_out at OutOfMemory = ⊥
RefusesAt code left_out at (Refused fault) = IsPlacedFault code left_out at fault

-- The numbers of the codes of a line: those of expressions, and those of lines and commands.
abbrev pub is_line_code : ℕ → Bool
is_line_code n = (nat_le 101 n && nat_le n 104) || (nat_le 201 n && nat_le n 210)

-- The numbers of codes with a word, which names the part that is not read.
abbrev pub has_word : ℕ → Bool
has_word n = (n == 102) || (n == 206)

-- A fault of this line: one of these codes, with a word exactly if the code has one, in a column up to the one after the
-- line's end.
pub record IsLineFault (line : List ℕ) (fault : Fault) : Type 0 where
  pub coded : is_line_code (number_of fault.code) ≡ true
  pub worded : is_some fault.left_out ≡ has_word (number_of fault.code)
  pub first : 1 ≤ fault.place.column
  pub last : fault.place.column ≤ suc (length line)

abbrev pub IsFaulty : List ℕ → Failure Fault → Type 0
IsFaulty line OutOfMemory = Unit {0}
IsFaulty line (Refused fault) = IsLineFault line fault
