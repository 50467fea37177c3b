-- Where a text is refused after its head line. For private clauses only: the contracts of public calls use `Refusals`.
use Rattle.std.specs.Prelude.{ℕ, ◌≡◌, ◌≤◌, ◌+◌, ◌==◌, ◌||◌, ◌&&◌, nat_le, Bool, true, false, List, [], ◌∷◌}
use Rattle.mlk_text.specs.Codes.{number_of}
use Rattle.mlk_text.specs.declared.code.Code.{Code}
use Rattle.mlk_text.specs.declared.code.Code.TheVariants.{NoEnd}
use Rattle.mlk_cert.specs.declared.read.fault.CertFault.{CertFault}
use Rattle.mlk_cert.specs.Refusals.{lines_in}

-- the codes of certificates except that of the head line
abbrev pub is_later : Code → Bool
is_later code = nat_le 602 (number_of code) && nat_le (number_of code) 607

-- whether a line ends here or later
abbrev pub has_line : List ℕ → Bool
has_line [] = false
has_line (b ∷ xs) = (b == 10) || has_line xs

-- a fault at the first line
abbrev pub at_first : Code → CertFault
at_first code = record { code = code; line = 1 }

-- a fault after the head line, with its line in the whole text
pub record IsLater (rest : List ℕ) (fault : CertFault) : Type 0 where
  pub code : is_later fault.code ≡ true
  pub from_one : 1 ≤ fault.line
  pub inside : fault.line ≤ lines_in rest + 2
  pub ends : fault.code ≡ NoEnd → fault.line ≡ lines_in rest + 1
  pub behind_head : (fault.code ≡ NoEnd → ⊥) → 2 ≤ fault.line
