-- The refusal of a certificate's text.
use Rattle.std.specs.Prelude.{ℕ, suc, ◌≡◌, ◌<◌, ◌≤◌, ◌+◌, ◌==◌, ◌&&◌, ◌↔◌, ◌++◌, nat_le}
use Rattle.std.specs.Prelude.{if◌then◌else◌, ◌⊎◌, Bool, true, List, [], ◌∷◌, length}
use Rattle.mlk_text.specs.Codes.{number_of}
use Rattle.mlk_text.specs.declared.code.Code.{Code}
use Rattle.mlk_text.specs.declared.code.Code.TheVariants.{Head, CertLimit, NoEnd}
use Rattle.mlk_text.specs.declared.failure.Failure.{Failure}
use Rattle.mlk_text.specs.declared.failure.Failure.TheVariants.{OutOfMemory, Refused}
use Rattle.mlk_cert.specs.declared.read.fault.CertFault.{CertFault}
use Rattle.mlk_cert_parts.specs.Texts.{head_line}
use Rattle.mlk_cert_parts.specs.Limits.{longest}
use Rattle.mlk_cert.specs.Second.{second_head}

-- the codes of certificates
abbrev pub is_refusal : Code → Bool
is_refusal code = nat_le 601 (number_of code) && nat_le (number_of code) 607

-- the number of lines that end in a text
abbrev pub lines_in : List ℕ → ℕ
lines_in [] = 0
lines_in (b ∷ xs) = if b == 10 then suc (lines_in xs) else lines_in xs

-- the text begins with the head line of a format
abbrev pub HasHead : List ℕ → Type 0
HasHead text = (rest : List ℕ) × ((text ≡ head_line ++ rest) ⊎ (text ≡ second_head ++ rest))

-- A refusal has one of the seven codes, and is on a line of the text or the one after its last. A limit at line 1 is reported
-- exactly if the text is too long, and otherwise a missing head line exactly if there is none, at line 1. If the text ends too
-- early, the line is the number of complete lines.
pub record IsRefusal (text : List ℕ) (fault : CertFault) : Type 0 where
  pub code : is_refusal fault.code ≡ true
  pub from_one : 1 ≤ fault.line
  pub inside : fault.line ≤ lines_in text + 1
  pub long : (longest < length text) ↔ ((fault.code ≡ CertLimit) × (fault.line ≡ 1))
  pub head : ((length text ≤ longest) × (HasHead text → ⊥)) ↔ (fault.code ≡ Head)
  pub at_head : fault.code ≡ Head → fault.line ≡ 1
  pub ends : fault.code ≡ NoEnd → fault.line ≡ lines_in text

-- out of memory says nothing
abbrev pub IsPlaced : List ℕ → Failure CertFault → Type 0
IsPlaced text OutOfMemory = Unit {0}
IsPlaced text (Refused fault) = IsRefusal text fault
