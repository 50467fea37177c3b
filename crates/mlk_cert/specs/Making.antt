-- Parts of certificates that are constructed by a caller.
use Rattle.std.specs.Prelude.{ℕ, ◌≡◌, List, insert}
use Rattle.std.specs.List.{prefix_len}
use Rattle.mlk_text.specs.declared.failure.Failure.{Failure}
use Rattle.mlk_text.specs.declared.failure.Failure.TheVariants.{OutOfMemory, Refused}
use Rattle.mlk_cert_parts.specs.declared.case.Case.{Case}
use Rattle.mlk_cert_parts.specs.declared.block.Point.{Point}
use Rattle.mlk_cert_lexemes.specs.Lists.{below}
use Rattle.mlk_cert_parts.specs.Texts.{case_text}

-- it is the given one, which has the property
abbrev pub Made : {A : Type 0} → (A → Type 0) → A → A → Type 0
Made Is given made = (made ≡ given) × Is given

-- the given one is returned, since it does not have the property; out of memory says nothing
abbrev pub GivesBack : {A : Type 0} → (A → Type 0) → A → Failure A → Type 0
GivesBack Is given OutOfMemory = Unit {0}
GivesBack Is given (Refused back) = (back ≡ given) × (Is given → ⊥)

-- the number of cases before the first whose text is not below a given text
abbrev pub before : List Case → List ℕ → ℕ
before cases text = prefix_len (λ c. below (case_text c) text) cases

-- the point with one more case, before the first whose text is not below its own
abbrev pub with_more : Point → Case → Point
with_more p c = record { line = p.line; round = p.round; cases = insert p.cases (before p.cases (case_text c)) c }
