-- The texts of lock names, patterns and entries in a rule file, as joined parts. Names, numbers and quoted texts restate ISO/IEC
-- 11756 (name, numlit without an exponent, strlit); the rest is this project's own choice.
use Rattle.std.specs.Prelude.{◌≡◌, ◌⊎◌, ◌↔◌, ℕ, true, List, [], ◌∷◌, ◌++◌, Some, codes}
use Rattle.mlk_text.specs.Lexemes.{doubled}
use Rattle.mlk_text.specs.Spellings.{IsName, IsRoot, IsEntry}
use Rattle.mlk_numbers.specs.Numbers.{IsCanonical}
use Rattle.mlk_text.specs.declared.root.Root.TheVariants as root
use Rattle.mlk_names.specs.declared.reference.Extent.{Extent}
use Rattle.mlk_names.specs.declared.reference.Extent.TheVariants.{Node, Tree}
use Rattle.mlk_rules_file.specs.declared.read.kinds.SpelledItem.{SpelledItem}
use Rattle.mlk_rules_file.specs.declared.read.kinds.SpelledItem.TheVariants.{Literal, Variable, Job}
use Rattle.mlk_rules_file.specs.declared.read.kinds.Spelling.{Spelling}
use Rattle.mlk_rules_file.specs.RuleNumbers.{negative}
use Rattle.mlk_rules_file.specs.RuleTexts.{spelling_of, pattern_of, is_entry}

-- a quoted text, in which each quote is doubled
abbrev pub IsQuotedText : List ℕ → List ℕ → Type 0
IsQuotedText value text = text ≡ 34 ∷ (doubled value ++ 34 ∷ [])

-- a number after a minus
abbrev pub IsNegative : List ℕ → List ℕ → Type 0
IsNegative value text =
    (number canonical : List ℕ) × IsCanonical number canonical × (value ≡ negative canonical) × (text ≡ 45 ∷ number)

-- a literal is written in quotes, or as a number, whose value is its canonical text; a variable as its name
abbrev pub IsItem : SpelledItem → List ℕ → Type 0
IsItem (Literal value) text = IsQuotedText value text ⊎ (IsCanonical text value ⊎ IsNegative value text)
IsItem (Variable name) text = (text ≡ name) × IsName name
IsItem Job text = text ≡ codes "$J"

-- more items, each after a comma
abbrev pub IsMore : List SpelledItem → List ℕ → Type 0
IsMore [] text = text ≡ []
IsMore (i ∷ items) text = (one more : List ℕ) × IsItem i one × IsMore items more × (text ≡ 44 ∷ (one ++ more))

-- the end of a list: that of a tree has `...`
abbrev pub closing : Extent → List ℕ
closing Node = codes ")"
closing Tree = codes ",...)"

-- what follows a root: nothing, or items in parentheses
abbrev pub IsParts : List SpelledItem → Extent → List ℕ → Type 0
IsParts [] Node text = text ≡ []
IsParts [] Tree text = text ≡ codes "(...)"
IsParts (i ∷ items) extent text =
    (one more : List ℕ) × IsItem i one × IsMore items more × (text ≡ 40 ∷ (one ++ (more ++ closing extent)))

-- A lock name or a pattern: its root, then its parts.
abbrev pub IsSpelled : Spelling → List ℕ → Type 0
IsSpelled s text = (front rest : List ℕ) × IsRoot s.root front × IsParts s.items s.extent rest × (text ≡ front ++ rest)

-- A pattern is of a global.
abbrev pub IsSpelledPattern : Spelling → List ℕ → Type 0
IsSpelledPattern s text = IsSpelled s text × ((name : List ℕ) × (s.root ≡ root.Global name))

-- An entry has an optional label, and a routine.
abbrev pub IsEntryText : List ℕ → Type 0
IsEntryText text = (label routine : List ℕ) × IsEntry label routine text

-- The readers read exactly what this grammar spells.
pub record AreWritten : Type 0 where
  pub names : (text : List ℕ) (s : Spelling) → (spelling_of text ≡ Some s) ↔ IsSpelled s text
  pub patterns : (text : List ℕ) (s : Spelling) → (pattern_of text ≡ Some s) ↔ IsSpelledPattern s text
  pub entries : (text : List ℕ) → (is_entry text ≡ true) ↔ IsEntryText text
