-- The texts of names, labels, words, the roots of lock names, and entries.
use Rattle.std.specs.Prelude.{ℕ, ◌≡◌, ◌<◌, ◌⊎◌, ◌==◌, ◌&&◌, ◌||◌, nat_le, Bool, true, false, List, [], ◌∷◌, ◌++◌, length}
use Rattle.std.specs.List.{list_all}
use Rattle.mlk_text.specs.declared.root.Root.{Root}
use Rattle.mlk_text.specs.declared.root.Root.TheVariants as root

-- a digit: ISO/IEC 11756, graphic
abbrev pub is_digit : ℕ → Bool
is_digit b = nat_le 48 b && nat_le b 57

-- an ASCII letter: ISO/IEC 11756, ident
abbrev pub is_letter : ℕ → Bool
is_letter b = (nat_le 65 b && nat_le b 90) || (nat_le 97 b && nat_le b 122)

-- a byte that may follow in a name
abbrev pub is_name_byte : ℕ → Bool
is_name_byte b = is_digit b || is_letter b

-- A name: `%` or a letter, then letters and digits (ISO/IEC 11756, name). The limit of 31 characters is this project's own
-- choice.
abbrev pub is_name : List ℕ → Bool
is_name [] = false
is_name (b ∷ more) = (is_letter b || (b == 37)) && (nat_le (length more) 30 && list_all is_name_byte more)

abbrev pub IsName : List ℕ → Type 0
IsName name = is_name name ≡ true

-- A label: a name, or digits (ISO/IEC 11756, label).
abbrev pub IsLabel : List ℕ → Type 0
IsLabel label = IsName label ⊎ ((list_all is_digit label ≡ true) × (0 < length label))

-- letters only
abbrev pub IsWord : List ℕ → Type 0
IsWord w = list_all is_letter w ≡ true

-- The root of a lock name: a global's name after its caret, or a local's (ISO/IEC 11756, nref).
abbrev pub IsRoot : Root → List ℕ → Type 0
IsRoot (root.Global name) text = IsName name × (text ≡ 94 ∷ name)
IsRoot (root.Local name) text = IsName name × (text ≡ name)

-- An entry: its label, which is empty for the routine's first line, a caret, and the routine (ISO/IEC 11756, entryref without an
-- offset).
abbrev pub IsEntry : List ℕ → List ℕ → List ℕ → Type 0
IsEntry label routine text = ((label ≡ []) ⊎ IsLabel label) × IsName routine × (text ≡ label ++ 94 ∷ routine)
