-- The readers of texts of a rule file, as functions: patterns, lock names and entries. The law `AreWritten` says that they
-- read what `RuleGrammar` spells, and nothing else. This project's own choice.
use Rattle.std.specs.Prelude.{ℕ, ◌==◌, ◌||◌, if◌then◌else◌, Bool, List, [], ◌∷◌, Option, Some, None, is_some, codes, bytes_eq}
use Rattle.mlk_text.specs.Reading.{◌>>=◌, with, put, separated}
use Rattle.mlk_text.specs.Lexemes.{is_digit, byte_at, name_at, root_at, entry_of}
use Rattle.mlk_text.specs.declared.root.Root.{Root}
use Rattle.mlk_names.specs.declared.reference.Extent.{Extent}
use Rattle.mlk_names.specs.declared.reference.Extent.TheVariants.{Node, Tree}
use Rattle.mlk_rules_file.specs.declared.read.kinds.SpelledItem.{SpelledItem}
use Rattle.mlk_rules_file.specs.declared.read.kinds.SpelledItem.TheVariants.{Literal, Variable, Job}
use Rattle.mlk_rules_file.specs.declared.read.kinds.Spelling.{Spelling}
use Rattle.mlk_rules_file.specs.RuleNumbers.{literal_value_at, negative_at}

-- A quoted text, which may contain any byte; a quote inside is doubled.
unfoldable mutual
  -- after the opening quote
  pub quoted : List ℕ → Option (List ℕ × List ℕ)
  quoted [] = None
  quoted (b ∷ xs) = if b == 34 then closed xs else put (b ∷ []) (quoted xs)

  -- after a quote: it closes the text, or a second one follows
  pub closed : List ℕ → Option (List ℕ × List ℕ)
  closed [] = Some ([], [])
  closed (b ∷ xs) = if b == 34 then put (34 ∷ []) (quoted xs) else Some ([], b ∷ xs)

-- The item at the front: `$J`, a number after a minus, a quoted text, a number, or a variable.
abbrev pub job : ℕ → SpelledItem
job j = Job

unfoldable pub item_at : List ℕ → Option (SpelledItem × List ℕ)
item_at [] = None
item_at (b ∷ xs) =
    if b == 36 then with job (byte_at 74 xs)
    else if b == 45 then with Literal (negative_at xs)
    else if b == 34 then with Literal (quoted xs)
    else if (b == 46) || is_digit b then with Literal (literal_value_at (b ∷ xs))
    else with Variable (name_at (b ∷ xs))

-- a comma, unless `...` ends the list after it
abbrev pub comma_at : List ℕ → Option (ℕ × List ℕ)
comma_at xs = if bytes_eq xs (codes ",...)") then None else byte_at 44 xs

-- the end of a list: with `...` everything below is included
abbrev pub end_of : List ℕ → Option Extent
end_of xs = if bytes_eq xs (codes ")") then Some Node else if bytes_eq xs (codes ",...)") then Some Tree else None

-- items up to their end
abbrev pub ended : List SpelledItem × List ℕ → Option (List SpelledItem × Extent)
ended r = end_of r.1 >>= λ extent. Some (r.0, extent)

-- one or more items, the last of which may be `...`, up to the closing parenthesis, which ends the text
unfoldable pub list_of : List ℕ → Option (List SpelledItem × Extent)
list_of xs =
    if bytes_eq xs (codes "...)") then Some ([], Tree)
    else (separated comma_at item_at xs >>= ended)

-- what follows a root: nothing, or a list in parentheses
unfoldable pub parts_of : List ℕ → Option (List SpelledItem × Extent)
parts_of [] = Some ([], Node)
parts_of (b ∷ xs) = if b == 40 then list_of xs else None

-- a spelling, from its parts
abbrev pub spelling : Root → List SpelledItem × Extent → Spelling
spelling r p = record { root = r; items = p.0; extent = p.1 }

-- the text as a lock name
unfoldable pub spelling_of : List ℕ → Option Spelling
spelling_of xs = root_at xs >>= λ r. parts_of r.1 >>= λ p. Some (spelling r.0 p)

-- the text as a pattern, which begins with a caret
abbrev pub pattern_of : List ℕ → Option Spelling
pattern_of xs = byte_at 94 xs >>= λ caret. spelling_of xs

-- whether the text is an entry
abbrev pub is_entry : List ℕ → Bool
is_entry text = is_some (entry_of text)
