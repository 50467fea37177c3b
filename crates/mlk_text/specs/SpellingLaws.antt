-- Laws of the readers of written names.
use Rattle.std.specs.Prelude.{◌≡◌, ◌↔◌, ℕ, List, Some}
use Rattle.mlk_text.specs.Lexemes.{entry_of}
use Rattle.mlk_text.specs.Spellings.{IsEntry}

-- The parts that are found in a text are those of an entry, and the parts of each entry's text are found.
abbrev pub EntriesWritten : Type 0
EntriesWritten = (text label routine : List ℕ) → (entry_of text ≡ Some (label, routine)) ↔ IsEntry label routine text
