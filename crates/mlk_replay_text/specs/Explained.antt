-- A text with notes below some of its lines. This project's own.
use Rattle.std.specs.Prelude.{◌≡◌, ℕ, List, [], ◌∷◌, ◌++◌}
use Rattle.mlk_cert_lexemes.specs.Lists.{flat}

-- lines, each with the note below it
abbrev pub lines_of : List (List ℕ × List ℕ) → List ℕ
lines_of noted = flat (λ p. p.0 ++ 10 ∷ []) noted

abbrev pub lines_and_notes_of : List (List ℕ × List ℕ) → List ℕ
lines_and_notes_of noted = flat (λ p. p.0 ++ 10 ∷ p.1) noted

-- The text is the plain one, with notes: each is below a whole line, and without them the plain text is left.
pub record IsExplained (plain text : List ℕ) : Type 0 where
  pub noted : List (List ℕ × List ℕ)
  pub rest : List ℕ
  pub without : plain ≡ lines_of noted ++ rest
  pub whole : text ≡ lines_and_notes_of noted ++ rest

-- What is left of the plain text, and of the text: however the rest continues, the whole does. For private clauses only.
pub record Continues (old left new rest : List ℕ) : Type 0 where
  pub continues : (later : List ℕ) → IsExplained rest later
      → (more : List ℕ) × IsExplained left more × (new ++ later ≡ old ++ more)
