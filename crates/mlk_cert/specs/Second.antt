-- The second text of a certificate: its cases are at the front, each once and with a number, and points refer to them by
-- number. This project's own format; the parts that both formats share are in `Texts`.
use Rattle.std.specs.Prelude.{ℕ, suc, ◌≡◌, ◌⊎◌, if◌then◌else◌, true, List, [], ◌∷◌, ◌++◌, map, codes, bytes_eq}
use Rattle.std.specs.Fmt.{decimal}
use Rattle.mlk_cert_parts.specs.declared.case.Case.{Case}
use Rattle.mlk_cert_parts.specs.declared.block.Point.{Point}
use Rattle.mlk_cert_parts.specs.declared.block.EntryCert.{EntryCert}
use Rattle.mlk_cert_lexemes.specs.Lists.{Each, flat, joined, ascends, below}
use Rattle.mlk_cert_lexemes.specs.Texts.{line}
use Rattle.mlk_cert_parts.specs.Texts.{case_text, place_text, block_with, end_line}

-- the text is one of these
abbrev pub IsOneOf : List (List ℕ) → List ℕ → Type 0
IsOneOf [] text = ⊥
IsOneOf (t ∷ texts) text = (t ≡ text) ⊎ IsOneOf texts text

-- the texts of a point's cases
abbrev pub cases_of : Point → List (List ℕ)
cases_of p = map case_text p.cases

-- the texts of the cases of points
abbrev pub cases_of_points : List Point → List (List ℕ)
cases_of_points [] = []
cases_of_points (p ∷ points) = cases_of p ++ cases_of_points points

-- the texts of the cases that blocks have at their points
abbrev pub cases_of_blocks : List EntryCert → List (List ℕ)
cases_of_blocks [] = []
cases_of_blocks (b ∷ blocks) = cases_of_points b.points ++ cases_of_blocks blocks

-- The texts of all cases that blocks have at their points: each once, in plain byte order.
pub record AreCases (blocks : List EntryCert) (texts : List (List ℕ)) : Type 0 where
  pub order : ascends below texts ≡ true
  pub all : Each (IsOneOf texts) (cases_of_blocks blocks)
  pub named : Each (IsOneOf (cases_of_blocks blocks)) texts

-- the lines of cases, numbered from n on
abbrev pub numbered : ℕ → List (List ℕ) → List ℕ
numbered n [] = []
numbered n (t ∷ texts) = line (codes "case ") (decimal n ++ 32 ∷ t) ++ numbered (suc n) texts

-- the number of a text: 1 for the first of the texts
abbrev pub number_of_text : List (List ℕ) → List ℕ → ℕ
number_of_text [] text = 1
number_of_text (t ∷ texts) text = if bytes_eq t text then 1 else suc (number_of_text texts text)

-- the numbers of cases
abbrev pub numbers_of : List (List ℕ) → List Case → List ℕ
numbers_of texts cases = map (λ c. number_of_text texts (case_text c)) cases

-- the line of a point
abbrev pub point_line : List (List ℕ) → Point → List ℕ
point_line texts p = line (codes "at ") (place_text p.line p.round ++ 32 ∷ joined 59 decimal (numbers_of texts p.cases))

-- the first line
abbrev pub second_head : List ℕ
second_head = line [] (codes "mlock-cert 2")

-- the text with these cases at the front
abbrev pub numbered_text : List (List ℕ) → List EntryCert → List ℕ
numbered_text texts blocks = second_head ++ (numbered 1 texts ++ (flat (block_with (point_line texts)) blocks ++ end_line))

-- The text of a certificate in the second format.
abbrev pub IsSecondText : List EntryCert → List ℕ → Type 0
IsSecondText blocks text = (texts : List (List ℕ)) × AreCases blocks texts × (text ≡ numbered_text texts blocks)
