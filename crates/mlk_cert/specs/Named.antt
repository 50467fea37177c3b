-- Sets of texts, and numbers of cases, as tests. For private clauses only.
use Rattle.std.specs.Prelude.{ℕ, ◌≡◌, ◌||◌, ◌++◌, Bool, true, List, [], ◌∷◌, ◌-◌, map, slice_set, Option, Some, None, Vec}
use Rattle.std.specs.Global.{Global}
use Rattle.mlk_cert_parts.specs.declared.case.Case.{Case}
use Rattle.mlk_cert_parts.specs.Texts.{case_text}
use Rattle.mlk_cert_parts.specs.Checks.{has_text}
use Rattle.mlk_cert.specs.Numbered.{cases_by}

-- the texts in a set
abbrev pub texts_in : List (Vec ℕ Global) → List (List ℕ)
texts_in keys = map (λ k. k.items) keys

-- the same texts
abbrev pub Has : List (List ℕ) → List (List ℕ) → Type 0
Has texts others = (t : List ℕ) → has_text texts t ≡ has_text others t

-- these texts were added
abbrev pub Adds : List (List ℕ) → List (List ℕ) → List (List ℕ) → Type 0
Adds old new more = (t : List ℕ) → has_text new t ≡ (has_text old t || has_text more t)

-- the texts of the cases with these numbers
abbrev pub texts_by : List Case → List ℕ → List (List ℕ)
texts_by cases ns = map case_text (cases_by cases ns)

-- the numbers of cases with these texts were added, if cases have numbers
abbrev pub AddsNumbers : Option (List Case) → List ℕ → List ℕ → List (List ℕ) → Type 0
AddsNumbers None old new texts = Unit {0}
AddsNumbers (Some cases) old new texts = texts_by cases new ≡ texts_by cases old ++ texts

-- marks, one for each case, after setting those of the cases with these numbers
abbrev pub marked : List Bool → List ℕ → List Bool
marked marks [] = marks
marked marks (n ∷ ns) = marked (slice_set marks (n - 1) true) ns
