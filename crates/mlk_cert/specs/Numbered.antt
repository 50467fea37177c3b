-- Reading the lines that only the second format has, as functions on lists. For private clauses only, like `Reading`.
use Rattle.std.specs.Prelude.{ℕ, suc, ◌-◌, ◌==◌, ◌&&◌, ◌||◌, nat_lt, nat_le, if◌then◌else◌, Bool, true, List}
use Rattle.std.specs.Prelude.{[], ◌∷◌, ◌++◌, map, length, slice_get, option_to_list, Option, Some, None, codes}
use Rattle.mlk_text.specs.Reading.{◌>>=◌, with}
use Rattle.mlk_text.specs.Lexemes.{byte_at}
use Rattle.mlk_cert_parts.specs.declared.case.Case.{Case}
use Rattle.mlk_cert_parts.specs.declared.block.Point.{Point}
use Rattle.mlk_cert_parts.specs.declared.block.EntryCert.{EntryCert}
use Rattle.mlk_cert_lexemes.specs.Lists.{ascends, below}
use Rattle.mlk_cert_lexemes.specs.Reading.{word_at, counted_at, list_at}
use Rattle.mlk_cert_parts.specs.Texts.{case_text, head_line}
use Rattle.mlk_cert_parts.specs.Limits.{points_below}
use Rattle.mlk_cert_parts.specs.Checks.{fits_case, has_text}
use Rattle.mlk_cert_parts.specs.Reading.{case_at}
use Rattle.mlk_cert.specs.Blocks.{fit, rest_at, worded_at, place_at, points_at, body_at, above_last}
use Rattle.mlk_cert.specs.Second.{cases_of_blocks, second_head}
use Rattle.mlk_cert.specs.declared.format.CertFormat.{CertFormat}
use Rattle.mlk_cert.specs.declared.format.CertFormat.TheVariants.{First, Second}

-- no number of a case exceeds the number of bytes of a text
abbrev pub greatest : ℕ
greatest = 67108864

-- a case and its number
abbrev pub NumberedCase : Type 0
NumberedCase = ℕ × Case

abbrev pub numbered_of : ℕ → Case → NumberedCase
numbered_of n c = (n, c)

unfoldable pub numbered_case_at : List ℕ → Option (NumberedCase × List ℕ)
numbered_case_at xs = counted_at greatest xs >>= λ n. byte_at 32 n.1 >>= λ space. with (numbered_of n.0) (case_at space.1)

abbrev pub fits_numbered : NumberedCase → Bool
fits_numbered l = fits_case l.1

-- whether the numbers increase by one from n on
abbrev pub counts_from : ℕ → List NumberedCase → Bool
counts_from n [] = true
counts_from n (l ∷ ls) = (l.0 == n) && counts_from (suc n) ls

abbrev pub numbered_below : NumberedCase → NumberedCase → Bool
numbered_below l m = below (case_text l.1) (case_text m.1)

abbrev pub fit_numbered : List NumberedCase → Bool
fit_numbered ls = counts_from 1 ls && ascends numbered_below ls

abbrev pub cases_in : List NumberedCase → List Case
cases_in ls = map (λ l. l.1) ls

-- the lines of cases
unfoldable pub cases_at : List ℕ → Option (List NumberedCase × List ℕ)
cases_at xs = worded_at (codes "case ") (rest_at numbered_case_at fits_numbered) xs >>= fit fit_numbered

-- one more case, after `count` others, the last of which has the text `last`
abbrev pub next_numbered_fits : ℕ → Option (List ℕ) → NumberedCase → Bool
next_numbered_fits count last l = (l.0 == suc count) && above_last last (case_text l.1)

-- whether no number exceeds the number of cases
abbrev pub are_upto : ℕ → List ℕ → Bool
are_upto most [] = true
are_upto most (n ∷ ns) = nat_le n most && are_upto most ns

-- the numbers of a point in a certificate with `most` cases
unfoldable pub numbers_at : ℕ → List ℕ → Option (List ℕ × List ℕ)
numbers_at most xs = list_at (counted_at greatest) 59 xs >>= fit (are_upto most)

abbrev pub fits_numbers : List ℕ → Bool
fits_numbers ns = nat_le (length ns) 16 && ascends nat_lt ns

-- a point and the numbers of its cases
abbrev pub NumberedPoint : Type 0
NumberedPoint = ℕ × ℕ × List ℕ

abbrev pub numbered_point_of : ℕ × ℕ → List ℕ → NumberedPoint
numbered_point_of place ns = (place.0, place.1, ns)

unfoldable pub numbered_point_at : ℕ → List ℕ → Option (NumberedPoint × List ℕ)
numbered_point_at most xs = place_at xs >>= λ place. byte_at 32 place.1
    >>= λ space. with (numbered_point_of place.0) (numbers_at most space.1)

abbrev pub fits_numbered_point : NumberedPoint → Bool
fits_numbered_point p = fits_numbers p.2

-- the cases with these numbers
abbrev pub cases_by : List Case → List ℕ → List Case
cases_by cases [] = []
cases_by cases (n ∷ ns) = option_to_list (slice_get cases (n - 1)) ++ cases_by cases ns

abbrev pub point_by : List Case → NumberedPoint → Point
point_by cases p = record { line = p.0; round = p.1; cases = cases_by cases p.2 }

abbrev pub points_by : List Case → List NumberedPoint → List Point
points_by cases ps = map (point_by cases) ps

abbrev pub fit_places : List Point → Bool
fit_places points = ascends points_below points

-- the lines of points that refer to these cases
unfoldable pub numbered_points_at : List Case → List ℕ → Option (List Point × List ℕ)
numbered_points_at cases xs = with (points_by cases)
    (worded_at (codes "at ") (rest_at (numbered_point_at (length cases)) fits_numbered_point) xs) >>= fit fit_places

-- one more point at a place, after a given one
abbrev pub next_place_fits : Option Point → ℕ → ℕ → Bool
next_place_fits None line round = true
next_place_fits (Some q) line round = nat_lt q.line line || ((q.line == line) && nat_lt q.round round)

-- the lines of points, of either format
abbrev pub listed_points_at : Option (List Case) → List ℕ → Option (List Point × List ℕ)
listed_points_at None xs = points_at xs
listed_points_at (Some cases) xs = numbered_points_at cases xs

-- whether each of the cases is at a point
abbrev pub are_named : List (List ℕ) → List Case → Bool
are_named texts [] = true
are_named texts (c ∷ cases) = has_text texts (case_text c) && are_named texts cases

abbrev pub all_named : List Case → List EntryCert → Option (List EntryCert)
all_named cases blocks = if are_named (cases_of_blocks blocks) cases then Some blocks else None

-- the text after the second head line
unfoldable pub second_body_at : List ℕ → Option (List EntryCert)
second_body_at xs = with cases_in (cases_at xs) >>= λ cases. body_at (listed_points_at (Some cases.0)) cases.1 >>= all_named cases.0

abbrev pub body_in : CertFormat → List ℕ → Option (List EntryCert)
body_in First xs = body_at (listed_points_at None) xs
body_in Second xs = second_body_at xs

-- the format of a head line, and the rest after that line
abbrev pub head_by : List ℕ → Option (List ℕ × List ℕ) → Option (CertFormat × List ℕ)
head_by xs (Some head) = Some (First, head.1)
head_by xs None = word_at second_head xs >>= λ head. Some (Second, head.1)

abbrev pub head_at : List ℕ → Option (CertFormat × List ℕ)
head_at xs = head_by xs (word_at head_line xs)
