-- Reading lines, blocks and a whole certificate, as functions on lists. For private clauses only, like `Reading`.
use Rattle.std.specs.Prelude.{ℕ, suc, ◌==◌, ◌&&◌, ◌||◌, not, nat_lt, if◌then◌else◌, Bool, true, false, List}
use Rattle.std.specs.Prelude.{◌∷◌, ◌++◌, length, Option, Some, None, codes, option_map, option_and_then, []}
use Rattle.mlk_text.specs.Reading.{◌>>=◌, with, many}
use Rattle.mlk_text.specs.Lexemes.{byte_at}
use Rattle.mlk_names.specs.declared.term.LockTerm.{LockTerm}
use Rattle.mlk_cert_parts.specs.declared.case.Case.{Case}
use Rattle.mlk_cert_parts.specs.declared.case.ExitCase.{ExitCase}
use Rattle.mlk_cert_parts.specs.declared.names.NameSet.{NameSet}
use Rattle.mlk_cert_parts.specs.declared.block.Point.{Point}
use Rattle.mlk_cert_parts.specs.declared.block.Summary.{Summary}
use Rattle.mlk_cert_parts.specs.declared.block.EntryCert.{EntryCert}
use Rattle.mlk_cert_lexemes.specs.Lists.{last_of, below}
use Rattle.mlk_cert_parts.specs.Texts.{end_line, exit_text, case_text}
use Rattle.mlk_cert_parts.specs.Checks.{fit_terms, fit_mods, fits_case, fits_exit, fit_exits, fit_points, fit_blocks, fits, has_text}
use Rattle.mlk_cert_lexemes.specs.Reading.{word_at, number_at, counted_at, listed_at, term_at, part_at, entry_at}
use Rattle.mlk_cert_parts.specs.Reading.{names_at, exit_at, case_at}

-- what was read, if it passes a test
abbrev pub fit : {A : Type 0} → (A → Bool) → A × List ℕ → Option (A × List ℕ)
fit test r = if test r.0 then Some r else None

-- the line's end, after a value that passes
abbrev pub ended : {A : Type 0} → A → Bool → List ℕ → Option (A × List ℕ)
ended a passes xs = byte_at 10 xs >>= λ end. if passes then Some (a, end.1) else None

-- the rest of a line, which passes a test
unfoldable pub rest_at : {A : Type 0} → (List ℕ → Option (A × List ℕ)) → (A → Bool) → List ℕ → Option (A × List ℕ)
rest_at item test xs = item xs >>= λ r. ended r.0 (test r.0) r.1

-- as many items as there are words before them
unfoldable pub worded_at : {A : Type 0} → List ℕ → (List ℕ → Option (A × List ℕ)) → List ℕ → Option (List A × List ℕ)
worded_at word item xs = many (word_at word) (λ w. item) (suc (length xs)) xs

-- the least rank: none for a dash
abbrev pub low_by : List ℕ → Option (ℕ × List ℕ) → Option (Option ℕ × List ℕ)
low_by xs (Some dash) = Some (None, dash.1)
low_by xs None = with Some (number_at 999999 xs)

unfoldable pub low_at : List ℕ → Option (Option ℕ × List ℕ)
low_at xs = low_by xs (byte_at 45 xs)

-- 0 for no, 1 for yes
abbrev pub drops_by : List ℕ → Option (ℕ × List ℕ) → Option (Bool × List ℕ)
drops_by xs (Some digit) = Some (false, digit.1)
drops_by xs None = with (λ _. true) (byte_at 49 xs)

unfoldable pub drops_at : List ℕ → Option (Bool × List ℕ)
drops_at xs = drops_by xs (byte_at 48 xs)

-- the lines of exits
unfoldable pub exits_at : List ℕ → Option (List ExitCase × List ℕ)
exits_at xs = worded_at (codes "exit ") (rest_at exit_at fits_exit) xs >>= fit fit_exits

abbrev pub summary_of : List LockTerm → Option ℕ → Bool → List NameSet → List ExitCase → Summary
summary_of need low drops mods exits = record { need = need; exits = exits; mods = mods; low = low; drops = drops }

-- the summary of an entry
unfoldable pub summary_at : List ℕ → Option (Summary × List ℕ)
summary_at xs =
    part_at (codes "need ") (rest_at (listed_at term_at) fit_terms) xs >>= λ need.
    part_at (codes "low ") (rest_at low_at fits) need.1 >>= λ low.
    part_at (codes "drops ") (rest_at drops_at fits) low.1 >>= λ drops.
    part_at (codes "mods ") (rest_at (listed_at names_at) fit_mods) drops.1 >>= λ mods.
    with (summary_of need.0 low.0 drops.0 mods.0) (exits_at mods.1)

-- a case and its point
abbrev pub Listed : Type 0
Listed = ℕ × ℕ × Case

-- the number of a line, a point, and the number of a round
unfoldable pub place_at : List ℕ → Option ((ℕ × ℕ) × List ℕ)
place_at xs =
    counted_at 65535 xs >>= λ line.
    byte_at 46 line.1 >>= λ dot.
    with (λ round. (line.0, round)) (number_at 255 dot.1)

abbrev pub listed_of : ℕ × ℕ → Case → Listed
listed_of place c = (place.0, place.1, c)

-- a place, a space, and a case
unfoldable pub listed_case_at : List ℕ → Option (Listed × List ℕ)
listed_case_at xs = place_at xs >>= λ place. byte_at 32 place.1 >>= λ space. with (listed_of place.0) (case_at space.1)

abbrev pub fits_listed : Listed → Bool
fits_listed l = fits_case l.2

abbrev pub point_of : Listed → Point
point_of l = record { line = l.0; round = l.1; cases = l.2 ∷ [] }

abbrev pub with_case : Point → Case → Point
with_case p c = record { line = p.line; round = p.round; cases = p.cases ++ c ∷ [] }

-- one more case: at the last point if it is at the same place, otherwise at a new one
abbrev pub add_case : List Point → Listed → List Point
add_case [] l = point_of l ∷ []
add_case (p ∷ []) l = if (p.line == l.0) && (p.round == l.1) then with_case p l.2 ∷ [] else p ∷ point_of l ∷ []
add_case (p ∷ q ∷ points) l = p ∷ add_case (q ∷ points) l

abbrev pub grouped : List Point → List Listed → List Point
grouped points [] = points
grouped points (l ∷ ls) = grouped (add_case points l) ls

-- the lines of points
unfoldable pub points_at : List ℕ → Option (List Point × List ℕ)
points_at xs = with (grouped []) (worded_at (codes "at ") (rest_at listed_case_at fits_listed) xs) >>= fit fit_points

abbrev pub block_of : List ℕ → Summary → List Point → EntryCert
block_of entry summary points = record { entry = entry; summary = summary; points = points }

-- how the points of a block are read
abbrev pub ReadsPoints : Type 0
ReadsPoints = List ℕ → Option (List Point × List ℕ)

-- a block after its word
unfoldable pub block_at : ReadsPoints → List ℕ → Option (EntryCert × List ℕ)
block_at points xs =
    rest_at entry_at fits xs >>= λ entry.
    summary_at entry.1 >>= λ summary.
    with (block_of entry.0 summary.0) (points summary.1)

unfoldable pub blocks_at : ReadsPoints → List ℕ → Option (List EntryCert × List ℕ)
blocks_at points xs = worded_at (codes "entry ") (block_at points) xs >>= fit fit_blocks

-- nothing is left
abbrev pub finished : List EntryCert → List ℕ → Option (List EntryCert)
finished blocks [] = Some blocks
finished blocks (b ∷ xs) = None

-- the blocks and the end line
unfoldable pub body_at : ReadsPoints → List ℕ → Option (List EntryCert)
body_at points xs = blocks_at points xs >>= λ blocks. word_at end_line blocks.1 >>= λ end. finished blocks.0 end.1

-- the text is above the last one, if there is one
abbrev pub above_last : Option (List ℕ) → List ℕ → Bool
above_last None text = true
above_last (Some last) text = below last text

-- one more exit, after `count` others, the last of which has the text `last`
abbrev pub next_exit_fits : ℕ → Option (List ℕ) → ExitCase → Bool
next_exit_fits count last e = nat_lt count 16 && above_last last (exit_text e)

-- one more case with the text `text` at a place, after a given point, whose last case has the text `last`
abbrev pub next_case_fits : Option Point → Option (List ℕ) → ℕ → ℕ → List ℕ → Bool
next_case_fits None last line round text = true
next_case_fits (Some p) last line round text =
    if (p.line == line) && (p.round == round) then nat_lt (length p.cases) 16 && above_last last text
    else (nat_lt p.line line || ((p.line == line) && nat_lt p.round round))

-- the rest of a line, which passes a test and may follow what precedes it
unfoldable pub after_at : {A : Type 0} → (List ℕ → Option (A × List ℕ)) → (A → Bool) → (A → Bool) → List ℕ → Option (A × List ℕ)
after_at item test step xs = item xs >>= λ r. ended r.0 (test r.0 && step r.0) r.1

-- an entry's line, whose text is new
unfoldable pub new_entry_at : List (List ℕ) → List ℕ → Option (List ℕ × List ℕ)
new_entry_at texts xs = rest_at entry_at fits xs >>= fit (λ e. not (has_text texts e))

-- a block whose entry is new
unfoldable pub new_block_at : ReadsPoints → List (List ℕ) → List ℕ → Option (EntryCert × List ℕ)
new_block_at points texts xs =
    new_entry_at texts xs >>= λ entry.
    summary_at entry.1 >>= λ summary.
    with (block_of entry.0 summary.0) (points summary.1)

-- the text of the last case of the last point
abbrev pub last_case_text : List Point → Option (List ℕ)
last_case_text points = option_and_then (λ p. option_map case_text (last_of p.cases)) (last_of points)
