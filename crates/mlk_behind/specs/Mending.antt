-- Texts of routines in which faults are mended. This project's own choice.
use Rattle.std.specs.Prelude.{ℕ, ◌≡◌, ◌+◌, ◌≤◌, ◌<◌, ◌==◌, ◌||◌, Bool, List, [], Any, length, map, slice_index, slice_index_or}
use Rattle.mlk_behind.specs.declared.patch.Patch.{Patch}

-- LF and CR end lines
abbrev pub ends_line : ℕ → Bool
ends_line byte = (byte == 10) || (byte == 13)

-- a patch is for the byte at this place of a text
abbrev pub IsPatchAt : ℕ → Patch → Type 0
IsPatchAt place p = (p.start ≤ place) × (place < p.start + length p.bytes.items)

-- one of the patches is for the byte at this place of the text of a routine
abbrev pub IsPatched : List Patch → ℕ → ℕ → Type 0
IsPatched patches routine place = Any (λ p. (p.routine ≡ routine) × IsPatchAt place p) patches

-- The new text has as many bytes as the old one, and lines end at the same places. Other bytes differ at these places only.
pub record DiffersOnlyAt (IsPlace : ℕ → Type 0) (old new : List ℕ) : Type 0 where
  pub lines_stay : map ends_line new ≡ map ends_line old
  pub others_stay : (k : ℕ) → (IsPlace k → ⊥) → slice_index new k ≡ slice_index old k

-- Each text has the patches that are for its routine.
pub record AreMended (patches : List Patch) (olds news : List (List ℕ)) : Type 0 where
  pub count_stays : length news ≡ length olds
  pub mended : (routine : ℕ) → routine < length olds → DiffersOnlyAt (IsPatched patches routine) (slice_index_or olds routine []) (slice_index_or news routine [])
