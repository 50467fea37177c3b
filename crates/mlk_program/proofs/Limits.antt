-- How many routines and entries there are.
use Rattle.std.proofs.Common.{◌≡◌, ◌<◌, ◌≤◌, ◌+◌, ◌⊎◌, inl, inr, ap, subst, ◌∙◌, ⊎_elim, arith, ℕ, suc, List, [], ◌∷◌, ◌++◌, map, min, take, drop, length, get_or, length-take-le, le_of_lt}
use Rattle.std.proofs.lemmas.List.{length-map, length-append}
use Rattle.mlk_text.specs.declared.code.Code.TheVariants.{TooMany}
use Rattle.mlk_text.specs.declared.fault.Fault.{Fault}
use Rattle.mlk_syntax.specs.declared.routine.Routine.{Routine}
use Rattle.mlk_syntax.specs.Trees.{RoutineTree}
use Rattle.mlk_syntax.specs.Views.{line_of, routine_of}
use Rattle.mlk_program.specs.Entries.{entries_among, entry_count}
use Rattle.mlk_program.specs.Program.{AreTooMany, IsPastLimit, IsFaultAt}
use Rattle.mlk_program.specs.Tables.{trees}
use Rattle.mlk_program.proofs.Directories.{lines_same}
use Rattle.mlk_program.proofs.DistinctNames.{cut_trees, next_trees}

pub entry_count-append : (before after : List RoutineTree) → entry_count (before ++ after) ≡ entry_count before + entry_count after
entry_count-append [] after = omega (arith)
entry_count-append (tree ∷ before) after =
    let more = entry_count-append before after in
    omega (arith, more)

-- routines before, and one more
module _ (routines : List Routine) (i : ℕ) (x : Routine) (low : i < length routines) (is : x ≡ get_or routines i x) where
  own : entry_count (routine_of x ∷ []) ≡ entries_among (map line_of x.lines.items)
  own = ap (λ lines. entries_among lines + 0) (lines_same (map line_of x.lines.items)) ∙ omega (arith)

  counted : entry_count (trees (take (i + 1) routines)) ≡ entry_count (trees (take i routines)) + entries_among (map line_of x.lines.items)
  counted = ap entry_count (next_trees routines i x low is) ∙ entry_count-append (trees (take i routines)) (routine_of x ∷ [])
      ∙ ap (λ n. entry_count (trees (take i routines)) + n) own

  size : length (trees (take (i + 1) routines)) ≡ suc i
  size = ap length (next_trees routines i x low is) ∙ length-append (trees (take i routines)) (routine_of x ∷ [])
      ∙ ap (λ n. n + 1) (length-map (take i routines) routine_of ∙ length-take-le i routines (le_of_lt low)) ∙ omega (arith)

  -- what holds of the routines so far
  abbrev pub Within : ℕ → ℕ → Type 0
  Within n entries = (AreTooMany (trees (take n routines)) → ⊥) × (entries ≡ entry_count (trees (take n routines)))

  pub past_limit : (entries sum : ℕ) → Within i entries
      → sum ≡ min (entries + entries_among (map line_of x.lines.items)) 18446744073709551615
      → (65535 ≤ i) ⊎ (1048575 < sum) → (fault : Fault) → IsFaultAt TooMany x.name 1 1 fault
      → IsPastLimit (trees routines) fault
  past_limit entries sum w s many fault f =
      (trees (take i routines), trees (drop (i + 1) routines), routine_of x, cut_trees routines i x low is, w.0, over, f)
    where
      over : AreTooMany (trees (take i routines) ++ routine_of x ∷ [])
      over = subst AreTooMany (next_trees routines i x low is) (⊎_elim
          (λ h. inl (omega (arith, h, size)))
          (λ h. let e = w.1 in inr (omega (arith, h, s, e, counted)))
          many)

  pub within_next : (entries sum : ℕ) → Within i entries
      → sum ≡ min (entries + entries_among (map line_of x.lines.items)) 18446744073709551615
      → i < 65535 → sum ≤ 1048575 → Within (i + 1) sum
  within_next entries sum w s few low_sum = (
    ⊎_elim (λ h. omega (arith, h, size, few)) (λ h. let e = w.1 in omega (arith, h, s, e, counted, low_sum)),
    (let e = w.1 in omega (arith, s, e, counted, low_sum)),
  )
