-- Columns of names.
use Rattle.std.proofs.Common.{◌≡◌, ℕ, zero, suc, List, [], ◌∷◌, refl, map, drop, length}
use Rattle.mlk_syntax.specs.declared.command.Variable.{Variable}
use Rattle.mlk_syntax.specs.Views.{variable_of}
use Rattle.mlk_walk_commands.specs.Locks.{column_at}

abbrev pub column_first : List Variable → ℕ
column_first [] = 1
column_first (v ∷ names) = v.column

pub column_dropped : (names : List Variable) (index : ℕ) → column_at (map variable_of names) index ≡ column_first (drop index names)
column_dropped [] zero = refl
column_dropped [] (suc index) = refl
column_dropped (v ∷ names) zero = refl
column_dropped (v ∷ names) (suc index) = column_dropped names index

pub column_past : (names : List Variable) → length names ≡ 0 → column_first names ≡ 1
column_past [] e = refl
column_past (v ∷ names) e = absurd cc
