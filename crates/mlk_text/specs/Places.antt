-- Columns. This project's own choice.
use Rattle.std.specs.Prelude.{ℕ, min}

-- the greatest column; greater ones count as it
abbrev pub greatest_column : ℕ
greatest_column = 4294967295

-- the column of byte number n of a line, from 1
abbrev pub column_at : ℕ → ℕ
column_at n = min n greatest_column
