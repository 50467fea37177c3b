-- Points in order. For private clauses only. This project's own.
use Rattle.std.specs.Prelude.{ℕ, Bool, ◌&&◌, ◌||◌, ◌==◌, nat_lt, nat_le, if◌then◌else◌, List, [], Option, Some, None}
use Rattle.mlk_cert_parts.specs.declared.block.Point.{Point}
use Rattle.mlk_cert_parts.specs.declared.case.Case.{Case}
use Rattle.mlk_walk_state.specs.Scope.{is_at}

-- the point is before a line and round
abbrev pub is_before : ℕ → ℕ → Point → Bool
is_before number round p = nat_lt p.line number || ((p.line == number) && nat_lt p.round round)

-- the cases of the point, if it is at the line and round
abbrev pub cases_there : ℕ → ℕ → Option Point → List Case
cases_there number round None = []
cases_there number round (Some p) = if is_at number round p then p.cases else []

-- the point is before a line and round, or there
abbrev pub is_upto : ℕ → ℕ → Point → Bool
is_upto number round p = nat_lt p.line number || ((p.line == number) && nat_le p.round round)
