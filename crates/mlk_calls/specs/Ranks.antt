-- The highest rank of held terms. For private clauses only. This project's own.
use Rattle.std.specs.Prelude.{◌≡◌, ℕ, Bool, true, false, nat_lt, List}
use Rattle.mlk_names.specs.declared.term.LockTerm.{LockTerm}
use Rattle.mlk_rules.specs.declared.family.Family.{Family}
use Rattle.mlk_calls.specs.declared.claim.Highest.{Highest}
use Rattle.mlk_calls.specs.declared.claim.Highest.TheVariants.{Nothing, Ranked, Unranked}
use Rattle.mlk_calls.specs.Claims.{all_ranked_below}

-- whether a rank is above all of them
abbrev pub is_above : Highest → ℕ → Bool
is_above Nothing rank = true
is_above (Ranked other) rank = nat_lt other rank
is_above Unranked rank = false

abbrev pub IsHighest : Highest → List Family → List LockTerm → Type 0
IsHighest highest families held = (rank : ℕ) → is_above highest rank ≡ all_ranked_below families held rank
