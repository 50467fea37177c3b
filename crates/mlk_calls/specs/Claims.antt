-- Claims and releases of terms. Standard: LOCK, its timeout; the order of ranks, and what a summary says about claims and
-- releases, are this project's own choice.
use Rattle.std.specs.Prelude.{ℕ, ◌+◌, Bool, true, false, not, nat_lt, nat_le, if◌then◌else◌}
use Rattle.std.specs.Prelude.{List, [], ◌∷◌, Option, Some, None, Result, Ok, Err}
use Rattle.std.specs.List.{list_all}
use Rattle.mlk_text.specs.declared.code.Code.{Code}
use Rattle.mlk_text.specs.declared.code.Code.TheVariants.{NotHeld, Unranked, RankOrder, SummaryShort}
use Rattle.mlk_names.specs.declared.term.LockTerm.{LockTerm}
use Rattle.mlk_rules.specs.declared.family.Family.{Family}
use Rattle.mlk_cert_parts.specs.declared.case.Test.TheVariants.{Zero, One}
use Rattle.mlk_walk_state.specs.declared.state.State.{State}
use Rattle.mlk_walk_state.specs.Terms.{add_terms, taken, is_within, rank_of}
use Rattle.mlk_walk_state.specs.States.{holding, tested}
use Rattle.mlk_walk_state.specs.Scope.{Scope}

-- `-` is above every rank
abbrev pub is_low_enough : Option ℕ → Option ℕ → Bool
is_low_enough low None = true
is_low_enough None (Some rank) = false
is_low_enough (Some low) (Some rank) = nat_le low rank

-- the rank of a held term is below a given one; a term without a rank is below none
abbrev pub is_below : Option ℕ → ℕ → Bool
is_below None rank = false
is_below (Some r) rank = nat_lt r rank

abbrev pub all_ranked_below : List Family → List LockTerm → ℕ → Bool
all_ranked_below families held rank = list_all (λ h. is_below (rank_of families h) rank) held

-- A name at or below a held one needs no rank above others. Otherwise 708 if some held term has no rank or none below its
-- own, and 712 if the summary's least rank is above it.
abbrev pub order_fault : Scope → List LockTerm → LockTerm → ℕ → Option Code
order_fault sc held t rank =
    if is_within held t then None
    else if not (all_ranked_below sc.rules.families held rank) then Some RankOrder
    else if not (is_low_enough sc.summary.low (Some rank)) then Some SummaryShort
    else None

-- The fault of a claim of a name: first 707; a timed claim never waits without end, so it may be in any order.
abbrev pub ranked_fault : Scope → Bool → List LockTerm → LockTerm → Option ℕ → Option Code
ranked_fault sc timed held t None = Some Unranked
ranked_fault sc true held t (Some rank) = None
ranked_fault sc false held t (Some rank) = order_fault sc held t rank

abbrev pub claim_fault : Scope → Bool → List LockTerm → LockTerm → Option Code
claim_fault sc timed held t = ranked_fault sc timed held t (rank_of sc.rules.families t)

-- The names of one claim one after another, each together with what was held before the claim: the index of the first that is
-- refused, and why.
abbrev pub or_here : ℕ → Option Code → Option (ℕ × Code) → Option (ℕ × Code)
or_here index None later = later
or_here index (Some code) later = Some (index, code)

abbrev pub first_refused : (LockTerm → Option Code) → ℕ → List LockTerm → Option (ℕ × Code)
first_refused fault index [] = None
first_refused fault index (t ∷ terms) = or_here index (fault t) (first_refused fault (index + 1) terms)

abbrev pub claim_refused : Scope → Bool → List LockTerm → List LockTerm → Option (ℕ × Code)
claim_refused sc timed held terms = first_refused (claim_fault sc timed held) 0 terms

-- a claim that is granted adds to the held terms
abbrev pub held_too : List LockTerm → State → State
held_too terms s = holding (add_terms terms s.case.held) s

-- An untimed claim that is granted adds to the held terms; a timed one is granted and `$TEST` is 1, or it is not and `$TEST` is
-- 0.
abbrev pub granted : Bool → List LockTerm → State → List State
granted false terms s = held_too terms s ∷ []
granted true terms s = tested One (held_too terms s) ∷ tested Zero s ∷ []

-- The release of all locks: 712 if the summary does not say so. It is a step of its own.
abbrev pub release_all : Scope → State → Result State Code
release_all sc s = if sc.summary.drops then Ok (holding [] s) else Err SummaryShort

-- `LOCK -` of a name: 706, or the name is held once less
abbrev pub one_less : State → Option (List LockTerm) → Result State Code
one_less s None = Err NotHeld
one_less s (Some held) = Ok (holding held s)

abbrev pub release_one : LockTerm → State → Result State Code
release_one t s = one_less s (taken t s.case.held)
