-- How often a job holds each lock name. Restates ISO/IEC 11756, LOCK: a name that is claimed again is held once more,
-- and has to be released as often. The greatest count is this project's own choice.
use Rattle.std.specs.Prelude.{ℕ, zero, suc, ◌+◌, nat_le, nat_lt, Bool, false, ◌&&◌, ◌||◌, if◌then◌else◌, List, [], ◌∷◌}
use Rattle.std.specs.Prelude.{Option, Some, None}
use Rattle.std.specs.List.{list_all}
use Rattle.mlk_names.specs.declared.lock_name.LockName.{LockName}
use Rattle.mlk_machine_locks.specs.NameTests.{same_name, in_conflict}

-- names, each with its count; a name that is not listed is not held
abbrev pub Counts : Type 0
Counts = List (LockName × ℕ)

abbrev pub count_of : Counts → LockName → ℕ
count_of [] n = 0
count_of (h ∷ hs) n = (if same_name h.0 n then h.1 else 0) + count_of hs n

-- adds one to the count of a name
abbrev pub raised : LockName → Counts → Counts
raised n [] = (n, 1) ∷ []
raised n (h ∷ hs) = if same_name h.0 n then (h.0, suc h.1) ∷ hs else h ∷ raised n hs

-- Subtracts one from the count of a name that is held: from its entry, with the entries after it.
abbrev pub without_one : LockName → ℕ → Counts → Counts → Counts
without_one m zero hs rest = (m, 0) ∷ rest
without_one m (suc zero) hs rest = hs
without_one m (suc (suc k)) hs rest = (m, suc k) ∷ hs

abbrev pub lowered : LockName → Counts → Counts
lowered n [] = []
lowered n (h ∷ hs) = if same_name h.0 n then without_one h.0 h.1 hs (lowered n hs) else h ∷ lowered n hs

-- adds one to, or subtracts one from, the count of each name of a list: a name that occurs k times counts k times
abbrev pub all_raised : List LockName → Counts → Counts
all_raised [] held = held
all_raised (n ∷ ns) held = all_raised ns (raised n held)

abbrev pub all_lowered : List LockName → Counts → Counts
all_lowered [] held = held
all_lowered (n ∷ ns) held = all_lowered ns (lowered n held)

-- some held name conflicts with the given one, so that no other job may hold it
abbrev pub excludes : Counts → LockName → Bool
excludes [] n = false
excludes (h ∷ hs) n = (nat_lt 0 h.1 && in_conflict n h.0) || excludes hs n

-- once all of these are claimed, no count of one of them exceeds the maximum
abbrev pub greatest_count : ℕ
greatest_count = 4294967295

abbrev pub has_room : List LockName → Counts → Bool
has_room names held = list_all (λ n. nat_le (count_of (all_raised names held) n) greatest_count) names

-- the locks that are held once all of these are claimed, if the counts allow it
abbrev pub claimed : List LockName → Counts → Option Counts
claimed names held = if has_room names held then Some (all_raised names held) else None
