-- The order of own names. That they are in order is this project's own choice, that of certificates.
use Rattle.std.specs.Prelude.{Bool, not, ◌&&◌, List, ◌∷◌, ◌++◌, filter}
use Rattle.mlk_cert_parts.specs.declared.names.Own.{Own}
use Rattle.mlk_cert_parts.specs.Limits.{own_below}
use Rattle.mlk_walk_state.specs.Cases.{same_own}

-- Inserts an item of own names: the other items that are not after it, the item, and those that are after it. Only an equal
-- item of the same level is dropped.
abbrev pub is_before : Own → Own → Bool
is_before o p = not (same_own p o) && not (own_below o p)

abbrev pub put_own : Own → List Own → List Own
put_own o os = filter (is_before o) os ++ o ∷ filter (own_below o) os
