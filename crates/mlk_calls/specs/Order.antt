-- The order of names. That they are in order is this project's own choice, that of certificates.
use Rattle.std.specs.Prelude.{ℕ, List, [], fold}
use Rattle.std.specs.BTreeSet.{insert_key}
use Rattle.std.specs.Ordering.{nat_cmp}
use Rattle.std.specs.Cmp.Lexicographic.{slice_cmp}

-- names in the order of their bytes, without duplicates
abbrev pub put_names : List (List ℕ) → List (List ℕ) → List (List ℕ)
put_names found names = fold (insert_key (slice_cmp nat_cmp)) found names

abbrev pub in_order : List (List ℕ) → List (List ℕ)
in_order names = put_names [] names
