-- Names that are among names.
use Rattle.std.proofs.Common.{List, [], ◌∷◌, Contains}
use Rattle.mlk_cert_lexemes.specs.Lists.{Each}
use Rattle.mlk_names.proofs.ListLemmas.{contains_first, contains_later}

each_later : {X : Type 0} (y : X) (all names : List X) → Each (Contains all) names → Each (Contains (y ∷ all)) names
each_later y all [] h = h
each_later y all (x ∷ names) h = (contains_later y all x h.0, each_later y all names h.1)

-- each item of a list is among its items
pub each_itself : {X : Type 0} (xs : List X) → Each (Contains xs) xs
each_itself [] = tt
each_itself (x ∷ xs) = (contains_first x xs, each_later x xs xs (each_itself xs))
