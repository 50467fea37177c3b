-- Names that are lent, and their bytes.
use Rattle.std.proofs.Common.{◌≡◌, refl, ap, ℕ, List, [], ◌∷◌, map, Bool, ◌||◌}
use Rattle.std.specs.Borrow.{Bor}
use Rattle.std.specs.List.{list_any}

pub any_now : (f : List ℕ → Bool) (names : List (Bor (List ℕ))) → list_any (λ n. f n.now) names ≡ list_any f (map (λ n. n.now) names)
any_now f [] = refl
any_now f (n ∷ names) = ap (λ b. f n.now || b) (any_now f names)
