-- Blocks under the lines that head them.
use Rattle.std.proofs.Common.{◌≡◌, ◌<◌, ℕ, suc, List, [], ◌∷◌, ◌++◌, refl, sym, ap, ◌∙◌, arith, subst, append_assoc, append-nil}
use Rattle.mlk_syntax.specs.Trees.{HeadTree, LineTrees, no_lines, line}
use Rattle.mlk_routine.specs.RoutineGrammar.{heads_of, level_of, AreNested}

-- what follows a block: nothing, or a line of a lower level
abbrev Below : ℕ → List HeadTree → Type 0
Below n [] = Unit {0}
Below n (h ∷ heads) = level_of h < n

below_more : (n : ℕ) (heads : List HeadTree) → Below n heads → Below (suc n) heads
below_more n [] h = tt
below_more n (head ∷ heads) h = omega (arith, h)

below_lines : (n : ℕ) (lines : LineTrees) (heads : List HeadTree) → AreNested n lines → Below n heads → Below (suc n) (heads_of lines ++ heads)
below_lines n no_lines heads is h = below_more n heads h
below_lines n (line head block rest) heads is h = omega (arith, is.0)

-- no line of this level is among those below it
not_below : (n : ℕ) (head : HeadTree) (rest heads : List HeadTree) → level_of head ≡ n → heads ≡ head ∷ rest → Below n heads → ⊥
not_below n head rest heads level is h = let bad = subst (λ l. Below n l) is h in omega (arith, level, bad)

heads_same : (h k : HeadTree) (xs ys : List HeadTree) → h ∷ xs ≡ k ∷ ys → (h ≡ k) × (xs ≡ ys)
heads_same h k xs ys e = (cc e, cc e)

nesting_from : (n : ℕ) (a b : LineTrees) (xs ys : List HeadTree) → AreNested n a → AreNested n b → Below n xs → Below n ys → heads_of a ++ xs ≡ heads_of b ++ ys → (a ≡ b) × (xs ≡ ys)
nesting_from n no_lines no_lines xs ys f g below_x below_y h = (refl, h)
nesting_from n no_lines (line k block rest) xs ys f g below_x below_y h = absurd (not_below n k _ xs g.0 h below_x)
nesting_from n (line k block rest) no_lines xs ys f g below_x below_y h = absurd (not_below n k _ ys f.0 (sym h) below_y)
nesting_from n (line h block rest) (line k under next) xs ys f g below_x below_y e =
    let same : (h ≡ k) × ((heads_of block ++ heads_of rest) ++ xs ≡ (heads_of under ++ heads_of next) ++ ys) = heads_same h k _ _ e in
    let apart = sym (append_assoc (heads_of block) (heads_of rest) xs) ∙ same.1 ∙ append_assoc (heads_of under) (heads_of next) ys in
    let first = nesting_from (suc n) block under (heads_of rest ++ xs) (heads_of next ++ ys) f.2 g.2 (below_lines n rest xs f.3 below_x) (below_lines n next ys g.3 below_y) apart in
    let second = nesting_from n rest next xs ys f.3 g.3 below_x below_y first.1 in
    (ap (λ x. line x block rest) same.0 ∙ ap (λ x. line k x rest) first.0 ∙ ap (λ x. line k under x) second.0, second.1)

-- Lines are nested in only one way.
pub nested_once : (n : ℕ) (a b : LineTrees) → AreNested n a → AreNested n b → heads_of a ≡ heads_of b → a ≡ b
nested_once n a b f g h = (nesting_from n a b [] [] f g tt tt (append-nil (heads_of a) ∙ h ∙ sym (append-nil (heads_of b)))).0
