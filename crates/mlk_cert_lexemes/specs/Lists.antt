-- Definitions on lists. This project's own.
use Rattle.std.specs.Prelude.{ℕ, ◌&&◌, ◌==◌, not, nat_lt, if◌then◌else◌, Bool, true, false, List, ◌∷◌, ◌++◌, Option, Some, None, []}

-- all items have the property
abbrev pub Each : {A : Type 0} → (A → Type 0) → List A → Type 0
Each Is [] = Unit {0}
Each Is (a ∷ items) = Is a × Each Is items

-- the items at the same index of two lists of the same length have the property
abbrev pub EachPair : {A B : Type 0} → (A → B → Type 0) → List A → List B → Type 0
EachPair Is [] [] = Unit {0}
EachPair Is [] (b ∷ others) = ⊥
EachPair Is (a ∷ items) [] = ⊥
EachPair Is (a ∷ items) (b ∷ others) = Is a b × EachPair Is items others

-- the texts of items, one after another
abbrev pub flat : {A : Type 0} → (A → List ℕ) → List A → List ℕ
flat text [] = []
flat text (a ∷ items) = text a ++ flat text items

-- the texts of items, each after a given byte
abbrev pub more : {A : Type 0} → ℕ → (A → List ℕ) → List A → List ℕ
more between text [] = []
more between text (a ∷ items) = between ∷ (text a ++ more between text items)

-- the texts of items, separated by a given byte
abbrev pub joined : {A : Type 0} → ℕ → (A → List ℕ) → List A → List ℕ
joined between text [] = []
joined between text (a ∷ items) = text a ++ more between text items

-- the last item
abbrev pub last_of : {A : Type 0} → List A → Option A
last_of [] = None
last_of (a ∷ []) = Some a
last_of (a ∷ b ∷ items) = last_of (b ∷ items)

-- each item is before the next
abbrev pub ascends : {A : Type 0} → (A → A → Bool) → List A → Bool
ascends before [] = true
ascends before (a ∷ []) = true
ascends before (a ∷ b ∷ items) = before a b && ascends before (b ∷ items)

-- plain byte order: the first text is not above the second
abbrev pub upto : List ℕ → List ℕ → Bool
upto [] ys = true
upto (x ∷ xs) [] = false
upto (x ∷ xs) (y ∷ ys) = if x == y then upto xs ys else nat_lt x y

-- plain byte order: the first text is below the second
abbrev pub below : List ℕ → List ℕ → Bool
below xs ys = not (upto ys xs)
