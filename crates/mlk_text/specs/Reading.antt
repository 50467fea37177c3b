-- Combinators of readers of byte texts, as functions on lists and as relations. A reader returns what it read and the rest, or
-- nothing. This project's own.
use Rattle.std.specs.Prelude.{ℕ, zero, suc, ◌≡◌, List, [], ◌∷◌, ◌++◌, length, ◌≤◌, ◌<◌, Option, Some, None, ◌==◌, if◌then◌else◌}

-- sequencing
infixl 10 ◌>>=◌
abbrev pub ◌>>=◌ : {A B : Type 0} → Option A → (A → Option B) → Option B
None >>= f = None
(Some x) >>= f = f x

-- applies a function to what was read
abbrev pub with : {A B : Type 0} → (A → B) → Option (A × List ℕ) → Option (B × List ℕ)
with f None = None
with f (Some r) = Some (f r.0, r.1)

-- puts items before those that were read
abbrev pub put : {A : Type 0} → List A → Option (List A × List ℕ) → Option (List A × List ℕ)
put front read = with (λ items. front ++ items) read

-- as long as a head is at the front, an item must follow it; the count exceeds the length of the text
abbrev pub many_by : {A B : Type 0} → (B → List ℕ → Option (A × List ℕ)) → (List ℕ → Option (List A × List ℕ)) → List ℕ
    → Option (B × List ℕ) → Option (List A × List ℕ)
many_by item more xs None = Some ([], xs)
many_by item more xs (Some h) = item h.0 h.1 >>= λ a. put (a.0 ∷ []) (more a.1)

unfoldable pub many : {A B : Type 0} → (List ℕ → Option (B × List ℕ)) → (B → List ℕ → Option (A × List ℕ)) → ℕ → List ℕ
    → Option (List A × List ℕ)
many head item zero xs = None
many head item (suc n) xs = many_by item (many head item n) xs (head xs)

-- an item, then more items, each after a separator, which `next` finds
abbrev pub separated : {A : Type 0} → (List ℕ → Option (ℕ × List ℕ)) → (List ℕ → Option (A × List ℕ)) → List ℕ → Option (List A × List ℕ)
separated next item xs =
    item xs >>= λ first. put (first.0 ∷ []) (many next (λ _. item) (suc (length first.1)) first.1)

-- `many` as a relation: items, each after a head, as long as there are heads, and the rest
abbrev pub Many : {A B : Type 0} → (List ℕ → Option (B × List ℕ)) → (B → A → List ℕ → List ℕ → Type 0) → List A → List ℕ → List ℕ → Type 0
Many head Item [] xs ys = (xs ≡ ys) × (head xs ≡ None)
Many {B = B} head Item (a ∷ items) xs ys = (b : B) × (m n : List ℕ) × (head xs ≡ Some (b, m)) × Item b a m n × Many head Item items n ys

-- `separated` as a relation: items, each but the first after a separator
abbrev pub Separated : {A : Type 0} → (List ℕ → Option (ℕ × List ℕ)) → (A → List ℕ → List ℕ → Type 0) → List A → List ℕ → List ℕ → Type 0
Separated {A = A} next Item items xs ys =
    (first : A) × (others : List A) × (m : List ℕ) × Item first xs m × Many next (λ _. Item) others m ys × (items ≡ first ∷ others)

-- the list after a given byte
abbrev pub after_byte : ℕ → List ℕ → Option (List ℕ)
after_byte b [] = None
after_byte b (x ∷ xs) = if x == b then Some xs else None

-- `Many` without an end: items, each after a head, and any rest
abbrev pub Begins : {A B : Type 0} → (List ℕ → Option (B × List ℕ)) → (B → A → List ℕ → List ℕ → Type 0) → List A → List ℕ → List ℕ → Type 0
Begins head Item [] xs ys = xs ≡ ys
Begins {B = B} head Item (a ∷ items) xs ys = (b : B) × (m n : List ℕ) × (head xs ≡ Some (b, m)) × Item b a m n × Begins head Item items n ys

-- a reader whose rest is not longer than its input, and one whose rest is shorter
abbrev pub Leaves : {A : Type 0} → (List ℕ → Option (A × List ℕ)) → Type 0
Leaves {A} item = (a : A) (xs ys : List ℕ) → item xs ≡ Some (a, ys) → length ys ≤ length xs

abbrev pub Shortens : {A : Type 0} → (List ℕ → Option (A × List ℕ)) → Type 0
Shortens {A} head = (a : A) (xs ys : List ℕ) → head xs ≡ Some (a, ys) → length ys < length xs
