-- Lists that begin other lists, and what holds element by element.
use Rattle.std.proofs.Common.{◌≡◌, ◌⊎◌, inl, inr, List, [], ◌∷◌, ◌++◌, length, arith, refl, sym, ◌∙◌, subst}
use Rattle.std.specs.Prelude.{Contains, map}
use Rattle.std.specs.List.{AllZip}
use Rattle.std.proofs.lemmas.List.Elements.{Contains-append_cases, Contains-append_left, Contains-append_right, Contains-push, Contains-push_cases}
use Rattle.mlk_names.specs.Lists.{Begins}

pub begins_none : {X : Type 0} (ys : List X) → Begins [] ys
begins_none ys = record { tail = ys; is = refl }

pub begins_from_none : {X : Type 0} (xs ys : List X) → length xs ≡ 0 → Begins xs ys
begins_from_none [] ys h = begins_none ys
begins_from_none (x ∷ xs) ys h = absurd (omega arith)

pub begins_past : {X : Type 0} (x : X) (xs : List X) → Begins (x ∷ xs) [] → ⊥
begins_past {X} x xs h = let e : x ∷ (xs ++ h.tail) ≡ [] = h.is in cc

pub begins_cons : {X : Type 0} (x y : X) (xs ys : List X) → x ≡ y → Begins xs ys → Begins (x ∷ xs) (y ∷ ys)
begins_cons {X} x y xs ys e h = let i : xs ++ h.tail ≡ ys = h.is in record { tail = h.tail; is = cc }

pub begins_head : {X : Type 0} (x y : X) (xs ys : List X) → Begins (x ∷ xs) (y ∷ ys) → x ≡ y
begins_head {X} x y xs ys h = let e : x ∷ (xs ++ h.tail) ≡ y ∷ ys = h.is in cc

pub begins_tail : {X : Type 0} (x y : X) (xs ys : List X) → Begins (x ∷ xs) (y ∷ ys) → Begins xs ys
begins_tail {X} x y xs ys h =
    let e : x ∷ (xs ++ h.tail) ≡ y ∷ ys = h.is in
    let i : xs ++ h.tail ≡ ys = cc in record { tail = h.tail; is = i }

pub begins_itself : {X : Type 0} (xs : List X) → Begins xs xs
begins_itself [] = begins_none []
begins_itself (x ∷ xs) = begins_cons x x xs xs refl (begins_itself xs)

pub begins_on : {X : Type 0} (xs ys zs : List X) → Begins xs ys → Begins ys zs → Begins xs zs
begins_on [] ys zs h k = begins_none zs
begins_on (x ∷ xs) [] zs h k = absurd (begins_past x xs h)
begins_on (x ∷ xs) (y ∷ ys) [] h k = absurd (begins_past y ys k)
begins_on (x ∷ xs) (y ∷ ys) (z ∷ zs) h k =
    begins_cons x z xs zs (begins_head x y xs ys h ∙ begins_head y z ys zs k) (begins_on xs ys zs (begins_tail x y xs ys h) (begins_tail y z ys zs k))

-- of two beginnings of one list, one begins the other
pub begins_two : {X : Type 0} (xs ys zs : List X) → Begins xs zs → Begins ys zs → Begins xs ys ⊎ Begins ys xs
begins_two [] ys zs h k = inl (begins_none ys)
begins_two (x ∷ xs) [] zs h k = inr (begins_none (x ∷ xs))
begins_two (x ∷ xs) (y ∷ ys) [] h k = absurd (begins_past x xs h)
begins_two (x ∷ xs) (y ∷ ys) (z ∷ zs) h k =
    let e : x ≡ y = begins_head x z xs zs h ∙ sym (begins_head y z ys zs k) in
    elim (begins_two xs ys zs (begins_tail x z xs zs h) (begins_tail y z ys zs k)) [
      | inl b ↦ inl (begins_cons x y xs ys e b)
      | inr b ↦ inr (begins_cons y x ys xs (sym e) b)
    ]

-- what holds element by element of a whole list holds of its beginning
pub begins_zip : {X Y : Type 0} (R : X → Y → Type 0) → ((x : X) (v w : Y) → R x v → R x w → v ≡ w) → (xs ys : List X) (vs ws : List Y) → Begins xs ys → AllZip R xs vs → AllZip R ys ws → Begins vs ws
begins_zip R one [] ys [] ws b h k = begins_none ws
begins_zip R one [] ys (v ∷ vs) ws b h k = absurd h
begins_zip R one (x ∷ xs) [] vs ws b h k = absurd (begins_past x xs b)
begins_zip R one (x ∷ xs) (y ∷ ys) [] ws b h k = absurd h
begins_zip R one (x ∷ xs) (y ∷ ys) (v ∷ vs) [] b h k = absurd k
begins_zip {X} {Y} R one (x ∷ xs) (y ∷ ys) (v ∷ vs) (w ∷ ws) b h k =
    let e : y ≡ x = sym (begins_head x y xs ys b) in
    let P : X → Type 0 = λ z. R z w in
    begins_cons v w vs ws (one x v w h.0 (subst P e k.0)) (begins_zip R one xs ys vs ws (begins_tail x y xs ys b) h.1 k.1)

-- a relation that follows at each element of a list follows element by element
pub all_zip_at : {X Y : Type 0} (R S : X → Y → Type 0) (xs : List X) (ys : List Y) → ((x : X) (y : Y) → Contains xs x → R x y → S x y) → AllZip R xs ys → AllZip S xs ys
all_zip_at R S [] [] f h = tt
all_zip_at R S [] (y ∷ ys) f h = absurd h
all_zip_at R S (x ∷ xs) [] f h = absurd h
all_zip_at R S (x ∷ xs) (y ∷ ys) f h =
    (f x y (Contains-append_left (x ∷ []) xs x (Contains-push [] x)) h.0, all_zip_at R S xs ys (λ z v c. f z v (Contains-append_right (x ∷ []) xs z c)) h.1)

pub contains_first : {X : Type 0} (x : X) (xs : List X) → Contains (x ∷ xs) x
contains_first x xs = Contains-append_left (x ∷ []) xs x (Contains-push [] x)

pub contains_later : {X : Type 0} (y : X) (xs : List X) (x : X) → Contains xs x → Contains (y ∷ xs) x
contains_later y xs x c = Contains-append_right (y ∷ []) xs x c

pub contains_cases : {X : Type 0} (y : X) (xs : List X) (x : X) → Contains (y ∷ xs) x → (y ≡ x) ⊎ Contains xs x
contains_cases y xs x c =
    elim (Contains-append_cases (y ∷ []) xs x c) [
      | inl h ↦ elim (Contains-push_cases [] y x h) [
        | inl none ↦ absurd (omega (arith, none.1))
        | inr e ↦ inl e
      ]
      | inr h ↦ inr h
    ]

-- each element of the first list is related to one at its index
pub zip_has : {X Y : Type 0} (R : X → Y → Type 0) (xs : List X) (ys : List Y) (x : X) → AllZip R xs ys → Contains xs x → (y : Y) × R x y
zip_has R [] ys x h c = absurd (omega (arith, c.1))
zip_has R (z ∷ xs) [] x h c = absurd h
zip_has {X} {Y} R (z ∷ xs) (y ∷ ys) x h c =
    elim (contains_cases z xs x c) [
      | inl e ↦ let P : X → Type 0 = λ w. R w y in (y, subst P e h.0)
      | inr d ↦ zip_has R xs ys x h.1 d
    ]

-- if each element is related to something, so are all together
pub zip_of_each : {X Y : Type 0} (R : X → Y → Type 0) (xs : List X) → ((x : X) → Contains xs x → (y : Y) × R x y) → (ys : List Y) × AllZip R xs ys
zip_of_each R [] f = ([], tt)
zip_of_each {X} {Y} R (x ∷ xs) f =
    let here = f x (contains_first x xs) in
    let rest : (ys : List Y) × AllZip R xs ys = zip_of_each R xs (λ z c. f z (contains_later x xs z c)) in
    (here.0 ∷ rest.0, (here.1, rest.1))

-- if a relation determines one value, it does so element by element
pub zip_one : {X Y : Type 0} (R : X → Y → Type 0) → ((x : X) (v w : Y) → R x v → R x w → v ≡ w) → (xs : List X) (vs ws : List Y) → AllZip R xs vs → AllZip R xs ws → vs ≡ ws
zip_one R one [] [] [] h k = refl
zip_one R one [] [] (w ∷ ws) h k = absurd k
zip_one R one [] (v ∷ vs) ws h k = absurd h
zip_one R one (x ∷ xs) [] ws h k = absurd h
zip_one R one (x ∷ xs) (v ∷ vs) [] h k = absurd k
zip_one R one (x ∷ xs) (v ∷ vs) (w ∷ ws) h k =
    let e = one x v w h.0 k.0 in
    let f = zip_one R one xs vs ws h.1 k.1 in cc

-- if two lists have one image, and a relation follows for elements of one image, it follows element by element
pub zip_along : {X Y Z V : Type 0} (f : X → Z) (g : Y → Z) (R : X → V → Type 0) (S : Y → V → Type 0) (xs : List X) (ys : List Y) (vs : List V)
    → ((x : X) (y : Y) (v : V) → Contains xs x → Contains ys y → f x ≡ g y → R x v → S y v) → map f xs ≡ map g ys → AllZip R xs vs → AllZip S ys vs
zip_along f g R S [] [] [] one e h = tt
zip_along f g R S [] [] (v ∷ vs) one e h = absurd h
zip_along f g R S [] (y ∷ ys) vs one e h = cc
zip_along f g R S (x ∷ xs) [] vs one e h = cc
zip_along f g R S (x ∷ xs) (y ∷ ys) [] one e h = absurd h
zip_along {X} {Y} {Z} {V} f g R S (x ∷ xs) (y ∷ ys) (v ∷ vs) one e h =
    let d : f x ∷ map f xs ≡ g y ∷ map g ys = e in
    let i : f x ≡ g y = cc in
    let j : map f xs ≡ map g ys = cc in (
      one x y v (contains_first x xs) (contains_first y ys) i h.0,
      zip_along f g R S xs ys vs (λ w z u c k. one w z u (contains_later x xs w c) (contains_later y ys z k)) j h.1,
    )
