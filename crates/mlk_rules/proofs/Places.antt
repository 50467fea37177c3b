-- Lists element by element.
use Rattle.std.proofs.Common.{◌≡◌, ℕ, zero, suc, List, [], ◌∷◌, ◌++◌, Some, refl, ap, subst}
use Rattle.std.specs.Prelude.{slice_get}
use Rattle.std.specs.List.{AllZip}
use Rattle.mlk_names.specs.Lists.{Begins}
use Rattle.mlk_names.proofs.ListLemmas.{begins_past, begins_head, begins_tail}

-- a relation along an appended list splits the other list
pub record Split {X Y : Type 0} (R : X → Y → Type 0) (xs xs' : List X) (ys : List Y) : Type 0 where
  pub front : List Y
  pub rest : List Y
  pub is : front ++ rest ≡ ys
  pub of_front : AllZip R xs front
  pub of_rest : AllZip R xs' rest

pub zip_split : {X Y : Type 0} (R : X → Y → Type 0) (xs xs' : List X) (ys : List Y) → AllZip R (xs ++ xs') ys → Split R xs xs' ys
zip_split R [] xs' ys h = record { front = []; rest = ys; is = refl; of_front = tt; of_rest = h }
zip_split R (x ∷ xs) xs' [] h = absurd h
zip_split R (x ∷ xs) xs' (y ∷ ys) h =
    let s = zip_split R xs xs' ys h.1 in
    record { front = y ∷ s.front; rest = s.rest; is = ap (λ zs. y ∷ zs) s.is; of_front = (h.0, s.of_front); of_rest = s.of_rest }

pub zip_append : {X Y : Type 0} (R : X → Y → Type 0) (xs xs' : List X) (ys ys' : List Y) → AllZip R xs ys → AllZip R xs' ys' → AllZip R (xs ++ xs') (ys ++ ys')
zip_append R [] xs' [] ys' h k = k
zip_append R [] xs' (y ∷ ys) ys' h k = absurd h
zip_append R (x ∷ xs) xs' [] ys' h k = absurd h
zip_append R (x ∷ xs) xs' (y ∷ ys) ys' h k = (h.0, zip_append R xs xs' ys ys' h.1 k)

-- two relations along one list compose to a third along the other two
pub zip_through : {X Y Z : Type 0} (R : X → Y → Type 0) (S : Y → Z → Type 0) (Q : X → Z → Type 0) → ((x : X) (y : Y) (z : Z) → R x y → S y z → Q x z) → (xs : List X) (ys : List Y) (zs : List Z) → AllZip R xs ys → AllZip S ys zs → AllZip Q xs zs
zip_through R S Q f [] [] [] h k = tt
zip_through R S Q f [] [] (z ∷ zs) h k = absurd k
zip_through R S Q f [] (y ∷ ys) zs h k = absurd h
zip_through R S Q f (x ∷ xs) [] zs h k = absurd h
zip_through R S Q f (x ∷ xs) (y ∷ ys) [] h k = absurd k
zip_through R S Q f (x ∷ xs) (y ∷ ys) (z ∷ zs) h k = (f x y z h.0 k.0, zip_through R S Q f xs ys zs h.1 k.1)

-- the second list has at an index what is related to the first one's element there
pub zip_at : {X Y : Type 0} (R : X → Y → Type 0) (xs : List X) (ys : List Y) (k : ℕ) (x : X) → AllZip R xs ys → slice_get xs k ≡ Some x → (y : Y) × (slice_get ys k ≡ Some y) × R x y
zip_at R [] ys k x h e = cc
zip_at R (x' ∷ xs) [] k x h e = absurd h
zip_at {X} R (x' ∷ xs) (y ∷ ys) zero x h e =
    let d : x' ≡ x = cc in
    let P : X → Type 0 = λ z. R z y in (y, refl, subst P d h.0)
zip_at R (x' ∷ xs) (y ∷ ys) (suc k) x h e = zip_at R xs ys k x h.1 e

pub begins_at : {X : Type 0} (xs ys : List X) (k : ℕ) (x : X) → Begins xs ys → slice_get xs k ≡ Some x → slice_get ys k ≡ Some x
begins_at [] ys k x b e = cc
begins_at (x' ∷ xs) [] k x b e = absurd (begins_past x' xs b)
begins_at (x' ∷ xs) (y ∷ ys) zero x b e = let d : x' ≡ y = begins_head x' y xs ys b in cc
begins_at (x' ∷ xs) (y ∷ ys) (suc k) x b e = begins_at xs ys k x (begins_tail x' y xs ys b) e

pub begins_more : {X : Type 0} (xs ys : List X) → Begins xs (xs ++ ys)
begins_more xs ys = record { tail = ys; is = refl }
