-- Names in their order, as in a tree of their bytes.
use Rattle.std.proofs.Common.{◌≡◌, ℕ, List, [], ◌∷◌, refl, ap, map, Vec, Global}
use Rattle.std.specs.BTreeSet.{insert_key}
use Rattle.std.specs.Ordering.{nat_cmp, match_ordering}
use Rattle.std.specs.declared.cmp.Ordering.{Ordering}
use Rattle.std.specs.declared.cmp.Ordering.TheVariants.{Less, Equal, Greater}
use Rattle.std.specs.Cmp.Lexicographic.{slice_cmp}

abbrev pub bytes_in : Vec ℕ Global → List ℕ
bytes_in v = v.items

pub put_bytes : (keys : List (Vec ℕ Global)) (k : Vec ℕ Global)
    → map (λ v. v.items) (insert_key (λ (v w : Vec ℕ Global). slice_cmp nat_cmp v.items w.items) keys k)
    ≡ insert_key (slice_cmp nat_cmp) (map (λ v. v.items) keys) k.items
put_bytes [] k = refl
put_bytes (x ∷ xs) k = by_order (put_bytes xs k) (slice_cmp nat_cmp k.items x.items)
  where
    by_order : map bytes_in (insert_key (λ (v w : Vec ℕ Global). slice_cmp nat_cmp v.items w.items) xs k)
        ≡ insert_key (slice_cmp nat_cmp) (map bytes_in xs) k.items
        → (o : Ordering)
        → map bytes_in (match_ordering o (k ∷ x ∷ xs) (x ∷ xs) (x ∷ insert_key (λ (v w : Vec ℕ Global). slice_cmp nat_cmp v.items w.items) xs k))
        ≡ match_ordering o (k.items ∷ x.items ∷ map bytes_in xs) (x.items ∷ map bytes_in xs) (x.items ∷ insert_key (slice_cmp nat_cmp) (map bytes_in xs) k.items)
    by_order h Less = refl
    by_order h Equal = refl
    by_order h Greater = ap (λ (z : List (List ℕ)). x.items ∷ z) h
