-- Faults that are sorted ascend, and are the same faults.
use Rattle.std.proofs.Common.{◌≡◌, ℕ, List, [], ◌∷◌, refl, ap, ◌∙◌, ⊎_elim, inl, inr}
use Rattle.std.specs.Prelude.{◌⊎◌}
use Rattle.std.specs.Ordering.{nat_cmp, ordering_then, ordering_reverse, match_ordering}
use Rattle.std.specs.declared.cmp.Ordering.{Ordering}
use Rattle.std.specs.declared.cmp.Ordering.TheVariants.{Less, Equal, Greater}
use Rattle.std.specs.Cmp.{IsTotalOrder}
use Rattle.std.proofs.lemmas.Cmp.{nat_cmp_total, then_total, on_total}
use Rattle.std.proofs.lemmas.Map.Lookups.{exact_unsigned}
use Rattle.mlk_text.specs.declared.code.Code.{Code}
use Rattle.mlk_text.specs.Codes.{number_of}
use Rattle.mlk_text.proofs.CodeLemmas.{number_of-one}
use Rattle.mlk_names.specs.Lists.{Among}
use Rattle.mlk_walk_exprs.specs.declared.walk.Fault.{Fault}
use Rattle.mlk_walk.specs.Faults.{fault_cmp, put_fault, ascending}
use Rattle.mlk_walk.specs.Laws.{IsAscending, FaultsInOrder}

fault_total : IsTotalOrder fault_cmp
unfolding fault_cmp
fault_total = then_total (on_total (λ (f : Fault). f.line) nat_cmp_total) (then_total (on_total (λ (f : Fault). f.column) nat_cmp_total) (on_total (λ (f : Fault). number_of f.code) nat_cmp_total))

then_equal : (a b : Ordering) → ordering_then a b ≡ Equal → (a ≡ Equal) × (b ≡ Equal)
then_equal Less b h = cc
then_equal Equal b h = (refl, h)
then_equal Greater b h = cc

fault_exact : (f g : Fault) → fault_cmp f g ≡ Equal → f ≡ g
unfolding fault_cmp
fault_exact f g h =
    let p = then_equal (nat_cmp f.line g.line) _ h in
    let q = then_equal (nat_cmp f.column g.column) _ p.1 in
    ap (λ (n : ℕ). record f { line = n }) (exact_unsigned f.line g.line p.0)
    ∙ ap (λ (n : ℕ). record g { column = n; code = f.code }) (exact_unsigned f.column g.column q.0)
    ∙ ap (λ (n : Code). record g { code = n }) (number_of-one f.code g.code (exact_unsigned (number_of f.code) (number_of g.code) q.1))

flipped : (f g : Fault) → fault_cmp f g ≡ Greater → fault_cmp g f ≡ Less
flipped f g h = fault_total.antisymm g f ∙ ap ordering_reverse h

-- an inserted fault ascends with the others,
pub put_ascends : (f : Fault) (faults : List Fault) → IsAscending faults → IsAscending (put_fault f faults)
put_ascends f [] h = tt
put_ascends f (x ∷ []) h = one (fault_cmp f x) refl
  where
    one : (o : Ordering) → fault_cmp f x ≡ o → IsAscending (match_ordering o (f ∷ x ∷ []) (x ∷ []) (x ∷ f ∷ []))
    one Less e = (e, tt)
    one Equal e = tt
    one Greater e = (flipped f x e, tt)
put_ascends f (x ∷ y ∷ ys) h = more (fault_cmp f x) (fault_cmp f y) refl (put_ascends f (y ∷ ys) h.1)
  where
    more : (o p : Ordering) → fault_cmp f x ≡ o → IsAscending (match_ordering p (f ∷ y ∷ ys) (y ∷ ys) (y ∷ put_fault f ys)) → IsAscending (match_ordering o (f ∷ x ∷ y ∷ ys) (x ∷ y ∷ ys) (x ∷ match_ordering p (f ∷ y ∷ ys) (y ∷ ys) (y ∷ put_fault f ys)))
    more Less p e k = (e, h)
    more Equal p e k = h
    more Greater Less e k = (flipped f x e, k)
    more Greater Equal e k = (h.0, k)
    more Greater Greater e k = (h.0, k)

-- and is one of them, besides those that were there.
put_in : (g f : Fault) (faults : List Fault) → Among g (put_fault f faults) → (g ≡ f) ⊎ Among g faults
put_in g f [] a = a
put_in g f (x ∷ xs) a = by (fault_cmp f x) (put_in g f xs) a
  where
    by : (o : Ordering) → (Among g (put_fault f xs) → (g ≡ f) ⊎ Among g xs) → Among g (match_ordering o (f ∷ x ∷ xs) (x ∷ xs) (x ∷ put_fault f xs)) → (g ≡ f) ⊎ Among g (x ∷ xs)
    by Less more a = a
    by Equal more a = inr a
    by Greater more a = ⊎_elim (λ e. inr (inl e)) (λ b. ⊎_elim inl (λ c. inr (inr c)) (more b)) a

put_old : (g f : Fault) (faults : List Fault) → Among g faults → Among g (put_fault f faults)
put_old g f [] a = absurd a
put_old g f (x ∷ xs) a = by (fault_cmp f x) (put_old g f xs) a
  where
    by : (o : Ordering) → (Among g xs → Among g (put_fault f xs)) → Among g (x ∷ xs) → Among g (match_ordering o (f ∷ x ∷ xs) (x ∷ xs) (x ∷ put_fault f xs))
    by Less more a = inr a
    by Equal more a = a
    by Greater more a = ⊎_elim inl (λ b. inr (more b)) a

put_new : (f : Fault) (faults : List Fault) → Among f (put_fault f faults)
put_new f [] = inl refl
put_new f (x ∷ xs) = by (fault_cmp f x) refl (put_new f xs)
  where
    by : (o : Ordering) → fault_cmp f x ≡ o → Among f (put_fault f xs) → Among f (match_ordering o (f ∷ x ∷ xs) (x ∷ xs) (x ∷ put_fault f xs))
    by Less e more = inl refl
    by Equal e more = inl (fault_exact f x e)
    by Greater e more = inr more

to : (g : Fault) (faults : List Fault) → Among g (ascending faults) → Among g faults
to g [] a = a
to g (f ∷ faults) a = ⊎_elim inl (λ b. inr (to g faults b)) (put_in g f (ascending faults) a)

from : (g : Fault) (faults : List Fault) → Among g faults → Among g (ascending faults)
from g [] a = a
from g (f ∷ faults) a = ⊎_elim (λ e. subst_new e) (λ b. put_old g f (ascending faults) (from g faults b)) a
  where
    subst_new : g ≡ f → Among g (put_fault f (ascending faults))
    subst_new e = rw e (put_new f (ascending faults))

ascends : (faults : List Fault) → IsAscending (ascending faults)
ascends [] = tt
ascends (f ∷ faults) = put_ascends f (ascending faults) (ascends faults)

pub Theorem : FaultsInOrder
Theorem faults = (ascends faults, λ f. (to f faults, from f faults))
