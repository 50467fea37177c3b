-- Faults in order: the code's set of faults, and faults that are added one after another.
use Rattle.std.proofs.Common.{◌≡◌, List, [], ◌∷◌, ◌++◌, map, refl, ap, ◌∙◌}
use Rattle.std.specs.Ordering.{match_ordering, nat_cmp, ordering_then}
use Rattle.std.specs.declared.cmp.Ordering.{Ordering}
use Rattle.std.specs.declared.cmp.Ordering.TheVariants.{Less, Equal, Greater}
use Rattle.std.specs.BTreeMap.{insert_entry}
use Rattle.mlk_walk_exprs.specs.contracts.walk.FaultOrd.TheImpl.{ghosts}
use Rattle.mlk_walk_exprs.specs.declared.walk.Fault.{Fault}
use Rattle.mlk_walk.specs.Faults.{fault_cmp, put_fault, put_faults}
use Rattle.mlk_walk.proofs.CodeOrder.{by_number}

-- The derived order of faults is by line, column and number,
compared : (f g : Fault) → ghosts.cmp f g ≡ fault_cmp f g
unfolding fault_cmp
compared f g = ap (λ o. ordering_then (nat_cmp f.line g.line) (ordering_then (nat_cmp f.column g.column) o)) (by_number f.code g.code)

-- so a fault is inserted where it belongs.
pub keys_inserted : {X : Type 0} (f : Fault) (x : X) (es : List (Fault × X))
    → map (λ e. e.0) (insert_entry ghosts.cmp es f x) ≡ put_fault f (map (λ e. e.0) es)
keys_inserted f x [] = refl
keys_inserted f x (e ∷ es) =
    ap (λ o. map (λ e. e.0) (match_ordering o ((f, x) ∷ e ∷ es) ((e.0, x) ∷ es) (e ∷ insert_entry ghosts.cmp es f x))) (compared f e.0)
    ∙ placed (fault_cmp f e.0) (keys_inserted f x es)
  where
    placed : (o : Ordering) → map (λ e. e.0) (insert_entry ghosts.cmp es f x) ≡ put_fault f (map (λ e. e.0) es)
        → map (λ e. e.0) (match_ordering o ((f, x) ∷ e ∷ es) ((e.0, x) ∷ es) (e ∷ insert_entry ghosts.cmp es f x))
        ≡ match_ordering o (f ∷ map (λ e. e.0) (e ∷ es)) (map (λ e. e.0) (e ∷ es)) (e.0 ∷ put_fault f (map (λ e. e.0) es))
    placed Less later = refl
    placed Equal later = refl
    placed Greater later = ap (λ rest. e.0 ∷ rest) later

pub put_both : (faults more others : List Fault) → put_faults (faults ++ more) others ≡ put_faults faults (put_faults more others)
put_both [] more others = refl
put_both (f ∷ faults) more others = ap (put_fault f) (put_both faults more others)

-- the last of items whose faults are added
pub put_last_of : {A : Type 0} (fault : A → Fault) (items : List A) (a : A) (others : List Fault)
    → put_faults (map fault (items ++ a ∷ [])) others ≡ put_faults (map fault items) (put_fault (fault a) others)
put_last_of fault [] a others = refl
put_last_of fault (b ∷ items) a others = ap (put_fault (fault b)) (put_last_of fault items a others)

pub map_both : {A B C : Type 0} (f : A → B) (g : B → C) (items : List A) → map (λ a. g (f a)) items ≡ map g (map f items)
map_both f g [] = refl
map_both f g (a ∷ items) = ap (λ l. g (f a) ∷ l) (map_both f g items)
