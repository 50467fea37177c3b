-- Steps along lists.
use Rattle.std.proofs.Common.{◌≡◌, Bool, true, false, not, List, [], ◌∷◌, ◌++◌, Option, Some, None, refl, ap, append_assoc, ⊎_elim}
use Rattle.std.specs.Prelude.{filter, ◌||◌, option_map}
use Rattle.std.specs.List.{list_any}
use Rattle.std.proofs.lemmas.Bool.{cases_Bool}
use Rattle.mlk_walk_state.specs.Lists.{all_some}

-- if no item passes the test, removing those that do leaves all
pub none_filtered : {A : Type 0} (test : A → Bool) (items : List A) → list_any test items ≡ false → filter (λ a. not (test a)) items ≡ items
none_filtered test [] h = refl
none_filtered test (a ∷ items) h =
    ⊎_elim (λ (e : test a ≡ true). let f : test a || list_any test items ≡ false = h in absurd (let g : true ≡ false = rw e at f in cc))
    (λ (e : test a ≡ false). let f : list_any test items ≡ false = rw e at h in rw e (ap (λ (z : List _). a ∷ z) (none_filtered test items f)))
    (cases_Bool (test a))

-- one more item that yields something, and one that yields nothing
pub some_more : {A B : Type 0} (by : A → Option B) (a : A) (items : List A) (found : List B) (b : B) → by a ≡ Some b
    → option_map (λ bs. (found ++ b ∷ []) ++ bs) (all_some by items) ≡ option_map (λ bs. found ++ bs) (all_some by (a ∷ items))
some_more {A} {B} by a items found b e = rw e (after (all_some by items))
  where
    after : (o : Option (List B)) → option_map (λ bs. (found ++ b ∷ []) ++ bs) o ≡ option_map (λ bs. found ++ bs) (option_map (λ bs. b ∷ bs) o)
    after None = refl
    after (Some bs) = ap Some (append_assoc found (b ∷ []) bs)

pub none_then : {A B : Type 0} (by : A → Option B) (a : A) (items : List A) (found : List B) → by a ≡ None
    → option_map (λ bs. found ++ bs) (all_some by (a ∷ items)) ≡ None
none_then by a items found e = rw e refl
