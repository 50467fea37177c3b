-- The elements of a section, one by one.
use Rattle.std.proofs.Common.{◌≡◌, ℕ, suc, add-one, ◌+◌, ◌<◌, List, [], ◌∷◌, ◌++◌, length, drop, refl, sym, ap, ◌∙◌, append_assoc}
use Rattle.std.specs.Prelude.{slice_index_or, Ok, Err}
use Rattle.toml.specs.Data.{Data, Items, no_items, item}
use Rattle.toml.specs.declared.value.Value.{Value}
use Rattle.toml.specs.View.{view, items_view}
use Rattle.mlk_rules_file.specs.RuleAnswers.{Answer, next, answer_map}
use Rattle.mlk_rules_file.specs.RuleSections.{put_first, each}
use Rattle.mlk_rules.proofs.CheckLemmas.{drop_step}
use Rattle.mlk_rules.proofs.SoundLemmas.{Each, each_cons}

put-put : {A : Type 0} (front more : List A) (o : Answer (List A)) → put_first front (put_first more o) ≡ put_first (front ++ more) o
put-put front more (Ok xs) = ap Ok (sym (append_assoc front more xs))
put-put front more (Err f) = refl

-- one more turn of the code's loop over elements
pub each_goes : {A : Type 0} (read : ℕ → Data → Answer A) (front : List A) (i : ℕ) (values : List Value) (v : Value) (x : A) (whole : Answer (List A))
    → i < length values → v ≡ slice_index_or values i v → read (i + 1) (view v) ≡ Ok x → put_first front (each read (i + 1) (items_view (drop i values))) ≡ whole
    → put_first (front ++ x ∷ []) (each read (i + 1 + 1) (items_view (drop (i + 1) values))) ≡ whole
each_goes read front i values v x whole l is one h =
    let rest = items_view (drop (i + 1) values) in
    let here : each read (i + 1) (item (view v) rest) ≡ put_first (x ∷ []) (each read (suc (i + 1)) rest) = rw one refl in
    let split : each read (i + 1) (items_view (drop i values)) ≡ put_first (x ∷ []) (each read (i + 1 + 1) rest) =
    ap (λ vs. each read (i + 1) (items_view vs)) (drop_step values i v l is) ∙ here ∙ ap (λ n. put_first (x ∷ []) (each read n rest)) (sym (add-one (i + 1))) in
    sym (put-put front (x ∷ []) (each read (i + 1 + 1) rest)) ∙ ap (put_first front) (sym split) ∙ h

pub next_read : {A B : Type 0} (o : Answer A) (f : A → Answer B) (y : B) → next o f ≡ Ok y → (x : A) × (o ≡ Ok x) × (f x ≡ Ok y)
next_read (Ok x) f y h = (x, refl, h)
next_read (Err e) f y h = cc h

pub same_Ok : {A : Type 0} (x y : A) → ◌≡◌ {A = Answer A} (Ok x) (Ok y) → x ≡ y
same_Ok x y h = cc h

map_read : {A B : Type 0} (f : A → B) (o : Answer A) (y : B) → answer_map f o ≡ Ok y → (x : A) × (o ≡ Ok x) × (f x ≡ y)
map_read f (Ok x) y h = (x, refl, same_Ok (f x) y h)
map_read f (Err e) y h = cc h

-- what holds of each result of a reader holds of all that were read
pub each_have : {A : Type 0} (read : ℕ → Data → Answer A) (P : A → Type 0) → ((k : ℕ) (d : Data) (x : A) → read k d ≡ Ok x → P x)
    → (k : ℕ) (ds : Items) (xs : List A) → each read k ds ≡ Ok xs → Each P xs
each_have {A} read P h k no_items xs is = let e : [] ≡ xs = same_Ok [] xs is in rw (← e) (λ j x at. cc at)
each_have {A} read P h k (item d ds) xs is =
    let n = next_read (read k d) (λ x. put_first (x ∷ []) (each read (suc k) ds)) xs is in
    let m = map_read (λ ys. n.0 ∷ ys) (each read (suc k) ds) xs n.2 in
    (each_cons P n.0 m.0 xs (sym m.2) (h k d n.0 n.1)).0 (each_have read P h (suc k) ds m.0 m.1)
