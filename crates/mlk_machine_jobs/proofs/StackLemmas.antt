-- A list without its last elements, seen from its end.
use Rattle.std.proofs.Common.{◌≡◌, ℕ, zero, suc, ◌-◌, ◌≤◌, ◌<◌, get_or, Some, None, List, [], ◌∷◌, ◌++◌, length, take, drop, reverse, sym, ap, ◌∙◌, arith}
use Rattle.std.specs.Prelude.{slice_get}
use Rattle.std.proofs.lemmas.List.{reverse-append, length-reverse, reverse-reverse, take-append-le, take_all, get_or-reverse}
use Rattle.std.proofs.lemmas.Option.{slice_get_past, slice_get-get_or}

reverse_head : {A : Type 0} (x : A) (xs : List A) → reverse (x ∷ xs) ≡ reverse xs ++ x ∷ []
reverse_head x xs = reverse-append (x ∷ []) xs

less : (n m : ℕ) → suc m - suc n ≡ m - n
less n m = omega arith

before_last : {A : Type 0} (n : ℕ) (ys : List A) → take (length ys - n) (reverse ys) ≡ reverse (drop n ys)
before_last zero ys = take_all (length ys - 0) (reverse ys) (omega (arith, length-reverse ys))
before_last (suc n) [] = take_all (0 - suc n) [] (omega arith)
before_last (suc n) (y ∷ ys) =
    let l : length ys - n ≤ length (reverse ys) = omega (arith, length-reverse ys) in
    ap (λ k. take k (reverse (y ∷ ys))) (less n (length ys))
    ∙ ap (take (length ys - n)) (reverse_head y ys)
    ∙ take-append-le (length ys - n) (reverse ys) (y ∷ []) l
    ∙ before_last n ys

pub kept_are : {A : Type 0} (n : ℕ) (xs : List A) → reverse (take (length xs - n) xs) ≡ drop n (reverse xs)
kept_are {A} n xs =
    let e : take (length (reverse xs) - n) (reverse (reverse xs)) ≡ reverse (drop n (reverse xs)) = before_last n (reverse xs) in
    let same : take (length xs - n) xs ≡ take (length (reverse xs) - n) (reverse (reverse xs)) =
    ap (λ k. take (k - n) xs) (sym (length-reverse xs))
    ∙ ap (take (length (reverse xs) - n)) (sym (reverse-reverse xs)) in
    ap reverse (same ∙ e) ∙ reverse-reverse (drop n (reverse xs))

pub replaced_are : {A : Type 0} (n : ℕ) (x : A) (xs : List A)
    → reverse (take (length xs - n) xs ++ x ∷ []) ≡ x ∷ drop n (reverse xs)
replaced_are {A} n x xs = reverse-append (take (length xs - n) xs) (x ∷ []) ∙ ap (λ (ys : List A). x ∷ ys) (kept_are n xs)

pub none_below : {A : Type 0} (xs : List A) (k : ℕ) → length xs ≤ k → slice_get (reverse xs) k ≡ None
none_below xs k h = slice_get_past (reverse xs) k (omega (arith, h, length-reverse xs))

pub at_depth : {A : Type 0} (xs : List A) (k : ℕ) (x : A) → k < length xs → x ≡ get_or xs (length xs - 1 - k) x
    → slice_get (reverse xs) k ≡ Some x
at_depth xs k x l e =
    slice_get-get_or (reverse xs) k x (omega (arith, l, length-reverse xs))
    ∙ ap Some (get_or-reverse xs k x l ∙ sym e)
