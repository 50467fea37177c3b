-- The last captured symbols, and the last values.
use Rattle.std.proofs.Common.{◌≡◌, ℕ, zero, suc, ◌+◌, ◌-◌, List, [], ◌∷◌, ◌++◌, length, take, drop, reverse, refl, sym, ap, ◌∙◌, arith, append_assoc, length-append}
use Rattle.std.specs.List.{AllZip}
use Rattle.std.proofs.lemmas.List.{reverse-append}
use Rattle.std.proofs.Math.Seq.{drop-append_seam, take-append_seam}
use Rattle.mlk_names.specs.declared.symbol.Sym.{Sym}
use Rattle.mlk_names.specs.Symbols.{Assignment, StandsFor}
use Rattle.mlk_soundness_machine.specs.Described.{Slot, Kept, Fills}

-- `n` values whose symbols are captured
abbrev pub kepts : ℕ → List Slot → List Slot
kepts zero slots = slots
kepts (suc n) slots = kepts n (Kept ∷ slots)

pub record Taken (a : Assignment) (n : ℕ) (slots : List Slot) (ss : List Sym) (values below : List (List ℕ)) : Type 0 where
  pub front : List Sym
  pub vals : List (List ℕ)
  pub syms : List Sym
  pub more : List (List ℕ)
  pub symbols : ss ≡ reverse front ++ syms
  pub values_are : values ≡ reverse vals ++ more
  pub count : length front ≡ n
  pub many : length vals ≡ n
  pub stand : AllZip (StandsFor a) front vals
  pub fills : Fills a slots syms more below

pub back_one : {A : Type 0} (x : A) (xs ys : List A) → reverse xs ++ x ∷ ys ≡ reverse (x ∷ xs) ++ ys
back_one x xs ys = sym (append_assoc (reverse xs) (x ∷ []) ys) ∙ ap (λ z. z ++ ys) (sym (reverse-append (x ∷ []) xs))

pub taken : (a : Assignment) (n : ℕ) (slots : List Slot) (ss : List Sym) (values below : List (List ℕ)) → Fills a (kepts n slots) ss values below → Taken a n slots ss values below
taken a zero slots ss values below f = record {
  front = [];
  vals = [];
  syms = ss;
  more = values;
  symbols = refl;
  values_are = refl;
  count = refl;
  many = refl;
  stand = tt;
  fills = f;
}
taken a (suc n) slots ss values below f = one (taken a n (Kept ∷ slots) ss values below f)
  where
    by : (r : Taken a n (Kept ∷ slots) ss values below) (syms : List Sym) (more : List (List ℕ)) → r.syms ≡ syms → r.more ≡ more → Fills a (Kept ∷ slots) syms more below
        → Taken a (suc n) slots ss values below
    by r [] more e k f = absurd f
    by r (s ∷ syms) [] e k f = absurd f
    by r (s ∷ syms) (v ∷ more) e k f = record {
      front = s ∷ r.front;
      vals = v ∷ r.vals;
      syms = syms;
      more = more;
      symbols = r.symbols ∙ ap (λ z. reverse r.front ++ z) e ∙ back_one s r.front syms;
      values_are = r.values_are ∙ ap (λ z. reverse r.vals ++ z) k ∙ back_one v r.vals more;
      count = ap suc r.count;
      many = ap suc r.many;
      stand = (f.0, r.stand);
      fills = f.1;
    }

    one : Taken a n (Kept ∷ slots) ss values below → Taken a (suc n) slots ss values below
    one r = by r r.syms r.more refl refl r.fills

pub turned_twice : {A : Type 0} (xs : List A) → reverse (reverse xs) ≡ xs
turned_twice [] = refl
turned_twice (x ∷ xs) = ap reverse (reverse-append (x ∷ []) xs) ∙ reverse-append (reverse xs) (x ∷ []) ∙ ap (λ z. x ∷ z) (turned_twice xs)

pub length_turned : {A : Type 0} (xs : List A) → length (reverse xs) ≡ length xs
length_turned [] = refl
length_turned (x ∷ xs) =
    let e = length-append (reverse xs) (x ∷ []) in
    let f = length_turned xs in
    let g = ap length (reverse-append (x ∷ []) xs) in
    omega (arith, e, f, g)

-- the last captured symbols, oldest first; and the others
module _ (captured : List Sym) (front syms : List Sym) (n : ℕ) (e : reverse captured ≡ reverse front ++ syms) (l : length front ≡ n) where
  pub whole : captured ≡ reverse syms ++ front
  whole = sym (turned_twice captured) ∙ ap reverse e ∙ reverse-append (reverse front) syms ∙ ap (λ z. reverse syms ++ z) (turned_twice front)

  less : length captured - n ≡ length (reverse syms)
  less =
      let a = ap length whole in
      let b = length-append (reverse syms) front in
      omega (arith, a, b, l)

  pub last_are : drop (length captured - n) captured ≡ front
  last_are = ap (λ k. drop k captured) less ∙ ap (drop (length (reverse syms))) whole ∙ drop-append_seam (reverse syms) front

  pub others_are : take (length captured - n) captured ≡ reverse syms
  others_are = ap (λ k. take k captured) less ∙ ap (take (length (reverse syms))) whole ∙ take-append_seam (reverse syms) front

  pub others_turned : reverse (take (length captured - n) captured) ≡ syms
  others_turned = ap reverse others_are ∙ turned_twice syms

-- values, the last one first
module _ (values vals more : List (List ℕ)) (n : ℕ) (e : values ≡ reverse vals ++ more) (l : length vals ≡ n) where
  same : n ≡ length (reverse vals)
  same = sym l ∙ sym (length_turned vals)

  pub taken_are : reverse (take n values) ≡ vals
  taken_are = ap (λ k. reverse (take k values)) same ∙ ap (λ z. reverse (take (length (reverse vals)) z)) e ∙ ap reverse (take-append_seam (reverse vals) more) ∙ turned_twice vals

  pub dropped_are : drop n values ≡ more
  dropped_are = ap (λ k. drop k values) same ∙ ap (drop (length (reverse vals))) e ∙ drop-append_seam (reverse vals) more
