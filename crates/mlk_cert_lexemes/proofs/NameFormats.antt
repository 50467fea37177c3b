-- Names and their readers.
use Rattle.std.proofs.Common.{one-add, ◌≡◌, ◌≤◌, ℕ, suc, ◌++◌, List, ◌∷◌, length, take, drop, Some, None, true, false, refl, sym, ap, ◌∙◌, arith, subst, inl, inr, append-nil, take-append-drop, length-take, take_all, []}
use Rattle.std.specs.Prelude.{Option, ◌==◌, ◌&&◌, ◌||◌, nat_le}
use Rattle.std.proofs.Math.Seq.{drop-append_seam, take-append_seam}
use Rattle.std.proofs.lemmas.Bool.{cases_Bool, eqb-true}
use Rattle.std.proofs.lemmas.List.{drop_all}
use Rattle.mlk_text.specs.Lexemes.{byte_at, name_at, name_bytes, is_name_byte, is_letter}
use Rattle.mlk_text.proofs.Readers.{pair_parts}
use Rattle.mlk_cert_lexemes.specs.Texts.{name_text}
use Rattle.mlk_cert_lexemes.specs.Kinds.{ReadsAsName}
use Rattle.mlk_cert_lexemes.proofs.Formats.{Format}

name-is : (text xs ys : List ℕ) → name_at xs ≡ Some (text, ys) → xs ≡ text ++ ys
unfolding name_at
name-is text [] ys h = cc h
name-is text (b ∷ xs) ys h = elim (cases_Bool ((is_letter b || (b == 37)) && nat_le (name_bytes xs) 30)) [
  | inr e ↦ cc (rw e at h)
  | inl e ↦ let p = pair_parts (b ∷ take (name_bytes xs) xs) text (drop (name_bytes xs) xs) ys (rw e at h) in
      sym (ap (λ l. b ∷ l) (take-append-drop (name_bytes xs) xs)) ∙ ap (λ l. l ++ drop (name_bytes xs) xs) p.0 ∙ ap (λ l. text ++ l) p.1
]

-- the name ends where no byte of a name follows
bytes-front : (xs zs : List ℕ) → name_bytes zs ≡ 0 → name_bytes (take (name_bytes xs) xs ++ zs) ≡ name_bytes xs
bytes-front [] zs none = none
bytes-front (b ∷ xs) zs none = elim (cases_Bool (is_name_byte b)) [
  | inl e ↦ rw (e, one-add) (rw e (one-add _ ∙ ap suc (bytes-front xs zs none)))
  | inr e ↦ rw e none
]

-- the name, taken again, leaves nothing
name-rest : (b : ℕ) (xs : List ℕ) → ◌≡◌ {A = Option (List ℕ × List ℕ)} (Some (b ∷ take (name_bytes xs) (take (name_bytes xs) xs), drop (name_bytes xs) (take (name_bytes xs) xs))) (Some (b ∷ take (name_bytes xs) xs, []))
name-rest b xs =
    let short : length (take (name_bytes xs) xs) ≤ name_bytes xs = omega (arith, length-take (name_bytes xs) xs) in
    rw (take_all (name_bytes xs) (take (name_bytes xs) xs) short) (rw (drop_all (name_bytes xs) (take (name_bytes xs) xs) short) refl)

name-again : (b : ℕ) (xs : List ℕ) → ((is_letter b || (b == 37)) && nat_le (name_bytes xs) 30) ≡ true → ReadsAsName (b ∷ take (name_bytes xs) xs)
unfolding name_at
name-again b xs e =
    let n : name_bytes (take (name_bytes xs) xs) ≡ name_bytes xs = ap name_bytes (sym (append-nil (take (name_bytes xs) xs))) ∙ bytes-front xs [] refl in
    rw n (rw e (name-rest b xs))

-- a name is one name to its end
name-whole : (text xs ys : List ℕ) → name_at xs ≡ Some (text, ys) → ReadsAsName text
unfolding name_at
name-whole text [] ys h = cc h
name-whole text (b ∷ xs) ys h = elim (cases_Bool ((is_letter b || (b == 37)) && nat_le (name_bytes xs) 30)) [
  | inr e ↦ cc (rw e at h)
  | inl e ↦ let p = pair_parts (b ∷ take (name_bytes xs) xs) text (drop (name_bytes xs) xs) ys (rw e at h) in
      subst ReadsAsName p.0 (name-again b xs e)
]

bytes-within : (xs : List ℕ) → name_bytes xs ≤ length xs
bytes-within [] = omega arith
bytes-within (b ∷ xs) = elim (cases_Bool (is_name_byte b)) [
  | inl e ↦ rw e (let h = bytes-within xs in omega arith)
  | inr e ↦ rw e (omega arith)
]

-- a front of its own length
pub take-own : (n : ℕ) (m zs : List ℕ) → length m ≡ n → take n (m ++ zs) ≡ m
take-own n m zs e = ap (λ k. take k (m ++ zs)) (sym e) ∙ take-append_seam m zs

pub drop-own : (n : ℕ) (m zs : List ℕ) → length m ≡ n → drop n (m ++ zs) ≡ zs
drop-own n m zs e = ap (λ k. drop k (m ++ zs)) (sym e) ∙ drop-append_seam m zs

name-parts : (b : ℕ) (n xs ys : List ℕ) → name_at (b ∷ xs) ≡ Some (n, ys) → (((is_letter b || (b == 37)) && nat_le (name_bytes xs) 30) ≡ true) × (n ≡ b ∷ take (name_bytes xs) xs)
unfolding name_at
name-parts b n xs ys h = elim (cases_Bool ((is_letter b || (b == 37)) && nat_le (name_bytes xs) 30)) [
  | inr e ↦ cc (rw e at h)
  | inl e ↦ (e, sym (pair_parts (b ∷ take (name_bytes xs) xs) n (drop (name_bytes xs) xs) ys (rw e at h)).0)
]

name-front-at : (b : ℕ) (xs zs : List ℕ) → ((is_letter b || (b == 37)) && nat_le (name_bytes xs) 30) ≡ true → name_bytes zs ≡ 0
    → name_at (b ∷ (take (name_bytes xs) xs ++ zs)) ≡ Some (b ∷ take (name_bytes xs) xs, zs)
unfolding name_at
name-front-at b xs zs e none =
    let k = bytes-front xs zs none in
    let l : length (take (name_bytes xs) xs) ≡ name_bytes xs = omega (arith, length-take (name_bytes xs) xs, bytes-within xs) in
    rw k (rw e (rw (take-own (name_bytes xs) (take (name_bytes xs) xs) zs l, drop-own (name_bytes xs) (take (name_bytes xs) xs) zs l) refl))

name-none : (n ys : List ℕ) → name_at [] ≡ Some (n, ys) → ⊥
unfolding name_at
name-none n ys h = cc h

name-front : (n xs ys zs : List ℕ) → name_at xs ≡ Some (n, ys) → name_bytes zs ≡ 0 → name_at (n ++ zs) ≡ Some (n, zs)
name-front n [] ys zs h none = absurd (name-none n ys h)
name-front n (b ∷ xs) ys zs h none =
    let p = name-parts b n xs ys h in
    let P : List ℕ → Type 0 = λ l. name_at (l ++ zs) ≡ Some (l, zs) in
    subst P (sym p.1) (name-front-at b xs zs p.0 none)

-- no byte of a name follows
abbrev pub NoName : List ℕ → Type 0
NoName ys = name_bytes ys ≡ 0

pub name-format : Format name_text ReadsAsName NoName name_at
name-format = record {
  sound = λ n xs ys h. (name-is n xs ys h, name-whole n xs ys h);
  complete = λ n ys is none. name-front n n [] ys is none;
}

-- a name begins with `%` or a letter
pub name-first : (c : ℕ) (n ys : List ℕ) → (is_letter c || (c == 37)) ≡ false → ReadsAsName n → byte_at c (n ++ ys) ≡ None
unfolding name_at
name-first c [] ys other is = cc is
name-first c (b ∷ n) ys other is = elim (cases_Bool (b == c)) [
  | inr e ↦ rw e refl
  | inl e ↦ cc (rw (ap (λ v. is_letter v || (v == 37)) (eqb-true b c e) ∙ other) at is)
]
