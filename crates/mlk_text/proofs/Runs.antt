-- Runs of bytes of one kind, and what may follow them.
use Rattle.std.proofs.Common.{◌≡◌, ◌<◌, ℕ, suc, ◌++◌, List, [], ◌∷◌, length, take, drop, Some, None, Bool, true, false, refl, sym, ap, ◌∙◌, arith, inl, inr, one-add}
use Rattle.std.specs.Prelude.{Option, ◌==◌, not, if◌then◌else◌}
use Rattle.std.specs.List.{list_all, prefix_len}
use Rattle.std.proofs.lemmas.Bool.{cases_Bool, eqb-false, and_parts, and_from, not-true, not_from_false}
use Rattle.std.proofs.Math.Seq.{take-append_seam, drop-append_seam}
use Rattle.std.proofs.lemmas.Bool.Decides.{nat_tests}
use Rattle.mlk_text.proofs.Readers.{pair_parts}

-- no such byte is here
abbrev pub stops : (ℕ → Bool) → List ℕ → Bool
stops p [] = true
stops p (b ∷ xs) = not (p b)

-- a text is a longest run of such bytes, and what is after it
abbrev pub Run : (ℕ → Bool) → List ℕ → Type 0
Run p xs = (front rest : List ℕ) × (xs ≡ front ++ rest) × (list_all p front ≡ true) × (stops p rest ≡ true) × (prefix_len p xs ≡ length front)

-- none are counted if none are there
pub run-none : (p : ℕ → Bool) (ys : List ℕ) → stops p ys ≡ true → prefix_len p ys ≡ 0
run-none p [] h = refl
run-none p (b ∷ ys) h = rw (not-true (p b) h) refl

-- the whole run of such bytes is counted
pub run-length : (p : ℕ → Bool) (text ys : List ℕ) → list_all p text ≡ true → stops p ys ≡ true → prefix_len p (text ++ ys) ≡ length text
run-length p [] ys h stop = run-none p ys stop
run-length p (b ∷ text) ys h stop = let a = and_parts (p b) (list_all p text) h in rw (a.0, one-add) (ap suc (run-length p text ys a.1 stop))

-- each text is such a run and the rest
pub run-is : (p : ℕ → Bool) (xs : List ℕ) → Run p xs
run-is p [] = ([], [], refl, refl, refl, refl)
run-is p (b ∷ xs) = elim (cases_Bool (p b)) [
  | inl e ↦ let (front, rest, is, all, stop, size) = run-is p xs in
      (b ∷ front, rest, ap (λ l. b ∷ l) is, and_from (p b) (list_all p front) e all, stop, rw (e, one-add) (ap suc size))
  | inr e ↦ ([], b ∷ xs, refl, refl, not_from_false (p b) e, rw e refl)
]

-- `n` bytes at the front, and what is after them
pub parted : (n : ℕ) (front rest xs : List ℕ) → xs ≡ front ++ rest → n ≡ length front → (take n xs ≡ front) × (drop n xs ≡ rest)
parted n front rest xs is size = rw is (rw size (take-append_seam front rest, drop-append_seam front rest))

-- `n` bytes, at least one, and what is after them
pub cut-reads : (n : ℕ) (text ys : List ℕ) → n ≡ length text → 0 < length text
    → if◌then◌else◌ {A = Option (List ℕ × List ℕ)} (n == 0) None (Some (take n (text ++ ys), drop n (text ++ ys))) ≡ Some (text, ys)
cut-reads n text ys size some =
    let p = parted n text ys (text ++ ys) refl size in
    let none : (n == 0) ≡ false = grind (arith, nat_tests) in
    rw none (rw (p.0, p.1) refl)

-- what is read in this way is at the front
pub cut-spelled : (n : ℕ) (front rest text xs ys : List ℕ) → xs ≡ front ++ rest → n ≡ length front
    → if◌then◌else◌ {A = Option (List ℕ × List ℕ)} (n == 0) None (Some (take n xs, drop n xs)) ≡ Some (text, ys) → (front ≡ text) × (rest ≡ ys) × (0 < length front) × (xs ≡ text ++ ys)
cut-spelled n front rest text xs ys is size h = elim (cases_Bool (n == 0)) [
  | inl e ↦ cc (rw e at h)
  | inr e ↦
      let p = parted n front rest xs is size in
      let q = pair_parts (take n xs) text (drop n xs) ys (rw e at h) in
      let same : front ≡ text = sym p.0 ∙ q.0 in
      let after : rest ≡ ys = sym p.1 ∙ q.1 in
      let some : n ≡ 0 → ⊥ = eqb-false n 0 e in
      (same, after, omega arith, is ∙ ap (λ l. l ++ rest) same ∙ ap (λ l. text ++ l) after)
]
