-- Laws that the code's loops and steps need.
use Rattle.std.proofs.Common.{◌≡◌, ◌<◌, ◌≤◌, ◌-◌, ◌++◌, ℕ, zero, suc, List, [], ◌∷◌, length, Some, None, refl, sym, ◌∙◌, arith, subst, inl, inr, length-append, leb-true, le-leb}
use Rattle.std.specs.Prelude.{Option, nat_le}
use Rattle.std.proofs.lemmas.Bool.{cases_Bool, lt-leb}
use Rattle.mlk_text.specs.Reading.{◌>>=◌, with, put, many}
use Rattle.mlk_text.specs.Lexemes.{byte_at}
use Rattle.mlk_text.proofs.Lexemes.{byte-takes}
use Rattle.mlk_text.proofs.Readers.{Exact, Takes, pair_parts, after_length, many_fails}
use Rattle.mlk_text.specs.declared.failure.Failure.{Failure}
use Rattle.mlk_expr.specs.declared.refusal.Offence.{Offence}
use Rattle.mlk_text.specs.declared.failure.Failure.TheVariants.{OutOfMemory, Refused}
use Rattle.mlk_expr_tokens.specs.Lexemes.{count_at}
use Rattle.mlk_expr.specs.declared.context.Allows.TheVariants.{Extended}
use Rattle.mlk_expr.specs.Reading.{quietly, chain_with, at_most, matcher_by, some_atoms, pattern_at, operand_with, atom_at, rest_of}
use Rattle.mlk_expr.proofs.Followed.{IsPattern, IsMatcher}
use Rattle.mlk_text.specs.Failures.{FailsOn, IsRefused, IsLike}
use Rattle.mlk_expr.proofs.LexemeLemmas.{count-takes}
use Rattle.mlk_expr.proofs.Parts.{matcher-exact, pattern-exact}

pub loop_fails : {A B : Type 0} (head : List ℕ → Option (B × List ℕ)) (item : B → List ℕ → Option (A × List ℕ)) (front : List A) (n : ℕ) (xs : List ℕ) (whole : Option (List A × List ℕ))
    (b : B) (m : List ℕ) (e : Failure Offence) → head xs ≡ Some (b, m) → FailsOn e (item b m) → length xs < n → put front (many head item n xs) ≡ whole → FailsOn e whole
loop_fails head item front n xs whole b m OutOfMemory is one less h = tt
loop_fails head item front n xs whole b m (Refused o) is one less h = many_fails head item front n xs whole b m is one less h

-- at most `most` items
pub at_most-some : {A : Type 0} (most : ℕ) (o : Option (List A × List ℕ)) (items : List A) (rest : List ℕ) → (o >>= at_most most) ≡ Some (items, rest) → (o ≡ Some (items, rest)) × (length items ≤ most)
at_most-some most None items rest h = cc h
at_most-some most (Some r) items rest h = elim (cases_Bool (nat_le (length r.0) most)) [
  | inr b ↦ cc (rw b at h)
  | inl b ↦
      let is = rw b at h in
      let p = pair_parts r.0 items r.1 rest is in
      (is, subst (λ l. length l ≤ most) p.0 (leb-true (length r.0) most b))
]

pub at_most-is : {A : Type 0} (most : ℕ) (items : List A) (rest : List ℕ) → length items ≤ most → at_most most (items, rest) ≡ Some (items, rest)
at_most-is most items rest h = rw (le-leb (length items) most h) refl

pub too_many : {A : Type 0} (front : List A) (a : A) (most : ℕ) (o : Option (List A × List ℕ)) → most ≤ length front → (put front (put (a ∷ []) o) >>= at_most most) ≡ None
too_many front a most None full = refl
too_many front a most (Some r) full =
    let size = length-append front (a ∷ r.0) in
    rw (lt-leb (length (front ++ a ∷ r.0)) most (omega arith)) refl

-- a head after the greatest number of items
pub surplus : {A B : Type 0} (head : List ℕ → Option (B × List ℕ)) (item : B → List ℕ → Option (A × List ℕ)) (front : List A) (n : ℕ) (xs : List ℕ) (whole : Option (List A × List ℕ)) (most : ℕ)
    (b : B) (m : List ℕ) → head xs ≡ Some (b, m) → length xs < n → most ≤ length front → put front (many head item n xs) ≡ whole → (whole >>= at_most most) ≡ None
unfolding many
surplus head item front zero xs whole most b m is less full h = absurd (omega arith)
surplus {A = A} head item front (suc n) xs whole most b m is less full h = rw (sym h) (rw is (go (item b m)))
  where
    go : (o : Option (A × List ℕ)) → (put front (o >>= λ a. put (a.0 ∷ []) (many head item n a.1)) >>= at_most most) ≡ None
    go None = refl
    go (Some a) = too_many front a.0 most (many head item n a.1) full

pub with_fails : {A B : Type 0} (f : A → B) (e : Failure Offence) (o : Option (A × List ℕ)) → FailsOn e o → FailsOn e (with f o)
with_fails f OutOfMemory o h = tt
with_fails f (Refused r) o h = rw h refl

pub like_fails : {A : Type 0} (e f : Failure Offence) (o : Option A) → IsLike e f → FailsOn e o → FailsOn f o
like_fails OutOfMemory OutOfMemory o l h = tt
like_fails OutOfMemory (Refused f) o l h = absurd l
like_fails (Refused e) OutOfMemory o l h = absurd l
like_fails (Refused e) (Refused f) o l h = h

pub refused_fails : {A : Type 0} (e : Failure Offence) (o : Option A) → IsRefused e → o ≡ None → FailsOn e o
refused_fails OutOfMemory o h none = tt
refused_fails (Refused r) o h none = none

pub same_fails : {A : Type 0} (e : Failure Offence) (o p : Option A) → o ≡ p → FailsOn e o → FailsOn e p
same_fails OutOfMemory o p is h = tt
same_fails (Refused r) o p is h = sym is ∙ h

pub then_fails : {A B : Type 0} (e : Failure Offence) (o : Option A) (f : A → Option B) → FailsOn e o → FailsOn e (o >>= f)
then_fails OutOfMemory o f h = tt
then_fails (Refused r) o f h = rw h refl

pub rest_fails : {A : Type 0} (e : Failure Offence) (o : Option (A × List ℕ)) → FailsOn e o → FailsOn e (rest_of o)
rest_fails OutOfMemory o h = tt
rest_fails (Refused r) o h = rw h refl

pub from_rest : {A : Type 0} (e : Failure Offence) (o : Option (A × List ℕ)) → FailsOn e (rest_of o) → FailsOn e o
from_rest OutOfMemory o h = tt
from_rest (Refused r) None h = refl
from_rest (Refused r) (Some p) h = cc h

-- what follows a head and an item is shorter
pub shorter : {A B : Type 0} (head : List ℕ → Option (B × List ℕ)) (read : List ℕ → Option (A × List ℕ)) (Is : A → List ℕ → List ℕ → Type 0) → Takes head → Exact read Is
    → (b : B) (a : A) (xs m ys : List ℕ) → head xs ≡ Some (b, m) → read m ≡ Some (a, ys) → length ys < length xs
shorter head read Is t e b a xs m ys is one =
    let far = (t b xs m is).1 in
    let near = after_length m ys (e.after a m ys (e.sound a m ys one)) in
    omega arith

pub item-shorter : {A : Type 0} (read : List ℕ → Option (A × List ℕ)) (Is : A → List ℕ → List ℕ → Type 0) → Exact read Is
    → (a : A) (xs m ys : List ℕ) → byte_at 44 xs ≡ Some (44, m) → read m ≡ Some (a, ys) → length ys < length xs
item-shorter read Is e a xs m ys is one = shorter (byte_at 44) read Is (byte-takes 44) e 44 a xs m ys is one

pub matcher-shorter : (k : ℕ) (count : List ℕ) (xs m ys : List ℕ) → count_at xs ≡ Some (count, m) → matcher_by (pattern_at k) count m ≡ Some (count, ys) → length ys < length xs
matcher-shorter k count xs m ys is one =
    shorter count_at (matcher_by (pattern_at k) count) (IsMatcher (IsPattern k) count) count-takes (matcher-exact (pattern_at k) (IsPattern k) (pattern-exact k) count) count count xs m ys is one

-- one level
pub atom-above : (end k : ℕ) (xs : List ℕ) → 0 < k → atom_at end k xs ≡ operand_with Extended end (atom_at end (k - 1)) (quietly (chain_with (atom_at end (k - 1)) (pattern_at (k - 1)))) (pattern_at (k - 1)) xs
unfolding atom_at
atom-above end zero xs h = absurd (omega arith)
atom-above end (suc k) xs h = let e : suc k - 1 ≡ k = omega arith in rw e refl

pub atom-none : (end k : ℕ) (xs : List ℕ) → k ≡ 0 → atom_at end k xs ≡ None
unfolding atom_at
atom-none end k xs h = rw h refl

pub pattern-above : (k : ℕ) (xs : List ℕ) → 0 < k → pattern_at k xs ≡ (many count_at (matcher_by (pattern_at (k - 1))) (suc (length xs)) xs >>= some_atoms xs)
unfolding pattern_at
pattern-above zero xs h = absurd (omega arith)
pattern-above (suc k) xs h = let e : suc k - 1 ≡ k = omega arith in rw e refl

pub pattern-none : (k : ℕ) (xs : List ℕ) → k ≡ 0 → pattern_at k xs ≡ None
unfolding pattern_at
pattern-none k xs h = rw h refl
