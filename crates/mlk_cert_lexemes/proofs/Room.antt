-- What is read has a byte, so what is left is shorter; what precedes the rest is the text.
use Rattle.std.proofs.Common.{◌≡◌, ◌<◌, ◌≤◌, ◌-◌, ◌+◌, ℕ, ◌++◌, List, ◌∷◌, length, take, drop, Some, None, Bool, true, false, refl, ap, ◌∙◌, arith, inl, inr, length-append, nat_eq, Bor, []}
use Rattle.std.specs.Prelude.{Option, Result, Ok, Err, IfOk, MatchOption, option_map, ◌==◌, ◌&&◌}
use Rattle.std.specs.Cmp.Lexicographic.{pointwise}
use Rattle.std.proofs.lemmas.Bool.{cases_Bool}
use Rattle.std.proofs.lemmas.List.{take-append-le, take_all}
use Rattle.mlk_text.specs.Reading.{put, many}
use Rattle.mlk_text.specs.Lexemes.{byte_at}
use Rattle.mlk_text.specs.declared.failure.Failure.{Failure}
use Rattle.mlk_text.specs.declared.spelling.NotThere.{NotThere}
use Rattle.mlk_text.specs.declared.failure.Failure.TheVariants.{OutOfMemory, Refused}
use Rattle.mlk_text.specs.Failures.{FailsOn, Reads}
use Rattle.mlk_text.proofs.Readers.{many_fails}
use Rattle.mlk_cert_lexemes.specs.Lists.{ascends, upto}
use Rattle.mlk_cert_lexemes.specs.Texts.{byte_text}
use Rattle.mlk_cert_lexemes.specs.Reading.{strip, word_at, piece_at}
use Rattle.mlk_cert_lexemes.proofs.Formats.{Format, byte-is, same-eqb}
use Rattle.mlk_cert_lexemes.proofs.TermFormats.{piece-format, byte-room}

pub piece-shorter : (b : ℕ) (xs ys : List ℕ) → piece_at xs ≡ Some (b, ys) → length ys < length xs
piece-shorter b xs ys h =
    let s = ap length (piece-format.sound b xs ys h).0 in
    let l = length-append (byte_text b) ys in
    let r = byte-room b in omega arith

pub byte-shorter : (b c : ℕ) (xs ys : List ℕ) → byte_at b xs ≡ Some (c, ys) → length ys < length xs
byte-shorter b c xs ys h = let s = ap length (byte-is b c xs ys h).0 in omega arith

-- the part of a text before its rest
pub front-is : (m xs ys : List ℕ) → xs ≡ m ++ ys → take (length xs - length ys) xs ≡ m
front-is m xs ys is =
    let e : length (m ++ ys) - length ys ≡ length m = omega (arith, length-append m ys) in
    ap (λ l. take (length l - length ys) l) is ∙ ap (λ n. take n (m ++ ys)) e ∙ take-append-le (length m) m ys (omega arith) ∙ take_all (length m) m (omega arith)

pub no-longer : (m xs ys : List ℕ) → xs ≡ m ++ ys → length ys ≤ length xs
no-longer m xs ys is = let e = ap length is in omega (arith, length-append m ys)

-- A loop that stops at an item that was not read.
pub many_refused : {A B : Type 0} (head : List ℕ → Option (B × List ℕ)) (item : B → List ℕ → Option (A × List ℕ)) (front : List A) (n : ℕ) (xs : List ℕ) (whole : Option (List A × List ℕ))
    (b : B) (m : List ℕ) (e : Failure NotThere) → head xs ≡ Some (b, m) → FailsOn e (item b m) → length xs < n → put front (many head item n xs) ≡ whole → FailsOn e whole
many_refused head item front n xs whole b m OutOfMemory is one less h = tt
many_refused head item front n xs whole b m (Refused reason) is one less h = many_fails head item front n xs whole b m is one less h

-- one more at the end of a list
pub ascends-push : {A : Type 0} (before : A → A → Bool) (xs : List A) (l a : A) → ascends before ((xs ++ l ∷ []) ++ a ∷ []) ≡ (ascends before (xs ++ l ∷ []) && before l a)
ascends-push before [] l a = lemma_and (before l a)
  where
    lemma_and : (b : Bool) → (b && true) ≡ (true && b)
    lemma_and true = refl
    lemma_and false = refl
ascends-push before (x ∷ []) l a = go (before x l) (before l a)
  where
    go : (b c : Bool) → (b && (c && true)) ≡ ((b && true) && c)
    go true true = refl
    go true false = refl
    go false c = refl
ascends-push before (x ∷ y ∷ xs) l a = rw (ascends-push before (y ∷ xs) l a) (and_assoc (before x y) (ascends before (y ∷ (xs ++ l ∷ []))) (before l a))
  where
    and_assoc : (a b c : Bool) → (a && (b && c)) ≡ ((a && b) && c)
    and_assoc true b c = refl
    and_assoc false b c = refl

-- what a reader of the code returns is at the front
pub gives-text : {A : Type 0} (text : A → List ℕ) (Is : A → Type 0) (Stops : List ℕ → Type 0) (read : List ℕ → Option (A × List ℕ)) → Format text Is Stops read
    → (xs : List ℕ) (r : Result (A × Bor (List ℕ)) (Failure NotThere)) → Reads (λ x. (x.0, x.1.now)) r (read xs) → IfOk r (λ x. xs ≡ text x.0 ++ x.1.now)
gives-text text Is Stops read f xs (Ok x) h = (f.sound x.0 xs x.1.now h).0
gives-text text Is Stops read f xs (Err e) h = tt

pub upto-after : (d xs ys : List ℕ) → upto (d ++ xs) (d ++ ys) ≡ upto xs ys
upto-after [] xs ys = refl
upto-after (b ∷ d) xs ys = rw (same-eqb b) (upto-after d xs ys)
