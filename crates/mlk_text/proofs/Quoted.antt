-- A quoted text is read up to its first quote at once.
use Rattle.std.proofs.Common.{◌≡◌, ◌+◌, ℕ, List, [], ◌∷◌, take, drop, suc, Some, None, refl, sym, ap, ◌∙◌, arith, inl, inr, append-nil}
use Rattle.std.specs.Prelude.{Option, ◌==◌}
use Rattle.std.proofs.lemmas.Bool.{cases_Bool}
use Rattle.mlk_text.specs.Reading.{put}
use Rattle.mlk_text.specs.Lexemes.{is_text_byte, byte_at, inside}
use Rattle.mlk_text.specs.Plain.{plain_bytes}
use Rattle.mlk_text.proofs.Lexemes.{inside-other, inside-closed, byte-is}
use Rattle.mlk_text.proofs.Readers.{put_put}

put-none : (o : Option (List ℕ × List ℕ)) → put [] o ≡ o
put-none None = refl
put-none (Some r) = refl

one-more : (n : ℕ) → 1 + n ≡ suc n
one-more n = omega (arith)

-- what precedes the next quote is read at once
pub inside_plain : (bytes : List ℕ)
    → put (take (plain_bytes bytes) bytes) (inside (drop (plain_bytes bytes) bytes)) ≡ inside bytes
inside_plain [] = put-none (inside [])
inside_plain (b ∷ bytes) = elim (cases_Bool (b == 34)) [
  | inl quote ↦ rw quote (put-none (inside (b ∷ bytes)))
  | inr other ↦ elim (cases_Bool (is_text_byte b)) [
    | inr bad ↦ rw (other, bad) (put-none (inside (b ∷ bytes)))
    | inl good ↦
        let n = plain_bytes bytes in
        rw (other, good) (rw (one-more n) (sym (put_put (b ∷ []) (take n bytes) (inside (drop n bytes)))
        ∙ ap (put (b ∷ [])) (inside_plain bytes) ∙ sym (inside-other b bytes (λ e. cc (rw e at other)) good)))
  ]
]

-- and if that quote is not doubled, it is the last
pub inside_once : (bytes after : List ℕ) → byte_at 34 (drop (plain_bytes bytes) bytes) ≡ Some (34, after)
    → byte_at 34 after ≡ None → inside bytes ≡ Some (take (plain_bytes bytes) bytes, after)
inside_once bytes after here alone = sym (inside_plain bytes)
    ∙ ap (λ l. put (take (plain_bytes bytes) bytes) (inside l)) (byte-is 34 34 _ after here)
    ∙ ap (put (take (plain_bytes bytes) bytes)) (inside-closed after alone)
    ∙ ap (λ l. Some (l, after)) (append-nil (take (plain_bytes bytes) bytes))
