-- The last part of a path, and its stem.
use Rattle.std.proofs.Common.{◌≡◌, ℕ, ◌<◌, ◌≤◌, ◌+◌, ◌++◌, List, ◌∷◌, length, take, drop, Some, None, MatchOption, sym, ap, ◌∙◌, subst, arith, Bor, take-append-drop}
use Rattle.std.specs.Prelude.{Option}
use Rattle.std.specs.Str.Pattern.{RFindsChar}
use Rattle.std.proofs.lemmas.List.{drop_more}
use Rattle.std.proofs.lemmas.Str.{len_utf8_ascii}
use Rattle.std.proofs.lemmas.Str.Pattern.{NoCharPasses-char}
use Rattle.mlk_files.specs.Files.{Lacks}

-- a split around the last of a byte
abbrev pub Splits : ℕ → List ℕ → Option (Bor (List ℕ) × Bor (List ℕ)) → Type 0
Splits b text r = MatchOption r (RFindsChar b text None) (λ x. (i : ℕ) × (j : ℕ) × RFindsChar b text (Some (i, j)) × (x.0.now ≡ take i text) × (x.1.now ≡ drop j text) × (i ≤ j) × (length x.0.now ≡ i) × (length x.1.now + j ≡ length text))

pub split-none : (b : ℕ) (text : List ℕ) (r : Option (Bor (List ℕ) × Bor (List ℕ))) → r ≡ None → b < 128 → Splits b text r → Lacks b text
split-none b text r is low h = let none = subst (Splits b text) is h in λ i. NoCharPasses-char b text i none low

pub split-some : (b : ℕ) (text : List ℕ) (r : Option (Bor (List ℕ) × Bor (List ℕ))) (front last : Bor (List ℕ)) → r ≡ Some (front, last) → b < 128 → Splits b text r
    → (text ≡ front.now ++ b ∷ last.now) × Lacks b last.now
split-some b text r front last is low h =
    let some = subst (Splits b text) is h in
    let i = some.0 in
    let j = some.1 in
    let next : j ≡ i + 1 = omega (arith, some.2.1.ends, len_utf8_ascii b low) in
    let tail : drop i text ≡ b ∷ last.now = drop_more text i 0 (omega (arith, some.7)) ∙ ap (λ c. c ∷ drop (i + 1) text) (some.2.1.byte low) ∙ ap (λ n. b ∷ drop n text) (sym next) ∙ ap (λ l. b ∷ l) (sym some.4) in (
      sym (take-append-drop i text) ∙ ap (λ l. take i text ++ l) tail ∙ ap (λ l. l ++ b ∷ last.now) (sym some.3),
      subst (Lacks b) (sym some.4) (λ k. NoCharPasses-char b (drop j text) k some.2.0 low),
    )
