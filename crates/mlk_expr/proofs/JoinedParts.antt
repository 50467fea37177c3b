-- The grammar of whole texts and the grammar with what follows agree: lists, chains, subscripts, actuals.
use Rattle.std.proofs.Common.{◌≡◌, ◌+◌, ℕ, suc, ◌++◌, List, [], ◌∷◌, length, Some, None, Bool, true, false, refl, sym, ap, ◌∙◌, arith, subst, inl, inr, append_assoc, length-append}
use Rattle.std.specs.Prelude.{◌==◌, ◌||◌, if◌then◌else◌}
use Rattle.std.proofs.lemmas.Bool.{cases_Bool}
use Rattle.std.proofs.lemmas.Bool.Decides.{nat_tests}
use Rattle.mlk_text.specs.declared.operator.Op.{Op}
use Rattle.mlk_text.specs.Lexemes.{is_digit, is_letter, byte_at, doubled}
use Rattle.mlk_text.specs.Reading.{Many}
use Rattle.mlk_text.proofs.Lexemes.{byte-is}
use Rattle.mlk_syntax.specs.ExprTrees.{Tree}
use Rattle.mlk_expr_tokens.specs.Lexemes.{relation_of, relation_at, arithmetic_of, arithmetic_at, op_at, is_match, is_missing, ends}
use Rattle.mlk_expr.specs.Spellings.{op_text}
use Rattle.mlk_expr.specs.Grammar.{AreNext, IsList, IsRight, AreLinks, IsChain}
use Rattle.mlk_expr.proofs.Followed as followed
use Rattle.mlk_expr.proofs.Runs.{tame, starts}
use Rattle.mlk_expr.proofs.OperatorSpelling.{op-tame, op-reads, op-spelled}

-- what an expression may begin with: a point only before a digit
abbrev pub begins_digit : List ℕ → Bool
begins_digit [] = false
begins_digit (b ∷ s) = is_digit b

abbrev pub opens : List ℕ → Bool
opens [] = false
opens (b ∷ s) =
    if b == 46 then begins_digit s
    else is_digit b || is_letter b || (b == 37) || (b == 34) || (b == 94) || (b == 36) || (b == 40) || (b == 43) || (b == 45) || (b == 39)

-- What is spelled before something is a text by itself, and such a text is spelled before whatever may follow it.
pub record Joins {A : Type 0} (end : ℕ) (Is : A → List ℕ → List ℕ → Type 0) (Text : ℕ → A → List ℕ → Type 0) (may : List ℕ → Bool) : Type 0 where
  pub apart : (at : ℕ) (a : A) (xs ys : List ℕ) → end ≡ at + length xs → Is a xs ys → (s : List ℕ) × (xs ≡ s ++ ys) × Text at a s
  pub together : (at : ℕ) (a : A) (s ys : List ℕ) → end ≡ at + length (s ++ ys) → Text at a s → may ys ≡ true → Is a (s ++ ys) ys

-- the column of what is after a text
pub moved : (end at : ℕ) (xs s ys : List ℕ) → end ≡ at + length xs → xs ≡ s ++ ys → end ≡ at + length s + length ys
moved end at xs s ys h is = let size = ap length is in let sum = length-append s ys in omega arith

-- where an actual may be missing an expression may end, and what follows an expression is tame
pub missing-ends : (ys : List ℕ) → is_missing ys ≡ true → ends ys ≡ true
unfolding ends
missing-ends [] h = refl
missing-ends (b ∷ ys) h = grind (arith, nat_tests)

pub ends-tame : (ys : List ℕ) → ends ys ≡ true → tame ys ≡ true
unfolding ends
ends-tame [] h = refl
ends-tame (b ∷ ys) h = grind (arith, nat_tests)

ends-op : (ys : List ℕ) → ends ys ≡ true → op_at ys ≡ None
unfolding ends op_at relation_at relation_of arithmetic_at arithmetic_of
ends-op [] h = refl
ends-op (b ∷ ys) h = grind (arith, nat_tests)

pub weaker : {A : Type 0} (end : ℕ) (Is : A → List ℕ → List ℕ → Type 0) (Text : ℕ → A → List ℕ → Type 0) → Joins end Is Text ends → Joins end Is Text is_missing
weaker end Is Text j = record { apart = j.apart; together = λ at a s ys h text may. j.together at a s ys h text (missing-ends ys may) }

-- a text in parentheses with something after it
pub enclosed-after : (inner ys : List ℕ) → (40 ∷ (inner ++ 41 ∷ [])) ++ ys ≡ 40 ∷ (inner ++ 41 ∷ ys)
enclosed-after inner ys = ap (λ l. 40 ∷ l) (append_assoc inner (41 ∷ []) ys)

-- a text in quotes with something after it
pub quoted-after : (value ys : List ℕ) → (34 ∷ (doubled value ++ 34 ∷ [])) ++ ys ≡ 34 ∷ (doubled value ++ 34 ∷ ys)
quoted-after value ys = ap (λ l. 34 ∷ l) (append_assoc (doubled value) (34 ∷ []) ys)

-- lists
module _ {A : Type 0} (end : ℕ) (Is : A → List ℕ → List ℕ → Type 0) (Text : ℕ → A → List ℕ → Type 0) (j : Joins end Is Text is_missing) where
  pub next-apart : (at : ℕ) (items : List A) (xs ys : List ℕ) → end ≡ at + length xs → Many (byte_at 44) (followed.Next Is) items xs ys → (s : List ℕ) × (xs ≡ s ++ ys) × AreNext Text at items s
  next-apart at [] xs ys h more = ([], more.0, refl)
  next-apart at (a ∷ items) xs ys h (b, m, n, is, one, more) =
      let comma = byte-is 44 b xs m is in
      let size = ap length comma in
      let f = j.apart (suc at) a m n (omega arith) one in
      let far = moved end (suc at) m f.0 n (omega arith) f.1 in
      let g = next-apart (suc (at + length f.0)) items n ys (omega arith) more in
      (44 ∷ (f.0 ++ g.0), comma ∙ ap (λ l. 44 ∷ l) (f.1 ∙ ap (λ l. f.0 ++ l) g.1 ∙ sym (append_assoc f.0 g.0 ys)), (f.0, g.0, refl, f.2, g.2))

  pub next-missing : (at : ℕ) (items : List A) (s ys : List ℕ) → AreNext Text at items s → is_missing (s ++ 41 ∷ ys) ≡ true
  next-missing at [] s ys h = rw h refl
  next-missing at (a ∷ items) s ys (front, rest, is, one, more) = rw is refl

  pub next-together : (at : ℕ) (items : List A) (s ys : List ℕ) → end ≡ at + length (s ++ 41 ∷ ys) → AreNext Text at items s → Many (byte_at 44) (followed.Next Is) items (s ++ 41 ∷ ys) (41 ∷ ys)
  next-together at [] s ys h is = subst (λ l. Many (byte_at 44) (followed.Next Is) [] (l ++ 41 ∷ ys) (41 ∷ ys)) (sym is) (refl, refl)
  next-together at (a ∷ items) s ys h (front, rest, is, one, more) =
      let whole : s ++ 41 ∷ ys ≡ 44 ∷ (front ++ (rest ++ 41 ∷ ys)) = rw is (ap (λ l. 44 ∷ l) (append_assoc front rest (41 ∷ ys))) in
      let size = ap length whole in
      let sum = length-append front (rest ++ 41 ∷ ys) in
      let first = j.together (suc at) a front (rest ++ 41 ∷ ys) (omega arith) one (next-missing (suc (at + length front)) items rest ys more) in
      let others = next-together (suc (at + length front)) items rest ys (omega arith) more in
      subst (λ l. Many (byte_at 44) (followed.Next Is) (a ∷ items) l (41 ∷ ys)) (sym whole) (44, front ++ (rest ++ 41 ∷ ys), rest ++ 41 ∷ ys, refl, first, others)

  pub list-apart : (at : ℕ) (items : List A) (xs ys : List ℕ) → end ≡ at + length xs → followed.IsList Is items xs ys → (inner : List ℕ) × (xs ≡ inner ++ 41 ∷ ys) × IsList Text at items inner
  list-apart at items xs ys h (first, others, m, one, more, same) =
      let f = j.apart at first xs m h one in
      let g = next-apart (at + length f.0) others m (41 ∷ ys) (moved end at xs f.0 m h f.1) more in
      (f.0 ++ g.0, f.1 ∙ ap (λ l. f.0 ++ l) g.1 ∙ sym (append_assoc f.0 g.0 (41 ∷ ys)), (first, others, f.0, g.0, same, refl, f.2, g.2))

  pub list-together : (at : ℕ) (items : List A) (inner ys : List ℕ) → end ≡ at + length (inner ++ 41 ∷ ys) → IsList Text at items inner → followed.IsList Is items (inner ++ 41 ∷ ys) ys
  list-together at items inner ys h (first, others, front, rest, same, is, one, more) =
      let whole : inner ++ 41 ∷ ys ≡ front ++ (rest ++ 41 ∷ ys) = rw is (append_assoc front rest (41 ∷ ys)) in
      let size = ap length whole in
      let sum = length-append front (rest ++ 41 ∷ ys) in
      let f = j.together at first front (rest ++ 41 ∷ ys) (omega arith) one (next-missing (at + length front) others rest ys more) in
      let g = next-together (at + length front) others rest ys (omega arith) more in
      subst (λ l. followed.IsList Is items l ys) (sym whole) (first, others, rest ++ 41 ∷ ys, f, g, same)

-- the first byte of an expression makes no operator longer and is neither a comma nor a closing parenthesis
pub opens-starts : (s zs : List ℕ) → opens s ≡ true → starts (s ++ zs) ≡ true
opens-starts [] zs h = cc h
opens-starts (b ∷ s) zs h = elim (cases_Bool (b == 46)) [
  | inl e ↦ grind (arith, nat_tests)
  | inr e ↦ let rest = rw e at h in grind (arith, nat_tests)
]

pub opens-more : (s zs : List ℕ) → opens s ≡ true → opens (s ++ zs) ≡ true
opens-more [] zs h = cc h
opens-more (b ∷ []) zs h = elim (cases_Bool (b == 46)) [ inl e ↦ cc (rw e at h) | inr e ↦ let rest = rw e at h in rw e rest ]
opens-more (b ∷ c ∷ s) zs h = h

-- a pattern, in both grammars
pub record JoinsPattern (Is : List ℕ → List ℕ → List ℕ → Type 0) (Text : List ℕ → Type 0) : Type 0 where
  pub apart : (text xs ys : List ℕ) → Is text xs ys → Text text × (xs ≡ text ++ ys)
  pub together : (text ys : List ℕ) → Text text → tame ys ≡ true → Is text (text ++ ys) ys
  pub begins : (text zs : List ℕ) → Text text → starts (text ++ zs) ≡ true

-- chains
module _ (end : ℕ) (Is : Tree → List ℕ → List ℕ → Type 0) (Text : ℕ → Tree → List ℕ → Type 0) (j : Joins end Is Text tame) (first-byte : (at : ℕ) (t : Tree) (s : List ℕ) → Text at t s → opens s ≡ true)
    (PatternIs : List ℕ → List ℕ → List ℕ → Type 0) (PatternOf : List ℕ → Type 0) (p : JoinsPattern PatternIs PatternOf) where
  right-apart : (m : Bool) (at : ℕ) (t : Tree) (xs ys : List ℕ) → end ≡ at + length xs → followed.IsRight Is PatternIs m t xs ys → (s : List ℕ) × (xs ≡ s ++ ys) × IsRight Text PatternOf m at t s
  right-apart false at t xs ys h one = j.apart at t xs ys h one
  right-apart true at t xs ys h (text, one, is) = let f = p.apart text xs ys one in (text, f.1, (is, f.0))

  right-together : (m : Bool) (at : ℕ) (t : Tree) (s ys : List ℕ) → end ≡ at + length (s ++ ys) → IsRight Text PatternOf m at t s → tame ys ≡ true → followed.IsRight Is PatternIs m t (s ++ ys) ys
  right-together false at t s ys h one may = j.together at t s ys h one may
  right-together true at t s ys h (is, one) may = (s, p.together s ys one may, is)

  right-starts : (m : Bool) (at : ℕ) (t : Tree) (s zs : List ℕ) → IsRight Text PatternOf m at t s → starts (s ++ zs) ≡ true
  right-starts false at t s zs one = opens-starts s zs (first-byte at t s one)
  right-starts true at t s zs (is, one) = p.begins s zs one

  links-apart : (at : ℕ) (links : List (Op × Tree)) (xs ys : List ℕ) → end ≡ at + length xs → Many op_at (followed.IsLink Is PatternIs) links xs ys → (s : List ℕ) × (xs ≡ s ++ ys) × AreLinks Text PatternOf at links s
  links-apart at [] xs ys h more = ([], more.0, refl)
  links-apart at (l ∷ links) xs ys h (op, m, n, is, (same, right), more) =
      let text = op-spelled l.0 xs m (is ∙ ap (λ o. Some (o, m)) (sym same)) in
      let one : followed.IsRight Is PatternIs (is_match l.0) l.1 m n = subst (λ o. followed.IsRight Is PatternIs (is_match o) l.1 m n) (sym same) right in
      let near = moved end at xs (op_text l.0) m h text in
      let f = right-apart (is_match l.0) (at + length (op_text l.0)) l.1 m n near one in
      let g = links-apart (at + length (op_text l.0) + length f.0) links n ys (moved end (at + length (op_text l.0)) m f.0 n near f.1) more in
      let front = text ∙ ap (λ z. op_text l.0 ++ z) (f.1 ∙ ap (λ z. f.0 ++ z) g.1 ∙ sym (append_assoc f.0 g.0 ys)) in
      (op_text l.0 ++ (f.0 ++ g.0), front ∙ sym (append_assoc (op_text l.0) (f.0 ++ g.0) ys), (f.0, g.0, refl, f.2, g.2))

  links-tame : (at : ℕ) (links : List (Op × Tree)) (s ys : List ℕ) → AreLinks Text PatternOf at links s → tame ys ≡ true → tame (s ++ ys) ≡ true
  links-tame at [] s ys is may = subst (λ l. tame (l ++ ys) ≡ true) (sym is) may
  links-tame at (l ∷ links) s ys (right, rest, is, one, more) may =
      subst (λ z. tame z ≡ true) (sym (ap (λ z. z ++ ys) is ∙ append_assoc (op_text l.0) (right ++ rest) ys)) (op-tame l.0 ((right ++ rest) ++ ys))

  links-together : (at : ℕ) (links : List (Op × Tree)) (s ys : List ℕ) → end ≡ at + length (s ++ ys) → AreLinks Text PatternOf at links s → tame ys ≡ true → op_at ys ≡ None
      → Many op_at (followed.IsLink Is PatternIs) links (s ++ ys) ys
  links-together at [] s ys h is may none = subst (λ l. Many op_at (followed.IsLink Is PatternIs) [] (l ++ ys) ys) (sym is) (refl, none)
  links-together at (l ∷ links) s ys h (right, rest, is, one, more) may none =
      let whole : s ++ ys ≡ op_text l.0 ++ (right ++ (rest ++ ys)) = ap (λ z. z ++ ys) is ∙ append_assoc (op_text l.0) (right ++ rest) ys ∙ ap (λ z. op_text l.0 ++ z) (append_assoc right rest ys) in
      let near = moved end at (s ++ ys) (op_text l.0) (right ++ (rest ++ ys)) h whole in
      let far = moved end (at + length (op_text l.0)) (right ++ (rest ++ ys)) right (rest ++ ys) near refl in
      let f = right-together (is_match l.0) (at + length (op_text l.0)) l.1 right (rest ++ ys) near one (links-tame (at + length (op_text l.0) + length right) links rest ys more may) in
      let g = links-together (at + length (op_text l.0) + length right) links rest ys far more may none in
      let reads = op-reads l.0 (right ++ (rest ++ ys)) (right-starts (is_match l.0) (at + length (op_text l.0)) l.1 right (rest ++ ys) one) in
      subst (λ z. Many op_at (followed.IsLink Is PatternIs) (l ∷ links) z ys) (sym whole) (l.0, right ++ (rest ++ ys), rest ++ ys, reads, (refl, f), g)

  pub chain-joins : Joins end (followed.IsChain Is PatternIs) (IsChain Text PatternOf) ends
  chain-joins = record {
    apart = λ at t xs ys h (first, links, m, one, more, same).
        let f = j.apart at first xs m h one in
        let g = links-apart (at + length f.0) links m ys (moved end at xs f.0 m h f.1) more in
        (f.0 ++ g.0, f.1 ∙ ap (λ l. f.0 ++ l) g.1 ∙ sym (append_assoc f.0 g.0 ys), (first, links, f.0, g.0, same, refl, f.2, g.2));
    together = λ at t s ys h (first, links, front, rest, same, is, one, more) may.
        let whole : s ++ ys ≡ front ++ (rest ++ ys) = ap (λ z. z ++ ys) is ∙ append_assoc front rest ys in
        let far = moved end at (s ++ ys) front (rest ++ ys) h whole in
        let f = j.together at first front (rest ++ ys) (h ∙ ap (λ z. at + length z) whole) one (links-tame (at + length front) links rest ys more (ends-tame ys may)) in
        let g = links-together (at + length front) links rest ys far more (ends-tame ys may) (ends-op ys may) in
        subst (λ z. followed.IsChain Is PatternIs t z ys) (sym whole) (first, links, rest ++ ys, f, g, same);
  }

  pub chain-opens : (at : ℕ) (t : Tree) (s : List ℕ) → IsChain Text PatternOf at t s → opens s ≡ true
  chain-opens at t s (first, links, front, rest, same, is, one, more) = subst (λ z. opens z ≡ true) (sym is) (opens-more front rest (first-byte at first front one))
