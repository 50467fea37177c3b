-- The two grammars agree on operands, and so on expressions of every depth.
use Rattle.std.proofs.Common.{◌≡◌, ◌<◌, ◌+◌, ℕ, zero, suc, ◌++◌, List, [], ◌∷◌, length, Some, None, true, false, refl, sym, ap, ◌∙◌, arith, subst, inl, inr, append-nil, append_assoc, length-append}
use Rattle.std.specs.Prelude.{◌⊎◌, ◌==◌, ◌||◌}
use Rattle.std.proofs.lemmas.Bool.{and_parts}
use Rattle.std.proofs.lemmas.Bool.Decides.{nat_tests}
use Rattle.mlk_text.specs.declared.operator.UnaryOp.{UnaryOp}
use Rattle.mlk_text.specs.declared.operator.UnaryOp.TheVariants as unary
use Rattle.mlk_text.specs.Lexemes.{is_digit, is_letter, byte_at, name_at, doubled, are_digits}
use Rattle.mlk_numbers.specs.Numbers.{IsNumeral, IsCanonical}
use Rattle.mlk_syntax.specs.ExprTrees.{Tree, Lit, Free, LocalName, GlobalName, SpecialName, Prefixed, Chain, PatternText, Func, Selected, BareCall, CallOf}
use Rattle.mlk_expr_tokens.specs.Lexemes.{ends}
use Rattle.mlk_text.specs.Spellings.{IsName}
use Rattle.mlk_expr.specs.Spellings.{IsNumber, unary_text}
use Rattle.mlk_expr.specs.Grammar.{IsSubs, IsChoice, IsChain, IsPlain, IsOperand, IsPattern, IsAtom, named}
use Rattle.mlk_expr.specs.Theorem.{goes_on}
use Rattle.mlk_expr.proofs.Followed as followed
use Rattle.mlk_expr.proofs.Runs.{after_name, tame, tame-name, name-word}
use Rattle.mlk_expr.proofs.OperatorSpelling.{unary-reads, unary-spelled}
use Rattle.mlk_text.proofs.Spelled.{name-parts, name-reads, name-spelled, word-reads, word-spelled}
use Rattle.mlk_expr.proofs.NumberSpelling.{number-reads, number-spelled}
use Rattle.mlk_expr.proofs.JoinedParts.{opens, Joins, JoinsPattern, moved, list-apart, list-together, chain-joins, chain-opens, enclosed-after, quoted-after}
use Rattle.mlk_expr.proofs.JoinedPatterns.{pattern-joins}
use Rattle.mlk_expr.proofs.JoinedArguments.{at-column, subs-apart, subs-together, choice-joins, actuals-apart, actuals-together, arguments-apart, arguments-together, callee-apart, callee-together, tame-caret}

-- tame text continues nothing
tame-goes : (ys : List ℕ) → tame ys ≡ true → goes_on ys ≡ false
tame-goes [] h = refl
tame-goes (b ∷ ys) h = grind (arith, nat_tests)

tame-open : (ys : List ℕ) → tame ys ≡ true → byte_at 40 ys ≡ None
tame-open [] h = refl
tame-open (b ∷ ys) h = let no : (b == 40) ≡ false = grind (arith, nat_tests) in rw no refl

tame-quote : (ys : List ℕ) → tame ys ≡ true → byte_at 34 ys ≡ None
tame-quote [] h = refl
tame-quote (b ∷ ys) h = let no : (b == 34) ≡ false = grind (arith, nat_tests) in rw no refl

pub goes-open : (ys : List ℕ) → goes_on ys ≡ false → byte_at 40 ys ≡ None
goes-open [] h = refl
goes-open (b ∷ ys) h = let no : (b == 40) ≡ false = grind (arith, nat_tests) in rw no refl

goes-name : (ys : List ℕ) → goes_on ys ≡ false → after_name ys ≡ true
goes-name [] h = refl
goes-name (b ∷ ys) h = grind (arith, nat_tests)

-- an exact literal is a number without an exponent
pub canonical-number : (s value : List ℕ) → IsCanonical s value → IsNumber s
canonical-number s value h = (h.before, h.after, s, [], h.numeral, inl refl, sym (append-nil s))

-- a number begins with a digit, or with a point and a digit
digits-open : (d : ℕ) (ds s : List ℕ) → are_digits (d ∷ ds) ≡ true → opens (d ∷ s) ≡ true
digits-open d ds s h =
    let digit : is_digit d ≡ true = (and_parts (is_digit d) (are_digits ds) h).0 in
    let no : (d == 46) ≡ false = grind (arith, nat_tests) in
    rw no (rw digit refl)

mantissa-opens : (before after mantissa exponent : List ℕ) → IsNumeral before after mantissa → opens (mantissa ++ exponent) ≡ true
mantissa-opens before after mantissa exponent n = go before after n.whole_part n.fraction n.some_digit n.spelled
  where
    go : (before after : List ℕ) → are_digits before ≡ true → are_digits after ≡ true → 0 < length before + length after → ((mantissa ≡ before) × (after ≡ [])) ⊎ (mantissa ≡ before ++ 46 ∷ after) → opens (mantissa ++ exponent) ≡ true
    go (d ∷ ds) after w f some (inl h) = subst (λ z. opens (z ++ exponent) ≡ true) (sym (h.0)) (digits-open d ds (ds ++ exponent) w)
    go (d ∷ ds) after w f some (inr h) = subst (λ z. opens (z ++ exponent) ≡ true) (sym h) (digits-open d ds ((ds ++ 46 ∷ after) ++ exponent) w)
    go [] [] w f some h = absurd (omega arith)
    go [] (d ∷ ds) w f some (inl h) = cc (h.1)
    go [] (d ∷ ds) w f some (inr h) = subst (λ z. opens (z ++ exponent) ≡ true) (sym h) ((and_parts (is_digit d) (are_digits ds) f).0)

pub number-opens : (s : List ℕ) → IsNumber s → opens s ≡ true
number-opens s (before, after, mantissa, exponent, n, e, is) = subst (λ z. opens z ≡ true) (sym is) (mantissa-opens before after mantissa exponent n)

name-opens : (name rest : List ℕ) → IsName name → opens (name ++ rest) ≡ true
name-opens [] rest h = cc h
name-opens (b ∷ name) rest h =
    let first = (name-parts b name h).0 in
    let no : (b == 46) ≡ false = grind (arith, nat_tests) in
    let some : (is_digit b || is_letter b || (b == 37) || (b == 34) || (b == 94) || (b == 36) || (b == 40) || (b == 43) || (b == 45) || (b == 39)) ≡ true = grind (arith, nat_tests) in
    rw no some

unary-opens : (o : UnaryOp) (s : List ℕ) → opens (unary_text o ++ s) ≡ true
unary-opens unary.Plus s = refl
unary-opens unary.Minus s = refl
unary-opens unary.Not s = refl

closed : (ys : List ℕ) → ends (41 ∷ ys) ≡ true
unfolding ends
closed ys = refl

module _ (end : ℕ) (Atom : Tree → List ℕ → List ℕ → Type 0) (Text : ℕ → Tree → List ℕ → Type 0) (a : Joins end Atom Text tame) (first-byte : (at : ℕ) (t : Tree) (s : List ℕ) → Text at t s → opens s ≡ true)
    (Pattern : List ℕ → List ℕ → List ℕ → Type 0) (PatternOf : List ℕ → Type 0) (p : JoinsPattern Pattern PatternOf) where
  chains : Joins end (followed.IsChain Atom Pattern) (IsChain Text PatternOf) ends
  chains = chain-joins end Atom Text a first-byte Pattern PatternOf p

  chain-first : (at : ℕ) (t : Tree) (s : List ℕ) → IsChain Text PatternOf at t s → opens s ≡ true
  chain-first = chain-opens end Atom Text a first-byte Pattern PatternOf p

  -- subscripts do not continue a name
  subs-name : (at : ℕ) (subs : List (ℕ × Tree)) (part ys : List ℕ) → IsSubs (IsChain Text PatternOf) at subs part → (subs ≡ [] → goes_on ys ≡ false) → after_name (part ++ ys) ≡ true
  subs-name at [] part ys is quiet = subst (λ z. after_name (z ++ ys) ≡ true) (sym is) (goes-name ys (quiet refl))
  subs-name at (q ∷ subs) part ys (inner, is, list, few) quiet = rw is refl

  quiet-open : (subs : List (ℕ × Tree)) (ys : List ℕ) → (subs ≡ [] → goes_on ys ≡ false) → subs ≡ [] → byte_at 40 ys ≡ None
  quiet-open subs ys quiet none = goes-open ys (quiet none)

  pub variable-together : (at : ℕ) (name part ys : List ℕ) (subs : List (ℕ × Tree)) → end ≡ at + length (name ++ (part ++ ys)) → IsName name → IsSubs (IsChain Text PatternOf) (at + length name) subs part → (subs ≡ [] → goes_on ys ≡ false)
      → (name_at (name ++ (part ++ ys)) ≡ Some (name, part ++ ys)) × followed.IsSubs end (followed.IsChain Atom Pattern) subs (part ++ ys) ys
  variable-together at name part ys subs h good list quiet = (
    name-reads name (part ++ ys) good (subs-name (at + length name) subs part ys list quiet),
    subs-together end (followed.IsChain Atom Pattern) (IsChain Text PatternOf) chains (at + length name) subs part ys (moved end at (name ++ (part ++ ys)) name (part ++ ys) h refl) list (quiet-open subs ys quiet),
  )

  plain-apart : (at : ℕ) (t : Tree) (xs ys : List ℕ) → end ≡ at + length xs → followed.IsPlain end Atom Pattern t xs ys → (s : List ℕ) × (xs ≡ s ++ ys) × IsPlain Text PatternOf at t s
  plain-apart at (Lit value) xs ys h (inl (text, n, same)) = let f = number-spelled text xs ys n in (text, f.1, inl same)
  plain-apart at (Lit value) xs ys h (inr (is, good, none)) = (34 ∷ (doubled value ++ 34 ∷ []), is ∙ sym (quoted-after value ys), inr (refl, good))
  plain-apart at Free xs ys h (text, n, none) = let f = number-spelled text xs ys n in (text, f.1, (f.0, none))
  plain-apart at (LocalName name subs) xs ys h (m, ss, n, list, same) =
      let f = name-spelled name xs m n in
      let g = subs-apart end (followed.IsChain Atom Pattern) (IsChain Text PatternOf) chains (at + length name) ss m ys (moved end at xs name m h (f.1)) list in
      (name ++ g.0, f.1 ∙ ap (λ l. name ++ l) g.1 ∙ sym (append_assoc name g.0 ys), (g.0, ss, refl, f.0, g.2, same))
  plain-apart at (GlobalName column name subs) xs ys h (m, n, ss, is, col, text, list, same) =
      let f = name-spelled name m n text in
      let size = ap length is in
      let near : end ≡ suc at + length m = omega arith in
      let g = subs-apart end (followed.IsChain Atom Pattern) (IsChain Text PatternOf) chains (suc at + length name) ss n ys (moved end (suc at) m name n near (f.1)) list in
      (94 ∷ (name ++ g.0), is ∙ ap (λ l. 94 ∷ l) (f.1 ∙ ap (λ l. name ++ l) g.1 ∙ sym (append_assoc name g.0 ys)), (g.0, ss, refl, col ∙ at-column end at xs h, f.0, g.2, same))
  plain-apart at (SpecialName special) xs ys h (m, w, is, word, found, none) = let f = word-spelled w m ys word in (36 ∷ w, is ∙ ap (λ l. 36 ∷ l) f.1, (w, refl, f.0, found))
  plain-apart at (Prefixed op t) xs ys h (b, m, is, o, deep) =
      let size = ap length is in
      let near : end ≡ suc at + length m = omega arith in
      let f = a.apart (suc at) t m ys near deep in
      let text = unary-spelled op b o in
      (unary_text op ++ f.0, is ∙ ap (λ l. b ∷ l) f.1 ∙ sym (ap (λ l. (l ++ f.0) ++ ys) text), (f.0, refl, f.2))
  plain-apart at (Chain t ls) xs ys h none = absurd none
  plain-apart at (PatternText text) xs ys h none = absurd none
  plain-apart at (Func f args) xs ys h (m, n, w, ts, is, word, found, list, same) =
      let r = word-spelled w m (40 ∷ n) word in
      let whole : xs ≡ 36 ∷ (w ++ 40 ∷ n) = is ∙ ap (λ l. 36 ∷ l) r.1 in
      let size = ap length whole in
      let sum = length-append w (40 ∷ n) in
      let g = arguments-apart end Atom Text a first-byte (followed.IsChain Atom Pattern) (IsChain Text PatternOf) chains f (named f) (2 + (at + length w)) ts n ys (omega arith) list in
      let part : 40 ∷ n ≡ (40 ∷ (g.0 ++ 41 ∷ [])) ++ ys = ap (λ l. 40 ∷ l) g.1 ∙ sym (enclosed-after g.0 ys) in
      (36 ∷ (w ++ 40 ∷ (g.0 ++ 41 ∷ [])), whole ∙ ap (λ l. 36 ∷ (w ++ l)) part ∙ sym (ap (λ l. 36 ∷ l) (append_assoc w (40 ∷ (g.0 ++ 41 ∷ [])) ys)), (w, g.0, 40 ∷ (g.0 ++ 41 ∷ []), ts, refl, r.0, found, refl, g.2, same))
  plain-apart at (Selected pairs) xs ys h (m, n, w, cs, is, word, found, list, same) =
      let r = word-spelled w m (40 ∷ n) word in
      let whole : xs ≡ 36 ∷ (w ++ 40 ∷ n) = is ∙ ap (λ l. 36 ∷ l) r.1 in
      let size = ap length whole in
      let sum = length-append w (40 ∷ n) in
      let g = list-apart end (followed.IsChoice (followed.IsChain Atom Pattern)) (IsChoice (IsChain Text PatternOf)) (choice-joins end (followed.IsChain Atom Pattern) (IsChain Text PatternOf) chains) (2 + (at + length w)) cs n ys (omega arith) list in
      let part : 40 ∷ n ≡ (40 ∷ (g.0 ++ 41 ∷ [])) ++ ys = ap (λ l. 40 ∷ l) g.1 ∙ sym (enclosed-after g.0 ys) in
      (36 ∷ (w ++ 40 ∷ (g.0 ++ 41 ∷ [])), whole ∙ ap (λ l. 36 ∷ (w ++ l)) part ∙ sym (ap (λ l. 36 ∷ l) (append_assoc w (40 ∷ (g.0 ++ 41 ∷ [])) ys)), (w, g.0, 40 ∷ (g.0 ++ 41 ∷ []), cs, refl, r.0, found, refl, g.2, same))
  plain-apart at (BareCall column callee) xs ys h (m, is, col, called, none) =
      let f = callee-apart callee.label callee.routine m ys called in
      (36 ∷ 36 ∷ f.0, is ∙ ap (λ l. 36 ∷ 36 ∷ l) f.1, (f.0, refl, col ∙ at-column end at xs h, f.2))
  plain-apart at (CallOf column callee tail) xs ys h (m, n, given, is, col, called, list, same) =
      let f = callee-apart callee.label callee.routine m (40 ∷ n) called in
      let whole : xs ≡ 36 ∷ 36 ∷ (f.0 ++ 40 ∷ n) = is ∙ ap (λ l. 36 ∷ 36 ∷ l) f.1 in
      let size = ap length whole in
      let sum = length-append f.0 (40 ∷ n) in
      let g = actuals-apart end (followed.IsChain Atom Pattern) (IsChain Text PatternOf) chains chain-first (2 + (at + length f.0)) given n ys (omega arith) list in
      (36 ∷ 36 ∷ (f.0 ++ g.0), whole ∙ ap (λ l. 36 ∷ 36 ∷ (f.0 ++ l)) g.1 ∙ sym (ap (λ l. 36 ∷ 36 ∷ l) (append_assoc f.0 g.0 ys)), (f.0, g.0, given, refl, col ∙ at-column end at xs h, f.2, g.2, same))

  -- an operand may be followed by anything that does not continue it
  plain-together : (at : ℕ) (t : Tree) (s ys : List ℕ) → end ≡ at + length (s ++ ys) → IsPlain Text PatternOf at t s → tame ys ≡ true → followed.IsPlain end Atom Pattern t (s ++ ys) ys
  plain-together at (Lit value) s ys h (inl same) may = inl (s, number-reads s ys (canonical-number s value same) may, same)
  plain-together at (Lit value) s ys h (inr (is, good)) may = inr (ap (λ l. l ++ ys) is ∙ quoted-after value ys, good, tame-quote ys may)
  plain-together at Free s ys h (number, none) may = (s, number-reads s ys number may, none)
  plain-together at (LocalName name subs) s ys h (part, ss, is, good, list, same) may =
      let whole : s ++ ys ≡ name ++ (part ++ ys) = ap (λ l. l ++ ys) is ∙ append_assoc name part ys in
      let f = variable-together at name part ys ss (h ∙ ap (λ z. at + length z) whole) good list (λ e. tame-goes ys may) in
      subst (λ z. followed.IsPlain end Atom Pattern (LocalName name subs) z ys) (sym whole) (part ++ ys, ss, f.0, f.1, same)
  plain-together at (GlobalName column name subs) s ys h (part, ss, is, col, good, list, same) may =
      let whole : s ++ ys ≡ 94 ∷ (name ++ (part ++ ys)) = ap (λ l. l ++ ys) is ∙ ap (λ l. 94 ∷ l) (append_assoc name part ys) in
      let size = ap length whole in
      let f = variable-together (suc at) name part ys ss (omega arith) good list (λ e. tame-goes ys may) in
      (name ++ (part ++ ys), part ++ ys, ss, whole, col ∙ sym (at-column end at (s ++ ys) h), f.0, f.1, same)
  plain-together at (SpecialName special) s ys h (w, is, word, found) may = (w ++ ys, w, ap (λ l. l ++ ys) is, word-reads w ys word (name-word ys (tame-name ys may)), found, tame-open ys may)
  plain-together at (Prefixed op t) s ys h (operand, is, deep) may =
      let r = unary-reads op in
      let whole : s ++ ys ≡ r.0 ∷ (operand ++ ys) = ap (λ l. l ++ ys) is ∙ ap (λ l. (l ++ operand) ++ ys) r.1 in
      let size = ap length whole in
      (r.0, operand ++ ys, whole, r.2, a.together (suc at) t operand ys (omega arith) deep may)
  plain-together at (Chain t ls) s ys h none may = absurd none
  plain-together at (PatternText text) s ys h none may = absurd none
  plain-together at (Func f args) s ys h (w, inner, part, ts, is, word, found, held, list, same) may =
      let whole : s ++ ys ≡ 36 ∷ (w ++ 40 ∷ (inner ++ 41 ∷ ys)) = ap (λ l. l ++ ys) is ∙ ap (λ l. 36 ∷ l) (append_assoc w part ys ∙ ap (λ l. w ++ (l ++ ys)) held ∙ ap (λ l. w ++ l) (enclosed-after inner ys)) in
      let size = ap length whole in
      let sum = length-append w (40 ∷ (inner ++ 41 ∷ ys)) in
      let g = arguments-together end Atom Text a first-byte (followed.IsChain Atom Pattern) (IsChain Text PatternOf) chains f (named f) (2 + (at + length w)) ts inner ys (omega arith) list in
      (w ++ 40 ∷ (inner ++ 41 ∷ ys), inner ++ 41 ∷ ys, w, ts, whole, word-reads w (40 ∷ (inner ++ 41 ∷ ys)) word refl, found, g, same)
  plain-together at (Selected pairs) s ys h (w, inner, part, cs, is, word, found, held, list, same) may =
      let whole : s ++ ys ≡ 36 ∷ (w ++ 40 ∷ (inner ++ 41 ∷ ys)) = ap (λ l. l ++ ys) is ∙ ap (λ l. 36 ∷ l) (append_assoc w part ys ∙ ap (λ l. w ++ (l ++ ys)) held ∙ ap (λ l. w ++ l) (enclosed-after inner ys)) in
      let size = ap length whole in
      let sum = length-append w (40 ∷ (inner ++ 41 ∷ ys)) in
      let g = list-together end (followed.IsChoice (followed.IsChain Atom Pattern)) (IsChoice (IsChain Text PatternOf)) (choice-joins end (followed.IsChain Atom Pattern) (IsChain Text PatternOf) chains) (2 + (at + length w)) cs inner ys (omega arith) list in
      (w ++ 40 ∷ (inner ++ 41 ∷ ys), inner ++ 41 ∷ ys, w, cs, whole, word-reads w (40 ∷ (inner ++ 41 ∷ ys)) word refl, found, g, same)
  plain-together at (BareCall column callee) s ys h (called, is, col, name) may =
      (called ++ ys, ap (λ l. l ++ ys) is, col ∙ sym (at-column end at (s ++ ys) h), callee-together callee.label callee.routine called ys name (tame-name ys may) (tame-caret ys may), tame-open ys may)
  plain-together at (CallOf column callee tail) s ys h (called, part, given, is, col, name, list, same) may =
      let front : s ++ ys ≡ 36 ∷ 36 ∷ (called ++ (part ++ ys)) = ap (λ l. l ++ ys) is ∙ ap (λ l. 36 ∷ 36 ∷ l) (append_assoc called part ys) in
      let size = ap length front in
      let sum = length-append called (part ++ ys) in
      let g = actuals-together end (followed.IsChain Atom Pattern) (IsChain Text PatternOf) chains chain-first (2 + (at + length called)) given part ys (omega arith) list in
      let whole : s ++ ys ≡ 36 ∷ 36 ∷ (called ++ 40 ∷ g.0) = front ∙ ap (λ l. 36 ∷ 36 ∷ (called ++ l)) g.1 in
      (called ++ 40 ∷ g.0, g.0, given, whole, col ∙ sym (at-column end at (s ++ ys) h), callee-together callee.label callee.routine called (40 ∷ g.0) name refl refl, g.2, same)

  plain-opens : (at : ℕ) (t : Tree) (s : List ℕ) → IsPlain Text PatternOf at t s → opens s ≡ true
  plain-opens at (Lit value) s (inl same) = number-opens s (canonical-number s value same)
  plain-opens at (Lit value) s (inr (is, good)) = rw is refl
  plain-opens at Free s (number, none) = number-opens s number
  plain-opens at (LocalName name subs) s (part, ss, is, good, list, same) = subst (λ z. opens z ≡ true) (sym is) (name-opens name part good)
  plain-opens at (GlobalName column name subs) s (part, ss, is, col, good, list, same) = rw is refl
  plain-opens at (SpecialName special) s (w, is, word, found) = rw is refl
  plain-opens at (Prefixed op t) s (operand, is, deep) = subst (λ z. opens z ≡ true) (sym is) (unary-opens op operand)
  plain-opens at (Chain t ls) s none = absurd none
  plain-opens at (PatternText text) s none = absurd none
  plain-opens at (Func f args) s (w, inner, part, ts, is, word, found, held, list, same) = rw is refl
  plain-opens at (Selected pairs) s (w, inner, part, cs, is, word, found, held, list, same) = rw is refl
  plain-opens at (BareCall column callee) s (called, is, col, name) = rw is refl
  plain-opens at (CallOf column callee tail) s (called, part, given, is, col, name, list, same) = rw is refl

  operand-apart : (at : ℕ) (t : Tree) (xs ys : List ℕ) → end ≡ at + length xs → followed.IsOperand end Atom Pattern t xs ys → (s : List ℕ) × (xs ≡ s ++ ys) × IsOperand Text PatternOf at t s
  operand-apart at t xs ys h (inl one) = let f = plain-apart at t xs ys h one in (f.0, f.1, inl f.2)
  operand-apart at t xs ys h (inr (m, is, one)) =
      let size = ap length is in
      let f = chains.apart (suc at) t m (41 ∷ ys) (omega arith) one in
      (40 ∷ (f.0 ++ 41 ∷ []), is ∙ ap (λ l. 40 ∷ l) f.1 ∙ sym (enclosed-after f.0 ys), inr (f.0, refl, f.2))

  operand-together : (at : ℕ) (t : Tree) (s ys : List ℕ) → end ≡ at + length (s ++ ys) → IsOperand Text PatternOf at t s → tame ys ≡ true → followed.IsOperand end Atom Pattern t (s ++ ys) ys
  operand-together at t s ys h (inl one) may = inl (plain-together at t s ys h one may)
  operand-together at t s ys h (inr (inner, is, one)) may =
      let whole : s ++ ys ≡ 40 ∷ (inner ++ 41 ∷ ys) = ap (λ l. l ++ ys) is ∙ enclosed-after inner ys in
      let size = ap length whole in
      inr (inner ++ 41 ∷ ys, whole, chains.together (suc at) t inner (41 ∷ ys) (omega arith) one (closed ys))

  pub operand-joins : Joins end (followed.IsOperand end Atom Pattern) (IsOperand Text PatternOf) tame
  operand-joins = record { apart = operand-apart; together = operand-together }

  pub operand-opens : (at : ℕ) (t : Tree) (s : List ℕ) → IsOperand Text PatternOf at t s → opens s ≡ true
  operand-opens at t s (inl one) = plain-opens at t s one
  operand-opens at t s (inr (inner, is, one)) = rw is refl

-- every depth
abbrev Both : ℕ → ℕ → Type 0
Both end k = Joins end (followed.IsAtom end k) (IsAtom k) tame × ((at : ℕ) (t : Tree) (s : List ℕ) → IsAtom k at t s → opens s ≡ true)

atom-both : (end k : ℕ) → Both end k
unfolding IsAtom followed.IsAtom
atom-both end zero = (record { apart = λ at t xs ys h none. absurd none; together = λ at t s ys h none may. absurd none }, λ at t s none. absurd none)
atom-both end (suc k) =
    let b = atom-both end k in
    let o = operand-joins end (followed.IsAtom end k) (IsAtom k) b.0 b.1 (followed.IsPattern k) (IsPattern k) (pattern-joins k) in
    (record { apart = o.apart; together = o.together }, operand-opens end (followed.IsAtom end k) (IsAtom k) b.0 b.1 (followed.IsPattern k) (IsPattern k) (pattern-joins k))

pub atom-joins : (end k : ℕ) → Joins end (followed.IsAtom end k) (IsAtom k) tame
atom-joins end k = (atom-both end k).0

pub atom-opens : (end k at : ℕ) (t : Tree) (s : List ℕ) → IsAtom k at t s → opens s ≡ true
atom-opens end k = (atom-both end k).1

-- an expression that nests at most this deep
pub nested-joins : (end k : ℕ) → Joins end (followed.IsChain (followed.IsAtom end k) (followed.IsPattern k)) (IsChain (IsAtom k) (IsPattern k)) ends
nested-joins end k = chains end (followed.IsAtom end k) (IsAtom k) (atom-joins end k) (atom-opens end k) (followed.IsPattern k) (IsPattern k) (pattern-joins k)

pub nested-opens : (end k at : ℕ) (t : Tree) (s : List ℕ) → IsChain (IsAtom k) (IsPattern k) at t s → opens s ≡ true
nested-opens end k = chain-first end (followed.IsAtom end k) (IsAtom k) (atom-joins end k) (atom-opens end k) (followed.IsPattern k) (IsPattern k) (pattern-joins k)
