-- Operands and expressions are read exactly.
use Rattle.std.proofs.Common.{◌≡◌, ℕ, zero, suc, List, [], ◌∷◌, Some, None, true, false, refl, sym, ap, ◌∙◌, subst, inl, inr}
use Rattle.std.specs.Prelude.{Option}
use Rattle.std.proofs.lemmas.Bool.{cases_Bool}
use Rattle.mlk_text.specs.Lexemes.{byte_at, name_at, inside, IsQuoted, word_at}
use Rattle.mlk_numbers.specs.Canonical.{canonical_text}
use Rattle.mlk_text.proofs.Lexemes.{byte-is, name-after, quoted-sound, quoted-complete, quoted-after}
use Rattle.mlk_text.proofs.Readers.{then_some, pair_parts, with_some, After, after-one, after_then, Exact}
use Rattle.mlk_syntax.specs.declared.expr.Callee.{Callee}
use Rattle.mlk_syntax.specs.declared.expr.Special.{Special}
use Rattle.mlk_expr_tokens.specs.declared.lexeme.Kind.{Kind}
use Rattle.mlk_expr_tokens.specs.declared.lexeme.Kind.TheVariants as kind
use Rattle.mlk_syntax.specs.ExprTrees.{Tree, Lit, Free, LocalName, GlobalName, SpecialName, Prefixed, Chain, PatternText, Func, Selected, BareCall, CallOf}
use Rattle.mlk_expr.specs.declared.context.Allows.TheVariants.{Extended}
use Rattle.mlk_expr.specs.declared.context.Passing.TheVariants.{ByReference}
use Rattle.mlk_expr_tokens.specs.Words.{special_of, function_of, is_select}
use Rattle.mlk_expr_tokens.specs.Lexemes.{column_of, kind_of, numeral_at}
use Rattle.mlk_expr.specs.Grammar.{named}
use Rattle.mlk_expr.proofs.Followed.{IsPattern, IsChain, IsPlain, IsOperand, IsAtom, IsChoice}
use Rattle.mlk_expr.specs.Reading.{quietly, number_by, number_of, pattern_at, chain_with, subs_with, actuals_with, callee_at, call_by, call_with, arguments_by, arguments_with, choice_with, list_with, function_with, special_by, word_by, dollar_by, dollar_with, atom_by, operand_with, atom_at}
use Rattle.mlk_numbers.proofs.CanonicalReading.{canonical-sound, canonical-complete, canonical-none}
use Rattle.mlk_expr.proofs.LexemeLemmas.{numeral-after, word-after, kind-open, kind-quote, kind-caret, kind-dollar, prefix-is, prefix-from, is-open, is-quote, is-caret, is-dollar, name-first, numeral-first, word-none, no-special, no-function, no-select, function-no-select}
use Rattle.mlk_expr.proofs.Parts.{list-exact, chain-exact, subs-exact, pattern-exact}
use Rattle.mlk_expr.proofs.Arguments.{CalleeIs, actuals-exact, callee-exact, choice-exact, arguments-exact}

-- what is one level deeper, read exactly
pub record Level (read : List ℕ → Option (Tree × List ℕ)) (Is : Tree → List ℕ → List ℕ → Type 0) (pattern : List ℕ → Option (List ℕ × List ℕ)) (Pattern : List ℕ → List ℕ → List ℕ → Type 0) : Type 0 where
  pub atoms : Exact read Is
  pub patterns : Exact pattern Pattern

module _ (end : ℕ) (read : List ℕ → Option (Tree × List ℕ)) (Is : Tree → List ℕ → List ℕ → Type 0) (pattern : List ℕ → Option (List ℕ × List ℕ)) (Pattern : List ℕ → List ℕ → List ℕ → Type 0) (l : Level read Is pattern Pattern) where
  chains : Exact (chain_with read pattern) (IsChain Is Pattern)
  chains = chain-exact read Is pattern Pattern l.atoms l.patterns

  number-plain : (text xs ys : List ℕ) (o : Option (List ℕ)) → canonical_text text ≡ o → numeral_at xs ≡ Some (text, ys) → IsPlain end Is Pattern (number_by o) xs ys
  number-plain text xs ys None is n = (text, n, λ value h. let bad = sym is ∙ canonical-complete text value h in cc bad)
  number-plain text xs ys (Some value) is n = inl (text, n, canonical-sound text value is)

  call-sound : (t : Tree) (xs ys : List ℕ) → call_with true end (chain_with read pattern) (column_of end (36 ∷ 36 ∷ xs)) xs ≡ Some (t, ys) → IsPlain end Is Pattern t (36 ∷ 36 ∷ xs) ys
  unfolding call_with
  call-sound t xs ys h =
      let c = then_some (callee_at xs) _ (t, ys) h in
      go c.0.0 c.0.1 (byte_at 40 c.0.1) (callee-exact.sound c.0.0 xs c.0.1 c.1) refl c.2
    where
      go : (callee : Callee) (rest : List ℕ) (o : Option (ℕ × List ℕ)) → CalleeIs callee xs rest → byte_at 40 rest ≡ o
          → call_by end (chain_with read pattern) (column_of end (36 ∷ 36 ∷ xs)) callee rest o ≡ Some (t, ys) → IsPlain end Is Pattern t (36 ∷ 36 ∷ xs) ys
      go callee rest None is b h =
          let p = pair_parts (BareCall (column_of end (36 ∷ 36 ∷ xs)) callee) t rest ys h in
          subst (λ z. IsPlain end Is Pattern z (36 ∷ 36 ∷ xs) ys) p.0
          (xs, refl, refl, subst (λ z. CalleeIs callee xs z) p.1 is, subst (λ z. byte_at 40 z ≡ None) p.1 b)
      go callee rest (Some o) is b h =
          let w = with_some _ (actuals_with ByReference end (chain_with read pattern) o.1) t ys h in
          subst (λ z. IsPlain end Is Pattern z (36 ∷ 36 ∷ xs) ys) (sym w.2) (
            xs,
            o.1,
            w.0,
            refl,
            refl,
            subst (λ z. CalleeIs callee xs z) (byte-is 40 o.0 rest o.1 b) is,
            (actuals-exact end (chain_with read pattern) (IsChain Is Pattern) chains).sound w.0 o.1 ys w.1,
            refl,
          )

  function-sound : (t : Tree) (w m xs ys : List ℕ) → word_at m ≡ (w, 40 ∷ xs) → function_with Extended read (chain_with read pattern) (quietly (chain_with read pattern)) w xs ≡ Some (t, ys) → IsPlain end Is Pattern t (36 ∷ m) ys
  unfolding function_with arguments_with
  function-sound t w m xs ys is h = elim (cases_Bool (is_select w)) [
    | inl s ↦
        let c = with_some _ (list_with (choice_with (chain_with read pattern)) xs) t ys (rw s at h) in
        subst (λ z. IsPlain end Is Pattern z (36 ∷ m) ys) (sym c.2) (
          m,
          xs,
          w,
          c.0,
          refl,
          is,
          s,
          (list-exact (choice_with (chain_with read pattern)) (IsChoice (IsChain Is Pattern)) (choice-exact (chain_with read pattern) (IsChain Is Pattern) chains)).sound c.0 xs ys c.1,
          refl,
        )
    | inr s ↦
        let f = then_some (function_of w) _ (t, ys) (rw s at h) in
        let a = with_some _ (arguments_by read (chain_with read pattern) (quietly (chain_with read pattern)) f.0 (named f.0) xs) t ys f.2 in
        subst (λ z. IsPlain end Is Pattern z (36 ∷ m) ys) (sym a.2) (
          m,
          xs,
          w,
          a.0,
          refl,
          is,
          f.1,
          (arguments-exact read Is (chain_with read pattern) (IsChain Is Pattern) l.atoms chains f.0 (named f.0)).sound a.0 xs ys a.1,
          refl,
        )
  ]

  special-sound : (t : Tree) (w rest m ys : List ℕ) (o : Option Special) → word_at m ≡ (w, rest) → byte_at 40 rest ≡ None → special_of w ≡ o → special_by o rest ≡ Some (t, ys)
      → IsPlain end Is Pattern t (36 ∷ m) ys
  special-sound t w rest m ys None is b s h = cc h
  special-sound t w rest m ys (Some v) is b s h =
      let p = pair_parts (SpecialName v) t rest ys h in
      subst (λ z. IsPlain end Is Pattern z (36 ∷ m) ys) p.0 (m, w, refl, is ∙ ap (λ z. (w, z)) p.1, s, subst (λ z. byte_at 40 z ≡ None) p.1 b)

  word-sound : (t : Tree) (m ys : List ℕ) (o : Option (ℕ × List ℕ)) → byte_at 40 (word_at m).1 ≡ o → word_by Extended read (chain_with read pattern) (quietly (chain_with read pattern)) (word_at m) o ≡ Some (t, ys) → IsPlain end Is Pattern t (36 ∷ m) ys
  word-sound t m ys None b h = special-sound t (word_at m).0 (word_at m).1 m ys (special_of (word_at m).0) refl b refl h
  word-sound t m ys (Some o) b h = function-sound t (word_at m).0 m o.1 ys (ap (λ z. ((word_at m).0, z)) (byte-is 40 o.0 (word_at m).1 o.1 b)) h

  dollar-sound : (t : Tree) (xs ys : List ℕ) → dollar_with Extended end read (chain_with read pattern) (quietly (chain_with read pattern)) (column_of end (36 ∷ xs)) xs ≡ Some (t, ys) → IsPlain end Is Pattern t (36 ∷ xs) ys
  unfolding dollar_with
  dollar-sound t xs ys h = go (byte_at 36 xs) refl h
    where
      go : (o : Option (ℕ × List ℕ)) → byte_at 36 xs ≡ o → dollar_by Extended end read (chain_with read pattern) (quietly (chain_with read pattern)) (column_of end (36 ∷ xs)) xs o ≡ Some (t, ys) → IsPlain end Is Pattern t (36 ∷ xs) ys
      go None b h = word-sound t xs ys (byte_at 40 (word_at xs).1) refl h
      go (Some d) b h =
          let is = byte-is 36 d.0 xs d.1 b in
          let moved : call_with true end (chain_with read pattern) (column_of end (36 ∷ 36 ∷ d.1)) d.1 ≡ Some (t, ys) =
          subst (λ z. call_with true end (chain_with read pattern) (column_of end (36 ∷ z)) d.1 ≡ Some (t, ys)) is h in
          subst (λ z. IsPlain end Is Pattern t (36 ∷ z) ys) (sym is) (call-sound t d.1 ys moved)

  operand-sound : (k : Kind) (b : ℕ) → kind_of b ≡ k → (t : Tree) (xs ys : List ℕ) → atom_by Extended end read (quietly (chain_with read pattern)) pattern k b xs ≡ Some (t, ys) → IsOperand end Is Pattern t (b ∷ xs) ys
  operand-sound kind.Numeral b is t xs ys h =
      let w = with_some number_of (numeral_at (b ∷ xs)) t ys h in
      subst (λ u. IsOperand end Is Pattern u (b ∷ xs) ys) (sym w.2) (inl (number-plain w.0 (b ∷ xs) ys (canonical_text w.0) refl w.1))
  operand-sound kind.Quote b is t xs ys h =
      let w = with_some Lit (inside xs) t ys h in
      let q = subst (λ c. IsQuoted w.0 (c ∷ xs) ys) (sym (is-quote b is)) (quoted-sound w.0 xs ys w.1) in
      subst (λ u. IsOperand end Is Pattern u (b ∷ xs) ys) (sym w.2) (inl (inr q))
  operand-sound kind.Letter b is t xs ys h =
      let n = then_some (name_at (b ∷ xs)) _ (t, ys) h in
      let w = with_some _ (subs_with end (chain_with read pattern) n.0.1) t ys n.2 in
      let subs = (subs-exact end (chain_with read pattern) (IsChain Is Pattern) chains).sound w.0 n.0.1 ys w.1 in
      subst (λ u. IsOperand end Is Pattern u (b ∷ xs) ys) (sym w.2) (inl (n.0.1, w.0, n.1, subs, refl))
  operand-sound kind.Caret b is t xs ys h =
      let n = then_some (name_at xs) _ (t, ys) h in
      let w = with_some _ (subs_with end (chain_with read pattern) n.0.1) t ys n.2 in
      let subs = (subs-exact end (chain_with read pattern) (IsChain Is Pattern) chains).sound w.0 n.0.1 ys w.1 in
      subst (λ u. IsOperand end Is Pattern u (b ∷ xs) ys) (sym w.2) (inl (xs, n.0.1, w.0, ap (λ c. c ∷ xs) (is-caret b is), refl, n.1, subs, refl))
  operand-sound kind.Dollar b is t xs ys h =
      let eq = is-dollar b is in
      let moved : dollar_with Extended end read (chain_with read pattern) (quietly (chain_with read pattern)) (column_of end (36 ∷ xs)) xs ≡ Some (t, ys) =
      subst (λ c. dollar_with Extended end read (chain_with read pattern) (quietly (chain_with read pattern)) (column_of end (c ∷ xs)) xs ≡ Some (t, ys)) eq h in
      inl (subst (λ c. IsPlain end Is Pattern t (c ∷ xs) ys) (sym eq) (dollar-sound t xs ys moved))
  operand-sound kind.Open b is t xs ys h =
      let n = then_some (chain_with read pattern xs) _ (t, ys) h in
      let w = with_some _ (byte_at 41 n.0.1) t ys n.2 in
      let c = subst (λ z. IsChain Is Pattern n.0.0 xs z) (byte-is 41 w.0 n.0.1 ys w.1) (chains.sound n.0.0 xs n.0.1 n.1) in
      subst (λ u. IsOperand end Is Pattern u (b ∷ xs) ys) (sym w.2) (inr (xs, ap (λ c. c ∷ xs) (is-open b is), c))
  operand-sound (kind.Prefix op) b is t xs ys h =
      let w = with_some (Prefixed op) (read xs) t ys h in
      subst (λ u. IsOperand end Is Pattern u (b ∷ xs) ys) (sym w.2) (inl (b, xs, refl, prefix-is b op is, l.atoms.sound w.0 xs ys w.1))
  operand-sound kind.Other b is t xs ys h = cc h

  -- every operand is read
  word-is : (m w ys : List ℕ) → word_at m ≡ (w, ys) → ((word_at m).0 ≡ w) × ((word_at m).1 ≡ ys)
  word-is m w ys h = (ap (λ p. p.0) h, ap (λ p. p.1) h)

  plain-complete : (t : Tree) (xs ys : List ℕ) → IsPlain end Is Pattern t xs ys → operand_with Extended end read (quietly (chain_with read pattern)) pattern xs ≡ Some (t, ys)
  unfolding call_with function_with arguments_with dollar_with
  plain-complete (Lit value) xs ys (inl (text, n, same)) =
      let f = numeral-first text xs ys n in
      rw (f.2) (rw (f.3) (rw (← f.2) (rw n (ap (λ o. Some (number_by o, ys)) (canonical-complete text value same)))))
  plain-complete (Lit value) xs ys (inr q) =
      let f = quoted-complete value xs ys q in
      rw (f.1) (rw kind-quote (rw (f.2) refl))
  plain-complete Free xs ys (text, n, none) =
      let f = numeral-first text xs ys n in
      rw (f.2) (rw (f.3) (rw (← f.2) (rw n (ap (λ o. Some (number_by o, ys)) (canonical-none text none)))))
  plain-complete (LocalName name subs) xs ys (m, ss, n, list, same) =
      let f = name-first name xs m n in
      let more = (subs-exact end (chain_with read pattern) (IsChain Is Pattern) chains).complete ss m ys list in
      rw (f.2) (rw (f.3) (rw (← f.2) (rw n (rw more (rw same refl)))))
  plain-complete (GlobalName column name subs) xs ys (m, n, ss, is, at, text, list, same) =
      let more = (subs-exact end (chain_with read pattern) (IsChain Is Pattern) chains).complete ss n ys list in
      rw is (rw kind-caret (rw text (rw more (rw (same, at, is) refl))))
  plain-complete (SpecialName special) xs ys (m, w, is, word, found, none) =
      let some : w ≡ [] → ⊥ = λ e. let bad : None ≡ Some special = sym no-special ∙ ap special_of (sym e) ∙ found in cc bad in
      let no = word-none m w ys word some in
      let p = word-is m w ys word in
      rw is (rw kind-dollar (rw no (rw (p.0, p.1) (rw none (rw found refl)))))
  plain-complete (Prefixed op t) xs ys (b, m, is, o, deep) = rw is (rw (prefix-from b op o) (rw (l.atoms.complete t m ys deep) refl))
  plain-complete (Chain t ls) xs ys h = absurd h
  plain-complete (PatternText text) xs ys h = absurd h
  plain-complete (Func f args) xs ys (m, n, w, ts, is, word, found, list, same) =
      let some : w ≡ [] → ⊥ = λ e. let bad : None ≡ Some f = sym no-function ∙ ap function_of (sym e) ∙ found in cc bad in
      let no = word-none m w (40 ∷ n) word some in
      let p = word-is m w (40 ∷ n) word in
      let more = (arguments-exact read Is (chain_with read pattern) (IsChain Is Pattern) l.atoms chains f (named f)).complete ts n ys list in
      rw is (rw kind-dollar (rw no (rw (p.0, p.1) (rw (function-no-select w f found) (rw found (rw more (rw same refl)))))))
  plain-complete (Selected cs') xs ys (m, n, w, cs, is, word, found, list, same) =
      let some : w ≡ [] → ⊥ = λ e. let bad : false ≡ true = sym no-select ∙ ap is_select (sym e) ∙ found in cc bad in
      let no = word-none m w (40 ∷ n) word some in
      let p = word-is m w (40 ∷ n) word in
      let more = (list-exact (choice_with (chain_with read pattern)) (IsChoice (IsChain Is Pattern)) (choice-exact (chain_with read pattern) (IsChain Is Pattern) chains)).complete cs n ys list in
      rw is (rw kind-dollar (rw no (rw (p.0, p.1) (rw found (rw more (rw same refl))))))
  plain-complete (BareCall column callee) xs ys (m, is, at, named-is, none) =
      let c = callee-exact.complete callee m ys named-is in
      rw is (rw kind-dollar (rw c (rw none (rw (at, is) refl))))
  plain-complete (CallOf column callee as') xs ys (m, n, given, is, at, named-is, list, same) =
      let c = callee-exact.complete callee m (40 ∷ n) named-is in
      let more = (actuals-exact end (chain_with read pattern) (IsChain Is Pattern) chains).complete given n ys list in
      rw is (rw kind-dollar (rw c (rw more (rw (same, at, is) refl))))

  operand-complete : (t : Tree) (xs ys : List ℕ) → IsOperand end Is Pattern t xs ys → operand_with Extended end read (quietly (chain_with read pattern)) pattern xs ≡ Some (t, ys)
  operand-complete t xs ys (inl h) = plain-complete t xs ys h
  operand-complete t xs ys (inr (m, is, inner)) = rw is (rw kind-open (rw (chains.complete t m (41 ∷ ys) inner) refl))

  plain-after : (t : Tree) (xs ys : List ℕ) → IsPlain end Is Pattern t xs ys → After ys xs
  plain-after (Lit value) xs ys (inl (text, n, same)) = numeral-after text xs ys n
  plain-after (Lit value) xs ys (inr q) = quoted-after value xs ys q
  plain-after Free xs ys (text, n, none) = numeral-after text xs ys n
  plain-after (LocalName name subs) xs ys (m, ss, n, list, same) =
      after_then xs m ys (name-after name xs m n) ((subs-exact end (chain_with read pattern) (IsChain Is Pattern) chains).after ss m ys list)
  plain-after (GlobalName column name subs) xs ys (m, n, ss, is, at, text, list, same) =
      subst (λ z. After ys z) (sym is)
      (after_then (94 ∷ m) m ys (after-one 94 m) (after_then m n ys (name-after name m n text) ((subs-exact end (chain_with read pattern) (IsChain Is Pattern) chains).after ss n ys list)))
  plain-after (SpecialName special) xs ys (m, w, is, word, found, none) =
      subst (λ z. After ys z) (sym is) (after_then (36 ∷ m) m ys (after-one 36 m) (word-after w m ys word))
  plain-after (Prefixed op t) xs ys (b, m, is, o, deep) = subst (λ z. After ys z) (sym is) (after_then (b ∷ m) m ys (after-one b m) (l.atoms.after t m ys deep))
  plain-after (Chain t ls) xs ys h = absurd h
  plain-after (PatternText text) xs ys h = absurd h
  plain-after (Func f args) xs ys (m, n, w, ts, is, word, found, list, same) =
      let more = (arguments-exact read Is (chain_with read pattern) (IsChain Is Pattern) l.atoms chains f (named f)).after ts n ys list in
      subst (λ z. After ys z) (sym is)
      (after_then (36 ∷ m) m ys (after-one 36 m) (after_then m (40 ∷ n) ys (word-after w m (40 ∷ n) word) (after_then (40 ∷ n) n ys (after-one 40 n) more)))
  plain-after (Selected cs') xs ys (m, n, w, cs, is, word, found, list, same) =
      let more = (list-exact (choice_with (chain_with read pattern)) (IsChoice (IsChain Is Pattern)) (choice-exact (chain_with read pattern) (IsChain Is Pattern) chains)).after cs n ys list in
      subst (λ z. After ys z) (sym is)
      (after_then (36 ∷ m) m ys (after-one 36 m) (after_then m (40 ∷ n) ys (word-after w m (40 ∷ n) word) (after_then (40 ∷ n) n ys (after-one 40 n) more)))
  plain-after (BareCall column callee) xs ys (m, is, at, named-is, none) =
      subst (λ z. After ys z) (sym is) (after_then (36 ∷ 36 ∷ m) m ys (36 ∷ 36 ∷ [], refl) (callee-exact.after callee m ys named-is))
  plain-after (CallOf column callee as') xs ys (m, n, given, is, at, named-is, list, same) =
      let more = (actuals-exact end (chain_with read pattern) (IsChain Is Pattern) chains).after given n ys list in
      subst (λ z. After ys z) (sym is)
      (after_then (36 ∷ 36 ∷ m) m ys (36 ∷ 36 ∷ [], refl) (after_then m (40 ∷ n) ys (callee-exact.after callee m (40 ∷ n) named-is) (after_then (40 ∷ n) n ys (after-one 40 n) more)))

  operand-after : (t : Tree) (xs ys : List ℕ) → IsOperand end Is Pattern t xs ys → After ys xs
  operand-after t xs ys (inl h) = plain-after t xs ys h
  operand-after t xs ys (inr (m, is, inner)) =
      subst (λ z. After ys z) (sym is) (after_then (40 ∷ m) m ys (after-one 40 m) (after_then m (41 ∷ ys) ys (chains.after t m (41 ∷ ys) inner) (after-one 41 ys)))

  pub operand-exact : Exact (operand_with Extended end read (quietly (chain_with read pattern)) pattern) (IsOperand end Is Pattern)
  operand-exact = record { sound = start; complete = operand-complete; after = operand-after }
    where
      start : (t : Tree) (xs ys : List ℕ) → operand_with Extended end read (quietly (chain_with read pattern)) pattern xs ≡ Some (t, ys) → IsOperand end Is Pattern t xs ys
      start t [] ys h = cc h
      start t (b ∷ xs) ys h = operand-sound (kind_of b) b refl t xs ys h

pub atom-exact : (end k : ℕ) → Exact (atom_at end k) (IsAtom end k)
unfolding atom_at IsAtom
atom-exact end zero = record { sound = λ t xs ys h. cc h; complete = λ t xs ys h. absurd h; after = λ t xs ys h. absurd h }
atom-exact end (suc k) =
    let o = operand-exact end (atom_at end k) (IsAtom end k) (pattern_at k) (IsPattern k) (record { atoms = atom-exact end k; patterns = pattern-exact k }) in
    record { sound = o.sound; complete = o.complete; after = o.after }

pub expr-exact : (end k : ℕ) → Exact (chain_with (atom_at end k) (pattern_at k)) (IsChain (IsAtom end k) (IsPattern k))
expr-exact end k = chain-exact (atom_at end k) (IsAtom end k) (pattern_at k) (IsPattern k) (atom-exact end k) (pattern-exact k)
