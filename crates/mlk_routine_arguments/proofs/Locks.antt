-- The arguments of LOCK.
use Rattle.std.proofs.Common.{◌≡◌, ◌≤◌, ◌+◌, ℕ, suc, List, [], ◌∷◌, ◌++◌, length, drop, Some, None, true, false, inl, inr, refl, sym, ap, ◌∙◌, arith, subst, add-one}
use Rattle.std.specs.Prelude.{Option, ◌⊎◌}
use Rattle.std.proofs.lemmas.Option.{same_Some}
use Rattle.mlk_dialect.specs.declared.dialect.Dialect.{Dialect}
use Rattle.mlk_expr.specs.declared.context.Allows.{Allows}
use Rattle.mlk_expr.specs.declared.context.Allows.TheVariants.{Everything, NoTouches}
use Rattle.mlk_syntax.specs.ExprTrees.{Tree}
use Rattle.mlk_expr_tokens.specs.Lexemes.{starts_reference}
use Rattle.mlk_expr.specs.Grammar.{IsExprWhere}
use Rattle.mlk_expr.specs.Theorem.{Stands, ExprEnds}
use Rattle.mlk_syntax.specs.declared.command.Sign.{Sign}
use Rattle.mlk_syntax.specs.declared.command.Sign.TheVariants as sign
use Rattle.mlk_syntax.specs.Trees.{VariableTree, LockTree, LockNames}
use Rattle.mlk_routine_arguments.specs.PartsRead.{Found, Nowhere, first_of, byte_at}
use Rattle.mlk_routine_arguments.specs.Ends.{is_stop, VariableEnds, SingleEnds, OneEnds, IsSign, SignEnds, TimeoutEnds, LockEnds}
use Rattle.mlk_routine_arguments.specs.Stops.{variable_stop}
use Rattle.mlk_routine_arguments.specs.CommandGrammar.{Both, IsVariable, IsOneOrEnclosed, IsLockTimeout, IsLock, after_names, in_names}
use Rattle.mlk_routine_arguments.proofs.Sequences.{Parts, Turned}
use Rattle.mlk_routine_arguments.proofs.Bytes.{AfterByte, byte_there, byte_before, drop_next}
use Rattle.mlk_routine_arguments.proofs.Variables.{variable_starts, starts_lacking, variable_before}

module _ (line : List ℕ) (at : ℕ) where
  -- a sign that is there
  module _ (s : Sign) (b : ℕ) (same : IsSign 0 s (b ∷ [])) (free : (rest : List ℕ) → SignEnds s rest) (here : byte_at line at ≡ Some b) where
    sign_stands : Stands IsSign SignEnds line at s (at + 1)
    sign_stands =
        let size = byte_before line at b here in
        let there = byte_there line at b here ∙ ap (λ k. b ∷ drop k line) (sym (add-one at)) in
        record { text = b ∷ []; within = omega arith; joined = there; spelled = same; ended = free (drop (at + 1) line) }

    after_sign : (u rest : List ℕ) → drop at line ≡ u ++ rest → u ≡ b ∷ [] → rest ≡ drop (at + 1) line
    after_sign u rest h is = sym (drop_next line at b rest (h ∙ ap (λ l. l ++ rest) is)) ∙ ap (λ k. drop k line) (sym (add-one at))

    front_is : (c : ℕ) (u rest : List ℕ) → drop at line ≡ u ++ rest → u ≡ c ∷ [] → c ≡ b
    front_is c u rest h is = same_Some c b (sym (ap first_of (h ∙ ap (λ l. l ++ rest) is)) ∙ here)

  pub plus_found : byte_at line at ≡ Some 43 → Found IsSign SignEnds line at sign.Plus (at + 1)
  plus_found here = (sign_stands sign.Plus 43 refl (λ rest. tt) here, λ c u rest h is e. go c u rest h is e)
    where
      go : (c : Sign) (u rest : List ℕ) → drop at line ≡ u ++ rest → IsSign (suc at) c u → SignEnds c rest → (c ≡ sign.Plus) × (rest ≡ drop (at + 1) line)
      go sign.None u rest h is e = absurd (e.0 (sym (ap first_of (h ∙ ap (λ l. l ++ rest) is)) ∙ here))
      go sign.Plus u rest h is e = (refl, after_sign sign.Plus 43 refl (λ rest. tt) here u rest h is)
      go sign.Minus u rest h is e = let bad = front_is sign.Plus 43 refl (λ rest. tt) here 45 u rest h is in absurd (omega (arith, bad))

  pub minus_found : byte_at line at ≡ Some 45 → Found IsSign SignEnds line at sign.Minus (at + 1)
  minus_found here = (sign_stands sign.Minus 45 refl (λ rest. tt) here, λ c u rest h is e. go c u rest h is e)
    where
      go : (c : Sign) (u rest : List ℕ) → drop at line ≡ u ++ rest → IsSign (suc at) c u → SignEnds c rest → (c ≡ sign.Minus) × (rest ≡ drop (at + 1) line)
      go sign.None u rest h is e = absurd (e.1 (sym (ap first_of (h ∙ ap (λ l. l ++ rest) is)) ∙ here))
      go sign.Plus u rest h is e = let bad = front_is sign.Minus 45 refl (λ rest. tt) here 43 u rest h is in absurd (omega (arith, bad))
      go sign.Minus u rest h is e = (refl, after_sign sign.Minus 45 refl (λ rest. tt) here u rest h is)

  pub no_sign : at ≤ length line → (byte_at line at ≡ Some 43 → ⊥) → (byte_at line at ≡ Some 45 → ⊥) → Found IsSign SignEnds line at sign.None at
  no_sign less plus minus =
      let stands : Stands IsSign SignEnds line at sign.None at = record { text = []; within = less; joined = refl; spelled = refl; ended = (plus, minus) } in
      (stands, λ c u rest h is e. go c u rest h is e)
    where
      go : (c : Sign) (u rest : List ℕ) → drop at line ≡ u ++ rest → IsSign (suc at) c u → SignEnds c rest → (c ≡ sign.None) × (rest ≡ drop at line)
      go sign.None u rest h is e = (refl, sym (h ∙ ap (λ l. l ++ rest) is))
      go sign.Plus u rest h is e = absurd (plus (ap first_of (h ∙ ap (λ l. l ++ rest) is)))
      go sign.Minus u rest h is e = absurd (minus (ap first_of (h ∙ ap (λ l. l ++ rest) is)))

-- a timeout is missing, or begins with a colon
timeout_shape : (plus : Allows) (s : Sign) (k : ℕ) (timeout : Option Tree) (t : List ℕ) → IsLockTimeout plus s k timeout t → ((timeout ≡ None) × (t ≡ [])) ⊎ ((r : List ℕ) × (t ≡ 58 ∷ r))
timeout_shape plus sign.None k None t is = inl (refl, is)
timeout_shape plus sign.None k (Some x) t (r, is, one) = inr (r, is)
timeout_shape plus sign.Plus k None t is = inl (refl, is)
timeout_shape plus sign.Plus k (Some x) t (r, is, one) = inr (r, is)
timeout_shape plus sign.Minus k timeout t is = inl is

module _ (plus : Allows) (s : Sign) (line : List ℕ) (at : ℕ) where
  pub no_timeout : at ≤ length line → is_stop (drop at line) ≡ true → Found (IsLockTimeout plus s) TimeoutEnds line at None at
  no_timeout less stop = (stands, λ c u rest h is e. go c u rest h (timeout_shape plus s (suc at) c u is))
    where
      missing : (s : Sign) → IsLockTimeout plus s (suc at) None []
      missing sign.None = refl
      missing sign.Plus = refl
      missing sign.Minus = (refl, refl)

      stands : Stands (IsLockTimeout plus s) TimeoutEnds line at None at
      stands = record { text = []; within = less; joined = refl; spelled = missing s; ended = stop }

      go : (c : Option Tree) (u rest : List ℕ) → drop at line ≡ u ++ rest → ((c ≡ None) × (u ≡ [])) ⊎ ((r : List ℕ) × (u ≡ 58 ∷ r)) → (c ≡ None) × (rest ≡ drop at line)
      go c u rest h (inl is) = (is.0, sym (h ∙ ap (λ l. l ++ rest) is.1))
      go c u rest h (inr is) = cc (sym stop ∙ ap is_stop (h ∙ ap (λ l. l ++ rest) is.1))

  pub timeout_nowhere : is_stop (drop at line) ≡ false → (byte_at line at ≡ Some 58 → ⊥) → Nowhere (IsLockTimeout plus s) TimeoutEnds line at
  timeout_nowhere other missing c u rest h is e = go (timeout_shape plus s (suc at) c u is)
    where
      go : ((c ≡ None) × (u ≡ [])) ⊎ ((r : List ℕ) × (u ≡ 58 ∷ r)) → ⊥
      go (inl none) =
          let stop : is_stop rest ≡ true = subst (λ o. TimeoutEnds o rest) none.0 e in
          cc (sym other ∙ ap is_stop (h ∙ ap (λ l. l ++ rest) none.1) ∙ stop)
      go (inr some) = missing (ap first_of (h ∙ ap (λ l. l ++ rest) some.1))

-- what may follow where there is a colon: nothing after `-`
module _ (plus : Allows) (line : List ℕ) (at : ℕ) (here : byte_at line at ≡ Some 58) where
  no_stop : (rest : List ℕ) → drop at line ≡ rest → is_stop rest ≡ true → ⊥
  no_stop rest h stop = cc (sym stop ∙ ap is_stop (sym h ∙ byte_there line at 58 here))

  pub left_out : Nowhere (IsLockTimeout plus sign.Minus) TimeoutEnds line at
  left_out c u rest h is e = no_stop rest (h ∙ ap (λ l. l ++ rest) is.1) (subst (λ o. TimeoutEnds o rest) is.0 e)

  pub for_none : Turned line at (AfterByte 58 (IsExprWhere NoTouches)) ExprEnds (IsLockTimeout plus sign.None) TimeoutEnds Some
  for_none = record { into = λ t s is. is; ends = λ t rest e. e; apart = λ c u rest h is e. go c u rest h is e }
    where
      go : (c : Option Tree) (u rest : List ℕ) → drop at line ≡ u ++ rest → IsLockTimeout plus sign.None (suc at) c u → TimeoutEnds c rest → (t : Tree) × (c ≡ Some t) × AfterByte 58 (IsExprWhere NoTouches) (suc at) t u × ExprEnds t rest
      go None u rest h is e = absurd (no_stop rest (h ∙ ap (λ l. l ++ rest) is) e)
      go (Some t) u rest h is e = (t, refl, is, e)

  pub for_plus : Turned line at (AfterByte 58 (IsExprWhere plus)) ExprEnds (IsLockTimeout plus sign.Plus) TimeoutEnds Some
  for_plus = record { into = λ t s is. is; ends = λ t rest e. e; apart = λ c u rest h is e. go c u rest h is e }
    where
      go : (c : Option Tree) (u rest : List ℕ) → drop at line ≡ u ++ rest → IsLockTimeout plus sign.Plus (suc at) c u → TimeoutEnds c rest → (t : Tree) × (c ≡ Some t) × AfterByte 58 (IsExprWhere plus) (suc at) t u × ExprEnds t rest
      go None u rest h is e = absurd (no_stop rest (h ∙ ap (λ l. l ++ rest) is) e)
      go (Some t) u rest h is e = (t, refl, is, e)

  pub timed : (s : Sign) (allows : Allows) → ((s ≡ sign.None) × (allows ≡ NoTouches)) ⊎ ((s ≡ sign.Plus) × (allows ≡ plus)) → Turned line at (AfterByte 58 (IsExprWhere allows)) ExprEnds (IsLockTimeout plus s) TimeoutEnds Some
  timed s allows (inl w) = rw (w.0, w.1) for_none
  timed s allows (inr w) = rw (w.0, w.1) for_plus

-- names and their timeout
abbrev pub IsTimed : Dialect → Sign → ℕ → List VariableTree × Option Tree → List ℕ → Type 0
IsTimed d s at p u = Both (λ n r. IsOneOrEnclosed (IsVariable (in_names s)) n p.0 r) (λ n r. IsLockTimeout (after_names d p.0) s n p.1 r) at u

abbrev pub TimedEnds : List VariableTree × Option Tree → List ℕ → Type 0
TimedEnds p rest = TimeoutEnds p.1 rest

-- a name ends before a timeout
name_ends : (plus : Allows) (v : VariableTree) (s : Sign) (k : ℕ) (timeout : Option Tree) (t rest : List ℕ) → IsLockTimeout plus s k timeout t → TimeoutEnds timeout rest → VariableEnds v (t ++ rest)
name_ends plus v s k timeout t rest is e = go (timeout_shape plus s k timeout t is)
  where
    go : ((timeout ≡ None) × (t ≡ [])) ⊎ ((r : List ℕ) × (t ≡ 58 ∷ r)) → VariableEnds v (t ++ rest)
    go (inl none) = subst (λ l. VariableEnds v (l ++ rest)) (sym none.1) (variable_stop v rest (subst (λ o. TimeoutEnds o rest) none.0 e))
    go (inr some) = subst (λ l. VariableEnds v (l ++ rest)) (sym some.1) (variable_before v (58 ∷ (some.0 ++ rest)) refl)

pub timed_parts : (d : Dialect) (s : Sign) (line : List ℕ) (at : ℕ) → Parts line at (IsOneOrEnclosed (IsVariable (in_names s))) (OneEnds VariableEnds (byte_at line at)) (λ names. IsLockTimeout (after_names d names) s) (λ names. TimeoutEnds) (IsTimed d s) TimedEnds (λ names timeout. (names, timeout))
timed_parts d s line at = record {
  into = λ names timeout u t one two. (u, t, refl, one, two);
  ends = λ names timeout k t rest is before after. after;
  apart = λ c u rest h (front, back, is, one, two) e. (c.0, c.1, front, back, is, refl, one, two, go (c.0) (c.1) u front back rest h is one two e, e);
}
  where
    go : (names : List VariableTree) (timeout : Option Tree) (u front back rest : List ℕ) → drop at line ≡ u ++ rest → u ≡ front ++ back → IsOneOrEnclosed (IsVariable (in_names s)) (suc at) names front → IsLockTimeout (after_names d names) s (suc at + length front) timeout back → TimeoutEnds timeout rest
        → OneEnds VariableEnds (byte_at line at) names (back ++ rest)
    go names timeout u front back rest h is (inl (v, same, one)) two e = inr (subst (λ l. SingleEnds VariableEnds l (back ++ rest)) (sym same) (name_ends (after_names d names) v s (suc at + length front) timeout back rest two e))
    go names timeout u front back rest h is (inr (inner, open', list)) two e = inl (ap first_of (h ∙ ap (λ l. l ++ rest) (is ∙ ap (λ l. l ++ back) open')))

-- no name begins with a sign
timed_lacks : (b : ℕ) → starts_reference (b ∷ []) ≡ false → (b ≡ 40 → ⊥) → (d : Dialect) (s : Sign) (k : ℕ) (p : List VariableTree × Option Tree) (t rest : List ℕ) → IsTimed d s k p t → first_of (t ++ rest) ≡ Some b → ⊥
timed_lacks b other shut d s k p t rest (front, back, is, inl (v, same, one), two) here =
    starts_lacking b other (front ++ back) rest (whole front back (variable_starts (in_names s) k v front one)) (sym (ap (λ l. first_of (l ++ rest)) is) ∙ here)
  where
    whole : (front back : List ℕ) → starts_reference front ≡ true → starts_reference (front ++ back) ≡ true
    whole [] back h = cc h
    whole (c ∷ front) back h = h
timed_lacks b other shut d s k p t rest (front, back, is, inr (inner, open', list), two) here =
    shut (sym (same_Some 40 b (sym (ap (λ l. first_of (l ++ rest)) (is ∙ ap (λ l. l ++ back) open')) ∙ here)))

pub lock_parts : (d : Dialect) (line : List ℕ) (at : ℕ) → Parts line at IsSign SignEnds (λ s. IsTimed d s) (λ s. TimedEnds) (IsLock d) LockEnds (λ s p. LockNames s (p.0) (p.1))
lock_parts d line at = record {
  into = λ s p u t one two. (u, t, refl, one, two);
  ends = λ s p k t rest is before after. after;
  apart = λ c u rest h is e. go c u rest is e;
}
  where
    free : (s : Sign) (k : ℕ) (p : List VariableTree × Option Tree) (t rest : List ℕ) → IsTimed d s k p t → SignEnds s (t ++ rest)
    free sign.None k p t rest is = (timed_lacks 43 refl (λ e. omega (arith, e)) d sign.None k p t rest is, timed_lacks 45 refl (λ e. omega (arith, e)) d sign.None k p t rest is)
    free sign.Plus k p t rest is = tt
    free sign.Minus k p t rest is = tt

    go : (c : LockTree) (u rest : List ℕ) → IsLock d (suc at) c u → LockEnds c rest
        → (s : Sign) × (p : List VariableTree × Option Tree) × (front back : List ℕ) × (u ≡ front ++ back) × (c ≡ LockNames s (p.0) (p.1)) × IsSign (suc at) s front × IsTimed d s (suc at + length front) p back × SignEnds s (back ++ rest) × TimedEnds p rest
    go (LockNames s names timeout) u rest (front, back, is, one, two) e =
        (s, (names, timeout), front, back, is, refl, one, two, free s (suc at + length front) (names, timeout) back rest two, e)

pub in_signed : (s : Sign) → (s ≡ sign.Plus) ⊎ (s ≡ sign.Minus) → Everything ≡ in_names s
in_signed s (inl is) = rw is refl
in_signed s (inr is) = rw is refl
