-- The arguments of SET.
use Rattle.std.proofs.Common.{◌≡◌, ◌+◌, ◌-◌, ℕ, suc, List, [], ◌∷◌, ◌++◌, length, drop, Some, None, true, inl, inr, refl, sym, ap, ◌∙◌, arith, subst, append_assoc, add-one, codes, length-append, length-drop}
use Rattle.std.specs.Prelude.{◌⊎◌}
use Rattle.std.specs.List.{list_all}
use Rattle.std.specs.Str.{str_to_ascii_lowercase, str_eq_ignore_ascii_case}
use Rattle.std.proofs.lemmas.Bool.{cases_Bool, or_cases}
use Rattle.std.proofs.lemmas.Option.{same_Some}
use Rattle.mlk_text.specs.Lexemes.{is_letter, word_at}
use Rattle.mlk_text.specs.Spellings.{IsWord}
use Rattle.mlk_text.proofs.Spelled.{word-reads, word-spelled}
use Rattle.mlk_dialect.specs.declared.dialect.Dialect.{Dialect}
use Rattle.mlk_expr.specs.declared.context.Allows.TheVariants.{NoCalls}
use Rattle.mlk_syntax.specs.ExprTrees.{Tree}
use Rattle.mlk_expr.specs.Grammar.{IsExprWhere, AreNext, IsList}
use Rattle.mlk_expr.specs.Theorem.{Stands, ExprEnds}
use Rattle.mlk_syntax.specs.declared.command.Part.{Part}
use Rattle.mlk_syntax.specs.declared.command.Part.TheVariants as part
use Rattle.mlk_syntax.specs.Trees.{VariableTree, TargetTree, SetWhole, SetPart, SetTree, SetTo}
use Rattle.mlk_routine_arguments.specs.PartsRead.{Found, Nowhere, first_of, byte_at}
use Rattle.mlk_routine_arguments.specs.Ends.{Lacks, MoreEnds, AreEnded, AnyEnds, VariableEnds, Begins, SingleEnds, OneEnds, NextEnds, part_of, IsPartOpening, TargetEnds, SetEnds}
use Rattle.mlk_routine_arguments.specs.Stops.{expr_stop}
use Rattle.mlk_routine_arguments.specs.CommandGrammar.{Both, IsVariable, IsOneOrEnclosed, is_part_word, in_set, IsTarget, IsSet}
use Rattle.mlk_routine_arguments.proofs.Sequences.{Parts, Turned, stands_at}
use Rattle.mlk_routine_arguments.proofs.Bytes.{AfterByte, byte_there, byte_before}
use Rattle.mlk_routine_arguments.proofs.Enclosed.{IsByte, closes}
use Rattle.mlk_routine_arguments.proofs.Words.{same_case, lower_word}
use Rattle.mlk_routine_arguments.proofs.Variables.{variable_starts, starts_lacking, variable_shut, variable_before}

-- the function of a word, whatever the case of its letters
case_part : (s t : List ℕ) → str_to_ascii_lowercase s ≡ str_to_ascii_lowercase t → part_of s ≡ part_of t
unfolding part_of
case_part s t same = rw same refl

same_part : (p : Part) (s t : List ℕ) → str_eq_ignore_ascii_case s t ≡ true → IsWord t → part_of t ≡ Some p → IsWord s × (part_of s ≡ Some p)
same_part p s t e word is =
    let same = same_case s t e in
    (sym (lower_word s) ∙ ap (list_all is_letter) same ∙ lower_word t ∙ word, case_part s t same ∙ is)

pub part_reads : (p : Part) (s : List ℕ) → is_part_word p s ≡ true → IsWord s × (part_of s ≡ Some p)
unfolding part_of
part_reads part.Piece s h = elim (or_cases (str_eq_ignore_ascii_case s (codes "P")) (str_eq_ignore_ascii_case s (codes "PIECE")) h) [
  | inl e ↦ same_part part.Piece s (codes "P") e refl refl
  | inr e ↦ same_part part.Piece s (codes "PIECE") e refl refl
]
part_reads part.Extract s h = elim (or_cases (str_eq_ignore_ascii_case s (codes "E")) (str_eq_ignore_ascii_case s (codes "EXTRACT")) h) [
  | inl e ↦ same_part part.Extract s (codes "E") e refl refl
  | inr e ↦ same_part part.Extract s (codes "EXTRACT") e refl refl
]

part_written : (p : Part) (s : List ℕ) → part_of s ≡ Some p → is_part_word p s ≡ true
unfolding part_of
part_written p s h = elim (cases_Bool (is_part_word part.Piece s)) [
  | inl e ↦ let same : Some part.Piece ≡ Some p = rw e at h in subst (λ q. is_part_word q s ≡ true) (same_Some part.Piece p same) e
  | inr e ↦ elim (cases_Bool (is_part_word part.Extract s)) [
    | inl f ↦ let same : Some part.Extract ≡ Some p = rw (e, f) at h in subst (λ q. is_part_word q s ≡ true) (same_Some part.Extract p same) f
    | inr f ↦ cc (rw (e, f) at h)
  ]
]

-- the function of a target and its parenthesis
module _ (line : List ℕ) (at : ℕ) (here : byte_at line at ≡ Some 36) (word after : List ℕ) (read : (word, after) ≡ word_at (drop (at + 1) line)) where
  there : drop at line ≡ 36 ∷ drop (at + 1) line
  there = byte_there line at 36 here ∙ ap (λ k. 36 ∷ drop k line) (sym (add-one at))

  pub target_reads : (w u rest : List ℕ) → drop at line ≡ u ++ rest → u ≡ 36 ∷ (w ++ 40 ∷ []) → IsWord w → (w ≡ word) × (40 ∷ rest ≡ after)
  target_reads w u rest h is good =
      let whole : 36 ∷ drop (at + 1) line ≡ 36 ∷ (w ++ 40 ∷ rest) = sym there ∙ h ∙ ap (λ l. l ++ rest) is ∙ ap (λ l. 36 ∷ l) (append_assoc w (40 ∷ []) rest) in
      let a : drop (at + 1) line ≡ w ++ 40 ∷ rest = cc whole in
      let b = word-reads w (40 ∷ rest) good refl in
      let r : (word, after) ≡ (w, 40 ∷ rest) = read ∙ ap word_at a ∙ b in
      (sym (ap (λ (p : List ℕ × List ℕ). p.0) r), sym (ap (λ (p : List ℕ × List ℕ). p.1) r))

  pub no_opening : (part_of word ≡ None) ⊎ (byte_at after 0 ≡ Some 40 → ⊥) → Nowhere IsPartOpening AnyEnds line at
  no_opening (inl none) p u rest h (w, is, good) e =
      let f = part_reads p w good in
      let r = target_reads w u rest h is f.0 in
      cc (sym f.1 ∙ ap part_of r.0 ∙ none)
  no_opening (inr missing) p u rest h (w, is, good) e = missing (ap first_of (sym (target_reads w u rest h is (part_reads p w good).0).1))

  pub opening_found : (p : Part) → part_of word ≡ Some p → byte_at after 0 ≡ Some 40 → Found IsPartOpening AnyEnds line at p (length line - length after + 1)
  opening_found p of parenthesis =
      let s = word-spelled word (drop (at + 1) line) after (sym read) in
      let opens : after ≡ 40 ∷ drop 1 after = byte_there after 0 40 parenthesis in
      let text = 36 ∷ (word ++ 40 ∷ []) in
      let joined : drop at line ≡ text ++ drop 1 after = there ∙ ap (λ l. 36 ∷ l) (s.1 ∙ ap (λ l. word ++ l) opens ∙ sym (append_assoc word (40 ∷ []) (drop 1 after))) in
      let less = byte_before line at 36 here in
      let stands = stands_at IsPartOpening AnyEnds line at p text (drop 1 after) (omega arith) joined (word, refl, part_written p word of) tt in
      let all = length-drop (at + 1) line in
      let sum : length (drop (at + 1) line) ≡ length word + length after = ap length s.1 ∙ length-append word after in
      let size : length text ≡ suc (length word + 1) = ap suc (length-append word (40 ∷ [])) in
      let end : at + length text ≡ length line - length after + 1 = omega arith in
      (subst (λ n. Stands IsPartOpening AnyEnds line at p n) end stands.0, λ c u rest h is e. only c u rest h is (stands.1 ∙ ap (λ n. drop n line) end) opens)
    where
      only : (c : Part) (u rest : List ℕ) → drop at line ≡ u ++ rest → IsPartOpening (suc at) c u → drop 1 after ≡ drop (length line - length after + 1) line → after ≡ 40 ∷ drop 1 after → (c ≡ p) × (rest ≡ drop (length line - length after + 1) line)
      only c u rest h (w, is, good) back opens =
          let f = part_reads c w good in
          let r = target_reads w u rest h is f.0 in
          let same : rest ≡ drop 1 after = let k : 40 ∷ rest ≡ 40 ∷ drop 1 after = r.1 ∙ opens in cc k in
          (same_Some c p (sym f.1 ∙ ap part_of r.0 ∙ of), same ∙ back)

-- arguments, each after a comma
pub arguments_turned : (line : List ℕ) (at : ℕ) → byte_at line at ≡ Some 44 → Turned line at (AfterByte 44 (IsList (IsExprWhere NoCalls))) (AreEnded ExprEnds) (AreNext (IsExprWhere NoCalls)) NextEnds (λ items. items)
arguments_turned line at here = record {
  into = λ items s is. into items s is;
  ends = λ items rest e. ends items rest e;
  apart = λ c u rest h is e. apart c u rest h is e;
}
  where
    into : (items : List Tree) (s : List ℕ) → AfterByte 44 (IsList (IsExprWhere NoCalls)) (suc at) items s → AreNext (IsExprWhere NoCalls) (suc at) items s
    into items s (r, is, (first, others, front, back, same, more, one, next)) =
        subst (λ l. AreNext (IsExprWhere NoCalls) (suc at) l s) (sym same)
        (front, back, is ∙ ap (λ l. 44 ∷ l) more, one, subst (λ k. AreNext (IsExprWhere NoCalls) k others back) (omega arith) next)

    ends : (items : List Tree) (rest : List ℕ) → AreEnded ExprEnds items rest → NextEnds items rest
    ends [] rest e = absurd e
    ends (t ∷ more) rest e = e

    apart : (c : List Tree) (u rest : List ℕ) → drop at line ≡ u ++ rest → AreNext (IsExprWhere NoCalls) (suc at) c u → NextEnds c rest
        → (items : List Tree) × (c ≡ items) × AfterByte 44 (IsList (IsExprWhere NoCalls)) (suc at) items u × AreEnded ExprEnds items rest
    apart [] u rest h is e = absurd (e (sym (ap first_of (h ∙ ap (λ l. l ++ rest) is)) ∙ here))
    apart (t ∷ more) u rest h (front, back, is, one, next) e =
        (t ∷ more, refl, (front ++ back, is, (t, more, front, back, refl, refl, one, subst (λ k. AreNext (IsExprWhere NoCalls) k more back) (omega arith) next)), e)

-- a variable and such arguments
abbrev pub IsInner : ℕ → VariableTree × List Tree → List ℕ → Type 0
IsInner at p s = Both (λ n r. IsVariable NoCalls n p.0 r) (λ n r. AreNext (IsExprWhere NoCalls) n p.1 r) at s

abbrev pub InnerEnd : VariableTree → List Tree → List ℕ → Type 0
InnerEnd v [] rest = VariableEnds v rest × Lacks 44 rest
InnerEnd v (t ∷ more) rest = MoreEnds ExprEnds t more rest

abbrev pub InnerEnds : VariableTree × List Tree → List ℕ → Type 0
InnerEnds p rest = InnerEnd (p.0) (p.1) rest

pub inner_parts : (line : List ℕ) (at : ℕ) → Parts line at (IsVariable NoCalls) VariableEnds (λ v. AreNext (IsExprWhere NoCalls)) (λ v. NextEnds) IsInner InnerEnds (λ v arguments. (v, arguments))
inner_parts line at = record {
  into = λ v arguments s t one two. (s, t, refl, one, two);
  ends = λ v arguments k t rest is before after. closes k v arguments t rest is before after;
  apart = λ c u rest h (s, t, is, one, two) e. (c.0, c.1, s, t, is, refl, one, two, before' (suc at + length s) (c.0) (c.1) t rest two e, after' (c.0) (c.1) rest e);
}
  where
    closes : (k : ℕ) (v : VariableTree) (arguments : List Tree) (t rest : List ℕ) → AreNext (IsExprWhere NoCalls) k arguments t → VariableEnds v (t ++ rest) → NextEnds arguments rest → InnerEnd v arguments rest
    closes k v [] t rest is before after = (subst (λ l. VariableEnds v (l ++ rest)) is before, after)
    closes k v (x ∷ more) t rest is before after = after

    before' : (k : ℕ) (v : VariableTree) (arguments : List Tree) (t rest : List ℕ) → AreNext (IsExprWhere NoCalls) k arguments t → InnerEnd v arguments rest → VariableEnds v (t ++ rest)
    before' k v [] t rest is e = subst (λ l. VariableEnds v (l ++ rest)) (sym is) e.0
    before' k v (x ∷ more) t rest (front, back, is, one, next) e = subst (λ l. VariableEnds v (l ++ rest)) (sym is) (variable_before v (44 ∷ ((front ++ back) ++ rest)) refl)

    after' : (v : VariableTree) (arguments : List Tree) (rest : List ℕ) → InnerEnd v arguments rest → NextEnds arguments rest
    after' v [] rest e = e.1
    after' v (x ∷ more) rest e = e

-- these and the parenthesis after them
abbrev pub IsClosing : ℕ → VariableTree × List Tree → List ℕ → Type 0
IsClosing at p s = (inner : List ℕ) × (s ≡ inner ++ 41 ∷ []) × IsInner at p inner

inner_close : (v : VariableTree) (arguments : List Tree) (rest : List ℕ) → InnerEnd v arguments (41 ∷ rest)
inner_close v [] rest = (variable_before v (41 ∷ rest) refl, λ bad. let e = same_Some 41 44 bad in omega (arith, e))
inner_close v (t ∷ more) rest = closes (IsExprWhere NoCalls) ExprEnds expr_stop t more rest

pub closing_parts : (line : List ℕ) (at : ℕ) → Parts line at IsInner InnerEnds (λ p. IsByte 41) (λ p. AnyEnds) IsClosing AnyEnds (λ p u. p)
closing_parts line at = record {
  into = λ p u s t one two. (s, ap (λ l. s ++ l) two, one);
  ends = λ p u k t rest is before after. tt;
  apart = λ c u rest h (inner, is, one) e. (c, tt, inner, 41 ∷ [], is, refl, one, refl, inner_close (c.0) (c.1) rest, tt);
}

pub target_parts : (d : Dialect) (line : List ℕ) (at : ℕ) → byte_at line at ≡ Some 36 → Parts line at IsPartOpening AnyEnds (λ p. IsClosing) (λ p. AnyEnds) (IsTarget d) TargetEnds (λ p q. SetPart p (q.0) (q.1))
target_parts d line at here = record {
  into = λ p q s t one two. into p q s t one two;
  ends = λ p q k t rest is before after. tt;
  apart = λ c u rest h is e. apart c u rest h is;
}
  where
    into : (p : Part) (q : VariableTree × List Tree) (s t : List ℕ) → IsPartOpening (suc at) p s → IsClosing (suc at + length s) q t → IsTarget d (suc at) (SetPart p (q.0) (q.1)) (s ++ t)
    into p q s t (word, is, good) (inner, closes, one) =
        let whole = ap (λ l. l ++ t) is ∙ ap (λ l. 36 ∷ l) (append_assoc word (40 ∷ []) t) ∙ ap (λ l. 36 ∷ (word ++ 40 ∷ l)) closes in
        let size : length s ≡ suc (length word + 1) = ap length is ∙ ap suc (length-append word (40 ∷ [])) in
        (word, inner, 40 ∷ (inner ++ 41 ∷ []), whole, good, refl, subst (λ k. IsInner k q inner) (omega (arith, size)) one)

    apart : (c : TargetTree) (u rest : List ℕ) → drop at line ≡ u ++ rest → IsTarget d (suc at) c u
        → (p : Part) × (q : VariableTree × List Tree) × (s t : List ℕ) × (u ≡ s ++ t) × (c ≡ SetPart p (q.0) (q.1)) × IsPartOpening (suc at) p s × IsClosing (suc at + length s) q t × Unit {0} × Unit {0}
    apart (SetWhole v) u rest h is = absurd (starts_lacking 36 refl u rest (variable_starts (in_set d) (suc at) v u is) (sym (ap first_of h) ∙ here))
    apart (SetPart p v arguments) u rest h (word, inner, enclosed, is, good, held, one) =
        let s = 36 ∷ (word ++ 40 ∷ []) in
        let t = inner ++ 41 ∷ [] in
        let whole : u ≡ s ++ t = is ∙ ap (λ l. 36 ∷ (word ++ l)) held ∙ ap (λ l. 36 ∷ l) (sym (append_assoc word (40 ∷ []) t)) in
        let size : length s ≡ suc (length word + 1) = ap suc (length-append word (40 ∷ [])) in
        (p, (v, arguments), s, t, whole, refl, (word, refl, good), (inner, refl, subst (λ k. IsInner k (v, arguments) inner) (omega (arith, size)) one), tt, tt)

-- no target begins with a parenthesis, and an equals sign ends one
pub target_shut : (d : Dialect) (at : ℕ) (t : TargetTree) (s : List ℕ) → IsTarget d at t s → Begins s
target_shut d at (SetWhole v) s is = variable_shut (in_set d) at v s is
target_shut d at (SetPart p v arguments) s is = (36, is.0 ++ is.2, is.3, λ bad. omega (arith, bad))

target_equals : (t : TargetTree) (rest : List ℕ) → TargetEnds t (61 ∷ rest)
target_equals (SetWhole v) rest = variable_before v (61 ∷ rest) refl
target_equals (SetPart p v arguments) rest = tt

pub set_parts : (d : Dialect) (line : List ℕ) (at : ℕ) → Parts line at (IsOneOrEnclosed (IsTarget d)) (OneEnds TargetEnds (byte_at line at)) (λ targets. AfterByte 61 (IsExprWhere (in_set d))) (λ targets. ExprEnds) (IsSet d) SetEnds SetTo
set_parts d line at = record {
  into = λ targets value s t one two. (s, t, refl, one, two);
  ends = λ targets value k t rest is before after. after;
  apart = λ c u rest h is e. go c u rest h is e;
}
  where
    ended : (targets : List TargetTree) (u front back rest : List ℕ) → drop at line ≡ u ++ rest → u ≡ front ++ back → IsOneOrEnclosed (IsTarget d) (suc at) targets front → (r : List ℕ) × (back ≡ 61 ∷ r) → OneEnds TargetEnds (byte_at line at) targets (back ++ rest)
    ended targets u front back rest h is (inl (t, same, one)) (r, equals) =
        inr (subst (λ l. SingleEnds TargetEnds l (back ++ rest)) (sym same) (subst (λ l. TargetEnds t (l ++ rest)) (sym equals) (target_equals t (r ++ rest))))
    ended targets u front back rest h is (inr (inner, open', list)) equals = inl (ap first_of (h ∙ ap (λ l. l ++ rest) (is ∙ ap (λ l. l ++ back) open')))

    go : (c : SetTree) (u rest : List ℕ) → drop at line ≡ u ++ rest → IsSet d (suc at) c u → SetEnds c rest
        → (targets : List TargetTree) × (value : Tree) × (s t : List ℕ) × (u ≡ s ++ t) × (c ≡ SetTo targets value) × IsOneOrEnclosed (IsTarget d) (suc at) targets s × AfterByte 61 (IsExprWhere (in_set d)) (suc at + length s) value t × OneEnds TargetEnds (byte_at line at) targets (t ++ rest) × ExprEnds value rest
    go (SetTo targets value) u rest h (s, t, is, one, two) e = (targets, value, s, t, is, refl, one, two, ended targets u s t rest h is one (two.0, two.1), e)
