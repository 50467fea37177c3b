-- The arguments of READ.
use Rattle.std.proofs.Common.{◌≡◌, ◌+◌, ℕ, suc, List, [], ◌∷◌, ◌++◌, length, drop, Some, None, true, false, inl, inr, refl, sym, ap, ◌∙◌, arith, subst}
use Rattle.std.specs.Prelude.{Option}
use Rattle.std.proofs.lemmas.Option.{same_Some}
use Rattle.mlk_dialect.specs.declared.dialect.Dialect.{Dialect}
use Rattle.mlk_expr.specs.declared.context.Allows.{Allows}
use Rattle.mlk_expr.specs.declared.context.Allows.TheVariants.{Everything}
use Rattle.mlk_syntax.specs.ExprTrees.{Tree}
use Rattle.mlk_expr_tokens.specs.Lexemes.{starts_reference}
use Rattle.mlk_expr.specs.Grammar.{Spelled}
use Rattle.mlk_syntax.specs.Trees.{VariableTree, ReadTree, ReadText, ReadFormat, ReadLine, ReadCharacter}
use Rattle.mlk_routine_arguments.specs.PartsRead.{first_of, byte_at}
use Rattle.mlk_routine_arguments.specs.Ends.{AfterEnds, VariableEnds, IsPrompt, PromptEnds, starts_format, FormatEnds, TimedEnds, MostEnds, ReadEnds}
use Rattle.mlk_routine_arguments.specs.CommandGrammar.{Both, IsAfter, IsFormat, IsLocal, IsRead, after_local, after_most}
use Rattle.mlk_routine_arguments.proofs.Sequences.{Parts, Turned}
use Rattle.mlk_routine_arguments.proofs.Bytes.{AfterByte}
use Rattle.mlk_routine_arguments.proofs.Variables.{variable_starts, starts_lacking, starts_whole, variable_before}
use Rattle.mlk_routine_arguments.proofs.Parameters.{colon_ends}
use Rattle.mlk_routine_arguments.proofs.Formats.{format_starts, starts_with, other_start}

-- a thing and a timeout
abbrev pub IsTimed : {A : Type 0} → (A → Allows) → Spelled A → ℕ → A × Option Tree → List ℕ → Type 0
IsTimed allows Is at p s = Both (λ n r. Is n p.0 r) (λ n r. IsAfter 58 (allows p.0) n p.1 r) at s

abbrev pub TimedEnd : {A : Type 0} → (A → List ℕ → Type 0) → A × Option Tree → List ℕ → Type 0
TimedEnd Ends p rest = TimedEnds (Ends p.0) p.1 rest

module _ {A : Type 0} (allows : A → Allows) (Is : Spelled A) (Ends : A → List ℕ → Type 0) (colon : (a : A) (rest : List ℕ) → Ends a (58 ∷ rest)) (line : List ℕ) (at : ℕ) where
  pub timed_parts : Parts line at Is Ends (λ a. IsAfter 58 (allows a)) (λ a. AfterEnds 58) (IsTimed allows Is) (TimedEnd Ends) (λ a timeout. (a, timeout))
  timed_parts = record {
    into = λ a timeout s t one two. (s, t, refl, one, two);
    ends = λ a timeout k t rest is before after. closes k a timeout t rest is before after;
    apart = λ c u rest h (s, t, is, one, two) e. (c.0, c.1, s, t, is, refl, one, two, opens (suc at + length s) (c.0) (c.1) t rest two e, after (c.0) (c.1) rest e);
  }
    where
      closes : (k : ℕ) (a : A) (timeout : Option Tree) (t rest : List ℕ) → IsAfter 58 (allows a) k timeout t → Ends a (t ++ rest) → AfterEnds 58 timeout rest → TimedEnds (Ends a) timeout rest
      closes k a None t rest is before after = (subst (λ l. Ends a (l ++ rest)) is before, after)
      closes k a (Some x) t rest is before after = after

      opens : (k : ℕ) (a : A) (timeout : Option Tree) (t rest : List ℕ) → IsAfter 58 (allows a) k timeout t → TimedEnds (Ends a) timeout rest → Ends a (t ++ rest)
      opens k a None t rest is e = subst (λ l. Ends a (l ++ rest)) (sym is) e.0
      opens k a (Some x) t rest is e = subst (λ l. Ends a (l ++ rest)) (sym is.1) (colon a (is.0 ++ rest))

      after : (a : A) (timeout : Option Tree) (rest : List ℕ) → TimedEnds (Ends a) timeout rest → AfterEnds 58 timeout rest
      after a None rest e = e.1
      after a (Some x) rest e = e

-- a colon ends a local and a length
pub local_colon : (v : VariableTree) (rest : List ℕ) → VariableEnds v (58 ∷ rest)
local_colon v rest = variable_before v (58 ∷ rest) refl

pub most_colon : (most : Option Tree) (rest : List ℕ) → AfterEnds 35 most (58 ∷ rest)
most_colon None rest = λ bad. let e = same_Some 58 35 bad in omega (arith, e)
most_colon (Some t) rest = colon_ends t rest

-- a length and a timeout, and a local and a timeout
abbrev pub IsLimits : Dialect → VariableTree → ℕ → Option Tree × Option Tree → List ℕ → Type 0
IsLimits d v = IsTimed (after_most d v) (IsAfter 35 Everything)

abbrev pub LimitsEnd : Option Tree × Option Tree → List ℕ → Type 0
LimitsEnd = TimedEnd (AfterEnds 35)

abbrev pub IsTimedLocal : Dialect → ℕ → VariableTree × Option Tree → List ℕ → Type 0
IsTimedLocal d = IsTimed (after_local d) IsLocal

abbrev pub TimedLocalEnds : VariableTree × Option Tree → List ℕ → Type 0
TimedLocalEnds = TimedEnd VariableEnds

-- what a local does not begin with
local_starts : (at : ℕ) (v : VariableTree) (front back rest : List ℕ) → IsLocal at v front → starts_reference (front ++ back) ≡ true
local_starts at v front back rest is = starts_whole front back (variable_starts Everything at v front is.0)

line_lacks : (b : ℕ) → starts_reference (b ∷ []) ≡ false → (d : Dialect) (k : ℕ) (v : VariableTree) (most timeout : Option Tree) (u rest : List ℕ) → IsRead d k (ReadLine v most timeout) u → first_of (u ++ rest) ≡ Some b → ⊥
line_lacks b other d k v most timeout u rest (front, back, is, one, two) here =
    starts_lacking b other (front ++ back) rest (local_starts k v front back rest one) (ap (λ l. first_of (l ++ rest)) (sym is) ∙ here)

line_no_format : (d : Dialect) (k : ℕ) (v : VariableTree) (most timeout : Option Tree) (u rest : List ℕ) → IsRead d k (ReadLine v most timeout) u → starts_format (u ++ rest) ≡ true → ⊥
line_no_format d k v most timeout u rest is h = elim (starts_with (u ++ rest) h) [
  | inl e ↦ line_lacks 33 refl d k v most timeout u rest is e
  | inr (inl e) ↦ line_lacks 35 refl d k v most timeout u rest is e
  | inr (inr e) ↦ line_lacks 63 refl d k v most timeout u rest is e
]

other_byte : (line : List ℕ) (at b c : ℕ) (r : List ℕ) → (c ≡ b → ⊥) → byte_at line at ≡ Some b → drop at line ≡ c ∷ r → ⊥
other_byte line at b c r other here h = other (same_Some c b (sym (ap first_of h) ∙ here))

module _ (d : Dialect) (line : List ℕ) (at : ℕ) where
  pub read_prompt : byte_at line at ≡ Some 34 → Turned line at IsPrompt PromptEnds (IsRead d) ReadEnds ReadText
  read_prompt here = record {
    into = λ prompt s is. is;
    ends = λ prompt rest e. e;
    apart = λ c u rest h is e. go c u rest h is e;
  }
    where
      go : (c : ReadTree) (u rest : List ℕ) → drop at line ≡ u ++ rest → IsRead d (suc at) c u → ReadEnds c rest → (prompt : List ℕ) × (c ≡ ReadText prompt) × IsPrompt (suc at) prompt u × PromptEnds prompt rest
      go (ReadText prompt) u rest h is e = (prompt, refl, is, e)
      go (ReadFormat tab) u rest h is e = absurd (other_start line at 34 (λ l. refl) here (ap starts_format h ∙ format_starts (suc at) tab u rest is))
      go (ReadLine v most timeout) u rest h is e = absurd (line_lacks 34 refl d (suc at) v most timeout u rest is (sym (ap first_of h) ∙ here))
      go (ReadCharacter v timeout) u rest h is e = absurd (other_byte line at 34 42 (is.0 ++ rest) (λ bad. omega (arith, bad)) here (h ∙ ap (λ l. l ++ rest) is.1))

  pub read_format : starts_format (drop at line) ≡ true → Turned line at IsFormat FormatEnds (IsRead d) ReadEnds ReadFormat
  read_format begins = record {
    into = λ tab s is. is;
    ends = λ tab rest e. e;
    apart = λ c u rest h is e. go c u rest h is e;
  }
    where
      go : (c : ReadTree) (u rest : List ℕ) → drop at line ≡ u ++ rest → IsRead d (suc at) c u → ReadEnds c rest → (tab : Option Tree) × (c ≡ ReadFormat tab) × IsFormat (suc at) tab u × FormatEnds tab rest
      go (ReadText prompt) u rest h is e = cc (sym begins ∙ ap starts_format (h ∙ ap (λ l. l ++ rest) is.0))
      go (ReadFormat tab) u rest h is e = (tab, refl, is, e)
      go (ReadLine v most timeout) u rest h is e = absurd (line_no_format d (suc at) v most timeout u rest is (sym (ap starts_format h) ∙ begins))
      go (ReadCharacter v timeout) u rest h is e = cc (sym begins ∙ ap starts_format (h ∙ ap (λ l. l ++ rest) is.1))

  pub read_character : byte_at line at ≡ Some 42 → Turned line at (AfterByte 42 (IsTimedLocal d)) TimedLocalEnds (IsRead d) ReadEnds (λ p. ReadCharacter (p.0) (p.1))
  read_character here = record {
    into = λ p s is. is;
    ends = λ p rest e. e;
    apart = λ c u rest h is e. go c u rest h is e;
  }
    where
      go : (c : ReadTree) (u rest : List ℕ) → drop at line ≡ u ++ rest → IsRead d (suc at) c u → ReadEnds c rest → (p : VariableTree × Option Tree) × (c ≡ ReadCharacter (p.0) (p.1)) × AfterByte 42 (IsTimedLocal d) (suc at) p u × TimedLocalEnds p rest
      go (ReadText prompt) u rest h is e = absurd (other_byte line at 42 34 _ (λ bad. omega (arith, bad)) here (h ∙ ap (λ l. l ++ rest) is.0))
      go (ReadFormat tab) u rest h is e = absurd (other_start line at 42 (λ l. refl) here (ap starts_format h ∙ format_starts (suc at) tab u rest is))
      go (ReadLine v most timeout) u rest h is e = absurd (line_lacks 42 refl d (suc at) v most timeout u rest is (sym (ap first_of h) ∙ here))
      go (ReadCharacter v timeout) u rest h is e = ((v, timeout), refl, is, e)

  pub line_parts : (byte_at line at ≡ Some 34 → ⊥) → starts_format (drop at line) ≡ false → (byte_at line at ≡ Some 42 → ⊥) → Parts line at IsLocal VariableEnds (λ v. IsLimits d v) (λ v. LimitsEnd) (IsRead d) ReadEnds (λ v p. ReadLine v (p.0) (p.1))
  line_parts quote begins star = record {
    into = λ v p s t one two. (s, t, refl, one, two);
    ends = λ v p k t rest is before after. closes k v (p.0) (p.1) t rest is before after;
    apart = λ c u rest h is e. go c u rest h is e;
  }
    where
      closes : (k : ℕ) (v : VariableTree) (most timeout : Option Tree) (t rest : List ℕ) → IsLimits d v k (most, timeout) t → VariableEnds v (t ++ rest) → LimitsEnd (most, timeout) rest → TimedEnds (MostEnds v most) timeout rest
      closes k v None None t rest (front, back, is, one, two) before after =
          let none : t ≡ [] = is ∙ ap (λ l. l ++ back) one ∙ two in
          ((subst (λ l. VariableEnds v (l ++ rest)) none before, after.0), after.1)
      closes k v (Some m) None t rest is before after = after
      closes k v most (Some x) t rest is before after = after

      before' : (k : ℕ) (v : VariableTree) (most timeout : Option Tree) (t rest : List ℕ) → IsLimits d v k (most, timeout) t → TimedEnds (MostEnds v most) timeout rest → VariableEnds v (t ++ rest)
      before' k v None None t rest (front, back, is, one, two) e =
          let none : t ≡ [] = is ∙ ap (λ l. l ++ back) one ∙ two in
          subst (λ l. VariableEnds v (l ++ rest)) (sym none) e.0.0
      before' k v None (Some x) t rest (front, back, is, one, two) e =
          let colon : t ≡ 58 ∷ two.0 = is ∙ ap (λ l. l ++ back) one ∙ two.1 in
          subst (λ l. VariableEnds v (l ++ rest)) (sym colon) (local_colon v (two.0 ++ rest))
      before' k v (Some m) timeout t rest (front, back, is, one, two) e =
          let number : t ≡ 35 ∷ (one.0 ++ back) = is ∙ ap (λ l. l ++ back) one.1 in
          subst (λ l. VariableEnds v (l ++ rest)) (sym number) (variable_before v (35 ∷ ((one.0 ++ back) ++ rest)) refl)

      after' : (v : VariableTree) (most timeout : Option Tree) (rest : List ℕ) → TimedEnds (MostEnds v most) timeout rest → LimitsEnd (most, timeout) rest
      after' v None None rest e = (e.0.1, e.1)
      after' v (Some m) None rest e = e
      after' v most (Some x) rest e = e

      go : (c : ReadTree) (u rest : List ℕ) → drop at line ≡ u ++ rest → IsRead d (suc at) c u → ReadEnds c rest
          → (v : VariableTree) × (p : Option Tree × Option Tree) × (s t : List ℕ) × (u ≡ s ++ t) × (c ≡ ReadLine v (p.0) (p.1)) × IsLocal (suc at) v s × IsLimits d v (suc at + length s) p t × VariableEnds v (t ++ rest) × LimitsEnd p rest
      go (ReadText prompt) u rest h is e = absurd (quote (ap first_of (h ∙ ap (λ l. l ++ rest) is.0)))
      go (ReadFormat tab) u rest h is e = cc (sym begins ∙ ap starts_format h ∙ format_starts (suc at) tab u rest is)
      go (ReadLine v most timeout) u rest h (s, t, is, one, two) e = (v, (most, timeout), s, t, is, refl, one, two, before' (suc at + length s) v most timeout t rest two e, after' v most timeout rest e)
      go (ReadCharacter v timeout) u rest h is e = absurd (star (ap first_of (h ∙ ap (λ l. l ++ rest) is.1)))
