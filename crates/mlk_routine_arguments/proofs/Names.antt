-- The arguments of KILL, NEW and MERGE.
use Rattle.mlk_text.proofs.Spelled.{name-parts}
use Rattle.std.proofs.Common.{◌≡◌, ◌+◌, ℕ, suc, List, [], ◌∷◌, ◌++◌, length, drop, Some, Bool, true, false, refl, sym, ap, ◌∙◌, arith, subst}
use Rattle.std.specs.Prelude.{◌||◌, ◌==◌}
use Rattle.std.proofs.lemmas.Option.{same_Some}
use Rattle.mlk_expr.specs.declared.context.Allows.TheVariants.{Everything, NoCalls}
use Rattle.mlk_expr_tokens.specs.Lexemes.{starts_reference}
use Rattle.mlk_expr.specs.Grammar.{IsNameText}
use Rattle.mlk_syntax.specs.Trees.{VariableTree, KillTree, KillOne, KillAllBut, MergeTree, MergeInto, NewTree, NewOne, NewAllBut}
use Rattle.mlk_routine_arguments.specs.PartsRead.{Nowhere, first_of, byte_at}
use Rattle.mlk_routine_arguments.specs.Ends.{VariableEnds, KillEnds, MergeEnds, NewEnds, AnyEnds}
use Rattle.mlk_routine_arguments.specs.CommandGrammar.{IsVariable, AreEnclosed, IsKill, IsMerge, IsNew}
use Rattle.mlk_routine_arguments.proofs.Sequences.{Parts, Turned}
use Rattle.mlk_routine_arguments.proofs.Bytes.{AfterByte, byte_there}
use Rattle.mlk_text.specs.Spellings.{IsName}
use Rattle.mlk_text.specs.Lexemes.{is_letter}
use Rattle.mlk_routine_arguments.proofs.Variables.{variable_starts, variable_before}

-- no local and no global begins with a parenthesis
not_open : (s : List ℕ) → starts_reference s ≡ true → first_of s ≡ Some 40 → ⊥
not_open [] start here = cc here
not_open (b ∷ s) start here = let e = same_Some b 40 here in cc (ap (λ c. starts_reference (c ∷ s)) e, start)

first_whole : (s rest : List ℕ) → starts_reference s ≡ true → first_of (s ++ rest) ≡ first_of s
first_whole [] rest start = cc start
first_whole (b ∷ s) rest start = refl

module _ (line : List ℕ) (at : ℕ) where
  pub kill_names : byte_at line at ≡ Some 40 → Turned line at (AreEnclosed IsNameText) AnyEnds IsKill KillEnds KillAllBut
  kill_names here = record {
    into = λ names s is. is;
    ends = λ names rest e. tt;
    apart = λ c u rest h is e. go c u rest h is e;
  }
    where
      go : (c : KillTree) (u rest : List ℕ) → drop at line ≡ u ++ rest → IsKill (suc at) c u → KillEnds c rest → (names : List (List ℕ)) × (c ≡ KillAllBut names) × AreEnclosed IsNameText (suc at) names u × Unit {0}
      go (KillOne v) u rest h is e =
          let start = variable_starts Everything (suc at) v u is in
          absurd (not_open u start (sym (first_whole u rest start) ∙ sym (ap first_of h) ∙ here))
      go (KillAllBut names) u rest h is e = (names, refl, is, tt)

  pub merge_parts : Parts line at (IsVariable NoCalls) VariableEnds (λ target. AfterByte 61 (IsVariable NoCalls)) (λ target. VariableEnds) IsMerge MergeEnds MergeInto
  merge_parts = record {
    into = λ target source s t one two. (s, t, refl, one, two);
    ends = λ target source k t rest is before after. after;
    apart = λ c u rest h is e. go c u rest is e;
  }
    where
      go : (c : MergeTree) (u rest : List ℕ) → IsMerge (suc at) c u → MergeEnds c rest
          → (target : VariableTree) × (source : VariableTree) × (s t : List ℕ) × (u ≡ s ++ t) × (c ≡ MergeInto target source) × IsVariable NoCalls (suc at) target s × AfterByte 61 (IsVariable NoCalls) (suc at + length s) source t × VariableEnds target (t ++ rest) × VariableEnds source rest
      go (MergeInto target source) u rest (s, t, is, one, two) e =
          (target, source, s, t, is, refl, one, two, subst (λ l. VariableEnds target (l ++ rest)) (sym (two.1)) (variable_before target (61 ∷ (two.0 ++ rest)) refl), e)

-- a name begins with a letter or with `%`
name_starts : (name s rest : List ℕ) → IsName name → s ≡ name → starts_reference (s ++ rest) ≡ true
name_starts [] s rest is same = cc is
name_starts (b ∷ name) s rest is same = rw same (or_more (is_letter b) (b == 37) (b == 94) (name-parts b name is).0)
  where
    or_more : (x y z : Bool) → (x || y) ≡ true → (x || y || z) ≡ true
    or_more true y z h = refl
    or_more false true z h = refl
    or_more false false z h = cc h

no_start : (b : ℕ) (rest : List ℕ) → starts_reference (b ∷ []) ≡ false → starts_reference (b ∷ rest) ≡ true → ⊥
no_start b rest other h = cc (other, h)

module _ (line : List ℕ) (at : ℕ) where
  not_name : (b : ℕ) → starts_reference (b ∷ []) ≡ false → byte_at line at ≡ Some b → (name s rest : List ℕ) → drop at line ≡ s ++ rest → IsName name → s ≡ name → ⊥
  not_name b other here name s rest h is same =
      let there = byte_there line at b here in
      no_start b (drop (suc at) line) other (ap starts_reference (sym there ∙ h) ∙ name_starts name s rest is same)

  pub new_names : byte_at line at ≡ Some 40 → Turned line at (AreEnclosed IsNameText) AnyEnds IsNew NewEnds NewAllBut
  new_names here = record {
    into = λ names s is. is;
    ends = λ names rest e. tt;
    apart = λ c u rest h is e. go c u rest h is e;
  }
    where
      go : (c : NewTree) (u rest : List ℕ) → drop at line ≡ u ++ rest → IsNew (suc at) c u → NewEnds c rest → (names : List (List ℕ)) × (c ≡ NewAllBut names) × AreEnclosed IsNameText (suc at) names u × Unit {0}
      go (NewOne column name) u rest h (place, (same, is)) e = absurd (not_name 40 refl here name u rest h is same)
      go (NewAllBut names) u rest h is e = (names, refl, is, tt)

  pub no_new : byte_at line at ≡ Some 36 → Nowhere IsNew NewEnds line at
  no_new here c u rest h is e = go c u rest h is e
    where
      go : (c : NewTree) (u rest : List ℕ) → drop at line ≡ u ++ rest → IsNew (suc at) c u → NewEnds c rest → ⊥
      go (NewOne column name) u rest h (place, (same, is)) e = not_name 36 refl here name u rest h is same
      go (NewAllBut names) u rest h (inner, is, list) e = let bad = same_Some 36 40 (sym here ∙ ap first_of (h ∙ ap (λ l. l ++ rest) is)) in omega (arith, bad)
