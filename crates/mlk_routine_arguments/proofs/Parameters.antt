-- The parameters of FOR.
use Rattle.std.proofs.Common.{◌≡◌, ◌≤◌, ◌+◌, ℕ, suc, List, [], ◌∷◌, ◌++◌, length, Some, None, refl, sym, ap, ◌∙◌, arith, subst, append-nil}
use Rattle.std.specs.Prelude.{Option}
use Rattle.mlk_expr.specs.declared.context.Allows.TheVariants.{Everything}
use Rattle.mlk_expr_tokens.specs.Lexemes.{ends}
use Rattle.mlk_syntax.specs.ExprTrees.{Tree}
use Rattle.mlk_expr.specs.Theorem.{Stands, ExprEnds}
use Rattle.mlk_syntax.specs.Trees.{ParameterTree, Once, Endless, Limited}
use Rattle.mlk_routine_arguments.specs.PartsRead.{Found, byte_at}
use Rattle.mlk_routine_arguments.specs.Ends.{Lacks, AfterEnds, ParameterEnds}
use Rattle.mlk_routine_arguments.specs.CommandGrammar.{Both, IsValue, IsAfter, IsParameter}
use Rattle.mlk_routine_arguments.proofs.Sequences.{Parts}

-- a limit occurs only after a step
abbrev pub IsLimit : Option Tree → ℕ → Option Tree → List ℕ → Type 0
IsLimit None at limit s = (limit ≡ None) × (s ≡ [])
IsLimit (Some step) at limit s = IsAfter 58 Everything at limit s

abbrev pub LimitEnds : Option Tree → Option Tree → List ℕ → Type 0
LimitEnds None limit rest = Lacks 58 rest
LimitEnds (Some step) limit rest = AfterEnds 58 limit rest

-- a step and a limit, each of which may be missing
abbrev pub IsSteps : ℕ → Option Tree × Option Tree → List ℕ → Type 0
IsSteps at p s = Both (λ n r. IsAfter 58 Everything n p.0 r) (λ n r. IsLimit (p.0) n p.1 r) at s

abbrev pub StepsEnd : Option Tree → Option Tree → List ℕ → Type 0
StepsEnd None limit rest = Lacks 58 rest
StepsEnd (Some step) None rest = ExprEnds step rest × Lacks 58 rest
StepsEnd (Some step) (Some limit) rest = ExprEnds limit rest

-- a parameter from its parts
abbrev pub parameter_by : Tree → Option Tree → Option Tree → ParameterTree
parameter_by start None limit = Once start
parameter_by start (Some step) None = Endless start step
parameter_by start (Some step) (Some limit) = Limited start step limit

pub colon_ends : (t : Tree) (rest : List ℕ) → ExprEnds t (58 ∷ rest)
unfolding ends
colon_ends t rest = refl

module _ (line : List ℕ) (at : ℕ) where
  pub steps_parts : Parts line at (IsAfter 58 Everything) (AfterEnds 58) IsLimit LimitEnds IsSteps (λ p rest. StepsEnd (p.0) (p.1) rest) (λ step limit. (step, limit))
  steps_parts = record {
    into = λ step limit s t one two. (s, t, refl, one, two);
    ends = λ step limit k t rest is before after. closes step limit k t rest is before after;
    apart = λ c u rest h (s, t, is, one, two) e. (c.0, c.1, s, t, is, refl, one, two, opens (c.0) (c.1) (suc at + length s) t rest two e, after (c.0) (c.1) rest e);
  }
    where
      closes : (step limit : Option Tree) (k : ℕ) (t rest : List ℕ) → IsLimit step k limit t → AfterEnds 58 step (t ++ rest) → LimitEnds step limit rest → StepsEnd step limit rest
      closes None limit k t rest is before after = after
      closes (Some step) None k t rest is before after = (subst (λ l. ExprEnds step (l ++ rest)) is before, after)
      closes (Some step) (Some limit) k t rest is before after = after

      opens : (step limit : Option Tree) (k : ℕ) (t rest : List ℕ) → IsLimit step k limit t → StepsEnd step limit rest → AfterEnds 58 step (t ++ rest)
      opens None limit k t rest is e = subst (λ l. Lacks 58 (l ++ rest)) (sym is.1) e
      opens (Some step) None k t rest is e = subst (λ l. ExprEnds step (l ++ rest)) (sym is) e.0
      opens (Some step) (Some limit) k t rest is e = subst (λ l. ExprEnds step (l ++ rest)) (sym is.1) (colon_ends step (is.0 ++ rest))

      after : (step limit : Option Tree) (rest : List ℕ) → StepsEnd step limit rest → LimitEnds step limit rest
      after None limit rest e = e
      after (Some step) None rest e = e.1
      after (Some step) (Some limit) rest e = e

  pub parameter_parts : Parts line at IsValue ExprEnds (λ start n p r. IsSteps n p r) (λ start p rest. StepsEnd (p.0) (p.1) rest) IsParameter ParameterEnds (λ start p. parameter_by start (p.0) (p.1))
  parameter_parts = record {
    into = λ start p s t one two. joins start (p.0) (p.1) s t one two;
    ends = λ start p k t rest is before after. closes start (p.0) (p.1) k t rest is before after;
    apart = λ c u rest h is e. opens c u rest is e;
  }
    where
      joins : (start : Tree) (step limit : Option Tree) (s t : List ℕ) → IsValue (suc at) start s → IsSteps (suc at + length s) (step, limit) t → IsParameter (suc at) (parameter_by start step limit) (s ++ t)
      joins start None limit s t one (front, back, is, a, b) =
          let none : t ≡ [] = is ∙ ap (λ l. l ++ back) a ∙ b.1 in
          subst (λ l. IsValue (suc at) start l) (sym (append-nil s) ∙ ap (λ l. s ++ l) (sym none)) one
      joins start (Some step) None s t one (front, back, is, (r, eq, a), b) =
          (s, t, refl, one, (r, is ∙ ap (λ l. front ++ l) b ∙ append-nil front ∙ eq, a))
      joins start (Some step) (Some limit) s t one (front, back, is, (r, eq, a), (q, also, b)) =
          let size : length front ≡ suc (length r) = ap length eq in
          (s, t, refl, one, (r ++ back, is ∙ ap (λ l. l ++ back) eq, (r, back, refl, a, (q, also, subst (λ k. IsValue k limit q) (omega (arith, size)) b))))

      closes : (start : Tree) (step limit : Option Tree) (k : ℕ) (t rest : List ℕ) → IsSteps k (step, limit) t → ExprEnds start (t ++ rest) → StepsEnd step limit rest → ParameterEnds (parameter_by start step limit) rest
      closes start None limit k t rest (front, back, is, a, b) before after =
          let none : t ≡ [] = is ∙ ap (λ l. l ++ back) a ∙ b.1 in
          (subst (λ l. ExprEnds start (l ++ rest)) none before, after)
      closes start (Some step) None k t rest is before after = after
      closes start (Some step) (Some limit) k t rest is before after = after

      opens : (c : ParameterTree) (u rest : List ℕ) → IsParameter (suc at) c u → ParameterEnds c rest
          → (start : Tree) × (p : Option Tree × Option Tree) × (s t : List ℕ) × (u ≡ s ++ t) × (c ≡ parameter_by start (p.0) (p.1)) × IsValue (suc at) start s × IsSteps (suc at + length s) p t × ExprEnds start (t ++ rest) × StepsEnd (p.0) (p.1) rest
      opens (Once start) u rest is e = (start, (None, None), u, [], sym (append-nil u), refl, is, ([], [], refl, refl, (refl, refl)), e.0, e.1)
      opens (Endless start step) u rest (s, t, is, one, (r, eq, a)) e =
          (start, (Some step, None), s, t, is, refl, one, (t, [], sym (append-nil t), (r, eq, a), refl), subst (λ l. ExprEnds start (l ++ rest)) (sym eq) (colon_ends start (r ++ rest)), e)
      opens (Limited start step limit) u rest (s, t, is, one, (r, eq, (a, b, ab, two, (q, also, three)))) e =
          (start, (Some step, Some limit), s, t, is, refl, one, (58 ∷ a, b, eq ∙ ap (λ l. 58 ∷ l) ab, (a, refl, two), (q, also, subst (λ k. IsValue k limit q) (omega arith) three)), subst (λ l. ExprEnds start (l ++ rest)) (sym eq) (colon_ends start (r ++ rest)), e)

-- no limit without a step
pub no_limit : (line : List ℕ) (at : ℕ) → at ≤ length line → (byte_at line at ≡ Some 58 → ⊥) → Found (IsLimit None) (LimitEnds None) line at None at
no_limit line at less missing =
    let stands : Stands (IsLimit None) (LimitEnds None) line at None at = record { text = []; within = less; joined = refl; spelled = (refl, refl); ended = missing } in
    (stands, λ c u rest h is e. (is.0, sym (h ∙ ap (λ l. l ++ rest) is.1)))
