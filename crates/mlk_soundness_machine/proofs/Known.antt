-- What is known of the value of an expression. This project's own choice.
use Rattle.std.specs.Prelude.{◌≡◌, ℕ, Bool, List, Option, Some, None}
use Rattle.mlk_names.specs.declared.symbol.Sym.{Sym}
use Rattle.mlk_names.specs.declared.symbol.Sym.TheVariants as sym
use Rattle.mlk_names.specs.Symbols.{Assignment, StandsFor}
use Rattle.mlk_syntax.specs.ExprTrees.{Tree}
use Rattle.mlk_numbers.specs.Operators.{truth_of_text}
use Rattle.mlk_walk_state.specs.declared.state.State.{State}
use Rattle.mlk_walk_state.specs.Scope.{Scope}
use Rattle.mlk_walk_state.specs.Symbols.{symbol_of, truth_in}

-- a constant symbol is the value, whatever names are shared
abbrev pub IsConstant : Sym → List ℕ → Type 0
IsConstant (sym.Const value) v = v ≡ value
IsConstant (sym.Local name) v = Unit {0}
IsConstant sym.Job v = Unit {0}
IsConstant sym.Unknown v = Unit {0}

abbrev pub IsTruth : Option Bool → List ℕ → Type 0
IsTruth None v = Unit {0}
IsTruth (Some t) v = truth_of_text v ≡ Some t

-- what a symbol says of a value, which depends on the names that are shared
pub record KnowsBy (sc : Scope) (s : State) (by : (List ℕ → Bool) → Sym) (a : Assignment) (v : List ℕ) : Type 0 where
  pub constant : (shared : List ℕ → Bool) → IsConstant (by shared) v
  pub stands : StandsFor a (by (sc.is_shared s.case.own)) v

-- and what an expression says of it
pub record Knows (sc : Scope) (s : State) (t : Tree) (a : Assignment) (v : List ℕ) : Type 0 where
  pub symbol : KnowsBy sc s (λ shared. symbol_of shared t) a v
  pub truth : IsTruth (truth_in sc t s) v
