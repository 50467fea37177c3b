-- The symbols of operands in sequence.
use Rattle.std.proofs.Common.{◌≡◌, ℕ, List, Bool, refl}
use Rattle.mlk_syntax.specs.ExprTrees.{Tree, Links, no_links, link}
use Rattle.mlk_text.specs.declared.operator.Op.{Op}
use Rattle.mlk_names.specs.declared.symbol.Sym.{Sym}
use Rattle.mlk_names.specs.declared.symbol.Sym.TheVariants.{Const, Local, Job, Unknown}
use Rattle.mlk_walk_state.specs.Symbols.{chain_symbol}

module _ (shared : List ℕ → Bool) where
  -- what is unknown stays unknown
  unknown_stays : (rest : Links) → Unknown ≡ chain_symbol shared Unknown rest
  unknown_stays no_links = refl
  unknown_stays (link op t rest) = unknown_stays rest

  -- an operator applied to what is not a constant is unknown
  pub no_constant : (s : Sym) → ((value : List ℕ) → s ≡ Const value → ⊥) → (op : Op) (t : Tree) (rest : Links)
      → Unknown ≡ chain_symbol shared s (link op t rest)
  no_constant (Const value) other op t rest = absurd (other value refl)
  no_constant (Local name) other op t rest = unknown_stays rest
  no_constant Job other op t rest = unknown_stays rest
  no_constant Unknown other op t rest = unknown_stays rest
