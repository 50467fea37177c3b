-- What is known of an expression without running the code: its symbol and its truth value. Standard: expressions, truth values,
-- `$JOB`, `$TEST`; what counts as known is this project's own choice.
use Rattle.std.specs.Prelude.{ℕ, Bool, true, false, not, List, Option, Some, None, option_map}
use Rattle.mlk_text.specs.declared.operator.Op.{Op}
use Rattle.mlk_text.specs.declared.operator.UnaryOp.{UnaryOp}
use Rattle.mlk_text.specs.declared.operator.UnaryOp.TheVariants.{Plus, Minus, Not}
use Rattle.mlk_syntax.specs.declared.expr.Special.{Special}
use Rattle.mlk_syntax.specs.declared.expr.Special.TheVariants as special
use Rattle.mlk_syntax.specs.ExprTrees.{Tree, Lit, Free, LocalName, GlobalName, SpecialName, Prefixed, Chain, PatternText}
use Rattle.mlk_syntax.specs.ExprTrees.{Func, Selected, BareCall, CallOf, Subs, no_subs, sub, Links, no_links, link}
use Rattle.mlk_names.specs.declared.symbol.Sym.{Sym}
use Rattle.mlk_names.specs.declared.symbol.Sym.TheVariants.{Const, Local, Job, Unknown}
use Rattle.mlk_cert_parts.specs.declared.case.Test.{Test}
use Rattle.mlk_walk_state.specs.declared.state.State.{State}
use Rattle.mlk_walk_state.specs.Scope.{Scope}
use Rattle.mlk_walk_state.specs.Cases.{known_test}
use Rattle.mlk_numbers.specs.Operators.{truth_of_text, fold_before, fold_between}

abbrev pub constant_if : Option (List ℕ) → Sym
constant_if None = Unknown
constant_if (Some value) = Const value

abbrev pub before_symbol : UnaryOp → Sym → Sym
before_symbol op (Const a) = constant_if (fold_before op a)
before_symbol op (Local name) = Unknown
before_symbol op Job = Unknown
before_symbol op Unknown = Unknown

abbrev pub after_constant : Op → List ℕ → Sym → Sym
after_constant op a (Const b) = constant_if (fold_between op a b)
after_constant op a (Local name) = Unknown
after_constant op a Job = Unknown
after_constant op a Unknown = Unknown

-- only operators on constants have a known result
abbrev pub between_symbols : Op → Sym → Sym → Sym
between_symbols op (Const a) t = after_constant op a t
between_symbols op (Local name) t = Unknown
between_symbols op Job t = Unknown
between_symbols op Unknown t = Unknown

-- a local without subscripts that is not shared is known as itself
abbrev pub local_symbol : Bool → List ℕ → Subs → Sym
local_symbol true name subs = Unknown
local_symbol false name no_subs = Local name
local_symbol false name (sub column t rest) = Unknown

abbrev pub special_symbol : Special → Sym
special_symbol special.Job = Job
special_symbol _ = Unknown

-- The symbol of an expression, given which names are shared. Binary operators are applied from left to right.
abbrev mutual
  pub symbol_of : (List ℕ → Bool) → Tree → Sym
  symbol_of shared (Lit value) = Const value
  symbol_of shared Free = Unknown
  symbol_of shared (LocalName name subs) = local_symbol (shared name) name subs
  symbol_of shared (GlobalName column name subs) = Unknown
  symbol_of shared (SpecialName s) = special_symbol s
  symbol_of shared (Prefixed op t) = before_symbol op (symbol_of shared t)
  symbol_of shared (Chain first rest) = chain_symbol shared (symbol_of shared first) rest
  symbol_of shared (PatternText text) = Unknown
  symbol_of shared (Func function args) = Unknown
  symbol_of shared (Selected cs) = Unknown
  symbol_of shared (BareCall column callee) = Unknown
  symbol_of shared (CallOf column callee given) = Unknown

  pub chain_symbol : (List ℕ → Bool) → Sym → Links → Sym
  chain_symbol shared s no_links = s
  chain_symbol shared s (link op t rest) = chain_symbol shared (between_symbols op s (symbol_of shared t)) rest

abbrev pub truth_of_symbol : Sym → Option Bool
truth_of_symbol (Const v) = truth_of_text v
truth_of_symbol (Local name) = None
truth_of_symbol Job = None
truth_of_symbol Unknown = None

abbrev pub special_truth : Test → Special → Option Bool
special_truth test special.Test = known_test test
special_truth test _ = None

abbrev pub before_truth : UnaryOp → Sym → Option Bool → Option Bool
before_truth Not s truth = option_map not truth
before_truth Plus s truth = truth_of_symbol s
before_truth Minus s truth = truth_of_symbol s

-- The truth value of an expression: that of a constant `0` or `1`, of `$TEST` if it is known, and of `'` before these; that of
-- any other is unknown.
abbrev pub truth_of : (List ℕ → Bool) → Test → Tree → Option Bool
truth_of shared test (SpecialName s) = special_truth test s
truth_of shared test (Prefixed op t) = before_truth op (symbol_of shared (Prefixed op t)) (truth_of shared test t)
truth_of shared test (Lit value) = truth_of_text value
truth_of shared test (Chain first rest) = truth_of_symbol (symbol_of shared (Chain first rest))
truth_of shared test _ = None

-- what is known of an expression in a state, where the scope says which names are shared
abbrev pub symbol_in : Scope → Tree → State → Sym
symbol_in sc t s = symbol_of (sc.is_shared s.case.own) t

abbrev pub chain_in : Scope → State → Sym → Links → Sym
chain_in sc s first rest = chain_symbol (sc.is_shared s.case.own) first rest

abbrev pub truth_in : Scope → Tree → State → Option Bool
truth_in sc t s = truth_of (sc.is_shared s.case.own) s.case.test t
