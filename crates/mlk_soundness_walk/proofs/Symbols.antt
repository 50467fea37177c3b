-- Symbols of expressions: which of them are locals, and operands.
use Rattle.std.proofs.Common.{◌≡◌, ℕ, Bool, true, false, List, ◌∷◌, Option, Some, None, refl, sym, subst, inl, inr}
use Rattle.std.specs.Prelude.{◌⊎◌}
use Rattle.mlk_names.specs.declared.symbol.Sym.{Sym}
use Rattle.mlk_names.specs.declared.symbol.Sym.TheVariants as known
use Rattle.mlk_text.specs.declared.operator.Op.{Op}
use Rattle.mlk_text.specs.declared.operator.UnaryOp.{UnaryOp}
use Rattle.mlk_syntax.specs.declared.expr.Special.TheVariants as special
use Rattle.mlk_syntax.specs.ExprTrees.{Tree, Lit, Free, LocalName, GlobalName, SpecialName, Prefixed, Chain, PatternText, Func, Selected, BareCall, CallOf}
use Rattle.mlk_syntax.specs.ExprTrees.{Subs, no_subs, sub, Links, no_links, link}
use Rattle.mlk_machine_jobs.specs.Tasks as task
use Rattle.mlk_machine_jobs.specs.Expressions.{operation}
use Rattle.mlk_numbers.specs.Operators.{truth_of_text, fold_before, fold_between}
use Rattle.mlk_walk_state.specs.Symbols.{local_symbol, before_symbol, after_constant, between_symbols, constant_if, chain_symbol, symbol_of}
use Rattle.mlk_walk_exprs.specs.Expressions.{agrees}
use Rattle.mlk_soundness_machine.specs.Described.{is_local}
use Rattle.mlk_soundness_machine.proofs.Known.{IsTruth}
use Rattle.mlk_soundness_machine.proofs.Reading.{differs, name_is}

-- no operator yields a local
constant_not : (x : List ℕ) (o : Option (List ℕ)) → is_local x (constant_if o) ≡ false
constant_not x None = refl
constant_not x (Some v) = refl

before_not : (x : List ℕ) (op : UnaryOp) (s : Sym) → is_local x (before_symbol op s) ≡ false
before_not x op (known.Const c) = constant_not x (fold_before op c)
before_not x op (known.Local n) = refl
before_not x op known.Job = refl
before_not x op known.Unknown = refl

after_not : (x : List ℕ) (op : Op) (c : List ℕ) (t : Sym) → is_local x (after_constant op c t) ≡ false
after_not x op c (known.Const d) = constant_not x (fold_between op c d)
after_not x op c (known.Local n) = refl
after_not x op c known.Job = refl
after_not x op c known.Unknown = refl

between_not : (x : List ℕ) (op : Op) (s t : Sym) → is_local x (between_symbols op s t) ≡ false
between_not x op (known.Const c) t = after_not x op c t
between_not x op (known.Local n) t = refl
between_not x op known.Job t = refl
between_not x op known.Unknown t = refl

chain_unshared : (shared : List ℕ → Bool) (x : List ℕ) (s : Sym) (rest : Links) → (is_local x s ≡ true → shared x ≡ false) → is_local x (chain_symbol shared s rest) ≡ true → shared x ≡ false
chain_unshared shared x s no_links f h = f h
chain_unshared shared x s (link op t rest) f h =
    chain_unshared shared x (between_symbols op s (symbol_of shared t)) rest (λ u. differs (is_local x (between_symbols op s (symbol_of shared t))) u (between_not x op s (symbol_of shared t))) h

-- a symbol that is a local is not shared
pub local_unshared : (shared : List ℕ → Bool) (t : Tree) (x : List ℕ) → is_local x (symbol_of shared t) ≡ true → shared x ≡ false
local_unshared shared (Lit v) x h = differs false h refl
local_unshared shared Free x h = differs false h refl
local_unshared shared (LocalName name subs) x h = by (shared name) refl subs h
  where
    by : (u : Bool) → shared name ≡ u → (subs : Subs) → is_local x (local_symbol u name subs) ≡ true → shared x ≡ false
    by true e subs h = differs false h refl
    by false e no_subs h = subst (λ y. shared y ≡ false) (name_is name x h) e
    by false e (sub column t rest) h = differs false h refl
local_unshared shared (GlobalName column name subs) x h = differs false h refl
local_unshared shared (SpecialName special.Job) x h = differs false h refl
local_unshared shared (SpecialName s) x h = differs false h refl
local_unshared shared (Prefixed op t) x h = differs (is_local x (before_symbol op (symbol_of shared t))) h (before_not x op (symbol_of shared t))
local_unshared shared (Chain first rest) x h = chain_unshared shared x (symbol_of shared first) rest (λ u. local_unshared shared first x u) h
local_unshared shared (PatternText text) x h = differs false h refl
local_unshared shared (Func f args) x h = differs false h refl
local_unshared shared (Selected cs) x h = differs false h refl
local_unshared shared (BareCall column callee) x h = differs false h refl
local_unshared shared (CallOf column callee given) x h = differs false h refl

-- an operand is a pattern, or an expression
pub operand : (op : Op) (t : Tree) (rest : Links) → ((text : List ℕ) × (t ≡ PatternText text)) ⊎ (operation (link op t rest) ≡ task.Evaluate t ∷ task.ApplyBinary op ∷ operation rest)
operand op (PatternText text) rest = inl (text, refl)
operand op (Lit v) rest = inr refl
operand op Free rest = inr refl
operand op (LocalName name subs) rest = inr refl
operand op (GlobalName column name subs) rest = inr refl
operand op (SpecialName s) rest = inr refl
operand op (Prefixed o t) rest = inr refl
operand op (Chain first more) rest = inr refl
operand op (Func f args) rest = inr refl
operand op (Selected cs) rest = inr refl
operand op (BareCall column callee) rest = inr refl
operand op (CallOf column callee given) rest = inr refl

-- a local with subscripts has no symbol
pub with_subs : (shared : List ℕ → Bool) (name : List ℕ) (column : ℕ) (t : Tree) (rest : Subs) → symbol_of shared (LocalName name (sub column t rest)) ≡ known.Unknown
with_subs shared name column t rest = by (shared name)
  where
    by : (u : Bool) → local_symbol u name (sub column t rest) ≡ known.Unknown
    by true = refl
    by false = refl

-- the truth of a condition may be the one that the walk knows
pub truth_agrees : (o : Option Bool) (v : List ℕ) → IsTruth o v → (x : Bool) → ((t : Bool) → truth_of_text v ≡ Some t → x ≡ t) → agrees x o ≡ true
truth_agrees None v h true same = refl
truth_agrees None v h false same = refl
truth_agrees (Some true) v h x same = subst (λ z. agrees z (Some true) ≡ true) (sym (same true h)) refl
truth_agrees (Some false) v h x same = subst (λ z. agrees z (Some false) ≡ true) (sym (same false h)) refl
