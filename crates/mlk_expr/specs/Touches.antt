-- What is allowed in an expression. Where the order of evaluation is not certain, nothing for which it could matter: the standard
-- says little about that order, and which places these are is this project's own choice. `$INCREMENT`, which the standard does not
-- have, is allowed in the extended dialect, where everything is.
use Rattle.std.specs.Prelude.{ℕ, ◌≡◌, ◌&&◌, ◌||◌, not, Bool, true, false, List}
use Rattle.std.specs.List.{list_all}
use Rattle.mlk_expr.specs.declared.context.Allows.{Allows}
use Rattle.mlk_expr.specs.declared.context.Allows.TheVariants as allows
use Rattle.mlk_expr.specs.declared.context.Passing.{Passing}
use Rattle.mlk_expr.specs.declared.context.Passing.TheVariants as passing
use Rattle.mlk_syntax.specs.declared.expr.Function.{Function}
use Rattle.mlk_syntax.specs.declared.expr.Function.TheVariants as function
use Rattle.mlk_syntax.specs.ExprTrees.{Tree, Lit, Free, LocalName, GlobalName, SpecialName, Prefixed, Chain, PatternText}
use Rattle.mlk_syntax.specs.ExprTrees.{Func, Selected, BareCall, CallOf, Trees, no_trees, tree, Subs, no_subs, sub, Links}
use Rattle.mlk_syntax.specs.ExprTrees.{no_links, link, Choices, no_choices, choice, ActualTree, Given, ByRef, Missing}
use Rattle.mlk_syntax.specs.ExprTrees.{Actuals, no_actuals, actual}

-- whether a global reference is allowed there,
abbrev pub globals_may : Allows → Bool
globals_may allows.Extended = true
globals_may allows.Everything = true
globals_may allows.NoCalls = true
globals_may allows.NoTouches = false

-- an extrinsic call,
abbrev pub calls_may : Allows → Bool
calls_may allows.Extended = true
calls_may allows.Everything = true
calls_may allows.NoCalls = false
calls_may allows.NoTouches = false

-- and a function
abbrev pub increments_may : Allows → Bool
increments_may allows.Extended = true
increments_may allows.Everything = false
increments_may allows.NoCalls = false
increments_may allows.NoTouches = false

abbrev pub increments : Function → Bool
increments function.Increment = true
increments f = false

abbrev pub function_may : Allows → Function → Bool
function_may a f = increments_may a || not (increments f)

-- Whether everything in a tree is allowed there, at any depth.
abbrev mutual
  pub may_stand : Allows → Tree → Bool
  may_stand a (Lit value) = true
  may_stand a Free = true
  may_stand a (LocalName name subs) = subs_may a subs
  may_stand a (GlobalName column name subs) = globals_may a && subs_may a subs
  may_stand a (SpecialName special) = true
  may_stand a (Prefixed op t) = may_stand a t
  may_stand a (Chain first rest) = may_stand a first && links_may a rest
  may_stand a (PatternText text) = true
  may_stand a (Func function args) = function_may a function && trees_may a args
  may_stand a (Selected choices) = choices_may a choices
  may_stand a (BareCall column callee) = calls_may a
  may_stand a (CallOf column callee actuals) = calls_may a && actuals_may a actuals

  pub trees_may : Allows → Trees → Bool
  trees_may a no_trees = true
  trees_may a (tree t ts) = may_stand a t && trees_may a ts

  pub subs_may : Allows → Subs → Bool
  subs_may a no_subs = true
  subs_may a (sub column t rest) = may_stand a t && subs_may a rest

  pub links_may : Allows → Links → Bool
  links_may a no_links = true
  links_may a (link op t rest) = may_stand a t && links_may a rest

  pub choices_may : Allows → Choices → Bool
  choices_may a no_choices = true
  choices_may a (choice condition value rest) = (may_stand a condition && may_stand a value) && choices_may a rest

  pub actual_may : Allows → ActualTree → Bool
  actual_may a (Given t) = may_stand a t
  actual_may a (ByRef column name) = true
  actual_may a Missing = true

  pub actuals_may : Allows → Actuals → Bool
  actuals_may a no_actuals = true
  actuals_may a (actual given rest) = actual_may a given && actuals_may a rest

-- whether names may be passed by reference
abbrev pub lends : Passing → Bool
lends passing.ByReference = true
lends passing.ByValue = false

-- the subscripts of a name
abbrev pub subs_stand : Allows → Tree → Bool
subs_stand a (LocalName name subs) = subs_may a subs
subs_stand a (GlobalName column name subs) = subs_may a subs
subs_stand a t = true

-- an actual list
abbrev pub passes : Passing → ActualTree → Bool
passes p (ByRef column name) = lends p
passes p a = true

abbrev pub given_stand : Allows → Passing → List ActualTree → Bool
given_stand a p given = list_all (λ actual. actual_may a actual && passes p actual) given

-- a thing that is spelled in a given way, and is allowed there
abbrev pub Standing : {A : Type 0} → (A → Bool) → (ℕ → A → List ℕ → Type 0) → ℕ → A → List ℕ → Type 0
Standing may Is at a s = Is at a s × (may a ≡ true)
