-- The tasks that replace expressions, construct by construct.
use Rattle.std.proofs.Common.{◌≡◌, true, false, List, [], ◌∷◌, ◌++◌, refl, sym}
use Rattle.std.proofs.lemmas.Bool.{false≢true}
use Rattle.mlk_text.specs.declared.operator.Op.{Op}
use Rattle.mlk_syntax.specs.ExprTrees.{Tree, Lit, Free, LocalName, GlobalName, SpecialName, Prefixed, Chain, PatternText, Func, Selected, BareCall, CallOf, Links, no_links, link, ActualTree, Given, ByRef, Missing}
use Rattle.mlk_machine_jobs.specs.Tasks.{Evaluate, ApplyBinary, AskValue}
use Rattle.mlk_machine_jobs.specs.Expressions.{operation, each_actual}
use Rattle.mlk_machine_expressions.specs.PartViews.{is_pattern_text}

pub pattern_operation : (op : Op) (t : Tree) → is_pattern_text t ≡ true → operation (link op t no_links) ≡ AskValue 1 ∷ []
pattern_operation op (Lit value) h = absurd (false≢true h)
pattern_operation op Free h = absurd (false≢true h)
pattern_operation op (LocalName name subs) h = absurd (false≢true h)
pattern_operation op (GlobalName column name subs) h = absurd (false≢true h)
pattern_operation op (SpecialName s) h = absurd (false≢true h)
pattern_operation op (Prefixed o t) h = absurd (false≢true h)
pattern_operation op (Chain t rest) h = absurd (false≢true h)
pattern_operation op (PatternText text) h = refl
pattern_operation op (Func f args) h = absurd (false≢true h)
pattern_operation op (Selected cs) h = absurd (false≢true h)
pattern_operation op (BareCall column callee) h = absurd (false≢true h)
pattern_operation op (CallOf column callee given) h = absurd (false≢true h)

pub other_operation : (op : Op) (t : Tree) → is_pattern_text t ≡ false
    → operation (link op t no_links) ≡ Evaluate t ∷ ApplyBinary op ∷ []
other_operation op (Lit value) h = refl
other_operation op Free h = refl
other_operation op (LocalName name subs) h = refl
other_operation op (GlobalName column name subs) h = refl
other_operation op (SpecialName s) h = refl
other_operation op (Prefixed o t) h = refl
other_operation op (Chain t rest) h = refl
other_operation op (PatternText text) h = absurd (false≢true (sym h))
other_operation op (Func f args) h = refl
other_operation op (Selected cs) h = refl
other_operation op (BareCall column callee) h = refl
other_operation op (CallOf column callee given) h = refl

pub operation_turn : (op : Op) (t : Tree) (rest : Links)
    → operation (link op t rest) ≡ operation (link op t no_links) ++ operation rest
operation_turn op (Lit value) rest = refl
operation_turn op Free rest = refl
operation_turn op (LocalName name subs) rest = refl
operation_turn op (GlobalName column name subs) rest = refl
operation_turn op (SpecialName s) rest = refl
operation_turn op (Prefixed o t) rest = refl
operation_turn op (Chain t more) rest = refl
operation_turn op (PatternText text) rest = refl
operation_turn op (Func f args) rest = refl
operation_turn op (Selected cs) rest = refl
operation_turn op (BareCall column callee) rest = refl
operation_turn op (CallOf column callee given) rest = refl

pub actual_turn : (a : ActualTree) (given : List ActualTree)
    → each_actual (a ∷ given) ≡ each_actual (a ∷ []) ++ each_actual given
actual_turn (Given t) given = refl
actual_turn (ByRef column name) given = refl
actual_turn Missing given = refl
