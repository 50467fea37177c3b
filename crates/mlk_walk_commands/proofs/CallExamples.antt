-- Worked arguments of DO, JOB and IF, shown by computation: F needs `^ACCT(Y)` for its formal Y, and releases it.
use Rattle.std.proofs.Common.{◌≡◌, ℕ, List, [], ◌∷◌, refl}
use Rattle.std.specs.Prelude.{codes, Option, Some, None}
use Rattle.std.specs.Fmt.{digits}
use Rattle.mlk_text.specs.declared.code.Code.TheVariants.{NeedMissing, NoCertificate, UnknownSubscript}
use Rattle.mlk_text.specs.declared.operator.UnaryOp.TheVariants.{Not}
use Rattle.mlk_syntax.specs.declared.expr.Special.TheVariants as special
use Rattle.mlk_syntax.specs.ExprTrees.{Tree, Lit, SpecialName, Prefixed, ActualTree, Given, ByRef}
use Rattle.mlk_syntax.specs.Trees.{CallTree, Called, DoCall}
use Rattle.mlk_names.specs.declared.term.LockTerm.{LockTerm}
use Rattle.mlk_rules.specs.Computed.{answer}
use Rattle.mlk_cert_parts.specs.declared.case.Test.{Test}
use Rattle.mlk_cert_parts.specs.declared.case.Test.TheVariants.{Any, Zero, One}
use Rattle.mlk_cert_parts.specs.declared.case.Case.{Case}
use Rattle.mlk_cert_lexemes.specs.Texts.{byte_text}
use Rattle.mlk_walk_state.specs.States.{same_state}
use Rattle.mlk_walk_state.specs.Cases.{same_case}
use Rattle.mlk_walk_state.specs.Terms.{same_term}
use Rattle.mlk_walk_state.specs.Names.{is_among, have, spares}
use Rattle.mlk_walk_exprs.specs.declared.walk.Walk.{Walk}
use Rattle.mlk_walk_exprs.specs.Walks.{begin}
use Rattle.mlk_walk_commands.specs.Arguments.{do_argument, job_argument, if_argument}
use Rattle.mlk_walk_commands.proofs.Worked.{name_x, of_x, spot, x, case, holds, passes, refused}

-- `F(X)`, `F(.X)` and `G(X)`
abbrev call_of : List ℕ → ActualTree → CallTree
call_of label given = Called 4 (record { label = Some label; routine = None }) (Some (given ∷ []))

abbrev f_of_x : CallTree
f_of_x = call_of (codes "F") (Given x)

abbrev called : CallTree → Option Tree → Case → Walk
called call condition c = do_argument spot (DoCall call condition) (begin (c ∷ []))

a_need_is_taken : called f_of_x None (case One (of_x ∷ []) [] []) ≡ passes (case Any [] [] [] ∷ []) []
unfolding answer same_term same_state same_case byte_text digits have is_among spares
a_need_is_taken = refl

a_need_is_missing : called f_of_x None (holds []) ≡ refused 4 NeedMissing
unfolding answer same_term same_state same_case byte_text digits have is_among spares
a_need_is_missing = refl

a_lent_name_is_unknown : called (call_of (codes "F") (ByRef 7 name_x)) None (holds (of_x ∷ [])) ≡ refused 4 UnknownSubscript
unfolding answer same_term same_state same_case byte_text digits have is_among spares
a_lent_name_is_unknown = refl

no_certificate : called (call_of (codes "G") (Given x)) None (holds []) ≡ refused 4 NoCertificate
unfolding answer same_term same_state same_case byte_text digits have is_among spares
no_certificate = refl

-- `DO F(X):$TEST`, with `$TEST` 1, 0 or unknown
abbrev do_if_test : Test → List LockTerm → Walk
do_if_test test held = called f_of_x (Some (SpecialName special.Test)) (case test held [] [])

a_true_postconditional : do_if_test One (of_x ∷ []) ≡ passes (case Any [] [] [] ∷ []) []
unfolding answer same_term same_state same_case byte_text digits have is_among spares
a_true_postconditional = refl

a_false_postconditional : do_if_test Zero [] ≡ passes (case Zero [] [] [] ∷ []) []
unfolding answer same_term same_state same_case byte_text digits have is_among spares
a_false_postconditional = refl

an_unknown_postconditional : do_if_test Any (of_x ∷ []) ≡ passes (case Any [] [] [] ∷ case Any (of_x ∷ []) [] [] ∷ []) []
unfolding answer same_term same_state same_case byte_text digits have is_among spares
an_unknown_postconditional = refl

-- `JOB F(X)`, which is declared, and `JOB G(X)`
a_job_begins : job_argument spot f_of_x (begin (holds (of_x ∷ []) ∷ [])) ≡ passes (holds (of_x ∷ []) ∷ []) []
unfolding answer same_term same_state same_case byte_text digits have is_among spares
a_job_begins = refl

a_job_is_not_declared : job_argument spot (call_of (codes "G") (Given x)) (begin (holds [] ∷ [])) ≡ refused 4 NoCertificate
unfolding answer same_term same_state same_case byte_text digits have is_among spares
a_job_is_not_declared = refl

-- `IF X` with an unknown value, `IF 0`, `IF 1`, `IF $TEST` and `IF '$TEST`
abbrev if_test : Test → Tree → Walk
if_test test t = if_argument spot t (begin (case test [] [] [] ∷ []))

an_unknown_condition : if_test Zero x ≡ passes (case One [] [] [] ∷ []) (case Zero [] [] [] ∷ [])
unfolding answer same_term same_state same_case byte_text digits
an_unknown_condition = refl

a_false_condition : if_test One (Lit (codes "0")) ≡ passes [] (case Zero [] [] [] ∷ [])
unfolding answer same_term same_state same_case byte_text digits
a_false_condition = refl

a_true_condition : if_test Zero (Lit (codes "1")) ≡ passes (case One [] [] [] ∷ []) []
unfolding answer same_term same_state same_case byte_text digits
a_true_condition = refl

a_known_test : if_test One (SpecialName special.Test) ≡ passes (case One [] [] [] ∷ []) []
unfolding answer same_term same_state same_case byte_text digits
a_known_test = refl

a_known_test_that_fails : if_test One (Prefixed Not (SpecialName special.Test)) ≡ passes [] (case Zero [] [] [] ∷ [])
unfolding answer same_term same_state same_case byte_text digits
a_known_test_that_fails = refl

an_unknown_test : if_test Any (SpecialName special.Test) ≡ passes (case One [] [] [] ∷ []) (case Zero [] [] [] ∷ [])
unfolding answer same_term same_state same_case byte_text digits
an_unknown_test = refl
