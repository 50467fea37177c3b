-- Worked arguments of LOCK, shown by computation.
use Rattle.std.proofs.Common.{◌≡◌, ℕ, List, [], ◌∷◌, ◌++◌, refl}
use Rattle.std.specs.Prelude.{codes, Some, None, true, false}
use Rattle.std.specs.Fmt.{digits}
use Rattle.mlk_text.specs.declared.code.Code.TheVariants.{Uncovered, NotHeld, Unranked, RankOrder, SummaryShort, SharedName, UnknownSubscript, TooManyCases}
use Rattle.mlk_syntax.specs.declared.expr.Special.TheVariants as special
use Rattle.mlk_syntax.specs.ExprTrees.{Tree, Lit, LocalName, SpecialName, no_subs, sub}
use Rattle.mlk_syntax.specs.declared.command.Sign.{Sign}
use Rattle.mlk_syntax.specs.declared.command.Sign.TheVariants as sign
use Rattle.mlk_syntax.specs.Trees.{VariableTree, LockNames}
use Rattle.mlk_names.specs.declared.term.LockTerm.{LockTerm}
use Rattle.mlk_rules.specs.Computed.{answer}
use Rattle.mlk_cert_parts.specs.declared.case.Test.TheVariants.{Zero, One}
use Rattle.mlk_cert_lexemes.specs.Texts.{byte_text}
use Rattle.mlk_walk_state.specs.States.{same_state}
use Rattle.mlk_walk_state.specs.Scope.{Scope}
use Rattle.mlk_walk_state.specs.Cases.{same_case}
use Rattle.mlk_walk_state.specs.Terms.{same_term}
use Rattle.mlk_walk_exprs.specs.declared.walk.Walk.{Walk}
use Rattle.mlk_walk_exprs.specs.Walks.{begin, each, few, too_many}
use Rattle.mlk_walk_commands.specs.Locks.{lock_argument, release}
use Rattle.mlk_walk_commands.proofs.Worked.{of_x, whole, log, scope, spot_in, spot, x, local, account_tree, account, plain, case, holds, passes, refused}

-- LOCK of these names with this sign, with these terms held
abbrev lock : Sign → List VariableTree → List LockTerm → Walk
lock s names held = lock_argument spot (LockNames s names None) (begin (holds held ∷ []))

abbrev lock_in : Scope → Sign → List VariableTree → List LockTerm → Walk
lock_in sc s names held = lock_argument (spot_in sc) (LockNames s names None) (begin (holds held ∷ []))

abbrev timed : List VariableTree → List LockTerm → Walk
timed names held = lock_argument spot (LockNames sign.Plus names (Some (Lit (codes "5")))) (begin (holds held ∷ []))

-- `^LOG`, and `^ACCT` with a subscript
abbrev the_log : ℕ → VariableTree
the_log column = plain column (codes "LOG")

-- `LOCK +^ACCT(X)`, `LOCK +^ACCT(X):5`
a_claim : lock sign.Plus (account 4 x ∷ []) [] ≡ passes (holds (of_x ∷ []) ∷ []) []
unfolding answer same_term same_state same_case byte_text digits few too_many
a_claim = refl

a_timed_claim : timed (account 4 x ∷ []) [] ≡ passes (case One (of_x ∷ []) [] [] ∷ case Zero [] [] [] ∷ []) []
unfolding answer same_term same_state same_case byte_text digits few too_many
a_timed_claim = refl

-- a name that occurs twice is held twice
a_name_counts_twice : lock sign.Plus (account 5 x ∷ account 14 x ∷ []) [] ≡ passes (holds (of_x ∷ of_x ∷ []) ∷ []) []
unfolding answer same_term same_state same_case byte_text digits few too_many
a_name_counts_twice = refl

-- names of one claim are sorted, and do not block each other
names_of_one_claim : lock sign.Plus (the_log 5 ∷ account 10 x ∷ []) [] ≡ passes (holds (of_x ∷ log ∷ []) ∷ []) []
unfolding answer same_term same_state same_case byte_text digits few too_many
names_of_one_claim = refl

-- a name that no family has, with a timeout too; the first refusal is reported
an_unranked_name : timed (the_log 5 ∷ local (codes "X") ∷ []) [] ≡ refused 4 Unranked
unfolding answer same_term same_state same_case byte_text digits few too_many
an_unranked_name = refl

-- `^ACCT(X)` is not above `^LOG` in rank; with a timeout, or below a held name, the order is not checked
a_rank_below_a_held_one : lock sign.Plus (account 4 x ∷ []) (log ∷ []) ≡ refused 4 RankOrder
unfolding answer same_term same_state same_case byte_text digits few too_many
a_rank_below_a_held_one = refl

a_timed_claim_has_no_order : timed (account 4 x ∷ []) (log ∷ [])
    ≡ passes (case One (of_x ∷ log ∷ []) [] [] ∷ case Zero (log ∷ []) [] [] ∷ []) []
unfolding answer same_term same_state same_case byte_text digits few too_many
a_timed_claim_has_no_order = refl

a_name_below_a_held_one : lock sign.Plus (account 4 x ∷ []) (whole ∷ log ∷ []) ≡ passes (holds (whole ∷ of_x ∷ log ∷ []) ∷ []) []
unfolding answer same_term same_state same_case byte_text digits few too_many
a_name_below_a_held_one = refl

-- the summary lists claims from 20 on
a_rank_that_is_not_listed : lock_in (scope [] (Some 20) false) sign.Plus (account 4 x ∷ []) [] ≡ refused 4 SummaryShort
unfolding answer same_term same_state same_case byte_text digits few too_many
a_rank_that_is_not_listed = refl

-- seventeen names at once are too many: the walk of the line is over
abbrev seventeen : List VariableTree → List VariableTree
seventeen four = the_log 5 ∷ four ++ four ++ four ++ four

too_many_at_once : lock sign.Plus (seventeen (the_log 5 ∷ the_log 5 ∷ the_log 5 ∷ the_log 5 ∷ [])) []
    ≡ record (refused 2 TooManyCases) { over = true }
unfolding answer same_term same_state same_case byte_text digits few too_many
too_many_at_once = refl

-- subscripts: `LOCK +(^ACCT(X),^ACCT($HOROLOG))`, `LOCK +^ACCT(S)` and `LOCK -^ACCT(S(1))`, with S shared
an_unknown_subscript : lock sign.Plus (account 5 x ∷ account 14 (SpecialName special.Horolog) ∷ []) [] ≡ refused 20 UnknownSubscript
unfolding answer same_term same_state same_case byte_text digits few too_many
an_unknown_subscript = refl

a_shared_name : lock sign.Plus (account 4 (LocalName (codes "S") no_subs) ∷ []) [] ≡ refused 10 SharedName
unfolding answer same_term same_state same_case byte_text digits few too_many
a_shared_name = refl

a_subscripted_name : lock sign.Minus (account 4 (LocalName (codes "S") (sub 12 (Lit (codes "1")) no_subs)) ∷ []) [] ≡ refused 10 UnknownSubscript
unfolding answer same_term same_state same_case byte_text digits few too_many
a_subscripted_name = refl

-- subscripts are checked before the timeout is evaluated, and that before the claim: `LOCK +^ACCT(X):^ACCT(X)`
abbrev timed_by : Tree → Tree → Walk
timed_by name timeout = lock_argument spot (LockNames sign.Plus (account 4 name ∷ []) (Some timeout)) (begin (holds [] ∷ []))

a_timeout_is_evaluated : timed_by x (account_tree 13 x) ≡ refused 13 Uncovered
unfolding answer same_term same_state same_case byte_text digits few too_many
a_timeout_is_evaluated = refl

subscripts_come_first : timed_by (LocalName (codes "S") no_subs) (account_tree 13 x) ≡ refused 10 SharedName
unfolding answer same_term same_state same_case byte_text digits few too_many
subscripts_come_first = refl

-- `LOCK -(^ACCT(X),^ACCT(X))` releases two
two_are_given_back : lock sign.Minus (account 5 x ∷ account 14 x ∷ []) (of_x ∷ of_x ∷ log ∷ []) ≡ passes (holds (log ∷ []) ∷ []) []
unfolding answer same_term same_state same_case byte_text digits few too_many
two_are_given_back = refl

the_second_is_not_held : lock sign.Minus (account 5 x ∷ account 14 x ∷ []) (of_x ∷ []) ≡ refused 14 NotHeld
unfolding answer same_term same_state same_case byte_text digits few too_many
the_second_is_not_held = refl

-- `LOCK ^ACCT(X)` releases all first, which the summary must list; what was held does not block it then
a_release_has_to_be_listed : lock sign.None (account 4 x ∷ []) [] ≡ refused 2 SummaryShort
unfolding answer same_term same_state same_case byte_text digits few too_many
a_release_has_to_be_listed = refl

a_claim_anew : lock_in (scope [] (Some 10) true) sign.None (account 4 x ∷ []) (log ∷ []) ≡ passes (holds (of_x ∷ []) ∷ []) []
unfolding answer same_term same_state same_case byte_text digits few too_many
a_claim_anew = refl

-- LOCK without arguments
all_is_released : each (release (spot_in (scope [] None true))) (begin (holds (of_x ∷ log ∷ []) ∷ [])) ≡ passes (holds [] ∷ []) []
unfolding same_term same_state same_case
all_is_released = refl

all_is_not_released : each (release spot) (begin (holds (of_x ∷ []) ∷ [])) ≡ refused 2 SummaryShort
unfolding same_term same_state same_case
all_is_not_released = refl
