-- Worked arguments of SET, KILL, NEW, READ, MERGE and WRITE, shown by computation.
use Rattle.std.proofs.Common.{◌≡◌, ℕ, List, [], ◌∷◌, refl}
use Rattle.std.specs.Prelude.{codes, Some, None, false}
use Rattle.std.specs.Fmt.{digits}
use Rattle.mlk_text.specs.declared.code.Code.TheVariants.{Uncovered, ReadOnly, Pinned, SummaryShort}
use Rattle.mlk_syntax.specs.ExprTrees.{Lit}
use Rattle.mlk_syntax.specs.declared.command.Part.TheVariants.{Piece}
use Rattle.mlk_syntax.specs.Trees.{VariableTree, TargetTree, SetWhole, SetPart, SetTo, KillOne, KillAllBut, NewOne, NewAllBut}
use Rattle.mlk_syntax.specs.Trees.{ReadText, ReadLine, ReadCharacter, MergeInto, WriteValue, WriteFormat}
use Rattle.mlk_rules.specs.Computed.{answer}
use Rattle.mlk_cert_parts.specs.declared.case.Test.TheVariants.{Any, Zero, One}
use Rattle.mlk_cert_parts.specs.declared.case.Case.{Case}
use Rattle.mlk_cert_parts.specs.declared.names.NameSet.{NameSet}
use Rattle.mlk_cert_parts.specs.declared.names.NameSet.TheVariants.{Only, AllBut}
use Rattle.mlk_cert_parts.specs.declared.names.Own.{Own}
use Rattle.mlk_cert_lexemes.specs.Texts.{byte_text}
use Rattle.mlk_walk_state.specs.States.{same_state}
use Rattle.mlk_walk_state.specs.Cases.{same_case}
use Rattle.mlk_walk_state.specs.Terms.{same_term}
use Rattle.mlk_walk_state.specs.Names.{is_among, have, spares}
use Rattle.mlk_walk_exprs.specs.declared.walk.Walk.{Walk}
use Rattle.mlk_walk_exprs.specs.Walks.{begin}
use Rattle.mlk_calls.specs.Order.{in_order}
use Rattle.mlk_walk_commands.specs.Arguments.{set_argument, kill_argument, new_argument, read_argument, merge_argument, write_argument}
use Rattle.mlk_walk_commands.proofs.Worked.{name_x, of_x, of_one, whole, scope, spot_in, spot, x, local, y_of_one, account_tree, account, plain, case, holds, passes, refused}

-- X and Y have the values of the call's begin; the own names
abbrev kept : Case
kept = case Any [] [] (name_x ∷ codes "Y" ∷ [])

abbrev new : NameSet → Own
new names = record { level = 1; names = names }

-- SET of 1 to these
abbrev set : List TargetTree → Case → Walk
set targets c = set_argument spot (SetTo targets (Lit (codes "1"))) (begin (c ∷ []))

abbrev piece : VariableTree → TargetTree
piece v = SetPart Piece v (Lit (codes ",") ∷ Lit (codes "2") ∷ [])

-- `SET ^ACCT(X)=1` writes only under the node's lock
a_write_under_its_lock : set (SetWhole (account 4 x) ∷ []) (holds (of_x ∷ [])) ≡ passes (holds (of_x ∷ []) ∷ []) []
unfolding answer same_term same_state same_case byte_text digits have is_among spares
a_write_under_its_lock = refl

a_write_without_a_lock : set (SetWhole (account 4 x) ∷ []) (holds []) ≡ refused 4 Uncovered
unfolding answer same_term same_state same_case byte_text digits have is_among spares
a_write_without_a_lock = refl

-- each target has its own subscripts: `SET (^ACCT(1),^ACCT(X))=1` under the lock of the first
each_target_has_its_subscripts : set (SetWhole (account 5 (Lit (codes "1"))) ∷ SetWhole (account 14 x) ∷ []) (holds (of_one ∷ []))
    ≡ refused 14 Uncovered
unfolding answer same_term same_state same_case byte_text digits have is_among spares
each_target_has_its_subscripts = refl

-- `SET $PIECE(^CODE,",",2)=1` may read, but not write; without a lock it may not even read
a_part_is_read_first : set (piece (plain 11 (codes "CODE")) ∷ []) (holds []) ≡ refused 11 ReadOnly
unfolding answer same_term same_state same_case byte_text digits have is_among spares
a_part_is_read_first = refl

a_part_is_refused_once : set (piece (account 11 x) ∷ []) (holds []) ≡ refused 11 Uncovered
unfolding answer same_term same_state same_case byte_text digits have is_among spares
a_part_is_refused_once = refl

-- `SET X=1` loses the value of the call's begin, and is refused while a held lock mentions X
a_kept_name_changes : set (SetWhole (local name_x) ∷ []) kept ≡ passes (case Any [] [] (codes "Y" ∷ []) ∷ []) []
unfolding answer same_term same_state same_case byte_text digits have is_among spares
a_kept_name_changes = refl

a_held_name_stays : set (SetWhole (local name_x) ∷ []) (holds (of_x ∷ [])) ≡ refused 4 Pinned
unfolding answer same_term same_state same_case byte_text digits have is_among spares
a_held_name_stays = refl

-- Y is not listed; it may be own; and `SET Y(1)=1` changes nothing that is known
a_name_has_to_be_listed : set (SetWhole (local (codes "Y")) ∷ []) (holds []) ≡ refused 4 SummaryShort
unfolding answer same_term same_state same_case byte_text digits have is_among spares
a_name_has_to_be_listed = refl

a_new_name_changes : set (SetWhole (local (codes "Y")) ∷ []) (case Any [] (new (Only (codes "Y")) ∷ []) [])
    ≡ passes (case Any [] (new (Only (codes "Y")) ∷ []) [] ∷ []) []
unfolding answer same_term same_state same_case byte_text digits have is_among spares
a_new_name_changes = refl

a_subscripted_local_stays : set (SetWhole y_of_one ∷ []) kept ≡ passes (kept ∷ []) []
unfolding answer same_term same_state same_case byte_text digits have is_among spares
a_subscripted_local_stays = refl

-- `SET (X,^ACCT(X))=1` writes the node of the old X, whose value is no longer known
under_the_whole_it_is_covered : set (SetWhole (local name_x) ∷ SetWhole (account 6 x) ∷ []) (holds (whole ∷ []))
    ≡ passes (holds (whole ∷ []) ∷ []) []
unfolding answer same_term same_state same_case byte_text digits have is_among spares
under_the_whole_it_is_covered = refl

-- `KILL ^ACCT(X)` and `KILL ^ACCT` under the lock of the node, and `KILL Y`
abbrev kill : VariableTree → Case → Walk
kill v c = kill_argument spot (KillOne v) (begin (c ∷ []))

a_tree_under_its_lock : kill (account 4 x) (holds (of_x ∷ [])) ≡ passes (holds (of_x ∷ []) ∷ []) []
unfolding answer same_term same_state same_case byte_text digits have is_among spares
a_tree_under_its_lock = refl

a_larger_tree : kill (plain 4 (codes "ACCT")) (holds (of_x ∷ [])) ≡ refused 4 Uncovered
unfolding answer same_term same_state same_case byte_text digits have is_among spares
a_larger_tree = refl

a_killed_name_changes : kill (local name_x) kept ≡ passes (case Any [] [] (codes "Y" ∷ []) ∷ []) []
unfolding answer same_term same_state same_case byte_text digits have is_among spares
a_killed_name_changes = refl

a_killed_name_has_to_be_listed : kill (local (codes "Y")) (holds []) ≡ refused 4 SummaryShort
unfolding answer same_term same_state same_case byte_text digits have is_among spares
a_killed_name_has_to_be_listed = refl

-- KILL of all but some, in an entry that may change all but X
abbrev kill_others : List (List ℕ) → Case → Walk
kill_others names c = kill_argument (spot_in (scope (AllBut (name_x ∷ []) ∷ []) None false)) (KillAllBut names) (begin (c ∷ []))

all_but_those_that_stay : kill_others (codes "Y" ∷ name_x ∷ []) (case Any (of_x ∷ []) [] (name_x ∷ codes "Z" ∷ []))
    ≡ passes (case Any (of_x ∷ []) [] (name_x ∷ []) ∷ []) []
unfolding answer same_term same_state same_case byte_text digits have is_among spares
all_but_those_that_stay = refl

all_names_with_a_held_one : kill_others (codes "Y" ∷ []) (holds (of_x ∷ [])) ≡ refused 2 Pinned
unfolding answer same_term same_state same_case byte_text digits have is_among spares
all_names_with_a_held_one = refl

all_names_have_to_be_listed : kill_others [] (holds []) ≡ refused 2 SummaryShort
unfolding answer same_term same_state same_case byte_text digits have is_among spares
all_names_have_to_be_listed = refl

-- NEW: a name need not be listed, and is own from then on; names and items are sorted, without duplicates
a_name_is_new : new_argument spot (NewOne 6 (codes "Y")) (begin (case Any [] (new (Only name_x) ∷ new (Only (codes "Z")) ∷ []) (codes "Y" ∷ []) ∷ []))
    ≡ passes (case Any [] (new (Only name_x) ∷ new (Only (codes "Y")) ∷ new (Only (codes "Z")) ∷ []) [] ∷ []) []
unfolding answer same_term same_state same_case byte_text digits have is_among spares
a_name_is_new = refl

a_new_name_is_new_again : new_argument spot (NewOne 6 name_x) (begin (case Any [] (new (Only name_x) ∷ []) [] ∷ []))
    ≡ passes (case Any [] (new (Only name_x) ∷ []) [] ∷ []) []
unfolding answer same_term same_state same_case byte_text digits have is_among spares
a_new_name_is_new_again = refl

a_held_name_is_not_new : new_argument spot (NewOne 6 name_x) (begin (holds (of_x ∷ []) ∷ [])) ≡ refused 6 Pinned
unfolding answer same_term same_state same_case byte_text digits have is_among spares
a_held_name_is_not_new = refl

names_in_order : in_order (codes "B" ∷ codes "A" ∷ codes "AB" ∷ codes "B" ∷ []) ≡ codes "A" ∷ codes "AB" ∷ codes "B" ∷ []
names_in_order = refl

all_names_are_new : new_argument spot (NewAllBut (codes "B" ∷ codes "A" ∷ codes "B" ∷ [])) (begin (kept ∷ []))
    ≡ passes (case Any [] (new (AllBut (codes "A" ∷ codes "B" ∷ [])) ∷ []) [] ∷ []) []
unfolding answer same_term same_state same_case byte_text digits have is_among spares
all_names_are_new = refl

all_names_are_new_while_one_is_held : new_argument spot (NewAllBut []) (begin (holds (of_x ∷ []) ∷ [])) ≡ refused 2 Pinned
unfolding answer same_term same_state same_case byte_text digits have is_among spares
all_names_are_new_while_one_is_held = refl

-- `READ X`, `READ *X:5` and `READ Y:5`; a prompt
a_read_name_changes : read_argument spot (ReadLine (local name_x) None None) (begin (kept ∷ []))
    ≡ passes (case Any [] [] (codes "Y" ∷ []) ∷ []) []
unfolding answer same_term same_state same_case byte_text digits have is_among spares
a_read_name_changes = refl

a_read_in_time_or_not : read_argument spot (ReadCharacter (local name_x) (Some (Lit (codes "5")))) (begin (kept ∷ []))
    ≡ passes (case One [] [] (codes "Y" ∷ []) ∷ case Zero [] [] (codes "Y" ∷ []) ∷ []) []
unfolding answer same_term same_state same_case byte_text digits have is_among spares
a_read_in_time_or_not = refl

a_read_name_has_to_be_listed : read_argument spot (ReadLine (local (codes "Y")) None (Some (Lit (codes "5")))) (begin (kept ∷ []))
    ≡ refused 4 SummaryShort
unfolding answer same_term same_state same_case byte_text digits have is_among spares
a_read_name_has_to_be_listed = refl

a_subscripted_local_is_read_in_time_or_not : read_argument spot (ReadLine y_of_one None (Some (Lit (codes "5")))) (begin (kept ∷ []))
    ≡ passes (case One [] [] (name_x ∷ codes "Y" ∷ []) ∷ case Zero [] [] (name_x ∷ codes "Y" ∷ []) ∷ []) []
unfolding answer same_term same_state same_case byte_text digits have is_among spares
a_subscripted_local_is_read_in_time_or_not = refl

a_prompt : read_argument spot (ReadText (codes "Name: ")) (begin (kept ∷ [])) ≡ passes (kept ∷ []) []
unfolding answer same_term same_state same_case byte_text digits have is_among spares
a_prompt = refl

-- MERGE: the right tree is read before the left one is written
abbrev merge : VariableTree → VariableTree → Case → Walk
merge target source c = merge_argument spot (MergeInto target source) (begin (c ∷ []))

a_tree_is_merged : merge (account 4 x) (plain 14 (codes "CODE")) (holds (of_x ∷ [])) ≡ passes (holds (of_x ∷ []) ∷ []) []
unfolding answer same_term same_state same_case byte_text digits have is_among spares
a_tree_is_merged = refl

the_right_tree_is_read : merge (plain 4 (codes "CODE")) (account 10 x) (holds []) ≡ refused 10 Uncovered
unfolding answer same_term same_state same_case byte_text digits have is_among spares
the_right_tree_is_read = refl

then_the_left_tree_is_written : merge (plain 4 (codes "CODE")) (account 10 x) (holds (of_x ∷ [])) ≡ refused 4 ReadOnly
unfolding answer same_term same_state same_case byte_text digits have is_among spares
then_the_left_tree_is_written = refl

a_merged_name_changes : merge (local name_x) (plain 6 (codes "CODE")) kept ≡ passes (case Any [] [] (codes "Y" ∷ []) ∷ []) []
unfolding answer same_term same_state same_case byte_text digits have is_among spares
a_merged_name_changes = refl

a_local_is_merged_below_another : merge y_of_one (local name_x) kept ≡ passes (kept ∷ []) []
unfolding answer same_term same_state same_case byte_text digits have is_among spares
a_local_is_merged_below_another = refl

-- `WRITE ^ACCT(X)` and `WRITE !`
a_value_is_written : write_argument spot (WriteValue (account_tree 8 x)) (begin (holds (of_x ∷ []) ∷ [])) ≡ passes (holds (of_x ∷ []) ∷ []) []
unfolding answer same_term same_state same_case byte_text digits have is_among spares
a_value_is_written = refl

an_uncovered_value : write_argument spot (WriteValue (account_tree 8 x)) (begin (holds [] ∷ [])) ≡ refused 8 Uncovered
unfolding answer same_term same_state same_case byte_text digits have is_among spares
an_uncovered_value = refl

a_new_line : write_argument spot (WriteFormat None) (begin (kept ∷ [])) ≡ passes (kept ∷ []) []
unfolding answer same_term same_state same_case byte_text digits have is_among spares
a_new_line = refl
