-- Cases: equality, and inclusion (`Included` of `mlk_cert`, as a test). This project's own choice.
use Rattle.std.specs.Prelude.{Bool, true, false, ◌&&◌, ◌||◌, ◌==◌, nat_lt, List, [], ◌∷◌, length, bytes_eq, Option, Some, None}
use Rattle.std.specs.List.{list_any, list_all}
use Rattle.mlk_names.specs.declared.term.LockTerm.{LockTerm}
use Rattle.mlk_cert_parts.specs.declared.case.Test.{Test}
use Rattle.mlk_cert_parts.specs.declared.case.Test.TheVariants.{Any, Zero, One}
use Rattle.mlk_cert_parts.specs.declared.case.Case.{Case}
use Rattle.mlk_cert_parts.specs.declared.case.ExitCase.{ExitCase}
use Rattle.mlk_cert_parts.specs.declared.names.NameSet.{NameSet}
use Rattle.mlk_cert_parts.specs.declared.names.NameSet.TheVariants.{Only, AllBut}
use Rattle.mlk_cert_parts.specs.declared.names.Own.{Own}
use Rattle.mlk_walk_state.specs.Names.{is_among}
use Rattle.mlk_walk_state.specs.Terms.{same_term}

-- what is known of `$TEST`
abbrev pub known_test : Test → Option Bool
known_test Any = None
known_test Zero = Some false
known_test One = Some true

abbrev pub test_of : Bool → Test
test_of false = Zero
test_of true = One

abbrev pub same_test : Test → Test → Bool
same_test Any Any = true
same_test Any Zero = false
same_test Any One = false
same_test Zero Any = false
same_test Zero Zero = true
same_test Zero One = false
same_test One Any = false
same_test One Zero = false
same_test One One = true

-- the second says no more than the first
abbrev pub says_no_more : Test → Test → Bool
says_no_more s t = same_test t Any || same_test s t

-- two lists of the same length, whose items at the same index satisfy the relation
abbrev pub pairwise : {A : Type 0} → (A → A → Bool) → List A → List A → Bool
pairwise is [] [] = true
pairwise is [] (y ∷ ys) = false
pairwise is (x ∷ xs) [] = false
pairwise is (x ∷ xs) (y ∷ ys) = is x y && pairwise is xs ys

abbrev pub same_set : NameSet → NameSet → Bool
same_set (Only n) (Only m) = bytes_eq n m
same_set (Only n) (AllBut ms) = false
same_set (AllBut ns) (Only m) = false
same_set (AllBut ns) (AllBut ms) = pairwise bytes_eq ns ms

abbrev pub same_own : Own → Own → Bool
same_own o p = (o.level == p.level) && same_set o.names p.names

unfoldable pub same_case : Case → Case → Bool
same_case c d = same_test c.test d.test && (pairwise same_term c.held d.held && (pairwise same_own c.own d.own
    && (pairwise bytes_eq c.kept d.kept && pairwise same_test c.saved d.saved)))

-- The second case says no more than the first. Lists of own names are compared as lists.
unfoldable pub includes : Case → Case → Bool
includes c d = says_no_more c.test d.test && (pairwise same_term c.held d.held && (pairwise same_own c.own d.own
    && (list_all (is_among c.kept) d.kept && pairwise says_no_more c.saved d.saved)))

-- one of the cases says no more than this one
abbrev pub is_listed : List Case → Case → Bool
is_listed cases c = list_any (includes c) cases

-- an exit says no more than this case
unfoldable pub leaves_by : Case → ExitCase → Bool
leaves_by c x = says_no_more c.test x.test && (pairwise same_term c.held x.held && list_all (is_among c.kept) x.kept)

abbrev pub is_exit : List ExitCase → Case → Bool
is_exit exits c = list_any (leaves_by c) exits

abbrev pub holds_some : List LockTerm → Bool
holds_some held = nat_lt 0 (length held)

-- the last of the saved tests, and those before it
abbrev pub last_saved : List Test → Option Test
last_saved [] = None
last_saved (t ∷ []) = Some t
last_saved (t ∷ u ∷ tests) = last_saved (u ∷ tests)

abbrev pub before_last : List Test → List Test
before_last [] = []
before_last (t ∷ []) = []
before_last (t ∷ u ∷ tests) = t ∷ before_last (u ∷ tests)
