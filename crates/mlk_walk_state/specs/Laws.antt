-- The tests of this crate decide the relations of the crates below.
use Rattle.std.specs.Prelude.{◌≡◌, ◌↔◌, ℕ, ◌+◌, Bool, true, false, if◌then◌else◌, List, [], ◌∷◌, length, Contains, Some, None, Decides}
use Rattle.mlk_names.specs.declared.term.LockTerm.{LockTerm}
use Rattle.mlk_syntax.specs.Trees.{RoutineTree}
use Rattle.mlk_cert_parts.specs.declared.block.EntryCert.{EntryCert}
use Rattle.mlk_rules.specs.declared.family.Family.{Family}
use Rattle.mlk_rules.specs.Ranks.{HasRank, FamiliesApart}
use Rattle.mlk_cert_parts.specs.declared.case.Case.{Case}
use Rattle.mlk_cert_parts.specs.Inclusion.{Included}
use Rattle.mlk_cert_lexemes.specs.Lists.{ascends}
use Rattle.mlk_cert_lexemes.specs.Kinds.{terms_upto}
use Rattle.mlk_cert_parts.specs.declared.names.Own.{Own}
use Rattle.mlk_cert_parts.specs.declared.names.NameSet.{NameSet}
use Rattle.mlk_cert_parts.specs.declared.names.NameSet.TheVariants.{Only, AllBut}
use Rattle.mlk_walk_state.specs.declared.state.State.{State}
use Rattle.mlk_walk_state.specs.Terms.{same_term, rank_of, add_term, add_terms, taken}
use Rattle.mlk_walk_state.specs.Names.{has, is_own, may_change}
use Rattle.mlk_walk_state.specs.Cases.{same_case, includes}
use Rattle.mlk_walk_state.specs.States.{same_state}
use Rattle.mlk_walk_state.specs.Scope.{AreEntries, certified, declared, shared_in_frame}
use Rattle.mlk_program.specs.declared.entry.EntryId.{EntryId}
use Rattle.mlk_program.specs.Program.{PlacedCall, calls_of, passed_by, filled_by}

-- A case includes another exactly if the relation says so.
abbrev pub IncludesDecides : Type 0
IncludesDecides = (c d : Case) → Decides (includes c d) (Included c d)

-- The equality tests of terms, cases and states decide equality.
pub record SameDecides : Type 0 where
  pub terms : (t u : LockTerm) → Decides (same_term t u) (t ≡ u)
  pub cases : (c d : Case) → Decides (same_case c d) (c ≡ d)
  pub states : (s t : State) → Decides (same_state s t) (s ≡ t)

-- If no two families meet, a term's rank is that of the relation.
abbrev pub RankIs : Type 0
RankIs = (families : List Family) (t : LockTerm) (k : ℕ) → FamiliesApart families → (rank_of families t ≡ Some k) ↔ HasRank families t k

-- For each entry, the tables of entries agree with its first block and with the rules.
abbrev pub TablesAre : Type 0
TablesAre = (routines : List RoutineTree) (blocks : List EntryCert) (texts : List (List ℕ))
    → AreEntries routines blocks texts (certified routines blocks, declared routines texts)

-- An added term is held once more, every other one as often as before, and the order is kept; a removed term is held once less,
-- and if none can be removed it is not held.
abbrev pub one_if : Bool → ℕ
one_if test = if test then 1 else 0

abbrev pub count_of : LockTerm → List LockTerm → ℕ
count_of t [] = 0
count_of t (h ∷ held) = one_if (same_term t h) + count_of t held

pub record HeldAre : Type 0 where
  pub of_put : (t u : LockTerm) (held : List LockTerm) → count_of u (add_term t held) ≡ count_of u held + one_if (same_term u t)
  pub of_taken : (t u : LockTerm) (held rest : List LockTerm) → taken t held ≡ Some rest
      → count_of u held ≡ count_of u rest + one_if (same_term u t)
  pub of_none : (t : LockTerm) (held : List LockTerm) → taken t held ≡ None → count_of t held ≡ 0
  pub of_all : (terms held : List LockTerm) → length (add_terms terms held) ≡ length terms + length held
  pub ordered : (t : LockTerm) (held : List LockTerm) → ascends terms_upto held ≡ true → ascends terms_upto (add_term t held) ≡ true

-- If all names but some may change, each of them may.
abbrev pub AllButAllows : Type 0
AllButAllows = (own : List Own) (mods : List NameSet) (names : List (List ℕ)) (name : List ℕ)
    → may_change own mods (AllBut names) ≡ true → has (AllBut names) name ≡ true → may_change own mods (Only name) ≡ true

-- Whether a name is shared in a frame of an entry depends only on whether it is own there, and a name that is not shared where it
-- is not own is shared in no frame. A name that some call passes by reference is shared where it is not own, and a formal that
-- receives one is shared in each frame of its entry.
pub record SharesByOwn (routines : List RoutineTree) : Type 0 where
  pub by_own : (e : EntryId) (own more : List Own) (name : List ℕ) → is_own own name ≡ is_own more name
      → shared_in_frame routines e own name ≡ shared_in_frame routines e more name
  pub nowhere : (caller callee : EntryId) (own other : List Own) (name : List ℕ) → is_own other name ≡ false
      → shared_in_frame routines callee other name ≡ false → shared_in_frame routines caller own name ≡ false
  pub passed : (p : PlacedCall) (e : EntryId) (own : List Own) (name : List ℕ) → Contains (calls_of routines) p
      → Contains (passed_by p) name → is_own own name ≡ false → shared_in_frame routines e own name ≡ true
  pub filled : (p : PlacedCall) (e : EntryId) (own : List Own) (formal : List ℕ) → Contains (calls_of routines) p
      → Contains (filled_by routines p) (e, formal) → shared_in_frame routines e own formal ≡ true
