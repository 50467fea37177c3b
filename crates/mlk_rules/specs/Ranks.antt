-- The order in which locks are claimed: by the ranks of their families. This project's own choice.
use Rattle.std.specs.Prelude.{◌≡◌, ℕ, suc, List, ◌∷◌, ◌++◌, length, map, Contains, AllPairs}
use Rattle.mlk_names.specs.declared.lock_name.LockName.{LockName}
use Rattle.mlk_names.specs.declared.known_symbol.KnownSym.TheVariants.{Const}
use Rattle.mlk_names.specs.declared.term.LockTerm.{LockTerm}
use Rattle.mlk_names.specs.LockNames.{IsAbove, Conflict}
use Rattle.mlk_names.specs.Terms.{IsPrefix}
use Rattle.mlk_rules.specs.declared.family.Family.{Family}

-- a name as a term: each subscript is a constant
abbrev pub constant_term : LockName → LockTerm
constant_term n = record { root = n.root; subs = map Const n.subs }

-- the rank of the family that is the term or above it, by equal constants
abbrev pub HasRank : List Family → LockTerm → ℕ → Type 0
HasRank families t rank = (f : Family) × Contains families f × IsPrefix (constant_term f.name) t × (f.rank ≡ rank)

-- the rank of the family that is the name or above it
abbrev pub NameHasRank : List Family → LockName → ℕ → Type 0
NameHasRank families n rank = (f : Family) × Contains families f × IsAbove f.name n × (f.rank ≡ rank)

-- no family is another, or above it
abbrev pub FamiliesApart : List Family → Type 0
FamiliesApart families = AllPairs (λ f g. ¬ Conflict f.name g.name) families

-- The family with this index, counted from 1, is the first that conflicts with an earlier one.
pub record IsFirstMeeting (families : List Family) (index : ℕ) : Type 0 where
  pub before : List Family
  pub family : Family
  pub after : List Family
  pub are : before ++ family ∷ after ≡ families
  pub place : suc (length before) ≡ index
  pub apart : FamiliesApart before
  pub earlier : Family
  pub stands : Contains before earlier
  pub meets : Conflict family.name earlier.name
