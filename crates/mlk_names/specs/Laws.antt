-- Laws of all names, terms and references.
use Rattle.std.specs.Prelude.{◌≡◌, ◌↔◌, ◌⊎◌}
use Rattle.mlk_names.specs.declared.lock_name.LockName.{LockName}
use Rattle.mlk_names.specs.declared.reference.Reference.{Reference}
use Rattle.mlk_names.specs.declared.term.LockTerm.{LockTerm}
use Rattle.mlk_names.specs.LockNames.{IsAbove, Conflict}
use Rattle.mlk_names.specs.Symbols.{Assignment}
use Rattle.mlk_names.specs.Terms.{Names, IsPrefix, HasValues, SameWhereMentioned}
use Rattle.mlk_names.specs.References.{Touch, Touches, Overlap, MayOverlap}

-- Two names at or above the same name conflict, and of two prefixes of a term one is a prefix of the other.
pub record AboveOneMeet : Type 0 where
  pub names : (m n o : LockName) → IsAbove m o → IsAbove n o → Conflict m n
  pub terms : (s t u : LockTerm) → IsPrefix s u → IsPrefix t u → IsPrefix s t ⊎ IsPrefix t s

-- Whatever conflicts with a name conflicts with every name above it. So if no other job's name conflicts with one that a job
-- holds, none conflicts with a name at or below that one.
abbrev pub ConflictsAbove : Type 0
ConflictsAbove = (m n o : LockName) → IsAbove m n → Conflict n o → Conflict m o

-- A term denotes at most one name, and it denotes one exactly if each local that it mentions has a value. Which one depends
-- only on these locals and on the job.
pub record NamesByMentioned : Type 0 where
  pub some : (a : Assignment) (t : LockTerm) → ((n : LockName) × Names a t n) ↔ HasValues a t
  pub one : (a : Assignment) (t : LockTerm) (m n : LockName) → Names a t m → Names a t n → m ≡ n
  pub same : (a b : Assignment) (t : LockTerm) (n : LockName) → SameWhereMentioned t a b → Names a t n ↔ Names b t n

-- If two references overlap, each in a job of its own, they may overlap.
abbrev pub OverlapsForeseen : Type 0
OverlapsForeseen =
    (a b : Assignment) (r s : Reference) (t u : Touch) → Touches a r t → Touches b s u → Overlap t.region u.region → MayOverlap r s
