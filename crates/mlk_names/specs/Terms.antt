-- What lock terms denote, and what they have in common. This project's own choice.
use Rattle.std.specs.Prelude.{◌≡◌, ◌≢◌, ◌↔◌, ℕ, List, Some, Contains}
use Rattle.std.specs.List.{AllZip}
use Rattle.mlk_names.specs.declared.lock_name.LockName.{LockName}
use Rattle.mlk_names.specs.declared.known_symbol.KnownSym.TheVariants.{Local}
use Rattle.mlk_names.specs.declared.term.LockTerm.{LockTerm}
use Rattle.mlk_names.specs.Lists.{Begins}
use Rattle.mlk_names.specs.LockNames.{IsAbove}
use Rattle.mlk_names.specs.Symbols.{Assignment, StandsFor, sym_of}

-- the term denotes the name: the roots are equal, and each symbol denotes the subscript at its place
pub record Names (a : Assignment) (t : LockTerm) (n : LockName) : Type 0 where
  pub root : n.root ≡ t.root
  pub subs : AllZip (λ s v. StandsFor a (sym_of s) v) t.subs n.subs

-- the second term is the first followed by some subscripts
pub record IsPrefix (s t : LockTerm) : Type 0 where
  pub root : s.root ≡ t.root
  pub subs : Begins s.subs t.subs

-- the local is among the term's subscripts
abbrev pub Mentions : LockTerm → List ℕ → Type 0
Mentions t name = Contains t.subs (Local name)

-- each local that the term mentions has a value
abbrev pub HasValues : Assignment → LockTerm → Type 0
HasValues a t = (name : List ℕ) → Mentions t name → (v : List ℕ) × (a.locals name ≡ Some v)

-- under one assignment, the first term's name is at or above the second's
abbrev pub NamesAbove : LockTerm → LockTerm → Type 0
NamesAbove s t = (a : Assignment) (m n : LockName) → Names a s m → Names a t n → IsAbove m n

-- both assignments agree on the locals that the term mentions
pub record SameWhereMentioned (t : LockTerm) (a b : Assignment) : Type 0 where
  pub locals : (name : List ℕ) → Mentions t name → a.locals name ≡ b.locals name
  pub job : a.job ≡ b.job

-- both assignments agree except on this local
pub record SameBut (name : List ℕ) (a b : Assignment) : Type 0 where
  pub locals : (other : List ℕ) → other ≢ name → a.locals other ≡ b.locals other
  pub job : a.job ≡ b.job

-- the term denotes the same name whatever value this local has
abbrev pub NamesWithout : LockTerm → List ℕ → Type 0
NamesWithout t name = (a b : Assignment) (n : LockName) → SameBut name a b → Names a t n ↔ Names b t n
