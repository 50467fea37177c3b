-- What symbols denote in a job at a moment. This project's own choice; `$JOB` is ISO/IEC 11756, special variables.
use Rattle.std.specs.Prelude.{◌≡◌, ℕ, List, Option, Some, None}
use Rattle.mlk_names.specs.declared.symbol.Sym.{Sym}
use Rattle.mlk_names.specs.declared.symbol.Sym.TheVariants.{Const, Local, Job, Unknown}
use Rattle.mlk_names.specs.declared.known_symbol.KnownSym.{KnownSym}
use Rattle.mlk_names.specs.declared.known_symbol.KnownSym.TheVariants as known

-- the values of a job's locals, some of which have none, and its number in decimal digits
pub record Assignment : Type 0 where
  pub locals : List ℕ → Option (List ℕ)
  pub job : List ℕ

-- the symbol denotes the value
abbrev pub StandsFor : Assignment → Sym → List ℕ → Type 0
StandsFor a (Const value) v = v ≡ value
StandsFor a (Local name) v = a.locals name ≡ Some v
StandsFor a Job v = v ≡ a.job
StandsFor a Unknown v = Unit {0}

-- a known symbol as a symbol
abbrev pub sym_of : KnownSym → Sym
sym_of (known.Const value) = Const value
sym_of (known.Local name) = Local name
sym_of known.Job = Job

-- a symbol as a known one, if it is known
abbrev pub known_of : Sym → Option KnownSym
known_of (Const value) = Some (known.Const value)
known_of (Local name) = Some (known.Local name)
known_of Job = Some known.Job
known_of Unknown = None
