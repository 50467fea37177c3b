-- A callee's terms, translated for its caller. Restates ISO/IEC 11756, parameter passing: at the call each formal has the
-- value of the actual at its place, and all other names are the caller's. Unknown symbols are this project's own.
use Rattle.std.specs.Prelude.{◌≡◌, ◌↔◌, ℕ, List, Option, Some, None, map, position, slice_get, bytes_eq, Contains}
use Rattle.mlk_names.specs.declared.lock_name.LockName.{LockName}
use Rattle.mlk_names.specs.declared.symbol.Sym.{Sym}
use Rattle.mlk_names.specs.declared.symbol.Sym.TheVariants.{Const, Local, Job, Unknown}
use Rattle.mlk_names.specs.declared.known_symbol.KnownSym.{KnownSym}
use Rattle.mlk_names.specs.declared.known_symbol.KnownSym.TheVariants as known
use Rattle.mlk_names.specs.declared.term.LockTerm.{LockTerm}
use Rattle.mlk_names.specs.Symbols.{Assignment, StandsFor, sym_of}
use Rattle.mlk_names.specs.Terms.{Names, Mentions}

-- what was passed: a missing actual, or one past the end of the list, is unknown
abbrev pub passed : Option (Option Sym) → Sym
passed None = Unknown
passed (Some None) = Unknown
passed (Some (Some s)) = s

-- a local that is not a formal is kept, and a formal is what was passed at its place
abbrev pub local_at : List (Option Sym) → List ℕ → Option ℕ → Sym
local_at actuals name None = Local name
local_at actuals name (Some place) = passed (slice_get actuals place)

-- the caller's symbol for a symbol of the callee
abbrev pub put_in : List (List ℕ) → List (Option Sym) → KnownSym → Sym
put_in formals actuals (known.Const value) = Const value
put_in formals actuals (known.Local name) = local_at actuals name (position (λ formal. bytes_eq formal name) formals)
put_in formals actuals known.Job = Job

-- all symbols are the caller's, or there are none, because one of them is unknown
abbrev pub Puts : List (List ℕ) → List (Option Sym) → List KnownSym → Option (List KnownSym) → Type 0
Puts formals actuals symbols (Some found) = map sym_of found ≡ map (put_in formals actuals) symbols
Puts formals actuals symbols None = Contains (map (put_in formals actuals) symbols) Unknown

-- the term with the caller's symbols, or none if one of them is unknown
abbrev pub PutsIn : List (List ℕ) → List (Option Sym) → LockTerm → Option LockTerm → Type 0
PutsIn formals actuals t (Some u) = (u.root ≡ t.root) × Puts formals actuals t.subs (Some u.subs)
PutsIn formals actuals t None = Puts formals actuals t.subs None

-- A moment of the call, at its begin or its end: each local that the callee's term mentions has the value that the caller's
-- symbol for it denotes, if that is known. Other locals may have any value.
pub record IsCall (formals : List (List ℕ)) (actuals : List (Option Sym)) (t : LockTerm) (caller callee : Assignment) : Type 0 where
  pub locals : (name : List ℕ) → Mentions t name → (s : KnownSym) → put_in formals actuals (known.Local name) ≡ sym_of s
      → (v : List ℕ) → (callee.locals name ≡ Some v) ↔ StandsFor caller (sym_of s) v
  pub job : callee.job ≡ caller.job

-- the callee's term and the caller's denote the same name
abbrev pub NamesAlike : List (List ℕ) → List (Option Sym) → LockTerm → LockTerm → Type 0
NamesAlike formals actuals t u =
    (caller callee : Assignment) (n : LockName) → IsCall formals actuals t caller callee → Names caller u n ↔ Names callee t n
