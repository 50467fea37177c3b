-- What terms denote in a job, and how often a list of them denotes a name. This project's own choice.
use Rattle.std.specs.Prelude.{ℕ, ◌+◌, Bool, if◌then◌else◌, List, [], ◌∷◌, Option, Some, None, option_map, bytes_eq}
use Rattle.std.specs.Fmt.{decimal}
use Rattle.mlk_names.specs.declared.lock_name.LockName.{LockName}
use Rattle.mlk_names.specs.declared.term.LockTerm.{LockTerm}
use Rattle.mlk_names.specs.declared.known_symbol.KnownSym.{KnownSym}
use Rattle.mlk_names.specs.declared.known_symbol.KnownSym.TheVariants as known
use Rattle.mlk_names.specs.Symbols.{Assignment}
use Rattle.mlk_machine_locks.specs.NameTests.{same_name}
use Rattle.mlk_walk_state.specs.Lists.{all_some}
use Rattle.mlk_walk_state.specs.Terms.{mention_such}
use Rattle.mlk_machine_jobs.specs.Bindings.{Bindings, Cells, look}
use Rattle.mlk_machine_jobs.specs.Tasks.{Job}

-- the values of locals as they are bound here, in a job of this number
abbrev pub values_in : Cells → Bindings → ℕ → Assignment
values_in cells bindings number = record { locals = λ n. cells (look bindings n); job = decimal number }

abbrev pub now : Job → Assignment
now j = values_in j.cells j.bindings j.number

abbrev pub value_of : Assignment → KnownSym → Option (List ℕ)
value_of a (known.Const value) = Some value
value_of a (known.Local name) = a.locals name
value_of a known.Job = Some a.job

-- the name that a term denotes
abbrev pub name_of : Assignment → LockTerm → Option LockName
name_of a t = option_map (λ subs. record { root = t.root; subs = subs }) (all_some (value_of a) t.subs)

abbrev pub one_at : Option LockName → LockName → ℕ
one_at None m = 0
one_at (Some n) m = if same_name n m then 1 else 0

-- how many of the terms denote the name
abbrev pub times : Assignment → List LockTerm → LockName → ℕ
times a [] m = 0
times a (t ∷ ts) m = one_at (name_of a t) m + times a ts m

-- a term mentions the local
unfoldable pub mentions : List ℕ → List LockTerm → Bool
mentions x terms = mention_such (λ n. bytes_eq n x) terms
