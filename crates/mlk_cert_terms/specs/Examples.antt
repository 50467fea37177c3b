-- The terms of the example. For private clauses alone.
use Rattle.std.specs.Prelude.{[], ◌∷◌, codes}
use Rattle.mlk_text.specs.declared.root.Root.TheVariants as root
use Rattle.mlk_names.specs.declared.known_symbol.KnownSym.TheVariants as known
use Rattle.mlk_names.specs.declared.term.LockTerm.{LockTerm}

-- ^LOG
abbrev pub log : LockTerm
log = record { root = root.Global (codes "LOG"); subs = [] }

-- ^ACCT(ID)
abbrev pub account : LockTerm
account = record { root = root.Global (codes "ACCT"); subs = known.Local (codes "ID") ∷ [] }
