-- The effect of a change of locals on a state. Standard: SET, KILL, READ, FOR, MERGE; that no name in a held lock may change,
-- and which names a summary lists, are this project's own choice.
use Rattle.std.specs.Prelude.{not, if◌then◌else◌, List, map, filter, Option, Some, None, Result, Ok, Err}
use Rattle.std.specs.List.{list_all}
use Rattle.mlk_text.specs.declared.code.Code.{Code}
use Rattle.mlk_text.specs.declared.code.Code.TheVariants.{Pinned, SummaryShort}
use Rattle.mlk_names.specs.declared.symbol.Sym.{Sym}
use Rattle.mlk_names.specs.declared.symbol.Sym.TheVariants.{Const, Local, Job, Unknown}
use Rattle.mlk_cert_parts.specs.declared.case.Case.{Case}
use Rattle.mlk_cert_parts.specs.declared.names.NameSet.{NameSet}
use Rattle.mlk_walk_state.specs.declared.state.State.{State}
use Rattle.mlk_walk_state.specs.Names.{have, may_change, without}
use Rattle.mlk_walk_state.specs.Terms.{mention}
use Rattle.mlk_walk_state.specs.Scope.{Scope}

-- a captured symbol that mentions a changed name becomes unknown
abbrev pub marked : List NameSet → Sym → Sym
marked changed (Const value) = Const value
marked changed (Local name) = if have changed name then Unknown else Local name
marked changed Job = Job
marked changed Unknown = Unknown

-- the changed names are no longer kept
abbrev pub without_kept : List NameSet → Case → Case
without_kept changed c = record c { kept = without changed c.kept }

-- and captured symbols that mention them are unknown
abbrev pub changed_state : List NameSet → State → State
changed_state changed s =
    record { case = without_kept changed s.case; captured = map (marked changed) s.captured }

-- The fault of a change of names: 705 if a held term mentions one, 712 if some of them are neither own nor listed.
abbrev pub change_fault : Scope → List NameSet → State → Option Code
change_fault sc changed s =
    if mention changed s.case.held then Some Pinned
    else if not (list_all (may_change s.case.own sc.summary.mods) changed) then Some SummaryShort
    else None

abbrev pub unless : {A : Type 0} → Option Code → Result A Code → Result A Code
unless None after = after
unless (Some code) after = Err code

abbrev pub change : Scope → List NameSet → State → Result State Code
change sc changed s = unless (change_fault sc changed s) (Ok (changed_state changed s))

-- the names that the walked entry's summary would have to list for a change: those that are neither own nor listed
abbrev pub short_names : Scope → List NameSet → State → List NameSet
short_names sc changed s = filter (λ n. not (may_change s.case.own sc.summary.mods n)) changed
