-- The effect of a step on the values of names outside of a block or frame. Restates ISO/IEC 11756, local variables, NEW and
-- parameter passing: such a variable changes only under that name, if no NEW and no formal hides it, or by reference.
use Rattle.std.specs.Prelude.{◌≡◌, ℕ, Bool, false, ◌&&◌, not, List, ◌∷◌, ◌++◌, bytes_eq, Ok}
use Rattle.mlk_names.specs.declared.lock_name.LockName.{LockName}
use Rattle.mlk_syntax.specs.Trees.{RoutineTree}
use Rattle.mlk_machine_jobs.specs.declared.choice.Choice.{Choice}
use Rattle.mlk_machine_jobs.specs.Bindings.{covers, Bindings, look}
use Rattle.mlk_machine_jobs.specs.Tasks.{Task, Job, Store, StoreAny, StoreLast, KillNames}
use Rattle.mlk_machine_jobs.specs.Runs.{go}
use Rattle.mlk_machine_laws.specs.Sharing.{binds, is_lent}

-- the next step stores a value in the name, or kills it
abbrev pub changes_name : List Task → List ℕ → Bool
changes_name (Store name value ∷ ts) n = bytes_eq name n
changes_name (StoreAny name ∷ ts) n = bytes_eq name n
changes_name (StoreLast name ∷ ts) n = bytes_eq name n
changes_name (KillNames names ∷ ts) n = covers names n
changes_name ts n = false

-- Of the binders that a step leaves unchanged, each name keeps its value in that step, unless some formal is bound to its
-- cell by reference, or the step changes that very name and nothing in front binds it.
abbrev pub KeepsOutside : List RoutineTree → Job → Type 0
KeepsOutside routines j =
    (front after back : Bindings) (n : List ℕ) (free : LockName → Bool) (c : Choice) (i : Job)
    → go routines free c j ≡ Ok i → j.bindings ≡ front ++ back → i.bindings ≡ after ++ back
    → is_lent j.bindings (look back n) ≡ false → (changes_name j.tasks n && not (binds front n)) ≡ false
    → i.cells (look back n) ≡ j.cells (look back n)
