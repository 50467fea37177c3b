-- The invariants of a job at one moment, and that they hold at each moment of each run of that job alone. This project's own
-- choice.
use Rattle.std.specs.Prelude.{◌≡◌, ℕ, Bool, List, Some, Ok, Contains, Option}
use Rattle.std.specs.Fmt.{decimal}
use Rattle.mlk_names.specs.declared.lock_name.LockName.{LockName}
use Rattle.mlk_names.specs.declared.term.LockTerm.{LockTerm}
use Rattle.mlk_names.specs.declared.reference.Reference.{Reference}
use Rattle.mlk_names.specs.Symbols.{Assignment}
use Rattle.mlk_names.specs.Terms.{Names}
use Rattle.mlk_names.specs.References.{Touch, Touches}
use Rattle.mlk_rules.specs.declared.family.Family.{Family}
use Rattle.mlk_rules.specs.declared.rules.RuleLists.{RuleLists}
use Rattle.mlk_rules.specs.Coverage.{IsCovered}
use Rattle.mlk_machine_locks.specs.Waiting.{Holds}
use Rattle.mlk_machine_locks.specs.Systems.{Act, lone_run}
use Rattle.mlk_syntax.specs.Trees.{RoutineTree}
use Rattle.mlk_program.specs.declared.entry.EntryId.{EntryId}
use Rattle.mlk_machine_jobs.specs.declared.choice.Choice.{Choice}
use Rattle.mlk_machine_jobs.specs.Tasks.{Job}
use Rattle.mlk_machine_jobs.specs.Seen.{ready, HasEnded}
use Rattle.mlk_machine_jobs.specs.Runs.{machine, seen}
use Rattle.mlk_machine_laws.specs.Order.{ClaimsInOrder}

-- the job holds a name that the term denotes
pub record IsHeld (values : Assignment) (j : Job) (t : LockTerm) : Type 0 where
  pub name : LockName
  pub names : Names values t name
  pub holds : Holds (seen j) name

-- The reference that the job touches next is covered: there are values of locals, and its own number, by which a reference
-- denotes just that touch and lock terms denote names that it holds, and by the rules these terms cover the reference.
pub record IsCoveredAt (rules : RuleLists) (j : Job) (t : Touch) : Type 0 where
  pub values : Assignment
  pub own : values.job ≡ decimal j.number
  pub held : List LockTerm
  pub each_held : (term : LockTerm) → Contains held term → IsHeld values j term
  pub reference : Reference
  pub touches : Touches values reference t
  pub covered : IsCovered rules held reference

-- if the job stands ready at a reference, it holds what covers it
abbrev pub StandsCovered : RuleLists → Job → Type 0
StandsCovered rules j = (t : Touch) → ready j ≡ Some t → IsCoveredAt rules j t

-- its next claim is in order
abbrev pub StandsInOrder : List Family → Job → Type 0
StandsInOrder families j = ClaimsInOrder families (seen j)

-- if it has ended by itself, it holds no lock
abbrev pub EndsEmpty : Job → Type 0
EndsEmpty j = HasEnded j → (n : LockName) → Holds (seen j) n → ⊥

-- At each moment of each run of one job that begins at a declared entry, whenever each of its claims is granted.
abbrev pub AtEachMoment : List RoutineTree → (EntryId → Bool) → (Job → Type 0) → Type 0
AtEachMoment routines declared Keeps =
    (e : EntryId) (test : Bool) (values : List (Option (List ℕ))) (k : ℕ) (first j : Job) (acts : List (Act Choice EntryId))
    → (machine routines declared).begin e test values k ≡ Ok first
    → lone_run (machine routines declared) acts first ≡ Ok j → Keeps j
