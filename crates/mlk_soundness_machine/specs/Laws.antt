-- What is shown of a job that a case describes. This project's own choice.
use Rattle.std.specs.Prelude.{◌≡◌, ◌⊎◌, ◌||◌, ℕ, Bool, true, false, List, [], ◌∷◌, Some, None, Ok, Option}
use Rattle.std.specs.List.{AllZip}
use Rattle.mlk_names.specs.declared.lock_name.LockName.{LockName}
use Rattle.mlk_names.specs.declared.term.LockTerm.{LockTerm}
use Rattle.mlk_names.specs.declared.symbol.Sym.{Sym}
use Rattle.mlk_names.specs.declared.reference.Extent.{Extent}
use Rattle.mlk_names.specs.declared.reference.Access.{Access}
use Rattle.mlk_names.specs.Symbols.{StandsFor}
use Rattle.mlk_rules.specs.declared.rules.RuleLists.{RuleLists}
use Rattle.mlk_rules.specs.Computed.{answer}
use Rattle.mlk_rules.specs.Ranks.{FamiliesApart}
use Rattle.mlk_rules.specs.Laws.{RankedOnce}
use Rattle.mlk_cert_parts.specs.declared.case.Case.{Case}
use Rattle.mlk_cert_parts.specs.declared.names.NameSet.{NameSet}
use Rattle.mlk_program.specs.declared.entry.EntryId.{EntryId}
use Rattle.mlk_syntax.specs.Trees.{RoutineTree}
use Rattle.mlk_machine_jobs.specs.Bindings.{Cell, Cells, look}
use Rattle.mlk_machine_jobs.specs.Choices.{touch_at}
use Rattle.mlk_machine_jobs.specs.Runs.{machine, seen}
use Rattle.mlk_machine_jobs.specs.Tasks.{Job}
use Rattle.mlk_machine_laws.specs.Moments.{IsCoveredAt}
use Rattle.mlk_soundness_machine.specs.Moments.{AtEachMomentSince}
use Rattle.mlk_machine_laws.specs.Order.{IsOwn, IsAboveAll}
use Rattle.mlk_walk_state.specs.Names.{have, is_own}
use Rattle.mlk_walk_state.specs.Scope.{Scope}
use Rattle.mlk_walk_state.specs.Terms.{mention}
use Rattle.mlk_walk_state.specs.declared.state.State.{State}
use Rattle.mlk_calls.specs.Changes.{changed_state}
use Rattle.mlk_calls.specs.Claims.{claim_fault}
use Rattle.mlk_cert_parts.specs.declared.block.EntryCert.{EntryCert}
use Rattle.mlk_soundness_machine.specs.Listed.{FactsSince}
use Rattle.mlk_soundness_machine.specs.Reads.{now, name_of}
use Rattle.mlk_soundness_machine.specs.Described.{World, Level, Slot, IsWorld, bare, idle, Stands, Describes}
use Rattle.mlk_soundness_machine.specs.Safe.{SafeFor}

-- If each job that begins is safe for each number of steps, the facts hold at each moment of each run of one job.
abbrev pub SafeAtEachMoment : Type 0
SafeAtEachMoment =
    (routines : List RoutineTree) (declared : EntryId → Bool) (rules : RuleLists) (entries : List (EntryId × EntryCert) × List EntryId)
    → ((e : EntryId) (test : Bool) (values : List (Option (List ℕ))) (k : ℕ) (first : Job)
    → (machine routines declared).begin e test values k ≡ Ok first → (n : ℕ)
    → SafeFor routines (FactsSince routines rules entries) n (first ∷ []) first)
    → AtEachMomentSince routines declared (FactsSince routines rules entries)

-- If a case describes a job and its terms cover a reference, names that the job holds cover what the reference denotes.
abbrev pub DescribedIsCovered : Type 0
DescribedIsCovered =
    (rules : RuleLists) (sc : Scope) (w : World) (b : Level) (c : Case) (j : Job) → Stands sc w b c (bare (idle j))
    → (extent : Extent) (access : Access) (name : List ℕ) (subs : List Sym) (values : List (List ℕ))
    → AllZip (StandsFor (now j)) subs values
    → answer rules c.held (record { root = name; subs = subs; extent = extent; access = access }) ≡ None
    → IsCoveredAt rules j (touch_at name values extent access)

-- If a case describes a job and allows the claim of a term, the name that the term denotes is at or below one that the job
-- holds, or its rank is above those of all that it holds, over all open frames.
abbrev pub DescribedIsInOrder : Type 0
DescribedIsInOrder =
    (sc : Scope) (w : World) (b : Level) (c : Case) (j : Job) → Stands sc w b c (bare j) → IsWorld sc w
    → FamiliesApart sc.rules.families → RankedOnce sc.rules.families
    → (t : LockTerm) (n : LockName) → name_of (now j) t ≡ Some n → claim_fault sc false c.held t ≡ None
    → IsOwn (seen j) n ⊎ IsAboveAll sc.rules.families (seen j) n

-- If a state describes a job, and names change that no held term mentions and that are own or listed by the summary, the
-- changed state describes the job with its cells changed, whatever values they have then.
abbrev pub ChangedIsDescribed : Type 0
ChangedIsDescribed =
    (sc : Scope) (w : World) (b : Level) (slots : List Slot) (s : State) (j : Job) → Describes sc w b slots s j → IsWorld sc w
    → (names : List NameSet) (cells : Cells)
    → ((e : Cell) → (cells e ≡ j.cells e) ⊎ ((n : List ℕ) × (have names n ≡ true) × (look j.bindings n ≡ e)))
    → mention names s.case.held ≡ false
    → ((n : List ℕ) → have names n ≡ true → (is_own s.case.own n || have sc.summary.mods n) ≡ true)
    → Describes sc w b slots (changed_state names s) (record j { cells = cells })
