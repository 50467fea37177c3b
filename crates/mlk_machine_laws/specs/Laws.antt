-- Consequences for runs of any number of jobs.
use Rattle.std.specs.Prelude.{◌≡◌, Bool, true, false, List, [], Ok}
use Rattle.mlk_names.specs.Lists.{Among}
use Rattle.mlk_rules.specs.declared.rules.RuleLists.{RuleLists}
use Rattle.mlk_rules.specs.Laws.{FreesNoReads, OneReadsFreely}
use Rattle.mlk_rules.specs.Sound.{IsSound}
use Rattle.mlk_machine_locks.specs.Rings.{IsRing, HasRing}
use Rattle.mlk_machine_locks.specs.Systems.{Event, after}
use Rattle.mlk_machine_locks.specs.Laws.{Waits, has_ring_of}
use Rattle.mlk_syntax.specs.Trees.{RoutineTree}
use Rattle.mlk_program.specs.declared.entry.EntryId.{EntryId}
use Rattle.mlk_machine_jobs.specs.declared.choice.Choice.{Choice}
use Rattle.mlk_machine_jobs.specs.Tasks.{Job}
use Rattle.mlk_machine_jobs.specs.Seen.{Clash}
use Rattle.mlk_machine_jobs.specs.Runs.{machine, seen}
use Rattle.mlk_machine_laws.specs.Scopes.{GoesThrough, IsPutBack}
use Rattle.mlk_machine_laws.specs.Sharing.{FormalsDiffer, SharesByReference}
use Rattle.mlk_machine_laws.specs.Outside.{KeepsOutside}
use Rattle.mlk_machine_laws.specs.Tidy.{IsTidy, MakesNew, Kills}
use Rattle.mlk_machine_laws.specs.Moments.{StandsCovered, StandsInOrder, EndsEmpty, AtEachMoment}

-- If each job by itself always holds locks that cover the reference at which it stands ready, then of two jobs that clash one is
-- a free read, in any run of any number of jobs that begin at declared entries.
abbrev pub ClashesAreFree : Type 0
ClashesAreFree =
    (routines : List RoutineTree) (declared : EntryId → Bool) (rules : RuleLists) → IsSound rules
    → AtEachMoment routines declared (StandsCovered rules)
    → (events : List (Event Choice EntryId)) (jobs : List Job) → after (machine routines declared) events [] ≡ Ok jobs
    → (i j : Job) → Among i jobs → Among j jobs → (clash : Clash i j) → OneReadsFreely rules clash.one clash.other

-- So if no rule makes reads free, no two jobs clash.
abbrev pub NoClash : Type 0
NoClash =
    (routines : List RoutineTree) (declared : EntryId → Bool) (rules : RuleLists) → IsSound rules → FreesNoReads rules
    → AtEachMoment routines declared (StandsCovered rules)
    → (events : List (Event Choice EntryId)) (jobs : List Job) → after (machine routines declared) events [] ≡ Ok jobs
    → (i j : Job) → Among i jobs → Among j jobs → Clash i j → ⊥

-- No jobs of these wait for each other in a ring: the test finds none, no list of some of them is one, and no other set
-- of some of them either.
pub record IsWithoutRing (jobs : List Job) : Type 0 where
  pub tested : has_ring_of seen jobs ≡ false
  pub listed : HasRing (Waits seen) jobs → ⊥
  pub any : (In : Job → Bool) → IsRing (Waits seen) jobs (λ j. In j ≡ true) → ⊥

-- If each job by itself always claims in the order of the ranks, no run has a ring.
abbrev pub NoRing : Type 0
NoRing =
    (routines : List RoutineTree) (declared : EntryId → Bool) (rules : RuleLists) → IsSound rules
    → AtEachMoment routines declared (StandsInOrder rules.families)
    → (events : List (Event Choice EntryId)) (jobs : List Job) → after (machine routines declared) events [] ≡ Ok jobs
    → IsWithoutRing jobs

-- If each job by itself holds no lock once it has ended, neither does any job of any run.
abbrev pub AllEndEmpty : Type 0
AllEndEmpty =
    (routines : List RoutineTree) (declared : EntryId → Bool) → AtEachMoment routines declared EndsEmpty
    → (events : List (Event Choice EntryId)) (jobs : List Job) → after (machine routines declared) events [] ≡ Ok jobs
    → (j : Job) → Among j jobs → EndsEmpty j

-- After the end of a block or frame, whatever the job did in it, names are bound as before its begin.
abbrev pub EndsPutBack : Type 0
EndsPutBack =
    (routines : List RoutineTree) (declared : EntryId → Bool) (j i : Job) (through : GoesThrough (machine routines declared) j i)
    → IsPutBack j through.first i

-- At each moment of each run of one job, the bindings that blocks and frames restore are suffixes of those inside them, and
-- nothing of a generation that is not used yet has a value.
abbrev pub EachIsTidy : Type 0
EachIsTidy = (routines : List RoutineTree) (declared : EntryId → Bool) → AtEachMoment routines declared IsTidy

-- NEW creates names: they have no value, and share their cells with no other name.
abbrev pub NewIsNew : Type 0
NewIsNew = (routines : List RoutineTree) (declared : EntryId → Bool) → AtEachMoment routines declared (MakesNew routines)

-- KILL removes the values of the cells of its names, and no others, for any job.
abbrev pub KillIsExact : Type 0
KillIsExact = (routines : List RoutineTree) (j : Job) → Kills routines j

-- If no formal list has a name twice, names share cells with names outside of a block or frame only by reference.
abbrev pub SharedByReference : Type 0
SharedByReference =
    (routines : List RoutineTree) (declared : EntryId → Bool) → FormalsDiffer routines
    → AtEachMoment routines declared SharesByReference

-- If no formal list has a name twice, a step changes names outside of a block or frame only under those names, if nothing in
-- there has bound them, or by reference.
abbrev pub OutsideIsKept : Type 0
OutsideIsKept =
    (routines : List RoutineTree) (declared : EntryId → Bool) → FormalsDiffer routines
    → AtEachMoment routines declared (KeepsOutside routines)
