-- A listed case describes a job at the begin of a frame, at each line that it moves on to, and at each round of a FOR; inside a
-- line, before each command and after each argument, a case that the walk derives from a listed one does; and JOB starts
-- declared entries. This project's own choice.
use Rattle.std.specs.Prelude.{◌≡◌, ℕ, ◌+◌, true, false, List, [], ◌∷◌, ◌++◌, map, Some}
use Rattle.std.specs.List.{AllZip}
use Rattle.mlk_names.specs.Lists.{Among}
use Rattle.mlk_names.specs.declared.lock_name.LockName.{LockName}
use Rattle.mlk_names.specs.declared.term.LockTerm.{LockTerm}
use Rattle.mlk_rules.specs.declared.rules.RuleLists.{RuleLists}
use Rattle.mlk_program.specs.declared.entry.EntryId.{EntryId}
use Rattle.mlk_program.specs.Entries.{as_lines, target_of}
use Rattle.mlk_syntax.specs.declared.expr.Callee.{Callee}
use Rattle.mlk_syntax.specs.ExprTrees.{ActualTree}
use Rattle.mlk_syntax.specs.Trees.{RoutineTree, ActionTree, CommandTrees, LineTrees, line}
use Rattle.mlk_cert_parts.specs.declared.block.EntryCert.{EntryCert}
use Rattle.mlk_cert_parts.specs.declared.case.Case.{Case}
use Rattle.mlk_machine_locks.specs.Counts.{count_of}
use Rattle.mlk_machine_jobs.specs.Bindings.{look}
use Rattle.mlk_machine_jobs.specs.Calling.{commands_in}
use Rattle.mlk_machine_jobs.specs.Tasks.{Task, Job, marks, LineTree, StartJob, RunLines, RunCommands, NextArgument}
use Rattle.mlk_walk_state.specs.Names.{is_among, is_own}
use Rattle.mlk_walk_state.specs.Scope.{Scope, block_at, has_entry, listed_at, scope_with}
use Rattle.mlk_soundness_machine.specs.Facts.{Facts}
use Rattle.mlk_soundness_machine.specs.Frames.{Waiting, times_waiting, Binds, Agrees}
use Rattle.mlk_soundness_machine.specs.History.{block_tests, frame_backs, first_back, is_reference, BeganAt}
use Rattle.mlk_soundness_machine.specs.Places.{line_number, entry_trees, StandIn, round_of, none_follows}
use Rattle.mlk_soundness_machine.specs.Places.{OnLine, AreRoundOf, arguments_from, ComesTo, ComesAfter}
use Rattle.mlk_soundness_machine.specs.Reads.{now, times}

-- The case describes the job: with what other open frames have set aside, each read in its own bindings, its terms denote
-- exactly what the job holds; `$TEST` and the saved values are as it says, and so are the names bound anew in the running
-- frame; names that it lists as kept have their values of the frame's begin, except those that the frame's own call bound by
-- reference. What other frames have set aside is what the job held at the frame's begin, less what the terms that the entry
-- needs denoted.
pub record IsDescribed (need : List LockTerm) (c : Case) (begun : List Job) (j : Job) : Type 0 where
  pub test : Agrees c.test j.test
  pub saved : AllZip Agrees c.saved (block_tests (marks j.tasks))
  pub waiting : List Waiting
  pub frames : frame_backs (marks j.tasks) ≡ map (λ (w : Waiting). w.bindings) waiting ++ [] ∷ []
  pub own : Binds j.bindings (first_back waiting) (λ n. is_own c.own n)
  pub counts : (m : LockName) → count_of j.held m ≡ times (now j) c.held m + times_waiting j.cells j.number waiting m
  -- the job as it was at the running frame's begin
  pub first : Job
  pub others : List Job
  pub since : begun ≡ first ∷ others
  pub aside : (m : LockName) → count_of first.held m ≡ times (now first) need m + times_waiting j.cells j.number waiting m
  pub kept : (n : List ℕ) → is_among c.kept n ≡ true → is_reference first.bindings n ≡ false
      → j.cells (look j.bindings n) ≡ first.cells (look first.bindings n)

-- it is described by a case that is listed at this point for the certified entry by which the running frame began
pub record IsListedAt (routines : List RoutineTree) (blocks : List (EntryId × EntryCert)) (number round : ℕ)
    (begun : List Job) (j : Job) : Type 0 where
  pub entry : EntryId
  pub running : entry.routine ≡ j.routine
  pub block : EntryCert
  pub is_certified : block_at blocks entry ≡ Some block
  pub case : Case
  pub is_listed : Among case (listed_at block.points number round)
  pub describes : IsDescribed block.summary.need case begun j
  pub began : BeganAt routines entry describes.first

-- such a case is listed at the line of that entry
abbrev pub IsAtStart : List RoutineTree → List (EntryId × EntryCert) → List Job → Job → Type 0
IsAtStart routines blocks begun j = (number : ℕ) × (at : IsListedAt routines blocks number 0 begun j) × (line_number at.began.head ≡ number)

-- such a case is listed at this line, which is one of that entry's or of a block below them, with the lines that follow it
pub record IsAtLine (routines : List RoutineTree) (blocks : List (EntryId × EntryCert)) (l : LineTree) (lines : List LineTree)
    (begun : List Job) (j : Job) : Type 0 where
  pub at : IsListedAt routines blocks (line_number l.0) 0 begun j
  pub behind : LineTrees
  pub is_line : StandIn (line l.0 l.1 behind) (entry_trees routines at.entry)
  pub others : List LineTree
  pub ahead : lines ≡ as_lines behind ++ others
  pub no_more : none_follows others ≡ true

-- such a case is listed for rounds of a FOR that runs these commands, on the line that the job is on
pub record IsAtRound (routines : List RoutineTree) (blocks : List (EntryId × EntryCert)) (rest : CommandTrees)
    (here : LineTree) (ts : List Task) (begun : List Job) (j : Job) : Type 0 where
  pub entry : EntryId
  pub on : OnLine (entry_trees routines entry) here ts
  pub index : ℕ
  pub runs : AreRoundOf rest index (commands_in here.0)
  pub at : IsListedAt routines blocks (line_number here.0) index begun j
  pub its : at.entry ≡ entry

-- it is described by a case that the walk of the line reaches where the job is: `Comes` says which cases, in a scope and an
-- entry's lines
pub record IsInside (routines : List RoutineTree) (rules : RuleLists) (entries : List (EntryId × EntryCert) × List EntryId)
    (Comes : Scope → LineTrees → Case → Type 0) (begun : List Job) (j : Job) : Type 0 where
  pub entry : EntryId
  pub running : entry.routine ≡ j.routine
  pub certificate : EntryCert
  pub is_certified : block_at entries.0 entry ≡ Some certificate
  pub case : Case
  pub comes : Comes (scope_with routines rules entries entry certificate) (entry_trees routines entry) case
  pub describes : IsDescribed certificate.summary.need case begun j
  pub began : BeganAt routines entry describes.first

-- at the begin of a frame, a case that is listed at the entry's line describes the job; when it moves on to a line, one that
-- is listed at the line; when a round begins, one that is listed for rounds of the FOR; before each command, and after each
-- argument of one, one that the walk has there
abbrev pub StartListed : List RoutineTree → List (EntryId × EntryCert) → List Job → Job → Type 0
StartListed routines blocks begun j =
    (others : List Job) (commands : CommandTrees) (here : LineTree) (ts : List Task) → begun ≡ j ∷ others
    → j.tasks ≡ RunCommands commands here ∷ ts → IsAtStart routines blocks begun j

abbrev pub GoesListed : List RoutineTree → List (EntryId × EntryCert) → List Job → Job → Type 0
GoesListed routines blocks begun j =
    (l : LineTree) (lines : List LineTree) (ts : List Task) → j.tasks ≡ RunLines (l ∷ lines) ∷ ts → IsAtLine routines blocks l lines begun j

abbrev pub RoundListed : List RoutineTree → List (EntryId × EntryCert) → List Job → Job → Type 0
RoundListed routines blocks begun j =
    (rest : CommandTrees) (here : LineTree) (t : Task) (ts : List Task) → j.tasks ≡ RunCommands rest here ∷ t ∷ ts → round_of t ≡ Some rest
    → IsAtRound routines blocks rest here (t ∷ ts) begun j

abbrev pub CommandWalked : List RoutineTree → RuleLists → List (EntryId × EntryCert) × List EntryId → List Job → Job → Type 0
CommandWalked routines rules entries begun j =
    (left : CommandTrees) (here : LineTree) (ts : List Task) → j.tasks ≡ RunCommands left here ∷ ts
    → IsInside routines rules entries (λ sc lines c. ComesTo sc lines left here ts c) begun j

abbrev pub ArgumentWalked : List RoutineTree → RuleLists → List (EntryId × EntryCert) × List EntryId → List Job → Job → Type 0
ArgumentWalked routines rules entries begun j =
    (action : ActionTree) (count : ℕ) (left : CommandTrees) (here : LineTree) (ts : List Task)
    → j.tasks ≡ NextArgument action count ∷ (arguments_from action count ++ RunCommands left here ∷ ts)
    → IsInside routines rules entries (λ sc lines c. ComesAfter sc lines action count left here ts c) begun j

-- if its next step is JOB, the entry of the job that it starts is one of these
abbrev pub StartsDeclared : List RoutineTree → List EntryId → Job → Type 0
StartsDeclared routines declared j =
    (callee : Callee) (given : List ActualTree) (ts : List Task) → j.tasks ≡ StartJob callee given ∷ ts
    → (e : EntryId) × (target_of routines j.routine callee ≡ Some e) × (has_entry declared e ≡ true)

-- the invariants of one job at each moment, if the entries of the first table are certified with its blocks, and those of the
-- second are declared
pub record FactsSince (routines : List RoutineTree) (rules : RuleLists) (entries : List (EntryId × EntryCert) × List EntryId)
    (begun : List Job) (j : Job) : Type 0 where
  pub facts : Facts rules j
  pub starts : StartListed routines entries.0 begun j
  pub lines : GoesListed routines entries.0 begun j
  pub rounds : RoundListed routines entries.0 begun j
  pub inside : CommandWalked routines rules entries begun j
  pub between : ArgumentWalked routines rules entries begun j
  pub jobs : StartsDeclared routines entries.1 j
