-- The lines of a certified entry are safe for a number of steps if its ends are. This project's own choice; the laws of this
-- crate use these definitions.
use Rattle.std.specs.Prelude.{◌≡◌, ◌⊎◌, ℕ, ◌+◌, Bool, true, false, List, [], ◌∷◌, Some, None, slice_get}
use Rattle.mlk_names.specs.Lists.{Among}
use Rattle.mlk_rules.specs.declared.rules.RuleLists.{RuleLists}
use Rattle.mlk_program.specs.Entries.{lines_of}
use Rattle.mlk_program.specs.declared.entry.EntryId.{EntryId}
use Rattle.mlk_syntax.specs.Trees.{RoutineTree, HeadTree, LineTrees}
use Rattle.mlk_cert_parts.specs.declared.block.EntryCert.{EntryCert}
use Rattle.mlk_cert_parts.specs.declared.case.Case.{Case}
use Rattle.mlk_cert_parts.specs.declared.case.ExitCase.{ExitCase}
use Rattle.mlk_machine_jobs.specs.Bindings.{Bindings}
use Rattle.mlk_machine_jobs.specs.Calling.{formals_in, commands_in, lines_after}
use Rattle.mlk_machine_jobs.specs.Tasks.{Task, Job, marks, Frame, AwaitsValue, HasValue, LineTree, RunLines, RunCommands, EndFrame}
use Rattle.mlk_walk_state.specs.Cases.{is_listed, leaves_by}
use Rattle.mlk_walk_state.specs.Names.{is_among}
use Rattle.mlk_walk_state.specs.Scope.{Scope, listed, scope_with, block_at}
use Rattle.mlk_walk_state.specs.States.{at_rest}
use Rattle.mlk_walk_state.specs.Terms.{mention_such}
use Rattle.mlk_walk_lines.specs.Endings.{escapes, number_of}
use Rattle.mlk_walk.specs.Verdicts.{begin_case}
use Rattle.mlk_soundness_machine.specs.Described.{World, Level, Slot, Bare, IsWorld, idle, Describes}
use Rattle.mlk_soundness_machine.specs.Safe.{SafeFor, SafeIn, Fit, KeepsTo}
use Rattle.mlk_soundness_machine.specs.Marked.{Begun, AreMarked}

-- the form in which a frame may reach its end, and with which values: QUIT with a value hands it to the frame of an extrinsic
-- call
abbrev pub Ended : Frame → Frame → List Slot → Type 0
Ended frame end slots = ((end ≡ frame) × (slots ≡ []))
    ⊎ ((t : Bool) × (frame ≡ AwaitsValue t) × (end ≡ HasValue t) × (slots ≡ Bare None ∷ []))

abbrev pub first_level : World → Level
first_level w = record { level = 1; back = w.back; own = []; tests = [] }

module _ (routines : List RoutineTree) (rules : RuleLists) (entries : List (EntryId × EntryCert) × List EntryId) where
  abbrev pub scope : EntryId → EntryCert → Scope
  scope e blk = scope_with routines rules entries e blk

  abbrev pub Safely : Scope → World → ℕ → Job → Type 0
  Safely sc w = SafeIn routines sc w (first_level w)

  -- at an exit of the entry, the frame's end is safe
  abbrev pub EndsFit : Scope → World → ℕ → Frame → Bindings → ℕ → ℕ → List Task → Type 0
  EndsFit sc w m frame back next r ts =
      (c : Case) (x : ExitCase) → Among x sc.summary.exits → leaves_by c x ≡ true → mention_such (escapes c) c.held ≡ false
      → (slots : List Slot) (end : Frame) → Ended frame end slots
      → (i : Job) → Describes sc w (first_level w) slots (at_rest c) (idle i) → i.tasks ≡ EndFrame end back next r ∷ ts → Safely sc w m i

  -- the lines of each certified entry are safe for `m` steps, if its ends are
  abbrev pub EntryFits : ℕ → Type 0
  EntryFits m =
      (e : EntryId) (blk : EntryCert) → block_at entries.0 e ≡ Some blk
      → (head : HeadTree) (body : LineTrees) (lines : List LineTree) → lines_after routines e ≡ (head, body) ∷ lines
      → (w : World) → IsWorld (scope e blk) w → w.entry ≡ e → ((x : List ℕ) → w.formals x ≡ is_among (formals_in head) x)
      → (frame : Frame) (next r : ℕ) (ts : List Task) → EndsFit (scope e blk) w m frame w.back next r ts
      → (j : Job) → Describes (scope e blk) w (first_level w) [] (at_rest (begin_case blk.summary (formals_in head))) (idle j)
      → j.tasks ≡ RunCommands (commands_in head) (head, body) ∷ RunLines lines ∷ EndFrame frame w.back next r ∷ ts
      → (begun : Begun (scope e blk) w) → begun.first ≡ j → begun.began.head ≡ head
      → AreMarked w (first_level w) (marks j.tasks) → SafeFor routines (KeepsTo (scope e blk)) m w.begun j

  -- So are they from each line on, in each case that is listed at it.
  abbrev pub LinesFit : ℕ → Type 0
  LinesFit m =
      (e : EntryId) (blk : EntryCert) → block_at entries.0 e ≡ Some blk → (w : World) → IsWorld (scope e blk) w → w.entry ≡ e
      → (frame : Frame) (next r : ℕ) (ts : List Task) → EndsFit (scope e blk) w m frame w.back next r ts
      → (n : ℕ) (l : LineTree) → slice_get (lines_of routines e) n ≡ Some l
      → (c : Case) → is_listed (listed (scope e blk) (number_of l.0) 0) c ≡ true
      → Fit routines (scope e blk) w (first_level w) [] m
      (RunLines (lines_after routines (record e { line = e.line + n })) ∷ EndFrame frame w.back next r ∷ ts) (at_rest c)
