-- Commands are safe for a number of steps if the walk finds nothing wrong with them. This project's own choice; the laws of
-- this crate use these definitions.
use Rattle.std.specs.Prelude.{◌≡◌, ◌<◌, ℕ, Bool, true, false, List, [], ◌∷◌, ◌++◌, Option, Some, None}
use Rattle.mlk_names.specs.Lists.{Among}
use Rattle.mlk_syntax.specs.Trees.{RoutineTree, CommandTree, Does, ControlTree, CommandTrees, then_for}
use Rattle.mlk_program.specs.declared.entry.EntryId.{EntryId}
use Rattle.mlk_cert_parts.specs.declared.case.Case.{Case}
use Rattle.mlk_machine_jobs.specs.Calling.{commands_in, lines_after}
use Rattle.mlk_machine_jobs.specs.Lines.{skipped, quit, to_end, answered, command_parts, for_parts}
use Rattle.mlk_machine_jobs.specs.Tasks.{Task, Job, LineTree, RunLines, NextArgument}
use Rattle.mlk_walk_state.specs.Cases.{is_listed}
use Rattle.mlk_walk_state.specs.Scope.{Scope, listed, line_within}
use Rattle.mlk_walk_state.specs.States.{at_rest}
use Rattle.mlk_walk_state.specs.declared.state.State.{State}
use Rattle.mlk_walk_exprs.specs.Spots.{Spot}
use Rattle.mlk_walk_exprs.specs.declared.walk.Quit.{Quit}
use Rattle.mlk_walk_exprs.specs.declared.walk.Walk.{Walk}
use Rattle.mlk_walk_lines.specs.Endings.{number_of}
use Rattle.mlk_walk_lines.specs.Loops.{commands, one_command, at_word}
use Rattle.mlk_walk_laws.specs.Fewer.{IsClean}
use Rattle.mlk_soundness_machine.specs.Described.{World, Level, Bare, idle, Describes}
use Rattle.mlk_soundness_machine.specs.Places.{entry_trees, OnLine, AreLastOf, spot_on, alone, acts_to, arguments_from, holds_to}
use Rattle.mlk_soundness_machine.specs.Safe.{SafeIn, KeepsIn, Fit}
use Rattle.mlk_soundness_walk.specs.Ours.{IsOf, AreOf}

-- These commands are the last of this line, which is one of the world's entry or of a block below its lines, and the walk is of
-- that line; these tasks follow them.
pub record AreOnLine (w : World) (p : Spot) (here : LineTree) (cs : CommandTrees) (ts : List Task) : Type 0 where
  pub on : OnLine (entry_trees p.scope.routines w.entry) here ts
  pub spot : p ≡ spot_on p.scope here.0 here.1
  pub last : AreLastOf cs (commands_in here.0)

module _ (routines : List RoutineTree) (w : World) (b : Level) where
  -- each job that the state describes, and that has these tasks and no other values of its own, is safe
  abbrev pub IsSafe : Spot → ℕ → List Task → State → Type 0
  IsSafe p n ts s = Fit routines p.scope w b [] n ts s

  -- after a QUIT with a value, the tasks from the end on are safe
  abbrev pub Gives : Scope → ℕ → List Task → State → Type 0
  Gives sc n us s = (j : Job) (v : List ℕ) (more : List (List ℕ)) → Describes sc w b (Bare None ∷ []) s (idle j) → j.values ≡ v ∷ more
      → SafeIn routines sc w b n (answered j us)

  -- each line of the entry, in each case that is listed at it, is safe for fewer steps if these tasks follow its routine's lines
  abbrev pub Jumps : Scope → ℕ → List Task → Type 0
  Jumps sc n us =
      (k : ℕ) → k < n → (e : EntryId) (l : LineTree) → line_within sc e ≡ Some l
      → (c : Case) → is_listed (listed sc (number_of l.0) 0) c ≡ true
      → Fit routines sc w b [] k (RunLines (lines_after routines e) ∷ us) (at_rest c)

  -- each outcome of a walk is safe: where it continues, with the tasks that follow; where it skips or quits, with what is left; and
  -- if a QUIT with a value may be there, so is each line that GOTO may name
  pub record AreSafe (p : Spot) (may : Bool) (n : ℕ) (ts : List Task) (found : Walk) : Type 0 where
    pub going : (u : State) → Among u found.going → IsSafe p n ts u
    pub skips : (c : Case) → Among c found.skips → IsSafe p n (skipped ts) (at_rest c)
    pub quits : (q : Quit) → Among q found.quits → IsSafe p n (quit ts) (at_rest q.case)
    pub gives : may ≡ true → (q : Quit) → Among q found.quits → Gives p.scope n (to_end ts) (at_rest q.case)
    pub jumps : may ≡ true → Jumps p.scope n (to_end ts)

  -- after each argument of a command that begins in this state, a job meets its invariants, whatever tasks follow
  abbrev pub KeepsBetween : Spot → CommandTree → List Task → State → Type 0
  KeepsBetween p (Does column condition action) ts s =
      (begun : State) → holds_to (at_word p column) condition s begun
      → (count : ℕ) (u : State) → acts_to (at_word p column) action count begun u
      → (j : Job) → Describes p.scope w b [] u (idle j)
      → j.tasks ≡ NextArgument action count ∷ (arguments_from action count ++ ts) → KeepsIn p.scope w b j

  -- a command, and a FOR with the rest of its line, are safe if the walk finds nothing wrong with them and its outcomes are safe
  pub record CommandsAreSafe (p : Spot) (here : LineTree) (n : ℕ) : Type 0 where
    pub one : (may : Bool) (c : CommandTree) → IsOf p.scope may c → (ts : List Task) (s : State) → KeepsBetween p c ts s
        → IsClean (one_command p (alone s) c) → AreSafe p may n ts (one_command p (alone s) c) → IsSafe p n (command_parts here.1 c ++ ts) s
    pub loop : (may : Bool) (column index : ℕ) (control : Option ControlTree) (rest : CommandTrees)
        → AreOf p.scope may (then_for column index control rest)
        → (ts : List Task) → AreOnLine w p here (then_for column index control rest) ts
        → (s : State) → IsClean (commands p (then_for column index control rest) (alone s))
        → AreSafe p false n ts (commands p (then_for column index control rest) (alone s)) → IsSafe p n (for_parts control rest here ∷ ts) s
