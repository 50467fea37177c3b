-- The next line, and the next command.
use Rattle.std.proofs.Common.{◌≡◌, List, [], ◌∷◌, ◌++◌, true, false, Some, None, Ok, Err, refl, sym, append_assoc}
use Rattle.std.specs.Prelude.{is_some}
use Rattle.std.proofs.lemmas.Bool.{false≢true}
use Rattle.mlk_machine_locks.specs.declared.refusal.Refusal.TheVariants.{NotEnabled}
use Rattle.mlk_syntax.specs.Trees.{CommandTrees, finished, then_command, then_for, LineHead}
use Rattle.mlk_program.specs.Entries.{formals_of}
use Rattle.mlk_machine_jobs.specs.Tasks.{Task, Job, LineTree, RunCommands, RunLines}
use Rattle.mlk_machine_jobs.specs.Choices.{doing}
use Rattle.mlk_machine_jobs.specs.Lines.{next_line, next_command, command_parts}
use Rattle.mlk_machine_jobs.specs.Calling.{commands_in}

pub command_then : (cs : CommandTrees) (here : LineTree) (ts : List Task)
    → next_command cs here ts ≡ next_command cs here [] ++ ts
command_then finished here ts = refl
command_then (then_command first rest) here ts =
    sym (append_assoc (command_parts here.1 first) (RunCommands rest here ∷ []) ts)
command_then (then_for column index control rest) here ts = refl

pub line_entered : (l : LineTree) (lines : List LineTree) (ts : List Task) (j : Job) → is_some (formals_of l.0) ≡ false
    → next_line (l ∷ lines) ts j ≡ Ok (doing (RunCommands (commands_in l.0) l ∷ RunLines lines ∷ ts) j)
line_entered (LineHead n level end label None commands, block) lines ts j h = refl
line_entered (LineHead n level end label (Some formals) commands, block) lines ts j h = absurd (false≢true (sym h))

pub line_refused : (l : LineTree) (lines : List LineTree) (ts : List Task) (j : Job) → is_some (formals_of l.0) ≡ true
    → next_line (l ∷ lines) ts j ≡ Err NotEnabled
line_refused (LineHead n level end label None commands, block) lines ts j h = absurd (false≢true h)
line_refused (LineHead n level end label (Some formals) commands, block) lines ts j h = refl
