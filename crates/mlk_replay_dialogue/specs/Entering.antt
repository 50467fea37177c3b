-- What a person enters, and what comes of it. This project's own.
use Rattle.std.specs.Prelude.{List, Ok}
use Rattle.mlk_syntax.specs.declared.routine.Routine.{Routine}
use Rattle.mlk_program.specs.declared.entry.EntryId.{EntryId}
use Rattle.mlk_machine.specs.Files.{ReplayedFile}
use Rattle.mlk_replay_dialogue.specs.declared.dialogue.Entered.{Entered}

-- The jobs are those after all lines of the events.
abbrev pub AreReplayed : List Routine → List EntryId → Entered → Type 0
AreReplayed routines entries e = ReplayedFile routines entries e.events.items (Ok e.system)
