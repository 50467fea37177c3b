use Rattle.std.proofs.Common.{ℕ, List, Ok, subst}
use Rattle.mlk_machine.specs.Files.{ReplayedFile}
use Rattle.mlk_replay_dialogue.proofs.dialogue.follow.Goals as goal

pub returns-in-Ok : goal.returns-in-Ok
returns-in-Ok c =
    subst (λ (bytes : List ℕ). ReplayedFile c.args.program.now c.args.entries.now bytes (Ok c.in-Ok.system)) c.as_slice.ensures.value c.in-Ok.ensures
