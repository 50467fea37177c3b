use Rattle.std.proofs.Common.{sym, ◌∙◌, true, refl}
use Rattle.std.specs.Prelude.{is_some}
use Rattle.std.proofs.lemmas.Result.{err_from_is_err_and}
use Rattle.mlk_routine_arguments.specs.Ends.{ControlEnds, StopEnds}
use Rattle.mlk_routine_arguments.specs.Begins.{control_begins}
use Rattle.mlk_syntax.specs.Views.{control_of}
use Rattle.mlk_routine.specs.Leading.{IsPerhapsControl}
use Rattle.mlk_routine_arguments.specs.CommandGrammar.{IsControl}
use Rattle.mlk_routine_arguments.proofs.Outcomes.{denies}
use Rattle.mlk_routine_arguments.proofs.Bytes.{AfterByte, after_found, after_denied}
use Rattle.mlk_routine_arguments.proofs.Sequences.{turned_found, turned_nowhere, turned_denied}
use Rattle.mlk_routine_arguments.proofs.Stopping.{narrowed_found, narrowed_nowhere, narrowed_denied, unspaced}
use Rattle.mlk_routine.proofs.Looping.{no_control_found, control_turned, control_end}
use Rattle.mlk_routine.proofs.commands.optional_control.Goals as goal

pub returns-then-is_bare : goal.returns-then-is_bare
returns-then-is_bare c = no_control_found c.args.line.now c.args.at c.requires (sym c.is_bare.ensures ∙ c.if-is_bare.true)

pub returns-in_err-first : goal.returns-in_err-first
returns-in_err-first c =
    let p = err_from_is_err_and c.from_residual.result c.from_residual.ensures.1 in
    rw (p.1, p.2)
    (turned_denied (control_turned c.args.line.now c.args.at (sym c.is_bare.ensures ∙ c.if-is_bare.false)) c.in_err-first.field-0.0
    (unspaced IsControl control_begins (λ t. StopEnds true) c.args.line.now c.args.at c.in_err-first.field-0.0 c.in_err-first.ensures))

pub returns-in_err-read : goal.returns-in_err-read
returns-in_err-read c =
    let p = err_from_is_err_and c.from_residual-in_err-read.result c.from_residual-in_err-read.ensures.1 in
    rw (p.1, p.2)
    (turned_denied (control_turned c.args.line.now c.args.at (sym c.is_bare.ensures ∙ c.if-is_bare.false)) c.in_err-read.field-0.0
    (narrowed_denied (AfterByte 32 IsControl) ControlEnds (λ t. StopEnds true) c.args.line.now c.args.at control_end c.in_err-read.field-0.0
    (after_denied IsControl ControlEnds c.args.line.now c.args.at 32 c.in_err-read.field-0.0 (rw (sym c.in_ok-first.ensures.0) c.in_err-read.ensures))))

pub returns-then-not-is_command_end : goal.returns-then-not-is_command_end
returns-then-not-is_command_end c =
    denies IsPerhapsControl (λ t. StopEnds (is_some t)) c.args.line.now c.args.at c.refusal_at.result (c.refusal_at.ensures.fault c.args.line.now c.in_ok-read.ensures.0.within refl refl)
    (turned_nowhere (control_turned c.args.line.now c.args.at (sym c.is_bare.ensures ∙ c.if-is_bare.false))
    (narrowed_nowhere (AfterByte 32 IsControl) ControlEnds (λ t. StopEnds true) c.args.line.now c.args.at control_end (control_of c.in_ok-read.read) c.in_ok-read.next
    (after_found IsControl ControlEnds c.args.line.now c.args.at 32 c.in_ok-first.ensures.1 (control_of c.in_ok-read.read) c.in_ok-read.next (rw (sym c.in_ok-first.ensures.0) c.in_ok-read.ensures))
    (λ bad. cc (sym c.if-not-is_command_end.true ∙ c.is_command_end.ensures ∙ bad))))

pub returns : goal.returns
returns c =
    turned_found (control_turned c.args.line.now c.args.at (sym c.is_bare.ensures ∙ c.if-is_bare.false)) (control_of c.in_ok-read.read) c.in_ok-read.next
    (narrowed_found (AfterByte 32 IsControl) ControlEnds (λ t. StopEnds true) c.args.line.now c.args.at control_end (control_of c.in_ok-read.read) c.in_ok-read.next
    (after_found IsControl ControlEnds c.args.line.now c.args.at 32 c.in_ok-first.ensures.1 (control_of c.in_ok-read.read) c.in_ok-read.next (rw (sym c.in_ok-first.ensures.0) c.in_ok-read.ensures))
    (sym c.is_command_end.ensures ∙ c.if-not-is_command_end.false))
