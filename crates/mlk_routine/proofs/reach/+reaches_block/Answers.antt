use Rattle.std.proofs.Common.{◌≡◌, true, false, sym, ap, ◌∙◌, refl}
use Rattle.std.specs.List.{list_any}
use Rattle.mlk_syntax.specs.declared.command.Commands.TheViews.{out-For}
use Rattle.mlk_routine_arguments.specs.CommandWords.{reaches_block}
use Rattle.mlk_syntax.specs.Views.{commands_of, command_of}
use Rattle.mlk_routine.specs.Lines.{is_block}
use Rattle.mlk_routine.proofs.Reaching.{has_block, reaches_here, reaches_none, reaches_some}
use Rattle.mlk_routine.proofs.reach.+reaches_block.Goals as goal

pub returns-then-has_block : goal.returns-then-has_block
returns-then-has_block t c =
    let here : has_block c.args.commands.now ≡ true = ap (λ l. list_any (λ d. is_block (command_of d)) l) (sym c.deref.ensures.value) ∙ sym c.has_block.ensures ∙ c.if-has_block.true in
    sym (reaches_here c.args.commands.now here)

pub returns-in-Some : goal.returns-in-Some
returns-in-Some t c =
    let none : has_block c.args.commands.now ≡ false = ap (λ l. list_any (λ d. is_block (command_of d)) l) (sym c.deref.ensures.value) ∙ sym c.has_block.ensures ∙ c.if-has_block.false in
    let rest = ap (λ f. reaches_block (commands_of (out-For f).rest)) c.deref-in-Some.ensures in
    c.reaches_block.ensures ∙ rest ∙ sym (reaches_some c.args.commands.now c.in-Some.last c.in-Some.is ∙ rw none refl)

pub returns-in-None : goal.returns-in-None
returns-in-None t c =
    let none : has_block c.args.commands.now ≡ false = ap (λ l. list_any (λ d. is_block (command_of d)) l) (sym c.deref.ensures.value) ∙ sym c.has_block.ensures ∙ c.if-has_block.false in
    sym (reaches_none c.args.commands.now c.in-None.is ∙ none)
