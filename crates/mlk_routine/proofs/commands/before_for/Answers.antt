use Rattle.std.proofs.Common.{map, ◌∙◌, ◌++◌, ◌∷◌, [], sym, ap, subst}
use Rattle.std.proofs.lemmas.List.{map-append}
use Rattle.std.proofs.lemmas.Result.{err_from_is_err_and}
use Rattle.mlk_routine_arguments.specs.PartsRead.{Found, Denied}
use Rattle.mlk_routine_arguments.specs.Ends.{CommandEnd}
use Rattle.mlk_syntax.specs.Views.{command_of}
use Rattle.mlk_routine_arguments.specs.CommandGrammar.{IsCommand}
use Rattle.mlk_routine.specs.Leading.{LeadsTo}
use Rattle.mlk_routine.proofs.Looping.{leads_more, leads_denied, leads_on}
use Rattle.mlk_routine.proofs.commands.before_for.Goals as goal

pub returns-in_err-read : goal.returns-in_err-read
returns-in_err-read c =
    let p = err_from_is_err_and c.from_residual.result c.from_residual.ensures.1 in
    rw (p.1, p.2)
    (leads_denied c.args.inside.dialect c.args.inside.level c.args.inside.loops c.args.line.now c.args.at c.loop-alloc.next (map command_of c.loop-alloc.before.items) c.loop-alloc.invariant (sym c.is_commands_end.ensures ∙ c.loop-alloc-test.true) (sym c.is_for_here.ensures ∙ c.if-not-is_for_here.true)
    c.in_err-read.field-0.0 (subst (λ m. Denied (IsCommand m.dialect m.returns) CommandEnd c.args.line.now c.loop-alloc.next c.in_err-read.field-0.0) c.manner.ensures c.in_err-read.ensures))

pub loop-alloc-smaller : goal.loop-alloc-smaller
loop-alloc-smaller c =
    leads_on c.args.inside.dialect c.args.inside.level c.args.inside.loops c.args.line.now c.args.at c.loop-alloc.next (map command_of c.loop-alloc.before.items) c.loop-alloc.invariant (sym c.is_commands_end.ensures ∙ c.loop-alloc-test.true) (sym c.is_for_here.ensures ∙ c.if-not-is_for_here.true)
    (command_of c.in_ok-read.read) c.in_ok-read.end c.past_spaces-next.result (subst (λ m. Found (IsCommand m.dialect m.returns) CommandEnd c.args.line.now c.loop-alloc.next (command_of c.in_ok-read.read) c.in_ok-read.end) c.manner.ensures c.in_ok-read.ensures) c.past_spaces-next.ensures

pub loop-alloc-preserved : goal.loop-alloc-preserved
loop-alloc-preserved c =
    let e = ap (map command_of) (c.push_reserved.ensures.items ∙ ap (λ l. l ++ c.in_ok-read.read ∷ []) c.in-Ok.ensures.same) ∙ map-append command_of c.loop-alloc.before.items (c.in_ok-read.read ∷ []) in
    subst (λ l. LeadsTo c.args.inside.dialect c.args.inside.level c.args.inside.loops c.args.line.now c.args.at l c.past_spaces-next.result) (sym e)
    (leads_more c.args.inside.dialect c.args.inside.level c.args.inside.loops c.args.line.now c.args.at c.loop-alloc.next (map command_of c.loop-alloc.before.items) c.loop-alloc.invariant (sym c.is_commands_end.ensures ∙ c.loop-alloc-test.true) (sym c.is_for_here.ensures ∙ c.if-not-is_for_here.true)
    (command_of c.in_ok-read.read) c.in_ok-read.end c.past_spaces-next.result (subst (λ m. Found (IsCommand m.dialect m.returns) CommandEnd c.args.line.now c.loop-alloc.next (command_of c.in_ok-read.read) c.in_ok-read.end) c.manner.ensures c.in_ok-read.ensures) c.past_spaces-next.ensures)
