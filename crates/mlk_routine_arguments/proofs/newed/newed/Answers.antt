use Rattle.std.proofs.Common.{◌≡◌, ◌+◌, take, drop, None, sym, ap, ◌∙◌, subst}
use Rattle.std.specs.List.{prefix_len}
use Rattle.std.proofs.lemmas.Result.{err_from_is_err_and}
use Rattle.mlk_syntax.specs.Views.{new_of}
use Rattle.mlk_routine_arguments.specs.PartsRead.{Found}
use Rattle.mlk_routine_arguments.specs.Ends.{NewedEnds}
use Rattle.mlk_routine_arguments.specs.Traps.{is_new_trap}
use Rattle.mlk_routine_arguments.specs.TrapParts.{is_argument_byte}
use Rattle.mlk_routine_arguments.specs.CommandGrammar.{IsNewed}
use Rattle.mlk_routine_arguments.proofs.Sequences.{turned_found, turned_denied}
use Rattle.mlk_routine_arguments.proofs.News.{argument, trap_newed, local_newed}
use Rattle.mlk_routine_arguments.proofs.newed.newed.Goals as goal

pub returns-then-is_new_trap : goal.returns-then-is_new_trap
returns-then-is_new_trap c =
    let line = c.args.line.now in
    let at = c.args.at in
    let size = c.argument_bytes-size.ensures.value ∙ ap (prefix_len is_argument_byte) c.split_at.ensures.back in
    let text : c.split_at-2.result.0.now ≡ argument line at = c.split_at-2.ensures.front ∙ ap (λ n. take n c.split_at.result.1.now) size ∙ ap (take (prefix_len is_argument_byte (drop at line))) c.split_at.ensures.back in
    let is = ap is_new_trap (sym text) ∙ sym c.is_new_trap.ensures ∙ c.if-is_new_trap.true in
    subst (λ n. Found IsNewed NewedEnds line at None (at + n)) (sym size) (trap_newed line at c.requires is)

pub returns-in_err-one : goal.returns-in_err-one
returns-in_err-one c =
    let line = c.args.line.now in
    let at = c.args.at in
    let size = c.argument_bytes-size.ensures.value ∙ ap (prefix_len is_argument_byte) c.split_at.ensures.back in
    let text : c.split_at-2.result.0.now ≡ argument line at = c.split_at-2.ensures.front ∙ ap (λ n. take n c.split_at.result.1.now) size ∙ ap (take (prefix_len is_argument_byte (drop at line))) c.split_at.ensures.back in
    let other = ap is_new_trap (sym text) ∙ sym c.is_new_trap.ensures ∙ c.if-is_new_trap.false in
    let p = err_from_is_err_and c.from_residual.result c.from_residual.ensures.1 in
    rw (p.1, p.2) (turned_denied (local_newed line at other) c.in_err-one.field-0.0 c.in_err-one.ensures)

pub returns : goal.returns
returns c =
    let line = c.args.line.now in
    let at = c.args.at in
    let size = c.argument_bytes-size.ensures.value ∙ ap (prefix_len is_argument_byte) c.split_at.ensures.back in
    let text : c.split_at-2.result.0.now ≡ argument line at = c.split_at-2.ensures.front ∙ ap (λ n. take n c.split_at.result.1.now) size ∙ ap (take (prefix_len is_argument_byte (drop at line))) c.split_at.ensures.back in
    let other = ap is_new_trap (sym text) ∙ sym c.is_new_trap.ensures ∙ c.if-is_new_trap.false in
    turned_found (local_newed line at other) (new_of c.in_ok-one.one) c.in_ok-one.next c.in_ok-one.ensures
