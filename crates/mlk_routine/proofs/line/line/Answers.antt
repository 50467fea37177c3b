use Rattle.std.proofs.Common.{◌<◌, ◌≤◌, ◌∙◌, length, sym, ap, subst, refl, add-one, arith}
use Rattle.std.specs.Prelude.{is_some}
use Rattle.mlk_text.specs.Places.{column_at}
use Rattle.mlk_syntax.specs.declared.routine.Line.{Line}
use Rattle.mlk_syntax.specs.declared.routine.Line.TheOpen.{Line-F}
use Rattle.std.proofs.lemmas.Result.{err_from_is_err_and}
use Rattle.mlk_routine.specs.RoutineGrammar.{is_line_byte}
use Rattle.mlk_syntax.specs.Views.{commands_of}
use Rattle.mlk_routine.specs.Lines.{IsLineOnly, IsMisplaced}
use Rattle.mlk_routine.proofs.Tails.{all_good, one_bad}
use Rattle.mlk_routine.proofs.Heads.{head_made, line_only, refused_front, refused_tail, refused_place, refused_byte}
use Rattle.mlk_routine.proofs.line.line.Goals as goal

pub returns-in_err-front-clause-refused : goal.returns-in_err-front-clause-refused
returns-in_err-front-clause-refused c =
    let p = err_from_is_err_and c.from_residual.result c.from_residual.ensures.1 in
    rw (p.1, p.2) (refused_front c.args.dialect c.args.before.now c.args.number c.args.text.now c.in_err-front.field-0.0 c.in_err-front.ensures)

pub returns-in-Some-clause-refused : goal.returns-in-Some-clause-refused
returns-in-Some-clause-refused c =
    let known = subst IsMisplaced c.in-Some.is c.misplacement.ensures.code in
    refused_place c.args.dialect c.args.before.now c.args.number c.args.text.now c.in_ok-front.front c.in_ok-front.start c.in_ok-front.ensures c.refusal_at.result (c.refusal_at.ensures.fault c.args.text.now (omega arith) known.0 known.1) (c.misplacement.ensures.some (ap is_some c.in-Some.is))

pub returns-in_err-commands-clause-refused : goal.returns-in_err-commands-clause-refused
returns-in_err-commands-clause-refused c =
    let p = err_from_is_err_and c.from_residual-in_err-commands.result c.from_residual-in_err-commands.ensures.1 in
    rw (p.1, p.2) (refused_tail c.args.dialect c.args.before.now c.args.number c.args.text.now c.in_ok-front.front c.in_ok-front.start c.in_ok-front.ensures c.in_err-commands.field-0.0 c.in_err-commands.ensures)

pub returns-then-plain-text-clause-refused : goal.returns-then-plain-text-clause-refused
returns-then-plain-text-clause-refused c =
    let bytes = c.args.text.now in
    rw c.drop_and_return.ensures
    (refused_byte c.args.dialect c.args.before.now c.args.number bytes c.refusal_at-then-plain-text.result (c.refusal_at-then-plain-text.ensures.fault bytes c.line_bytes-plain.ensures.within refl refl)
    (one_bad is_line_byte bytes (subst (λ n. n < length bytes) c.line_bytes-plain.ensures.value c.if-plain-text.true)))

pub returns-clause-line : goal.returns-clause-line
returns-clause-line c =
    let f = c.in_ok-front.front in
    let text = c.args.text.now in
    let x : Line-F Line = record { number = c.args.number; level = c.unwrap_or-level.result; end = c.at.result; label = c.in_ok-label.label; formals = c.in_ok-formals.formals; commands = c.in_ok-commands.commands; block = c.new.result } in
    let made = head_made x c.args.number text f (commands_of c.in_ok-commands.commands) refl c.unwrap_or-level.ensures (c.at.ensures ∙ ap column_at (add-one (length text))) c.in_ok-label.ensures c.in_ok-formals.ensures refl in
    subst (IsLineOnly c.args.dialect c.args.number text) (sym made)
    (line_only c.args.dialect text f c.in_ok-front.start c.in_ok-front.ensures (commands_of c.in_ok-commands.commands) c.in_ok-commands.ensures c.args.number (c.in_default.ensures.none refl))

pub returns-clause-plain : goal.returns-clause-plain
returns-clause-plain c =
    let bytes = c.args.text.now in
    all_good is_line_byte bytes (subst (λ n. length bytes ≤ n) c.line_bytes-plain.ensures.value c.if-plain-text.false)
