use Rattle.std.proofs.Common.{sym, ◌∙◌, subst, refl}
use Rattle.mlk_expr.specs.Grammar.{IsLabelText}
use Rattle.mlk_expr.specs.Theorem.{LabelEnds, Refuses, Faults}
use Rattle.mlk_routine.specs.Lines.{IsLabelPart, LabelPartEnds}
use Rattle.mlk_routine_arguments.proofs.Sequences.{turned_found, turned_nowhere}
use Rattle.mlk_routine_arguments.proofs.Outcomes.{denies}
use Rattle.mlk_routine_arguments.proofs.LineFaults.{expr_fault}
use Rattle.mlk_expr.specs.declared.context.Passing.TheVariants.{ByReference}
use Rattle.mlk_routine.proofs.Labels.{a_label}
use Rattle.mlk_routine.proofs.label.label.Goals as goal

pub returns-in-Ok : goal.returns-in-Ok
returns-in-Ok c = turned_found (a_label c.args.line.now (sym c.starts_label.ensures ∙ c.if-not-starts_label.false)) c.in-Ok.label c.in-Ok.next (c.in-Ok.ensures.found, c.in-Ok.ensures.only)

pub returns-in-Err-Refused : goal.returns-in-Err-Refused
returns-in-Err-Refused c =
    denies IsLabelPart LabelPartEnds c.args.line.now 0 c.other_form.result (c.other_form.ensures.fault c.args.line.now refl refl (expr_fault ByReference c.args.line.now 0 c.in-Err-Refused.fault (subst (λ e. Faults ByReference c.args.line.now 0 e) c.in-Err-Refused.field-0-is c.in-Err-Refused.ensures.fault)))
    (turned_nowhere (a_label c.args.line.now (sym c.starts_label.ensures ∙ c.if-not-starts_label.false)) (subst (λ e. Refuses IsLabelText LabelEnds c.args.line.now 0 e) c.in-Err-Refused.field-0-is c.in-Err-Refused.ensures.refused))
