use Rattle.std.proofs.Common.{Bool, ap, inl, map, refl, subst, sym, ◌∙◌}
use Rattle.mlk_cli.specs.declared.words.ReportStyle.{ReportStyle}
use Rattle.mlk_syntax.specs.Views.{routine_of}
use Rattle.mlk_pool.proofs.PassedOn.{passed-on}
use Rattle.mlk_outcome.specs.Refusals.{no_memory}
use Rattle.mlk_outcome.specs.Replaying.{IsReplayed, IsUnreplayed}
use Rattle.mlk_app.specs.Ran.{style_in}
use Rattle.mlk_app.proofs.work.print_jobs.Goals as goal

pub returns-in_err-texts-clause-refused : goal.returns-in_err-texts-clause-refused
returns-in_err-texts-clause-refused c =
    passed-on (IsUnreplayed (map routine_of c.args.subject.now.program.now) c.args.subject.now.rules.now c.args.events.now)
    c.from_residual.result no_memory c.from_residual.ensures.1 (inl (inl refl))

pub returns-in_err-text-clause-refused : goal.returns-in_err-text-clause-refused
returns-in_err-text-clause-refused c =
    passed-on (IsUnreplayed (map routine_of c.args.subject.now.program.now) c.args.subject.now.rules.now c.args.events.now)
    c.from_residual-in_err-text.result c.in_err-text.field-0.0 c.from_residual-in_err-text.ensures.1 c.in_err-text.ensures.refused

pub returns-clause-ok : goal.returns-clause-ok
returns-clause-ok c =
    let subject = c.args.subject.now in
    let trees = map routine_of subject.program.now in
    let rules = subject.rules.now in
    let events = c.args.events.now in
    let flag = c.showing_of-showing.ensures ∙ ap (λ (style : ReportStyle). style.is_explained) c.style_in.ensures in
    let shown = subst (λ (b : Bool). IsReplayed b trees rules events c.in_ok-text.text.items) flag c.in_ok-text.ensures.ok in
    (subst (IsReplayed (style_in subject.request.now.asked).is_explained trees rules events) (sym c.of.ensures) shown, refl)
