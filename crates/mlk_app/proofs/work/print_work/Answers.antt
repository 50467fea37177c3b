use Rattle.std.proofs.Common.{◌≡◌, List, ℕ, map, subst}
use Rattle.std.specs.Prelude.{IfOk, IfErr}
use Rattle.mlk_syntax.specs.Views.{routine_of}
use Rattle.mlk_pool.specs.Headline.{RefusesByText}
use Rattle.mlk_outcome.specs.declared.refusal.NoReport.TheVariants as refusal
use Rattle.mlk_outcome.specs.Replaying.{IsReplayed, IsUnreplayed}
use Rattle.mlk_app.specs.Printing.{asked_of}
use Rattle.mlk_app.specs.Ran.{IsReportByText, style_in}
use Rattle.mlk_app.proofs.work.print_work.Goals as goal

pub returns-in-Check-clause-ok : goal.returns-in-Check-clause-ok
returns-in-Check-clause-ok g c =
    let subject = c.args.subject.now in
    rw c.in-Check.is (subst (λ (text : List ℕ). IfOk c.print_check.result (λ p. IsReportByText (asked_of subject) (map routine_of subject.program.now) subject.rules.now text p.text p.status))
    c.as_slice.ensures.value c.print_check.ensures.ok)

pub returns-in-Check-clause-refused : goal.returns-in-Check-clause-refused
returns-in-Check-clause-refused g c =
    let subject = c.args.subject.now in
    rw c.in-Check.is (subst (λ (text : List ℕ). IfErr c.print_check.result (RefusesByText refusal.Check (Unit {0}) c.in-Check.workers text (map routine_of subject.program.now) subject.rules.now))
    c.as_slice.ensures.value c.print_check.ensures.refused)

pub returns-in-Verify-clause-ok : goal.returns-in-Verify-clause-ok
returns-in-Verify-clause-ok g c = rw c.in-Verify.is c.print_verification.ensures.ok

pub returns-in-Verify-clause-refused : goal.returns-in-Verify-clause-refused
returns-in-Verify-clause-refused g c = rw c.in-Verify.is c.print_verification.ensures.refused

pub returns-in-Make-clause-ok : goal.returns-in-Make-clause-ok
returns-in-Make-clause-ok g c = rw c.in-Make.is c.print_certificate.ensures.ok

pub returns-in-Make-clause-refused : goal.returns-in-Make-clause-refused
returns-in-Make-clause-refused g c = rw c.in-Make.is c.print_certificate.ensures.refused

pub returns-in-Replay-clause-ok : goal.returns-in-Replay-clause-ok
returns-in-Replay-clause-ok g c =
    let subject = c.args.subject.now in
    rw c.in-Replay.is (subst (λ (events : List ℕ). IfOk c.print_jobs.result (λ p. IsReplayed (style_in subject.request.now.asked).is_explained (map routine_of subject.program.now) subject.rules.now events p.text × (p.status ≡ 0)))
    c.as_slice-in-Replay.ensures.value c.print_jobs.ensures.ok)

pub returns-in-Replay-clause-refused : goal.returns-in-Replay-clause-refused
returns-in-Replay-clause-refused g c =
    let subject = c.args.subject.now in
    rw c.in-Replay.is (subst (λ (events : List ℕ). IfErr c.print_jobs.result (IsUnreplayed (map routine_of subject.program.now) subject.rules.now events))
    c.as_slice-in-Replay.ensures.value c.print_jobs.ensures.refused)
