use Rattle.std.proofs.Common.{◌≡◌, ◌∙◌, ◌+◌, ℕ, suc, map, Ok, Err, sym, ap, subst, arith}
use Rattle.mlk_machine_locks.specs.declared.refusal.Refusal.TheVariants.{NotEnabled}
use Rattle.mlk_syntax.specs.Views.{routine_of}
use Rattle.mlk_machine_jobs.specs.JobViews.{job_of}
use Rattle.mlk_machine_jobs.specs.Tasks.{Job}
use Rattle.mlk_machine_jobs.specs.Seen.{state, silent_step, settled}
use Rattle.mlk_machine_run.specs.Silent.{if_made}
use Rattle.mlk_machine.proofs.SettleLemmas.{none_made, one_more, no_more}
use Rattle.mlk_machine.proofs.settling.settle.Goals as goal

pub loop-count-init : goal.loop-count-init
loop-count-init c = (none_made (map routine_of c.args.program.now) (job_of c.args.job.now), omega arith, c.requires, λ n h. h)

pub returns-then-not-made-clause-settled : goal.returns-then-not-made-clause-settled
returns-then-not-made-clause-settled c =
    let routines = map routine_of c.args.program.now in
    let now : Job = job_of c.loop-count.job in
    let stays : job_of c.silent_step.new.job ≡ now = c.in_ok-made.ensures.rests c.if-not-made.true in
    let rests : silent_step routines now (state routines now) ≡ Err NotEnabled =
    c.in_ok-made.ensures.made ∙ ap (λ b. if_made b (job_of c.silent_step.new.job)) c.if-not-made.true in
    no_more routines c.loop-count.count 65536 (job_of c.args.job.now) now NotEnabled c.loop-count.invariant.0 rests
    c.loop-count.invariant.1
    ∙ ap (λ (j : Job). (j, c.loop-count.count)) (sym stays)

pub loop-count-preserved : goal.loop-count-preserved
loop-count-preserved c =
    let routines = map routine_of c.args.program.now in
    let now : Job = job_of c.loop-count.job in
    let next : Job = job_of c.silent_step.new.job in
    let goes : silent_step routines now (state routines now) ≡ Ok next =
    c.in_ok-made.ensures.made ∙ ap (λ b. if_made b next) c.if-not-made.false in
    let more : suc c.loop-count.count ≡ c.loop-count.count + 1 = omega arith in
    let P : ℕ → Type 0 = λ n. settled routines n (job_of c.args.job.now) ≡ (next, n) in (
      subst P more (one_more routines c.loop-count.count (job_of c.args.job.now) now next c.loop-count.invariant.0 goes),
      omega (arith, c.loop-count-test.true),
      c.silent_step.ensures.sound,
      λ n h. c.loop-count.invariant.3 n (c.silent_step.ensures.held n h),
    )

pub returns-then-not-made-clause-held : goal.returns-then-not-made-clause-held
returns-then-not-made-clause-held c = λ n h. c.loop-count.invariant.3 n (c.silent_step.ensures.held n h)
