use Rattle.std.proofs.Common.{rules, ◌≡◌, ◌≢◌, ◌+◌, ◌∷◌, ◌++◌, [], None, subst, map, refl}
use Rattle.std.specs.Prelude.{min}
use Rattle.std.proofs.lemmas.List.{map-append}
use Rattle.mlk_text.specs.declared.failure.Failure.{Failure}
use Rattle.mlk_text.specs.declared.spelling.NotThere.{NotThere}
use Rattle.mlk_text.specs.Failures.{FailsOn}
use Rattle.mlk_syntax.specs.Views.{routine_of}
use Rattle.mlk_machine.specs.InstructionViews.{asked_of, asked_at}
use Rattle.mlk_machine.proofs.FileLemmas.{asked-shorter, read_more, no_event}
use Rattle.mlk_machine.proofs.reading.read_events.Goals as goal

pub loop-rest-smaller : goal.loop-rest-smaller
loop-rest-smaller c =
    asked-shorter (map routine_of c.args.program.now) c.loop-rest.rest.now c.in-Ok.after.now (asked_of c.in-Ok.asked) c.in-Ok.ensures

pub loop-rest-preserved : goal.loop-rest-preserved
loop-rest-preserved c =
    let next : c.saturating_add-number.result ≡ min (c.loop-rest.number + 1) 4294967295 = search rules in
    let more : map asked_of (c.loop-rest.found.items ++ c.in-Ok.asked ∷ []) ≡ map asked_of c.loop-rest.found.items ++ asked_of c.in-Ok.asked ∷ [] =
    map-append asked_of c.loop-rest.found.items (c.in-Ok.asked ∷ []) in
    rw (c.in_ok-push-in-Ok.ensures.items, more)
    (read_more (map routine_of c.args.program.now) c.args.bytes.now c.loop-rest.rest.now c.in-Ok.after.now
    (map asked_of c.loop-rest.found.items) c.loop-rest.number _ (asked_of c.in-Ok.asked) c.loop-rest.invariant c.in-Ok.ensures next)

pub returns-in-Err-Refused-clause-refused : goal.returns-in-Err-Refused-clause-refused
returns-in-Err-Refused-clause-refused c =
    let some : c.loop-rest.rest.now ≢ [] = search rules in
    let none : asked_at (map routine_of c.args.program.now) c.loop-rest.rest.now ≡ None =
    subst (λ (e : Failure NotThere). FailsOn e (asked_at (map routine_of c.args.program.now) c.loop-rest.rest.now))
    c.in-Err-Refused.field-0-is c.in-Err-Refused.ensures in (
      refl,
      rw c.new-line.ensures
          (no_event (map routine_of c.args.program.now) c.args.bytes.now c.loop-rest.rest.now (map asked_of c.loop-rest.found.items)
          c.loop-rest.number c.loop-rest.invariant some none),
    )
