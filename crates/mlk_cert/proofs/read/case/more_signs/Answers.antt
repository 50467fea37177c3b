use Rattle.std.proofs.Common.{refl, sym}
use Rattle.mlk_text.proofs.Readers.{many_stops, many_goes}
use Rattle.mlk_cert_lexemes.specs.Reading.{keep}
use Rattle.mlk_cert_parts.specs.Reading.{sign_at}
use Rattle.mlk_cert_parts.proofs.Room.{sign-shorter}
use Rattle.mlk_cert.proofs.read.case.more_signs.Goals as goal

pub loop-test-smaller : goal.loop-test-smaller
loop-test-smaller c = sign-shorter c.in-Some.test c.loop-test.rest.now c.in-Some.after.now (sym c.in-Some.ensures)

pub loop-test-preserved : goal.loop-test-preserved
loop-test-preserved c = rw c.in_ok-push-2.ensures.items
    (many_goes sign_at keep c.loop-test.found.items c.loop-test.invariant.0 c.loop-test.rest.now _ c.in-Some.test c.in-Some.after.now c.in-Some.test c.in-Some.after.now
    (sym c.in-Some.ensures) refl (sign-shorter c.in-Some.test c.loop-test.rest.now c.in-Some.after.now (sym c.in-Some.ensures)) c.loop-test.invariant.1 c.loop-test.invariant.2)

pub returns : goal.returns
returns c = many_stops sign_at keep c.loop-test.found.items c.loop-test.invariant.0 c.loop-test.rest.now _ (sym c.in_default.ensures) c.loop-test.invariant.1 c.loop-test.invariant.2
