use Rattle.std.proofs.Common.{◌<◌, length, sym, arith}
use Rattle.std.proofs.lemmas.Result.{err_from_is_err_and}
use Rattle.mlk_text.specs.Lexemes.{byte_at}
use Rattle.mlk_text.proofs.Readers.{many_stops, many_goes}
use Rattle.mlk_cert_lexemes.specs.Reading.{constant_at, next}
use Rattle.mlk_cert_lexemes.proofs.Room.{many_refused, byte-shorter}
use Rattle.mlk_machine.proofs.LineLemmas.{constant-leaves}
use Rattle.mlk_machine.proofs.line.values.Goals as goal

pub returns-in_err-value : goal.returns-in_err-value
returns-in_err-value c =
    let p = err_from_is_err_and c.from_residual.result c.from_residual.ensures.1 in
    rw (p.1, p.2) (many_refused (byte_at 32) (next constant_at) c.loop-after.found.items c.loop-after.invariant.0
    c.loop-after.rest.now _ 32 c.in-Some.after.now c.in_err-value.field-0.0 (sym c.in-Some.ensures) c.in_err-value.ensures
    c.loop-after.invariant.1 c.loop-after.invariant.2)

pub loop-after-smaller : goal.loop-after-smaller
loop-after-smaller c =
    let near = byte-shorter 32 32 c.loop-after.rest.now c.in-Some.after.now (sym c.in-Some.ensures) in
    let far = constant-leaves c.in_ok-value.value c.in-Some.after.now c.in_ok-value.after.now c.in_ok-value.ensures in
    let shorter : length c.in_ok-value.after.now < length c.loop-after.rest.now = omega arith in shorter

pub loop-after-preserved : goal.loop-after-preserved
loop-after-preserved c =
    let near = byte-shorter 32 32 c.loop-after.rest.now c.in-Some.after.now (sym c.in-Some.ensures) in
    let far = constant-leaves c.in_ok-value.value c.in-Some.after.now c.in_ok-value.after.now c.in_ok-value.ensures in
    let shorter : length c.in_ok-value.after.now < length c.loop-after.rest.now = omega arith in
    rw c.in_ok-push.ensures.items
    (many_goes (byte_at 32) (next constant_at) c.loop-after.found.items c.loop-after.invariant.0 c.loop-after.rest.now _ 32
    c.in-Some.after.now c.in_ok-value.value c.in_ok-value.after.now (sym c.in-Some.ensures) c.in_ok-value.ensures shorter
    c.loop-after.invariant.1 c.loop-after.invariant.2)

pub returns : goal.returns
returns c =
    many_stops (byte_at 32) (next constant_at) c.loop-after.found.items c.loop-after.invariant.0 c.loop-after.rest.now _
    (sym c.in_default.ensures) c.loop-after.invariant.1 c.loop-after.invariant.2
