use Rattle.std.proofs.Common.{◌≡◌, ◌++◌, ◌∷◌, [], length, codes, Some, true, sym, ap, ◌∙◌, arith}
use Rattle.std.specs.Prelude.{option_map}
use Rattle.std.proofs.lemmas.Result.{err_from_is_err_and}
use Rattle.mlk_text.specs.Failures.{FailsOn}
use Rattle.mlk_text.proofs.Readers.{many_goes}
use Rattle.mlk_cert_lexemes.specs.Lists.{last_of}
use Rattle.mlk_cert_parts.specs.Texts.{exit_text}
use Rattle.mlk_cert_parts.specs.Checks.{fits_exit, fit_exits}
use Rattle.mlk_cert_lexemes.specs.Reading.{word_at}
use Rattle.mlk_cert_parts.specs.Reading.{exit_at}
use Rattle.mlk_cert.specs.Blocks.{rest_at, worded_at, after_at, next_exit_fits, exits_at}
use Rattle.mlk_cert_lexemes.proofs.Formats.{Anything}
use Rattle.mlk_cert.proofs.BlockFormats.{exit-rest}
use Rattle.mlk_cert.proofs.Goods.{GoodExit}
use Rattle.mlk_cert.proofs.Loops.{checked_stops, checked_refused, exits-closed, exits-step, after-some, line-shorter, last-push}
use Rattle.mlk_cert.proofs.read.line.exits.Goals as goal

pub returns-in_err-item : goal.returns-in_err-item
unfolding exits_at worded_at
returns-in_err-item c =
    let p = err_from_is_err_and c.from_residual.result c.from_residual.ensures.1 in
    let front = c.loop-after.found.items in
    let count : c.len.result ≡ length front = omega (arith, c.len.ensures, c.loop-after.found.ok.0) in
    let step = next_exit_fits (length front) (option_map exit_text (last_of front)) in
    let one : FailsOn c.in_err-item.field-0.0 (after_at exit_at fits_exit step c.in-Some.after.now) = rw (sym c.loop-after.invariant.last, sym count) c.in_err-item.ensures.read in
    rw (p.1, p.2)
    (checked_refused fit_exits (word_at (codes "exit ")) exit_at fits_exit step front c.loop-after.invariant.reading.0 c.loop-after.rest.now _ (codes "exit ") c.in-Some.after.now c.in_err-item.field-0.0 exits-closed
    (λ a. exits-step front a c.loop-after.invariant.fits) (sym c.in-Some.ensures) one c.loop-after.invariant.reading.1
    (λ a ys h. line-shorter (λ e. exit_text e ++ 10 ∷ []) GoodExit Anything (rest_at exit_at fits_exit) exit-rest 101 (codes "xit ") (codes "exit ") c.loop-after.rest.now c.in-Some.after.now a ys (sym c.in-Some.ensures) h)
    c.loop-after.invariant.reading.2)

pub loop-after-smaller : goal.loop-after-smaller
loop-after-smaller c =
    let s = after-some exit_at fits_exit _ c.in-Some.after.now c.in_ok-item.item c.in_ok-item.after.now c.in_ok-item.ensures.read in
    line-shorter (λ e. exit_text e ++ 10 ∷ []) GoodExit Anything (rest_at exit_at fits_exit) exit-rest 101 (codes "xit ") (codes "exit ") c.loop-after.rest.now c.in-Some.after.now c.in_ok-item.item c.in_ok-item.after.now (sym c.in-Some.ensures) s.0

pub loop-after-preserved : goal.loop-after-preserved
loop-after-preserved c =
    let front = c.loop-after.found.items in
    let count : c.len.result ≡ length front = omega (arith, c.len.ensures, c.loop-after.found.ok.0) in
    let s = after-some exit_at fits_exit _ c.in-Some.after.now c.in_ok-item.item c.in_ok-item.after.now c.in_ok-item.ensures.read in
    let shorter = line-shorter (λ e. exit_text e ++ 10 ∷ []) GoodExit Anything (rest_at exit_at fits_exit) exit-rest 101 (codes "xit ") (codes "exit ") c.loop-after.rest.now c.in-Some.after.now c.in_ok-item.item c.in_ok-item.after.now (sym c.in-Some.ensures) s.0 in
    let good : next_exit_fits (length front) (option_map exit_text (last_of front)) c.in_ok-item.item ≡ true = rw (sym c.loop-after.invariant.last, sym count) s.1 in
    rw c.in_ok-push.ensures.items (record {
      reading = many_goes (word_at (codes "exit ")) (λ w. rest_at exit_at fits_exit) front c.loop-after.invariant.reading.0 c.loop-after.rest.now _ (codes "exit ") c.in-Some.after.now c.in_ok-item.item c.in_ok-item.after.now
          (sym c.in-Some.ensures) s.0 shorter c.loop-after.invariant.reading.1 c.loop-after.invariant.reading.2;
      fits = exits-step front c.in_ok-item.item c.loop-after.invariant.fits ∙ good;
      last = ap (λ t. Some t) c.in_ok-item.ensures.text ∙ sym (ap (option_map exit_text) (last-push front c.in_ok-item.item));
    })

pub returns : goal.returns
unfolding exits_at worded_at
returns c =
    let whole = checked_stops (word_at (codes "exit ")) (λ w. rest_at exit_at fits_exit) c.loop-after.found.items c.loop-after.invariant.reading.0 c.loop-after.rest.now _ (sym c.in_default.ensures) c.loop-after.invariant.reading.1 c.loop-after.invariant.reading.2 in
    rw whole (rw c.loop-after.invariant.fits (ap (λ z. Some (z, c.loop-after.rest.now)) (sym c.of.ensures)))
