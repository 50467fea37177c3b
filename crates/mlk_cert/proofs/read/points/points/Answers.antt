use Rattle.std.proofs.Common.{◌≡◌, ◌++◌, ◌∷◌, [], List, length, codes, Some, true, sym, ap, ◌∙◌}
use Rattle.std.specs.Prelude.{option_copied, slice_get, ◌-◌}
use Rattle.std.proofs.lemmas.Result.{err_from_is_err_and}
use Rattle.mlk_text.specs.Failures.{FailsOn}
use Rattle.mlk_text.proofs.Readers.{many_goes}
use Rattle.mlk_cert_parts.specs.declared.block.Point.{Point}
use Rattle.mlk_cert_lexemes.specs.Lists.{last_of}
use Rattle.mlk_cert_parts.specs.Texts.{case_text}
use Rattle.mlk_cert_lexemes.specs.Reading.{word_at}
use Rattle.mlk_cert.specs.Blocks.{rest_at, worded_at, after_at, listed_case_at, fits_listed, next_case_fits, last_case_text, points_at}
use Rattle.mlk_cert_lexemes.proofs.Formats.{Anything}
use Rattle.mlk_cert.proofs.Grouping.{listed_text}
use Rattle.mlk_cert.proofs.Goods.{GoodListed}
use Rattle.mlk_cert.proofs.BlockFormats.{listed-rest}
use Rattle.mlk_cert.proofs.Loops.{checked_stops, checked_refused, after-some, line-shorter}
use Rattle.mlk_cert.proofs.PointLoops.{fit_lines, lines-closed, lines-step, points-step, grouped-push, added-text, last-got, points-refused}
use Rattle.mlk_cert.proofs.read.points.points.Goals as goal

pub returns-in_err-listed : goal.returns-in_err-listed
unfolding points_at worded_at
returns-in_err-listed c =
    let p = err_from_is_err_and c.from_residual.result c.from_residual.ensures.1 in
    let points = c.loop-after.found.items in
    let got : option_copied c.last.result ≡ last_of points = c.last.ensures.value ∙ ap (λ (z : List Point). slice_get z (length z - 1)) c.as_slice.ensures.value ∙ last-got points in
    let one : FailsOn c.in_err-listed.field-0.0 (after_at listed_case_at fits_listed (λ l. next_case_fits (last_of points) (last_case_text points) l.0 l.1 (case_text l.2)) c.in-Some.after.now) = rw (sym c.loop-after.invariant.last, sym got) c.in_err-listed.ensures.read in
    rw (p.1, p.2)
    (points-refused (worded_at (codes "at ") (rest_at listed_case_at fits_listed) c.args.bytes.now) c.in_err-listed.field-0.0
    (checked_refused fit_lines (word_at (codes "at ")) listed_case_at fits_listed (λ l. next_case_fits (last_of points) (last_case_text points) l.0 l.1 (case_text l.2)) c.loop-after.invariant.reading.1 c.loop-after.invariant.reading.0 c.loop-after.rest.now _ (codes "at ") c.in-Some.after.now c.in_err-listed.field-0.0 lines-closed
    (λ a. lines-step c.loop-after.invariant.reading.1 points a c.loop-after.invariant.reading.3 c.loop-after.invariant.fits) (sym c.in-Some.ensures) one c.loop-after.invariant.reading.2
    (λ a ys h. line-shorter (λ l. listed_text l ++ 10 ∷ []) GoodListed Anything (rest_at listed_case_at fits_listed) listed-rest 97 (codes "t ") (codes "at ") c.loop-after.rest.now c.in-Some.after.now a ys (sym c.in-Some.ensures) h)
    c.loop-after.invariant.reading.4))

pub loop-after-smaller : goal.loop-after-smaller
loop-after-smaller c =
    let s = after-some listed_case_at fits_listed _ c.in-Some.after.now c.in_ok-listed.listed c.in_ok-listed.after.now c.in_ok-listed.ensures.read in
    line-shorter (λ l. listed_text l ++ 10 ∷ []) GoodListed Anything (rest_at listed_case_at fits_listed) listed-rest 97 (codes "t ") (codes "at ") c.loop-after.rest.now c.in-Some.after.now c.in_ok-listed.listed c.in_ok-listed.after.now (sym c.in-Some.ensures) s.0

pub loop-after-preserved : goal.loop-after-preserved
loop-after-preserved c =
    let points = c.loop-after.found.items in
    let ls = c.loop-after.invariant.reading.1 in
    let got : option_copied c.last.result ≡ last_of points = c.last.ensures.value ∙ ap (λ (z : List Point). slice_get z (length z - 1)) c.as_slice.ensures.value ∙ last-got points in
    let s = after-some listed_case_at fits_listed _ c.in-Some.after.now c.in_ok-listed.listed c.in_ok-listed.after.now c.in_ok-listed.ensures.read in
    let shorter = line-shorter (λ l. listed_text l ++ 10 ∷ []) GoodListed Anything (rest_at listed_case_at fits_listed) listed-rest 97 (codes "t ") (codes "at ") c.loop-after.rest.now c.in-Some.after.now c.in_ok-listed.listed c.in_ok-listed.after.now (sym c.in-Some.ensures) s.0 in
    let good : next_case_fits (last_of points) (last_case_text points) c.in_ok-listed.listed.0 c.in_ok-listed.listed.1 (case_text c.in_ok-listed.listed.2) ≡ true = rw (sym c.loop-after.invariant.last, sym got) s.1 in
    let next = many_goes (word_at (codes "at ")) (λ w. rest_at listed_case_at fits_listed) ls c.loop-after.invariant.reading.0 c.loop-after.rest.now _ (codes "at ") c.in-Some.after.now c.in_ok-listed.listed c.in_ok-listed.after.now
    (sym c.in-Some.ensures) s.0 shorter c.loop-after.invariant.reading.2 c.loop-after.invariant.reading.4 in
    rw c.in_ok-add.ensures (record {
      reading = (next.0, ls ++ c.in_ok-listed.listed ∷ [], next.1, grouped-push ls points c.in_ok-listed.listed c.loop-after.invariant.reading.3, next.2);
      fits = points-step points c.in_ok-listed.listed c.loop-after.invariant.fits ∙ good;
      last = ap (λ t. Some t) c.in_ok-listed.ensures.text ∙ sym (added-text points c.in_ok-listed.listed);
    })

pub returns : goal.returns
unfolding points_at worded_at
returns c =
    let whole = checked_stops (word_at (codes "at ")) (λ w. rest_at listed_case_at fits_listed) c.loop-after.invariant.reading.1 c.loop-after.invariant.reading.0 c.loop-after.rest.now _ (sym c.in_default.ensures) c.loop-after.invariant.reading.2 c.loop-after.invariant.reading.4 in
    rw whole (rw (sym c.loop-after.invariant.reading.3) (rw c.loop-after.invariant.fits (ap (λ z. Some (z, c.loop-after.rest.now)) (sym c.of.ensures))))
