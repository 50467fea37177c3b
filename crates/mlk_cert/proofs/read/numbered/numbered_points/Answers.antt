use Rattle.std.proofs.Common.{◌≡◌, ◌++◌, ◌∷◌, [], List, length, codes, Some, true, sym, ap, ◌∙◌}
use Rattle.std.specs.Prelude.{option_copied, slice_get, ◌-◌}
use Rattle.std.proofs.lemmas.Result.{err_from_is_err_and}
use Rattle.mlk_text.specs.Failures.{FailsOn}
use Rattle.mlk_text.proofs.Readers.{many_goes}
use Rattle.mlk_cert_parts.specs.declared.block.Point.{Point}
use Rattle.mlk_cert_lexemes.specs.Lists.{last_of}
use Rattle.mlk_cert_lexemes.specs.Reading.{word_at}
use Rattle.mlk_cert.specs.Blocks.{rest_at, worded_at, after_at}
use Rattle.mlk_cert.specs.Second.{cases_of_points}
use Rattle.mlk_cert.specs.Named.{texts_by}
use Rattle.mlk_cert.specs.Numbered.{numbered_point_at, fits_numbered_point, next_place_fits, point_by, fit_places, numbered_points_at}
use Rattle.mlk_cert_lexemes.proofs.Formats.{Anything}
use Rattle.mlk_cert.proofs.NumberedFormats.{numbered_point_text, GoodNumberedPoint, numbered-point-rest}
use Rattle.mlk_cert.proofs.Loops.{checked_stops, checked_refused, after-some, line-shorter}
use Rattle.mlk_cert.proofs.PointLoops.{last-got}
use Rattle.mlk_cert.proofs.NumberedLoops.{fit_lines, lines-closed, lines-step, lines-refused, points-push}
use Rattle.mlk_cert.proofs.NamedCases.{point-numbers}
use Rattle.mlk_cert.proofs.read.numbered.numbered_points.Goals as goal

pub returns-in_err-numbered-clause-read : goal.returns-in_err-numbered-clause-read
unfolding numbered_points_at worded_at
returns-in_err-numbered-clause-read c =
    let p = err_from_is_err_and c.from_residual.result c.from_residual.ensures.1 in
    let cases = c.args.cases.now in
    let most = length cases in
    let points = c.loop-after.found.items in
    let got : option_copied c.last.result ≡ last_of points = c.last.ensures.value ∙ ap (λ (z : List Point). slice_get z (length z - 1)) c.as_slice.ensures.value ∙ last-got points in
    let one : FailsOn c.in_err-numbered.field-0.0 (after_at (numbered_point_at most) fits_numbered_point (λ p. next_place_fits (last_of points) p.0 p.1) c.in-Some.after.now) = rw (sym got) c.in_err-numbered.ensures in
    rw (p.1, p.2)
    (lines-refused cases (worded_at (codes "at ") (rest_at (numbered_point_at most) fits_numbered_point) c.args.bytes.now) c.in_err-numbered.field-0.0
    (checked_refused (fit_lines cases) (word_at (codes "at ")) (numbered_point_at most) fits_numbered_point (λ p. next_place_fits (last_of points) p.0 p.1) c.loop-after.invariant.reading.1 c.loop-after.invariant.reading.0 c.loop-after.rest.now _ (codes "at ") c.in-Some.after.now c.in_err-numbered.field-0.0 (lines-closed cases)
    (λ a. lines-step cases c.loop-after.invariant.reading.1 points a c.loop-after.invariant.reading.3 c.loop-after.invariant.fits) (sym c.in-Some.ensures) one c.loop-after.invariant.reading.2
    (λ a ys h. line-shorter (λ p. numbered_point_text p ++ 10 ∷ []) (GoodNumberedPoint most) Anything (rest_at (numbered_point_at most) fits_numbered_point) (numbered-point-rest most) 97 (codes "t ") (codes "at ") c.loop-after.rest.now c.in-Some.after.now a ys (sym c.in-Some.ensures) h)
    c.loop-after.invariant.reading.4))

pub loop-after-smaller : goal.loop-after-smaller
loop-after-smaller c =
    let most = length c.args.cases.now in
    let s = after-some (numbered_point_at most) fits_numbered_point _ c.in-Some.after.now c.in_ok-numbered.numbered c.in_ok-numbered.after.now c.in_ok-numbered.ensures in
    line-shorter (λ p. numbered_point_text p ++ 10 ∷ []) (GoodNumberedPoint most) Anything (rest_at (numbered_point_at most) fits_numbered_point) (numbered-point-rest most) 97 (codes "t ") (codes "at ") c.loop-after.rest.now c.in-Some.after.now c.in_ok-numbered.numbered c.in_ok-numbered.after.now (sym c.in-Some.ensures) s.0

pub loop-after-preserved : goal.loop-after-preserved
loop-after-preserved c =
    let cases = c.args.cases.now in
    let most = length cases in
    let points = c.loop-after.found.items in
    let got : option_copied c.last.result ≡ last_of points = c.last.ensures.value ∙ ap (λ (z : List Point). slice_get z (length z - 1)) c.as_slice.ensures.value ∙ last-got points in
    let ps = c.loop-after.invariant.reading.1 in
    let s = after-some (numbered_point_at most) fits_numbered_point _ c.in-Some.after.now c.in_ok-numbered.numbered c.in_ok-numbered.after.now c.in_ok-numbered.ensures in
    let shorter = line-shorter (λ p. numbered_point_text p ++ 10 ∷ []) (GoodNumberedPoint most) Anything (rest_at (numbered_point_at most) fits_numbered_point) (numbered-point-rest most) 97 (codes "t ") (codes "at ") c.loop-after.rest.now c.in-Some.after.now c.in_ok-numbered.numbered c.in_ok-numbered.after.now (sym c.in-Some.ensures) s.0 in
    let good : next_place_fits (last_of points) c.in_ok-numbered.numbered.0 c.in_ok-numbered.numbered.1 ≡ true = rw (sym got) s.1 in
    let next = many_goes (word_at (codes "at ")) (λ w. rest_at (numbered_point_at most) fits_numbered_point) ps c.loop-after.invariant.reading.0 c.loop-after.rest.now _ (codes "at ") c.in-Some.after.now c.in_ok-numbered.numbered c.in_ok-numbered.after.now
    (sym c.in-Some.ensures) s.0 shorter c.loop-after.invariant.reading.2 c.loop-after.invariant.reading.4 in
    let same = ap (λ z. points ++ z ∷ []) c.in_ok-point_by.ensures.point ∙ ap (λ z. z ++ point_by cases c.in_ok-numbered.numbered ∷ []) c.loop-after.invariant.reading.3 ∙ sym (points-push cases ps c.in_ok-numbered.numbered) in
    rw c.in_ok-push.ensures.items (record {
      reading = (next.0, ps ++ c.in_ok-numbered.numbered ∷ [], next.1, same, next.2);
      numbers = point-numbers cases c.args.named.now.items c.loop-after.named.items c.point_by.new.named.items points c.in_ok-numbered.numbered c.in_ok-point_by.ensures.numbers c.loop-after.invariant.numbers
          ∙ ap (λ z. texts_by cases c.args.named.now.items ++ cases_of_points (points ++ z ∷ [])) (sym c.in_ok-point_by.ensures.point);
      fits = ap fit_places same ∙ lines-step cases ps points c.in_ok-numbered.numbered c.loop-after.invariant.reading.3 c.loop-after.invariant.fits ∙ good;
    })

pub returns-clause-read : goal.returns-clause-read
unfolding numbered_points_at worded_at
returns-clause-read c =
    let most = length c.args.cases.now in
    let whole = checked_stops (word_at (codes "at ")) (λ w. rest_at (numbered_point_at most) fits_numbered_point) c.loop-after.invariant.reading.1 c.loop-after.invariant.reading.0 c.loop-after.rest.now _ (sym c.in_default.ensures) c.loop-after.invariant.reading.2 c.loop-after.invariant.reading.4 in
    rw whole (rw (sym c.loop-after.invariant.reading.3) (rw c.loop-after.invariant.fits (ap (λ z. Some (z, c.loop-after.rest.now)) (sym c.of.ensures))))
