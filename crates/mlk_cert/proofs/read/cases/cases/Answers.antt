use Rattle.std.proofs.Common.{◌≡◌, ◌++◌, ◌∷◌, [], length, codes, Some, true, sym, ap, ◌∙◌, arith}
use Rattle.std.specs.Prelude.{option_map}
use Rattle.std.proofs.lemmas.Result.{err_from_is_err_and}
use Rattle.mlk_text.specs.Failures.{FailsOn}
use Rattle.mlk_text.proofs.Readers.{many_goes}
use Rattle.mlk_cert_lexemes.specs.Lists.{last_of}
use Rattle.mlk_cert_parts.specs.Texts.{case_text}
use Rattle.mlk_cert_lexemes.specs.Reading.{word_at}
use Rattle.mlk_cert.specs.Blocks.{fit, rest_at, worded_at, after_at}
use Rattle.mlk_cert.specs.Numbered.{numbered_case_at, fits_numbered, fit_numbered, next_numbered_fits, cases_at}
use Rattle.mlk_text.specs.Reading.{◌>>=◌}
use Rattle.mlk_cert_lexemes.proofs.Formats.{Anything}
use Rattle.mlk_cert.proofs.NumberedFormats.{numbered_case_text, GoodNumbered, numbered-rest}
use Rattle.mlk_cert.proofs.Loops.{checked_stops, checked_refused, after-some, line-shorter, last-push}
use Rattle.mlk_cert.proofs.NumberedLoops.{table-closed, table-step, table-refused, cases-push}
use Rattle.mlk_cert.proofs.read.cases.cases.Goals as goal

pub returns-in_err-numbered : goal.returns-in_err-numbered
unfolding cases_at worded_at
returns-in_err-numbered c =
    let p = err_from_is_err_and c.from_residual.result c.from_residual.ensures.1 in
    let found = c.loop-after.found.items in
    let count : c.len.result ≡ length found = omega (arith, c.len.ensures, c.loop-after.found.ok.0) in
    let step = next_numbered_fits (length found) (option_map case_text (last_of found)) in
    let one : FailsOn c.in_err-numbered.field-0.0 (after_at numbered_case_at fits_numbered step c.in-Some.after.now) = rw (sym c.loop-after.invariant.last, sym count) c.in_err-numbered.ensures.read in
    rw (p.1, p.2)
    (table-refused (worded_at (codes "case ") (rest_at numbered_case_at fits_numbered) c.args.bytes.now >>= fit fit_numbered) c.in_err-numbered.field-0.0
    (checked_refused fit_numbered (word_at (codes "case ")) numbered_case_at fits_numbered step c.loop-after.invariant.reading.1 c.loop-after.invariant.reading.0 c.loop-after.rest.now _ (codes "case ") c.in-Some.after.now c.in_err-numbered.field-0.0 table-closed
    (λ a. table-step c.loop-after.invariant.reading.1 found a c.loop-after.invariant.reading.3 c.loop-after.invariant.reading.4) (sym c.in-Some.ensures) one c.loop-after.invariant.reading.2
    (λ a ys h. line-shorter (λ l. numbered_case_text l ++ 10 ∷ []) GoodNumbered Anything (rest_at numbered_case_at fits_numbered) numbered-rest 99 (codes "ase ") (codes "case ") c.loop-after.rest.now c.in-Some.after.now a ys (sym c.in-Some.ensures) h)
    c.loop-after.invariant.reading.5))

pub loop-after-smaller : goal.loop-after-smaller
loop-after-smaller c =
    let s = after-some numbered_case_at fits_numbered _ c.in-Some.after.now c.in_ok-numbered.numbered c.in_ok-numbered.after.now c.in_ok-numbered.ensures.read in
    line-shorter (λ l. numbered_case_text l ++ 10 ∷ []) GoodNumbered Anything (rest_at numbered_case_at fits_numbered) numbered-rest 99 (codes "ase ") (codes "case ") c.loop-after.rest.now c.in-Some.after.now c.in_ok-numbered.numbered c.in_ok-numbered.after.now (sym c.in-Some.ensures) s.0

pub loop-after-preserved : goal.loop-after-preserved
loop-after-preserved c =
    let found = c.loop-after.found.items in
    let ls = c.loop-after.invariant.reading.1 in
    let count : c.len.result ≡ length found = omega (arith, c.len.ensures, c.loop-after.found.ok.0) in
    let s = after-some numbered_case_at fits_numbered _ c.in-Some.after.now c.in_ok-numbered.numbered c.in_ok-numbered.after.now c.in_ok-numbered.ensures.read in
    let shorter = line-shorter (λ l. numbered_case_text l ++ 10 ∷ []) GoodNumbered Anything (rest_at numbered_case_at fits_numbered) numbered-rest 99 (codes "ase ") (codes "case ") c.loop-after.rest.now c.in-Some.after.now c.in_ok-numbered.numbered c.in_ok-numbered.after.now (sym c.in-Some.ensures) s.0 in
    let good : next_numbered_fits (length found) (option_map case_text (last_of found)) c.in_ok-numbered.numbered ≡ true = rw (sym c.loop-after.invariant.last, sym count) s.1 in
    let next = many_goes (word_at (codes "case ")) (λ w. rest_at numbered_case_at fits_numbered) ls c.loop-after.invariant.reading.0 c.loop-after.rest.now _ (codes "case ") c.in-Some.after.now c.in_ok-numbered.numbered c.in_ok-numbered.after.now
    (sym c.in-Some.ensures) s.0 shorter c.loop-after.invariant.reading.2 c.loop-after.invariant.reading.5 in
    rw c.in_ok-push.ensures.items (record {
      reading = (
        next.0,
        ls ++ c.in_ok-numbered.numbered ∷ [],
        next.1,
        ap (λ z. z ++ c.in_ok-numbered.numbered.1 ∷ []) c.loop-after.invariant.reading.3 ∙ sym (cases-push ls c.in_ok-numbered.numbered),
        table-step ls found c.in_ok-numbered.numbered c.loop-after.invariant.reading.3 c.loop-after.invariant.reading.4 ∙ good,
        next.2,
      );
      last = ap (λ t. Some t) c.in_ok-numbered.ensures.text ∙ sym (ap (option_map case_text) (last-push found c.in_ok-numbered.numbered.1));
    })

pub returns : goal.returns
unfolding cases_at worded_at
returns c =
    let whole = checked_stops (word_at (codes "case ")) (λ w. rest_at numbered_case_at fits_numbered) c.loop-after.invariant.reading.1 c.loop-after.invariant.reading.0 c.loop-after.rest.now _ (sym c.in_default.ensures) c.loop-after.invariant.reading.2 c.loop-after.invariant.reading.5 in
    rw whole (rw c.loop-after.invariant.reading.4 (ap (λ z. Some (z, c.loop-after.rest.now)) (sym c.loop-after.invariant.reading.3)))
