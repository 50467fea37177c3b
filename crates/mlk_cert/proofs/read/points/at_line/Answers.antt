use Rattle.std.proofs.Common.{◌≡◌, ◌∙◌, ap, sym, subst, ℕ}
use Rattle.std.specs.Prelude.{option_map, option_copied, Option, List}
use Rattle.std.proofs.lemmas.Result.{err_from_is_err_and}
use Rattle.mlk_text.specs.Failures.{FailsOn}
use Rattle.mlk_cert_parts.specs.Texts.{case_text}
use Rattle.mlk_cert.specs.Fitting.{passes}
use Rattle.mlk_cert.specs.Blocks.{Listed, listed_case_at, fits_listed, next_case_fits}
use Rattle.mlk_cert_parts.proofs.CaseFormats.{case-format}
use Rattle.mlk_cert.proofs.Loops.{after-is, ended-value}
use Rattle.mlk_cert.proofs.PointLoops.{listed-read}
use Rattle.mlk_cert_lexemes.proofs.Room.{front-is}
use Rattle.mlk_cert.proofs.read.points.at_line.Goals as goal

pub returns-in_err-listed-in-Ok-clause-read : goal.returns-in_err-listed-in-Ok-clause-read
returns-in_err-listed-in-Ok-clause-read c =
    let p = err_from_is_err_and c.from_residual.result c.from_residual.ensures.1 in
    let last = option_map (λ x. x.now) c.args.last in
    let point = option_copied c.args.point in
    let text = c.front_of-text.ensures ∙ front-is (case_text c.in-Ok.found) c.in-Some-byte_of.start.now c.in-Ok.rest.now (case-format.sound c.in-Ok.found c.in-Some-byte_of.start.now c.in-Ok.rest.now c.in-Ok.ensures.read).0 in
    let next : passes c.next_fit-next.result ≡ next_case_fits point last c.in-Some.line c.in-Some.round (case_text c.in-Ok.found) = c.next_fit-next.ensures ∙ ap (next_case_fits point last c.in-Some.line c.in-Some.round) text in
    let read = listed-read c.in-Some.line c.in-Some.round c.args.bytes.now c.in-Some.rest.now c.in-Some-byte_of.start.now c.in-Ok.rest.now c.in-Ok.found (sym c.in-Some.ensures) (sym c.in-Some-byte_of.ensures) c.in-Ok.ensures.read in
    let is = after-is listed_case_at fits_listed (λ l. next_case_fits point last l.0 l.1 (case_text l.2)) c.args.bytes.now c.in-Ok.rest.now (c.in-Some.line, c.in-Some.round, c.in-Ok.found) _ _ _ read c.fit_both.ensures c.in-Ok.ensures.fit next in
    rw (p.1, p.2) (subst (λ (z : Option (Listed × List ℕ)). FailsOn c.in_err-listed-in-Ok.field-0.0 z) (sym is) c.in_err-listed-in-Ok.ensures)

pub returns-in_ok-listed-in-Ok-clause-read : goal.returns-in_ok-listed-in-Ok-clause-read
returns-in_ok-listed-in-Ok-clause-read c =
    let last = option_map (λ x. x.now) c.args.last in
    let point = option_copied c.args.point in
    let text = c.front_of-text.ensures ∙ front-is (case_text c.in-Ok.found) c.in-Some-byte_of.start.now c.in-Ok.rest.now (case-format.sound c.in-Ok.found c.in-Some-byte_of.start.now c.in-Ok.rest.now c.in-Ok.ensures.read).0 in
    let next : passes c.next_fit-next.result ≡ next_case_fits point last c.in-Some.line c.in-Some.round (case_text c.in-Ok.found) = c.next_fit-next.ensures ∙ ap (next_case_fits point last c.in-Some.line c.in-Some.round) text in
    let read = listed-read c.in-Some.line c.in-Some.round c.args.bytes.now c.in-Some.rest.now c.in-Some-byte_of.start.now c.in-Ok.rest.now c.in-Ok.found (sym c.in-Some.ensures) (sym c.in-Some-byte_of.ensures) c.in-Ok.ensures.read in
    let is = after-is listed_case_at fits_listed (λ l. next_case_fits point last l.0 l.1 (case_text l.2)) c.args.bytes.now c.in-Ok.rest.now (c.in-Some.line, c.in-Some.round, c.in-Ok.found) _ _ _ read c.fit_both.ensures c.in-Ok.ensures.fit next in
    is ∙ c.in_ok-listed-in-Ok.ensures

pub returns-in_ok-listed-in-Ok-clause-text : goal.returns-in_ok-listed-in-Ok-clause-text
returns-in_ok-listed-in-Ok-clause-text c =
    c.front_of-text.ensures ∙ front-is (case_text c.in-Ok.found) c.in-Some-byte_of.start.now c.in-Ok.rest.now (case-format.sound c.in-Ok.found c.in-Some-byte_of.start.now c.in-Ok.rest.now c.in-Ok.ensures.read).0
    ∙ ap (λ (l : Listed). case_text l.2) (ended-value (c.in-Some.line, c.in-Some.round, c.in-Ok.found) c.in_ok-listed-in-Ok.listed _ c.in-Ok.rest.now c.in_ok-listed-in-Ok.rest.now c.in_ok-listed-in-Ok.ensures)
