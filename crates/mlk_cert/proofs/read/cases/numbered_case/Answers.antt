use Rattle.std.proofs.Common.{◌≡◌, ◌∙◌, ap, sym, subst, ℕ, suc}
use Rattle.std.specs.Prelude.{option_map, Option, List, ◌==◌, ◌&&◌}
use Rattle.std.proofs.lemmas.Result.{err_from_is_err_and}
use Rattle.mlk_text.specs.Failures.{FailsOn}
use Rattle.mlk_cert_parts.specs.Texts.{case_text}
use Rattle.mlk_cert.specs.Fitting.{passes}
use Rattle.mlk_cert.specs.Blocks.{above_last}
use Rattle.mlk_cert.specs.Numbered.{NumberedCase, numbered_case_at, fits_numbered, next_numbered_fits}
use Rattle.mlk_cert_parts.proofs.CaseFormats.{case-format}
use Rattle.mlk_cert.proofs.Loops.{after-is, ended-value}
use Rattle.mlk_cert.proofs.NumberedLoops.{case-read}
use Rattle.mlk_cert_lexemes.proofs.Room.{front-is}
use Rattle.mlk_cert.proofs.read.cases.numbered_case.Goals as goal

pub returns-in_err-numbered-in-Ok-clause-read : goal.returns-in_err-numbered-in-Ok-clause-read
returns-in_err-numbered-in-Ok-clause-read c =
    let p = err_from_is_err_and c.from_residual.result c.from_residual.ensures.1 in
    let last = option_map (λ x. x.now) c.args.last in
    let text = c.front_of-text.ensures ∙ front-is (case_text c.in-Ok.found) c.in-Some-byte_of.start.now c.in-Ok.rest.now (case-format.sound c.in-Ok.found c.in-Some-byte_of.start.now c.in-Ok.rest.now c.in-Ok.ensures.read).0 in
    let next : passes c.fit_of-next.result ≡ next_numbered_fits c.args.count last (c.in-Some.number, c.in-Ok.found) = c.fit_of-next.ensures ∙ c.are_both.ensures ∙ ap (λ b. b && c.is_above.result) c.is_next.ensures ∙ ap (λ b. (c.in-Some.number == suc c.args.count) && b) (c.is_above.ensures ∙ ap (above_last last) text) in
    let read = case-read c.in-Some.number c.args.bytes.now c.in-Some.rest.now c.in-Some-byte_of.start.now c.in-Ok.rest.now c.in-Ok.found (sym c.in-Some.ensures) (sym c.in-Some-byte_of.ensures) c.in-Ok.ensures.read in
    let is = after-is numbered_case_at fits_numbered (next_numbered_fits c.args.count last) c.args.bytes.now c.in-Ok.rest.now (c.in-Some.number, c.in-Ok.found) _ _ _ read c.fit_both.ensures c.in-Ok.ensures.fit next in
    rw (p.1, p.2) (subst (λ (z : Option (NumberedCase × List ℕ)). FailsOn c.in_err-numbered-in-Ok.field-0.0 z) (sym is) c.in_err-numbered-in-Ok.ensures)

pub returns-in_ok-numbered-in-Ok-clause-read : goal.returns-in_ok-numbered-in-Ok-clause-read
returns-in_ok-numbered-in-Ok-clause-read c =
    let last = option_map (λ x. x.now) c.args.last in
    let text = c.front_of-text.ensures ∙ front-is (case_text c.in-Ok.found) c.in-Some-byte_of.start.now c.in-Ok.rest.now (case-format.sound c.in-Ok.found c.in-Some-byte_of.start.now c.in-Ok.rest.now c.in-Ok.ensures.read).0 in
    let next : passes c.fit_of-next.result ≡ next_numbered_fits c.args.count last (c.in-Some.number, c.in-Ok.found) = c.fit_of-next.ensures ∙ c.are_both.ensures ∙ ap (λ b. b && c.is_above.result) c.is_next.ensures ∙ ap (λ b. (c.in-Some.number == suc c.args.count) && b) (c.is_above.ensures ∙ ap (above_last last) text) in
    let read = case-read c.in-Some.number c.args.bytes.now c.in-Some.rest.now c.in-Some-byte_of.start.now c.in-Ok.rest.now c.in-Ok.found (sym c.in-Some.ensures) (sym c.in-Some-byte_of.ensures) c.in-Ok.ensures.read in
    let is = after-is numbered_case_at fits_numbered (next_numbered_fits c.args.count last) c.args.bytes.now c.in-Ok.rest.now (c.in-Some.number, c.in-Ok.found) _ _ _ read c.fit_both.ensures c.in-Ok.ensures.fit next in
    is ∙ c.in_ok-numbered-in-Ok.ensures

pub returns-in_ok-numbered-in-Ok-clause-text : goal.returns-in_ok-numbered-in-Ok-clause-text
returns-in_ok-numbered-in-Ok-clause-text c =
    c.front_of-text.ensures ∙ front-is (case_text c.in-Ok.found) c.in-Some-byte_of.start.now c.in-Ok.rest.now (case-format.sound c.in-Ok.found c.in-Some-byte_of.start.now c.in-Ok.rest.now c.in-Ok.ensures.read).0
    ∙ ap (λ (l : NumberedCase). case_text l.1) (ended-value (c.in-Some.number, c.in-Ok.found) c.in_ok-numbered-in-Ok.numbered _ c.in-Ok.rest.now c.in_ok-numbered-in-Ok.rest.now c.in_ok-numbered-in-Ok.ensures)
