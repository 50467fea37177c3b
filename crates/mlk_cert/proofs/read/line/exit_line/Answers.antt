use Rattle.std.proofs.Common.{◌≡◌, ◌∙◌, ap, sym, subst, ◌&&◌}
use Rattle.std.specs.Prelude.{option_map, nat_lt, Option, List, ℕ}
use Rattle.std.proofs.lemmas.Result.{err_from_is_err_and}
use Rattle.mlk_text.specs.Failures.{FailsOn}
use Rattle.mlk_cert_parts.specs.declared.case.ExitCase.{ExitCase}
use Rattle.mlk_cert_parts.specs.Texts.{exit_text}
use Rattle.mlk_cert_parts.specs.Checks.{fits_exit}
use Rattle.mlk_cert.specs.Fitting.{passes}
use Rattle.mlk_cert_parts.specs.Reading.{exit_at}
use Rattle.mlk_cert.specs.Blocks.{above_last, next_exit_fits}
use Rattle.mlk_cert_parts.proofs.CaseFormats.{exit-format}
use Rattle.mlk_cert.proofs.Loops.{after-is, ended-value}
use Rattle.mlk_cert_lexemes.proofs.Room.{front-is}
use Rattle.mlk_cert.proofs.read.line.exit_line.Goals as goal

pub returns-in_err-found-in-Ok-clause-read : goal.returns-in_err-found-in-Ok-clause-read
returns-in_err-found-in-Ok-clause-read c =
    let p = err_from_is_err_and c.from_residual.result c.from_residual.ensures.1 in
    let last = option_map (λ x. x.now) c.args.last in
    let text = c.front_of-text.ensures ∙ front-is (exit_text c.in-Ok.found) c.args.bytes.now c.in-Ok.rest.now (exit-format.sound c.in-Ok.found c.args.bytes.now c.in-Ok.rest.now c.in-Ok.ensures.read).0 in
    let next : passes c.fit_of-next.result ≡ next_exit_fits c.args.count last c.in-Ok.found = c.fit_of-next.ensures ∙ ap (λ b. nat_lt c.args.count 16 && b) (c.is_above.ensures ∙ ap (above_last last) text) in
    let is = after-is exit_at fits_exit (next_exit_fits c.args.count last) c.args.bytes.now c.in-Ok.rest.now c.in-Ok.found _ _ _ c.in-Ok.ensures.read c.fit_both.ensures c.in-Ok.ensures.fit next in
    rw (p.1, p.2) (subst (λ (z : Option (ExitCase × List ℕ)). FailsOn c.in_err-found-in-Ok.field-0.0 z) (sym is) c.in_err-found-in-Ok.ensures)

pub returns-in_ok-found-in-Ok-clause-read : goal.returns-in_ok-found-in-Ok-clause-read
returns-in_ok-found-in-Ok-clause-read c =
    let last = option_map (λ x. x.now) c.args.last in
    let text = c.front_of-text.ensures ∙ front-is (exit_text c.in-Ok.found) c.args.bytes.now c.in-Ok.rest.now (exit-format.sound c.in-Ok.found c.args.bytes.now c.in-Ok.rest.now c.in-Ok.ensures.read).0 in
    let next : passes c.fit_of-next.result ≡ next_exit_fits c.args.count last c.in-Ok.found = c.fit_of-next.ensures ∙ ap (λ b. nat_lt c.args.count 16 && b) (c.is_above.ensures ∙ ap (above_last last) text) in
    let is = after-is exit_at fits_exit (next_exit_fits c.args.count last) c.args.bytes.now c.in-Ok.rest.now c.in-Ok.found _ _ _ c.in-Ok.ensures.read c.fit_both.ensures c.in-Ok.ensures.fit next in
    is ∙ c.in_ok-found-in-Ok.ensures

pub returns-in_ok-found-in-Ok-clause-text : goal.returns-in_ok-found-in-Ok-clause-text
returns-in_ok-found-in-Ok-clause-text c =
    c.front_of-text.ensures ∙ front-is (exit_text c.in-Ok.found) c.args.bytes.now c.in-Ok.rest.now (exit-format.sound c.in-Ok.found c.args.bytes.now c.in-Ok.rest.now c.in-Ok.ensures.read).0
    ∙ ap exit_text (ended-value c.in-Ok.found c.in_ok-found-in-Ok.found _ c.in-Ok.rest.now c.in_ok-found-in-Ok.rest.now c.in_ok-found-in-Ok.ensures)
