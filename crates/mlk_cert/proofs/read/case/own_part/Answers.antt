use Rattle.std.proofs.Common.{◌≡◌, ◌∙◌, sym, ap, true, Some, refl}
use Rattle.mlk_cert_lexemes.specs.Lists.{Each}
use Rattle.mlk_cert_parts.specs.Checks.{fit_own}
use Rattle.mlk_cert_lexemes.specs.Texts.{listed}
use Rattle.mlk_cert_parts.specs.Texts.{own_text}
use Rattle.mlk_cert_lexemes.specs.Reading.{listed_at}
use Rattle.mlk_cert_parts.specs.Reading.{own_at}
use Rattle.mlk_cert_lexemes.proofs.TermFormats.{EndsNames}
use Rattle.mlk_cert_parts.proofs.CaseFormats.{HasOwn, owns-format}
use Rattle.mlk_cert.proofs.MemoryLemmas.{remembered}
use Rattle.mlk_cert.proofs.read.case.own_part.Goals as goal

pub note-requires : goal.note-requires
note-requires c =
    let same : c.in_ok-clone.field-0 ≡ c.in_ok-found.found.items = c.in_ok-clone.ensures.cases ∙ c.in_ok-list-2.ensures in
    let read : listed_at own_at c.in-Some.rest.now ≡ Some (c.in_ok-clone.field-0, c.in_ok-found.after.now) = c.in_ok-found.ensures.read ∙ ap (λ l. Some (l, c.in_ok-found.after.now)) (sym same) in
    let good : fit_own c.in_ok-clone.field-0 ≡ true = ap fit_own same ∙ sym c.in_ok-found.ensures.fit ∙ sym c.is_yes.ensures ∙ c.if-is_yes.true in
    remembered (listed own_text) (Each HasOwn) EndsNames own_at fit_own owns-format (λ n. (refl, refl)) c.in_ok-clone.field-0 c.in-Some.rest.now c.in_ok-found.after.now c.front_of.result.now read c.front_of.ensures good
