use Rattle.std.proofs.Common.{◌≡◌, ◌∙◌, sym, ap, true, Some, refl}
use Rattle.mlk_cert_lexemes.specs.Lists.{Each}
use Rattle.mlk_cert_parts.specs.Checks.{fit_kept}
use Rattle.mlk_text.specs.Lexemes.{name_at}
use Rattle.mlk_cert_lexemes.specs.Texts.{listed, name_text}
use Rattle.mlk_cert_lexemes.specs.Kinds.{ReadsAsName}
use Rattle.mlk_cert_lexemes.specs.Reading.{listed_at}
use Rattle.mlk_cert_lexemes.proofs.TermFormats.{EndsNames, kept-format}
use Rattle.mlk_cert.proofs.MemoryLemmas.{remembered}
use Rattle.mlk_cert.proofs.read.case.kept_part.Goals as goal

pub note-requires : goal.note-requires
note-requires c =
    let same : c.in_ok-clone.field-0 ≡ c.in_ok-found.found.items = c.in_ok-clone.ensures.cases ∙ c.in_ok-list-2.ensures in
    let read : listed_at name_at c.in-Some.rest.now ≡ Some (c.in_ok-clone.field-0, c.in_ok-found.after.now) = c.in_ok-found.ensures.read ∙ ap (λ l. Some (l, c.in_ok-found.after.now)) (sym same) in
    let good : fit_kept c.in_ok-clone.field-0 ≡ true = ap fit_kept same ∙ sym c.in_ok-found.ensures.fit ∙ sym c.is_yes.ensures ∙ c.if-is_yes.true in
    remembered (listed name_text) (Each ReadsAsName) EndsNames name_at fit_kept kept-format (λ n. (refl, refl)) c.in_ok-clone.field-0 c.in-Some.rest.now c.in_ok-found.after.now c.front_of.result.now read c.front_of.ensures good
