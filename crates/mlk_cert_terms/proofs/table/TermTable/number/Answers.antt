use Rattle.std.proofs.Common.{◌∙◌, ap, subst, Some}
use Rattle.mlk_cert_terms.specs.Keys.{terms_in}
use Rattle.mlk_cert_terms.specs.Numbered.{Grows}
use Rattle.mlk_cert_terms.proofs.Tables.{grown-if, key-stored}
use Rattle.mlk_cert_terms.proofs.table.TermTable.number.Goals as goal

pub returns-clause-grows : goal.returns-clause-grows
returns-clause-grows c =
    subst (λ z. Grows z (terms_in c.insert_full.new.self.keys)) c.self.view_is
    (grown-if _ c.self.inside.terms.keys c.insert_full.new.self.keys _ c.in_ok-number.ensures.keys)

pub returns-clause-at : goal.returns-clause-at
returns-clause-at c =
    let s = c.in_ok-number.ensures.stored in
    key-stored c.insert_full.new.self.keys c.in_ok-number.number c.in_ok-copy_of.field-0 s.0 s.1 s.2 ∙ ap (λ z. Some z) c.in_ok-copy_of.ensures
