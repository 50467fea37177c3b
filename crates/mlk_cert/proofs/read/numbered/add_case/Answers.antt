use Rattle.std.proofs.Common.{◌≡◌, ◌∙◌, ◌++◌, ◌∷◌, [], None, Some, sym, ap, append-nil, refl, length}
use Rattle.std.specs.Prelude.{option_to_list, slice_get, ◌-◌}
use Rattle.std.proofs.lemmas.Option.{slice_get_read, slice_get_past}
use Rattle.mlk_cert.proofs.read.numbered.add_case.Goals as goal

pub returns-in_default : goal.returns-in_default
returns-in_default c =
    let none : slice_get c.args.cases.now (c.args.number - 1) ≡ None = ap (slice_get c.args.cases.now) (sym c.place.ensures) ∙ slice_get_past c.args.cases.now c.place.result c.in_default.ensures.lookup.3 in
    sym (ap (λ o. c.args.found.now.items ++ option_to_list o) none ∙ append-nil c.args.found.now.items)

pub returns : goal.returns
returns c =
    let some : slice_get c.args.cases.now (c.args.number - 1) ≡ Some c.in-Some.case.now = ap (slice_get c.args.cases.now) (sym c.place.ensures) ∙ slice_get_read c.args.cases.now (length c.args.cases.now) c.place.result c.in-Some.case.now refl c.in-Some.ensures.lookup.3.0 c.in-Some.ensures.lookup.1 in
    c.in_ok-push.ensures.items ∙ ap (λ z. c.args.found.now.items ++ z ∷ []) c.in_ok-copy_case.ensures ∙ sym (ap (λ o. c.args.found.now.items ++ option_to_list o) some)
