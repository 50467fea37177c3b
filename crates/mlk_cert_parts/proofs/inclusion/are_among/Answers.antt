use Rattle.std.proofs.Common.{◌≡◌, ◌∙◌, List, ℕ, subst, sym}
use Rattle.std.specs.Prelude.{Contains}
use Rattle.std.specs.Cmp.Lexicographic.{pointwise_decides}
use Rattle.std.proofs.lemmas.Slice.Eq.{bytes_eq-Decides}
use Rattle.mlk_cert_lexemes.specs.Lists.{Each}
use Rattle.mlk_cert_parts.proofs.Among.{each_itself}
use Rattle.mlk_cert_parts.proofs.inclusion.are_among.Goals as goal

pub returns-then-are_same : goal.returns-then-are_same
returns-then-are_same c =
    let names = c.args.names.now in
    let all = c.args.all.now in
    let same : names ≡ all = (pointwise_decides bytes_eq-Decides names all).0 (sym c.are_same.ensures ∙ c.if-are_same.true) in
    let among : Each (Contains all) names = subst (λ (l : List (List ℕ)). Each (Contains all) l) (sym same) (each_itself all) in
    (λ h. among, λ h. c.if-are_same.true)
