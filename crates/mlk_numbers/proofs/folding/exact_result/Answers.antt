use Rattle.std.proofs.Common.{ℤ, ap, ◌∙◌, inl, inr}
use Rattle.std.specs.Fmt.{signed_decimal}
use Rattle.mlk_numbers.proofs.Folds.{folded-short, read-back}
use Rattle.mlk_numbers.proofs.folding.exact_result.Goals as goal

pub returns-in_default-fold_texts : goal.returns-in_default-fold_texts
returns-in_default-fold_texts c = λ text h. elim h [
  | inl joined ↦ c.in_default.not-Concatenate joined.0
  | inr r ↦ c.in_default-fold_texts.ensures r.2 (r.0, r.1, r.3, r.4, r.5)
]

pub returns : goal.returns
returns c =
    let z : ℤ = c.in-Some.answer in
    let r = c.in-Some.ensures in
    let short = folded-short c.args.op r.0 r.1 z r.4 in
    inr (r.0, r.1, z, r.2, r.3, r.4, (short, c.in_ok-text_of.ensures ∙ ap signed_decimal (read-back z short)))
