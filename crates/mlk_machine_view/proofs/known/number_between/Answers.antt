use Rattle.std.proofs.Common.{ℤ, ap, ◌∙◌, subst, to_z, of_z, w64}
use Rattle.mlk_numbers.specs.Folding.{IsWhole, folded}
use Rattle.mlk_numbers.proofs.Folds.{folds-found, read-back}
use Rattle.mlk_machine_view.proofs.known.number_between.Goals as goal

pub returns : goal.returns
returns c =
    let x : ℤ = c.in_ok-x.x in
    let y : ℤ = c.in_ok-y.y in
    let f : IsWhole x c.args.first.now = subst (λ l. IsWhole x l) c.as_bytes.ensures c.in_ok-x.ensures in
    let g : IsWhole y c.args.second.now = subst (λ l. IsWhole y l) c.as_bytes-2.ensures c.in_ok-y.ensures in
    let result = c.fold_number.ensures
    ∙ ap (λ k. folded c.args.op k (to_z w64 (of_z w64 y))) (read-back x f.0)
    ∙ ap (λ k. folded c.args.op x k) (read-back y g.0) in
    folds-found c.args.op x y c.args.first.now c.args.second.now c.fold_number.result f g result
