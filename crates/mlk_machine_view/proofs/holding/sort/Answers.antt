use Rattle.std.proofs.Common.{◌∙◌, rules}
use Rattle.std.specs.Cmp.Lexicographic.{nat_list_cmp_total}
use Rattle.std.proofs.lemmas.Fn.{always_returns_same}
use Rattle.std.proofs.lemmas.List.Sorted.{ranks_by}
use Rattle.mlk_machine_view.proofs.HeldLemmas.{by_text, put_all_is}
use Rattle.mlk_machine_view.proofs.OrderLemmas.{sorted_is}
use Rattle.mlk_machine_view.proofs.holding.sort.Goals as goal

pub returns : goal.returns
returns c =
    let order = ranks_by nat_list_cmp_total (λ h. h.name) in
    let compares = always_returns_same _ _ _ (λ a r f k. search rules) in
    sorted_is (by_text (λ h. h.name)) order _ _
    (c.in_ok-sort_by.ensures.sorted (by_text (λ h. h.name)) order compares)
    (c.in_ok-sort_by.ensures.stable (by_text (λ h. h.name)) order compares)
    ∙ put_all_is (λ h. h.name) c.args.holdings.now.items
