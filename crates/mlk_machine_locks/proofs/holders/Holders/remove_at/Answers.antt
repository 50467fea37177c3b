use Rattle.std.proofs.Common.{◌∙◌, Some, ap}
use Rattle.mlk_machine_locks.proofs.SearchLemmas.{some_at}
use Rattle.mlk_machine_locks.proofs.HolderLemmas.{if_some, taken_before, taken_less, others_stay}
use Rattle.mlk_machine_locks.proofs.holders.Holders.remove_at.Goals as goal

pub returns-clause-less : goal.returns-clause-less
returns-clause-less c =
    taken_less c.args.self.now.places.keys c.swap_remove_index.new.self.keys c.args.index c.swap_remove_index.result
    c.swap_remove_index.ensures.key c.requires c.swap_remove_index.ensures.len

pub returns-clause-before : goal.returns-clause-before
returns-clause-before c = λ n l.
    let x = some_at c.args.self.now.places.keys c.args.index c.requires in
    taken_before c.args.self.now.places.keys c.swap_remove_index.new.self.keys c.args.index x.0 n c.requires
    (if_some _ c.swap_remove_index.result x.0 (c.swap_remove_index.ensures.key ∙ x.1) c.swap_remove_index.ensures.keys) l

pub returns-clause-others : goal.returns-clause-others
returns-clause-others c = λ i h o.
    let x = some_at c.args.self.now.places.keys c.args.index c.requires in
    others_stay c.args.self.now.places.keys c.swap_remove_index.new.self.keys x.0 i
    ((if_some _ c.swap_remove_index.result x.0 (c.swap_remove_index.ensures.key ∙ x.1) c.swap_remove_index.ensures.updates).0 i)
    h (λ e. o (x.1 ∙ ap Some e))
