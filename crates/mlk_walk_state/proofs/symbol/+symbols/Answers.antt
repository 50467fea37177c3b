use Rattle.std.proofs.Common.{◌∷◌, ◌∙◌, suc, drop, sym, ap}
use Rattle.std.proofs.Math.Seq.{drop-cons}
use Rattle.mlk_syntax.specs.ExprTrees.{tree_of, links, links_from}
use Rattle.mlk_walk_state.specs.Scope.{scope_of}
use Rattle.mlk_walk_state.proofs.ChainSymbols.{no_constant}
use Rattle.mlk_walk_state.proofs.symbol.+symbols.Goals as goal

pub chain_symbol-returns-in_default : goal.chain_symbol-returns-in_default
chain_symbol-returns-in_default t c =
    let rest = c.args.rest.now in
    let index = c.loop-op.op-index in
    let item = c.loop-op-item.result in
    let step = drop-cons rest index item c.loop-op-test.true ∙ ap (λ y. y ∷ drop (suc index) rest) (sym c.loop-op-item.is) in
    let shared = (scope_of c.args.scope.now).is_shared c.args.state.now.case.own in
    no_constant shared c.loop-op.symbol c.in_default.not-Const item.0 (tree_of item.1) (links_from (links (drop (suc index) rest)))
    ∙ (rw step at c.loop-op.invariant)
