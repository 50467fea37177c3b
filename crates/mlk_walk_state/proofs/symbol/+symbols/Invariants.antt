use Rattle.std.proofs.Common.{◌≡◌, drop}
use Rattle.mlk_syntax.specs.ExprTrees.{links, links_from}
use Rattle.mlk_walk_state.specs.Scope.{scope_of}
use Rattle.mlk_walk_state.specs.Symbols.{chain_in}
use Rattle.mlk_walk_state.proofs.symbol.+symbols.Given as goal

abbrev pub invariant-chain_symbol-loop-op : goal.invariant-chain_symbol-loop-op
invariant-chain_symbol-loop-op l =
    chain_in (scope_of l.scope) l.state l.symbol (links_from (links (drop l.op-index l.rest)))
    ≡ chain_in (scope_of l.scope) l.state l.fn.first (links_from (links l.fn.rest))
