use Rattle.std.proofs.Common.{◌≡◌, ◌++◌, length}
use Rattle.std.specs.Prelude.{option_map}
use Rattle.mlk_names.specs.Symbols.{known_of}
use Rattle.mlk_walk_state.specs.Lists.{all_some}
use Rattle.mlk_walk_commands.proofs.names.known_subscripts.Given as goal

abbrev pub invariant-loop-symbol : goal.invariant-loop-symbol
invariant-loop-symbol l = option_map (λ ks. l.subs ++ ks) (all_some known_of l.left) ≡ all_some known_of l.fn.symbols

abbrev pub decreases-loop-symbol : goal.decreases-loop-symbol
decreases-loop-symbol l = length l.left
