use Rattle.std.proofs.Common.{◌≡◌, ◌++◌, drop, map}
use Rattle.std.specs.Prelude.{option_map}
use Rattle.mlk_syntax.specs.Views.{variable_of}
use Rattle.mlk_walk_commands.specs.Locks.{terms_of}
use Rattle.mlk_walk_commands.proofs.names.terms_of.Given as goal

abbrev pub invariant-loop-name : goal.invariant-loop-name
invariant-loop-name l = option_map (λ ts. l.terms.items ++ ts)
    (terms_of (map variable_of (drop l.name-index l.names)) l.left)
    ≡ terms_of (map variable_of l.fn.names) l.fn.symbols
