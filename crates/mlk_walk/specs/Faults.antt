-- Faults as they are reported: by line, column and number, each once. This project's own choice.
use Rattle.std.specs.Prelude.{List, [], ◌∷◌}
use Rattle.std.specs.Ordering.{nat_cmp, ordering_then, match_ordering}
use Rattle.std.specs.declared.cmp.Ordering.{Ordering}
use Rattle.mlk_text.specs.Codes.{number_of}
use Rattle.mlk_walk_exprs.specs.declared.walk.Fault.{Fault}

-- by line, column and number
unfoldable pub fault_cmp : Fault → Fault → Ordering
fault_cmp f g = ordering_then (nat_cmp f.line g.line)
    (ordering_then (nat_cmp f.column g.column) (nat_cmp (number_of f.code) (number_of g.code)))

-- inserts a fault into faults that ascend, unless it is there
abbrev pub put_fault : Fault → List Fault → List Fault
put_fault f [] = f ∷ []
put_fault f (g ∷ faults) = match_ordering (fault_cmp f g) (f ∷ g ∷ faults) (g ∷ faults) (g ∷ put_fault f faults)

-- inserts faults into others that ascend
abbrev pub put_faults : List Fault → List Fault → List Fault
put_faults [] others = others
put_faults (f ∷ faults) others = put_fault f (put_faults faults others)

-- each fault once, in order
abbrev pub ascending : List Fault → List Fault
ascending faults = put_faults faults []
