-- Routines that were read are well formed.
use Rattle.std.proofs.Common.{◌≡◌, List, [], ◌∷◌, subst, ⊎_elim, arith}
use Rattle.std.specs.Prelude.{Contains}
use Rattle.mlk_syntax.specs.Trees.{RoutineTree}
use Rattle.mlk_reading.specs.declared.source.Source.{Source}
use Rattle.mlk_reading.specs.Reading.{AreRead}
use Rattle.mlk_names.proofs.ListLemmas.{contains_cases}
use Rattle.mlk_machine_laws.specs.WellFormed.{IsWellFormed}
use Rattle.mlk_routine_laws.proofs.ReadTrees.{well-formed}
use Rattle.mlk_machine_laws.specs.WellFormed.{AreFormed}

pub read_formed : (sources : List Source) (trees : List RoutineTree) → AreRead sources trees → AreFormed trees
read_formed [] [] read r i = absurd (omega (arith, i.1))
read_formed [] (tree ∷ trees) read r i = absurd read
read_formed (source ∷ sources) [] read r i = absurd (omega (arith, i.1))
read_formed (source ∷ sources) (tree ∷ trees) read r i =
    ⊎_elim
    (λ (e : tree ≡ r). subst IsWellFormed e (well-formed source.dialect source.stem.now source.text.items tree read.0))
    (λ (k : Contains trees r). read_formed sources trees read.1 r k)
    (contains_cases tree trees r i)
