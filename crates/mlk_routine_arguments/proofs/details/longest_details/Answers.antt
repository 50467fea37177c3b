use Rattle.std.proofs.Common.{ap, ◌∙◌, ◌++◌, ◌∷◌, [], arith, append_assoc, length-append, sym}
use Rattle.std.specs.Prelude.{option_and_then}
use Rattle.mlk_routine_arguments.specs.Details.{after}
use Rattle.mlk_routine_arguments.proofs.DeviceDetails.{runs_on}
use Rattle.mlk_routine_arguments.proofs.details.longest_details.Goals as goal

pub loop-b-preserved : goal.loop-b-preserved
loop-b-preserved c =
    let (front, joined, runs, small) = c.loop-b.invariant in
    let b = c.in-Some.b.now in
    let size = length-append front (b ∷ []) in
    let deeper = c.in-Some-after.ensures.depth in (
      front ++ b ∷ [],
      joined ∙ ap (λ l. front ++ l) (c.in-Some.ensures.cases).0 ∙ sym (append_assoc front (b ∷ []) c.in-Some.more.now),
      runs_on _ front b ∙ ap (option_and_then (λ x. after x b)) runs ∙ sym c.after.ensures.place ∙ c.in-Some-after.is,
      omega (arith, size, deeper, small),
    )
