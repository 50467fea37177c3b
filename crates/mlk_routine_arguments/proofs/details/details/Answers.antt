use Rattle.std.proofs.Common.{◌≡◌, ◌∙◌, sym, subst, ap, true, arith}
use Rattle.mlk_routine_arguments.specs.Ends.{is_stop, DetailsEnd}
use Rattle.mlk_routine_arguments.specs.Kinds.{IsLongest}
use Rattle.mlk_routine_arguments.specs.Details.{AreDetails, is_closed}
use Rattle.mlk_routine_arguments.specs.PartsRead.{Found}
use Rattle.mlk_routine_arguments.proofs.Outcomes.{denies}
use Rattle.mlk_routine_arguments.proofs.DeviceDetails.{details_found, details_nowhere, details_next, details_rest}
use Rattle.mlk_routine_arguments.proofs.details.details.Goals as goal
use Rattle.mlk_routine_arguments.proofs.details.details.Goals.{then-not-is_closed-via-then-not-is_closed, then-not-is_closed-via-else-not-is_closed+then-not-is_argument_end}

pub returns-then-not-is_closed : goal.returns-then-not-is_closed
returns-then-not-is_closed c =
    let line = c.args.line.now in
    let last = c.longest_details.result.0 in
    let rest = c.longest_details.result.1.now in
    let longest = subst (λ l. IsLongest l last rest) c.split_at.ensures.back c.longest_details.ensures in
    let place = details_next line c.args.at last rest longest c.requires in
    let bad : is_closed last ≡ true → is_stop rest ≡ true → ⊥ = λ closed stop. elim c.then-not-is_closed.branch [
      | then-not-is_closed-via-then-not-is_closed w ↦ cc (sym w.if-not-is_closed.true ∙ c.is_closed.ensures ∙ closed)
      | then-not-is_closed-via-else-not-is_closed+then-not-is_argument_end w ↦ cc (sym w.if-not-is_argument_end.true ∙ w.is_argument_end.ensures ∙ ap is_stop (details_rest line c.args.at last rest longest c.requires) ∙ stop)
    ] in
    denies AreDetails DetailsEnd line c.args.at c.no_details.result (c.no_details.ensures line (omega arith))
    (details_nowhere line c.args.at last rest longest bad)

pub returns : goal.returns
returns c =
    let line = c.args.line.now in
    let last = c.longest_details.result.0 in
    let rest = c.longest_details.result.1.now in
    let longest = subst (λ l. IsLongest l last rest) c.split_at.ensures.back c.longest_details.ensures in
    subst (λ n. Found AreDetails DetailsEnd line c.args.at last.is_timed n) (sym (details_next line c.args.at last rest longest c.requires))
    (details_found line c.args.at last rest longest c.requires (sym c.is_closed.ensures ∙ c.if-not-is_closed.false)
    (sym (ap is_stop (details_rest line c.args.at last rest longest c.requires)) ∙ sym c.is_argument_end.ensures ∙ c.if-not-is_argument_end.false))
