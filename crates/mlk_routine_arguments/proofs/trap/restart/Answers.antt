use Rattle.std.proofs.Common.{◌≡◌, ◌-◌, drop, true, None, sym, ◌∙◌, subst}
use Rattle.std.specs.Prelude.{is_some}
use Rattle.mlk_expr.specs.Grammar.{IsCalleeText}
use Rattle.mlk_expr.specs.Theorem.{CalleeEnds}
use Rattle.mlk_syntax.specs.Trees.{Called}
use Rattle.mlk_routine_arguments.specs.PartsRead.{Found, Nowhere, Denied}
use Rattle.mlk_routine_arguments.specs.Traps.{IsRestart}
use Rattle.mlk_routine_arguments.specs.TrapParts.{halts_here}
use Rattle.mlk_routine_arguments.proofs.Traps.{not_cleared, no_entry, other_entry, restart_found}
use Rattle.mlk_routine_arguments.proofs.trap.restart.Goals as goal
use Rattle.mlk_routine_arguments.proofs.trap.restart.Goals.{then-is_none-via-then-is_none, then-is_none-via-else-is_none+then-not-halts_here}

pub returns-in_default : goal.returns-in_default
returns-in_default c at place = not_cleared at c.args.code.now (sym c.in_default.ensures)

pub returns-in-Err-Refused : goal.returns-in-Err-Refused
returns-in-Err-Refused c at place =
    let code = c.args.code.now in
    let rest = c.in-Some.rest.now in
    let denied = subst (λ e. Denied IsCalleeText CalleeEnds code c.saturating_sub-start.result e) c.in-Err-Refused.field-0-is c.in-Err-Refused.ensures in
    no_entry at code 32 rest (sym c.in-Some.ensures) (subst (λ n. Nowhere IsCalleeText CalleeEnds code n) c.saturating_sub-start.ensures denied.0)

pub returns-then-is_none : goal.returns-then-is_none
returns-then-is_none c at place =
    let code = c.args.code.now in
    let rest = c.in-Some.rest.now in
    let found = subst (λ n. Found IsCalleeText CalleeEnds code n c.in-Ok.read.0 c.in-Ok.read.1) c.saturating_sub-start.ensures c.in-Ok.ensures in
    let bad : is_some c.in-Ok.read.0.routine ≡ true → halts_here (drop c.in-Ok.read.1 code) ≡ true → ⊥ = elim c.then-is_none.branch [
      | then-is_none-via-then-is_none w ↦ (λ named halts. cc (sym w.if-is_none.ensures ∙ named))
      | then-is_none-via-else-is_none+then-not-halts_here w ↦ (λ named halts. cc (sym w.if-not-halts_here.true ∙ w.halts_here.ensures ∙ halts))
    ] in
    other_entry at code 32 rest (sym c.in-Some.ensures) c.in-Ok.read.0 c.in-Ok.read.1 found bad

pub returns : goal.returns
returns c at place =
    let code = c.args.code.now in
    let rest = c.in-Some.rest.now in
    let found = subst (λ n. Found IsCalleeText CalleeEnds code n c.in-Ok.read.0 c.in-Ok.read.1) c.saturating_sub-start.ensures c.in-Ok.ensures in
    subst (λ k. IsRestart at (Called k c.in-Ok.read.0 None) code) (sym place)
    (restart_found at code 32 rest (sym c.in-Some.ensures) c.in-Ok.read.0 c.in-Ok.read.1 found c.if-is_none.ensures (sym c.halts_here.ensures ∙ c.if-not-halts_here.false))
