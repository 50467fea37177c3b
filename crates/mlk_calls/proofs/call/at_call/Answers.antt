use Rattle.std.proofs.Common.{rules, sym, refl}
use Rattle.mlk_syntax.specs.ExprTrees.{actual_trees}
use Rattle.mlk_walk_state.specs.Scope.{scope_of}
use Rattle.mlk_calls.specs.Calls.{called_of}
use Rattle.mlk_calls.proofs.CallSteps.{at_refused}
use Rattle.mlk_calls.proofs.call.at_call.Goals as goal

pub returns-in-Err-Refused : goal.returns-in-Err-Refused
returns-in-Err-Refused c = (
  at_refused (scope_of c.args.scope.now) c.args.how c.args.callee.now (actual_trees c.args.given.now) c.args.state (called_of c.in-Some.target) c.in-Err-Refused.field-0 c.in-Err-Refused.code
      (sym c.in-Some.ensures) c.in-Err-Refused.ensures (search rules),
  refl,
)
