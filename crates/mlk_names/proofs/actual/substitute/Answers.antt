use Rattle.mlk_names.specs.declared.term.LockTerm.{LockTerm}
use Rattle.mlk_names.proofs.ActualLemmas.{names_alike}
use Rattle.mlk_names.proofs.actual.substitute.Goals as goal

pub returns-clause-alike : goal.returns-clause-alike
returns-clause-alike c =
    let t = c.args.term.now in
    let u : LockTerm = record { root = c.in_ok-root.root; subs = c.in-Some.subs } in
    let subs = rw (c.as_slice.ensures, c.in-Some.is) at c.in_ok-subs.ensures in
    names_alike c.args.formals.now c.args.actuals.now t u c.in_ok-root.ensures subs
