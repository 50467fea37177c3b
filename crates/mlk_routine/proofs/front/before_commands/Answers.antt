use Rattle.std.proofs.Common.{subst}
use Rattle.std.proofs.lemmas.Result.{err_from_is_err_and}
use Rattle.mlk_routine_arguments.specs.PartsRead.{Found, Nowhere}
use Rattle.mlk_routine.specs.Lines.{IsFormalsPart, FormalsPartEnds, IsOpening, OpeningEnds, IsFront, FrontEnds}
use Rattle.mlk_routine_arguments.proofs.Outcomes.{hands_on}
use Rattle.mlk_routine.proofs.Fronts.{no_formals_front, no_opening_front, front_found}
use Rattle.mlk_routine.proofs.front.before_commands.Goals as goal

pub returns-in_err-formals : goal.returns-in_err-formals
returns-in_err-formals c =
    let p = err_from_is_err_and c.from_residual.result c.from_residual.ensures.1 in
    let line = c.args.line.now in
    rw (p.1, p.2) (hands_on (IsFormalsPart c.is_some.result) (FormalsPartEnds c.is_some.result) IsFront FrontEnds line 0 c.args.at
    (λ f. no_formals_front line c.args.label c.args.at c.requires.0.within c.requires (subst (λ b. Nowhere (IsFormalsPart b) (FormalsPartEnds b) line c.args.at) c.is_some.ensures f)) c.in_err-formals.field-0.0 c.in_err-formals.ensures)

pub returns-in_err-level : goal.returns-in_err-level
returns-in_err-level c =
    let p = err_from_is_err_and c.from_residual-in_err-level.result c.from_residual-in_err-level.ensures.1 in
    let line = c.args.line.now in
    let list = subst (λ b. Found (IsFormalsPart b) (FormalsPartEnds b) line c.args.at c.in_ok-formals.formals c.in_ok-formals.next) c.is_some.ensures c.in_ok-formals.ensures in
    rw (p.1, p.2) (hands_on IsOpening OpeningEnds IsFront FrontEnds line 0 c.in_ok-formals.next
    (λ f. no_opening_front line c.args.label c.args.at c.requires.0.within c.requires c.in_ok-formals.formals c.in_ok-formals.next list f) c.in_err-level.field-0.0 c.in_err-level.ensures)

pub returns : goal.returns
returns c =
    let line = c.args.line.now in
    let list = subst (λ b. Found (IsFormalsPart b) (FormalsPartEnds b) line c.args.at c.in_ok-formals.formals c.in_ok-formals.next) c.is_some.ensures c.in_ok-formals.ensures in
    front_found line c.args.label c.args.at c.requires.0.within c.requires c.in_ok-formals.formals c.in_ok-formals.next list c.in_ok-level.level c.in_ok-level.next c.in_ok-level.ensures
