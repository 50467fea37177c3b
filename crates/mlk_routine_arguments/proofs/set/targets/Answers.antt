use Rattle.std.proofs.Common.{map, refl, sym, subst}
use Rattle.std.proofs.lemmas.Result.{err_from_is_err_and}
use Rattle.mlk_syntax.specs.Views.{target_of}
use Rattle.mlk_routine_arguments.specs.PartsRead.{Found, byte_at}
use Rattle.mlk_routine_arguments.specs.Ends.{OneEnds, TargetEnds}
use Rattle.mlk_routine_arguments.specs.CommandGrammar.{IsOneOrEnclosed, IsTarget}
use Rattle.mlk_routine_arguments.proofs.Sequences.{turned_found, turned_denied}
use Rattle.mlk_routine_arguments.proofs.Singles.{enclosed_one, single_one}
use Rattle.mlk_routine_arguments.proofs.Targets.{target_shut}
use Rattle.mlk_routine_arguments.proofs.set.targets.Goals as goal

pub returns-in_err-targets : goal.returns-in_err-targets
returns-in_err-targets c =
    let p = err_from_is_err_and c.from_residual.result c.from_residual.ensures.1 in
    rw (p.1, p.2) (turned_denied (enclosed_one (IsTarget c.args.dialect) TargetEnds (target_shut c.args.dialect) c.args.line.now c.args.at (c.if-has_byte.ensures.yes refl)) c.in_err-targets.field-0.0 c.in_err-targets.ensures)

pub returns-then-has_byte : goal.returns-then-has_byte
returns-then-has_byte c =
    subst (λ l. Found (IsOneOrEnclosed (IsTarget c.args.dialect)) (OneEnds TargetEnds (byte_at c.args.line.now c.args.at)) c.args.line.now c.args.at (map target_of l) c.in_ok-targets.end) (sym c.of.ensures)
    (turned_found (enclosed_one (IsTarget c.args.dialect) TargetEnds (target_shut c.args.dialect) c.args.line.now c.args.at (c.if-has_byte.ensures.yes refl)) (map target_of c.in_ok-targets.targets.items) c.in_ok-targets.end c.in_ok-targets.ensures)

pub returns-in_err-only : goal.returns-in_err-only
returns-in_err-only c =
    let p = err_from_is_err_and c.from_residual-in_err-only.result c.from_residual-in_err-only.ensures.1 in
    rw (p.1, p.2) (turned_denied (single_one (IsTarget c.args.dialect) TargetEnds (target_shut c.args.dialect) c.args.line.now c.args.at (c.if-has_byte.ensures.no refl)) c.in_err-only.field-0.0 c.in_err-only.ensures)

pub returns : goal.returns
returns c =
    subst (λ l. Found (IsOneOrEnclosed (IsTarget c.args.dialect)) (OneEnds TargetEnds (byte_at c.args.line.now c.args.at)) c.args.line.now c.args.at (map target_of l) c.in_ok-only.next) (sym c.one.ensures)
    (turned_found (single_one (IsTarget c.args.dialect) TargetEnds (target_shut c.args.dialect) c.args.line.now c.args.at (c.if-has_byte.ensures.no refl)) (target_of c.in_ok-only.only) c.in_ok-only.next c.in_ok-only.ensures)
