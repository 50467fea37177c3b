use Rattle.std.proofs.Common.{◌≡◌, map, refl, sym, subst, ◌∙◌}
use Rattle.std.proofs.lemmas.List.{map-id}
use Rattle.std.proofs.lemmas.Result.{err_from_is_err_and}
use Rattle.mlk_syntax.specs.Trees.{KillAllBut}
use Rattle.mlk_routine_arguments.specs.PartsRead.{Found}
use Rattle.mlk_routine_arguments.specs.Ends.{KillEnds}
use Rattle.mlk_routine_arguments.specs.CommandGrammar.{IsKill}
use Rattle.mlk_routine_arguments.proofs.Sequences.{turned_found, turned_denied}
use Rattle.mlk_routine_arguments.proofs.Names.{kill_names}
use Rattle.mlk_routine_arguments.proofs.changes.kill.Goals as goal

pub returns-in_err-names : goal.returns-in_err-names
returns-in_err-names c =
    let p = err_from_is_err_and c.from_residual.result c.from_residual.ensures.1 in
    rw (p.1, p.2) (turned_denied (kill_names c.args.line.now c.args.at (c.if-has_byte.ensures.yes refl)) c.in_err-names.field-0.0 c.in_err-names.ensures)

pub returns-then-has_byte : goal.returns-then-has_byte
returns-then-has_byte c =
    let same : map (λ n. n) c.in_ok-names.names.items ≡ c.from.result = map-id c.in_ok-names.names.items ∙ sym c.from.ensures in
    subst (λ l. Found IsKill KillEnds c.args.line.now c.args.at (KillAllBut l) c.in_ok-names.next) same
    (turned_found (kill_names c.args.line.now c.args.at (c.if-has_byte.ensures.yes refl)) (map (λ n. n) c.in_ok-names.names.items) c.in_ok-names.next c.in_ok-names.ensures)
