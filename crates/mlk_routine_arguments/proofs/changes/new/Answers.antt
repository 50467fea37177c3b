use Rattle.std.proofs.Common.{◌≡◌, map, refl, sym, subst, ◌∙◌}
use Rattle.std.proofs.lemmas.List.{map-id}
use Rattle.std.proofs.lemmas.Result.{err_from_is_err_and}
use Rattle.mlk_syntax.specs.Trees.{NewAllBut}
use Rattle.mlk_routine_arguments.specs.PartsRead.{Found}
use Rattle.mlk_routine_arguments.specs.Ends.{NewEnds}
use Rattle.mlk_routine_arguments.specs.CommandGrammar.{IsNew}
use Rattle.mlk_routine_arguments.proofs.Outcomes.{denies}
use Rattle.mlk_routine_arguments.proofs.Sequences.{turned_found, turned_denied}
use Rattle.mlk_routine_arguments.proofs.Names.{new_names, no_new}
use Rattle.mlk_routine_arguments.proofs.changes.new.Goals as goal

pub returns-in_err-names : goal.returns-in_err-names
returns-in_err-names c =
    let p = err_from_is_err_and c.from_residual.result c.from_residual.ensures.1 in
    rw (p.1, p.2) (turned_denied (new_names c.args.line.now c.args.at (c.if-has_byte.ensures.yes refl)) c.in_err-names.field-0.0 c.in_err-names.ensures)

pub returns-then-has_byte : goal.returns-then-has_byte
returns-then-has_byte c =
    let same : map (λ n. n) c.in_ok-names.names.items ≡ c.from.result = map-id c.in_ok-names.names.items ∙ sym c.from.ensures in
    subst (λ l. Found IsNew NewEnds c.args.line.now c.args.at (NewAllBut l) c.in_ok-names.next) same
    (turned_found (new_names c.args.line.now c.args.at (c.if-has_byte.ensures.yes refl)) (map (λ n. n) c.in_ok-names.names.items) c.in_ok-names.next c.in_ok-names.ensures)

pub returns-then-is_special : goal.returns-then-is_special
returns-then-is_special c = denies IsNew NewEnds c.args.line.now c.args.at c.leaves_out.result (c.leaves_out.ensures.fault c.args.line.now c.requires) (no_new c.args.line.now c.args.at (c.if-is_special.ensures refl))
