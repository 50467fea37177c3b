use Rattle.std.proofs.Common.{◌∙◌, sym, ap}
use Rattle.std.specs.Prelude.{if◌then◌else◌}
use Rattle.std.proofs.lemmas.List.Folds.{list_all-map}
use Rattle.mlk_expr.specs.declared.context.Allows.TheVariants.{Everything, NoCalls}
use Rattle.mlk_syntax.specs.Views.{variable_of}
use Rattle.mlk_routine_arguments.specs.CommandGrammar.{is_quiet}
use Rattle.mlk_routine_arguments.proofs.lock.after_names.Goals as goal

pub returns-in-Extended : goal.returns-in-Extended
returns-in-Extended c =
    let quiet = c.are_quiet.ensures ∙ sym (list_all-map is_quiet variable_of c.args.names.now) in
    rw c.in-Extended.is (c.in_timeout.ensures ∙ ap (λ b. if b then Everything else NoCalls) quiet)
