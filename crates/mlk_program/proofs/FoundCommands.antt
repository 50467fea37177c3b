-- The calls of a line's commands.
use Rattle.std.proofs.Common.{◌≡◌, refl, subst, ap, ◌∙◌, sym, ℕ, List, [], ◌∷◌, ◌++◌, Option, Some, None, Vec, Box, Global, append_assoc, append-nil}
use Rattle.std.specs.Prelude.{map, flat_map, option_map}
use Rattle.mlk_syntax.specs.ExprTrees.{tree_of, actual_trees, trees}
use Rattle.mlk_syntax.specs.declared.expr.Expr.{Expr}
use Rattle.mlk_syntax.specs.declared.expr.Actual.{Actual}
use Rattle.mlk_syntax.specs.declared.expr.Callee.{Callee}
use Rattle.mlk_syntax.specs.declared.command.Command.{Command}
use Rattle.mlk_syntax.specs.declared.command.Commands.{Commands}
use Rattle.mlk_syntax.specs.declared.command.Control.{Control}
use Rattle.mlk_syntax.specs.declared.command.For.{For}
use Rattle.mlk_syntax.specs.declared.command.Commands.TheViews.{out-Commands, out-For}
use Rattle.mlk_syntax.specs.declared.command.Commands.TheFolds.{fold-For, fold_out-Commands, fold_out-For}
use Rattle.mlk_syntax.specs.Trees.{CallTree, Called, CommandTrees, finished}
use Rattle.mlk_syntax.specs.Views.{commands_of, command_of, control_of, commands_from, commands_step, for_step}
use Rattle.mlk_program.specs.declared.call.CallSite.{CallSite}
use Rattle.mlk_program.specs.Calls.{in_tree, in_call, in_actual, in_command, in_control, in_commands}
use Rattle.mlk_program.specs.Found.{Finds, site_of, of_expr, of_actual, of_option, given_of}
use Rattle.mlk_program.proofs.FoundCalls.{finds_both, finds_then_all}

-- a call with its actuals
pub finds_call_with : (column : ℕ) (callee : Callee) (o : Option (Vec Actual Global)) (old mid new : List CallSite)
    → Finds (Called column callee (given_of o) ∷ []) old mid → Finds (of_option (λ v. flat_map of_actual v.items) o) mid new
    → Finds (in_call (Called column callee (given_of o))) old new
finds_call_with column callee None old mid new h k = finds_both (Called column callee None ∷ []) [] old mid new h k
finds_call_with column callee (Some v) old mid new h k =
    finds_then_all in_actual _ v.items (Called column callee (Some (actual_trees v.items)) ∷ []) old mid new h k

-- arguments after a name
pub finds_then_exprs : (a : List CallTree) (es : List Expr) (old mid new : List CallSite) → Finds a old mid
    → Finds (flat_map of_expr es) mid new → Finds (a ++ flat_map in_tree (trees es)) old new
finds_then_exprs a es old mid new h k = finds_then_all in_tree tree_of es a old mid new h k

calls_from : (cs : List Command) (last : CommandTrees) → in_commands (commands_from (map command_of cs) last)
    ≡ flat_map (λ c. in_command (command_of c)) cs ++ in_commands last
calls_from [] last = refl
calls_from (c ∷ cs) last = ap (λ more. in_command (command_of c) ++ more) (calls_from cs last)
    ∙ sym (append_assoc (in_command (command_of c)) (flat_map (λ d. in_command (command_of d)) cs) (in_commands last))

abbrev before : Commands → List CallTree
before c = flat_map (λ d. in_command (command_of d)) (out-Commands c).before.items

pub none_last : (c : Commands) → (out-Commands c).last ≡ None
    → commands_of c ≡ commands_from (map command_of (out-Commands c).before.items) finished
none_last c is = fold_out-Commands CommandTrees CommandTrees commands_step for_step c ∙ rw is refl

pub some_last : (c : Commands) (b : Box For Global) → (out-Commands c).last ≡ Some b
    → commands_of c ≡ commands_from (map command_of (out-Commands c).before.items)
    (fold-For CommandTrees CommandTrees commands_step for_step b.value)
some_last c b is = fold_out-Commands CommandTrees CommandTrees commands_step for_step c ∙ rw is refl

calls_last : (c : Commands) → (out-Commands c).last ≡ None → in_commands (commands_of c) ≡ before c ++ []
calls_last c is = ap in_commands (none_last c is)
    ∙ calls_from (out-Commands c).before.items finished

calls_for : (f : For) → in_commands (fold-For CommandTrees CommandTrees commands_step for_step f)
    ≡ of_option (λ k. in_control (Some (control_of k))) (out-For f).control ++ in_commands (commands_of (out-For f).rest)
calls_for f = ap in_commands (fold_out-For CommandTrees CommandTrees commands_step for_step f)
    ∙ ap (λ a. a ++ in_commands (commands_of (out-For f).rest)) (go (out-For f).control)
  where
    go : (o : Option Control) → in_control (option_map control_of o) ≡ of_option (λ k. in_control (Some (control_of k))) o
    go None = refl
    go (Some k) = refl

calls_with_for : (c : Commands) (b : Box For Global) → (out-Commands c).last ≡ Some b → in_commands (commands_of c)
    ≡ before c ++ (of_option (λ k. in_control (Some (control_of k))) (out-For b.value).control
    ++ in_commands (commands_of (out-For b.value).rest))
calls_with_for c b is = ap in_commands (some_last c b is)
    ∙ calls_from (out-Commands c).before.items (fold-For CommandTrees CommandTrees commands_step for_step b.value)
    ∙ ap (λ more. before c ++ more) (calls_for b.value)

-- a line without FOR, and one with it
pub finds_commands : (c : Commands) (old new : List CallSite) → (out-Commands c).last ≡ None
    → Finds (flat_map (λ d. in_command (command_of d)) (out-Commands c).before.items) old new
    → Finds (in_commands (commands_of c)) old new
finds_commands c old new is h = subst (λ calls. Finds calls old new) (sym (calls_last c is))
    (finds_both (before c) [] old new new h (sym (append-nil (map site_of new))))

pub finds_for : (c : Commands) (b : Box For Global) (old mid next new : List CallSite) → (out-Commands c).last ≡ Some b
    → Finds (flat_map (λ d. in_command (command_of d)) (out-Commands c).before.items) old mid
    → Finds (of_option (λ k. in_control (Some (control_of k))) (out-For b.value).control) mid next
    → Finds (in_commands (commands_of (out-For b.value).rest)) next new → Finds (in_commands (commands_of c)) old new
finds_for c b old mid next new is h k m = subst (λ calls. Finds calls old new) (sym (calls_with_for c b is))
    (finds_both (before c) _ old mid new h (finds_both _ _ mid next new k m))
