-- How the walks of lines and their commands unfold.
use Rattle.std.specs.Prelude.{fold, option_map, OnOk}
use Rattle.std.proofs.Common.{◌≡◌, ◌∙◌, ap, sym, subst, refl, List, [], ◌∷◌, ◌++◌, map, Some, None, Result, Box, Global}
use Rattle.mlk_syntax.specs.declared.command.Command.{Command}
use Rattle.mlk_syntax.specs.declared.command.Commands.{Commands}
use Rattle.mlk_syntax.specs.declared.command.For.{For}
use Rattle.mlk_syntax.specs.declared.command.Commands.TheViews.{out-Commands, out-For}
use Rattle.mlk_syntax.specs.declared.command.Commands.TheFolds.{fold-For, fold_out-For}
use Rattle.mlk_syntax.specs.Trees.{CommandTrees, finished}
use Rattle.mlk_syntax.specs.Views.{commands_of, command_of, control_of, commands_from, commands_step, for_step}
use Rattle.mlk_program.proofs.FoundCommands.{none_last, some_last}
use Rattle.mlk_cert_parts.specs.declared.case.Test.{Test}
use Rattle.mlk_cert_parts.specs.declared.case.Case.{Case}
use Rattle.mlk_walk_state.specs.Scope.{listed}
use Rattle.mlk_walk_state.specs.Cases.{last_saved, before_last}
use Rattle.mlk_walk_exprs.specs.declared.walk.Walk.{Walk}
use Rattle.mlk_walk_exprs.specs.Walks.{begin}
use Rattle.mlk_walk_exprs.specs.Spots.{Spot}
use Rattle.mlk_walk_lines.specs.Loops.{at_word, one_command, after_rounds, commands}

module _ (p : Spot) where
  -- the commands before a FOR are walked one after another
  done_before : (cs : List Command) (last : CommandTrees) (w : Walk) → commands p (commands_from (map command_of cs) last) w
      ≡ commands p last (fold (one_command p) w (map command_of cs))
  done_before [] last w = refl
  done_before (c ∷ cs) last w = done_before cs last (one_command p w (command_of c))

  pub without_for : (c : Commands) (w : Walk) → (out-Commands c).last ≡ None → commands p (commands_of c) w
      ≡ fold (one_command p) w (map command_of (out-Commands c).before.items)
  without_for c w is = ap (λ t. commands p t w) (none_last c is) ∙ done_before (out-Commands c).before.items finished w

  pub with_for : (c : Commands) (b : Box For Global) (w : Walk) → (out-Commands c).last ≡ Some b → commands p (commands_of c) w
      ≡ after_rounds (at_word p (out-For b.value).column) (option_map control_of (out-For b.value).control)
      (listed p.scope p.line (out-For b.value).index)
      (commands p (commands_of (out-For b.value).rest) (begin (listed p.scope p.line (out-For b.value).index)))
      (fold (one_command p) w (map command_of (out-Commands c).before.items))
  with_for c b w is = ap (λ t. commands p t w) (some_last c b is)
      ∙ done_before (out-Commands c).before.items (fold-For CommandTrees CommandTrees commands_step for_step b.value) w
      ∙ ap (λ t. commands p t (fold (one_command p) w (map command_of (out-Commands c).before.items)))
      (fold_out-For CommandTrees CommandTrees commands_step for_step b.value)

-- the last of the saved tests, and those before it
pub last_is : (before : List Test) (t : Test) → last_saved (before ++ t ∷ []) ≡ Some t
last_is [] t = refl
last_is (a ∷ []) t = refl
last_is (a ∷ b ∷ before) t = last_is (b ∷ before) t

pub before_is : (before : List Test) (t : Test) → before_last (before ++ t ∷ []) ≡ before
before_is [] t = refl
before_is (a ∷ []) t = refl
before_is (a ∷ b ∷ before) t = ap (λ z. a ∷ z) (before_is (b ∷ before) t)

pub carried : {T E : Type 0} (r : Result T E) (w a b : Walk) → OnOk r (w ≡ a) → b ≡ a → OnOk r (w ≡ b)
carried r w a b h e = subst (λ z. OnOk r (w ≡ z)) (sym e) h

-- a FOR is done: the commands before it, its rounds from the cases that are listed for them, and what follows
pub for_done : {T E : Type 0} (c : Commands) (b : Box For Global) (p here : Spot) (cases : List Case) (w v first inner x : Walk) (r : Result T E)
    → (out-Commands c).last ≡ Some b → v ≡ fold (one_command p) w (map command_of (out-Commands c).before.items)
    → cases ≡ listed p.scope p.line (out-For b.value).index → first ≡ begin cases
    → inner ≡ commands p (commands_of (out-For b.value).rest) first → here ≡ at_word p (out-For b.value).column
    → OnOk r (x ≡ after_rounds here (option_map control_of (out-For b.value).control) cases inner v)
    → OnOk r (x ≡ commands p (commands_of c) w)
for_done c b p here cases w v first inner x r is before at begun rounds word h =
    carried r x (after_rounds here (option_map control_of (out-For b.value).control) cases inner v) _ h
    (with_for p c b w is ∙ sym (rw (word, rounds, begun, at, before) refl))
