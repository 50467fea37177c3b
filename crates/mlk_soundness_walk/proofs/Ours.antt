-- Commands and calls as they occur in the program.
use Rattle.std.proofs.Common.{Bool, List, ◌++◌}
use Rattle.std.proofs.lemmas.List.Elements.{Contains-append_left, Contains-append_right}
use Rattle.mlk_syntax.specs.Trees.{CallTree, CommandTree, CommandTrees, then_command}
use Rattle.mlk_program.specs.Calls.{in_command, in_commands}
use Rattle.mlk_walk_state.specs.Scope.{Scope}
use Rattle.mlk_soundness_walk.specs.Ours.{AreOurs, IsOf, AreOf}

module _ (sc : Scope) (xs ys : List CallTree) (h : AreOurs sc (xs ++ ys)) where
  pub ours_left : AreOurs sc xs
  ours_left c i = h c (Contains-append_left xs ys c i)

  pub ours_right : AreOurs sc ys
  ours_right c i = h c (Contains-append_right xs ys c i)

module _ (sc : Scope) (may : Bool) (c : CommandTree) (rest : CommandTrees) (h : AreOf sc may (then_command c rest)) where
  pub first_of : IsOf sc may c
  first_of = record { ends = h.at_end.0; reads = h.reads.0; ours = ours_left sc (in_command c) (in_commands rest) h.ours }

  pub rest_of : AreOf sc may rest
  rest_of = record { at_end = h.at_end.1; reads = h.reads.1; ours = ours_right sc (in_command c) (in_commands rest) h.ours }
