-- What the commands of a line create.
use Rattle.std.proofs.Common.{◌≡◌, refl, sym, ap, subst, ◌∙◌, List, [], ◌∷◌, ◌++◌, Some, None, Box, Global, map, append_assoc, append-nil}
use Rattle.std.specs.Prelude.{flat_map}
use Rattle.mlk_syntax.specs.declared.command.Command.{Command}
use Rattle.mlk_syntax.specs.declared.command.Commands.{Commands}
use Rattle.mlk_syntax.specs.declared.command.For.{For}
use Rattle.mlk_syntax.specs.declared.command.Commands.TheViews.{out-Commands, out-For}
use Rattle.mlk_syntax.specs.declared.command.Commands.TheFolds.{fold-For, fold_out-For}
use Rattle.mlk_syntax.specs.declared.routine.Line.{Line}
use Rattle.mlk_syntax.specs.declared.routine.Line.TheViews.{out-Line}
use Rattle.mlk_syntax.specs.declared.routine.Line.TheFolds.{fold_out-Line}
use Rattle.mlk_syntax.specs.Trees.{CommandTrees, finished, HeadTree, LineTrees}
use Rattle.mlk_syntax.specs.Views.{commands_of, command_of, commands_from, commands_step, for_step, line_of, line_step}
use Rattle.mlk_program.specs.declared.news.NewNames.{NewNames}
use Rattle.mlk_program.specs.News.{Adds, new_tree, news_with, news_in, news_at, news_of_lines}
use Rattle.mlk_program.proofs.FoundCommands.{none_last, some_last}

news_from : (cs : List Command) (last : CommandTrees) → news_in (commands_from (map command_of cs) last)
    ≡ flat_map news_with cs ++ news_in last
news_from [] last = refl
news_from (c ∷ cs) last = ap (λ more. news_with c ++ more) (news_from cs last)
    ∙ sym (append_assoc (news_with c) (flat_map news_with cs) (news_in last))

pub news_last : (c : Commands) (old new : List NewNames) → (out-Commands c).last ≡ None
    → Adds (flat_map news_with (out-Commands c).before.items) old new → Adds (news_in (commands_of c)) old new
news_last c old new is h = subst (λ news. Adds news old new)
    (sym (ap news_in (none_last c is) ∙ news_from (out-Commands c).before.items finished
    ∙ append-nil (flat_map news_with (out-Commands c).before.items))) h

pub news_for : (c : Commands) (b : Box For Global) (old mid new : List NewNames) → (out-Commands c).last ≡ Some b
    → Adds (flat_map news_with (out-Commands c).before.items) old mid
    → Adds (news_in (commands_of (out-For b.value).rest)) mid new → Adds (news_in (commands_of c)) old new
news_for c b old mid new is h k = subst (λ news. Adds news old new)
    (sym (ap news_in (some_last c b is)
    ∙ news_from (out-Commands c).before.items (fold-For CommandTrees CommandTrees commands_step for_step b.value)
    ∙ ap (λ more. flat_map news_with (out-Commands c).before.items ++ news_in more)
    (fold_out-For CommandTrees CommandTrees commands_step for_step b.value)))
    (k ∙ ap (λ s. s ++ news_in (commands_of (out-For b.value).rest)) h
    ∙ append_assoc (map new_tree old) (flat_map news_with (out-Commands c).before.items) (news_in (commands_of (out-For b.value).rest)))

pub news_of_line : (l : Line) (old new : List NewNames) → Adds (news_in (commands_of (out-Line l).commands)) old new
    → Adds (news_at (line_of l)) old new
news_of_line l old new h =
    subst (λ x. Adds (news_at x) old new) (sym (fold_out-Line (HeadTree × LineTrees) line_step l)) h

pub news_mapped : (lines : List Line) → flat_map (λ m. news_at (line_of m)) lines ≡ news_of_lines (map line_of lines)
news_mapped [] = refl
news_mapped (l ∷ lines) = ap (λ more. news_at (line_of l) ++ more) (news_mapped lines)
