-- Lines and their commands, taken apart by one level.
use Rattle.std.proofs.Common.{◌≡◌, ap, sym, refl, List, [], ◌∷◌, Option, Some, None, Box, Global, ℕ}
use Rattle.std.specs.Prelude.{map, option_map}
use Rattle.mlk_syntax.specs.declared.command.Commands.{Commands}
use Rattle.mlk_syntax.specs.declared.command.Control.{Control}
use Rattle.mlk_syntax.specs.declared.command.For.{For}
use Rattle.mlk_syntax.specs.declared.command.Commands.TheViews.{out-Commands, out-For}
use Rattle.mlk_syntax.specs.declared.command.Commands.TheFolds.{fold_out-For}
use Rattle.mlk_syntax.specs.declared.routine.Line.{Line}
use Rattle.mlk_syntax.specs.declared.routine.Line.TheViews.{out-Line}
use Rattle.mlk_syntax.specs.declared.routine.Line.TheFolds.{fold_out-Line}
use Rattle.mlk_syntax.specs.Trees.{CommandTrees, then_for, HeadTree, LineTrees, LineHead}
use Rattle.mlk_syntax.specs.Views.{commands_of, command_of, control_of, parameter_of, commands_from, commands_step, for_step, last_or_none, line_of, line_step, lines_from}
use Rattle.mlk_program.specs.Entries.{formals_of}
use Rattle.mlk_program.proofs.FoundCommands.{none_last, some_last}
use Rattle.mlk_machine_jobs.specs.Tasks.{LineTree, Forever, Parameters}
use Rattle.mlk_machine_jobs.specs.Lines.{next_command}
use Rattle.mlk_machine_jobs.specs.Calling.{formals_in}
use Rattle.mlk_machine_jobs.specs.TaskViews.{for_of, block_of}

commands_with : (c : Commands) (o : Option (Box For Global)) → (out-Commands c).last ≡ o
    → commands_from (map command_of (out-Commands c).before.items) (last_or_none (option_map (λ b. for_of b.value) o))
    ≡ commands_of c
commands_with c None is = sym (none_last c is)
commands_with c (Some b) is = sym (some_last c b is)

pub commands_out : (c : Commands)
    → commands_from (map command_of (out-Commands c).before.items)
    (last_or_none (option_map (λ b. for_of b.value) (out-Commands c).last))
    ≡ commands_of c
commands_out c = commands_with c (out-Commands c).last refl

for_out : (f : For) → for_of f
    ≡ then_for (out-For f).column (out-For f).index (option_map control_of (out-For f).control) (commands_of (out-For f).rest)
for_out f = fold_out-For CommandTrees CommandTrees commands_step for_step f

pub for_without : (f : For) (here : LineTree) → (out-For f).control ≡ None
    → next_command (for_of f) here [] ≡ Forever (commands_of (out-For f).rest) here ∷ []
for_without f here is = rw (for_out f, is) refl

pub for_with : (f : For) (c : Control) (here : LineTree) → (out-For f).control ≡ Some c
    → next_command (for_of f) here []
    ≡ Parameters c.variable (map parameter_of c.parameters.items) (commands_of (out-For f).rest) here ∷ []
for_with f c here is = rw (for_out f, is) refl

pub line_out : (l : Line) → line_of l
    ≡ (
      LineHead (out-Line l).number (out-Line l).level (out-Line l).end (out-Line l).label (out-Line l).formals
          (commands_of (out-Line l).commands),
      lines_from (map line_of (out-Line l).block.items),
    )
line_out l = fold_out-Line (HeadTree × LineTrees) line_step l

pub block_out : (l : Line) → block_of (out-Line l).block.items ≡ (line_of l).1
block_out l = ap (λ (p : LineTree). p.1) (sym (line_out l))

pub formals_out : (l : Line) → formals_of (line_of l).0 ≡ (out-Line l).formals
formals_out l = ap (λ (p : HeadTree × LineTrees). formals_of p.0) (line_out l)

formals_with : (l : Line) (o : Option (List (List ℕ))) → (out-Line l).formals ≡ o
    → formals_in (line_of l).0 ≡ formals_in (LineHead 0 0 0 None o (commands_of (out-Line l).commands))
formals_with l o is = rw (line_out l, is) (same o)
  where
    same : (p : Option (List (List ℕ)))
        → formals_in (LineHead (out-Line l).number (out-Line l).level (out-Line l).end (out-Line l).label p (commands_of (out-Line l).commands))
        ≡ formals_in (LineHead 0 0 0 None p (commands_of (out-Line l).commands))
    same None = refl
    same (Some formals) = refl

pub formals_none : (l : Line) → (out-Line l).formals ≡ None → formals_in (line_of l).0 ≡ []
formals_none l is = formals_with l None is

pub formals_some : (l : Line) (formals : List (List ℕ)) → (out-Line l).formals ≡ Some formals
    → formals_in (line_of l).0 ≡ formals
formals_some l formals is = formals_with l (Some formals) is
