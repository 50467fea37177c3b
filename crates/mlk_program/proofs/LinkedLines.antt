-- The calls of lines.
use Rattle.std.proofs.Common.{◌≡◌, refl, sym, ap, ◌∙◌, ℕ, List, [], ◌∷◌, ◌++◌, map, append_assoc}
use Rattle.std.specs.Prelude.{flat_map}
use Rattle.mlk_syntax.specs.declared.routine.Line.{Line}
use Rattle.mlk_syntax.specs.declared.routine.Line.TheViews.{out-Line}
use Rattle.mlk_syntax.specs.declared.routine.Line.TheFolds.{fold_out-Line}
use Rattle.mlk_syntax.specs.Trees.{HeadTree, LineTrees}
use Rattle.mlk_syntax.specs.Views.{line_of, line_step, lines_from, commands_of}
use Rattle.mlk_program.specs.declared.call.CallSite.{CallSite}
use Rattle.mlk_program.specs.Calls.{in_commands}
use Rattle.mlk_program.specs.Found.{Finds, site_of}
use Rattle.mlk_program.specs.Program.{placed, calls_in}
use Rattle.mlk_program.specs.Linking.{placed_at, placed_in}

pub calls_flat : (r : ℕ) (lines : List Line) → calls_in r (lines_from (map line_of lines)) ≡ flat_map (placed_in r) lines
calls_flat r [] = refl
calls_flat r (l ∷ lines) = ap (λ more. placed r (line_of l).0 ++ (calls_in r (line_of l).1 ++ more)) (calls_flat r lines)
    ∙ sym (append_assoc (placed r (line_of l).0) (calls_in r (line_of l).1) (flat_map (placed_in r) lines))

sites_flat : (r n : ℕ) (sites : List CallSite) → map (λ c. record { routine = r; line = n; call = c }) (map site_of sites)
    ≡ flat_map (placed_at r n) sites
sites_flat r n [] = refl
sites_flat r n (s ∷ sites) = ap (λ more. record { routine = r; line = n; call = site_of s } ∷ more) (sites_flat r n sites)

-- a line's calls: those found in its commands, and those of its block
pub line_parts : (r : ℕ) (l : Line) (sites : List CallSite) → Finds (in_commands (commands_of (out-Line l).commands)) [] sites
    → placed_in r l ≡ flat_map (placed_at r (out-Line l).number) sites ++ flat_map (placed_in r) (out-Line l).block.items
line_parts r l sites found =
    ap (λ x. placed r x.0 ++ calls_in r x.1) (fold_out-Line (HeadTree × LineTrees) line_step l)
    ∙ ap (λ calls. map (λ c. record { routine = r; line = (out-Line l).number; call = c }) calls ++ calls_in r (lines_from (map line_of (out-Line l).block.items))) (sym found)
    ∙ ap (λ calls. calls ++ calls_in r (lines_from (map line_of (out-Line l).block.items))) (sites_flat r (out-Line l).number sites)
    ∙ ap (λ more. flat_map (placed_at r (out-Line l).number) sites ++ more) (calls_flat r (out-Line l).block.items)
