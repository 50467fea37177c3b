-- The number of lines in trees: halves have together as many as the whole, and the block of one line has fewer.
use Rattle.std.proofs.Common.{◌≡◌, ◌<◌, ◌+◌, ◌++◌, ◌∙◌, ℕ, ap, refl, [], ◌∷◌, List, map, arith, subst, sym}
use Rattle.std.proofs.lemmas.List.{map-append}
use Rattle.mlk_syntax.specs.Trees.{HeadTree, LineTrees, no_lines, line}
use Rattle.mlk_syntax.specs.Views.{line_of, line_step, lines_from}
use Rattle.mlk_syntax.specs.declared.routine.Line.{Line}
use Rattle.mlk_syntax.specs.declared.routine.Line.TheViews.{out-Line}
use Rattle.mlk_syntax.specs.declared.routine.Line.TheFolds.{fold_out-Line}

abbrev pub count_in : LineTrees → ℕ
count_in no_lines = 0
count_in (line head block rest) = 1 + (count_in block + count_in rest)

none_before : (n : ℕ) → n ≡ 0 + n
none_before n = omega arith

one_before : (block both front back : ℕ) → both ≡ front + back → 1 + (block + both) ≡ (1 + (block + front)) + back
one_before block both front back h = omega (arith, h)

trees_both : (front back : List (HeadTree × LineTrees)) → count_in (lines_from (front ++ back)) ≡ count_in (lines_from front) + count_in (lines_from back)
trees_both [] back = none_before (count_in (lines_from back))
trees_both (l ∷ front) back =
    one_before (count_in l.1) (count_in (lines_from (front ++ back))) (count_in (lines_from front)) (count_in (lines_from back)) (trees_both front back)

-- the number of lines, including those of their blocks
abbrev pub lines_in : List Line → ℕ
lines_in lines = count_in (lines_from (map line_of lines))

pub both_halves : (lines front back : List Line) → lines ≡ front ++ back → lines_in lines ≡ lines_in front + lines_in back
both_halves lines front back h =
    ap lines_in h ∙ ap (λ z. count_in (lines_from z)) (map-append line_of front back) ∙ trees_both (map line_of front) (map line_of back)

one_more : (block below : ℕ) → below ≡ block → block < 1 + (below + 0)
one_more block below h = omega (arith, h)

pub block_below : (lines : List Line) (l : Line) → lines ≡ l ∷ [] → lines_in (out-Line l).block.items < lines_in lines
block_below lines l h =
    let opened = ap (λ (x : HeadTree × LineTrees). count_in x.1) (fold_out-Line (HeadTree × LineTrees) line_step l) in
    subst (λ z. lines_in (out-Line l).block.items < z) (sym (ap lines_in h)) (one_more (lines_in (out-Line l).block.items) (count_in (line_of l).1) opened)
