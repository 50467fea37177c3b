-- Parts of lines.
use Rattle.std.proofs.Common.{◌≡◌, ◌∙◌, ◌++◌, ap, refl, sym, [], ◌∷◌, List, ℕ, Option, None, map, append_assoc}
use Rattle.mlk_syntax.specs.Trees.{HeadTree, LineTrees, no_lines, line}
use Rattle.mlk_syntax.specs.Views.{lines_from}
use Rattle.mlk_cert_parts.specs.declared.case.Case.{Case}
use Rattle.mlk_walk_state.specs.Scope.{Scope}
use Rattle.mlk_walk_lines.specs.Endings.{Around, OfBlock, OfFrame, number_of}
use Rattle.mlk_walk_lines.specs.declared.ending.Ends.{Ends}
use Rattle.mlk_walk_lines.specs.Lines.{Walked, found_in, line_walk, next_head, walk_lines, with_line}
use Rattle.mlk_walk_lines.specs.Parts.{after_all, first_or, joined, part_walk}
use Rattle.mlk_walk_lines.specs.declared.found.LineFault.{LineFault}

goes_on : (around : Around) (rest : LineTrees) → first_or (after_all around) rest ≡ next_head around rest
goes_on OfBlock no_lines = refl
goes_on (OfFrame after) no_lines = refl
goes_on around (line head block rest) = refl

-- All lines of a level are a part, and what follows them follows the part.
whole : (sc : Scope) (around : Around) (lines : LineTrees) → part_walk sc around (after_all around) lines ≡ walk_lines sc around lines
whole sc around no_lines = refl
whole sc around (line head block rest) =
    let inner : Walked = walk_lines sc OfBlock block in
    ap (λ next. with_line (number_of head) inner (line_walk sc around next head block inner) (part_walk sc around (after_all around) rest)) (goes_on around rest)
    ∙ ap (with_line (number_of head) inner (line_walk sc around (next_head around rest) head block inner)) (whole sc around rest)

pub block_whole : (sc : Scope) (lines : LineTrees) → part_walk sc OfBlock None lines ≡ walk_lines sc OfBlock lines
block_whole sc lines = whole sc OfBlock lines

pub entry_whole : (sc : Scope) (after : Option HeadTree) (lines : LineTrees)
    → part_walk sc (OfFrame after) after lines ≡ walk_lines sc (OfFrame after) lines
entry_whole sc after lines = whole sc (OfFrame after) lines

first_of_both : (after : Option HeadTree) (front back : List (HeadTree × LineTrees))
    → first_or after (lines_from (front ++ back)) ≡ first_or (first_or after (lines_from back)) (lines_from front)
first_of_both after [] back = refl
first_of_both after (l ∷ front) back = refl

abbrev walked : List LineFault → List Case → Walked
walked faults ends = record { faults = faults; ends = ends }

line_before : (number : ℕ) (inner : Walked) (own : Ends) (front back : Walked)
    → with_line number inner own (joined front back) ≡ joined (with_line number inner own front) back
line_before number inner own front back =
    let found = map (found_in number) own.faults in
    ap (λ z. walked (inner.faults ++ z) (own.cases ++ (front.ends ++ back.ends))) (sym (append_assoc found front.faults back.faults))
    ∙ ap (λ z. walked z (own.cases ++ (front.ends ++ back.ends))) (sym (append_assoc inner.faults (found ++ front.faults) back.faults))
    ∙ ap (walked ((inner.faults ++ (found ++ front.faults)) ++ back.faults)) (sym (append_assoc own.cases front.ends back.ends))

-- A part that is split is its two parts, the first of which continues into the second.
pub cut : (sc : Scope) (around : Around) (after : Option HeadTree) (front back : List (HeadTree × LineTrees))
    → part_walk sc around after (lines_from (front ++ back))
    ≡ joined (part_walk sc around (first_or after (lines_from back)) (lines_from front)) (part_walk sc around after (lines_from back))
cut sc around after [] back = refl
cut sc around after (l ∷ front) back =
    let inner : Walked = walk_lines sc OfBlock l.1 in
    ap (λ next. with_line (number_of l.0) inner (line_walk sc around next l.0 l.1 inner) (part_walk sc around after (lines_from (front ++ back)))) (first_of_both after front back)
    ∙ ap (with_line (number_of l.0) inner (line_walk sc around (first_or (first_or after (lines_from back)) (lines_from front)) l.0 l.1 inner)) (cut sc around after front back)
    ∙ line_before (number_of l.0) inner (line_walk sc around (first_or (first_or after (lines_from back)) (lines_from front)) l.0 l.1 inner)
    (part_walk sc around (first_or after (lines_from back)) (lines_from front)) (part_walk sc around after (lines_from back))
