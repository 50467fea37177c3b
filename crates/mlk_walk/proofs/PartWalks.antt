-- The walk of a part from those of its halves, and the walk of one line after that of its block.
use Rattle.std.proofs.Common.{◌≡◌, ◌∙◌, ◌++◌, ap, refl, sym, subst, [], ◌∷◌, List, ℕ, Option, None, map}
use Rattle.std.proofs.lemmas.List.{map-append, append-nil}
use Rattle.mlk_syntax.specs.Trees.{HeadTree, LineTrees}
use Rattle.mlk_syntax.specs.Views.{line_of, line_step, lines_from}
use Rattle.mlk_syntax.specs.declared.routine.Line.{Line}
use Rattle.mlk_syntax.specs.declared.routine.Line.TheViews.{out-Line}
use Rattle.mlk_syntax.specs.declared.routine.Line.TheFolds.{fold_out-Line}
use Rattle.mlk_cert_parts.specs.declared.case.Case.{Case}
use Rattle.mlk_walk_state.specs.Scope.{Scope}
use Rattle.mlk_walk_exprs.specs.declared.walk.Fault.{Fault}
use Rattle.mlk_walk_exprs.specs.declared.walk.Note.{Note}
use Rattle.mlk_walk_lines.specs.declared.found.LineFault.{LineFault}
use Rattle.mlk_walk_lines.specs.Endings.{Around, OfBlock, head_of, number_of}
use Rattle.mlk_walk_lines.specs.Lines.{Walked, block_with, found_in, head_walk, walk_lines}
use Rattle.mlk_walk_lines.specs.Parts.{first_or, joined, part_walk}
use Rattle.mlk_walk_lines.proofs.Parts.{block_whole, cut}
use Rattle.mlk_walk.specs.Parts.{IsWalk}
use Rattle.mlk_walk.specs.declared.parts.PartWalk.{PartWalk}

cut_lines : (sc : Scope) (around : Around) (after : Option HeadTree) (lines front back : List Line) → lines ≡ front ++ back
    → part_walk sc around after (lines_from (map line_of lines))
    ≡ joined (part_walk sc around (first_or after (lines_from (map line_of back))) (lines_from (map line_of front)))
    (part_walk sc around after (lines_from (map line_of back)))
cut_lines sc around after lines front back h =
    ap (λ z. part_walk sc around after (lines_from (map line_of z))) h
    ∙ ap (λ z. part_walk sc around after (lines_from z)) (map-append line_of front back)
    ∙ cut sc around after (map line_of front) (map line_of back)

-- the faults without their notes
abbrev faults_of : List (LineFault × Note) → List LineFault
faults_of noted = map (λ f. f.0) noted

-- two walks, one after another
pub joined_walks : (first second : Walked) (f s w : PartWalk) → IsWalk first f → IsWalk second s
    → w.faults.items ≡ f.faults.items ++ s.faults.items → w.ends.items ≡ f.ends.items ++ s.ends.items → IsWalk (joined first second) w
joined_walks first second f s w h k faults ends = (
  ap faults_of faults
      ∙ map-append (λ f. f.0) f.faults.items s.faults.items
      ∙ ap (λ z. z ++ faults_of s.faults.items) h.0
      ∙ ap (λ z. first.faults ++ z) k.0,
  ends ∙ ap (λ z. z ++ s.ends.items) h.1 ∙ ap (λ z. first.ends ++ z) k.1,
)

pub halves_joined : (sc : Scope) (around front_around back_around : Around) (after front_after back_after : Option HeadTree)
    (lines front back : List Line) (f s w : PartWalk) → lines ≡ front ++ back → front_around ≡ around → back_around ≡ around
    → front_after ≡ first_or after (lines_from (map line_of back)) → back_after ≡ after
    → IsWalk (part_walk sc front_around front_after (lines_from (map line_of front))) f
    → IsWalk (part_walk sc back_around back_after (lines_from (map line_of back))) s
    → w.faults.items ≡ f.faults.items ++ s.faults.items → w.ends.items ≡ f.ends.items ++ s.ends.items
    → IsWalk (part_walk sc around after (lines_from (map line_of lines))) w
halves_joined sc around front_around back_around after front_after back_after lines front back f s w parted around_front around_back after_front after_back h k faults ends =
    let first : Walked = part_walk sc around (first_or after (lines_from (map line_of back))) (lines_from (map line_of front)) in
    let second : Walked = part_walk sc around after (lines_from (map line_of back)) in
    let h' : IsWalk first f =
    subst (λ z. IsWalk z f)
    (ap (λ a. part_walk sc a front_after (lines_from (map line_of front))) around_front ∙ ap (λ n. part_walk sc around n (lines_from (map line_of front))) after_front) h in
    let k' : IsWalk second s =
    subst (λ z. IsWalk z s)
    (ap (λ a. part_walk sc a back_after (lines_from (map line_of back))) around_back ∙ ap (λ n. part_walk sc around n (lines_from (map line_of back))) after_back) k in
    subst (λ z. IsWalk z w) (sym (cut_lines sc around after lines front back parted)) (joined_walks first second f s w h' k' faults ends)

-- a line's block as a part of its own
pub block_walk : (sc : Scope) (l : Line) (w : PartWalk) → IsWalk (part_walk sc OfBlock None (lines_from (map line_of (out-Line l).block.items))) w
    → IsWalk (walk_lines sc OfBlock (line_of l).1) w
block_walk sc l w h =
    subst (λ z. IsWalk z w)
    (block_whole sc (lines_from (map line_of (out-Line l).block.items))
    ∙ sym (ap (λ (x : HeadTree × LineTrees). walk_lines sc OfBlock x.1) (fold_out-Line (HeadTree × LineTrees) line_step l))) h

-- one line, after its block
pub line_walked : (sc : Scope) (around : Around) (after : Option HeadTree) (lines : List Line) (l : Line) (block w : PartWalk) (found : List (LineFault × Note))
    → lines ≡ l ∷ [] → IsWalk (walk_lines sc OfBlock (line_of l).1) block
    → map (λ f. f.0) found ≡ map (found_in (number_of (head_of l))) (head_walk sc around after (block_with (line_of l).1 block.ends.items) (head_of l)).faults
    → w.faults.items ≡ block.faults.items ++ found
    → w.ends.items ≡ (head_walk sc around after (block_with (line_of l).1 block.ends.items) (head_of l)).cases
    → IsWalk (part_walk sc around after (lines_from (map line_of lines))) w
line_walked sc around after lines l block w found one inner own faults ends =
    let walked : Walked = walk_lines sc OfBlock (line_of l).1 in
    let own_of = λ (e : List Case). head_walk sc around after (block_with (line_of l).1 e) (head_of l) in
    let in_line : List Fault → List LineFault = map (found_in (number_of (head_of l))) in
    subst (λ (z : List Line). IsWalk (part_walk sc around after (lines_from (map line_of z))) w) (sym one) (
      ap faults_of faults
          ∙ map-append (λ f. f.0) block.faults.items found
          ∙ ap (λ z. z ++ faults_of found) inner.0
          ∙ ap (λ z. walked.faults ++ z) (own ∙ ap (λ e. in_line (own_of e).faults) inner.1 ∙ sym (append-nil (in_line (own_of walked.ends).faults))),
      ends ∙ ap (λ e. (own_of e).cases) inner.1 ∙ sym (append-nil (own_of walked.ends).cases),
    )
