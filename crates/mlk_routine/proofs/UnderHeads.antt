-- Consecutive lines, as blocks under their heads.
use Rattle.std.proofs.Common.{◌≡◌, ◌<◌, ◌≤◌, ℕ, suc, List, [], ◌∷◌, ◌++◌, length, map, Bool, true, false, inl, inr, refl, sym, ap, ◌∙◌, arith, subst, append_assoc, append-nil, length-append}
use Rattle.std.specs.Prelude.{◌⊎◌}
use Rattle.std.proofs.lemmas.Bool.{cases_Bool}
use Rattle.mlk_syntax.specs.declared.routine.Line.{Line}
use Rattle.mlk_syntax.specs.declared.routine.Line.TheOpen.{Line-F}
use Rattle.mlk_syntax.specs.declared.routine.Line.TheViews.{out-Line, roll-Line}
use Rattle.mlk_syntax.specs.declared.routine.Line.TheFolds.{fold_out-Line, fold-roll-Line}
use Rattle.mlk_syntax.specs.Trees.{HeadTree, LineHead, LineTrees, no_lines, line}
use Rattle.mlk_syntax.specs.Views.{line_of, lines_from, line_step, commands_of}
use Rattle.mlk_routine.specs.RoutineGrammar.{heads_of, level_of, reaches, AreNested}
use Rattle.mlk_routine.specs.Lines.{head_of, Follow, Upto, IsBlock, IsNotDeeper}

pub follow_upto : (last : ℕ) (reached : Bool) (heads : List HeadTree) → Follow last reached heads → Upto (suc last) heads
follow_upto last reached [] h = tt
follow_upto last reached (head ∷ heads) (inl low, more) = (omega (arith, low), more)
follow_upto last reached (head ∷ heads) (inr deep, more) = let same = deep.0 in (omega (arith, same), more)

unreached_upto : (last : ℕ) (heads : List HeadTree) → Follow last false heads → Upto last heads
unreached_upto last [] h = tt
unreached_upto last (head ∷ heads) (inl low, more) = (low, more)
unreached_upto last (head ∷ heads) (inr deep, more) = cc deep.1

-- a block begins exactly if the line before it reaches it
block_reached : (head : HeadTree) (heads rest : List HeadTree) (block : LineTrees) → Follow (level_of head) (reaches head) heads → IsBlock (level_of head) block heads rest → (block ≡ no_lines) ⊎ (reaches head ≡ true)
block_reached head heads rest no_lines follow is = inl refl
block_reached head heads rest (line k under next) follow (nested, joined, upto) = go (cases_Bool (reaches head))
  where
    go : (reaches head ≡ true) ⊎ (reaches head ≡ false) → (line k under next ≡ no_lines) ⊎ (reaches head ≡ true)
    go (inl e) = inr e
    go (inr e) =
        let low = subst (Upto (level_of head)) joined (unreached_upto (level_of head) heads (subst (λ b. Follow (level_of head) b heads) e follow)) in
        let first = low.0 in
        let deep = nested.0 in
        absurd (omega (arith, first, deep))

nested_snoc : (n : ℕ) (ls : List (HeadTree × LineTrees)) (head : HeadTree) (block : LineTrees) → AreNested n (lines_from ls) → level_of head ≡ n → (block ≡ no_lines) ⊎ (reaches head ≡ true) → AreNested (suc n) block → AreNested n (lines_from (ls ++ (head, block) ∷ []))
nested_snoc n [] head block nested level reached under = (level, reached, under, tt)
nested_snoc n (l ∷ ls) head block (first, reach, inside, more) level reached under = (first, reach, inside, nested_snoc n ls head block more level reached under)

heads_snoc : (ls : List (HeadTree × LineTrees)) (head : HeadTree) (block : LineTrees) → heads_of (lines_from (ls ++ (head, block) ∷ [])) ≡ heads_of (lines_from ls) ++ (head ∷ heads_of block)
heads_snoc [] head block = ap (λ l. head ∷ l) (append-nil (heads_of block))
heads_snoc (l ∷ ls) head block =
    ap (λ k. l.0 ∷ (heads_of l.1 ++ k)) (heads_snoc ls head block) ∙ ap (λ k. l.0 ∷ k) (sym (append_assoc (heads_of l.1) (heads_of (lines_from ls)) (head ∷ heads_of block)))

-- Lines, some of which were turned into blocks, at the front of others.
pub record BlocksSoFar (level : ℕ) (start : List HeadTree) (found : List (HeadTree × LineTrees)) (left : List HeadTree) : Type 0 where
  pub nested : AreNested (suc level) (lines_from found)
  pub joined : start ≡ heads_of (lines_from found) ++ left
  pub upto : Upto (suc level) left

pub blocks_begin : (level : ℕ) (start : List HeadTree) → Upto (suc level) start → BlocksSoFar level start [] start
blocks_begin level start upto = record { nested = tt; joined = refl; upto = upto }

module _ (level : ℕ) (start : List HeadTree) (found : List (HeadTree × LineTrees)) (left : List HeadTree) (l : BlocksSoFar level start found left) where
  pub fewer : length left ≤ length start
  fewer =
      let size = ap length l.joined ∙ length-append (heads_of (lines_from found)) left in
      omega (arith, size)

  pub blocks_end : (lines : List Line) → left ≡ map head_of lines → IsNotDeeper level lines → IsBlock level (lines_from found) start left
  blocks_end [] same h = (l.nested, l.joined, subst (Upto level) (sym same) tt)
  blocks_end (next ∷ lines) same h = (l.nested, l.joined, subst (Upto level) (sym same) (h, (subst (Upto (suc level)) same l.upto).1))

  module _ (head : HeadTree) (more : List HeadTree) (here : left ≡ head ∷ more) (deep : level < level_of head) where
    level_here : level_of head ≡ suc level
    level_here = let low = (subst (Upto (suc level)) here l.upto).0 in omega (arith, low, deep)

    follow_here : Follow (level_of head) (reaches head) more
    follow_here = (subst (Upto (suc level)) here l.upto).1

    pub block_begins : Upto (suc (level_of head)) more
    block_begins = follow_upto (level_of head) (reaches head) more follow_here

    pub more_fewer : length more < length start
    more_fewer =
        let size = ap length here in
        let all = fewer in
        omega (arith, size, all)

    module _ (block : LineTrees) (rest : List HeadTree) (is : IsBlock (level_of head) block more rest) where
      pub rest_fewer : length rest < length left
      rest_fewer =
          let size = ap length here in
          let all = ap length is.1 ∙ length-append (heads_of block) rest in
          omega (arith, size, all)

      pub one_block : BlocksSoFar level start (found ++ (head, block) ∷ []) rest
      one_block =
          let under : AreNested (suc (suc level)) block = subst (λ n. AreNested (suc n) block) level_here is.0 in
          record {
            nested = nested_snoc (suc level) found head block l.nested level_here (block_reached head more rest block follow_here is) under;
            joined = l.joined ∙ ap (λ k. heads_of (lines_from found) ++ k) (here ∙ ap (λ k. head ∷ k) is.1) ∙ sym (append_assoc (heads_of (lines_from found)) (head ∷ heads_of block) rest) ∙ ap (λ k. k ++ rest) (sym (heads_snoc found head block));
            upto = subst (λ n. Upto n rest) level_here is.2;
          }

-- a line of the code, taken apart and rebuilt
pub head_out : (l : Line) → head_of l ≡ LineHead (out-Line l).number (out-Line l).level (out-Line l).end (out-Line l).label (out-Line l).formals (commands_of (out-Line l).commands)
head_out l = ap (λ p. p.0) (fold_out-Line (HeadTree × LineTrees) line_step l)

pub level_out : (l : Line) → level_of (head_of l) ≡ (out-Line l).level
level_out l = ap level_of (head_out l)

pub line_roll : (x : Line-F Line) → line_of (roll-Line x) ≡ (LineHead x.number x.level x.end x.label x.formals (commands_of x.commands), lines_from (map line_of x.block.items))
line_roll x = fold-roll-Line (HeadTree × LineTrees) line_step x
