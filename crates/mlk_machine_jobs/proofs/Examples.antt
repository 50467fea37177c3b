-- Worked examples, whose answers were found by hand: names, calls, blocks, FOR. Each program is above its example,
-- ` / ` ends a line.
use Rattle.std.proofs.Common.{◌≡◌, refl, List, [], ◌∷◌, Some, None}
use Rattle.std.specs.Prelude.{codes, true}
use Rattle.mlk_syntax.specs.ExprTrees.{Lit, CallOf, no_actuals}
use Rattle.mlk_syntax.specs.Trees.{Do, Else, Halt, If, Kill, KillAllBut, New, NewOne, Quit, Once, Limited, Runs, no_lines, RoutineTree}
use Rattle.mlk_machine_jobs.specs.declared.choice.Choice.TheVariants as choice
use Rattle.mlk_machine_jobs.specs.Seen.{Stuck, Ended, settled}
use Rattle.mlk_machine_jobs.proofs.Trees.{value_of, local, global, global_at, set, callee, do_label, by_reference, commands, for_each, at_label, unlabelled, lines, routine, played, writes_at}

-- A SET X=1 SET Y=2 DO F(.X) SET ^A(Y)=1 QUIT / F(Z) KILL (Z) SET ^A(X)=1 QUIT
-- KILL (Z) spares what shares Z's cell.
abbrev spared : List RoutineTree
spared = routine ((
  at_label (codes "A") None (commands (set (local (codes "X")) (Lit (codes "1")) ∷ set (local (codes "Y")) (Lit (codes "2"))
      ∷ do_label (codes "F") (Some (by_reference (codes "X") ∷ [])) ∷ set (global_at (codes "A") (value_of (codes "Y"))) (Lit (codes "1"))
      ∷ Quit None ∷ [])),
  no_lines,
)
    ∷ (
      at_label (codes "F") (Some (codes "Z" ∷ [])) (commands (Kill (KillAllBut (codes "Z" ∷ []) ∷ [])
          ∷ set (global_at (codes "A") (value_of (codes "X"))) (Lit (codes "1")) ∷ Quit None ∷ [])),
      no_lines,
    )
    ∷ [])

pub spares_the_shared : played spared [] ≡ writes_at (codes "1" ∷ [])
unfolding settled
spares_the_shared = refl

-- and kills the others, in the caller too
pub kills_the_others : played spared (choice.None ∷ []) ≡ Stuck
unfolding settled
kills_the_others = refl

-- A SET X=1 DO F(.X) SET ^A(X)=1 / F(Z) KILL  QUIT
-- KILL of all kills the cells of formals by reference, which are the caller's.
pub kills_all : played (routine ((
  at_label (codes "A") None (commands (set (local (codes "X")) (Lit (codes "1"))
      ∷ do_label (codes "F") (Some (by_reference (codes "X") ∷ [])) ∷ set (global_at (codes "A") (value_of (codes "X"))) (Lit (codes "1")) ∷ [])),
  no_lines,
)
    ∷ (at_label (codes "F") (Some (codes "Z" ∷ [])) (commands (Kill [] ∷ Quit None ∷ [])), no_lines) ∷ [])) [] ≡ Stuck
unfolding settled
kills_all = refl

-- A IF 1 DO  ELSE  SET ^A=1 / . IF 0
-- A block restores `$TEST`.
pub block_restores : played (routine ((
  at_label (codes "A") None (commands (If (Lit (codes "1") ∷ []) ∷ Do [] ∷ Else ∷ set (global (codes "A")) (Lit (codes "1")) ∷ [])),
  lines ((unlabelled (commands (If (Lit (codes "0") ∷ []) ∷ [])), no_lines) ∷ []),
) ∷ [])) [] ≡ Ended
unfolding settled
block_restores = refl

-- A IF 1 DO F ELSE  SET ^A=1 QUIT / F IF 0
-- DO of a label does not.
pub do_keeps : played (routine (
    (at_label (codes "A") None (commands (If (Lit (codes "1") ∷ []) ∷ do_label (codes "F") None ∷ Else ∷ set (global (codes "A")) (Lit (codes "1")) ∷ Quit None ∷ [])), no_lines)
    ∷ (at_label (codes "F") None (commands (If (Lit (codes "0") ∷ []) ∷ [])), no_lines) ∷ [])) [] ≡ writes_at []
unfolding settled
do_keeps = refl

-- A IF 1 SET Y=$$F() ELSE  SET ^A=1 / QUIT / F() IF 0 / QUIT 1
-- An extrinsic call does.
pub extrinsic_restores : played (routine (
    (at_label (codes "A") None (commands (If (Lit (codes "1") ∷ []) ∷ set (local (codes "Y")) (CallOf 0 (callee (codes "F")) no_actuals) ∷ Else ∷ set (global (codes "A")) (Lit (codes "1")) ∷ [])), no_lines)
    ∷ (unlabelled (commands (Quit None ∷ [])), no_lines)
    ∷ (at_label (codes "F") (Some []) (commands (If (Lit (codes "0") ∷ []) ∷ [])), no_lines)
    ∷ (unlabelled (commands (Quit (Some (Lit (codes "1"))) ∷ [])), no_lines) ∷ [])) [] ≡ Ended
unfolding settled
extrinsic_restores = refl

-- A FOR I=1,2 DO  SET ^A(I)=1 / . QUIT
-- QUIT in a block ends the block, not the FOR of the line above.
abbrev rounds : List RoutineTree
rounds = routine ((
  at_label (codes "A") None (for_each (Some (Runs 0 (codes "I") (Once (Lit (codes "1")) ∷ Once (Lit (codes "2")) ∷ [])))
      (Do [] ∷ set (global_at (codes "A") (value_of (codes "I"))) (Lit (codes "1")) ∷ [])),
  lines ((unlabelled (commands (Quit None ∷ [])), no_lines) ∷ []),
) ∷ [])

pub first_round : played rounds [] ≡ writes_at (codes "1" ∷ [])
unfolding settled
first_round = refl

pub second_round : played rounds (choice.None ∷ []) ≡ writes_at (codes "2" ∷ [])
unfolding settled
second_round = refl

pub no_third_round : played rounds (choice.None ∷ choice.None ∷ []) ≡ Ended
unfolding settled
no_third_round = refl

-- A FOR I=1:1:9,20 QUIT / SET ^A(I)=1
-- QUIT ends the whole FOR, including the remaining parameters.
pub quits_all : played (routine (
    (at_label (codes "A") None (for_each (Some (Runs 0 (codes "I") (Limited (Lit (codes "1")) (Lit (codes "1")) (Lit (codes "9")) ∷ Once (Lit (codes "20")) ∷ []))) (Quit None ∷ [])), no_lines)
    ∷ (unlabelled (commands (set (global_at (codes "A") (value_of (codes "I"))) (Lit (codes "1")) ∷ [])), no_lines) ∷ [])) (choice.Truth true ∷ []) ≡ writes_at (codes "1" ∷ [])
unfolding settled
quits_all = refl

-- A DO F SET ^A=1 / F HALT
pub halts : played (routine (
    (at_label (codes "A") None (commands (do_label (codes "F") None ∷ set (global (codes "A")) (Lit (codes "1")) ∷ [])), no_lines)
    ∷ (at_label (codes "F") None (commands (Halt ∷ [])), no_lines) ∷ [])) [] ≡ Ended
unfolding settled
halts = refl

-- A SET X=1 DO F() SET ^A(X)=1 / F(X) SET X=2 QUIT
-- A formal without an actual is a name of its own.
pub formal_is_new : played (routine (
    (at_label (codes "A") None (commands (set (local (codes "X")) (Lit (codes "1")) ∷ do_label (codes "F") (Some []) ∷ set (global_at (codes "A") (value_of (codes "X"))) (Lit (codes "1")) ∷ [])), no_lines)
    ∷ (at_label (codes "F") (Some (codes "X" ∷ [])) (commands (set (local (codes "X")) (Lit (codes "2")) ∷ Quit None ∷ [])), no_lines) ∷ [])) [] ≡ writes_at (codes "1" ∷ [])
unfolding settled
formal_is_new = refl

-- A DO F DO G QUIT / F NEW X SET X=5 QUIT / G NEW X SET ^A(X)=1 QUIT
-- The value of F's X is gone, though G's X is created where F's was.
pub forgets : played (routine (
    (at_label (codes "A") None (commands (do_label (codes "F") None ∷ do_label (codes "G") None ∷ Quit None ∷ [])), no_lines)
    ∷ (at_label (codes "F") None (commands (New (NewOne 0 (codes "X") ∷ []) ∷ set (local (codes "X")) (Lit (codes "5")) ∷ Quit None ∷ [])), no_lines)
    ∷ (at_label (codes "G") None (commands (New (NewOne 0 (codes "X") ∷ []) ∷ set (global_at (codes "A") (value_of (codes "X"))) (Lit (codes "1")) ∷ Quit None ∷ [])), no_lines) ∷ [])) [] ≡ Stuck
unfolding settled
forgets = refl

-- A DO F(.X,.X) SET ^A(X)=1 QUIT / F(P,Q) SET P=7 SET ^A(Q)=1 QUIT
-- Two formals share one cell, that of a name without a value.
abbrev twice : List RoutineTree
twice = routine (
    (at_label (codes "A") None (commands (do_label (codes "F") (Some (by_reference (codes "X") ∷ by_reference (codes "X") ∷ [])) ∷ set (global_at (codes "A") (value_of (codes "X"))) (Lit (codes "1")) ∷ Quit None ∷ [])), no_lines)
    ∷ (at_label (codes "F") (Some (codes "P" ∷ codes "Q" ∷ [])) (commands (set (local (codes "P")) (Lit (codes "7")) ∷ set (global_at (codes "A") (value_of (codes "Q"))) (Lit (codes "1")) ∷ Quit None ∷ [])), no_lines) ∷ [])

pub seen_inside : played twice [] ≡ writes_at (codes "7" ∷ [])
unfolding settled
seen_inside = refl

pub seen_outside : played twice (choice.None ∷ []) ≡ writes_at (codes "7" ∷ [])
unfolding settled
seen_outside = refl

-- A SET X=1 NEW  SET ^A(X)=1
pub new_of_all : played (routine (
    (at_label (codes "A") None (commands (set (local (codes "X")) (Lit (codes "1")) ∷ New [] ∷ set (global_at (codes "A") (value_of (codes "X"))) (Lit (codes "1")) ∷ [])), no_lines) ∷ [])) [] ≡ Stuck
unfolding settled
new_of_all = refl

-- A SET X=1 DO  SET ^A(X)=1 / . NEW X SET X=2
-- NEW lasts to the end of its block.
pub new_in_block : played (routine ((
  at_label (codes "A") None (commands (set (local (codes "X")) (Lit (codes "1")) ∷ Do [] ∷ set (global_at (codes "A") (value_of (codes "X"))) (Lit (codes "1")) ∷ [])),
  lines ((unlabelled (commands (New (NewOne 0 (codes "X") ∷ []) ∷ set (local (codes "X")) (Lit (codes "2")) ∷ [])), no_lines) ∷ []),
) ∷ [])) [] ≡ writes_at (codes "1" ∷ [])
unfolding settled
new_in_block = refl
