use Rattle.std.proofs.Common.{rules, ◌≡◌, ◌∙◌, ap, subst, suc, [], ◌∷◌, ◌++◌, length, append_assoc}
use Rattle.mlk_program.specs.Program.{calls_from}
use Rattle.mlk_program.specs.Tables.{trees}
use Rattle.mlk_program.specs.Frames.{Learns, fillings, passed_from}
use Rattle.mlk_program.proofs.Learned.{length_last, routine_step, routines_all}
use Rattle.mlk_program.proofs.frames.add_routines.Goals as goal

pub loop-routine-preserved : goal.loop-routine-preserved
loop-routine-preserved c =
    let rs = trees c.args.directory.now in
    let done = c.loop-routine.invariant.0 in
    let before = c.in-Some.before.now in
    let routine = c.in-Some.routine.now in
    let last : c.loop-routine.left.now ≡ before ++ routine ∷ [] = search rules in
    let count : length c.loop-routine.left.now ≡ suc (length before) = ap length last ∙ length_last before routine in (
      routine ∷ done,
      c.loop-routine.invariant.1 ∙ ap (λ l. l ++ done) last ∙ append_assoc before (routine ∷ []) done,
      routine_step rs (length before) routine done c.args.frames.now c.loop-routine.frames c.add_lines.new.frames
          (subst (λ n. Learns (fillings rs (calls_from n (trees done))) (passed_from n done) c.args.frames.now c.loop-routine.frames) count c.loop-routine.invariant.2)
          (rw c.as_slice.ensures.value at c.in_ok-add_lines.ensures),
    )

pub returns : goal.returns
returns c = routines_all (trees c.args.directory.now) c.args.routines.now c.loop-routine.left.now c.loop-routine.invariant.0
    c.args.frames.now c.loop-routine.frames c.loop-routine.invariant.1 (search rules) c.loop-routine.invariant.2
