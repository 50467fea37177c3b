use Rattle.std.proofs.Common.{ap, option_map, ◌∙◌, ◌+◌, ◌≤◌, suc, length, arith}
use Rattle.mlk_text.specs.Lexemes.{word_at}
use Rattle.mlk_syntax.specs.Views.{control_of}
use Rattle.mlk_routine.proofs.Looping.{for_found, head_told}
use Rattle.mlk_routine.proofs.commands.for_head.Goals as goal

pub returns : goal.returns
returns c =
    let few : suc c.args.loops ≤ 255 = omega (arith, c.if-loops-ge-MOST_LOOPS.false) in
    head_told c.args.loops c.args.line.now c.args.at few c.requires.within (c.args.at + length c.word_at.result.0.now)
    (for_found c.args.line.now c.args.at c.word_at.result.0.now c.word_at.result.1.now c.requires.within (c.word_at.ensures ∙ ap word_at c.split_at.ensures.back) c.requires.here)
    (option_map control_of) c.optional_control.result c.optional_control.ensures
