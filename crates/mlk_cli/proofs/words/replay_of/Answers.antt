use Rattle.std.proofs.Common.{◌∙◌, sym, ap, codes}
use Rattle.std.specs.Prelude.{option_map}
use Rattle.clap.specs.Words.{found_of}
use Rattle.clap.proofs.WalkLemmas.{first_value-rows}
use Rattle.mlk_cli.proofs.words.replay_of.Goals as goal

pub returns-in_default : goal.returns-in_default
returns-in_default c = λ events style h.
    let bad = c.in_default.ensures ∙ first_value-rows (found_of c.args.matches.now) (codes "EVENTS") ∙ h.0 in cc bad

pub returns-in_default-replay_style_of : goal.returns-in_default-replay_style_of
returns-in_default-replay_style_of c = λ events style h. c.in_default-replay_style_of.ensures style h.1

pub returns : goal.returns
returns c =
    let found = found_of c.args.matches.now in
    (sym (first_value-rows found (codes "EVENTS")) ∙ sym c.get_str.ensures ∙ ap (option_map (λ s. s.now)) c.in-Some.is, c.in-Some-replay_style_of.ensures)
