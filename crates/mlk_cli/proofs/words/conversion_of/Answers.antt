use Rattle.std.proofs.Common.{◌∙◌, sym, ap, codes}
use Rattle.std.specs.Prelude.{option_map}
use Rattle.clap.specs.Words.{found_of}
use Rattle.clap.proofs.WalkLemmas.{first_value-rows}
use Rattle.mlk_cli.proofs.words.conversion_of.Goals as goal

pub returns-in_default : goal.returns-in_default
returns-in_default c = λ certificate format h.
    let bad = c.in_default.ensures ∙ first_value-rows (found_of c.args.matches.now) (codes "CERT") ∙ h.0 in cc bad

pub returns-in_default-format_of : goal.returns-in_default-format_of
returns-in_default-format_of c = λ certificate format h. c.in_default-format_of.ensures format h.1

pub returns : goal.returns
returns c =
    let found = found_of c.args.matches.now in
    (sym (first_value-rows found (codes "CERT")) ∙ sym c.get_str.ensures ∙ ap (option_map (λ s. s.now)) c.in-Some.is, c.in-Some-format_of.ensures)
