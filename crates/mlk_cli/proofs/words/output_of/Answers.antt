use Rattle.std.proofs.Common.{◌∙◌, sym, ap, codes}
use Rattle.std.specs.Prelude.{option_map}
use Rattle.clap.specs.Words.{found_of, rows_of}
use Rattle.clap.proofs.WalkLemmas.{first_value-rows}
use Rattle.mlk_cli.proofs.CommandLine.{named-output}
use Rattle.mlk_cli.proofs.words.output_of.Goals as goal

pub returns-in_default : goal.returns-in_default
returns-in_default c = λ output h.
    let bad = c.in_default.ensures ∙ first_value-rows (found_of c.args.matches.now) (codes "output") ∙ h in cc bad

pub returns : goal.returns
returns c =
    let found = found_of c.args.matches.now in
    named-output (rows_of found) c.in-Some.text.now c.output_named.result
    (sym (first_value-rows found (codes "output")) ∙ sym c.get_str.ensures ∙ ap (option_map (λ s. s.now)) c.in-Some.is)
    c.output_named.ensures
