use Rattle.std.proofs.Common.{◌∙◌, sym, ap, codes}
use Rattle.std.specs.Prelude.{option_map}
use Rattle.clap.specs.Words.{found_of, rows_of}
use Rattle.clap.proofs.WalkLemmas.{first_value-rows}
use Rattle.mlk_cli.proofs.CommandLine.{named-dialect}
use Rattle.mlk_cli.proofs.words.dialect_of.Goals as goal

pub returns-in_default : goal.returns-in_default
returns-in_default c = λ d h.
    let bad = c.in_default.ensures ∙ first_value-rows (found_of c.args.matches.now) (codes "dialect") ∙ h in cc bad

pub returns : goal.returns
returns c =
    let found = found_of c.args.matches.now in
    named-dialect (rows_of found) c.in-Some.text.now c.dialect_named.result
    (sym (first_value-rows found (codes "dialect")) ∙ sym c.get_str.ensures ∙ ap (option_map (λ s. s.now)) c.in-Some.is)
    c.dialect_named.ensures
