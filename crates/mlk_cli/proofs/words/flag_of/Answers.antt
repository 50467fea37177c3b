use Rattle.std.proofs.Common.{◌∙◌, sym, ap, rules, Some}
use Rattle.std.specs.Prelude.{option_map}
use Rattle.clap.specs.Words.{found_of, rows_of}
use Rattle.clap.proofs.WalkLemmas.{first_value-rows}
use Rattle.mlk_cli.proofs.CommandLine.{not-flag}
use Rattle.mlk_cli.proofs.words.flag_of.Goals as goal

pub returns-in_default : goal.returns-in_default
returns-in_default c = λ flag h.
    let bad = c.in_default.ensures ∙ first_value-rows (found_of c.args.matches.now) c.args.option.now ∙ h in cc bad

pub returns-then-eq : goal.returns-then-eq
returns-then-eq c =
    let found = found_of c.args.matches.now in
    sym (first_value-rows found c.args.option.now) ∙ sym c.get_str.ensures ∙ ap (option_map (λ s. s.now)) c.in-Some.is ∙ ap Some (grind rules)

pub returns-then-eq-2 : goal.returns-then-eq-2
returns-then-eq-2 c =
    let found = found_of c.args.matches.now in
    sym (first_value-rows found c.args.option.now) ∙ sym c.get_str.ensures ∙ ap (option_map (λ s. s.now)) c.in-Some.is ∙ ap Some (grind rules)

pub returns : goal.returns
returns c =
    let found = found_of c.args.matches.now in
    not-flag c.args.option.now (rows_of found) c.in-Some.text.now
    (sym (first_value-rows found c.args.option.now) ∙ sym c.get_str.ensures ∙ ap (option_map (λ s. s.now)) c.in-Some.is)
    (grind rules) (grind rules)
