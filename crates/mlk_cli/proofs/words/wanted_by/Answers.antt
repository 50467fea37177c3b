use Rattle.std.proofs.Common.{◌∙◌, sym, ap, codes, rules}
use Rattle.std.specs.Prelude.{option_map}
use Rattle.clap.specs.Words.{found_of, rows_of}
use Rattle.clap.proofs.WalkLemmas.{first_value-rows}
use Rattle.mlk_cli.proofs.CommandLine.{only-true, wants-no-stubs, wants-nothing}
use Rattle.mlk_cli.proofs.words.wanted_by.Goals as goal

pub returns-then-ne : goal.returns-then-ne
returns-then-ne c = wants-nothing c.args.name.now (rows_of (found_of c.args.matches.now)) (grind rules) (grind rules)

pub returns-in_default : goal.returns-in_default
returns-in_default c =
    let rows = rows_of (found_of c.args.matches.now) in
    wants-no-stubs c.args.name.now rows (grind rules) (λ given _. only-true (codes "stubs") rows c.flag_of.result (grind rules) c.flag_of.ensures given)

pub returns-in-None : goal.returns-in-None
returns-in-None c =
    (grind rules, search rules, sym (first_value-rows (found_of c.args.matches.now) (codes "beside")) ∙ sym c.get_str.ensures ∙ ap (option_map (λ s. s.now)) c.in-None.is)

pub returns-in-Some : goal.returns-in-Some
returns-in-Some c =
    let found = found_of c.args.matches.now in
    let beside = sym (ap (option_map (λ s. s.now)) c.in-Some.is) ∙ c.get_str.ensures ∙ first_value-rows found (codes "beside") in
    wants-no-stubs c.args.name.now (rows_of found) (grind rules) (λ given none. let bad = beside ∙ none in cc bad)
