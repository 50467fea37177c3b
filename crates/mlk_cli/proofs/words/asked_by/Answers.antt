use Rattle.std.proofs.Common.{◌∙◌, sym, ap, codes, rules}
use Rattle.std.specs.Prelude.{option_map}
use Rattle.clap.specs.Words.{found_of, rows_of}
use Rattle.clap.proofs.WalkLemmas.{first_value-rows}
use Rattle.mlk_cli.proofs.CommandLine.{asks-nothing, checks-nothing, makes-nothing, verifies-nothing, replays-nothing}
use Rattle.mlk_cli.proofs.words.asked_by.Goals as goal

pub returns-in_default : goal.returns-in_default
returns-in_default c = makes-nothing c.args.name.now (rows_of (found_of c.args.matches.now)) (grind rules) c.in_default.ensures

pub returns-in_default-walk_of : goal.returns-in_default-walk_of
returns-in_default-walk_of c = verifies-nothing c.args.name.now (rows_of (found_of c.args.matches.now)) (grind rules) c.in_default-walk_of.ensures

pub returns-in_default-replay_of : goal.returns-in_default-replay_of
returns-in_default-replay_of c =
    replays-nothing c.args.name.now (rows_of (found_of c.args.matches.now)) (grind rules) (grind rules) (grind rules) c.in_default-replay_of.ensures

pub returns-then-eq-3 : goal.returns-then-eq-3
returns-then-eq-3 c = (grind rules, c.in-Some-replay_of.ensures)

pub returns-in_default-get_str : goal.returns-in_default-get_str
returns-in_default-get_str c =
    let found = found_of c.args.matches.now in
    asks-nothing c.args.name.now (rows_of found) (grind rules) (grind rules) (grind rules) (c.in_default-get_str.ensures ∙ first_value-rows found (codes "CERT"))

pub returns-in_default-walk_of-2 : goal.returns-in_default-walk_of-2
returns-in_default-walk_of-2 c =
    checks-nothing c.args.name.now (rows_of (found_of c.args.matches.now)) (grind rules) (grind rules) (grind rules) c.in_default-walk_of-2.ensures

pub returns : goal.returns
returns c =
    let found = found_of c.args.matches.now in
    (grind rules, sym (first_value-rows found (codes "CERT")) ∙ sym c.get_str.ensures ∙ ap (option_map (λ s. s.now)) c.in-Some-get_str.is, c.in-Some-walk_of-2.ensures)
