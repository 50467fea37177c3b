use Rattle.std.proofs.Common.{◌≡◌, ◌∙◌, sym, ap, subst, codes}
use Rattle.std.specs.Prelude.{option_map}
use Rattle.clap.specs.Words.{found_of, rows_of}
use Rattle.std.specs.Box.{box_value}
use Rattle.clap.specs.declared.parser.matches.ArgMatches.TheViews.{out-ArgMatches, out-SubCommand}
use Rattle.clap.proofs.WalkLemmas.{first_value-rows}
use Rattle.mlk_cli.specs.CommandLine.{GivesPaths}
use Rattle.mlk_cli.proofs.CommandLine.{both-parts}
use Rattle.mlk_cli.proofs.words.line_of.Goals as goal

pub returns : goal.returns
returns c =
    let found = found_of c.in-Some.inner.now in
    let name = sym (ap (option_map (λ p. p.0.now)) c.in-Some.is) ∙ c.subcommand.ensures.name in
    let rows = sym (ap (option_map (λ p. rows_of (found_of p.1.now))) c.in-Some.is) ∙ c.subcommand.ensures.rows in
    (c.in-Some.name.now, rows_of found, both-parts (λ b. (out-SubCommand (box_value b)).name.now) (λ b. rows_of (found_of (out-SubCommand (box_value b)).matches)) (out-ArgMatches c.args.matches.now).subcommand c.in-Some.name.now (rows_of found) name rows, subst (GivesPaths c.in-Some.name.now (rows_of found)) c.in-Some-2.is c.in_ok-request.ensures, sym (first_value-rows found (codes "files-from")) ∙ sym c.get_str-list.ensures)
