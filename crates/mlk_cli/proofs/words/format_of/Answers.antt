use Rattle.std.proofs.Common.{codes, subst}
use Rattle.clap.specs.Words.{found_of, rows_of}
use Rattle.mlk_cli.specs.CommandLine.{GivesNumber}
use Rattle.mlk_cli.proofs.CommandLine.{no-format}
use Rattle.mlk_cli.proofs.words.format_of.Goals as goal

pub returns-in_default-2 : goal.returns-in_default-2
returns-in_default-2 c =
    let rows = rows_of (found_of c.args.matches.now) in
    no-format rows (subst (GivesNumber (codes "format") rows) c.in_default.is c.number_of.ensures)
