use Rattle.clap.specs.Words.{found_of, rows_of}
use Rattle.mlk_cli.proofs.CommandLine.{no-survey-output}
use Rattle.mlk_cli.proofs.words.survey_output_of.Goals as goal

pub returns-in-None : goal.returns-in-None
returns-in-None c = no-survey-output (rows_of (found_of c.args.matches.now)) c.in-None.ensures
