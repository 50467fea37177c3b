use Rattle.std.proofs.Common.{rules, subst}
use Rattle.clap.specs.Words.{found_of, rows_of}
use Rattle.mlk_cli.specs.CommandLine.{GivesProgram, GivesStubs, GivesSuggestion, GivesSurvey}
use Rattle.mlk_cli.proofs.CommandLine.{no-request, suggests-nothing, surveys-nothing}
use Rattle.mlk_cli.proofs.words.routines_request.Goals as goal

pub returns-in_default-2 : goal.returns-in_default-2
returns-in_default-2 c =
    let rows = rows_of (found_of c.args.matches.now) in
    let no-stubs = subst (GivesStubs c.args.name.now rows) c.in_default.is c.in_ok-stubs.ensures in
    surveys-nothing c.args.name.now rows no-stubs (grind rules) (subst (GivesSurvey rows) c.in_default-2.is c.in_ok-survey.ensures)

pub returns-in_default-3 : goal.returns-in_default-3
returns-in_default-3 c =
    let rows = rows_of (found_of c.args.matches.now) in
    let no-stubs = subst (GivesStubs c.args.name.now rows) c.in_default.is c.in_ok-stubs.ensures in
    suggests-nothing c.args.name.now rows no-stubs (grind rules) (subst (GivesSuggestion rows) c.in_default-3.is c.in_ok-suggestion.ensures)

pub returns-in_default-4 : goal.returns-in_default-4
returns-in_default-4 c =
    let rows = rows_of (found_of c.args.matches.now) in
    let no-stubs = subst (GivesStubs c.args.name.now rows) c.in_default.is c.in_ok-stubs.ensures in
    no-request c.args.name.now rows c.requires.no_conversion (grind rules) c.requires.no_page (grind rules) no-stubs (subst (GivesProgram c.args.name.now rows) c.in_default-4.is c.in_ok-program.ensures)
