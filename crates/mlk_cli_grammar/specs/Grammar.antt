-- The grammar of the command line: the commands, their options and their words, as `clap` is given them. This project's own choice.
use Rattle.std.specs.Prelude.{[], ◌∷◌, Some, codes, pos, Bool, true, not}
use Rattle.clap.specs.Lexer.{usize_max}
use Rattle.clap.specs.Words.{App, Rule, Text, new_app, new_rule, with_rule, with_subcommand}
use Rattle.clap.specs.Simple.{on_top}
use Rattle.clap.specs.declared.builder.action.ArgAction.TheVariants.{Set, Append, SetTrue}
use Rattle.clap.specs.declared.builder.value_parser.ValueParser.TheVariants as value_parser

-- a word that must be given, once, mostly a path
abbrev pub path_rule : Text → Rule
path_rule id = record (new_rule id) { required = true; action = Some Set }

-- the paths of the routines, one or more; none has to be given if a file lists them
abbrev pub routines_rule : Bool → Rule
routines_rule listed = record (new_rule (codes "ROUTINE")) { required = not listed; action = Some Append; range = Some (record { start_inclusive = 1; end_inclusive = usize_max }) }

-- `--workers N`, a number of 32 bits, which is 4 where it is left out
abbrev pub workers_rule : Rule
workers_rule = record (new_rule (codes "workers")) { long = Some (codes "workers"); value_names = 1; defaults = codes "4" ∷ []; parser = Some (value_parser.Signed (pos 0) (pos 4294967295)) }

-- `--format N`, 1 or 2, which is this text where it is left out
abbrev pub format_rule : Text → Rule
format_rule usual = record (new_rule (codes "format")) { long = Some (codes "format"); value_names = 1; defaults = usual ∷ []; parser = Some (value_parser.Signed (pos 1) (pos 2)) }

-- `--output FORM`, which is `text` where it is left out
abbrev pub output_rule : Rule
output_rule = record (new_rule (codes "output")) { long = Some (codes "output"); value_names = 1; action = Some Set; defaults = codes "text" ∷ [] }

-- an option of this name, without a value, which may be left out
abbrev pub flag_rule : Text → Rule
flag_rule id = record (new_rule id) { long = Some id; action = Some SetTrue }

-- an option of this name, whose value is a path, which may be left out
abbrev pub file_rule : Text → Rule
file_rule id = record (new_rule id) { long = Some id; value_names = 1; action = Some Set }

-- `--dialect NAME`, which is `standard` where it is left out
abbrev pub dialect_rule : Rule
dialect_rule = record (new_rule (codes "dialect")) { long = Some (codes "dialect"); value_names = 1; action = Some Set; defaults = codes "standard" ∷ [] }

-- a command with the paths of its routines, `--files-from FILE`, the file that lists more of them, and how much of M is read
abbrev pub with_routines : Bool → App → App
with_routines listed app = with_rule (with_rule (with_rule app (routines_rule listed)) (file_rule (codes "files-from"))) dialect_rule

-- a command with the options for the style of its report
abbrev pub with_style : App → App
with_style app =
    with_rule (with_rule (with_rule (with_rule (with_rule app output_rule) (flag_rule (codes "strict"))) (flag_rule (codes "explain"))) (flag_rule (codes "quiet")))
    (flag_rule (codes "exit-zero"))

-- a command with the options for faults that are known: the file that lists them, and the file that is to list them
abbrev pub with_baseline : App → App
with_baseline app = with_rule (with_rule app (file_rule (codes "baseline"))) (file_rule (codes "write-baseline"))

-- a command with the number of workers, the style of its report, and faults that are known
abbrev pub with_report : App → App
with_report app = with_baseline (with_style (with_rule app workers_rule))

-- `check RULES CERT ROUTINE..`, how many workers, and how its report is printed
abbrev pub check_app : Bool → App
check_app listed = with_report (with_routines listed (with_rule (with_rule (new_app (codes "check")) (path_rule (codes "RULES"))) (path_rule (codes "CERT"))))

-- `make RULES ROUTINE..`, and the format of the certificate, the first where it is left out
abbrev pub make_app : Bool → App
make_app listed = with_rule (with_routines listed (with_rule (new_app (codes "make")) (path_rule (codes "RULES")))) (format_rule (codes "1"))

-- `verify RULES ROUTINE..`, how many workers, and how its report is printed
abbrev pub verify_app : Bool → App
verify_app listed = with_report (with_routines listed (with_rule (new_app (codes "verify")) (path_rule (codes "RULES"))))

-- a command with the options for the way in which events are replayed
abbrev pub with_replaying : App → App
with_replaying app = with_rule (with_rule app (flag_rule (codes "explain"))) (flag_rule (codes "interactive"))

-- `replay RULES EVENTS ROUTINE..`, and how the events are replayed
abbrev pub replay_app : Bool → App
replay_app listed = with_replaying (with_routines listed (with_rule (with_rule (new_app (codes "replay")) (path_rule (codes "RULES"))) (path_rule (codes "EVENTS"))))

-- `convert CERT`, and the format that it is to have, the second where it is left out
abbrev pub convert_app : App
convert_app = with_rule (with_rule (new_app (codes "convert")) (path_rule (codes "CERT"))) (format_rule (codes "2"))

-- `survey ROUTINE..`, and its form
abbrev pub survey_app : Bool → App
survey_app listed = with_rule (with_routines listed (new_app (codes "survey"))) output_rule

-- `suggest ROUTINE..`, the rules that are there already, and whether stubs are wanted
abbrev pub suggest_app : Bool → App
suggest_app listed = with_rule (with_rule (with_routines listed (new_app (codes "suggest"))) (file_rule (codes "beside"))) (flag_rule (codes "stubs"))

-- `--for NAME`, any number of times
abbrev pub for_rule : Rule
for_rule = record (new_rule (codes "for")) { long = Some (codes "for"); value_names = 1; action = Some Append }

-- `stubs ROUTINE..`, and the names of the routines that get a stub
abbrev pub stubs_app : Bool → App
stubs_app listed = with_rule (with_routines listed (new_app (codes "stubs"))) for_rule

-- `explain CODE`
abbrev pub explain_app : App
explain_app = with_rule (new_app (codes "explain")) (path_rule (codes "CODE"))

-- `mlock` before it has a command
abbrev pub no_command_app : App
no_command_app = on_top (λ s. record s { subcommand_required = true; has_version = true }) (new_app (codes "mlock"))

-- `mlock` and one of its commands; no routine has to be given if a file lists them
abbrev pub mlock_app : Bool → App
mlock_app listed =
    with_subcommand (with_subcommand (with_subcommand (with_subcommand (with_subcommand (with_subcommand (with_subcommand (with_subcommand (with_subcommand no_command_app (check_app listed).top) (make_app listed).top) (verify_app listed).top) (replay_app listed).top)
    convert_app.top) (survey_app listed).top) (suggest_app listed).top) (stubs_app listed).top) explain_app.top
