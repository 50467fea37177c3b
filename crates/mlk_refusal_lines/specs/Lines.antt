-- The lines that the program prints besides those of a report. This project's own choice.
use Rattle.std.specs.Prelude.{ℕ, List, [], ◌++◌, Option, Some, None, codes}
use Rattle.std.specs.Fmt.{decimal}
use Rattle.mlk_text.specs.declared.code.Code.{Code}
use Rattle.mlk_text.specs.declared.code.Code.TheVariants.{EntryMissing, Workers, GaveUp, EventForm, NotEnabled, BadChoice, UnknownJob}
use Rattle.mlk_text.specs.declared.fault.Fault.{Fault}
use Rattle.mlk_text.specs.declared.fault.LeftOut.{LeftOut}
use Rattle.mlk_text.specs.Words.{left_out_word}
use Rattle.mlk_rules_file.specs.declared.read.fault.RulesFault.{RulesFault}
use Rattle.mlk_cert.specs.declared.read.fault.CertFault.{CertFault}
use Rattle.mlk_machine_locks.specs.declared.refusal.Refusal.TheVariants as cant
use Rattle.mlk_machine.specs.declared.fault.EventsFault.{EventsFault}
use Rattle.mlk_machine.specs.declared.fault.EventsRefusal.{EventsRefusal}
use Rattle.mlk_machine.specs.declared.fault.EventsRefusal.TheVariants as why
use Rattle.mlk_plain_report.specs.Texts.{space, line_end, code_text, place_text}
use Rattle.mlk_rules_file.specs.RuleAnswers.{section_word}
use Rattle.mlk_walk_exprs.specs.declared.walk.Fault.{Fault as WalkFault}
use Rattle.mlk_baseline.specs.declared.baseline.BaselineFault.{BaselineFault}

-- the word after a code that leaves something out
abbrev pub left_out_text : Option LeftOut → List ℕ
left_out_text None = []
left_out_text (Some what) = space ++ left_out_word what

-- `refused ROUTINE line:column CODE NAME`, with the word of what is left out
abbrev pub fault_line : Fault → List ℕ
fault_line f =
    codes "refused " ++ f.place.routine ++ space ++ place_text f.place.line f.place.column ++ space ++ code_text f.code
    ++ left_out_text f.left_out ++ line_end

-- `refused entry TEXT 901 EntryMissing`
abbrev pub missing_line : List ℕ → List ℕ
missing_line text = codes "refused entry " ++ text ++ space ++ code_text EntryMissing ++ line_end

-- `refused workers 902 Workers`
abbrev pub workers_line : List ℕ
workers_line = codes "refused workers " ++ code_text Workers ++ line_end

-- `refused LABEL^ROUTINE line:column 801 GaveUp`
abbrev pub stuck_line : List ℕ → WalkFault → List ℕ
stuck_line entry f = codes "refused " ++ entry ++ space ++ place_text f.line f.column ++ space ++ code_text GaveUp ++ line_end

-- `refused rules SECTION INDEX CODE NAME`
abbrev pub rules_line : RulesFault → List ℕ
rules_line f = codes "refused rules " ++ section_word f.section ++ space ++ decimal f.index ++ space ++ code_text f.code ++ line_end

-- `refused cert LINE CODE NAME`
abbrev pub certificate_line : CertFault → List ℕ
certificate_line f = codes "refused cert " ++ decimal f.line ++ space ++ code_text f.code ++ line_end

-- why events are not replayed
abbrev pub events_code : EventsRefusal → Code
events_code why.Form = EventForm
events_code (why.Refused cant.NotEnabled) = NotEnabled
events_code (why.Refused cant.BadChoice) = BadChoice
events_code (why.Refused cant.UnknownJob) = UnknownJob

-- `refused line LINE CODE NAME`
abbrev pub events_line : EventsFault → List ℕ
events_line f = codes "refused line " ++ decimal f.line ++ space ++ code_text (events_code f.why) ++ line_end

-- `refused baseline LINE`
abbrev pub baseline_line : BaselineFault → List ℕ
baseline_line f = codes "refused baseline " ++ decimal f.line ++ line_end

-- `error file PATH`
abbrev pub file_line : List ℕ → List ℕ
file_line path = codes "error file " ++ path ++ line_end

-- `error: no code TEXT`
abbrev pub no_page_line : List ℕ → List ℕ
no_page_line text = codes "error: no code " ++ text ++ line_end
