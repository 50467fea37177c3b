-- The words that are printed for parts of M that are not read. This project's own choice.
use Rattle.std.specs.Prelude.{ℕ, List, codes}
use Rattle.mlk_text.specs.declared.fault.LeftOut.{LeftOut}
use Rattle.mlk_text.specs.declared.fault.LeftOut.TheVariants.{Indirection, Naked, Environment, Ssvn, External}
use Rattle.mlk_text.specs.declared.fault.LeftOut.TheVariants.{Offset, Function, Special, Order, GlobalRead}
use Rattle.mlk_text.specs.declared.fault.LeftOut.TheVariants.{ForVariable, QuitValue, Timeout, Command}

abbrev pub left_out_word : LeftOut → List ℕ
left_out_word Indirection = codes "INDIRECTION"
left_out_word Naked = codes "NAKED"
left_out_word Environment = codes "ENVIRONMENT"
left_out_word Ssvn = codes "SSVN"
left_out_word External = codes "EXTERNAL"
left_out_word Offset = codes "OFFSET"
left_out_word Function = codes "FUNCTION"
left_out_word Special = codes "SPECIAL"
left_out_word Order = codes "ORDER"
left_out_word GlobalRead = codes "GLOBALREAD"
left_out_word ForVariable = codes "FORVARIABLE"
left_out_word QuitValue = codes "QUITVALUE"
left_out_word Timeout = codes "TIMEOUT"
left_out_word (Command word) = word
