use Rattle.std.proofs.Common.{◌≡◌, ◌++◌, drop}
use Rattle.mlk_cert_lexemes.specs.Lists.{more}
use Rattle.mlk_machine_view.specs.StateTexts.{name_text}
use Rattle.mlk_machine_view.proofs.spelling.push_more_names.Given as goal

abbrev pub invariant-loop-name : goal.invariant-loop-name
invariant-loop-name l = l.text ++ more 59 name_text (drop l.name-index l.names) ≡ l.fn.text ++ more 59 name_text l.names
