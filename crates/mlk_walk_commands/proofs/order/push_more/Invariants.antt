use Rattle.std.proofs.Common.{◌≡◌, ◌++◌, drop}
use Rattle.mlk_cert_lexemes.specs.Lists.{more}
use Rattle.mlk_cert_lexemes.specs.Texts.{name_text}
use Rattle.mlk_walk_commands.proofs.order.push_more.Given as goal

abbrev pub invariant-loop-name : goal.invariant-loop-name
invariant-loop-name l = l.text.items ++ more 44 name_text (drop l.name-index l.names)
    ≡ l.fn.text.items ++ more 44 name_text l.fn.names
