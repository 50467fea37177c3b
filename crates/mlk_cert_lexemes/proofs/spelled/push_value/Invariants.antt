use Rattle.std.proofs.Common.{◌≡◌, ◌++◌, ◌∷◌, [], drop}
use Rattle.mlk_cert_lexemes.specs.Lists.{flat}
use Rattle.mlk_cert_lexemes.specs.Texts.{byte_text}
use Rattle.mlk_cert_lexemes.proofs.spelled.push_value.Given as goal

abbrev pub invariant-loop-byte : goal.invariant-loop-byte
invariant-loop-byte l = l.text ++ flat byte_text (drop l.byte-index l.value) ≡ (l.fn.text ++ 34 ∷ []) ++ flat byte_text l.value
