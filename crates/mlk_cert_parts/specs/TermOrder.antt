-- The order of terms. This project's own choice.
use Rattle.std.specs.Prelude.{ℕ, List}
use Rattle.std.specs.List.{prefix_len}
use Rattle.mlk_names.specs.declared.term.LockTerm.{LockTerm}
use Rattle.mlk_cert_lexemes.specs.Lists.{below}
use Rattle.mlk_cert_lexemes.specs.Texts.{term_text}

-- the number of terms before the first whose text is not below that of t
abbrev pub terms_before : List LockTerm → LockTerm → ℕ
terms_before terms t = prefix_len (λ u. below (term_text u) (term_text t)) terms
