-- What is promised of cases with numbers. Terms are as certificates have them, so that their texts tell them apart. This
-- project's own choice.
use Rattle.std.specs.Prelude.{◌≡◌, ◌↔◌, List, ◌++◌}
use Rattle.mlk_names.specs.declared.term.LockTerm.{LockTerm}
use Rattle.mlk_cert_lexemes.specs.Lists.{Each}
use Rattle.mlk_cert_lexemes.specs.Kinds.{IsTerm}
use Rattle.mlk_cert_parts.specs.declared.case.Case.{Case}
use Rattle.mlk_cert_terms.specs.declared.case.NumCase.{NumCase}
use Rattle.mlk_cert_terms.specs.Numbered.{IsNumbered}

-- two cases hold the same terms exactly if they have the same numbers in the table
abbrev pub EqualNumbers : List LockTerm → Type 0
EqualNumbers table = (n m : NumCase) (c d : Case) → Each IsTerm c.held → IsNumbered table n c → IsNumbered table m d
    → (c.held ≡ d.held) ↔ (n.held ≡ m.held)

-- numbers are those of one case at most
abbrev pub OneCase : Type 0
OneCase = (table : List LockTerm) (n : NumCase) (c d : Case) → Each IsTerm c.held → IsNumbered table n c → IsNumbered table n d → c ≡ d

-- a table with more terms at its end has the same numbers for a case
abbrev pub GrownTables : Type 0
GrownTables = (old more : List LockTerm) (n : NumCase) (c : Case) → IsNumbered old n c → IsNumbered (old ++ more) n c
