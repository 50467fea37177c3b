-- The parts of the printed text, as the code joins them. For private clauses only. This project's own.
use Rattle.std.specs.Prelude.{ℕ, Bool, List, [], ◌∷◌, ◌++◌}
use Rattle.std.specs.Fmt.{decimal}
use Rattle.mlk_names.specs.declared.lock_name.LockName.{LockName}
use Rattle.mlk_cert_lexemes.specs.Lists.{more}
use Rattle.mlk_cert_lexemes.specs.Texts.{listed}
use Rattle.mlk_machine_view.specs.declared.holding.Holding.{Holding}
use Rattle.mlk_machine_view.specs.StateTexts.{name_text, timed_text}

-- subscripts: none, or in parentheses, separated by commas
abbrev pub constants_in : {A : Type 0} → (A → List ℕ) → List A → List ℕ
constants_in text [] = []
constants_in text (a ∷ items) = 40 ∷ (text a ++ (more 44 text items ++ 41 ∷ []))

-- the names of a claim
abbrev pub claim_text : List LockName → Bool → List ℕ
claim_text names timed = listed name_text names ++ timed_text timed

-- a held name as text, and its count
abbrev pub holding_of : LockName × ℕ → Holding
holding_of h = record { name = name_text h.0; count = h.1 }

abbrev pub holding_text : Holding → List ℕ
holding_text h = h.name ++ 42 ∷ decimal h.count
