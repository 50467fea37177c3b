-- Names, values, subscripts, terms and texts of entries. Names and labels are those of ISO/IEC 11756.
use Rattle.std.specs.Prelude.{ℕ, ◌≡◌, ◌⊎◌, ◌<◌, Bool, true, List, ◌∷◌, ◌++◌, Some, []}
use Rattle.mlk_text.specs.Lexemes.{name_at, are_digits}
use Rattle.mlk_text.specs.declared.root.Root.{Root}
use Rattle.mlk_text.specs.declared.root.Root.TheVariants as root
use Rattle.mlk_names.specs.declared.known_symbol.KnownSym.{KnownSym}
use Rattle.mlk_names.specs.declared.known_symbol.KnownSym.TheVariants as known
use Rattle.mlk_names.specs.declared.term.LockTerm.{LockTerm}
use Rattle.mlk_cert_lexemes.specs.Lists.{Each, upto}
use Rattle.mlk_cert_lexemes.specs.Texts.{term_text}

-- a name, and nothing after it
abbrev pub ReadsAsName : List ℕ → Type 0
ReadsAsName name = name_at name ≡ Some (name, [])

-- bytes are below 256
abbrev pub HasBytes : List ℕ → Type 0
HasBytes value = Each (λ b. b < 256) value

abbrev pub IsSymbol : KnownSym → Type 0
IsSymbol (known.Const value) = HasBytes value
IsSymbol (known.Local name) = ReadsAsName name
IsSymbol known.Job = Unit {0}

abbrev pub IsNamedRoot : Root → Type 0
IsNamedRoot (root.Global name) = ReadsAsName name
IsNamedRoot (root.Local name) = ReadsAsName name

abbrev pub IsTerm : LockTerm → Type 0
IsTerm t = IsNamedRoot t.root × Each IsSymbol t.subs

-- terms are in the order of their texts, and may repeat
abbrev pub terms_upto : LockTerm → LockTerm → Bool
terms_upto t u = upto (term_text t) (term_text u)

-- a label: a name, digits, or nothing
abbrev pub IsLabelOrNothing : List ℕ → Type 0
IsLabelOrNothing label = (are_digits label ≡ true) ⊎ ReadsAsName label

-- an entry's text: a label, `^`, and a routine's name
abbrev pub IsEntryText : List ℕ → Type 0
IsEntryText text = (label routine : List ℕ) × IsLabelOrNothing label × ReadsAsName routine × (text ≡ label ++ 94 ∷ routine)
