-- The texts of lexemes, terms and lists in certificates and files of events, as joined parts: each has one text. This
-- project's own format; names are those of ISO/IEC 11756.
use Rattle.std.specs.Prelude.{ℕ, ◌+◌, ◌/◌, ◌%◌, ◌==◌, ◌&&◌, not, nat_lt, nat_le, if◌then◌else◌, Bool, List, ◌∷◌, ◌++◌, codes, []}
use Rattle.mlk_text.specs.declared.root.Root.{Root}
use Rattle.mlk_text.specs.declared.root.Root.TheVariants as root
use Rattle.mlk_names.specs.declared.known_symbol.KnownSym.{KnownSym}
use Rattle.mlk_names.specs.declared.known_symbol.KnownSym.TheVariants as known
use Rattle.mlk_names.specs.declared.term.LockTerm.{LockTerm}
use Rattle.mlk_cert_lexemes.specs.Lists.{flat, more}

-- the list of a line: `-` if it is empty, otherwise its items separated by `;`
abbrev pub listed : {A : Type 0} → (A → List ℕ) → List A → List ℕ
listed text [] = codes "-"
listed text (a ∷ items) = text a ++ more 59 text items

-- a hexadecimal digit in lower case
abbrev pub hex : ℕ → ℕ
hex d = if nat_lt d 10 then d + 48 else d + 87

-- a byte that is written as itself: 32 to 126, except a quote and `\`
abbrev pub is_plain : ℕ → Bool
is_plain b = nat_le 32 b && nat_le b 126 && not (b == 34) && not (b == 92)

-- a byte of a constant: itself, a doubled quote, or `\` and two hexadecimal digits
unfoldable pub byte_text : ℕ → List ℕ
byte_text b = if is_plain b then b ∷ [] else (if b == 34 then 34 ∷ 34 ∷ [] else 92 ∷ hex (b / 16) ∷ hex (b % 16) ∷ [])

-- a constant, in quotes
abbrev pub constant_text : List ℕ → List ℕ
constant_text value = 34 ∷ (flat byte_text value ++ 34 ∷ [])

-- a subscript: a constant, a local's name, or `$J` for the job's number
abbrev pub symbol_text : KnownSym → List ℕ
symbol_text (known.Const value) = constant_text value
symbol_text (known.Local name) = name
symbol_text known.Job = codes "$J"

-- subscripts: none, or in parentheses, separated by commas
abbrev pub subs_text : List KnownSym → List ℕ
subs_text [] = []
subs_text (s ∷ subs) = 40 ∷ (symbol_text s ++ (more 44 symbol_text subs ++ 41 ∷ []))

-- a global's name after a caret, or a local's
abbrev pub root_text : Root → List ℕ
root_text (root.Global name) = 94 ∷ name
root_text (root.Local name) = name

-- a term: a lock name
abbrev pub term_text : LockTerm → List ℕ
term_text t = root_text t.root ++ subs_text t.subs

-- a name
abbrev pub name_text : List ℕ → List ℕ
name_text name = name

-- a line: a word, its contents, and the line's end
abbrev pub line : List ℕ → List ℕ → List ℕ
line word text = word ++ (text ++ 10 ∷ [])
