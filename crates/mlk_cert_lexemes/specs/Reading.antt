-- Reading lexemes, terms and lists, as functions on lists: what is read, and the rest. `proofs/Formats.antt` and similar files
-- connect it to `Texts` and `Kinds`.
use Rattle.std.specs.Prelude.{ℕ, suc, ◌+◌, ◌-◌, ◌*◌, ◌==◌, ◌&&◌, ◌||◌, nat_le, if◌then◌else◌, Bool}
use Rattle.std.specs.Prelude.{false, List, ◌∷◌, ◌++◌, length, Option, Some, None, option_map, []}
use Rattle.mlk_text.specs.Reading.{◌>>=◌, with, put, many}
use Rattle.mlk_text.specs.Lexemes.{digits_at, byte_at, name_at, label_at, root_at, or_else}
use Rattle.mlk_text.specs.declared.root.Root.{Root}
use Rattle.mlk_names.specs.declared.known_symbol.KnownSym.{KnownSym}
use Rattle.mlk_names.specs.declared.known_symbol.KnownSym.TheVariants as known
use Rattle.mlk_names.specs.declared.term.LockTerm.{LockTerm}
use Rattle.mlk_cert_lexemes.specs.Texts.{is_plain}

-- the rest after a word
abbrev pub strip : List ℕ → List ℕ → Option (List ℕ)
strip [] xs = Some xs
strip (w ∷ ws) [] = None
strip (w ∷ ws) (x ∷ xs) = if x == w then strip ws xs else None

-- a word, and the rest
unfoldable pub word_at : List ℕ → List ℕ → Option (List ℕ × List ℕ)
word_at word xs = option_map (λ rest. (word, rest)) (strip word xs)

-- the value of digits that follow others with a given value, up to a limit
abbrev pub value_after : ℕ → ℕ → List ℕ → Option ℕ
value_after limit n [] = Some n
value_after limit n (b ∷ ds) = if nat_le (n * 10 + (b - 48)) limit then value_after limit (n * 10 + (b - 48)) ds else None

-- whether a zero precedes further digits
abbrev pub leads_zero : List ℕ → Bool
leads_zero [] = false
leads_zero (b ∷ []) = false
leads_zero (b ∷ c ∷ ds) = b == 48

-- a number up to a limit, without leading zeros
abbrev pub number_by : ℕ → List ℕ × List ℕ → Option (ℕ × List ℕ)
number_by limit r = if leads_zero r.0 then None else (value_after limit 0 r.0 >>= λ n. Some (n, r.1))

unfoldable pub number_at : ℕ → List ℕ → Option (ℕ × List ℕ)
number_at limit xs = digits_at xs >>= number_by limit

-- `number_by`, from 1 on
abbrev pub positive : ℕ × List ℕ → Option (ℕ × List ℕ)
positive r = if r.0 == 0 then None else Some r

abbrev pub counted_at : ℕ → List ℕ → Option (ℕ × List ℕ)
counted_at limit xs = number_at limit xs >>= positive

-- a hexadecimal digit in lower case
abbrev pub hex_value : ℕ → Option ℕ
hex_value b = if nat_le 48 b && nat_le b 57 then Some (b - 48) else (if nat_le 97 b && nat_le b 102 then Some (b - 87) else None)

-- a byte that is not written as itself, from two hexadecimal digits
abbrev pub escaped_at : List ℕ → Option (ℕ × List ℕ)
escaped_at [] = None
escaped_at (h ∷ []) = None
escaped_at (h ∷ l ∷ xs) =
    hex_value h >>= λ high.
    hex_value l >>= λ low.
    if is_plain (high * 16 + low) || ((high * 16 + low) == 34) then None else Some (high * 16 + low, xs)

-- a byte of a constant
unfoldable pub piece_at : List ℕ → Option (ℕ × List ℕ)
piece_at [] = None
piece_at (b ∷ xs) = if is_plain b then Some (b, xs) else (if b == 34 then byte_at 34 xs else (if b == 92 then escaped_at xs else None))

-- what was read, and nothing more
abbrev pub keep : {A : Type 0} → A → List ℕ → Option (A × List ℕ)
keep a xs = Some (a, xs)

-- a constant, in quotes
unfoldable pub constant_at : List ℕ → Option (List ℕ × List ℕ)
constant_at xs =
    byte_at 34 xs >>= λ front.
    many piece_at keep (suc (length front.1)) front.1 >>= λ value.
    with (λ _. value.0) (byte_at 34 value.1)

-- the item after a comma or a semicolon
abbrev pub next : {A : Type 0} → (List ℕ → Option (A × List ℕ)) → ℕ → List ℕ → Option (A × List ℕ)
next item b xs = item xs

-- one or more items separated by a given byte
unfoldable pub list_at : {A : Type 0} → (List ℕ → Option (A × List ℕ)) → ℕ → List ℕ → Option (List A × List ℕ)
list_at item between xs =
    item xs >>= λ first. put (first.0 ∷ []) (many (byte_at between) (next item) (suc (length first.1)) first.1)

-- none for a dash, otherwise one or more separated by semicolons
abbrev pub listed_by : {A : Type 0} → (List ℕ → Option (A × List ℕ)) → List ℕ → Option (ℕ × List ℕ) → Option (List A × List ℕ)
listed_by item xs (Some dash) = Some ([], dash.1)
listed_by item xs None = list_at item 59 xs

unfoldable pub listed_at : {A : Type 0} → (List ℕ → Option (A × List ℕ)) → List ℕ → Option (List A × List ℕ)
listed_at item xs = listed_by item xs (byte_at 45 xs)

-- a subscript
abbrev pub job_by : List ℕ → Option (ℕ × List ℕ) → Option (KnownSym × List ℕ)
job_by xs (Some dollar) = with (λ _. known.Job) (byte_at 74 dollar.1)
job_by xs None = with known.Local (name_at xs)

abbrev pub symbol_by : List ℕ → Option (ℕ × List ℕ) → Option (KnownSym × List ℕ)
symbol_by xs (Some quote) = with known.Const (constant_at xs)
symbol_by xs None = job_by xs (byte_at 36 xs)

unfoldable pub symbol_at : List ℕ → Option (KnownSym × List ℕ)
symbol_at xs = symbol_by xs (byte_at 34 xs)

-- subscripts: none without an opening parenthesis
abbrev pub subs_by : List ℕ → Option (ℕ × List ℕ) → Option (List KnownSym × List ℕ)
subs_by xs None = Some ([], xs)
subs_by xs (Some paren) = list_at symbol_at 44 paren.1 >>= λ subs. with (λ _. subs.0) (byte_at 41 subs.1)

unfoldable pub subs_at : List ℕ → Option (List KnownSym × List ℕ)
subs_at xs = subs_by xs (byte_at 40 xs)

abbrev pub term_of : Root → List KnownSym → LockTerm
term_of r subs = record { root = r; subs = subs }

-- a term
unfoldable pub term_at : List ℕ → Option (LockTerm × List ℕ)
term_at xs = root_at xs >>= λ r. with (term_of r.0) (subs_at r.1)

-- a part after its word
unfoldable pub part_at : {A : Type 0} → List ℕ → (List ℕ → Option (A × List ℕ)) → List ℕ → Option (A × List ℕ)
part_at word item xs = word_at word xs >>= λ w. item w.1

-- a label at the front, or nothing
abbrev pub label_before : List ℕ → Option (List ℕ × List ℕ)
label_before xs = or_else (label_at xs) (Some ([], xs))

-- an entry's text
unfoldable pub entry_at : List ℕ → Option (List ℕ × List ℕ)
entry_at xs = label_before xs >>= λ label. byte_at 94 label.1 >>= λ caret. with (λ routine. label.0 ++ 94 ∷ routine) (name_at caret.1)
