-- The smallest parts of M's texts, each as long as possible: names, digits, quoted texts, literals and subscripts.
use Rattle.std.specs.Prelude.{ℕ, suc, ◌≡◌, ◌≤◌, ◌⊎◌, ◌==◌, ◌&&◌, ◌||◌, nat_le, if◌then◌else◌, Bool}
use Rattle.std.specs.Prelude.{true, List, [], ◌∷◌, ◌++◌, length, Option, Some, None, take, drop}
use Rattle.std.specs.List.{list_all, prefix_len}
use Rattle.mlk_text.specs.declared.root.Root.{Root}
use Rattle.mlk_text.specs.declared.root.Root.TheVariants as root
use Rattle.mlk_text.specs.Reading.{◌>>=◌, with, put, separated, Separated}
pub use Rattle.mlk_text.specs.Spellings.{is_digit, is_letter, is_name_byte}
use Rattle.mlk_text.specs.Spellings.{is_name}

-- a byte of a quoted text or a comment: TAB, or 32 and above without 127 (this project's own choice)
abbrev pub is_text_byte : ℕ → Bool
is_text_byte b = (b == 9) || (nat_le 32 b && nat_le b 126) || (nat_le 128 b && nat_le b 255)

-- whether all bytes are of a quoted text or a comment
abbrev pub is_text : List ℕ → Bool
is_text = list_all is_text_byte

-- digits only
abbrev pub are_digits : List ℕ → Bool
are_digits = list_all is_digit

-- the number of bytes at the front that may follow in a name
abbrev pub name_bytes : List ℕ → ℕ
name_bytes = prefix_len is_name_byte

-- the number of digits at the front
abbrev pub digits : List ℕ → ℕ
digits = prefix_len is_digit

-- the number of letters at the front
abbrev pub letters : List ℕ → ℕ
letters = prefix_len is_letter

-- the list after a given byte
abbrev pub byte_at : ℕ → List ℕ → Option (ℕ × List ℕ)
byte_at b [] = None
byte_at b (x ∷ xs) = if x == b then Some (x, xs) else None

-- A name: `%` or a letter, then letters and digits (ISO/IEC 11756, name), of at most 31 bytes.
unfoldable pub name_at : List ℕ → Option (List ℕ × List ℕ)
name_at [] = None
name_at (b ∷ xs) = let n = name_bytes xs in if (is_letter b || (b == 37)) && nat_le n 30 then Some (b ∷ take n xs, drop n xs) else None

-- the letters at the front, and the rest
abbrev pub word_at : List ℕ → List ℕ × List ℕ
word_at xs = (take (letters xs) xs, drop (letters xs) xs)

-- the first one, otherwise the second
abbrev pub or_else : {A : Type 0} → Option A → Option A → Option A
or_else None other = other
or_else (Some a) other = Some a

-- Digits, at least one (ISO/IEC 11756, intlit).
unfoldable pub digits_at : List ℕ → Option (List ℕ × List ℕ)
digits_at xs = let n = digits xs in if n == 0 then None else Some (take n xs, drop n xs)

-- A label: a name, or digits as written (ISO/IEC 11756, label).
unfoldable pub label_at : List ℕ → Option (List ℕ × List ℕ)
label_at xs = or_else (name_at xs) (digits_at xs)

-- a local's name, or a global's after its caret
abbrev pub root_by : List ℕ → Option (ℕ × List ℕ) → Option (Root × List ℕ)
root_by xs None = with root.Local (name_at xs)
root_by xs (Some caret) = with root.Global (name_at caret.1)

-- the root of a lock name at the front
unfoldable pub root_at : List ℕ → Option (Root × List ℕ)
root_at xs = root_by xs (byte_at 94 xs)

-- the routine of an entry after its caret, with its label
abbrev pub entry_by : List ℕ → Option (ℕ × List ℕ) → Option (List ℕ × List ℕ)
entry_by label None = None
entry_by label (Some caret) = if is_name caret.1 then Some (label, caret.1) else None

-- The label and the routine of an entry's text. A law says that these are its parts in the sense of `IsEntry`.
unfoldable pub entry_of : List ℕ → Option (List ℕ × List ℕ)
entry_of text = let l = or_else (label_at text) (Some ([], text)) in l >>= λ label. entry_by label.0 (byte_at 94 label.1)

-- the number of zeros at the front
abbrev pub zeros : List ℕ → ℕ
zeros = prefix_len (λ b. b == 48)

-- the length without the zeros at the end
abbrev pub to_last : List ℕ → ℕ
to_last [] = 0
to_last (b ∷ xs) = if (b == 48) && (to_last xs == 0) then 0 else suc (to_last xs)

-- Digits without their leading zeros, or `0` if nothing is left: the canonical form of their value (ISO/IEC 11756, numeric
-- interpretation).
abbrev pub canonical_of : List ℕ → List ℕ
canonical_of [] = 48 ∷ []
canonical_of (b ∷ xs) = b ∷ xs

-- the canonical form of all digits
unfoldable pub canonical : List ℕ → List ℕ
canonical ds = canonical_of (drop (zeros ds) ds)

-- Whether every system represents these digits exactly: at most 25, of them at most 15 from the first to the last nonzero one
-- (this project's own choice).
unfoldable pub is_exact : List ℕ → Bool
is_exact ds = nat_le (length ds) 25 && nat_le (to_last (drop (zeros ds) ds)) 15

-- the value of digits if they are exact
abbrev pub exactly : List ℕ × List ℕ → Option (List ℕ × List ℕ)
exactly r = if is_exact r.0 then Some (canonical r.0, r.1) else None

-- the value of the digits at the front
unfoldable pub exact_digits_at : List ℕ → Option (List ℕ × List ℕ)
exact_digits_at xs = digits_at xs >>= exactly

-- Doubles a quote (ISO/IEC 11756, strlit).
abbrev pub twice : ℕ → List ℕ
twice b = if b == 34 then 34 ∷ 34 ∷ [] else b ∷ []

-- a text with each quote doubled
abbrev pub doubled : List ℕ → List ℕ
doubled [] = []
doubled (b ∷ bs) = twice b ++ doubled bs

-- the value before the closing quote, and the rest after that quote
unfoldable mutual
  -- after the opening quote
  pub inside : List ℕ → Option (List ℕ × List ℕ)
  inside [] = None
  inside (b ∷ xs) = if b == 34 then closing xs else (if is_text_byte b then put (b ∷ []) (inside xs) else None)

  -- after a quote: it closes the text, or a second one follows
  pub closing : List ℕ → Option (List ℕ × List ℕ)
  closing [] = Some ([], [])
  closing (b ∷ xs) = if b == 34 then put (34 ∷ []) (inside xs) else Some ([], b ∷ xs)

-- the value of the literal at the front
unfoldable pub literal_at : List ℕ → Option (List ℕ × List ℕ)
literal_at [] = None
literal_at (b ∷ xs) = if b == 34 then inside xs else exact_digits_at (b ∷ xs)

-- a number: its canonical text is the value
abbrev pub IsNumber : List ℕ → List ℕ → List ℕ → Type 0
IsNumber value xs ys = (ds : List ℕ) × (digits_at xs ≡ Some (ds, ys)) × (is_exact ds ≡ true) × (value ≡ canonical ds)

-- a text in quotes, with each quote inside doubled; no quote follows
abbrev pub IsQuoted : List ℕ → List ℕ → List ℕ → Type 0
IsQuoted value xs ys = (xs ≡ 34 ∷ (doubled value ++ 34 ∷ ys)) × (is_text value ≡ true) × (byte_at 34 ys ≡ None)

-- A literal (ISO/IEC 11756, numlit without point and exponent, and strlit).
unfoldable pub IsLiteral : List ℕ → List ℕ → List ℕ → Type 0
IsLiteral value xs ys = IsNumber value xs ys ⊎ IsQuoted value xs ys

-- one or more literals separated by commas, and a closing parenthesis
abbrev pub IsList : List (List ℕ) → List ℕ → List ℕ → Type 0
IsList values xs ys = Separated (byte_at 44) IsLiteral values xs (41 ∷ ys)

-- Subscripts: none, or a list in parentheses (ISO/IEC 11756, glvn); at most 32.
abbrev pub IsSubs : List (List ℕ) → List ℕ → List ℕ → Type 0
IsSubs [] xs ys = (xs ≡ ys) × (byte_at 40 xs ≡ None)
IsSubs (v ∷ vs) xs ys = (m : List ℕ) × (xs ≡ 40 ∷ m) × IsList (v ∷ vs) m ys × (length (v ∷ vs) ≤ 32)

-- the literals of a list, and what is after its closing parenthesis
unfoldable pub list_at : List ℕ → Option (List (List ℕ) × List ℕ)
list_at xs = separated (byte_at 44) literal_at xs >>= λ values. with (λ _. values.0) (byte_at 41 values.1)

-- at most 32
abbrev pub few : List (List ℕ) × List ℕ → Option (List (List ℕ) × List ℕ)
few r = if nat_le (length r.0) 32 then Some r else None

-- none, or a list after the opening parenthesis
abbrev pub subs_by : List ℕ → Option (ℕ × List ℕ) → Option (List (List ℕ) × List ℕ)
subs_by xs None = Some ([], xs)
subs_by xs (Some b) = list_at b.1 >>= few

-- the subscripts at the front
unfoldable pub subs_at : List ℕ → Option (List (List ℕ) × List ℕ)
subs_at xs = subs_by xs (byte_at 40 xs)
