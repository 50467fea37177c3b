-- The words of a routine that the plain text replaces, and what replaces them. This project's own choice.
use Rattle.std.specs.Prelude.{ℕ, suc, ◌-◌, ◌==◌, ◌&&◌, ◌||◌, not, if◌then◌else◌, Bool, true, false, List, [], ◌∷◌, ◌++◌, length, replicate, Option, Some, None, take, drop, codes}
use Rattle.std.specs.List.{prefix_len}
use Rattle.mlk_text.specs.Lexemes.{is_name_byte, letters}
use Rattle.mlk_dialect.specs.declared.word.Word.{Word}
use Rattle.mlk_dialect.specs.declared.word.Word.TheVariants as word
use Rattle.mlk_dialect.specs.Tables.{is_variable, is_function, is_zdata, is_text_name}

-- `1E` and zeros: a number that is read as any value
abbrev pub any_value : ℕ → List ℕ
any_value zeros = 49 ∷ 69 ∷ replicate zeros 48

-- A function that gives any value, with its parenthesis: `$A(`, `$FN(`, and `$A(` with one more argument, a number.
abbrev pub any_function : ℕ → List ℕ
any_function len =
    if len == 3 then codes "$A("
    else if len == 4 then codes "$FN("
    else codes "$A(" ++ (replicate (len - 4) 49 ++ codes ",")

-- What a word is in the plain text. Each is as long as the word.
abbrev pub form_of : Word → List ℕ
form_of word.AtMost = codes "'>"
form_of word.AtLeast = codes "'<"
form_of word.NotAtMost = codes ">++"
form_of word.NotAtLeast = codes "<++"
form_of (word.Value len) = any_value (len - 2)
form_of (word.Line name rest) = any_value name ++ replicate rest 48
form_of (word.Function len) = any_function len
form_of word.Data = codes "++++$D("

-- whether a report rests on the premise that this word touches no data and no lock
abbrev pub is_inert : Word → Bool
is_inert (word.Value len) = true
is_inert (word.Line name rest) = true
is_inert (word.Function len) = true
is_inert word.Data = true
is_inert w = false

-- A word with `$` begins only where an operand may: not behind a name, a number, another `$`, `^`, a text, `)` or `?`.
abbrev pub may_begin : ℕ → Bool
may_begin before =
    not (is_name_byte before || (before == 37) || (before == 46) || (before == 36) || (before == 94) || (before == 34) || (before == 41) || (before == 63))

-- and it ends where no digit, `%` or point follows
abbrev pub may_end : List ℕ → Bool
may_end [] = true
may_end (b ∷ xs) = not (is_name_byte b || (b == 37) || (b == 46))

-- a byte of what `$TEXT` asks for, where it is a line: `LABEL+OFFSET^ROUTINE`
abbrev pub is_line_byte : ℕ → Bool
is_line_byte b = is_name_byte b || (b == 37) || (b == 43) || (b == 94)

abbrev pub line_bytes : List ℕ → ℕ
line_bytes = prefix_len is_line_byte

-- the parenthesis that ends `$TEXT` of a line
abbrev pub text_end : ℕ → ℕ → List ℕ → Option Word
text_end name line [] = None
text_end name line (b ∷ xs) = if (b == 41) && may_end xs then Some (word.Line name (suc line)) else None

-- `$TEXT(..)` of a line behind its parenthesis, where its name has `name` bytes
abbrev pub text_call : ℕ → List ℕ → Option Word
text_call name xs = text_end name (line_bytes xs) (drop (line_bytes xs) xs)

-- a word with `$` by its name and what follows it
abbrev pub named_word : List ℕ → List ℕ → Option Word
named_word name [] = if is_variable name then Some (word.Value (suc (length name))) else None
named_word name (b ∷ xs) =
    if b == 40 then
    (if is_text_name name then text_call (length name) xs
    else if is_function name then Some (word.Function (suc (suc (length name))))
    else if is_zdata name then Some word.Data
    else None)
    else if is_variable name && may_end (b ∷ xs) then Some (word.Value (suc (length name)))
    else None

-- a word that is `$` and this rest
abbrev pub dollar_word : List ℕ → Option Word
dollar_word xs = named_word (take (letters xs) xs) (drop (letters xs) xs)

-- `<=` and `>=`, by the two bytes
abbrev pub sign_by : Word → Word → ℕ → List ℕ → Option Word
sign_by less more b [] = None
sign_by less more b (c ∷ xs) =
    if (b == 60) && (c == 61) then Some less
    else if (b == 62) && (c == 61) then Some more
    else None

abbrev pub sign_word : Word → Word → List ℕ → Option Word
sign_word less more [] = None
sign_word less more (b ∷ xs) = sign_by less more b xs

-- the word that begins with the byte `b` before `xs`, behind the byte `before`
abbrev pub word_at : ℕ → ℕ → List ℕ → Option Word
word_at before b xs =
    if b == 36 then (if may_begin before then dollar_word xs else None)
    else if b == 39 then sign_word word.NotAtMost word.NotAtLeast xs
    else sign_by word.AtMost word.AtLeast b xs
