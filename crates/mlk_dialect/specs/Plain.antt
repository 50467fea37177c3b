-- The plain text of a routine: outside of quoted texts and comments a TAB is a space, and each word beyond the subset is one that is
-- read as any value. Each byte becomes one byte, so all lines and columns stay. This project's own choice.
use Rattle.std.specs.Prelude.{ℕ, ◌+◌, ◌==◌, ◌||◌, if◌then◌else◌, List, [], ◌∷◌, drop, Option, Some, None, Bool}
use Rattle.mlk_dialect.specs.declared.word.Word.{Word}
use Rattle.mlk_dialect.specs.declared.plain.Place.{Place}
use Rattle.mlk_dialect.specs.declared.plain.Place.TheVariants as place
use Rattle.mlk_dialect.specs.Words.{form_of, is_inert, word_at}

abbrev pub ends_line : ℕ → Bool
ends_line b = (b == 10) || (b == 13)

-- where reading is behind a byte of code
abbrev pub behind_code : ℕ → Place
behind_code b =
    if b == 34 then place.Quoted
    else if b == 59 then place.Comment
    else place.Code b

-- where reading is behind a byte
abbrev pub behind : Place → ℕ → Place
behind (place.Code before) b = behind_code b
behind place.Quoted b = if (b == 34) || ends_line b then place.Code b else place.Quoted
behind place.Comment b = if ends_line b then place.Code b else place.Comment

-- the word that begins at a place with the byte b before xs
abbrev pub word_in : Place → ℕ → List ℕ → Option Word
word_in (place.Code before) b xs = word_at before b xs
word_in place.Quoted b xs = None
word_in place.Comment b xs = None

abbrev pub form_in : Option Word → List ℕ
form_in None = []
form_in (Some w) = form_of w

-- a byte outside of words
abbrev pub own_byte : Place → ℕ → ℕ
own_byte (place.Code before) b = if b == 9 then 32 else b
own_byte place.Quoted b = b
own_byte place.Comment b = b

-- the first byte of a form, if there is one
abbrev pub first_or : ℕ → List ℕ → ℕ
first_or own [] = own
first_or own (f ∷ left) = f

-- Where reading is behind the byte b, whose form is given.
abbrev pub place_by : Place → ℕ → List ℕ → Place
place_by own b [] = own
place_by own b (f ∷ left) = behind_code b

-- the plain text of bytes at a place, where `left` is left of the form of a word that began before them
unfoldable pub plain_from : Place → List ℕ → List ℕ → List ℕ
plain_from p left [] = []
plain_from p [] (b ∷ xs) =
    let form = form_in (word_in p b xs) in
    first_or (own_byte p b) form ∷ plain_from (place_by (behind p b) b form) (drop 1 form) xs
plain_from p (f ∷ left) (b ∷ xs) = f ∷ plain_from (behind_code b) left xs

abbrev pub plain : List ℕ → List ℕ
plain text = plain_from (place.Code 10) [] text

-- how many words of bytes are safe only by the premise
abbrev pub inert_in : Option Word → ℕ
inert_in None = 0
inert_in (Some w) = if is_inert w then 1 else 0

unfoldable pub inert_from : Place → List ℕ → List ℕ → ℕ
inert_from p left [] = 0
inert_from p [] (b ∷ xs) =
    let form = form_in (word_in p b xs) in
    inert_in (word_in p b xs) + inert_from (place_by (behind p b) b form) (drop 1 form) xs
inert_from p (f ∷ left) (b ∷ xs) = inert_from (behind_code b) left xs

abbrev pub inert : List ℕ → ℕ
inert text = inert_from (place.Code 10) [] text
