-- The texts of pieces.
use Rattle.std.specs.Prelude.{ℕ, List, [], ◌∷◌, ◌++◌, codes, map, Vec}
use Rattle.std.specs.Fmt.{decimal}
use Rattle.std.specs.Global.{Global}
use Rattle.mlk_text.specs.declared.code.Code.{Code}
use Rattle.mlk_text.specs.Codes.{number_of, word_of}
use Rattle.mlk_report_text.specs.declared.piece.Piece.{Piece}
use Rattle.mlk_report_text.specs.declared.piece.Piece.TheVariants.{Words, Bytes, Made, Number, At, CodeName, Listed}

abbrev pub bytes_of : Vec ℕ Global → List ℕ
bytes_of v = v.items

-- texts, each after a comma and a blank
abbrev pub more : List (List ℕ) → List ℕ
more [] = []
more (t ∷ ts) = codes ", " ++ t ++ more ts

-- texts separated by commas
abbrev pub listed : List (List ℕ) → List ℕ
listed [] = []
listed (t ∷ ts) = t ++ more ts

-- `line:column`
abbrev pub place_text : ℕ → ℕ → List ℕ
place_text line column = decimal line ++ codes ":" ++ decimal column

-- `CODE NAME`
abbrev pub code_text : Code → List ℕ
code_text code = decimal (number_of code) ++ codes " " ++ word_of code

abbrev pub piece_text : Piece → List ℕ
piece_text (Words words) = words.now
piece_text (Bytes bytes) = bytes.now
piece_text (Made bytes) = bytes.items
piece_text (Number number) = decimal number
piece_text (At line column) = place_text line column
piece_text (CodeName code) = code_text code
piece_text (Listed items) = listed (map bytes_of items.now)

abbrev pub pieces_text : List Piece → List ℕ
pieces_text [] = []
pieces_text (p ∷ ps) = piece_text p ++ pieces_text ps
