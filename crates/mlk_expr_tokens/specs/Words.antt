-- The words after `$`, each in either case, short or whole: special variables and functions. Standard: special
-- variables, functions. Which of them are read is this project's own choice.
use Rattle.std.specs.Prelude.{ℕ, ◌||◌, if◌then◌else◌, Bool, List, Option, Some, None, codes}
use Rattle.std.specs.Str.{str_eq_ignore_ascii_case}
use Rattle.mlk_text.specs.Lexemes.{or_else}
use Rattle.mlk_syntax.specs.declared.expr.Special.{Special}
use Rattle.mlk_syntax.specs.declared.expr.Special.TheVariants as special
use Rattle.mlk_syntax.specs.declared.expr.Function.{Function}
use Rattle.mlk_syntax.specs.declared.expr.Function.TheVariants as function

abbrev pub is_either : List ℕ → List ℕ → List ℕ → Bool
is_either short whole w = str_eq_ignore_ascii_case w short || str_eq_ignore_ascii_case w whole

-- special variables, in two tables
unfoldable pub special_to_principal : List ℕ → Option Special
special_to_principal w =
    if is_either (codes "D") (codes "DEVICE") w then Some special.Device
    else if is_either (codes "H") (codes "HOROLOG") w then Some special.Horolog
    else if is_either (codes "I") (codes "IO") w then Some special.Io
    else if is_either (codes "J") (codes "JOB") w then Some special.Job
    else if is_either (codes "K") (codes "KEY") w then Some special.Key
    else if is_either (codes "P") (codes "PRINCIPAL") w then Some special.Principal
    else None

unfoldable pub special_from_quit : List ℕ → Option Special
special_from_quit w =
    if is_either (codes "Q") (codes "QUIT") w then Some special.Quit
    else if is_either (codes "S") (codes "STORAGE") w then Some special.Storage
    else if is_either (codes "SY") (codes "SYSTEM") w then Some special.System
    else if is_either (codes "T") (codes "TEST") w then Some special.Test
    else if is_either (codes "X") (codes "X") w then Some special.X
    else if is_either (codes "Y") (codes "Y") w then Some special.Y
    else None

unfoldable pub special_of : List ℕ → Option Special
special_of w = or_else (special_to_principal w) (special_from_quit w)

-- functions other than `$SELECT`, in three tables
unfoldable pub function_to_fnumber : List ℕ → Option Function
function_to_fnumber w =
    if is_either (codes "A") (codes "ASCII") w then Some function.Ascii
    else if is_either (codes "C") (codes "CHAR") w then Some function.Char
    else if is_either (codes "D") (codes "DATA") w then Some function.Data
    else if is_either (codes "E") (codes "EXTRACT") w then Some function.Extract
    else if is_either (codes "F") (codes "FIND") w then Some function.Find
    else if is_either (codes "FN") (codes "FNUMBER") w then Some function.FormatNumber
    else None

-- `$INCREMENT`, which the standard does not have and most vendors do
abbrev pub is_increment : List ℕ → Bool
is_increment w = is_either (codes "I") (codes "INCREMENT") w || str_eq_ignore_ascii_case w (codes "INCR")

unfoldable pub function_to_piece : List ℕ → Option Function
function_to_piece w =
    if is_either (codes "G") (codes "GET") w then Some function.Get
    else if is_increment w then Some function.Increment
    else if is_either (codes "J") (codes "JUSTIFY") w then Some function.Justify
    else if is_either (codes "L") (codes "LENGTH") w then Some function.Length
    else if is_either (codes "NA") (codes "NAME") w then Some function.Name
    else if is_either (codes "O") (codes "ORDER") w then Some function.Order
    else if is_either (codes "P") (codes "PIECE") w then Some function.Piece
    else None

unfoldable pub function_from_qlength : List ℕ → Option Function
function_from_qlength w =
    if is_either (codes "QL") (codes "QLENGTH") w then Some function.QueryLength
    else if is_either (codes "QS") (codes "QSUBSCRIPT") w then Some function.QuerySubscript
    else if is_either (codes "Q") (codes "QUERY") w then Some function.Query
    else if is_either (codes "R") (codes "RANDOM") w then Some function.Random
    else if is_either (codes "RE") (codes "REVERSE") w then Some function.Reverse
    else if is_either (codes "TR") (codes "TRANSLATE") w then Some function.Translate
    else None

unfoldable pub function_of : List ℕ → Option Function
function_of w = or_else (function_to_fnumber w) (or_else (function_to_piece w) (function_from_qlength w))

-- `$SELECT`
unfoldable pub is_select : List ℕ → Bool
is_select w = is_either (codes "S") (codes "SELECT") w
