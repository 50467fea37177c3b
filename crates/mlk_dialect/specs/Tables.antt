-- The closed lists of words beyond the subset, as GT.M and YottaDB spell them, in either case. Each only gives a value: it touches
-- no global, no local and no lock, and runs no M. This project's own choice.
use Rattle.std.specs.Prelude.{ℕ, ◌||◌, Bool, List, [], ◌∷◌, codes}
use Rattle.std.specs.Str.{str_eq_ignore_ascii_case}
use Rattle.std.specs.List.{list_any}

-- whether a word is one of these
abbrev pub is_one_of : List (List ℕ) → List ℕ → Bool
is_one_of names word = list_any (str_eq_ignore_ascii_case word) names

-- special variables: what the session, the process, its devices and its last error are like
abbrev pub session_variables : List (List ℕ)
session_variables =
    codes "EC" ∷ codes "ECODE" ∷ codes "ES" ∷ codes "ESTACK" ∷ codes "ST" ∷ codes "STACK" ∷ codes "TL" ∷ codes "TLEVEL" ∷ codes "TR" ∷ codes "TRESTART"
    ∷ codes "ZA" ∷ codes "ZALLOCSTOR" ∷ codes "ZB" ∷ codes "ZCHSET" ∷ codes "ZCLOSE" ∷ codes "ZCMDLINE" ∷ codes "ZDATEFORM" ∷ codes "ZEOF" ∷ []

abbrev pub system_variables : List (List ℕ)
system_variables =
    codes "ZH" ∷ codes "ZHOROLOG" ∷ codes "ZIO" ∷ codes "ZJOB" ∷ codes "ZKEY" ∷ codes "ZL" ∷ codes "ZLEVEL" ∷ codes "ZMODE" ∷ codes "ZPOSITION" ∷ codes "ZPROMPT"
    ∷ codes "ZREALSTOR" ∷ codes "ZS" ∷ codes "ZSO" ∷ codes "ZSOURCE" ∷ codes "ZSTATUS" ∷ codes "ZUSEDSTOR" ∷ codes "ZUT" ∷ codes "ZV" ∷ codes "ZVER" ∷ codes "ZVERSION" ∷ []

abbrev pub is_variable : List ℕ → Bool
is_variable word = is_one_of session_variables word || is_one_of system_variables word

-- functions of the values of their arguments
abbrev pub text_functions : List (List ℕ)
text_functions =
    codes "ZASCII" ∷ codes "ZCH" ∷ codes "ZCHAR" ∷ codes "ZCONVERT" ∷ codes "ZD" ∷ codes "ZDATE" ∷ codes "ZE" ∷ codes "ZEXTRACT" ∷ codes "ZFIND" ∷ codes "ZJ" ∷ codes "ZJUSTIFY"
    ∷ codes "ZLENGTH" ∷ codes "ZPI" ∷ codes "ZPIECE" ∷ codes "ZSUBSTR" ∷ codes "ZTRANSLATE" ∷ codes "ZWIDTH" ∷ codes "ZWRITE" ∷ []

abbrev pub bit_functions : List (List ℕ)
bit_functions =
    codes "ZBITAND" ∷ codes "ZBITCOUNT" ∷ codes "ZBITFIND" ∷ codes "ZBITGET" ∷ codes "ZBITLEN" ∷ codes "ZBITNOT" ∷ codes "ZBITOR" ∷ codes "ZBITSET" ∷ codes "ZBITSTR" ∷ codes "ZBITXOR" ∷ []

-- functions that ask the system
abbrev pub system_functions : List (List ℕ)
system_functions =
    codes "ST" ∷ codes "STACK" ∷ codes "V" ∷ codes "VIEW" ∷ codes "ZJOBEXAM" ∷ codes "ZM" ∷ codes "ZMESSAGE" ∷ codes "ZPARSE" ∷ codes "ZPEEK" ∷ codes "ZSEARCH" ∷ codes "ZSYSLOG" ∷ codes "ZTRNLNM" ∷ []

abbrev pub is_function : List ℕ → Bool
is_function word = is_one_of text_functions word || is_one_of bit_functions word || is_one_of system_functions word

-- `$ZDATA`, which looks at what `$DATA` does
abbrev pub is_zdata : List ℕ → Bool
is_zdata = is_one_of (codes "ZDATA" ∷ [])

-- `$TEXT`
abbrev pub is_text_name : List ℕ → Bool
is_text_name = is_one_of (codes "T" ∷ codes "TEXT" ∷ [])
