-- Certificates and their texts, as joined parts: each certificate has one text. This project's own format; names are those of
-- ISO/IEC 11756.
use Rattle.std.specs.Prelude.{ℕ, Bool, true, false, List, ◌∷◌, ◌++◌, Option, Some, None, codes, []}
use Rattle.std.specs.Fmt.{decimal}
use Rattle.mlk_cert_parts.specs.declared.case.Test.{Test}
use Rattle.mlk_cert_parts.specs.declared.case.Test.TheVariants.{Any, Zero, One}
use Rattle.mlk_cert_parts.specs.declared.case.Case.{Case}
use Rattle.mlk_cert_parts.specs.declared.case.ExitCase.{ExitCase}
use Rattle.mlk_cert_parts.specs.declared.names.NameSet.{NameSet}
use Rattle.mlk_cert_parts.specs.declared.names.NameSet.TheVariants.{Only, AllBut}
use Rattle.mlk_cert_parts.specs.declared.names.Own.{Own}
use Rattle.mlk_cert_parts.specs.declared.block.Point.{Point}
use Rattle.mlk_cert_parts.specs.declared.block.Summary.{Summary}
use Rattle.mlk_cert_parts.specs.declared.block.EntryCert.{EntryCert}
use Rattle.mlk_cert_lexemes.specs.Lists.{flat, joined}
use Rattle.mlk_cert_lexemes.specs.Texts.{listed, term_text, name_text, line}

-- names: one, or all but those in the parentheses
abbrev pub names_text : NameSet → List ℕ
names_text (Only name) = name
names_text (AllBut names) = codes "~(" ++ (joined 44 name_text names ++ codes ")")

-- names that are own at a level
abbrev pub own_text : Own → List ℕ
own_text o = decimal o.level ++ 58 ∷ names_text o.names

-- what is known of `$TEST`
abbrev pub sign : Test → ℕ
sign Any = 42
sign Zero = 48
sign One = 49

abbrev pub sign_text : Test → List ℕ
sign_text t = sign t ∷ []

-- what is known of the `$TEST` of open blocks: one sign after another, the outermost first, or `-`
abbrev pub saved_text : List Test → List ℕ
saved_text [] = codes "-"
saved_text (t ∷ tests) = sign t ∷ flat sign_text tests

-- a case
abbrev pub case_text : Case → List ℕ
case_text c =
    codes "T=" ++ (sign c.test ∷ (codes " H=" ++ (listed term_text c.held ++ (codes " O=" ++ (listed own_text c.own
    ++ (codes " K=" ++ (listed name_text c.kept ++ (codes " S=" ++ saved_text c.saved))))))))

-- the case of an exit
abbrev pub exit_text : ExitCase → List ℕ
exit_text e = codes "T=" ++ (sign e.test ∷ (codes " H=" ++ (listed term_text e.held ++ (codes " K=" ++ listed name_text e.kept))))

-- the line of an exit
abbrev pub exit_line : ExitCase → List ℕ
exit_line e = line (codes "exit ") (exit_text e)

-- a point: the number of a line, and that of a round
abbrev pub place_text : ℕ → ℕ → List ℕ
place_text number round = decimal number ++ 46 ∷ decimal round

-- the line of a case at a point
abbrev pub case_line : ℕ → ℕ → Case → List ℕ
case_line number round c = line (codes "at ") (place_text number round ++ 32 ∷ case_text c)

-- a point: a line for each of its cases
abbrev pub point_text : Point → List ℕ
point_text p = flat (case_line p.line p.round) p.cases

-- the least rank, or `-`
abbrev pub low_text : Option ℕ → List ℕ
low_text None = codes "-"
low_text (Some rank) = decimal rank

-- whether all locks may be released at once
abbrev pub drops_text : Bool → List ℕ
drops_text false = codes "0"
drops_text true = codes "1"

-- the summary of an entry: four lines, and a line for each exit
abbrev pub summary_text : Summary → List ℕ
summary_text s =
    line (codes "need ") (listed term_text s.need)
    ++ (line (codes "low ") (low_text s.low) ++ (line (codes "drops ") (drops_text s.drops)
    ++ (line (codes "mods ") (listed names_text s.mods) ++ flat exit_line s.exits)))

-- the block of an entry, given the texts of its points
abbrev pub block_with : (Point → List ℕ) → EntryCert → List ℕ
block_with point b = line (codes "entry ") b.entry ++ (summary_text b.summary ++ flat point b.points)

-- the block of an entry
abbrev pub block_text : EntryCert → List ℕ
block_text b = block_with point_text b

-- the first line
abbrev pub head_line : List ℕ
head_line = line [] (codes "mlock-cert 1")

-- the last line
abbrev pub end_line : List ℕ
end_line = line [] (codes "end")

-- The text of a certificate.
abbrev pub certificate_text : List EntryCert → List ℕ
certificate_text blocks = head_line ++ (flat block_text blocks ++ end_line)
