-- Certificates and their texts, worked.
use Rattle.std.proofs.Common.{◌≡◌, ℕ, List, [], ◌∷◌, ◌++◌, refl}
use Rattle.std.specs.Prelude.{codes, Some, false, true}
use Rattle.std.specs.Fmt.{digits}
use Rattle.mlk_text.specs.declared.root.Root.TheVariants as root
use Rattle.mlk_names.specs.declared.known_symbol.KnownSym.TheVariants as known
use Rattle.mlk_names.specs.declared.term.LockTerm.{LockTerm}
use Rattle.mlk_cert_parts.specs.declared.case.Test.TheVariants.{Any, Zero, One}
use Rattle.mlk_cert_parts.specs.declared.case.Case.{Case}
use Rattle.mlk_cert_parts.specs.declared.names.NameSet.TheVariants.{Only, AllBut}
use Rattle.mlk_cert_parts.specs.declared.names.Own.{Own}
use Rattle.mlk_cert_parts.specs.declared.block.EntryCert.{EntryCert}
use Rattle.mlk_cert_lexemes.specs.Texts.{byte_text, term_text}
use Rattle.mlk_cert_parts.specs.Texts.{names_text, case_text, case_line, certificate_text}
use Rattle.mlk_cert_lexemes.specs.Kinds.{terms_upto}
use Rattle.mlk_cert_parts.specs.Limits.{names_below, own_below}

line_end : List ℕ
line_end = 10 ∷ []

-- `^ACCT(ID)`
abbrev acct : LockTerm
acct = record { root = root.Global (codes "ACCT"); subs = known.Local (codes "ID") ∷ [] }

-- `^A("a""\5c\c3",$J)`
abbrev odd : LockTerm
odd = record { root = root.Global (codes "A"); subs = known.Const (97 ∷ 34 ∷ 92 ∷ 195 ∷ []) ∷ known.Job ∷ [] }

odd-written : term_text odd ≡ codes "^A(\"a\"\"\\5c\\c3\",$J)"
unfolding byte_text
odd-written = refl

-- a local root without subscripts
local-written : term_text (record { root = root.Local (codes "X"); subs = [] }) ≡ codes "X"
local-written = refl

all-names : names_text (AllBut []) ≡ codes "~()"
all-names = refl

but-two : names_text (AllBut (codes "A" ∷ codes "B" ∷ [])) ≡ codes "~(A,B)"
but-two = refl

abbrev own : ℕ → List ℕ → Own
own level name = record { level = level; names = Only name }

-- the first case of the entry of a deposit
abbrev first : Case
first = record { test = Any; held = []; own = own 1 (codes "AMT") ∷ own 1 (codes "ID") ∷ []; kept = codes "AMT" ∷ codes "ID" ∷ []; saved = [] }

first-written : case_line 1 0 first ≡ codes "at 1.0 T=* H=- O=1:AMT;1:ID K=AMT;ID S=-" ++ line_end
unfolding digits line_end
first-written = refl

-- a case inside two blocks
inner-written : case_text (record { test = Zero; held = acct ∷ acct ∷ []; own = record { level = 12; names = AllBut [] } ∷ []; kept = []; saved = One ∷ Any ∷ [] }) ≡ codes "T=0 H=^ACCT(ID);^ACCT(ID) O=12:~() K=- S=1*"
unfolding digits
inner-written = refl

abbrev deposit : EntryCert
deposit = record {
  entry = codes "DEP^BANK";
  summary = record { need = []; exits = record { test = Any; held = []; kept = codes "AMT" ∷ codes "ID" ∷ [] } ∷ []; mods = []; low = Some 10; drops = false };
  points = record { line = 1; round = 0; cases = first ∷ [] } ∷ [];
}

deposit-written : certificate_text (deposit ∷ []) ≡
    codes "mlock-cert 1" ++ line_end ++ codes "entry DEP^BANK" ++ line_end ++ codes "need -" ++ line_end ++ codes "low 10" ++ line_end ++ codes "drops 0" ++ line_end ++ codes "mods -" ++ line_end
    ++ codes "exit T=* H=- K=AMT;ID" ++ line_end ++ codes "at 1.0 T=* H=- O=1:AMT;1:ID K=AMT;ID S=-" ++ line_end ++ codes "end" ++ line_end
unfolding digits line_end
deposit-written = refl

-- a certificate of no entries
none-written : certificate_text [] ≡ codes "mlock-cert 1" ++ line_end ++ codes "end" ++ line_end
unfolding line_end
none-written = refl

-- orders: by bytes, so `^A(..` comes before `^AB`, and a name before all that begin with it
terms-in-order : terms_upto (record { root = root.Global (codes "A"); subs = known.Local (codes "Z") ∷ [] }) (record { root = root.Global (codes "AB"); subs = [] }) ≡ true
terms-in-order = refl

term-with-itself : terms_upto acct acct ≡ true
term-with-itself = refl

names-not-with-itself : names_below (Only (codes "A")) (Only (codes "A")) ≡ false
names-not-with-itself = refl

names-before-all-but : names_below (Only (codes "z")) (AllBut []) ≡ true
names-before-all-but = refl

-- levels are compared first, as numbers
levels-first : own_below (record { level = 2; names = AllBut [] }) (own 10 (codes "A")) ≡ true
levels-first = refl
