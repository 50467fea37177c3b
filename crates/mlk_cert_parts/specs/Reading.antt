-- Reading the parts of a certificate, as functions on lists: what is read, and the rest. For private clauses only: the contracts
-- of public calls use `Texts`, `Limits` and `Theorem`, and proofs connect the two.
use Rattle.std.specs.Prelude.{ℕ, suc, ◌==◌, if◌then◌else◌, List, ◌∷◌, length, Option, Some, None, codes, []}
use Rattle.mlk_text.specs.Reading.{◌>>=◌, with, put, many}
use Rattle.mlk_text.specs.Lexemes.{byte_at, name_at}
use Rattle.mlk_names.specs.declared.term.LockTerm.{LockTerm}
use Rattle.mlk_cert_lexemes.specs.Reading.{term_at, part_at, listed_at, keep, list_at, counted_at}
use Rattle.mlk_cert_parts.specs.declared.case.Test.{Test}
use Rattle.mlk_cert_parts.specs.declared.case.Test.TheVariants.{Any, Zero, One}
use Rattle.mlk_cert_parts.specs.declared.case.Case.{Case}
use Rattle.mlk_cert_parts.specs.declared.case.ExitCase.{ExitCase}
use Rattle.mlk_cert_parts.specs.declared.names.NameSet.{NameSet}
use Rattle.mlk_cert_parts.specs.declared.names.NameSet.TheVariants.{Only, AllBut}
use Rattle.mlk_cert_parts.specs.declared.names.Own.{Own}

-- the names inside the parentheses of a set
abbrev pub inside_by : List ℕ → Option (ℕ × List ℕ) → Option (NameSet × List ℕ)
inside_by xs (Some close) = Some (AllBut [], close.1)
inside_by xs None = list_at name_at 44 xs >>= λ names. with (λ _. AllBut names.0) (byte_at 41 names.1)

-- names: one, or all but some
abbrev pub names_by : List ℕ → Option (ℕ × List ℕ) → Option (NameSet × List ℕ)
names_by xs None = with Only (name_at xs)
names_by xs (Some tilde) = byte_at 40 tilde.1 >>= λ paren. inside_by paren.1 (byte_at 41 paren.1)

unfoldable pub names_at : List ℕ → Option (NameSet × List ℕ)
names_at xs = names_by xs (byte_at 126 xs)

abbrev pub own_of : ℕ → NameSet → Own
own_of level names = record { level = level; names = names }

-- own names
unfoldable pub own_at : List ℕ → Option (Own × List ℕ)
own_at xs = counted_at 15 xs >>= λ level. byte_at 58 level.1 >>= λ colon. with (own_of level.0) (names_at colon.1)

-- what is known of `$TEST`
abbrev pub sign_at : List ℕ → Option (Test × List ℕ)
sign_at [] = None
sign_at (b ∷ xs) = if b == 42 then Some (Any, xs) else (if b == 48 then Some (Zero, xs) else (if b == 49 then Some (One, xs) else None))

-- one or more signs
abbrev pub signs_by : List ℕ → Option (Test × List ℕ) → Option (List Test × List ℕ)
signs_by xs None = None
signs_by xs (Some first) = put (first.0 ∷ []) (many sign_at keep (suc (length first.1)) first.1)

-- the signs of open blocks: none for a dash, otherwise one or more
abbrev pub saved_by : List ℕ → Option (ℕ × List ℕ) → Option (List Test × List ℕ)
saved_by xs (Some dash) = Some ([], dash.1)
saved_by xs None = signs_by xs (sign_at xs)

unfoldable pub saved_at : List ℕ → Option (List Test × List ℕ)
saved_at xs = saved_by xs (byte_at 45 xs)

abbrev pub exit_of : Test → List LockTerm → List (List ℕ) → ExitCase
exit_of t held kept = record { test = t; held = held; kept = kept }

-- the case of an exit
unfoldable pub exit_at : List ℕ → Option (ExitCase × List ℕ)
exit_at xs =
    part_at (codes "T=") sign_at xs >>= λ test.
    part_at (codes " H=") (listed_at term_at) test.1 >>= λ held.
    with (exit_of test.0 held.0) (part_at (codes " K=") (listed_at name_at) held.1)

abbrev pub case_of : Test → List LockTerm → List Own → List (List ℕ) → List Test → Case
case_of t held own kept saved = record { test = t; held = held; own = own; kept = kept; saved = saved }

-- a case
unfoldable pub case_at : List ℕ → Option (Case × List ℕ)
case_at xs =
    part_at (codes "T=") sign_at xs >>= λ test.
    part_at (codes " H=") (listed_at term_at) test.1 >>= λ held.
    part_at (codes " O=") (listed_at own_at) held.1 >>= λ own.
    part_at (codes " K=") (listed_at name_at) own.1 >>= λ kept.
    with (case_of test.0 held.0 own.0 kept.0) (part_at (codes " S=") saved_at kept.1)
