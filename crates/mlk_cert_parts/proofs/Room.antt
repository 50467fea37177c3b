-- A sign has a byte; at one level, new names are in the order of their texts.
use Rattle.std.proofs.Common.{◌≡◌, ◌<◌, ℕ, ◌++◌, List, ◌∷◌, length, Some, Bool, true, false, sym, ap, ◌∙◌, arith}
use Rattle.std.specs.Prelude.{◌==◌, ◌&&◌, ◌||◌, not, nat_lt}
use Rattle.std.specs.Fmt.{decimal}
use Rattle.std.proofs.lemmas.Bool.Decides.{nat_tests}
use Rattle.mlk_cert_parts.specs.declared.names.Own.{Own}
use Rattle.mlk_cert_parts.specs.declared.case.Test.{Test}
use Rattle.mlk_cert_parts.proofs.CaseFormats.{sign-format}
use Rattle.mlk_cert_lexemes.specs.Lists.{below}
use Rattle.mlk_cert_lexemes.proofs.Room.{upto-after}
use Rattle.mlk_cert_parts.specs.Limits.{names_below, own_below}
use Rattle.mlk_cert_parts.specs.Texts.{names_text, own_text}
use Rattle.mlk_cert_parts.specs.Reading.{sign_at}

-- at one level the texts decide
own-order : (o p : Own) → o.level ≡ p.level → below (own_text o) (own_text p) ≡ own_below o p
own-order o p same =
    let texts : below (own_text o) (own_text p) ≡ names_below o.names p.names
    = ap (λ n. below (decimal n ++ 58 ∷ names_text o.names) (own_text p)) same ∙ ap not (upto-after (decimal p.level) (58 ∷ names_text p.names) (58 ∷ names_text o.names)) in
    texts ∙ sym (level o.level p.level (names_below o.names p.names) same)
  where
    level : (a b : ℕ) (t : Bool) → a ≡ b → (nat_lt a b || ((a == b) && t)) ≡ t
    level a b true e = grind (arith, nat_tests)
    level a b false e = grind (arith, nat_tests)

pub own-same : (o p : Own) (text next : List ℕ) → text ≡ own_text o → next ≡ own_text p → o.level ≡ p.level → below text next ≡ own_below o p
own-same o p text next a b same = ap (λ l. below l next) a ∙ ap (λ l. below (own_text o) l) b ∙ own-order o p same

pub sign-shorter : (t : Test) (xs ys : List ℕ) → sign_at xs ≡ Some (t, ys) → length ys < length xs
sign-shorter t xs ys h = let e = ap length (sign-format.sound t xs ys h).0 in omega arith
