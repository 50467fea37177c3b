-- The order of terms by their texts, and that texts tell terms apart.
use Rattle.std.proofs.Common.{◌≡◌, ℕ, List, [], ◌∷◌, Bool, true, false, Some, refl, sym, ap, ◌∙◌, arith, append-nil}
use Rattle.std.specs.Prelude.{Option, ◌==◌, not, nat_lt, if◌then◌else◌}
use Rattle.std.proofs.lemmas.Bool.{not-true, not-false}
use Rattle.std.proofs.lemmas.Bool.Decides.{nat_tests}
use Rattle.mlk_text.proofs.Readers.{pair_parts}
use Rattle.mlk_names.specs.declared.term.LockTerm.{LockTerm}
use Rattle.mlk_cert_lexemes.specs.Lists.{upto, below, ascends}
use Rattle.mlk_cert_lexemes.specs.Texts.{term_text}
use Rattle.mlk_cert_lexemes.specs.Kinds.{IsTerm, terms_upto}
use Rattle.mlk_cert_lexemes.specs.Reading.{term_at}
use Rattle.mlk_cert_lexemes.proofs.TermFormats.{term-format}
use Rattle.mlk_cert_lexemes.proofs.TextOrder.{upto-total, upto-both}
use Rattle.mlk_cert_parts.specs.TermOrder.{terms_before}
use Rattle.mlk_cert_terms.proofs.Placing.{put-ascends}
use Rattle.std.specs.List.{insert}

upto-step : (u v w : Bool) (x y z : ℕ) → (u ≡ true → v ≡ true → w ≡ true) → (if x == y then u else nat_lt x y) ≡ true → (if y == z then v else nat_lt y z) ≡ true → (if x == z then w else nat_lt x z) ≡ true
upto-step u v w x y z next h k = grind (arith, nat_tests)

upto-through : (a b c : List ℕ) → upto a b ≡ true → upto b c ≡ true → upto a c ≡ true
upto-through [] b c h k = refl
upto-through (x ∷ a) [] c h k = cc h
upto-through (x ∷ a) (y ∷ b) [] h k = cc k
upto-through (x ∷ a) (y ∷ b) (z ∷ c) h k = upto-step (upto a b) (upto b c) (upto a c) x y z (upto-through a b c) h k

pub terms-through : (t u v : LockTerm) → terms_upto t u ≡ true → terms_upto u v ≡ true → terms_upto t v ≡ true
terms-through t u v = upto-through (term_text t) (term_text u) (term_text v)

same-read : (t u : LockTerm) (ys : List ℕ) → ◌≡◌ {A = Option (LockTerm × List ℕ)} (Some (t, ys)) (Some (u, ys)) → t ≡ u
same-read t u ys h = (pair_parts t u ys ys h).0

read-back : (t : LockTerm) → IsTerm t → term_at (term_text t) ≡ Some (t, [])
read-back t is = ap term_at (sym (append-nil (term_text t))) ∙ term-format.complete t [] is (refl, refl)

pub terms-both : (t u : LockTerm) → IsTerm t → IsTerm u → terms_upto t u ≡ true → terms_upto u t ≡ true → t ≡ u
terms-both t u is other h k =
    same-read t u [] (sym (read-back t is) ∙ ap term_at (upto-both (term_text t) (term_text u) h k) ∙ read-back u other)

abbrev pub term_below : LockTerm → LockTerm → Bool
term_below u t = below (term_text u) (term_text t)

term-earlier : (t u : LockTerm) → term_below u t ≡ true → terms_upto u t ≡ true
term-earlier t u h = upto-total (term_text t) (term_text u) (not-true (upto (term_text t) (term_text u)) h)

term-later : (t u : LockTerm) → term_below u t ≡ false → terms_upto t u ≡ true
term-later t u h = not-false (upto (term_text t) (term_text u)) h

pub terms-ascend : (t : LockTerm) (terms : List LockTerm) → ascends terms_upto terms ≡ true → ascends terms_upto (insert terms (terms_before terms t) t) ≡ true
terms-ascend t terms = put-ascends term_below terms_upto t (term-earlier t) (term-later t) terms
