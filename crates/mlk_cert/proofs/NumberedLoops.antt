-- Loops over the lines that occur only in the second format.
use Rattle.std.proofs.Common.{◌≡◌, ℕ, suc, ◌++◌, List, [], ◌∷◌, length, Some, None, Bool, true, false, refl, sym, ap, ◌∙◌, arith, inl, inr}
use Rattle.std.specs.Prelude.{Option, ◌==◌, ◌&&◌, ◌+◌, option_map}
use Rattle.std.proofs.lemmas.Bool.{cases_Bool}
use Rattle.std.proofs.lemmas.List.{map-append}
use Rattle.mlk_text.specs.declared.failure.Failure.{Failure}
use Rattle.mlk_text.specs.declared.failure.Failure.TheVariants.{OutOfMemory, Refused}
use Rattle.mlk_text.specs.Failures.{FailsOn}
use Rattle.mlk_text.specs.Reading.{◌>>=◌, with}
use Rattle.mlk_text.specs.Lexemes.{byte_at}
use Rattle.mlk_cert_parts.specs.declared.case.Case.{Case}
use Rattle.mlk_cert_parts.specs.declared.block.Point.{Point}
use Rattle.mlk_cert_lexemes.specs.Lists.{last_of, ascends}
use Rattle.mlk_cert_lexemes.specs.Reading.{counted_at}
use Rattle.mlk_cert_parts.specs.Texts.{case_text}
use Rattle.mlk_cert_parts.specs.Limits.{points_below}
use Rattle.mlk_cert_parts.specs.Reading.{case_at}
use Rattle.mlk_cert.specs.Blocks.{fit, place_at, above_last}
use Rattle.mlk_cert.specs.Numbered.{greatest, NumberedCase, numbered_case_at, counts_from, numbered_below, fit_numbered, cases_in, next_numbered_fits, NumberedPoint, numbers_at, numbered_point_at, points_by, point_by, fit_places, next_place_fits}
use Rattle.mlk_cert_lexemes.proofs.Formats.{both_true, both_back}
use Rattle.mlk_cert_lexemes.proofs.Room.{ascends-push}
use Rattle.mlk_cert.proofs.Grouping.{ascends-front}
use Rattle.mlk_cert.proofs.Loops.{ends, last-push, ascends-next}

-- lines of points, as a test
abbrev pub fit_lines : List Case → List NumberedPoint → Bool
fit_lines cases ps = fit_places (points_by cases ps)

pub points-push : (cases : List Case) (ps : List NumberedPoint) (p : NumberedPoint) → points_by cases (ps ++ p ∷ []) ≡ points_by cases ps ++ point_by cases p ∷ []
points-push cases ps p = map-append (point_by cases) ps (p ∷ [])

pub lines-closed : (cases : List Case) (ps qs : List NumberedPoint) → fit_lines cases (ps ++ qs) ≡ true → fit_lines cases ps ≡ true
lines-closed cases ps qs h = ascends-front points_below (points_by cases ps) (points_by cases qs) (ap fit_places (sym (map-append (point_by cases) ps qs)) ∙ h)

places-step : (points : List Point) (q : Point) → fit_places points ≡ true → fit_places (points ++ q ∷ []) ≡ next_place_fits (last_of points) q.line q.round
places-step points q up = elim (ends points) [
  | inl e ↦ ap (λ z. fit_places (z ++ q ∷ [])) e ∙ ap (λ z. next_place_fits (last_of z) q.line q.round) (sym e)
  | inr e ↦
      let front : fit_places (e.0 ++ e.1 ∷ []) ≡ true = ap fit_places (sym e.2) ∙ up in
      ap (λ z. fit_places (z ++ q ∷ [])) e.2 ∙ ascends-push points_below e.0 e.1 q ∙ ap (λ b. b && points_below e.1 q) front
      ∙ ap (λ o. next_place_fits o q.line q.round) (sym (ap last_of e.2 ∙ last-push e.0 e.1))
]

pub lines-step : (cases : List Case) (ps : List NumberedPoint) (points : List Point) (p : NumberedPoint) → points ≡ points_by cases ps → fit_places points ≡ true
    → fit_lines cases (ps ++ p ∷ []) ≡ next_place_fits (last_of points) p.0 p.1
lines-step cases ps points p is up = ap fit_places (points-push cases ps p ∙ ap (λ z. z ++ point_by cases p ∷ []) (sym is)) ∙ places-step points (point_by cases p) up

-- if lines fail, so do their points
pub lines-refused : {R : Type 0} (cases : List Case) (o : Option (List NumberedPoint × List ℕ)) (e : Failure R) → FailsOn e (o >>= fit (fit_lines cases)) → FailsOn e (with (points_by cases) o >>= fit fit_places)
lines-refused cases o OutOfMemory h = tt
lines-refused cases None (Refused r) h = refl
lines-refused cases (Some s) (Refused r) h = elim (cases_Bool (fit_lines cases s.0)) [
  | inl e ↦ cc (rw e at h)
  | inr e ↦ rw e refl
]

-- lines of cases
pub cases-push : (ls : List NumberedCase) (l : NumberedCase) → cases_in (ls ++ l ∷ []) ≡ cases_in ls ++ l.1 ∷ []
cases-push ls l = map-append (λ m. m.1) ls (l ∷ [])

counts-front : (n : ℕ) (ls ms : List NumberedCase) → counts_from n (ls ++ ms) ≡ true → counts_from n ls ≡ true
counts-front n [] ms h = refl
counts-front n (l ∷ ls) ms h = let t = both_true (l.0 == n) (counts_from (suc n) (ls ++ ms)) h in both_back _ _ t.0 (counts-front (suc n) ls ms t.1)

pub table-closed : (ls ms : List NumberedCase) → fit_numbered (ls ++ ms) ≡ true → fit_numbered ls ≡ true
table-closed ls ms h =
    let t = both_true (counts_from 1 (ls ++ ms)) (ascends numbered_below (ls ++ ms)) h in
    both_back _ _ (counts-front 1 ls ms t.0) (ascends-front numbered_below ls ms t.1)

counts-step : (n : ℕ) (ls : List NumberedCase) (l : NumberedCase) → counts_from n ls ≡ true → counts_from n (ls ++ l ∷ []) ≡ (l.0 == (length ls + n))
counts-step n [] l h = let e : n ≡ 0 + n = omega arith in and-true (l.0 == n) ∙ ap (λ m. l.0 == m) e
  where
    and-true : (b : Bool) → (b && true) ≡ b
    and-true true = refl
    and-true false = refl
counts-step n (k ∷ ls) l h =
    let t = both_true (k.0 == n) (counts_from (suc n) ls) h in
    let e : length ls + suc n ≡ suc (length ls) + n = omega arith in
    ap (λ b. b && counts_from (suc n) (ls ++ l ∷ [])) t.0 ∙ counts-step (suc n) ls l t.1 ∙ ap (λ m. l.0 == m) e

pub table-step : (ls : List NumberedCase) (cases : List Case) (l : NumberedCase) → cases ≡ cases_in ls → fit_numbered ls ≡ true
    → fit_numbered (ls ++ l ∷ []) ≡ next_numbered_fits (length cases) (option_map case_text (last_of cases)) l
table-step ls cases l is h =
    let t = both_true (counts_from 1 ls) (ascends numbered_below ls) h in
    let count : length ls + 1 ≡ suc (length cases) = rw is (lengths ls) in
    ap (λ b. b && ascends numbered_below (ls ++ l ∷ [])) (counts-step 1 ls l t.0 ∙ ap (λ m. l.0 == m) count)
    ∙ ap (λ b. (l.0 == suc (length cases)) && b) (ascends-next (λ m. case_text m.1) ls l t.1 ∙ ap (λ o. above_last o (case_text l.1)) (lasts ls ∙ ap (λ z. option_map case_text (last_of z)) (sym is)))
  where
    lengths : (ms : List NumberedCase) → length ms + 1 ≡ suc (length (cases_in ms))
    lengths [] = refl
    lengths (m ∷ ms) = let e = lengths ms in omega arith

    lasts : (ms : List NumberedCase) → option_map (λ (m : NumberedCase). case_text m.1) (last_of ms) ≡ option_map case_text (last_of (cases_in ms))
    lasts [] = refl
    lasts (m ∷ []) = refl
    lasts (m ∷ k ∷ ms) = lasts (k ∷ ms)

pub table-refused : {R : Type 0} (o : Option (List NumberedCase × List ℕ)) (e : Failure R) → FailsOn e o → FailsOn e (with cases_in o)
table-refused o OutOfMemory h = tt
table-refused None (Refused r) h = refl
table-refused (Some s) (Refused r) h = cc h

pub case-read : (n : ℕ) (xs m k rest : List ℕ) (c : Case) → counted_at greatest xs ≡ Some (n, m) → byte_at 32 m ≡ Some (32, k) → case_at k ≡ Some (c, rest) → numbered_case_at xs ≡ Some ((n, c), rest)
unfolding numbered_case_at
case-read n xs m k rest c a b d = rw a (rw b (rw d refl))

pub point-read : (most line round : ℕ) (xs m k rest ns : List ℕ) → place_at xs ≡ Some ((line, round), m) → byte_at 32 m ≡ Some (32, k) → numbers_at most k ≡ Some (ns, rest) → numbered_point_at most xs ≡ Some ((line, round, ns), rest)
unfolding numbered_point_at
point-read most line round xs m k rest ns a b d = rw a (rw b (rw d refl))
