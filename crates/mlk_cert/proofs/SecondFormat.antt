-- The second format as a whole, and its reader.
use Rattle.std.proofs.Common.{◌≡◌, ◌≤◌, ℕ, suc, ◌++◌, List, [], ◌∷◌, length, map, Some, None, true, refl, sym, ap, ◌∙◌, arith, subst}
use Rattle.std.specs.Prelude.{Option, nat_lt, nat_le, codes}
use Rattle.std.specs.Fmt.{decimal}
use Rattle.std.proofs.lemmas.Bool.{leb-true, le-leb}
use Rattle.mlk_text.specs.Reading.{with}
use Rattle.mlk_text.proofs.Readers.{then_some, with_some}
use Rattle.mlk_cert_parts.specs.declared.case.Case.{Case}
use Rattle.mlk_cert_parts.specs.declared.block.Point.{Point}
use Rattle.mlk_cert_lexemes.specs.Lists.{Each, flat, joined, ascends, below}
use Rattle.mlk_cert_parts.specs.Texts.{case_text, place_text}
use Rattle.mlk_cert_parts.specs.Limits.{IsCase, IsPoint}
use Rattle.mlk_cert_lexemes.specs.Reading.{word_at}
use Rattle.mlk_cert.specs.Blocks.{fit, rest_at, worded_at}
use Rattle.mlk_cert.specs.Second.{IsOneOf, cases_of_points, number_of_text, numbers_of, point_line}
use Rattle.mlk_cert.specs.Numbered.{greatest, are_upto, NumberedPoint, numbered_point_at, fits_numbered_point, cases_by, point_by, points_by, fit_places, numbered_points_at, listed_points_at}
use Rattle.mlk_cert_lexemes.proofs.Formats.{Format, Anything, both_true, both_back}
use Rattle.mlk_cert_lexemes.proofs.Room.{no-longer}
use Rattle.mlk_cert.proofs.LineFormats.{fit-is, worded-is, worded-back}
use Rattle.mlk_cert.proofs.Goods.{each-front, each-join}
use Rattle.mlk_cert.proofs.BlockFormats.{ArePoints, NoPoint, NoExit, points-format, lines-no-exit, Shortens}
use Rattle.mlk_cert.proofs.Tables.{AreBy, numbers-by, cases-by, numbers-within, numbers-order}
use Rattle.mlk_cert.proofs.NumberedFormats.{numbered_point_text, GoodNumberedPoint, numbered-point-rest}

abbrev pub numbered_point_line : NumberedPoint → List ℕ
numbered_point_line p = codes "at " ++ (numbered_point_text p ++ 10 ∷ [])

-- points whose cases are among these
abbrev pub ArePointsAmong : List (List ℕ) → List Point → Type 0
ArePointsAmong texts ps = ArePoints ps × Each (IsOneOf texts) (cases_of_points ps)

pub length-map : {A B : Type 0} (f : A → B) (xs : List A) → length (map f xs) ≡ length xs
length-map f [] = refl
length-map f (x ∷ xs) = ap (λ n. suc n) (length-map f xs)

module _ (cases : List Case) (good : Each IsCase cases) (up : ascends below (map case_text cases) ≡ true) where
  abbrev texts : List (List ℕ)
  texts = map case_text cases

  from-one : (ns : List ℕ) → Each (λ n. (1 ≤ n) × (n ≤ greatest)) ns → Each (λ n. 1 ≤ n) ns
  from-one [] is = tt
  from-one (n ∷ ns) is = (is.0.0, from-one ns is.1)

  found : (p : NumberedPoint) → GoodNumberedPoint (length cases) p → AreBy cases p.2 (cases_by cases p.2)
  found p is = numbers-by cases p.2 up good (from-one p.2 is.0.3.each) is.0.3.upto

  point-good : (p : NumberedPoint) → GoodNumberedPoint (length cases) p → IsPoint (point_by cases p)
  point-good p is =
      let f = found p is in
      let t = both_true (nat_le (length p.2) 16) (ascends nat_lt p.2) is.1 in
      let many = f.many in
      let few = leb-true (length p.2) 16 t.0 in
      let some = is.0.3.some in
      record {
        from_one = is.0.0;
        line = is.0.1;
        round = is.0.2;
        each = f.each;
        some_case = omega arith;
        few = omega arith;
        order = sym (numbers-order texts (cases_by cases p.2) up f.among) ∙ ap (ascends nat_lt) f.numbers ∙ t.1;
      }

  points-good : (ps : List NumberedPoint) → Each (GoodNumberedPoint (length cases)) ps → Each IsPoint (points_by cases ps)
  points-good [] is = tt
  points-good (p ∷ ps) is = (point-good p is.0, points-good ps is.1)

  points-among : (ps : List NumberedPoint) → Each (GoodNumberedPoint (length cases)) ps → Each (IsOneOf texts) (cases_of_points (points_by cases ps))
  points-among [] is = tt
  points-among (p ∷ ps) is = each-join (IsOneOf texts) (map case_text (cases_by cases p.2)) (cases_of_points (points_by cases ps)) (found p is.0).among (points-among ps is.1)

  points-text : (ps : List NumberedPoint) → Each (GoodNumberedPoint (length cases)) ps → flat numbered_point_line ps ≡ flat (point_line texts) (points_by cases ps)
  points-text [] is = refl
  points-text (p ∷ ps) is =
      ap (λ z. (codes "at " ++ ((place_text p.0 p.1 ++ 32 ∷ joined 59 decimal z) ++ 10 ∷ [])) ++ flat numbered_point_line ps) (sym (found p is.0).numbers)
      ∙ ap (λ z. point_line texts (point_by cases p) ++ z) (points-text ps is.1)

  second-points-is : (ps : List Point) (xs ys : List ℕ) → numbered_points_at cases xs ≡ Some (ps, ys) → (xs ≡ flat (point_line texts) ps ++ ys) × ArePointsAmong texts ps
  unfolding numbered_points_at
  second-points-is ps xs ys h =
      let lines = worded_at (codes "at ") (rest_at (numbered_point_at (length cases)) fits_numbered_point) xs in
      let w = then_some (with (points_by cases) lines) (fit fit_places) (ps, ys) h in
      let t = fit-is fit_places w.0 (ps, ys) w.2 in
      let g = with_some (points_by cases) lines ps ys (w.1 ∙ ap (λ z. Some z) t.0) in
      let s = worded-is (λ p. numbered_point_text p ++ 10 ∷ []) (GoodNumberedPoint (length cases)) Anything (rest_at (numbered_point_at (length cases)) fits_numbered_point) (numbered-point-rest (length cases)) (codes "at ") g.0 xs ys g.1 in
      let P : List Point → Type 0 = λ z. (xs ≡ flat (point_line texts) z ++ ys) × Each IsPoint z × Each (IsOneOf texts) (cases_of_points z) in
      let made = subst P (sym g.2) (s.0 ∙ ap (λ z. z ++ ys) (points-text g.0 s.1), points-good g.0 s.1, points-among g.0 s.1) in
      (made.0, (record { each = made.1; order = t.1 }, made.2))

  -- a point with the numbers of its cases
  abbrev numbered_point : Point → NumberedPoint
  numbered_point p = (p.line, p.round, numbers_of texts p.cases)

  abbrev numbered_points : List Point → List NumberedPoint
  numbered_points ps = map numbered_point ps

  bounded : (ns : List ℕ) → length cases ≤ greatest → Each (λ n. 1 ≤ n) ns → are_upto (length cases) ns ≡ true → Each (λ n. (1 ≤ n) × (n ≤ greatest)) ns
  bounded [] few from to = tt
  bounded (n ∷ ns) few from to =
      let t = both_true (nat_le n (length cases)) (are_upto (length cases) ns) to in
      let l = leb-true n (length cases) t.0 in
      ((from.0, omega arith), bounded ns few from.1 t.1)

  point-has : length cases ≤ greatest → (p : Point) → IsPoint p → Each (IsOneOf texts) (map case_text p.cases) → GoodNumberedPoint (length cases) (numbered_point p)
  point-has few p is among =
      let w = numbers-within texts p.cases among in
      let upto : are_upto (length cases) (numbers_of texts p.cases) ≡ true = ap (λ n. are_upto n (numbers_of texts p.cases)) (sym (length-map case_text cases)) ∙ w.1 in
      let long = length-map (λ c. number_of_text texts (case_text c)) p.cases in
      let some = is.some_case in
      let few_cases = is.few in (
        (is.from_one, is.line, is.round, record { some = omega arith; each = bounded (numbers_of texts p.cases) few w.0 upto; upto = upto }),
        both_back _ _ (le-leb _ _ (omega arith)) (numbers-order texts p.cases up among ∙ is.order),
      )

  points-have : length cases ≤ greatest → (ps : List Point) → Each IsPoint ps → Each (IsOneOf texts) (cases_of_points ps) → Each (GoodNumberedPoint (length cases)) (numbered_points ps)
  points-have few [] is among = tt
  points-have few (p ∷ ps) is among =
      let a = each-front (IsOneOf texts) (map case_text p.cases) (cases_of_points ps) among in
      (point-has few p is.0 a.0, points-have few ps is.1 a.1)

  points-same : (ps : List Point) → Each IsPoint ps → Each (IsOneOf texts) (cases_of_points ps) → points_by cases (numbered_points ps) ≡ ps
  points-same [] is among = refl
  points-same (p ∷ ps) is among =
      let a = each-front (IsOneOf texts) (map case_text p.cases) (cases_of_points ps) among in
      let here : point_by cases (numbered_point p) ≡ p = ap (λ z. record { line = p.line; round = p.round; cases = z }) (cases-by cases p.cases good is.0.each a.0) in
      ap (λ z. z ∷ points_by cases (numbered_points ps)) here ∙ ap (λ z. p ∷ z) (points-same ps is.1 a.1)

  points-lines : (ps : List Point) → flat numbered_point_line (numbered_points ps) ≡ flat (point_line texts) ps
  points-lines [] = refl
  points-lines (p ∷ ps) = ap (λ z. point_line texts p ++ z) (points-lines ps)

  second-points-back : length cases ≤ greatest → (ps : List Point) (ys : List ℕ) → ArePointsAmong texts ps → NoPoint ys → numbered_points_at cases (flat (point_line texts) ps ++ ys) ≡ Some (ps, ys)
  unfolding numbered_points_at
  second-points-back few ps ys is none =
      let same = points-same ps is.0.each is.1 in
      rw (sym (ap (λ z. z ++ ys) (points-lines ps)))
      (rw (worded-back (λ p. numbered_point_text p ++ 10 ∷ []) (GoodNumberedPoint (length cases)) Anything (rest_at (numbered_point_at (length cases)) fits_numbered_point) (numbered-point-rest (length cases)) (codes "at ") (omega arith) (λ _. tt) (numbered_points ps) ys (points-have few ps is.0.each is.1) tt none)
      (rw same (rw is.0.order refl)))

  pub second-apart : (ps : List Point) (ys : List ℕ) → ArePointsAmong texts ps → NoExit ys → NoExit (flat (point_line texts) ps ++ ys)
  second-apart ps ys is none = ap (λ z. word_at (codes "exit ") (z ++ ys)) (sym (points-lines ps)) ∙ lines-no-exit (λ p. numbered_point_text p ++ 10 ∷ []) (numbered_points ps) ys none

  pub second-points-format : length cases ≤ greatest → Format (flat (point_line texts)) (ArePointsAmong texts) NoPoint (listed_points_at (Some cases))
  second-points-format few = record { sound = second-points-is; complete = second-points-back few }

-- reading lines of points leaves no more bytes than before
numbered-room : (cases : List Case) → Shortens (numbered_points_at cases)
unfolding numbered_points_at
numbered-room cases ps xs ys h =
    let lines = worded_at (codes "at ") (rest_at (numbered_point_at (length cases)) fits_numbered_point) xs in
    let w = then_some (with (points_by cases) lines) (fit fit_places) (ps, ys) h in
    let t = fit-is fit_places w.0 (ps, ys) w.2 in
    let g = with_some (points_by cases) lines ps ys (w.1 ∙ ap (λ z. Some z) t.0) in
    let s = worded-is (λ p. numbered_point_text p ++ 10 ∷ []) (GoodNumberedPoint (length cases)) Anything (rest_at (numbered_point_at (length cases)) fits_numbered_point) (numbered-point-rest (length cases)) (codes "at ") g.0 xs ys g.1 in
    no-longer (flat numbered_point_line g.0) xs ys s.0

pub listed-room : (cases : Option (List Case)) → Shortens (listed_points_at cases)
listed-room None ps xs ys h = no-longer _ xs ys (points-format.sound ps xs ys h).0
listed-room (Some cases) ps xs ys h = numbered-room cases ps xs ys h
