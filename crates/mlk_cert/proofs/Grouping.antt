-- Cases line by line, and points.
use Rattle.std.proofs.Common.{◌≡◌, ◌≤◌, ℕ, ◌++◌, List, ◌∷◌, length, map, Bool, true, false, refl, sym, ap, ◌∙◌, arith, inl, inr, append_assoc, append-nil, length-append, []}
use Rattle.std.specs.Prelude.{◌==◌, ◌&&◌, ◌||◌, nat_lt, nat_le, codes}
use Rattle.std.proofs.lemmas.Bool.{cases_Bool, eqb-true, leb-true, le-leb}
use Rattle.std.proofs.lemmas.Bool.Decides.{nat_tests}
use Rattle.std.proofs.lemmas.List.{map-append}
use Rattle.mlk_cert_parts.specs.declared.case.Case.{Case}
use Rattle.mlk_cert_parts.specs.declared.block.Point.{Point}
use Rattle.mlk_cert_lexemes.specs.Lists.{Each, flat, ascends}
use Rattle.mlk_cert_lexemes.proofs.Formats.{both_back, both_true}
use Rattle.mlk_cert_parts.specs.Texts.{place_text, case_text, case_line, point_text}
use Rattle.mlk_cert_parts.specs.Limits.{cases_below, points_below}
use Rattle.mlk_cert_parts.specs.Checks.{fit_cases, each_fits, fit_points}
use Rattle.mlk_cert.specs.Blocks.{Listed, point_of, with_case, add_case, grouped}

-- the front of a list that ascends also ascends
pub ascends-front : {A : Type 0} (before : A → A → Bool) (xs ys : List A) → ascends before (xs ++ ys) ≡ true → ascends before xs ≡ true
ascends-front before [] ys h = refl
ascends-front before (x ∷ []) ys h = refl
ascends-front before (x ∷ y ∷ xs) ys h = let t = both_true (before x y) (ascends before (y ∷ (xs ++ ys))) h in both_back _ _ t.0 (ascends-front before (y ∷ xs) ys t.1)

pub short-front : {A : Type 0} (most : ℕ) (xs ys : List A) → nat_le (length (xs ++ ys)) most ≡ true → nat_le (length xs) most ≡ true
short-front most xs ys h = let l = leb-true _ _ h in le-leb _ _ (omega (arith, length-append xs ys))

-- the cases of a point, each with its line and round
abbrev pub listed_at_place : Point → Case → Listed
listed_at_place p c = (p.line, p.round, c)

abbrev pub cases_of : Point → List Listed
cases_of p = map (listed_at_place p) p.cases

abbrev pub lines_of : List Point → List Listed
lines_of [] = []
lines_of (p ∷ points) = cases_of p ++ lines_of points

-- the text of an `at` line after its word
abbrev pub listed_text : Listed → List ℕ
listed_text l = place_text l.0 l.1 ++ 32 ∷ case_text l.2

abbrev pub listed_line : Listed → List ℕ
listed_line l = codes "at " ++ (listed_text l ++ 10 ∷ [])

flat-append : {A : Type 0} (text : A → List ℕ) (xs ys : List A) → flat text (xs ++ ys) ≡ flat text xs ++ flat text ys
flat-append text [] ys = refl
flat-append text (x ∷ xs) ys = ap (λ l. text x ++ l) (flat-append text xs ys) ∙ sym (append_assoc (text x) (flat text xs) (flat text ys))

cases-text : (p : Point) (cs : List Case) → flat listed_line (map (listed_at_place p) cs) ≡ flat (case_line p.line p.round) cs
cases-text p [] = refl
cases-text p (c ∷ cs) = ap (λ l. case_line p.line p.round c ++ l) (cases-text p cs)

pub points-text : (points : List Point) → flat listed_line (lines_of points) ≡ flat point_text points
points-text [] = refl
points-text (p ∷ points) = flat-append listed_line (cases_of p) (lines_of points) ∙ ap (λ l. l ++ flat listed_line (lines_of points)) (cases-text p p.cases) ∙ ap (λ l. point_text p ++ l) (points-text points)

-- at least one case
abbrev pub HasCases : Point → Type 0
HasCases p = 1 ≤ length p.cases

-- one more line
one-more : (p : Point) (c : Case) → cases_of (with_case p c) ≡ cases_of p ++ (p.line, p.round, c) ∷ []
one-more p c = map-append (listed_at_place p) p.cases (c ∷ [])

add-lines : (points : List Point) (l : Listed) → lines_of (add_case points l) ≡ lines_of points ++ l ∷ []
add-lines [] l = refl
add-lines (p ∷ []) l = elim (cases_Bool ((p.line == l.0) && (p.round == l.1))) [
  | inl e ↦
      let t = both_true (p.line == l.0) (p.round == l.1) e in
      let here : (p.line, p.round, l.2) ≡ l = ap (λ (n : ℕ). (n, p.round, l.2)) (eqb-true _ _ t.0) ∙ ap (λ (n : ℕ). (l.0, n, l.2)) (eqb-true _ _ t.1) in
      rw e (append-nil (cases_of (with_case p l.2)) ∙ one-more p l.2 ∙ ap (λ z. cases_of p ++ z ∷ []) here ∙ ap (λ z. z ++ l ∷ []) (sym (append-nil (cases_of p))))
  | inr e ↦ rw e (ap (λ z. z ++ l ∷ []) (sym (append-nil (cases_of p))))
]
add-lines (p ∷ q ∷ points) l = ap (λ z. cases_of p ++ z) (add-lines (q ∷ points) l) ∙ sym (append_assoc (cases_of p) (lines_of (q ∷ points)) (l ∷ []))

pub grouped-lines : (points : List Point) (ls : List Listed) → lines_of (grouped points ls) ≡ lines_of points ++ ls
grouped-lines points [] = sym (append-nil (lines_of points))
grouped-lines points (l ∷ ls) = grouped-lines (add_case points l) ls ∙ ap (λ z. z ++ ls) (add-lines points l) ∙ append_assoc (lines_of points) (l ∷ []) ls

add-cases : (points : List Point) (l : Listed) → Each HasCases points → Each HasCases (add_case points l)
add-cases [] l has = (omega arith, tt)
add-cases (p ∷ []) l has = elim (cases_Bool ((p.line == l.0) && (p.round == l.1))) [
  | inl e ↦ rw e (omega (arith, length-append p.cases (l.2 ∷ [])), tt)
  | inr e ↦ rw e (has.0, (omega arith, tt))
]
add-cases (p ∷ q ∷ points) l has = (has.0, add-cases (q ∷ points) l has.1)

pub grouped-cases : (points : List Point) (ls : List Listed) → Each HasCases points → Each HasCases (grouped points ls)
grouped-cases points [] has = has
grouped-cases points (l ∷ ls) has = grouped-cases (add_case points l) ls (add-cases points l has)

-- only the last point changes
pub add-last : (front : List Point) (p : Point) (l : Listed) → add_case (front ++ p ∷ []) l ≡ front ++ add_case (p ∷ []) l
add-last [] p l = refl
add-last (x ∷ []) p l = refl
add-last (x ∷ y ∷ front) p l = ap (λ z. x ∷ z) (add-last (y ∷ front) p l)

same-place : (p : Point) → ((p.line == p.line) && (p.round == p.round)) ≡ true
same-place p = here p.line p.round
  where
    here : (a b : ℕ) → ((a == a) && (b == b)) ≡ true
    here a b = grind (arith, nat_tests)

group-cases : (front : List Point) (p : Point) (cs : List Case) (ls : List Listed)
    → grouped (front ++ p ∷ []) (map (listed_at_place p) cs ++ ls) ≡ grouped (front ++ (record { line = p.line; round = p.round; cases = p.cases ++ cs }) ∷ []) ls
group-cases front p [] ls = ap (λ z. grouped (front ++ (record { line = p.line; round = p.round; cases = z }) ∷ []) ls) (sym (append-nil p.cases))
group-cases front p (c ∷ cs) ls =
    let here : add_case (p ∷ []) (p.line, p.round, c) ≡ with_case p c ∷ [] = rw (same-place p) refl in
    ap (λ z. grouped z (map (listed_at_place p) cs ++ ls)) (add-last front p (p.line, p.round, c) ∙ ap (λ z. front ++ z) here)
    ∙ group-cases front (with_case p c) cs ls
    ∙ ap (λ z. grouped (front ++ (record { line = p.line; round = p.round; cases = z }) ∷ []) ls) (append_assoc p.cases (c ∷ []) cs)

other-place : (a b l k : ℕ) → (nat_lt a l || ((a == l) && nat_lt b k)) ≡ true → ((a == l) && (b == k)) ≡ false
other-place a b l k h = grind (arith, nat_tests)

-- points after an existing one
group-more : (front : List Point) (p : Point) (points : List Point) → Each HasCases points → ascends points_below (p ∷ points) ≡ true → grouped (front ++ p ∷ []) (lines_of points) ≡ front ++ p ∷ points
group-more front p [] has up = refl
group-more front p (q ∷ points) has up =
    let t = both_true (points_below p q) (ascends points_below (q ∷ points)) up in
    go q.cases refl has.0 (group-more (front ++ p ∷ []) q points has.1 t.1)
  where
    go : (cs : List Case) → q.cases ≡ cs → 1 ≤ length cs → grouped ((front ++ p ∷ []) ++ q ∷ []) (lines_of points) ≡ (front ++ p ∷ []) ++ q ∷ points
        → grouped (front ++ p ∷ []) (lines_of (q ∷ points)) ≡ front ++ p ∷ q ∷ points
    go [] is some rest = absurd (omega arith)
    go (c ∷ cs) is some rest =
        let t = both_true (points_below p q) (ascends points_below (q ∷ points)) up in
        let apart : add_case (p ∷ []) (q.line, q.round, c) ≡ p ∷ point_of (q.line, q.round, c) ∷ [] = rw (other-place p.line p.round q.line q.round t.0) refl in
        let lines : lines_of (q ∷ points) ≡ (q.line, q.round, c) ∷ (map (listed_at_place q) cs ++ lines_of points) = ap (λ z. map (listed_at_place q) z ++ lines_of points) is in
        let whole : point_of (q.line, q.round, c) ≡ (record { line = q.line; round = q.round; cases = c ∷ [] }) = refl in
        let full : (record { line = q.line; round = q.round; cases = c ∷ cs }) ≡ q = ap (λ z. record { line = q.line; round = q.round; cases = z }) (sym is) in
        ap (grouped (front ++ p ∷ [])) lines
        ∙ ap (λ z. grouped z (map (listed_at_place q) cs ++ lines_of points)) (add-last front p (q.line, q.round, c) ∙ ap (λ z. front ++ z) apart ∙ sym (append_assoc front (p ∷ []) (point_of (q.line, q.round, c) ∷ [])))
        ∙ group-cases (front ++ p ∷ []) (point_of (q.line, q.round, c)) cs (lines_of points)
        ∙ ap (λ z. grouped ((front ++ p ∷ []) ++ z ∷ []) (lines_of points)) full
        ∙ rest
        ∙ append_assoc front (p ∷ []) (q ∷ points)

pub grouped-back : (points : List Point) → Each HasCases points → ascends points_below points ≡ true → grouped [] (lines_of points) ≡ points
grouped-back [] has up = refl
grouped-back (p ∷ points) has up = go p.cases refl has.0
  where
    go : (cs : List Case) → p.cases ≡ cs → 1 ≤ length cs → grouped [] (lines_of (p ∷ points)) ≡ p ∷ points
    go [] is some = absurd (omega arith)
    go (c ∷ cs) is some =
        let full : (record { line = p.line; round = p.round; cases = c ∷ cs }) ≡ p = ap (λ z. record { line = p.line; round = p.round; cases = z }) (sym is) in
        ap (λ z. grouped [] (map (listed_at_place p) z ++ lines_of points)) is
        ∙ group-cases [] (point_of (p.line, p.round, c)) cs (lines_of points)
        ∙ ap (λ z. grouped (z ∷ []) (lines_of points)) full
        ∙ group-more [] p points has.1 up

-- if the points are in order after one more line, they were in order before it
below-same : (p : Point) (points : List Point) (l : Listed) (q : Point) → ascends points_below (p ∷ add_case (q ∷ points) l) ≡ true → points_below p q ≡ true
below-same p [] l q h = elim (cases_Bool ((q.line == l.0) && (q.round == l.1))) [
  | inl e ↦ (both_true _ _ (rw e at h)).0
  | inr e ↦ (both_true _ _ (rw e at h)).0
]
below-same p (r ∷ points) l q h = (both_true _ _ h).0

add-fit : (points : List Point) (l : Listed) → fit_points (add_case points l) ≡ true → fit_points points ≡ true
add-fit [] l h = refl
add-fit (p ∷ []) l h = elim (cases_Bool ((p.line == l.0) && (p.round == l.1))) [
  | inl e ↦
      let t = both_true (each_fits (with_case p l.2 ∷ [])) true (rw e at h) in
      let c = both_true (fit_cases (with_case p l.2).cases) true t.0 in
      let s = both_true (nat_le (length (p.cases ++ l.2 ∷ [])) 16) (ascends cases_below (p.cases ++ l.2 ∷ [])) c.0 in
      both_back _ _ (both_back _ _ (both_back _ _ (short-front 16 p.cases (l.2 ∷ []) s.0) (ascends-front cases_below p.cases (l.2 ∷ []) s.1)) refl) refl
  | inr e ↦
      let t = both_true (each_fits (p ∷ point_of l ∷ [])) (ascends points_below (p ∷ point_of l ∷ [])) (rw e at h) in
      let c = both_true (fit_cases p.cases) (each_fits (point_of l ∷ [])) t.0 in
      both_back _ _ (both_back _ _ c.0 refl) refl
]
add-fit (p ∷ q ∷ points) l h =
    let t = both_true (each_fits (p ∷ add_case (q ∷ points) l)) (ascends points_below (p ∷ add_case (q ∷ points) l)) h in
    let c = both_true (fit_cases p.cases) (each_fits (add_case (q ∷ points) l)) t.0 in
    let rest = add-fit (q ∷ points) l (both_back _ _ c.1 (tail-up (add_case (q ∷ points) l) t.1)) in
    let r = both_true (each_fits (q ∷ points)) (ascends points_below (q ∷ points)) rest in
    both_back _ _ (both_back _ _ c.0 r.0) (both_back _ _ (below-same p points l q t.1) r.1)
  where
    tail-up : (ps : List Point) → ascends points_below (p ∷ ps) ≡ true → ascends points_below ps ≡ true
    tail-up [] h = refl
    tail-up (r ∷ ps) h = (both_true _ _ h).1

pub grouped-fit : (points : List Point) (ls : List Listed) → fit_points (grouped points ls) ≡ true → fit_points points ≡ true
grouped-fit points [] h = h
grouped-fit points (l ∷ ls) h = add-fit points l (grouped-fit (add_case points l) ls h)
