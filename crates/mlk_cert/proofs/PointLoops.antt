-- Loops over the lines of points.
use Rattle.std.proofs.Common.{◌≡◌, ℕ, suc, ◌++◌, List, [], ◌∷◌, length, Some, None, Bool, true, false, refl, sym, ap, ◌∙◌, arith, inl, inr, append_assoc, length-append}
use Rattle.std.specs.Prelude.{Option, ◌⊎◌, ◌==◌, ◌&&◌, ◌||◌, nat_lt, nat_le, option_map, option_and_then, slice_get, ◌-◌}
use Rattle.std.proofs.lemmas.Bool.{cases_Bool}
use Rattle.mlk_text.specs.declared.failure.Failure.{Failure}
use Rattle.mlk_text.specs.declared.failure.Failure.TheVariants.{OutOfMemory, Refused}
use Rattle.mlk_text.specs.Failures.{FailsOn}
use Rattle.mlk_text.specs.Reading.{◌>>=◌, with}
use Rattle.mlk_cert_parts.specs.declared.case.Case.{Case}
use Rattle.mlk_cert_parts.specs.declared.block.Point.{Point}
use Rattle.mlk_cert_lexemes.specs.Lists.{last_of, ascends}
use Rattle.mlk_cert_parts.specs.Texts.{case_text}
use Rattle.mlk_cert_parts.specs.Limits.{cases_below, points_below}
use Rattle.mlk_cert_parts.specs.Checks.{fit_cases, each_fits, fit_points}
use Rattle.mlk_cert.specs.Blocks.{fit, Listed, point_of, with_case, add_case, grouped, above_last, next_case_fits, last_case_text, place_at, listed_case_at}
use Rattle.mlk_cert_parts.specs.Reading.{case_at}
use Rattle.mlk_text.specs.Lexemes.{byte_at}
use Rattle.mlk_cert_lexemes.proofs.Formats.{both_true, both_back}
use Rattle.mlk_cert.proofs.Grouping.{add-last, grouped-fit}
use Rattle.mlk_cert_lexemes.proofs.Room.{ascends-push}
use Rattle.mlk_cert.proofs.Loops.{ends, last-push, room-same, ascends-next}

-- the lines of points, as a test
abbrev pub fit_lines : List Listed → Bool
fit_lines ls = fit_points (grouped [] ls)

grouped-more : (points : List Point) (ls ms : List Listed) → grouped points (ls ++ ms) ≡ grouped (grouped points ls) ms
grouped-more points [] ms = refl
grouped-more points (l ∷ ls) ms = grouped-more (add_case points l) ls ms

pub lines-closed : (ls ms : List Listed) → fit_lines (ls ++ ms) ≡ true → fit_lines ls ≡ true
lines-closed ls ms h = grouped-fit (grouped [] ls) ms (ap fit_points (sym (grouped-more [] ls ms)) ∙ h)

each-push : (points : List Point) (p : Point) → each_fits (points ++ p ∷ []) ≡ (each_fits points && fit_cases p.cases)
each-push [] p = go (fit_cases p.cases)
  where
    go : (b : Bool) → (b && true) ≡ (true && b)
    go true = refl
    go false = refl
each-push (q ∷ points) p = ap (λ b. fit_cases q.cases && b) (each-push points p) ∙ assoc (fit_cases q.cases) (each_fits points) (fit_cases p.cases)
  where
    assoc : (a b c : Bool) → (a && (b && c)) ≡ ((a && b) && c)
    assoc true b c = refl
    assoc false b c = refl

cases-step : (p : Point) (c : Case) → fit_cases p.cases ≡ true → fit_cases (p.cases ++ c ∷ []) ≡ (nat_lt (length p.cases) 16 && above_last (option_map case_text (last_of p.cases)) (case_text c))
cases-step p c h =
    let t = both_true (nat_le (length p.cases) 16) (ascends cases_below p.cases) h in
    let long : length (p.cases ++ c ∷ []) ≡ suc (length p.cases) = omega (arith, length-append p.cases (c ∷ [])) in
    ap (λ b. b && ascends cases_below (p.cases ++ c ∷ [])) (room-same 16 (length p.cases) (length (p.cases ++ c ∷ [])) long) ∙ ap (λ b. nat_lt (length p.cases) 16 && b) (ascends-next case_text p.cases c t.1)

-- points that ascend, their last one with further cases
same-up : (points : List Point) (p q : Point) → p.line ≡ q.line → p.round ≡ q.round → ascends points_below (points ++ p ∷ []) ≡ true → ascends points_below (points ++ q ∷ []) ≡ true
same-up [] p q a b h = refl
same-up (x ∷ []) p q a b h =
    let t = both_true (points_below x p) true h in
    both_back _ _ (ap (λ n. nat_lt x.line n || ((x.line == n) && nat_lt x.round q.round)) (sym a) ∙ ap (λ n. nat_lt x.line p.line || ((x.line == p.line) && nat_lt x.round n)) (sym b) ∙ t.0) refl
same-up (x ∷ y ∷ points) p q a b h = let t = both_true (points_below x y) (ascends points_below (y ∷ (points ++ p ∷ []))) h in both_back _ _ t.0 (same-up (y ∷ points) p q a b t.1)

first-fits : (l : Listed) → fit_points (point_of l ∷ []) ≡ true
first-fits l = refl

same-fits : (front : List Point) (p : Point) (c : Case) → fit_points (front ++ p ∷ []) ≡ true
    → fit_points (front ++ with_case p c ∷ []) ≡ (nat_lt (length p.cases) 16 && above_last (option_map case_text (last_of p.cases)) (case_text c))
same-fits front p c h =
    let t = both_true (each_fits (front ++ p ∷ [])) (ascends points_below (front ++ p ∷ [])) h in
    let e = both_true (each_fits front) (fit_cases p.cases) (sym (each-push front p) ∙ t.0) in
    let up = same-up front p (with_case p c) refl refl t.1 in
    ap (λ b. b && ascends points_below (front ++ with_case p c ∷ [])) (each-push front (with_case p c) ∙ ap (λ b. b && fit_cases (p.cases ++ c ∷ [])) e.0 ∙ cases-step p c e.1)
    ∙ ap (λ b. (nat_lt (length p.cases) 16 && above_last (option_map case_text (last_of p.cases)) (case_text c)) && b) up ∙ and_true _
  where
    and_true : (b : Bool) → (b && true) ≡ b
    and_true true = refl
    and_true false = refl

new-fits : (front : List Point) (p q : Point) → fit_cases q.cases ≡ true → fit_points (front ++ p ∷ []) ≡ true → fit_points ((front ++ p ∷ []) ++ q ∷ []) ≡ points_below p q
new-fits front p q good h =
    let t = both_true (each_fits (front ++ p ∷ [])) (ascends points_below (front ++ p ∷ [])) h in
    ap (λ b. b && ascends points_below ((front ++ p ∷ []) ++ q ∷ [])) (each-push (front ++ p ∷ []) q ∙ ap (λ b. b && fit_cases q.cases) t.0 ∙ good)
    ∙ ascends-push points_below front p q ∙ ap (λ b. b && points_below p q) t.1

add-step : (front : List Point) (p : Point) (l : Listed) → fit_points (front ++ p ∷ []) ≡ true
    → fit_points (add_case (front ++ p ∷ []) l) ≡ next_case_fits (Some p) (option_map case_text (last_of p.cases)) l.0 l.1 (case_text l.2)
add-step front p l h = ap fit_points (add-last front p l) ∙ (elim (cases_Bool ((p.line == l.0) && (p.round == l.1))) [
  | inl e ↦ rw e (same-fits front p l.2 h)
  | inr e ↦ rw e (ap fit_points (sym (append_assoc front (p ∷ []) (point_of l ∷ []))) ∙ new-fits front p (point_of l) refl h)
])

pub points-step : (points : List Point) (l : Listed) → fit_points points ≡ true → fit_points (add_case points l) ≡ next_case_fits (last_of points) (last_case_text points) l.0 l.1 (case_text l.2)
points-step points l h = elim (ends points) [
  | inl e ↦ ap (λ z. fit_points (add_case z l)) e ∙ ap (λ z. next_case_fits (last_of z) (last_case_text z) l.0 l.1 (case_text l.2)) (sym e)
  | inr e ↦
      let last : last_of points ≡ Some e.1 = ap last_of e.2 ∙ last-push e.0 e.1 in
      ap (λ z. fit_points (add_case z l)) e.2 ∙ add-step e.0 e.1 l (ap fit_points (sym e.2) ∙ h)
      ∙ ap (λ (o : Option Point). next_case_fits o (option_and_then (λ p. option_map case_text (last_of p.cases)) o) l.0 l.1 (case_text l.2)) (sym last)
]

pub lines-step : (ls : List Listed) (points : List Point) (l : Listed) → points ≡ grouped [] ls → fit_points points ≡ true
    → fit_lines (ls ++ l ∷ []) ≡ next_case_fits (last_of points) (last_case_text points) l.0 l.1 (case_text l.2)
lines-step ls points l is h =
    ap fit_points (grouped-more [] ls (l ∷ []) ∙ ap (λ z. add_case z l) (sym is)) ∙ points-step points l h

pub grouped-push : (ls : List Listed) (points : List Point) (l : Listed) → points ≡ grouped [] ls → add_case points l ≡ grouped [] (ls ++ l ∷ [])
grouped-push ls points l is = ap (λ z. add_case z l) is ∙ sym (grouped-more [] ls (l ∷ []))

-- the text of the last case is that of the added one
case-last : (p : Point) (l : Listed) → last_case_text (add_case (p ∷ []) l) ≡ Some (case_text l.2)
case-last p l = elim (cases_Bool ((p.line == l.0) && (p.round == l.1))) [
  | inl e ↦ rw e (ap (option_map case_text) (last-push p.cases l.2))
  | inr e ↦ rw e refl
]

last-front : (x : Point) (points : List Point) (p : Point) (l : Listed) → last_case_text (x ∷ add_case (points ++ p ∷ []) l) ≡ last_case_text (add_case (points ++ p ∷ []) l)
last-front x [] p l = go (add_case (p ∷ []) l) (nonempty (cases_Bool ((p.line == l.0) && (p.round == l.1))))
  where
    nonempty : (((p.line == l.0) && (p.round == l.1)) ≡ true) ⊎ (((p.line == l.0) && (p.round == l.1)) ≡ false) → (q : Point) × (qs : List Point) × (add_case (p ∷ []) l ≡ q ∷ qs)
    nonempty (inl e) = (with_case p l.2, [], rw e refl)
    nonempty (inr e) = (p, point_of l ∷ [], rw e refl)

    go : (ps : List Point) → (q : Point) × (qs : List Point) × (ps ≡ q ∷ qs) → last_case_text (x ∷ ps) ≡ last_case_text ps
    go ps (q, qs, is) = ap (λ z. last_case_text (x ∷ z)) is ∙ ap last_case_text (sym is)
last-front x (y ∷ []) p l = refl
last-front x (y ∷ z ∷ points) p l = refl

added-last : (front : List Point) (p : Point) (l : Listed) → last_case_text (add_case (front ++ p ∷ []) l) ≡ Some (case_text l.2)
added-last [] p l = case-last p l
added-last (x ∷ []) p l = last-front x [] p l ∙ case-last p l
added-last (x ∷ y ∷ front) p l = last-front x (y ∷ front) p l ∙ added-last (y ∷ front) p l

pub added-text : (points : List Point) (l : Listed) → last_case_text (add_case points l) ≡ Some (case_text l.2)
added-text points l = elim (ends points) [
  | inl e ↦ ap (λ z. last_case_text (add_case z l)) e
  | inr e ↦ ap (λ z. last_case_text (add_case z l)) e.2 ∙ added-last e.0 e.1 l
]

pub added-same : (front old : List Point) (p q : Point) (l : Listed) → old ≡ front ++ p ∷ [] → ((p.line == l.0) && (p.round == l.1)) ≡ true → q ≡ with_case p l.2 → front ++ q ∷ [] ≡ add_case old l
added-same front old p q l is same made =
    let here : add_case (p ∷ []) l ≡ with_case p l.2 ∷ [] = rw same refl in
    ap (λ z. front ++ z ∷ []) made ∙ ap (λ z. front ++ z) (sym here) ∙ sym (add-last front p l) ∙ ap (λ z. add_case z l) (sym is)

pub added-other : (front old : List Point) (p q : Point) (l : Listed) → old ≡ front ++ p ∷ [] → ((p.line == l.0) && (p.round == l.1)) ≡ false → q ≡ point_of l → (front ++ p ∷ []) ++ q ∷ [] ≡ add_case old l
added-other front old p q l is other made =
    let here : add_case (p ∷ []) l ≡ p ∷ point_of l ∷ [] = rw other refl in
    append_assoc front (p ∷ []) (q ∷ []) ∙ ap (λ z. front ++ p ∷ z ∷ []) made ∙ ap (λ z. front ++ z) (sym here) ∙ sym (add-last front p l) ∙ ap (λ z. add_case z l) (sym is)

-- the last of a list, by its index
pub last-got : {A : Type 0} (xs : List A) → slice_get xs (length xs - 1) ≡ last_of xs
last-got [] = refl
last-got (x ∷ []) = refl
last-got (x ∷ y ∷ xs) =
    let e : length (x ∷ y ∷ xs) - 1 ≡ suc (length (y ∷ xs) - 1) = omega arith in
    rw e (last-got (y ∷ xs))

pub listed-read : (line round : ℕ) (xs m n rest : List ℕ) (c : Case) → place_at xs ≡ Some ((line, round), m) → byte_at 32 m ≡ Some (32, n) → case_at n ≡ Some (c, rest) → listed_case_at xs ≡ Some ((line, round, c), rest)
unfolding listed_case_at
listed-read line round xs m n rest c a b d = rw a (rw b (rw d refl))

-- if lines fail, so do their points
pub points-refused : {R : Type 0} (o : Option (List Listed × List ℕ)) (e : Failure R) → FailsOn e (o >>= fit fit_lines) → FailsOn e (with (grouped []) o >>= fit fit_points)
points-refused o OutOfMemory h = tt
points-refused None (Refused r) h = refl
points-refused (Some s) (Refused r) h = elim (cases_Bool (fit_lines s.0)) [
  | inl e ↦ cc (rw e at h)
  | inr e ↦ rw e refl
]
