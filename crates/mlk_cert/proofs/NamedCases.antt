-- Cases that points name by their numbers.
use Rattle.std.proofs.Common.{◌≡◌, ℕ, zero, suc, ◌++◌, ◌+◌, ◌-◌, List, [], ◌∷◌, length, map, replicate, Some, None, Bool, true, false, not, refl, sym, ap, ◌∙◌, inl, inr, append-nil, append_assoc, arith}
use Rattle.std.specs.Prelude.{Option, ◌||◌, ◌&&◌, bytes_eq, cond, is_some, nat_lt, position, slice_get, slice_set, option_to_list}
use Rattle.std.specs.List.{prefix_len}
use Rattle.std.proofs.lemmas.Bool.{cases_Bool}
use Rattle.std.proofs.lemmas.Bool.Decides.{nat_tests}
use Rattle.std.proofs.lemmas.List.{map-append}
use Rattle.std.proofs.lemmas.Option.{same_Some}
use Rattle.mlk_cert_parts.specs.declared.case.Case.{Case}
use Rattle.mlk_cert_parts.specs.declared.block.Point.{Point}
use Rattle.mlk_cert_parts.specs.declared.block.EntryCert.{EntryCert}
use Rattle.mlk_cert_lexemes.specs.Lists.{ascends, below}
use Rattle.mlk_cert_parts.specs.Texts.{case_text}
use Rattle.mlk_cert_parts.specs.Checks.{has_text}
use Rattle.mlk_cert.specs.Second.{IsOneOf, cases_of, cases_of_points, cases_of_blocks}
use Rattle.mlk_cert.specs.Numbered.{NumberedPoint, cases_by, point_by, are_named}
use Rattle.mlk_cert.specs.Named.{texts_by, AddsNumbers, marked}
use Rattle.mlk_cert.proofs.BlockLoops.{has-append, bytes-turned}
use Rattle.mlk_cert.proofs.NamedTexts.{or-nothing}
use Rattle.mlk_cert.proofs.Tables.{below-all, below-apart, ascends-rest, bytes-same}

-- one more point, and one more block
points-push : (ps : List Point) (p : Point) → cases_of_points (ps ++ p ∷ []) ≡ cases_of_points ps ++ cases_of p
points-push [] p = append-nil (cases_of p)
points-push (q ∷ ps) p = ap (λ z. cases_of q ++ z) (points-push ps p) ∙ sym (append_assoc (cases_of q) (cases_of_points ps) (cases_of p))

blocks-push : (bs : List EntryCert) (b : EntryCert) → cases_of_blocks (bs ++ b ∷ []) ≡ cases_of_blocks bs ++ cases_of_points b.points
blocks-push [] b = append-nil (cases_of_points b.points)
blocks-push (c ∷ bs) b =
    ap (λ z. cases_of_points c.points ++ z) (blocks-push bs b) ∙ sym (append_assoc (cases_of_points c.points) (cases_of_blocks bs) (cases_of_points b.points))

-- the texts of cases with numbers, and more of them
texts-append : (cases : List Case) (ns ms : List ℕ) → texts_by cases (ns ++ ms) ≡ texts_by cases ns ++ texts_by cases ms
texts-append cases [] ms = refl
texts-append cases (n ∷ ns) ms =
    let first = option_to_list (slice_get cases (n - 1)) in
    map-append case_text first (cases_by cases (ns ++ ms)) ∙ ap (λ z. map case_text first ++ z) (texts-append cases ns ms)
    ∙ sym (append_assoc (map case_text first) (texts_by cases ns) (texts_by cases ms)) ∙ ap (λ z. z ++ texts_by cases ms) (sym (map-append case_text first (cases_by cases ns)))

pub numbers-none : (cases : Option (List Case)) (ns : List ℕ) → AddsNumbers cases ns ns []
numbers-none None ns = tt
numbers-none (Some cases) ns = sym (append-nil (texts_by cases ns))

pub point-numbers : (cases : List Case) (start old new : List ℕ) (points : List Point) (p : NumberedPoint) → new ≡ old ++ p.2
    → AddsNumbers (Some cases) start old (cases_of_points points) → AddsNumbers (Some cases) start new (cases_of_points (points ++ point_by cases p ∷ []))
point-numbers cases start old new points p made h =
    ap (texts_by cases) made ∙ texts-append cases old p.2 ∙ ap (λ z. z ++ texts_by cases p.2) h ∙ append_assoc (texts_by cases start) (cases_of_points points) (texts_by cases p.2)
    ∙ ap (λ z. texts_by cases start ++ z) (sym (points-push points (point_by cases p)))

pub block-numbers : (cases : Option (List Case)) (start old new : List ℕ) (bs : List EntryCert) (b : EntryCert) → AddsNumbers cases old new (cases_of_points b.points)
    → AddsNumbers cases start old (cases_of_blocks bs) → AddsNumbers cases start new (cases_of_blocks (bs ++ b ∷ []))
block-numbers None start old new bs b k h = tt
block-numbers (Some cases) start old new bs b k h =
    k ∙ ap (λ z. z ++ cases_of_points b.points) h ∙ append_assoc (texts_by cases start) (cases_of_blocks bs) (cases_of_points b.points)
    ∙ ap (λ z. texts_by cases start ++ z) (sym (blocks-push bs b))

-- for each case whether its text is one of these
abbrev marks_by : List (List ℕ) → List Case → List Bool
marks_by texts cases = map (λ c. has_text texts (case_text c)) cases

own-text : (texts : List (List ℕ)) (t : List ℕ) → has_text (texts ++ t ∷ []) t ≡ true
own-text texts t = has-append texts (t ∷ []) t ∙ ap (λ b. has_text texts t || (b || false)) (bytes-same t) ∙ or-true (has_text texts t)
  where
    or-true : (b : Bool) → (b || true) ≡ true
    or-true true = refl
    or-true false = refl

other-text : (texts : List (List ℕ)) (t u : List ℕ) → bytes_eq u t ≡ false → has_text (texts ++ t ∷ []) u ≡ has_text texts u
other-text texts t u apart = has-append texts (t ∷ []) u ∙ ap (λ b. has_text texts u || (b || false)) apart ∙ or-nothing (has_text texts u)

others-kept : (texts : List (List ℕ)) (t : List ℕ) (cases : List Case) → ((u : List ℕ) → IsOneOf (map case_text cases) u → bytes_eq u t ≡ false) → marks_by (texts ++ t ∷ []) cases ≡ marks_by texts cases
others-kept texts t [] apart = refl
others-kept texts t (c ∷ cases) apart =
    ap (λ b. b ∷ marks_by (texts ++ t ∷ []) cases) (other-text texts t (case_text c) (apart (case_text c) (inl refl)))
    ∙ ap (λ z. has_text texts (case_text c) ∷ z) (others-kept texts t cases (λ u a. apart u (inr a)))

got-among : (cases : List Case) (i : ℕ) (c : Case) → slice_get cases i ≡ Some c → IsOneOf (map case_text cases) (case_text c)
got-among [] i c h = cc h
got-among (d ∷ cases) zero c h = inl (ap case_text (same_Some d c h))
got-among (d ∷ cases) (suc i) c h = inr (got-among cases i c h)

-- the case at an index, if there is one, is named from now on, and no other
mark-step : (cases : List Case) (i : ℕ) (texts : List (List ℕ)) → ascends below (map case_text cases) ≡ true
    → slice_set (marks_by texts cases) i true ≡ marks_by (texts ++ map case_text (option_to_list (slice_get cases i))) cases
mark-step [] i texts up = refl
mark-step (d ∷ cases) zero texts up =
    let kept = others-kept texts (case_text d) cases (λ u a. bytes-turned u (case_text d) ∙ below-apart (case_text d) u (below-all (case_text d) (map case_text cases) u up a)) in
    ap (λ z. true ∷ z) (sym kept) ∙ ap (λ b. b ∷ marks_by (texts ++ case_text d ∷ []) cases) (sym (own-text texts (case_text d)))
mark-step (d ∷ cases) (suc i) texts up =
    ap (λ z. has_text texts (case_text d) ∷ z) (mark-step cases i texts (ascends-rest (case_text d) (map case_text cases) up))
    ∙ ap (λ b. b ∷ marks_by (texts ++ map case_text (option_to_list (slice_get cases i))) cases) (sym (first (slice_get cases i) refl))
  where
    first : (o : Option Case) → slice_get cases i ≡ o → has_text (texts ++ map case_text (option_to_list o)) (case_text d) ≡ has_text texts (case_text d)
    first None h = ap (λ z. has_text z (case_text d)) (append-nil texts)
    first (Some c) h = other-text texts (case_text c) (case_text d) (below-apart (case_text d) (case_text c) (below-all (case_text d) (map case_text cases) (case_text c) up (got-among cases i c h)))

marks-named : (cases : List Case) (ns : List ℕ) (texts : List (List ℕ)) → ascends below (map case_text cases) ≡ true → marked (marks_by texts cases) ns ≡ marks_by (texts ++ texts_by cases ns) cases
marks-named cases [] texts up = ap (λ z. marks_by z cases) (sym (append-nil texts))
marks-named cases (n ∷ ns) texts up =
    let first = option_to_list (slice_get cases (n - 1)) in
    ap (λ z. marked z ns) (mark-step cases (n - 1) texts up) ∙ marks-named cases ns (texts ++ map case_text first) up
    ∙ ap (λ z. marks_by z cases) (append_assoc texts (map case_text first) (texts_by cases ns) ∙ ap (λ z. texts ++ z) (sym (map-append case_text first (cases_by cases ns))))

none-marked : (cases : List Case) → replicate (length cases) false ≡ marks_by [] cases
none-marked [] = refl
none-marked (c ∷ cases) = ap (λ z. false ∷ z) (none-marked cases)

-- the first mark that is not set
unset-within : (texts : List (List ℕ)) (cases : List Case) → nat_lt (prefix_len (λ b. not (not b)) (marks_by texts cases)) (length (marks_by texts cases)) ≡ not (are_named texts cases)
unset-within texts [] = refl
unset-within texts (c ∷ cases) = elim (cases_Bool (has_text texts (case_text c))) [
  | inl e ↦ rw e (later (prefix_len (λ b. not (not b)) (marks_by texts cases)) (length (marks_by texts cases)) ∙ unset-within texts cases)
  | inr e ↦ rw e (here (length (marks_by texts cases)))
]
  where
    later : (n m : ℕ) → nat_lt (1 + n) (suc m) ≡ nat_lt n m
    later n m = grind (arith, nat_tests)

    here : (m : ℕ) → nat_lt 0 (suc m) ≡ true
    here m = grind (arith, nat_tests)

none-there : {A : Type 0} (b : Bool) (a : A) → not (is_some (cond b (Some a) None)) ≡ not b
none-there true a = refl
none-there false a = refl

not-not : (b : Bool) → not (not b) ≡ b
not-not true = refl
not-not false = refl

pub unset-none : (cases : List Case) (ns : List ℕ) (marks : List Bool) (o : Option ℕ) → ascends below (map case_text cases) ≡ true
    → marks ≡ marked (replicate (length cases) false) ns → o ≡ position not marks → not (is_some o) ≡ are_named (texts_by cases ns) cases
unset-none cases ns marks o up made found =
    let is : marks ≡ marks_by (texts_by cases ns) cases = made ∙ ap (λ z. marked z ns) (none-marked cases) ∙ marks-named cases ns [] up in
    let texts = texts_by cases ns in
    ap (λ z. not (is_some z)) (found ∙ ap (position not) is)
    ∙ none-there (nat_lt (prefix_len (λ b. not (not b)) (marks_by texts cases)) (length (marks_by texts cases))) _
    ∙ ap not (unset-within texts cases) ∙ not-not (are_named texts cases)
