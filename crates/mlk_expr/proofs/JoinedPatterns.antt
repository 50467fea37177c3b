-- Patterns: what is spelled at the front before something is spelled by itself, and what is spelled is read if tame text
-- follows.
use Rattle.std.proofs.Common.{◌≡◌, ◌<◌, ℕ, zero, suc, ◌++◌, List, [], ◌∷◌, length, take, None, Bool, true, false, refl, sym, ap, ◌∙◌, arith, subst, inl, inr, append_assoc, length-append}
use Rattle.std.proofs.Math.Seq.{take-append_seam}
use Rattle.std.specs.Prelude.{◌==◌, ◌||◌, not}
use Rattle.std.specs.List.{list_all}
use Rattle.std.proofs.lemmas.Bool.{and_parts}
use Rattle.std.proofs.lemmas.Bool.Decides.{nat_tests}
use Rattle.mlk_text.specs.Reading.{Many}
use Rattle.mlk_text.specs.Lexemes.{is_digit, is_letter, byte_at, doubled, are_digits}
use Rattle.mlk_expr_tokens.specs.Lexemes.{count_at, is_pattern_code, is_missing}
use Rattle.mlk_expr.specs.Spellings.{IsCount}
use Rattle.mlk_expr.specs.Grammar.{IsMatcher, AreAtoms, IsPattern}
use Rattle.mlk_expr.proofs.Followed as followed
use Rattle.mlk_expr.proofs.Runs.{after_count, after_word, tame, starts}
use Rattle.mlk_expr.proofs.CodeSpelling.{codes-reads, codes-spelled}
use Rattle.mlk_expr.proofs.NumberSpelling.{count-reads, count-spelled}
use Rattle.mlk_expr.proofs.JoinedParts.{Joins, JoinsPattern, missing-ends, ends-tame, enclosed-after, quoted-after, list-apart, list-together}

-- a digit or a point is here
abbrev counts_on : List ℕ → Bool
counts_on [] = false
counts_on (b ∷ xs) = is_digit b || (b == 46)

-- a count begins with a digit or a point
count-first : (c zs : List ℕ) → IsCount c → counts_on (c ++ zs) ≡ true
count-first c zs (before, after, first, second, inl (is, some)) = subst (λ l. counts_on (l ++ zs) ≡ true) (sym is) (digit before first some)
  where
    digit : (ds : List ℕ) → are_digits ds ≡ true → 0 < length ds → counts_on (ds ++ zs) ≡ true
    digit [] h some = absurd (omega arith)
    digit (d ∷ ds) h some = rw ((and_parts (is_digit d) (are_digits ds) h).0) refl
count-first c zs (before, after, first, second, inr is) = subst (λ l. counts_on (l ++ zs) ≡ true) (sym is) (point before first)
  where
    point : (ds : List ℕ) → are_digits ds ≡ true → counts_on ((ds ++ 46 ∷ after) ++ zs) ≡ true
    point [] h = refl
    point (d ∷ ds) h = rw ((and_parts (is_digit d) (are_digits ds) h).0) refl

-- a digit or a point makes no operator longer
on-starts : (zs : List ℕ) → counts_on zs ≡ true → starts zs ≡ true
on-starts [] h = cc h
on-starts (b ∷ zs) h = grind (arith, nat_tests)

-- a count makes no operator longer
pub count-starts : (c zs : List ℕ) → IsCount c → starts (c ++ zs) ≡ true
count-starts c zs h = on-starts (c ++ zs) (count-first c zs h)

-- the whole determines what precedes one text
append-cancel : (front other ys : List ℕ) → front ++ ys ≡ other ++ ys → front ≡ other
append-cancel front other ys h =
    let one = length-append front ys in
    let two = length-append other ys in
    let whole = ap length h in
    let size : length front ≡ length other = omega arith in
    sym (take-append_seam front ys) ∙ ap (take (length front)) h ∙ ap (λ n. take n (other ++ ys)) size ∙ take-append_seam other ys

-- there is no count where the text is tame
count-none : (ys : List ℕ) → tame ys ≡ true → count_at ys ≡ None
unfolding count_at
count-none [] h = refl
count-none (b ∷ ys) h =
    let digit : is_digit b ≡ false = grind (arith, nat_tests) in
    let point : (b == 46) ≡ false = grind (arith, nat_tests) in
    rw (digit, point) refl

-- no letter and no quote is here: codes and texts end
abbrev ends_atom : List ℕ → Bool
ends_atom [] = true
ends_atom (b ∷ xs) = not (is_letter b || (b == 34))

-- tame text ends codes and texts
tame-ends : (ys : List ℕ) → tame ys ≡ true → ends_atom ys ≡ true
tame-ends [] h = refl
tame-ends (b ∷ ys) h = grind (arith, nat_tests)

-- so does a digit or a point
on-ends : (ys : List ℕ) → counts_on ys ≡ true → ends_atom ys ≡ true
on-ends [] h = refl
on-ends (b ∷ ys) h = grind (arith, nat_tests)

-- what ends them ends words
ends-word : (ys : List ℕ) → ends_atom ys ≡ true → after_word ys ≡ true
ends-word [] h = refl
ends-word (b ∷ ys) h = grind (arith, nat_tests)

-- no quote is there
ends-quote : (ys : List ℕ) → ends_atom ys ≡ true → byte_at 34 ys ≡ None
ends-quote [] h = refl
ends-quote (b ∷ ys) h = let e : (b == 34) ≡ false = grind (arith, nat_tests) in rw e refl

-- a pattern code is neither a digit nor a point
code-count : (b : ℕ) → is_pattern_code b ≡ true → (is_digit b || (b == 46)) ≡ false
code-count b h = grind (arith, nat_tests)

-- an alternative as it is written
abbrev Choice : (List ℕ → Type 0) → ℕ → List ℕ → List ℕ → Type 0
Choice Deep at choice t = (t ≡ choice) × Deep choice

module _ (Near : List ℕ → List ℕ → List ℕ → Type 0) (Deep : List ℕ → Type 0) (p : JoinsPattern Near Deep) where
  -- both grammars agree on an alternative, in whatever column
  alternatives : (end : ℕ) → Joins end Near (Choice Deep) is_missing
  alternatives end = record {
    apart = λ at choice xs ys h one. let f = p.apart choice xs ys one in (choice, f.1, (refl, f.0));
    together = λ at choice s ys h (same, one) may. subst (λ l. Near choice (l ++ ys) ys) (sym same) (p.together choice ys one (ends-tame ys (missing-ends ys may)));
  }

  -- a matcher with something after it is a matcher
  matcher-apart : (count c xs ys : List ℕ)
      → followed.IsMatcher Near count c xs ys → (s : List ℕ) × IsMatcher Deep s × (xs ≡ s ++ ys)
  matcher-apart count c xs ys (same, inl (codes, is)) = let r = codes-spelled codes xs ys is in (codes, inl r.0, r.1)
  matcher-apart count c xs ys (same, inr (inl (value, (is, text, none)))) =
      (34 ∷ (doubled value ++ 34 ∷ []), inr (inl (value, (refl, text))), is ∙ sym (quoted-after value ys))
  matcher-apart count c xs ys (same, inr (inr (m, choices, is, list))) =
      let f = list-apart (length m) Near (Choice Deep) (alternatives (length m)) 0 choices m ys (omega arith) list in
      (40 ∷ (f.0 ++ 41 ∷ []), inr (inr (f.0, choices, refl, f.2)), is ∙ ap (λ l. 40 ∷ l) f.1 ∙ sym (enclosed-after f.0 ys))

  -- atoms with something after them are atoms
  atoms-apart : (counts : List (List ℕ)) (xs ys : List ℕ)
      → Many count_at (followed.IsMatcher Near) counts xs ys → (s : List ℕ) × AreAtoms Deep counts s × (xs ≡ s ++ ys)
  atoms-apart [] xs ys h = ([], refl, h.0)
  atoms-apart (c ∷ counts) xs ys (count, m, n, here, atom, others) =
      let r = count-spelled count xs m here in
      let same : c ≡ count = atom.0 in
      let matcher = matcher-apart count c m n atom in
      let more = atoms-apart counts n ys others in
      let whole : xs ≡ c ++ (matcher.0 ++ (more.0 ++ ys)) = r.1 ∙ ap (λ l. l ++ m) (sym same) ∙ ap (λ l. c ++ l) (matcher.2 ∙ ap (λ l. matcher.0 ++ l) more.2) in (
        c ++ (matcher.0 ++ more.0),
        (matcher.0, more.0, refl, subst IsCount (sym same) r.0, matcher.1, more.1),
        whole ∙ ap (λ l. c ++ l) (sym (append_assoc matcher.0 more.0 ys)) ∙ sym (append_assoc c (matcher.0 ++ more.0) ys),
      )

  -- an atom ends where the next one begins
  atoms-end : (counts : List (List ℕ)) (s ys : List ℕ) → AreAtoms Deep counts s → tame ys ≡ true → ends_atom (s ++ ys) ≡ true
  atoms-end [] s ys is t = subst (λ l. ends_atom (l ++ ys) ≡ true) (sym is) (tame-ends ys t)
  atoms-end (count ∷ counts) s ys (matcher, rest, is, one, atom, atoms) t =
      subst (λ l. ends_atom l ≡ true) (sym (ap (λ l. l ++ ys) is ∙ append_assoc count (matcher ++ rest) ys)) (on-ends (count ++ ((matcher ++ rest) ++ ys)) (count-first count ((matcher ++ rest) ++ ys) one))

  -- a matcher does not continue a count
  matcher-count : (s zs : List ℕ) → IsMatcher Deep s → after_count (s ++ zs) ≡ true
  matcher-count [] zs (inl (all, some)) = absurd (omega arith)
  matcher-count (b ∷ s) zs (inl (all, some)) = rw (code-count b (and_parts (is_pattern_code b) (list_all is_pattern_code s) all).0) refl
  matcher-count s zs (inr (inl (value, (is, text)))) = subst (λ l. after_count (l ++ zs) ≡ true) (sym is) refl
  matcher-count s zs (inr (inr (inner, choices, is, list))) = subst (λ l. after_count (l ++ zs) ≡ true) (sym is) refl

  -- a matcher is read to its end
  matcher-together : (count s zs : List ℕ)
      → IsMatcher Deep s → ends_atom zs ≡ true → followed.IsMatcher Near count count (s ++ zs) zs
  matcher-together count s zs (inl codes) end = (refl, inl (s, codes-reads s zs codes (ends-word zs end)))
  matcher-together count s zs (inr (inl (value, (is, text)))) end =
      (refl, inr (inl (value, (ap (λ l. l ++ zs) is ∙ quoted-after value zs, text, ends-quote zs end))))
  matcher-together count s zs (inr (inr (inner, choices, is, list))) end =
      let f = list-together (length (inner ++ 41 ∷ zs)) Near (Choice Deep) (alternatives (length (inner ++ 41 ∷ zs))) 0 choices inner zs (omega arith) list in
      (refl, inr (inr (inner ++ 41 ∷ zs, choices, ap (λ l. l ++ zs) is ∙ enclosed-after inner zs, f)))

  -- atoms are read as long as counts follow
  atoms-together : (counts : List (List ℕ)) (s ys : List ℕ)
      → AreAtoms Deep counts s → tame ys ≡ true → Many count_at (followed.IsMatcher Near) counts (s ++ ys) ys
  atoms-together [] s ys is t = subst (λ l. Many count_at (followed.IsMatcher Near) [] (l ++ ys) ys) (sym is) (refl, count-none ys t)
  atoms-together (count ∷ counts) s ys (matcher, rest, is, one, atom, atoms) t =
      let whole : s ++ ys ≡ count ++ (matcher ++ (rest ++ ys)) = ap (λ l. l ++ ys) is ∙ append_assoc count (matcher ++ rest) ys ∙ ap (λ l. count ++ l) (append_assoc matcher rest ys) in
      let reads = ap count_at whole ∙ count-reads count (matcher ++ (rest ++ ys)) one (matcher-count matcher (rest ++ ys) atom) in
      let first = matcher-together count matcher (rest ++ ys) atom (atoms-end counts rest ys atoms t) in
      (count, matcher ++ (rest ++ ys), rest ++ ys, reads, first, atoms-together counts rest ys atoms t)

-- a pattern is spelled as it is read, if tame text follows
level-joins : (k : ℕ) → JoinsPattern (followed.IsPattern k) (IsPattern k) → JoinsPattern (followed.IsPattern (suc k)) (IsPattern (suc k))
unfolding IsPattern followed.IsPattern
level-joins k p = record { apart = apart; together = together; begins = begins }
  where
    apart : (text xs ys : List ℕ) → (counts : List (List ℕ)) × Many count_at (followed.IsMatcher (followed.IsPattern k)) counts xs ys × (0 < length counts) × (xs ≡ text ++ ys)
        → ((counts : List (List ℕ)) × (0 < length counts) × AreAtoms (IsPattern k) counts text) × (xs ≡ text ++ ys)
    apart text xs ys (counts, many, some, is) =
        let r = atoms-apart (followed.IsPattern k) (IsPattern k) p counts xs ys many in
        let same : r.0 ≡ text = append-cancel r.0 text ys (sym r.2 ∙ is) in
        ((counts, some, subst (AreAtoms (IsPattern k) counts) same r.1), is)

    together : (text ys : List ℕ) → (counts : List (List ℕ)) × (0 < length counts) × AreAtoms (IsPattern k) counts text → tame ys ≡ true
        → (counts : List (List ℕ)) × Many count_at (followed.IsMatcher (followed.IsPattern k)) counts (text ++ ys) ys × (0 < length counts) × (text ++ ys ≡ text ++ ys)
    together text ys (counts, some, atoms) t = (counts, atoms-together (followed.IsPattern k) (IsPattern k) p counts text ys atoms t, some, refl)

    begins : (text zs : List ℕ) → (counts : List (List ℕ)) × (0 < length counts) × AreAtoms (IsPattern k) counts text → starts (text ++ zs) ≡ true
    begins text zs ([], some, atoms) = absurd (omega arith)
    begins text zs (count ∷ counts, some, (matcher, rest, is, one, atom, atoms)) =
        subst (λ l. starts l ≡ true) (sym (ap (λ l. l ++ zs) is ∙ append_assoc count (matcher ++ rest) zs)) (count-starts count ((matcher ++ rest) ++ zs) one)

pub pattern-joins : (k : ℕ) → JoinsPattern (followed.IsPattern k) (IsPattern k)
unfolding IsPattern followed.IsPattern
pattern-joins zero = record { apart = λ text xs ys h. absurd h; together = λ text ys h t. absurd h; begins = λ text zs h. absurd h }
pattern-joins (suc k) = level-joins k (pattern-joins k)
