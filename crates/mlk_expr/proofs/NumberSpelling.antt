-- Pattern counts and numeric literals: what is spelled is read to its end, and what is read is spelled there.
use Rattle.std.proofs.Common.{◌≡◌, ◌<◌, ◌+◌, ℕ, suc, ◌++◌, List, [], ◌∷◌, length, drop, Some, None, Bool, true, false, refl, sym, ap, ◌∙◌, arith, subst, inl, inr, append_assoc, length-append}
use Rattle.std.specs.Prelude.{Option, ◌==◌, ◌&&◌, ◌||◌, if◌then◌else◌}
use Rattle.std.proofs.lemmas.Bool.{cases_Bool, eqb-true, eqb-false, and_parts, or_cases}
use Rattle.std.proofs.Math.Seq.{drop-append_seam}
use Rattle.std.proofs.lemmas.Bool.Decides.{nat_tests}
use Rattle.mlk_text.specs.Lexemes.{is_digit, digits, byte_at, are_digits}
use Rattle.mlk_numbers.specs.Numbers.{IsNumeral}
use Rattle.mlk_text.proofs.Lexemes.{byte-is}
use Rattle.mlk_expr_tokens.specs.Lexemes.{point_len, signed_len, exponent_len, has_no_exponent, mantissa_len, numeral_at, count_len, count_at}
use Rattle.mlk_expr.specs.Spellings.{IsSign, IsExponent, IsNumber, IsCount}
use Rattle.mlk_text.proofs.Runs.{stops, parted, cut-reads, cut-spelled}
use Rattle.mlk_expr.proofs.Runs.{digits-length, digits-are, after_count, tame, tame-count, count-digits}

-- the length of a count whose first digits are these
count-length : (before rest : List ℕ) → are_digits before ≡ true → stops is_digit rest ≡ true
    → count_len (digits (before ++ rest)) (byte_at 46 (drop (digits (before ++ rest)) (before ++ rest))) ≡ count_len (length before) (byte_at 46 rest)
count-length before rest all stop = rw (digits-length before rest all stop) (rw (drop-append_seam before rest) refl)

-- no point is here
count-point : (ys : List ℕ) → after_count ys ≡ true → byte_at 46 ys ≡ None
count-point [] h = refl
count-point (b ∷ ys) h = let e : (b == 46) ≡ false = grind (arith, nat_tests) in rw e refl

-- the length of digits, a point and digits
pointed-length : (before after ys : List ℕ) → are_digits after ≡ true → stops is_digit ys ≡ true → length before + suc (digits (after ++ ys)) ≡ length (before ++ 46 ∷ after)
pointed-length before after ys all stop = let size = digits-length after ys all stop in let whole = length-append before (46 ∷ after) in omega arith

-- the length of a count with a point
count-pointed : (before after ys : List ℕ) → are_digits before ≡ true → are_digits after ≡ true → stops is_digit ys ≡ true
    → count_len (digits (before ++ 46 ∷ (after ++ ys))) (byte_at 46 (drop (digits (before ++ 46 ∷ (after ++ ys))) (before ++ 46 ∷ (after ++ ys)))) ≡ length (before ++ 46 ∷ after)
count-pointed before after ys first second stop = count-length before (46 ∷ (after ++ ys)) first refl ∙ pointed-length before after ys second stop

-- a count is read to its end
pub count-reads : (c ys : List ℕ) → IsCount c → after_count ys ≡ true → count_at (c ++ ys) ≡ Some (c, ys)
unfolding count_at
count-reads c ys (before, after, first, second, inl (is, some)) stop =
    let P : List ℕ → Type 0 = λ l. count_at (l ++ ys) ≡ Some (l, ys) in
    let size = count-length before ys first (count-digits ys stop) ∙ ap (count_len (length before)) (count-point ys stop) in
    subst P (sym is) (cut-reads _ before ys size some)
count-reads c ys (before, after, first, second, inr is) stop =
    let P : List ℕ → Type 0 = λ l. count_at (l ++ ys) ≡ Some (l, ys) in
    let text : List ℕ = before ++ 46 ∷ after in
    let whole : text ++ ys ≡ before ++ 46 ∷ (after ++ ys) = append_assoc before (46 ∷ after) ys in
    let size = ap (λ l. count_len (digits l) (byte_at 46 (drop (digits l) l))) whole ∙ count-pointed before after ys first second (count-digits ys stop) in
    let some : 0 < length text = let e = length-append before (46 ∷ after) in omega arith in
    subst P (sym is) (cut-reads _ text ys size some)

-- a count that is read is spelled there
pub count-spelled : (c xs ys : List ℕ) → count_at xs ≡ Some (c, ys) → IsCount c × (xs ≡ c ++ ys)
unfolding count_at
count-spelled c xs ys h = let (before, rest, is, first, stop) = digits-are xs in go before rest is first stop (byte_at 46 rest) refl
  where
    go : (before rest : List ℕ) → xs ≡ before ++ rest → are_digits before ≡ true → stops is_digit rest ≡ true → (o : Option (ℕ × List ℕ)) → byte_at 46 rest ≡ o → IsCount c × (xs ≡ c ++ ys)
    go before rest is first stop None none =
        let size = ap (λ l. count_len (digits l) (byte_at 46 (drop (digits l) l))) is ∙ count-length before rest first stop ∙ ap (count_len (length before)) none in
        let r = cut-spelled _ before rest c xs ys is size h in
        (subst IsCount r.0 (before, [], first, refl, inl (refl, r.2)), r.3)
    go before rest is first stop (Some point) here =
        let (after, more, text, second, end) = digits-are point.1 in
        let whole : xs ≡ before ++ 46 ∷ (after ++ more) = is ∙ ap (λ l. before ++ l) (byte-is 46 point.0 rest point.1 here ∙ ap (λ l. 46 ∷ l) text) in
        let size = ap (λ l. count_len (digits l) (byte_at 46 (drop (digits l) l))) whole ∙ count-pointed before after more first second end in
        let r = cut-spelled _ (before ++ 46 ∷ after) more c xs ys (whole ∙ sym (append_assoc before (46 ∷ after) more)) size h in
        (subst IsCount r.0 (before, after, first, second, inr refl), r.3)

-- the length of digits with a point, the first of them these
mantissa-length : (before rest : List ℕ) → are_digits before ≡ true → stops is_digit rest ≡ true → mantissa_len (before ++ rest) ≡ point_len (length before) rest
unfolding mantissa_len
mantissa-length before rest all stop = rw (digits-length before rest all stop) (rw (drop-append_seam before rest) refl)

-- without a point, the digits are all
point-none : (n : ℕ) (zs : List ℕ) → after_count zs ≡ true → point_len n zs ≡ n
point-none n [] h = refl
point-none n (b ∷ zs) h = let e : (b == 46) ≡ false = grind (arith, nat_tests) in rw e refl

-- digits, a point and digits, with at least one digit
point-some : (before after zs : List ℕ) → are_digits after ≡ true → stops is_digit zs ≡ true → 0 < length before + length after
    → point_len (length before) (46 ∷ (after ++ zs)) ≡ length (before ++ 46 ∷ after)
point-some before after zs all stop some =
    let size = digits-length after zs all stop in
    let none : ((length before == 0) && (digits (after ++ zs) == 0)) ≡ false = grind (arith, nat_tests) in
    rw none (pointed-length before after zs all stop)

-- the length of a literal without its exponent
numeral-length : (before after text zs : List ℕ) → IsNumeral before after text → after_count zs ≡ true → mantissa_len (text ++ zs) ≡ length text
numeral-length before after text zs h stop = elim h.spelled [
  | inl e ↦
      let P : List ℕ → Type 0 = λ l. mantissa_len (l ++ zs) ≡ length l in
      subst P (sym e.0) (mantissa-length before zs h.whole_part (count-digits zs stop) ∙ point-none (length before) zs stop)
  | inr e ↦
      let P : List ℕ → Type 0 = λ l. mantissa_len (l ++ zs) ≡ length l in
      subst P (sym e)
      (ap mantissa_len (append_assoc before (46 ∷ after) zs) ∙ mantissa-length before (46 ∷ (after ++ zs)) h.whole_part refl ∙ point-some before after zs h.fraction (count-digits zs stop) h.some_digit)
]

-- a numeric literal has a byte
numeral-some : (before after text : List ℕ) → IsNumeral before after text → 0 < length text
numeral-some before after text h = elim h.spelled [
  | inl e ↦ let some = h.some_digit in let first = ap length e.0 in let second = ap length e.1 in omega arith
  | inr e ↦ let size = ap length e in let whole = length-append before (46 ∷ after) in omega arith
]

-- a length that is not zero, and one more
some-suc : (n : ℕ) → 0 < n → (if n == 0 then 0 else suc n) ≡ suc n
some-suc n some = let other : (n == 0) ≡ false = grind (arith, nat_tests) in rw other refl

-- the length of an exponent's sign and digits
signed-length : (sign ds ys : List ℕ) → IsSign sign → are_digits ds ≡ true → 0 < length ds → stops is_digit ys ≡ true → signed_len ((sign ++ ds) ++ ys) ≡ length (sign ++ ds)
signed-length sign [] ys s all some stop = absurd (omega arith)
signed-length sign (d ∷ ds) ys (inl is) all some stop =
    let P : List ℕ → Type 0 = λ l. signed_len ((l ++ (d ∷ ds)) ++ ys) ≡ length (l ++ (d ∷ ds)) in
    let digit : is_digit d ≡ true = (and_parts (is_digit d) (are_digits ds) all).0 in
    let none : ((d == 43) || (d == 45)) ≡ false = grind (arith, nat_tests) in
    subst P (sym is) (rw none (digits-length (d ∷ ds) ys all stop))
signed-length sign (d ∷ ds) ys (inr s) all some stop = elim s [
  | inl is ↦ subst (λ l. signed_len ((l ++ (d ∷ ds)) ++ ys) ≡ length (l ++ (d ∷ ds))) (sym is) digit-length
  | inr is ↦ subst (λ l. signed_len ((l ++ (d ∷ ds)) ++ ys) ≡ length (l ++ (d ∷ ds))) (sym is) digit-length
]
  where
    digit-length : (if digits ((d ∷ ds) ++ ys) == 0 then 0 else suc (digits ((d ∷ ds) ++ ys))) ≡ suc (length (d ∷ ds))
    digit-length = let size = digits-length (d ∷ ds) ys all stop in rw size (some-suc (length (d ∷ ds)) some)

-- what follows the digits of a literal
exponent-length : (exponent ys : List ℕ) → IsExponent exponent → tame ys ≡ true
    → (exponent_len (exponent ++ ys) ≡ length exponent) × (has_no_exponent (exponent ++ ys) ≡ false) × (after_count (exponent ++ ys) ≡ true)
exponent-length exponent ys (inl is) t =
    let P : List ℕ → Type 0 = λ l. (exponent_len (l ++ ys) ≡ length l) × (has_no_exponent (l ++ ys) ≡ false) × (after_count (l ++ ys) ≡ true) in
    subst P (sym is) (none ys t)
  where
    none : (zs : List ℕ) → tame zs ≡ true → (exponent_len zs ≡ 0) × (has_no_exponent zs ≡ false) × (after_count zs ≡ true)
    none [] h = (refl, refl, refl)
    none (b ∷ zs) h = let e : (b == 69) ≡ false = grind (arith, nat_tests) in (rw e refl, rw e refl, tame-count (b ∷ zs) h)
exponent-length exponent ys (inr (sign, ds, is, s, all, some)) t =
    let P : List ℕ → Type 0 = λ l. (exponent_len (l ++ ys) ≡ length l) × (has_no_exponent (l ++ ys) ≡ false) × (after_count (l ++ ys) ≡ true) in
    let size = signed-length sign ds ys s all some (count-digits ys (tame-count ys t)) in
    let whole = length-append sign ds in
    let other : (length (sign ++ ds) == 0) ≡ false = grind (arith, nat_tests) in
    subst P (sym is) (rw size (rw other refl), rw size other, refl)

-- digits and an exponent of these lengths are read
numeral-reads : (mantissa exponent ys : List ℕ) → mantissa_len (mantissa ++ (exponent ++ ys)) ≡ length mantissa → 0 < length mantissa
    → exponent_len (exponent ++ ys) ≡ length exponent → has_no_exponent (exponent ++ ys) ≡ false → numeral_at (mantissa ++ (exponent ++ ys)) ≡ Some (mantissa ++ exponent, ys)
unfolding numeral_at
numeral-reads mantissa exponent ys size some more lack =
    let other : (length mantissa == 0) ≡ false = grind (arith, nat_tests) in
    let p = parted (length mantissa + length exponent) (mantissa ++ exponent) ys (mantissa ++ (exponent ++ ys)) (sym (append_assoc mantissa exponent ys)) (sym (length-append mantissa exponent)) in
    rw size (rw (drop-append_seam mantissa (exponent ++ ys)) (rw (other, lack) (rw more (rw (p.0, p.1) refl))))

-- a number is read to its end
pub number-reads : (text ys : List ℕ) → IsNumber text → tame ys ≡ true → numeral_at (text ++ ys) ≡ Some (text, ys)
number-reads text ys (before, after, mantissa, exponent, numeral, ending, is) t =
    let P : List ℕ → Type 0 = λ l. numeral_at (l ++ ys) ≡ Some (l, ys) in
    let e = exponent-length exponent ys ending t in
    let reads = numeral-reads mantissa exponent ys (numeral-length before after mantissa (exponent ++ ys) numeral e.2) (numeral-some before after mantissa numeral) e.0 e.1 in
    subst P (sym is) (ap numeral_at (append_assoc mantissa exponent ys) ∙ reads)

-- what is at the front if a literal's digits have a length
abbrev Mantissa : List ℕ → Type 0
Mantissa xs = (before after mantissa zs : List ℕ) × IsNumeral before after mantissa × (xs ≡ mantissa ++ zs) × (mantissa_len xs ≡ length mantissa)

-- it is there
mantissa-is : (xs : List ℕ) → (mantissa_len xs ≡ 0 → ⊥) → Mantissa xs
mantissa-is xs some = let (before, rest, is, all, stop) = digits-are xs in go before rest is all (ap mantissa_len is ∙ mantissa-length before rest all stop)
  where
    plain : (before rest : List ℕ) → xs ≡ before ++ rest → are_digits before ≡ true → mantissa_len xs ≡ length before → Mantissa xs
    plain before rest is all size = (
      before,
      [],
      before,
      rest,
      record {
        whole_part = all;
        fraction = refl;
        some_digit = omega arith;
        spelled = inl (refl, refl);
      },
      is,
      size,
    )

    point : (before after zs : List ℕ) → xs ≡ before ++ 46 ∷ (after ++ zs) → are_digits before ≡ true → are_digits after ≡ true → stops is_digit zs ≡ true
        → mantissa_len xs ≡ point_len (length before) (46 ∷ (after ++ zs)) → (t : Bool) → ((length before == 0) && (digits (after ++ zs) == 0)) ≡ t → Mantissa xs
    point before after zs is all second end size true e = absurd (some (size ∙ rw e refl))
    point before after zs is all second end size false e =
        let len = digits-length after zs second end in
        let digit : 0 < length before + length after = grind (arith, nat_tests) in (
          before,
          after,
          before ++ 46 ∷ after,
          zs,
          record {
            whole_part = all;
            fraction = second;
            some_digit = digit;
            spelled = inr refl;
          },
          is ∙ sym (append_assoc before (46 ∷ after) zs),
          size ∙ point-some before after zs second end digit,
        )

    go : (before rest : List ℕ) → xs ≡ before ++ rest → are_digits before ≡ true → mantissa_len xs ≡ point_len (length before) rest → Mantissa xs
    go before [] is all size = plain before [] is all size
    go before (b ∷ rest) is all size = elim (cases_Bool (b == 46)) [
      | inr e ↦ plain before (b ∷ rest) is all (size ∙ rw e refl)
      | inl e ↦
          let (after, zs, text, second, end) = digits-are rest in
          let follows : b ∷ rest ≡ 46 ∷ (after ++ zs) = ap (λ c. c ∷ rest) (eqb-true b 46 e) ∙ ap (λ l. 46 ∷ l) text in
          point before after zs (is ∙ ap (λ l. before ++ l) follows) all second end (size ∙ ap (point_len (length before)) follows) _ refl
    ]

-- what follows `E` if its sign and digits have a length
abbrev Signed : List ℕ → Type 0
Signed zs = (sign ds ys : List ℕ) × (zs ≡ (sign ++ ds) ++ ys) × IsSign sign × (are_digits ds ≡ true) × (0 < length ds) × (signed_len zs ≡ length (sign ++ ds))

-- it is there
signed-is : (zs : List ℕ) → (signed_len zs ≡ 0 → ⊥) → Signed zs
signed-is [] some = absurd (some refl)
signed-is (b ∷ zs) some = elim (cases_Bool ((b == 43) || (b == 45))) [
  | inr e ↦
      let (ds, ys, is, all, stop) = digits-are (b ∷ zs) in
      let size : signed_len (b ∷ zs) ≡ length ds = rw e (ap digits is ∙ digits-length ds ys all stop) in
      ([], ds, ys, is, inl refl, all, omega arith, size)
  | inl e ↦ let (ds, ys, is, all, stop) = digits-are zs in follows e ds ys is all (ap digits is ∙ digits-length ds ys all stop)
]
  where
    follows : ((b == 43) || (b == 45)) ≡ true → (ds ys : List ℕ) → zs ≡ ds ++ ys → are_digits ds ≡ true → digits zs ≡ length ds → Signed (b ∷ zs)
    follows e [] ys is all size = absurd (some (rw e (rw size refl)))
    follows e (d ∷ ds) ys is all size = (
      b ∷ [],
      d ∷ ds,
      ys,
      ap (λ l. b ∷ l) is,
      inr (elim (or_cases (b == 43) (b == 45) e) [
        | inl f ↦ inl (ap (λ c. c ∷ []) (eqb-true b 43 f))
        | inr f ↦ inr (ap (λ c. c ∷ []) (eqb-true b 45 f))
      ]),
      all,
      omega arith,
      rw e (rw size (some-suc (length (d ∷ ds)) (omega arith))),
    )

-- what follows a literal's digits, if no `E` is without its digits
exponent-is : (zs : List ℕ) → has_no_exponent zs ≡ false → (exponent ys : List ℕ) × (zs ≡ exponent ++ ys) × IsExponent exponent × (exponent_len zs ≡ length exponent)
exponent-is [] h = ([], [], refl, inl refl, refl)
exponent-is (b ∷ zs) h = elim (cases_Bool (b == 69)) [
  | inr e ↦ ([], b ∷ zs, refl, inl refl, rw e refl)
  | inl e ↦
      let other : (signed_len zs == 0) ≡ false = rw e at h in
      let one-more : exponent_len (b ∷ zs) ≡ suc (signed_len zs) = rw (e, other) refl in
      let (sign, ds, ys, is, s, all, some, size) = signed-is zs (eqb-false (signed_len zs) 0 other) in
      (b ∷ (sign ++ ds), ys, ap (λ l. b ∷ l) is, inr (sign, ds, ap (λ c. c ∷ (sign ++ ds)) (eqb-true b 69 e), s, all, some), one-more ∙ ap suc size)
]

-- a number that is read is spelled there
pub number-spelled : (text xs ys : List ℕ) → numeral_at xs ≡ Some (text, ys) → IsNumber text × (xs ≡ text ++ ys)
unfolding numeral_at
number-spelled text xs ys h = elim (cases_Bool (mantissa_len xs == 0)) [
  | inl e ↦ cc (rw e at h)
  | inr e ↦ elim (cases_Bool (has_no_exponent (drop (mantissa_len xs) xs))) [
    | inl f ↦ cc (rw (e, f) at h)
    | inr f ↦
        let (before, after, mantissa, zs, numeral, is, size) = mantissa-is xs (eqb-false (mantissa_len xs) 0 e) in
        let follows : drop (mantissa_len xs) xs ≡ zs = (parted (mantissa_len xs) mantissa zs xs is size).1 in
        let (exponent, us, more, ending, len) = exponent-is zs (ap has_no_exponent (sym follows) ∙ f) in
        let whole : xs ≡ (mantissa ++ exponent) ++ us = is ∙ ap (λ l. mantissa ++ l) more ∙ sym (append_assoc mantissa exponent us) in
        let length-is : exponent_len (drop (mantissa_len xs) xs) ≡ length exponent = ap exponent_len follows ∙ len in
        let both = length-append mantissa exponent in
        let all : mantissa_len xs + exponent_len (drop (mantissa_len xs) xs) ≡ length (mantissa ++ exponent) = omega arith in
        let some = numeral-some before after mantissa numeral in
        let other : ((mantissa_len xs + exponent_len (drop (mantissa_len xs) xs)) == 0) ≡ false = grind (arith, nat_tests) in
        let r = cut-spelled _ (mantissa ++ exponent) us text xs ys whole all (rw other (rw (e, f) at h)) in
        (subst IsNumber r.0 (before, after, mantissa, exponent, numeral, ending, refl), r.3)
  ]
]
