-- Laws of the lexemes: what is after them, and what they begin with.
use Rattle.std.proofs.Common.{Bool, ◌≡◌, ◌<◌, ◌+◌, ℕ, ◌++◌, List, [], ◌∷◌, length, take, drop, Some, None, true, false, refl, sym, ap, ◌∙◌, arith, subst, inl, inr, length-drop, take-append-drop}
use Rattle.std.specs.Prelude.{Option, ◌==◌, ◌||◌, ◌⊎◌, if◌then◌else◌, codes}
use Rattle.std.proofs.lemmas.Bool.{cases_Bool, eqb-true, eqb-false, or_cases, or_right}
use Rattle.std.proofs.lemmas.Bool.Decides.{nat_tests}
use Rattle.std.proofs.lemmas.Slice.Eq.{bytes_eq-Decides}
use Rattle.std.specs.Str.{str_to_ascii_lowercase, str_eq_ignore_ascii_case}
use Rattle.mlk_text.specs.declared.operator.Op.TheVariants as op
use Rattle.mlk_text.specs.declared.operator.Relation.{Relation}
use Rattle.mlk_text.specs.declared.operator.Relation.TheVariants as relation
use Rattle.mlk_text.specs.declared.operator.UnaryOp.{UnaryOp}
use Rattle.mlk_text.specs.Reading.{with}
use Rattle.mlk_text.specs.Lexemes.{is_digit, is_letter, digits, byte_at, name_at, digits_at, label_at, letters, or_else, word_at}
use Rattle.mlk_text.proofs.Lexemes.{byte-is, name-after, digits-after}
use Rattle.mlk_text.proofs.Readers.{pair_parts, with_some, After, after-one, after_then, Takes}
use Rattle.mlk_syntax.specs.declared.expr.Function.{Function}
use Rattle.mlk_expr_tokens.specs.declared.lexeme.Kind.{Kind}
use Rattle.mlk_expr_tokens.specs.declared.lexeme.Kind.TheVariants as kind
use Rattle.mlk_expr_tokens.specs.Words.{special_of, special_to_principal, special_from_quit, function_of, function_to_fnumber, function_to_piece, function_from_qlength, is_select, is_either}
use Rattle.mlk_expr_tokens.specs.Lexemes.{one_byte, twice_or, relation_of, relation_at, arithmetic_of, arithmetic_at, op_by, op_at, unary_of, kind_by, kind_of, mantissa_len, exponent_len, has_no_exponent, numeral_at, count_len, count_at, pattern_codes, pattern_codes_at, lent_by, lent_at, starts_reference}

-- one byte and what is after it
abbrev Shorter : List ℕ → List ℕ → Type 0
Shorter ys xs = After ys xs × (length ys < length xs)

one-shorter : {A : Type 0} (o : Option A) (a : A) (b : ℕ) (xs ys : List ℕ) → one_byte o xs ≡ Some (a, ys) → Shorter ys (b ∷ xs)
one-shorter None a b xs ys h = cc h
one-shorter (Some o) a b xs ys h = let p = pair_parts o a xs ys h in subst (λ l. Shorter l (b ∷ xs)) p.1 (after-one b xs, omega arith)

twice-shorter : {A : Type 0} (two one a : A) (b c : ℕ) (xs ys : List ℕ) (o : Option (ℕ × List ℕ)) → byte_at c xs ≡ o → twice_or two o (Some (one, xs)) ≡ Some (a, ys) → Shorter ys (b ∷ xs)
twice-shorter two one a b c xs ys None is h = let p = pair_parts one a xs ys h in subst (λ l. Shorter l (b ∷ xs)) p.1 (after-one b xs, omega arith)
twice-shorter two one a b c xs ys (Some second) is h =
    let p = pair_parts two a second.1 ys h in
    let text = byte-is c second.0 xs second.1 is in
    let size = ap length text in
    subst (λ l. Shorter l (b ∷ xs)) p.1 ((b ∷ c ∷ [], ap (λ l. b ∷ l) (sym text)), omega arith)

relation-takes : Takes relation_at
unfolding relation_at
relation-takes a [] ys h = cc h
relation-takes a (b ∷ xs) ys h = elim (cases_Bool (b == 93)) [
  | inl e ↦ twice-shorter relation.SortsAfter relation.Follows a b 93 xs ys (byte_at 93 xs) refl (rw e at h)
  | inr e ↦ one-shorter (relation_of b) a b xs ys (rw e at h)
]

arithmetic-takes : Takes arithmetic_at
unfolding arithmetic_at
arithmetic-takes a [] ys h = cc h
arithmetic-takes a (b ∷ xs) ys h = elim (cases_Bool (b == 42)) [
  | inl e ↦ twice-shorter op.Power op.Multiply a b 42 xs ys (byte_at 42 xs) refl (rw e at h)
  | inr e ↦ one-shorter (arithmetic_of b) a b xs ys (rw e at h)
]

pub op-takes : Takes op_at
unfolding op_at
op-takes o xs ys h = go (byte_at 39 xs) refl h
  where
    plain : (r : Option (Relation × List ℕ)) → relation_at xs ≡ r → or_else (with op.Is r) (arithmetic_at xs) ≡ Some (o, ys) → Shorter ys xs
    plain None is h = arithmetic-takes o xs ys h
    plain (Some r) is h = let p = pair_parts (op.Is r.0) o r.1 ys h in relation-takes r.0 xs ys (is ∙ ap (λ l. Some (r.0, l)) p.1)

    go : (q : Option (ℕ × List ℕ)) → byte_at 39 xs ≡ q → op_by xs q ≡ Some (o, ys) → Shorter ys xs
    go None is h = plain (relation_at xs) refl h
    go (Some quote) is h =
        let w = with_some op.IsNot (relation_at quote.1) o ys h in
        let r = relation-takes w.0 quote.1 ys w.1 in
        let text = byte-is 39 quote.0 xs quote.1 is in
        let size = ap length text in
        (subst (λ l. After ys l) (sym text) (after_then (39 ∷ quote.1) quote.1 ys (after-one 39 quote.1) r.0), let less = r.1 in omega arith)

-- `m` bytes and what is after them
unless : (b : Bool) (m : ℕ) (text xs ys : List ℕ) → if◌then◌else◌ {A = Option (List ℕ × List ℕ)} b None (Some (take m xs, drop m xs)) ≡ Some (text, ys)
    → (text ≡ take m xs) × (ys ≡ drop m xs)
unless true m text xs ys h = cc h
unless false m text xs ys h = let p = pair_parts (take m xs) text (drop m xs) ys h in (sym p.0, sym p.1)

cut : (n m : ℕ) (text xs ys : List ℕ) → if◌then◌else◌ {A = Option (List ℕ × List ℕ)} (n == 0) None (Some (take m xs, drop m xs)) ≡ Some (text, ys)
    → (n ≡ 0 → ⊥) × (text ≡ take m xs) × (ys ≡ drop m xs)
cut n m text xs ys h = elim (cases_Bool (n == 0)) [
  | inl e ↦ cc (rw e at h)
  | inr e ↦ let p = pair_parts (take m xs) text (drop m xs) ys (rw e at h) in (eqb-false n 0 e, sym p.0, sym p.1)
]

taken-after : (m : ℕ) (xs ys : List ℕ) → ys ≡ drop m xs → After ys xs
taken-after m xs ys h = (take m xs, ap (λ l. take m xs ++ l) h ∙ take-append-drop m xs)

pub numeral-after : (text xs ys : List ℕ) → numeral_at xs ≡ Some (text, ys) → After ys xs
unfolding numeral_at
numeral-after text xs ys h =
    let m : ℕ = mantissa_len xs + exponent_len (drop (mantissa_len xs) xs) in
    taken-after m xs ys (unless ((mantissa_len xs == 0) || has_no_exponent (drop (mantissa_len xs) xs)) m text xs ys h).1

pub codes-after : (text xs ys : List ℕ) → pattern_codes_at xs ≡ Some (text, ys) → After ys xs
unfolding pattern_codes_at
codes-after text xs ys h = taken-after (pattern_codes xs) xs ys (cut (pattern_codes xs) (pattern_codes xs) text xs ys h).2

pub count-takes : Takes count_at
unfolding count_at
count-takes text [] ys h = cc h
count-takes text (b ∷ xs) ys h =
    let n : ℕ = count_len (digits (b ∷ xs)) (byte_at 46 (drop (digits (b ∷ xs)) (b ∷ xs))) in
    let r = cut n n text (b ∷ xs) ys h in
    let size = length-drop n (b ∷ xs) in
    let same = ap length r.2 in
    let some = r.0 in
    (taken-after n (b ∷ xs) ys r.2, omega arith)

pub label-after : (text xs ys : List ℕ) → label_at xs ≡ Some (text, ys) → After ys xs
unfolding label_at
label-after text xs ys h = go (name_at xs) refl h
  where
    go : (o : Option (List ℕ × List ℕ)) → name_at xs ≡ o → or_else o (digits_at xs) ≡ Some (text, ys) → After ys xs
    go None is h = digits-after text xs ys h
    go (Some n) is h = name-after text xs ys (is ∙ h)

pub lent-after : (name xs ys : List ℕ) → lent_at xs ≡ Some (name, ys) → After ys xs
unfolding lent_at
lent-after name xs ys h = go (byte_at 46 xs) refl h
  where
    go : (o : Option (ℕ × List ℕ)) → byte_at 46 xs ≡ o → lent_by o ≡ Some (name, ys) → After ys xs
    go None is h = cc h
    go (Some p) is h = subst (λ l. After ys l) (sym (byte-is 46 p.0 xs p.1 is)) (after_then (46 ∷ p.1) p.1 ys (after-one 46 p.1) (name-after name p.1 ys h))

pub word-after : (w xs ys : List ℕ) → word_at xs ≡ (w, ys) → After ys xs
word-after w xs ys h = taken-after (letters xs) xs ys (sym (ap (λ p. p.1) h))

-- the first byte of an operand
pub kind-open : kind_of 40 ≡ kind.Open
unfolding kind_of unary_of
kind-open = refl

pub kind-quote : kind_of 34 ≡ kind.Quote
unfolding kind_of unary_of
kind-quote = refl

pub kind-caret : kind_of 94 ≡ kind.Caret
unfolding kind_of unary_of
kind-caret = refl

pub kind-dollar : kind_of 36 ≡ kind.Dollar
unfolding kind_of unary_of
kind-dollar = refl

-- what is begun by a byte that begins no number and no name
other-kind : (b : ℕ) (k : Kind) → kind_of b ≡ k → (k ≡ kind.Numeral → ⊥) → (k ≡ kind.Letter → ⊥) → kind_by b (unary_of b) ≡ k
unfolding kind_of
other-kind b k h number letter = elim (cases_Bool (is_digit b || (b == 46))) [
  | inl e ↦ absurd (number (sym h ∙ rw e refl))
  | inr e ↦ elim (cases_Bool (is_letter b || (b == 37))) [
    | inl f ↦ absurd (letter (sym h ∙ rw (e, f) refl))
    | inr f ↦ rw (e, f) at h
  ]
]

pub prefix-is : (b : ℕ) (o : UnaryOp) → kind_of b ≡ kind.Prefix o → unary_of b ≡ Some o
prefix-is b o h = go (unary_of b) refl (other-kind b (kind.Prefix o) h (λ e. cc e) (λ e. cc e))
  where
    go : (u : Option UnaryOp) → unary_of b ≡ u → kind_by b u ≡ kind.Prefix o → u ≡ Some o
    go (Some p) is h = cc h
    go None is h = elim (cases_Bool (b == 34)) [
      | inl e ↦ cc (rw e at h)
      | inr e ↦ elim (cases_Bool (b == 94)) [
        | inl f ↦ cc (rw (e, f) at h)
        | inr f ↦ elim (cases_Bool (b == 36)) [
          | inl g ↦ cc (rw (e, f, g) at h)
          | inr g ↦ elim (cases_Bool (b == 40)) [ inl i ↦ cc (rw (e, f, g, i) at h) | inr i ↦ cc (rw (e, f, g, i) at h) ]
        ]
      ]
    ]

pub is-open : (b : ℕ) → kind_of b ≡ kind.Open → b ≡ 40
unfolding kind_of unary_of
is-open b h = grind (arith, nat_tests)

pub is-quote : (b : ℕ) → kind_of b ≡ kind.Quote → b ≡ 34
unfolding kind_of unary_of
is-quote b h = grind (arith, nat_tests)

pub is-caret : (b : ℕ) → kind_of b ≡ kind.Caret → b ≡ 94
unfolding kind_of unary_of
is-caret b h = grind (arith, nat_tests)

pub is-dollar : (b : ℕ) → kind_of b ≡ kind.Dollar → b ≡ 36
unfolding kind_of unary_of
is-dollar b h = grind (arith, nat_tests)

pub prefix-from : (b : ℕ) (o : UnaryOp) → unary_of b ≡ Some o → kind_of b ≡ kind.Prefix o
unfolding kind_of unary_of
prefix-from b o h = elim (cases_Bool (b == 43)) [
  | inl e ↦ let is : b ≡ 43 = eqb-true b 43 e in subst (λ c. unary_of c ≡ Some o → kind_of c ≡ kind.Prefix o) (sym is) (λ g. cc g) h
  | inr e ↦ elim (cases_Bool (b == 45)) [
    | inl f ↦ let is : b ≡ 45 = eqb-true b 45 f in subst (λ c. unary_of c ≡ Some o → kind_of c ≡ kind.Prefix o) (sym is) (λ g. cc g) h
    | inr f ↦ elim (cases_Bool (b == 39)) [
      | inl g ↦ let is : b ≡ 39 = eqb-true b 39 g in subst (λ c. unary_of c ≡ Some o → kind_of c ≡ kind.Prefix o) (sym is) (λ i. cc i) h
      | inr g ↦ cc (rw (e, f, g) at h)
    ]
  ]
]

pub name-first : (name xs ys : List ℕ) → name_at xs ≡ Some (name, ys) → (b : ℕ) × (m : List ℕ) × (xs ≡ b ∷ m) × (kind_of b ≡ kind.Letter)
unfolding name_at kind_of
name-first name [] ys h = cc h
name-first name (b ∷ xs) ys h = elim (cases_Bool (is_letter b || (b == 37))) [
  | inr e ↦ cc (rw e at h)
  | inl e ↦
      let other : (is_digit b || (b == 46)) ≡ false = grind (arith, nat_tests) in
      (b, xs, refl, rw (other, e) refl)
]

pub numeral-first : (text xs ys : List ℕ) → numeral_at xs ≡ Some (text, ys) → (b : ℕ) × (m : List ℕ) × (xs ≡ b ∷ m) × (kind_of b ≡ kind.Numeral)
unfolding numeral_at mantissa_len kind_of
numeral-first text [] ys h = cc h
numeral-first text (b ∷ xs) ys h = elim (cases_Bool (is_digit b)) [
  | inl e ↦ (b, xs, refl, rw e refl)
  | inr e ↦ elim (cases_Bool (b == 46)) [
    | inl f ↦ (b, xs, refl, rw (e, f) refl)
    | inr f ↦ cc (rw (e, f) at h)
  ]
]

-- a reference begins with the first byte of a name or with a caret
pub reference-first : (b : ℕ) (xs : List ℕ) → starts_reference (b ∷ xs) ≡ true → (kind_of b ≡ kind.Letter) ⊎ (b ≡ 94)
unfolding kind_of
reference-first b xs h = elim (or_cases (is_letter b || (b == 37)) (b == 94) h) [
  | inl e ↦ let other : (is_digit b || (b == 46)) ≡ false = grind (arith, nat_tests) in inl (rw (other, e) refl)
  | inr e ↦ inr (eqb-true b 94 e)
]

-- no label begins with a caret
pub label-caret : (label xs ys : List ℕ) → label_at xs ≡ Some (label, ys) → byte_at 94 xs ≡ None
unfolding label_at name_at digits_at
label-caret label [] ys h = refl
label-caret label (b ∷ xs) ys h = elim (cases_Bool (b == 94)) [
  | inl e ↦ let is : b ≡ 94 = eqb-true b 94 e in cc (subst (λ c. label_at (c ∷ xs) ≡ Some (label, ys)) is h)
  | inr e ↦ rw e refl
]

-- a word that is not empty follows `$`, or a second `$` does
pub word-none : (m w ys : List ℕ) → word_at m ≡ (w, ys) → (w ≡ [] → ⊥) → byte_at 36 m ≡ None
word-none [] w ys h some = refl
word-none (b ∷ m) w ys h some = elim (cases_Bool (b == 36)) [
  | inl e ↦
      let is : b ≡ 36 = eqb-true b 36 e in
      absurd (some (subst (λ c. (word_at (c ∷ m)).0 ≡ w → w ≡ []) (sym is) (λ g. sym g) (ap (λ p. p.0) h)))
  | inr e ↦ rw e refl
]

pub no-special : special_of [] ≡ None
unfolding special_of special_to_principal special_from_quit
no-special = refl

pub no-function : function_of [] ≡ None
unfolding function_of function_to_fnumber function_to_piece function_from_qlength
no-function = refl

pub no-select : is_select [] ≡ false
unfolding is_select
no-select = refl

-- the word of a function is not that of `$SELECT`
select-no-function : (w : List ℕ) → is_select w ≡ true → function_of w ≡ None
unfolding is_select function_of function_to_fnumber function_to_piece function_from_qlength
select-no-function w h = elim (or_cases (is_either (codes "S") (codes "S") w) (is_either (codes "SELECT") (codes "SELECT") w) (either h)) [
  | inl e ↦ let same : str_to_ascii_lowercase w ≡ str_to_ascii_lowercase (codes "S") = one (codes "S") e in rw same refl
  | inr e ↦ let same : str_to_ascii_lowercase w ≡ str_to_ascii_lowercase (codes "SELECT") = one (codes "SELECT") e in rw same refl
]
  where
    one : (t : List ℕ) → is_either t t w ≡ true → str_to_ascii_lowercase w ≡ str_to_ascii_lowercase t
    one t e = elim (or_cases (str_eq_ignore_ascii_case w t) (str_eq_ignore_ascii_case w t) e) [
      | inl f ↦ (bytes_eq-Decides (str_to_ascii_lowercase w) (str_to_ascii_lowercase t)).0 f
      | inr f ↦ (bytes_eq-Decides (str_to_ascii_lowercase w) (str_to_ascii_lowercase t)).0 f
    ]

    either : (str_eq_ignore_ascii_case w (codes "S") || str_eq_ignore_ascii_case w (codes "SELECT")) ≡ true
        → (is_either (codes "S") (codes "S") w || is_either (codes "SELECT") (codes "SELECT") w) ≡ true
    either e = elim (or_cases (str_eq_ignore_ascii_case w (codes "S")) (str_eq_ignore_ascii_case w (codes "SELECT")) e) [
      | inl f ↦ rw f refl
      | inr f ↦ or_right (is_either (codes "S") (codes "S") w) (is_either (codes "SELECT") (codes "SELECT") w) (rw f refl)
    ]

pub function-no-select : (w : List ℕ) (f : Function) → function_of w ≡ Some f → is_select w ≡ false
function-no-select w f h = elim (cases_Bool (is_select w)) [
  | inr e ↦ e
  | inl e ↦ cc (sym (select-no-function w e) ∙ h)
]
