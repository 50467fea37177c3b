-- Lines end in the plain text where they end in the routine: no word that is replaced holds the end of a line, nor what replaces it.
use Rattle.std.proofs.Common.{◌≡◌, ◌≤◌, ◌+◌, ◌-◌, ◌++◌, ℕ, zero, suc, List, [], ◌∷◌, length, map, take, drop, Bool, true, false, not, refl, sym, ◌∙◌, subst, arith, inl, inr, append_assoc, ◌==◌}
use Rattle.std.specs.Prelude.{nat_eq, ◌&&◌, replicate, codes}
use Rattle.std.specs.List.{list_all, prefix_len}
use Rattle.std.specs.Char.{to_ascii_lowercase}
use Rattle.std.specs.Str.{str_to_ascii_lowercase, str_eq_ignore_ascii_case}
use Rattle.std.proofs.lemmas.Bool.{cases_Bool, eqb-true, eqb-false}
use Rattle.std.proofs.lemmas.List.{length-append, length-replicate, length-map, length-take-le, take-append-drop}
use Rattle.std.proofs.lemmas.List.Sums.{prefix_len-le-length}
use lib.Pointwise.{pointwise_long}
use Rattle.std.proofs.lemmas.List.Folds.{list_all-append}
use Rattle.mlk_text.specs.Lexemes.{is_letter, letters}
use Rattle.mlk_dialect.specs.declared.plain.Place.{Place}
use Rattle.mlk_dialect.specs.declared.plain.Place.TheVariants as place
use Rattle.mlk_dialect.specs.declared.word.Word.TheVariants as word
use Rattle.mlk_dialect.specs.Tables.{is_variable, is_function, is_zdata, is_text_name}
use Rattle.mlk_dialect.specs.Words.{any_value, any_function, form_of, may_begin, may_end, is_line_byte, line_bytes, text_end, text_call, named_word, dollar_word, sign_by, sign_word, word_at}
use Rattle.mlk_dialect.specs.Plain.{ends_line, behind_code, behind, word_in, form_in, own_byte, first_or, place_by, plain_from, plain}

-- a byte that ends no line
abbrev inside : ℕ → Bool
inside b = not (ends_line b)

-- Neither the bytes of a form nor those that it replaces end a line.
abbrev pub Fits : List ℕ → List ℕ → Type 0
Fits [] xs = Unit {0}
Fits (f ∷ form) [] = Unit {0}
Fits (f ∷ form) (b ∷ xs) = (ends_line f ≡ false) × ((ends_line b ≡ false) × Fits form xs)

ended : (b : ℕ) → inside b ≡ true → ends_line b ≡ false
ended b h = elim (cases_Bool (ends_line b)) [ inl e ↦ cc (rw e at h) | inr e ↦ e ]

both : (b c : Bool) → (b && c) ≡ true → (b ≡ true) × (c ≡ true)
both true c h = (refl, h)
both false c h = cc

-- a form in front of what it replaces
fits : (form bytes rest : List ℕ) → length form ≤ length bytes → list_all inside form ≡ true → list_all inside bytes ≡ true → Fits form (bytes ++ rest)
fits [] bytes rest long f b = tt
fits (x ∷ form) [] rest long f b = absurd (omega arith)
fits (x ∷ form) (y ∷ bytes) rest long f b =
    let p = both (inside x) (list_all inside form) f in
    let q = both (inside y) (list_all inside bytes) b in
    (ended x p.0, (ended y q.0, fits form bytes rest (omega arith) p.1 q.1))

-- What neither LF nor CR is ends no line.
passes_inside : (p : ℕ → Bool) (b : ℕ) → p 10 ≡ false → p 13 ≡ false → p b ≡ true → inside b ≡ true
passes_inside p b lf cr h = elim (cases_Bool (b == 10)) [
  | inl e ↦ let same : b ≡ 10 = eqb-true b 10 e in let bad = rw same at h in cc
  | inr e ↦ elim (cases_Bool (b == 13)) [
    | inl d ↦ let same : b ≡ 13 = eqb-true b 13 d in let bad = rw same at h in cc
    | inr d ↦ rw (e, d) refl
  ]
]

all_inside : (p : ℕ → Bool) (xs : List ℕ) → p 10 ≡ false → p 13 ≡ false → list_all p xs ≡ true → list_all inside xs ≡ true
all_inside p [] lf cr h = refl
all_inside p (x ∷ xs) lf cr h =
    let q = both (p x) (list_all p xs) h in
    rw (passes_inside p x lf cr q.0) (all_inside p xs lf cr q.1)

prefix_passes : (p : ℕ → Bool) (xs : List ℕ) → list_all p (take (prefix_len p xs) xs) ≡ true
prefix_passes p [] = refl
prefix_passes p (x ∷ xs) = elim (cases_Bool (p x)) [
  | inl e ↦
      let one : suc (prefix_len p xs) ≡ 1 + prefix_len p xs = omega arith in
      let here : list_all p (take (suc (prefix_len p xs)) (x ∷ xs)) ≡ true = rw e (prefix_passes p xs) in
      rw e (subst (λ (n : ℕ). list_all p (take n (x ∷ xs)) ≡ true) one here)
  | inr e ↦ rw e refl
]

same_inside : (n b : ℕ) → inside b ≡ true → list_all inside (replicate n b) ≡ true
same_inside zero b h = refl
same_inside (suc n) b h = rw h (same_inside n b h)

both_inside : (xs ys : List ℕ) → list_all inside xs ≡ true → list_all inside ys ≡ true → list_all inside (xs ++ ys) ≡ true
both_inside xs ys a b = list_all-append inside xs ys ∙ rw (a, b) refl

-- The forms of words with `$`, by the bytes that they replace.
value_fits : (n : ℕ) (name rest : List ℕ) → length name ≡ suc n → list_all inside name ≡ true → Fits (form_of (word.Value (suc (length name)))) (36 ∷ (name ++ rest))
value_fits n name rest long h = fits (any_value (suc (length name) - 2)) (36 ∷ name) rest (omega (arith, length-replicate {A = ℕ} (suc (length name) - 2) 48)) (same_inside (suc (length name) - 2) 48 refl) h

function_inside : (len : ℕ) → list_all inside (any_function len) ≡ true
function_inside len = elim (cases_Bool (len == 3)) [
  | inl e ↦ rw e refl
  | inr e ↦ elim (cases_Bool (len == 4)) [
    | inl d ↦ rw (e, d) refl
    | inr d ↦ rw (e, d) (both_inside (replicate (len - 4) 49) (codes ",") (same_inside (len - 4) 49 refl) refl)
  ]
]

function_long : (len : ℕ) → 3 ≤ len → length (any_function len) ≤ len
function_long len long = elim (cases_Bool (len == 3)) [
  | inl e ↦ let same : len ≡ 3 = eqb-true len 3 e in rw e (omega arith)
  | inr e ↦ elim (cases_Bool (len == 4)) [
    | inl d ↦ let same : len ≡ 4 = eqb-true len 4 d in rw (e, d) (omega arith)
    | inr d ↦ rw (e, d) (omega (arith, eqb-false len 3 e, eqb-false len 4 d, length-append (replicate (len - 4) 49) (codes ","), length-replicate {A = ℕ} (len - 4) 49))
  ]
]

line_fits : (n line : ℕ) (name text rest : List ℕ) → length name ≡ suc n → length text ≡ line → list_all inside name ≡ true → list_all inside text ≡ true
    → Fits (form_of (word.Line (length name) (suc line))) (36 ∷ (name ++ (40 ∷ (text ++ (41 ∷ rest)))))
line_fits n line name text rest long long_text a b =
    let form = any_value (length name) ++ replicate (suc line) 48 in
    let bytes = 36 ∷ (name ++ (40 ∷ (text ++ (41 ∷ [])))) in
    let within : length form ≤ length bytes
    = omega (arith, length-append (any_value (length name)) (replicate (suc line) 48), length-replicate {A = ℕ} (length name) 48, length-replicate {A = ℕ} (suc line) 48, length-append name (40 ∷ (text ++ (41 ∷ []))), length-append text (41 ∷ [])) in
    let zeros : list_all inside form ≡ true = both_inside (any_value (length name)) (replicate (suc line) 48) (same_inside (length name) 48 refl) (same_inside (suc line) 48 refl) in
    let ends : list_all inside bytes ≡ true = both_inside name (40 ∷ (text ++ (41 ∷ []))) a (both_inside text (41 ∷ []) b refl) in
    let all : bytes ++ rest ≡ 36 ∷ (name ++ (40 ∷ (text ++ (41 ∷ rest)))) = simp append_assoc in
    subst (λ (xs : List ℕ). Fits form xs) all (fits form bytes rest within zeros ends)

function_fits : (n : ℕ) (name rest : List ℕ) → length name ≡ suc n → list_all inside name ≡ true → Fits (form_of (word.Function (suc (suc (length name))))) (36 ∷ (name ++ (40 ∷ rest)))
function_fits n name rest long h =
    let bytes = 36 ∷ (name ++ (40 ∷ [])) in
    let within : length (any_function (suc (suc (length name)))) ≤ length bytes = omega (arith, function_long (suc (suc (length name))) (omega arith), length-append name (40 ∷ [])) in
    let all : bytes ++ rest ≡ 36 ∷ (name ++ (40 ∷ rest)) = simp append_assoc in
    subst (λ (xs : List ℕ). Fits (any_function (suc (suc (length name)))) xs) all (fits (any_function (suc (suc (length name)))) bytes rest within (function_inside (suc (suc (length name)))) (both_inside name (40 ∷ []) h refl))

same_long : (xs ys : List ℕ) → str_eq_ignore_ascii_case xs ys ≡ true → length xs ≡ length ys
same_long xs ys h = sym (length-map xs to_ascii_lowercase) ∙ pointwise_long nat_eq (str_to_ascii_lowercase xs) (str_to_ascii_lowercase ys) h ∙ length-map ys to_ascii_lowercase

data_fits : (name rest : List ℕ) → is_zdata name ≡ true → list_all inside name ≡ true → Fits (form_of word.Data) (36 ∷ (name ++ (40 ∷ rest)))
data_fits name rest is h =
    let one : str_eq_ignore_ascii_case name (codes "ZDATA") ≡ true = elim (cases_Bool (str_eq_ignore_ascii_case name (codes "ZDATA"))) [ inl e ↦ e | inr e ↦ cc (rw e at is) ] in
    let long : length name ≡ 5 = same_long name (codes "ZDATA") one in
    let bytes = 36 ∷ (name ++ (40 ∷ [])) in
    let all : bytes ++ rest ≡ 36 ∷ (name ++ (40 ∷ rest)) = simp append_assoc in
    subst (λ (xs : List ℕ). Fits (codes "++++$D(") xs) all (fits (codes "++++$D(") bytes rest (omega (arith, length-append name (40 ∷ []))) refl (both_inside name (40 ∷ []) h refl))

-- a name that is on a list has a byte
named : (is : List ℕ → Bool) (name : List ℕ) → is [] ≡ false → is name ≡ true → length name ≡ suc (length name - 1)
named is [] none h = cc
named is (b ∷ name) none h = omega arith

variable_fits : (name rest : List ℕ) → is_variable name ≡ true → list_all is_letter name ≡ true → Fits (form_of (word.Value (suc (length name)))) (36 ∷ (name ++ rest))
variable_fits name rest is h = value_fits (length name - 1) name rest (named is_variable name refl is) (all_inside is_letter name refl refl h)

-- `$TEXT` of a line, behind its parenthesis
text_fits : (name line rest : List ℕ) → is_text_name name ≡ true → list_all is_letter name ≡ true → list_all is_line_byte line ≡ true
    → Fits (form_in (text_end (length name) (length line) rest)) (36 ∷ (name ++ (40 ∷ (line ++ rest))))
text_fits name line [] is h l = tt
text_fits name line (b ∷ rest) is h l = elim (cases_Bool (b == 41)) [
  | inl e ↦ let same : b ≡ 41 = eqb-true b 41 e in elim (cases_Bool (may_end rest)) [
    | inl d ↦ rw (same, d) (line_fits (length name - 1) (length line) name line rest (named is_text_name name refl is) refl (all_inside is_letter name refl refl h) (all_inside is_line_byte line refl refl l))
    | inr d ↦ rw (same, d) tt
  ]
  | inr e ↦ rw e tt
]

text_call_fits : (name rest : List ℕ) → is_text_name name ≡ true → list_all is_letter name ≡ true → Fits (form_in (text_call (length name) rest)) (36 ∷ (name ++ (40 ∷ rest)))
text_call_fits name rest is h =
    let line = take (line_bytes rest) rest in
    let long : length line ≡ line_bytes rest = length-take-le (line_bytes rest) rest (prefix_len-le-length is_line_byte rest) in
    let whole : line ++ drop (line_bytes rest) rest ≡ rest = take-append-drop (line_bytes rest) rest in
    let there = text_fits name line (drop (line_bytes rest) rest) is h (prefix_passes is_line_byte rest) in
    subst (λ (n : ℕ). Fits (form_in (text_end (length name) n (drop (line_bytes rest) rest))) (36 ∷ (name ++ (40 ∷ rest)))) long
    (subst (λ (xs : List ℕ). Fits (form_in (text_end (length name) (length line) (drop (line_bytes rest) rest))) (36 ∷ (name ++ (40 ∷ xs)))) whole there)

call_fits : (name rest : List ℕ) → list_all is_letter name ≡ true → Fits (form_in (named_word name (40 ∷ rest))) (36 ∷ (name ++ (40 ∷ rest)))
call_fits name rest h = elim (cases_Bool (is_text_name name)) [
  | inl a ↦ rw a (text_call_fits name rest a h)
  | inr a ↦ elim (cases_Bool (is_function name)) [
    | inl b ↦ rw (a, b) (function_fits (length name - 1) name rest (named is_function name refl b) (all_inside is_letter name refl refl h))
    | inr b ↦ elim (cases_Bool (is_zdata name)) [
      | inl c ↦ rw (a, b, c) (data_fits name rest c (all_inside is_letter name refl refl h))
      | inr c ↦ rw (a, b, c) tt
    ]
  ]
]

named_fits : (name rest : List ℕ) → list_all is_letter name ≡ true → Fits (form_in (named_word name rest)) (36 ∷ (name ++ rest))
named_fits name [] h = elim (cases_Bool (is_variable name)) [ inl e ↦ rw e (variable_fits name [] e h) | inr e ↦ rw e tt ]
named_fits name (b ∷ rest) h = elim (cases_Bool (b == 40)) [
  | inl e ↦ let same : b ≡ 40 = eqb-true b 40 e in rw same (call_fits name rest h)
  | inr e ↦ elim (cases_Bool (is_variable name)) [
    | inl a ↦ elim (cases_Bool (may_end (b ∷ rest))) [ inl d ↦ rw (e, a, d) (variable_fits name (b ∷ rest) a h) | inr d ↦ rw (e, a, d) tt ]
    | inr a ↦ rw (e, a) tt
  ]
]

dollar_fits : (xs : List ℕ) → Fits (form_in (dollar_word xs)) (36 ∷ xs)
dollar_fits xs =
    let whole : take (letters xs) xs ++ drop (letters xs) xs ≡ xs = take-append-drop (letters xs) xs in
    subst (λ (ys : List ℕ). Fits (form_in (dollar_word xs)) (36 ∷ ys)) whole (named_fits (take (letters xs) xs) (drop (letters xs) xs) (prefix_passes is_letter xs))

-- `<=` and `>=`
sign_fits : (b : ℕ) (xs : List ℕ) → Fits (form_in (sign_by word.AtMost word.AtLeast b xs)) (b ∷ xs)
sign_fits b [] = tt
sign_fits b (c ∷ xs) = elim (cases_Bool (c == 61)) [
  | inl e ↦ let equals : c ≡ 61 = eqb-true c 61 e in elim (cases_Bool (b == 60)) [
    | inl a ↦ let less : b ≡ 60 = eqb-true b 60 a in rw (less, equals) (refl, (refl, (refl, (refl, tt))))
    | inr a ↦ elim (cases_Bool (b == 62)) [
      | inl d ↦ let more : b ≡ 62 = eqb-true b 62 d in rw (more, equals) (refl, (refl, (refl, (refl, tt))))
      | inr d ↦ rw (a, d) tt
    ]
  ]
  | inr e ↦ elim (cases_Bool (b == 60)) [
    | inl a ↦ let less : b ≡ 60 = eqb-true b 60 a in rw (less, e) tt
    | inr a ↦ rw (a, e) (elim (cases_Bool (b == 62)) [ inl d ↦ rw d tt | inr d ↦ rw d tt ])
  ]
]

negated_fits : (xs : List ℕ) → Fits (form_in (sign_word word.NotAtMost word.NotAtLeast xs)) (39 ∷ xs)
negated_fits [] = tt
negated_fits (b ∷ []) = tt
negated_fits (b ∷ (c ∷ xs)) = elim (cases_Bool (c == 61)) [
  | inl e ↦ let equals : c ≡ 61 = eqb-true c 61 e in elim (cases_Bool (b == 60)) [
    | inl a ↦ let less : b ≡ 60 = eqb-true b 60 a in rw (less, equals) (refl, (refl, (refl, (refl, (refl, (refl, tt))))))
    | inr a ↦ elim (cases_Bool (b == 62)) [
      | inl d ↦ let more : b ≡ 62 = eqb-true b 62 d in rw (more, equals) (refl, (refl, (refl, (refl, (refl, (refl, tt))))))
      | inr d ↦ rw (a, d) tt
    ]
  ]
  | inr e ↦ elim (cases_Bool (b == 60)) [
    | inl a ↦ let less : b ≡ 60 = eqb-true b 60 a in rw (less, e) tt
    | inr a ↦ rw (a, e) (elim (cases_Bool (b == 62)) [ inl d ↦ rw d tt | inr d ↦ rw d tt ])
  ]
]

-- the word that begins with a byte of code
code_fits : (before b : ℕ) (xs : List ℕ) → Fits (form_in (word_at before b xs)) (b ∷ xs)
code_fits before b xs = elim (cases_Bool (b == 36)) [
  | inl e ↦ let same : b ≡ 36 = eqb-true b 36 e in elim (cases_Bool (may_begin before)) [ inl a ↦ rw (same, a) (dollar_fits xs) | inr a ↦ rw (same, a) tt ]
  | inr e ↦ elim (cases_Bool (b == 39)) [
    | inl d ↦ let same : b ≡ 39 = eqb-true b 39 d in rw same (negated_fits xs)
    | inr d ↦ rw (e, d) (sign_fits b xs)
  ]
]

word_fits : (p : Place) (b : ℕ) (xs : List ℕ) → Fits (form_in (word_in p b xs)) (b ∷ xs)
word_fits (place.Code before) b xs = code_fits before b xs
word_fits place.Quoted b xs = tt
word_fits place.Comment b xs = tt

own_ends : (p : Place) (b : ℕ) → ends_line (own_byte p b) ≡ ends_line b
own_ends (place.Code before) b = elim (cases_Bool (b == 9)) [ inl e ↦ let same : b ≡ 9 = eqb-true b 9 e in rw same refl | inr e ↦ rw e refl ]
own_ends place.Quoted b = refl
own_ends place.Comment b = refl

-- the first byte of a form, or a byte that is as it was
first_ends : (form : List ℕ) (own b : ℕ) (xs : List ℕ) → ends_line own ≡ ends_line b → Fits form (b ∷ xs) → ends_line (first_or own form) ≡ ends_line b
first_ends [] own b xs same h = same
first_ends (f ∷ form) own b xs same h = h.0 ∙ sym h.1.0

rest_fits : (form : List ℕ) (b : ℕ) (xs : List ℕ) → Fits form (b ∷ xs) → Fits (drop 1 form) xs
rest_fits [] b xs h = tt
rest_fits (f ∷ form) b xs h = h.1.1

ends_from : (p : Place) (left xs : List ℕ) → Fits left xs → map ends_line (plain_from p left xs) ≡ map ends_line xs
unfolding plain_from
ends_from p [] [] h = refl
ends_from p (f ∷ left) [] h = refl
ends_from p [] (b ∷ xs) h =
    let form = form_in (word_in p b xs) in
    let there : Fits form (b ∷ xs) = word_fits p b xs in
    let first : ends_line (first_or (own_byte p b) form) ≡ ends_line b = first_ends form (own_byte p b) b xs (own_ends p b) there in
    let rest : map ends_line (plain_from (place_by (behind p b) b form) (drop 1 form) xs) ≡ map ends_line xs
    = ends_from (place_by (behind p b) b form) (drop 1 form) xs (rest_fits form b xs there) in
    rw (first, rest) refl
ends_from p (f ∷ left) (b ∷ xs) h =
    let first : ends_line f ≡ ends_line b = h.0 ∙ sym h.1.0 in
    let rest : map ends_line (plain_from (behind_code b) left xs) ≡ map ends_line xs = ends_from (behind_code b) left xs h.1.1 in
    rw (first, rest) refl

pub lines_kept : (text : List ℕ) → map ends_line (plain text) ≡ map ends_line text
lines_kept text = ends_from (place.Code 10) [] text tt
