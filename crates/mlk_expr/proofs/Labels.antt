-- Names, labels and what calls name are read exactly, as they occur in commands.
use Rattle.std.proofs.Common.{◌≡◌, ◌<◌, ℕ, ◌++◌, List, [], ◌∷◌, length, Some, None, true, false, refl, ap, ◌∙◌, arith, subst, inl, inr, append_assoc}
use Rattle.std.specs.Prelude.{Option, ◌==◌, ◌||◌, not}
use Rattle.std.proofs.lemmas.Bool.{cases_Bool, and_parts}
use Rattle.std.proofs.lemmas.Bool.Decides.{nat_tests}
use Rattle.mlk_text.specs.Lexemes.{is_digit, is_letter, digits, byte_at, name_at, digits_at, label_at, or_else, are_digits}
use Rattle.mlk_text.proofs.Lexemes.{name-after}
use Rattle.mlk_text.proofs.Readers.{Exact}
use Rattle.mlk_text.specs.Spellings.{IsName, IsLabel}
use Rattle.mlk_expr.specs.Grammar.{IsCallee, IsNameText, IsLabelText, IsCalleeText}
use Rattle.mlk_expr.specs.Theorem.{label_ends, LabelEnds, starts_caret, callee_ends, CalleeEnds}
use Rattle.mlk_expr.proofs.Followed as followed
use Rattle.mlk_text.proofs.Runs.{stops, cut-reads, cut-spelled}
use Rattle.mlk_expr.proofs.Runs.{after_name, digits-are, digits-length}
use Rattle.mlk_text.proofs.Spelled.{name-parts, name-reads, name-spelled, label-spelled, digit-no-name}
use Rattle.mlk_expr.proofs.LexemeLemmas.{label-after}
use Rattle.mlk_expr.proofs.Arguments.{CalleeIs}
use Rattle.mlk_expr.proofs.JoinedArguments.{callee-apart}
use Rattle.mlk_expr.proofs.Joined.{Same}

-- a name begins with no digit
name-digit : (b : ℕ) → (is_letter b || (b == 37)) ≡ true → is_digit b ≡ false
name-digit b h = grind (arith, nat_tests)

ends-name : (name ys : List ℕ) → IsName name → after_name ys ≡ true → label_ends name ys ≡ true
ends-name [] ys h stop = cc h
ends-name (d ∷ name) [] h stop = refl
ends-name (d ∷ name) (b ∷ ys) h stop = rw (name-digit d (name-parts d name h).0) stop

name-ends : (name ys : List ℕ) → IsName name → label_ends name ys ≡ true → after_name ys ≡ true
name-ends [] ys h ends = cc h
name-ends (d ∷ name) [] h ends = refl
name-ends (d ∷ name) (b ∷ ys) h ends = let letter = name-digit d (name-parts d name h).0 in rw letter at ends

ends-digits : (ds ys : List ℕ) → are_digits ds ≡ true → stops is_digit ys ≡ true → label_ends ds ys ≡ true
ends-digits [] ys all stop = refl
ends-digits (d ∷ ds) [] all stop = refl
ends-digits (d ∷ ds) (b ∷ ys) all stop = let digit : is_digit d ≡ true = (and_parts (is_digit d) (are_digits ds) all).0 in rw digit stop

digits-end : (ds ys : List ℕ) → are_digits ds ≡ true → 0 < length ds → label_ends ds ys ≡ true → stops is_digit ys ≡ true
digits-end [] ys all some ends = absurd (omega arith)
digits-end (d ∷ ds) [] all some ends = refl
digits-end (d ∷ ds) (b ∷ ys) all some ends = let digit : is_digit d ≡ true = (and_parts (is_digit d) (are_digits ds) all).0 in rw digit at ends

-- a label is read to its end
label-ended : (label xs ys : List ℕ) → label_at xs ≡ Some (label, ys) → label_ends label ys ≡ true
unfolding label_at digits_at
label-ended label xs ys h = go (name_at xs) refl h
  where
    go : (o : Option (List ℕ × List ℕ)) → name_at xs ≡ o → or_else o (digits_at xs) ≡ Some (label, ys) → label_ends label ys ≡ true
    go (Some n) is h = let r = name-spelled label xs ys (is ∙ h) in ends-name label ys r.0 r.2
    go None none h =
        let (front, rest, is, all, stop) = digits-are xs in
        let size : digits xs ≡ length front = ap digits is ∙ digits-length front rest all stop in
        let r = cut-spelled (digits xs) front rest label xs ys is size h in
        subst (λ z. label_ends z ys ≡ true) r.0 (subst (λ z. label_ends front z ≡ true) r.1 (ends-digits front rest all stop))

label-read : (label ys : List ℕ) → IsLabel label → label_ends label ys ≡ true → label_at (label ++ ys) ≡ Some (label, ys)
unfolding label_at digits_at
label-read label ys (inl name) ends = rw (name-reads label ys name (name-ends label ys name ends)) refl
label-read label ys (inr (all, some)) ends =
    rw (digit-no-name label ys all some) (cut-reads (digits (label ++ ys)) label ys (digits-length label ys all (digits-end label ys all some ends)) some)

-- what a call names
no-caret : (ys : List ℕ) → byte_at 94 ys ≡ None → not (starts_caret ys) ≡ true
no-caret [] h = refl
no-caret (b ∷ ys) h = elim (cases_Bool (b == 94)) [ inl e ↦ cc (rw e at h) | inr e ↦ rw e refl ]

caret-none : (ys : List ℕ) → not (starts_caret ys) ≡ true → byte_at 94 ys ≡ None
caret-none [] h = refl
caret-none (b ∷ ys) h = elim (cases_Bool (b == 94)) [ inl e ↦ cc (rw e at h) | inr e ↦ rw e refl ]

callee-ended : (label routine : Option (List ℕ)) (xs ys : List ℕ) → followed.IsCallee label routine xs ys → callee_ends label routine ys ≡ true
callee-ended (Some label) None xs ys (l, none) = rw (label-ended label xs ys l, no-caret ys none) refl
callee-ended (Some label) (Some routine) xs ys (m, l, r) = let f = name-spelled routine m ys r in ends-name routine ys f.0 f.2
callee-ended None (Some routine) xs ys (m, is, r) = let f = name-spelled routine m ys r in ends-name routine ys f.0 f.2
callee-ended None None xs ys h = absurd h

callee-read : (label routine : Option (List ℕ)) (s ys : List ℕ) → IsCallee label routine s → callee_ends label routine ys ≡ true → followed.IsCallee label routine (s ++ ys) ys
callee-read (Some label) None s ys (is, good) ends =
    let p = and_parts (label_ends label ys) (not (starts_caret ys)) ends in
    (rw is (label-read label ys good p.0), caret-none ys p.1)
callee-read (Some label) (Some routine) s ys (is, good, name) ends =
    let whole : s ++ ys ≡ label ++ 94 ∷ (routine ++ ys) = ap (λ z. z ++ ys) is ∙ append_assoc label (94 ∷ routine) ys in
    (routine ++ ys, rw whole (label-read label (94 ∷ (routine ++ ys)) good (before-caret label (routine ++ ys))), name-reads routine ys name (name-ends routine ys name ends))
  where
    before-caret : (label ys : List ℕ) → label_ends label (94 ∷ ys) ≡ true
    before-caret [] ys = refl
    before-caret (d ∷ label) ys = elim (cases_Bool (is_digit d)) [ inl e ↦ rw e refl | inr e ↦ rw e refl ]
callee-read None (Some routine) s ys (is, name) ends = (routine ++ ys, ap (λ z. z ++ ys) is, name-reads routine ys name (name-ends routine ys name ends))
callee-read None None s ys h ends = absurd h

-- each is read exactly
pub Names : ℕ → List ℕ → List ℕ → List ℕ → Type 0
Names end name xs ys = name_at xs ≡ Some (name, ys)

pub names-exact : (end : ℕ) → Exact name_at (Names end)
unfolding Names
names-exact end = record { sound = λ n xs ys h. h; complete = λ n xs ys h. h; after = name-after }

pub same-name : Same Names IsNameText LabelEnds
unfolding Names
same-name = record {
  apart = λ end at name xs ys h is. let f = name-spelled name xs ys is in (name, f.1, (refl, f.0), ends-name name ys f.0 f.2);
  together = λ end at name s ys h (is, good) ends. rw is (name-reads name ys good (name-ends name ys good ends));
}

pub Labels : ℕ → List ℕ → List ℕ → List ℕ → Type 0
Labels end label xs ys = label_at xs ≡ Some (label, ys)

pub labels-exact : (end : ℕ) → Exact label_at (Labels end)
unfolding Labels
labels-exact end = record { sound = λ l xs ys h. h; complete = λ l xs ys h. h; after = label-after }

pub same-label : Same Labels IsLabelText LabelEnds
unfolding Labels
same-label = record {
  apart = λ end at label xs ys h is. let f = label-spelled label xs ys is in (label, f.1, (refl, f.0), label-ended label xs ys is);
  together = λ end at label s ys h (is, good) ends. rw is (label-read label ys good ends);
}

pub same-callee : Same (λ end. CalleeIs) IsCalleeText CalleeEnds
same-callee = record {
  apart = λ end at c xs ys h is. let f = callee-apart c.label c.routine xs ys is in (f.0, f.1, f.2, callee-ended c.label c.routine xs ys is);
  together = λ end at c s ys h is ends. callee-read c.label c.routine s ys is ends;
}
