-- Texts of entries, and their reader.
use Rattle.std.proofs.Common.{◌≡◌, ℕ, ◌++◌, List, ◌∷◌, Some, None, true, false, refl, sym, ap, ◌∙◌, arith, subst, inl, inr, append_assoc, []}
use Rattle.std.specs.Prelude.{Option, ◌==◌, ◌||◌}
use Rattle.std.proofs.lemmas.Bool.Decides.{nat_tests}
use Rattle.mlk_text.specs.Lexemes.{byte_at, digits_at, is_digit, is_letter, label_at, name_at, or_else, are_digits}
use Rattle.mlk_text.proofs.Readers.{then_some, pair_parts, with_some}
use Rattle.mlk_cert_lexemes.specs.Lists.{Each}
use Rattle.mlk_cert_lexemes.specs.Kinds.{IsLabelOrNothing, IsEntryText}
use Rattle.mlk_cert_lexemes.specs.Reading.{label_before, entry_at}
use Rattle.mlk_cert_lexemes.proofs.Formats.{Format, byte-is, both_true, both_back}
use Rattle.mlk_cert_lexemes.proofs.NumberFormats.{IsDigit, digits-is, digits-back}
use Rattle.mlk_cert_lexemes.proofs.NameFormats.{NoName, name-format}

-- an entry's text
label_text : List ℕ → List ℕ
label_text label = label

all-digits : (ds : List ℕ) → Each IsDigit ds → are_digits ds ≡ true
all-digits [] is = refl
all-digits (d ∷ ds) is = both_back _ _ is.0 (all-digits ds is.1)

each-digit : (ds : List ℕ) → are_digits ds ≡ true → Each IsDigit ds
each-digit [] h = tt
each-digit (d ∷ ds) h = let t = both_true (is_digit d) (are_digits ds) h in (t.0, each-digit ds t.1)

label-is : (l xs ys : List ℕ) → label_before xs ≡ Some (l, ys) → (xs ≡ l ++ ys) × IsLabelOrNothing l
unfolding label_at
label-is l xs ys h = go (name_at xs) refl (digits_at xs) refl h
  where
    go : (n : Option (List ℕ × List ℕ)) → name_at xs ≡ n → (d : Option (List ℕ × List ℕ)) → digits_at xs ≡ d → or_else (or_else n d) (Some ([], xs)) ≡ Some (l, ys) → (xs ≡ l ++ ys) × IsLabelOrNothing l
    go (Some n) is d js k = let a = name-format.sound l xs ys (is ∙ k) in (a.0, inr a.1)
    go None is (Some d) js k = let a = digits-is l xs ys (js ∙ k) in (a.0, inl (all-digits l a.1))
    go None is None js k =
        let p = pair_parts [] l xs ys k in
        let P : List ℕ → Type 0 = λ z. (xs ≡ z ++ ys) × IsLabelOrNothing z in
        subst P p.0 (p.1, inl refl)

digit-no-letter : (d : ℕ) → is_digit d ≡ true → (is_letter d || (d == 37)) ≡ false
digit-no-letter d h = grind (arith, nat_tests)

digits-no-name : (d : ℕ) (xs : List ℕ) → is_digit d ≡ true → name_at (d ∷ xs) ≡ None
unfolding name_at
digits-no-name d xs h = rw (digit-no-letter d h) refl

label-back : (l ys : List ℕ) → IsLabelOrNothing l → label_before (l ++ 94 ∷ ys) ≡ Some (l, 94 ∷ ys)
unfolding label_at name_at digits_at
label-back [] ys is = refl
label-back (d ∷ l) ys (inl ds) =
    let e = each-digit (d ∷ l) ds in
    rw (digits-no-name d (l ++ 94 ∷ ys) e.0) (rw (digits-back (d ∷ l) (94 ∷ ys) e (omega arith) refl) refl)
label-back (b ∷ l) ys (inr is) = rw (name-format.complete (b ∷ l) (94 ∷ ys) is refl) refl

abbrev pub entry_text : List ℕ → List ℕ
entry_text entry = entry

entry-is : (e xs ys : List ℕ) → entry_at xs ≡ Some (e, ys) → (xs ≡ entry_text e ++ ys) × IsEntryText e
unfolding entry_at
entry-is e xs ys h =
    let l = then_some (label_before xs) _ (e, ys) h in
    let c = then_some (byte_at 94 l.0.1) _ (e, ys) l.2 in
    let n = with_some _ (name_at c.0.1) e ys c.2 in
    let one = label-is l.0.0 xs l.0.1 l.1 in
    let two = name-format.sound n.0 c.0.1 ys n.1 in
    let P : List ℕ → Type 0 = λ z. (xs ≡ z ++ ys) × IsEntryText z in
    subst P (sym n.2) (
      one.0 ∙ ap (λ z. l.0.0 ++ z) ((byte-is 94 c.0.0 l.0.1 c.0.1 c.1).0 ∙ ap (λ z. 94 ∷ z) two.0) ∙ sym (append_assoc l.0.0 (94 ∷ n.0) ys),
      (l.0.0, n.0, one.1, two.1, refl),
    )

entry-back : (e ys : List ℕ) → IsEntryText e → NoName ys → entry_at (entry_text e ++ ys) ≡ Some (e, ys)
unfolding entry_at
entry-back e ys (label, routine, is, name, text) none =
    ap (λ z. entry_at (z ++ ys)) text
    ∙ (rw (append_assoc label (94 ∷ routine) ys) (rw (label-back label (routine ++ ys) is) (rw (name-format.complete routine ys name none) (ap (λ z. Some (z, ys)) (sym text)))))

pub entry-format : Format entry_text IsEntryText NoName entry_at
entry-format = record { sound = entry-is; complete = entry-back }
