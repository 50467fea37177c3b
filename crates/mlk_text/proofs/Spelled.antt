-- Names, words, labels, roots and entries: what is spelled is read to its end, and what is read is spelled there.
use Rattle.std.proofs.Common.{◌≡◌, ◌<◌, ◌≤◌, ℕ, ◌++◌, List, [], ◌∷◌, length, take, drop, Some, None, true, false, refl, sym, ap, ◌∙◌, arith, subst, inl, inr, leb-true, le-leb}
use Rattle.std.specs.Prelude.{Option, ◌==◌, ◌&&◌, ◌||◌, nat_le}
use Rattle.std.specs.List.{list_all}
use Rattle.std.proofs.lemmas.Bool.{cases_Bool, and_parts, and_from}
use Rattle.std.proofs.Math.Seq.{take-append_seam, drop-append_seam}
use Rattle.std.proofs.lemmas.Bool.Decides.{nat_tests}
use Rattle.mlk_text.specs.declared.root.Root.{Root}
use Rattle.mlk_text.specs.declared.root.Root.TheVariants as root
use Rattle.mlk_text.specs.Spellings.{is_digit, is_letter, is_name_byte, IsName, IsLabel, IsWord, IsRoot}
use Rattle.mlk_text.specs.Lexemes.{byte_at, or_else, root_by, root_at, letters, word_at, name_bytes, digits, name_at, digits_at, label_at}
use Rattle.mlk_text.proofs.Readers.{pair_parts, with_some}
use Rattle.mlk_text.proofs.Lexemes.{byte-is}
use Rattle.mlk_text.proofs.Runs.{stops, run-length, run-is, parted, cut-reads, cut-spelled}

-- the parts of a name
pub name-parts : (b : ℕ) (more : List ℕ) → IsName (b ∷ more) → ((is_letter b || (b == 37)) ≡ true) × (list_all is_name_byte more ≡ true) × (length more ≤ 30)
name-parts b more h =
    let p = and_parts (is_letter b || (b == 37)) (nat_le (length more) 30 && list_all is_name_byte more) h in
    let q = and_parts (nat_le (length more) 30) (list_all is_name_byte more) p.1 in
    (p.0, q.1, leb-true (length more) 30 q.0)

pub name-from : (b : ℕ) (more : List ℕ) → (is_letter b || (b == 37)) ≡ true → list_all is_name_byte more ≡ true → length more ≤ 30 → IsName (b ∷ more)
name-from b more first all few = and_from (is_letter b || (b == 37)) (nat_le (length more) 30 && list_all is_name_byte more) first
    (and_from (nat_le (length more) 30) (list_all is_name_byte more) (le-leb (length more) 30 few) all)

-- a name is read to its end
pub name-reads : (name ys : List ℕ) → IsName name → stops is_name_byte ys ≡ true → name_at (name ++ ys) ≡ Some (name, ys)
unfolding name_at
name-reads [] ys h stop = cc h
name-reads (b ∷ more) ys h stop =
    let (first, all, few) = name-parts b more h in
    let size : name_bytes (more ++ ys) ≡ length more = run-length is_name_byte more ys all stop in
    rw size (rw (first, le-leb (length more) 30 few) (rw (take-append_seam more ys, drop-append_seam more ys) refl))

-- a name that is read is spelled there
pub name-spelled : (name xs ys : List ℕ) → name_at xs ≡ Some (name, ys) → IsName name × (xs ≡ name ++ ys) × (stops is_name_byte ys ≡ true)
unfolding name_at
name-spelled name [] ys h = cc h
name-spelled name (b ∷ xs) ys h = elim (cases_Bool ((is_letter b || (b == 37)) && nat_le (name_bytes xs) 30)) [
  | inr e ↦ cc (rw e at h)
  | inl e ↦
      let (front, rest, is, all, stop, size) = run-is is_name_byte xs in
      let part = parted (name_bytes xs) front rest xs is size in
      let p = pair_parts (b ∷ take (name_bytes xs) xs) name (drop (name_bytes xs) xs) ys (rw e at h) in
      let q = and_parts (is_letter b || (b == 37)) (nat_le (name_bytes xs) 30) e in
      let few : length front ≤ 30 = subst (λ n. n ≤ 30) size (leb-true (name_bytes xs) 30 q.1) in
      let named : b ∷ front ≡ name = ap (λ l. b ∷ l) (sym part.0) ∙ p.0 in
      let after : rest ≡ ys = sym part.1 ∙ p.1 in
      (subst IsName named (name-from b front q.0 all few), ap (λ l. b ∷ l) is ∙ ap (λ l. b ∷ (front ++ l)) after ∙ ap (λ l. l ++ ys) named, subst (λ l. stops is_name_byte l ≡ true) after stop)
]

-- a word is read to its end
pub word-reads : (w ys : List ℕ) → IsWord w → stops is_letter ys ≡ true → word_at (w ++ ys) ≡ (w, ys)
word-reads w ys h stop =
    let p = parted (letters (w ++ ys)) w ys (w ++ ys) refl (run-length is_letter w ys h stop) in
    rw (p.0, p.1) refl

-- a word that is read is spelled there
pub word-spelled : (w xs ys : List ℕ) → word_at xs ≡ (w, ys) → IsWord w × (xs ≡ w ++ ys)
word-spelled w xs ys h =
    let (front, rest, is, all, stop, size) = run-is is_letter xs in
    let p = parted (letters xs) front rest xs is size in
    let same : front ≡ w = sym p.0 ∙ ap (λ r. r.0) h in
    let after : rest ≡ ys = sym p.1 ∙ ap (λ r. r.1) h in
    (subst IsWord same all, is ∙ ap (λ l. l ++ rest) same ∙ ap (λ l. w ++ l) after)

-- a name begins with no digit
pub digit-no-name : (ds ys : List ℕ) → list_all is_digit ds ≡ true → 0 < length ds → name_at (ds ++ ys) ≡ None
unfolding name_at
digit-no-name [] ys all some = absurd (omega arith)
digit-no-name (d ∷ ds) ys all some =
    let digit : is_digit d ≡ true = (and_parts (is_digit d) (list_all is_digit ds) all).0 in
    let none : (is_letter d || (d == 37)) ≡ false = grind (arith, nat_tests) in
    rw none refl

-- digits end where names end
pub name-digits : (ys : List ℕ) → stops is_name_byte ys ≡ true → stops is_digit ys ≡ true
name-digits [] h = refl
name-digits (b ∷ ys) h = grind (arith, nat_tests)

-- a label is read to its end
pub label-reads : (label ys : List ℕ) → IsLabel label → stops is_name_byte ys ≡ true → label_at (label ++ ys) ≡ Some (label, ys)
unfolding label_at digits_at
label-reads label ys (inl name) stop = rw (name-reads label ys name stop) refl
label-reads label ys (inr (all, some)) stop =
    rw (digit-no-name label ys all some) (cut-reads (digits (label ++ ys)) label ys (run-length is_digit label ys all (name-digits ys stop)) some)

-- a label that is read is spelled there
pub label-spelled : (label xs ys : List ℕ) → label_at xs ≡ Some (label, ys) → IsLabel label × (xs ≡ label ++ ys)
unfolding label_at digits_at
label-spelled label xs ys h = go (name_at xs) refl h
  where
    go : (o : Option (List ℕ × List ℕ)) → name_at xs ≡ o → or_else o (digits_at xs) ≡ Some (label, ys) → IsLabel label × (xs ≡ label ++ ys)
    go (Some n) is h = let r = name-spelled label xs ys (is ∙ h) in (inl r.0, r.1)
    go None none h =
        let (front, rest, is, all, stop, size) = run-is is_digit xs in
        let r = cut-spelled (digits xs) front rest label xs ys is size h in
        (subst IsLabel r.0 (inr (all, r.2)), r.3)

-- no name begins with a caret
pub no-caret : (n ys : List ℕ) → IsName n → byte_at 94 (n ++ ys) ≡ None
no-caret [] ys h = cc h
no-caret (b ∷ bs) ys h =
    let first = (name-parts b bs h).0 in
    let none : (b == 94) ≡ false = grind (arith, nat_tests) in
    rw none refl

-- a root is read to its end
pub root-reads : (r : Root) (text ys : List ℕ) → IsRoot r text → stops is_name_byte ys ≡ true → root_at (text ++ ys) ≡ Some (r, ys)
unfolding root_at
root-reads (root.Global name) text ys (good, is) stop = rw is (rw (name-reads name ys good stop) refl)
root-reads (root.Local name) text ys (good, is) stop = rw is (rw (no-caret name ys good) (rw (name-reads name ys good stop) refl))

-- a root that is read is spelled there
pub root-spelled : (r : Root) (xs ys : List ℕ) → root_at xs ≡ Some (r, ys) → (text : List ℕ) × IsRoot r text × (xs ≡ text ++ ys)
unfolding root_at
root-spelled r xs ys h = go (byte_at 94 xs) refl h
  where
    go : (o : Option (ℕ × List ℕ)) → byte_at 94 xs ≡ o → root_by xs o ≡ Some (r, ys) → (text : List ℕ) × IsRoot r text × (xs ≡ text ++ ys)
    go None is i =
        let w = with_some root.Local (name_at xs) r ys i in
        let n = name-spelled w.0 xs ys w.1 in
        (w.0, subst (λ q. IsRoot q w.0) (sym w.2) (n.0, refl), n.1)
    go (Some caret) is i =
        let w = with_some root.Global (name_at caret.1) r ys i in
        let n = name-spelled w.0 caret.1 ys w.1 in
        (94 ∷ w.0, subst (λ q. IsRoot q (94 ∷ w.0)) (sym w.2) (n.0, refl), byte-is 94 caret.0 xs caret.1 is ∙ ap (λ l. 94 ∷ l) n.1)
