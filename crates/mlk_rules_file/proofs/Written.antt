-- The texts of rule files are read exactly: what is read is spelled there, and what is spelled is read.
use Rattle.std.proofs.Common.{◌≡◌, ◌⊎◌, ◌+◌, ℕ, suc, Bool, true, false, List, [], ◌∷◌, ◌++◌, length, take, drop, Some, None, arith, inl, inr, refl, sym, ap, ◌∙◌, subst, append_assoc, length-append, take-append-drop}
use Rattle.std.specs.Prelude.{Option, is_some, ◌==◌, ◌||◌, codes, bytes_eq}
use Rattle.std.proofs.Math.Seq.{take-append_seam, drop-append_seam}
use Rattle.std.proofs.lemmas.Bool.{cases_Bool, eqb-true}
use Rattle.std.proofs.lemmas.Bool.Decides.{nat_tests}
use Rattle.std.proofs.lemmas.Option.{same_Some}
use Rattle.std.proofs.lemmas.Slice.Eq.{bytes_eq-Decides}
use Rattle.mlk_text.specs.Spellings.{is_digit, is_letter, is_name_byte, IsName, IsRoot}
use Rattle.mlk_text.specs.Lexemes.{digits, byte_at, name_at, root_at, entry_of, doubled, are_digits}
use Rattle.mlk_numbers.specs.Numbers.{IsNumeral, IsCanonical}
use Rattle.mlk_numbers.specs.Canonical.{canonical_text}
use Rattle.mlk_text.specs.Reading.{Many, separated}
use Rattle.mlk_text.proofs.Lexemes.{byte-is, byte-takes}
use Rattle.mlk_text.proofs.Runs.{stops, run-length, parted}
use Rattle.mlk_text.proofs.Spelled.{name-parts, name-reads, name-spelled, no-caret, root-reads, root-spelled}
use Rattle.mlk_text.proofs.Entries.{entries-written}
use Rattle.mlk_numbers.proofs.Numerals.{digits-parts}
use Rattle.mlk_numbers.proofs.CanonicalReading.{canonical-sound, canonical-complete}
use Rattle.mlk_text.proofs.Readers.{then_some, pair_parts, with_some, Exact, Takes, separated-exact}
use Rattle.mlk_text.specs.declared.root.Root.{Root}
use Rattle.mlk_text.specs.declared.root.Root.TheVariants as root
use Rattle.mlk_names.specs.declared.reference.Extent.{Extent}
use Rattle.mlk_names.specs.declared.reference.Extent.TheVariants.{Node, Tree}
use Rattle.mlk_rules_file.specs.declared.read.kinds.SpelledItem.{SpelledItem}
use Rattle.mlk_rules_file.specs.declared.read.kinds.SpelledItem.TheVariants.{Literal, Variable, Job}
use Rattle.mlk_rules_file.specs.declared.read.kinds.Spelling.{Spelling}
use Rattle.mlk_rules_file.specs.RuleNumbers.{fraction_len, numeral_len, valued, literal_value_at, negative, negative_at}
use Rattle.mlk_rules_file.specs.RuleTexts.{quoted, job, item_at, comma_at, end_of, ended, list_of, parts_of, spelling, spelling_of, pattern_of, is_entry}
use Rattle.mlk_rules_file.specs.RuleGrammar.{IsItem, IsMore, closing, IsParts, IsSpelled, IsSpelledPattern, IsEntryText, AreWritten}
use Rattle.mlk_rules_file.proofs.Quotes.{quoted-sound, quoted-complete}

-- where an item ends: at a comma or a parenthesis
abbrev Ends : List ℕ → Type 0
Ends ys = (m : List ℕ) × ((ys ≡ 44 ∷ m) ⊎ (ys ≡ 41 ∷ m))

ends_digits : (ys : List ℕ) → Ends ys → stops is_digit ys ≡ true
ends_digits ys (m, inl e) = rw e refl
ends_digits ys (m, inr e) = rw e refl

ends_fraction : (ys : List ℕ) → Ends ys → fraction_len ys ≡ 0
ends_fraction ys (m, inl e) = rw e refl
ends_fraction ys (m, inr e) = rw e refl

ends_name : (ys : List ℕ) → Ends ys → stops is_name_byte ys ≡ true
ends_name ys (m, inl e) = rw e refl
ends_name ys (m, inr e) = rw e refl

ends_quote : (ys : List ℕ) → Ends ys → byte_at 34 ys ≡ None
ends_quote ys (m, inl e) = rw e refl
ends_quote ys (m, inr e) = rw e refl

-- the first byte of a name is none of these
abbrev is_first : ℕ → Bool
is_first b = is_letter b || (b == 37)

not_first : (b c : ℕ) → is_first b ≡ true → is_first c ≡ false → (b == c) ≡ false
not_first b c h other = elim (cases_Bool (b == c)) [
  | inl e ↦
      let is : is_first c ≡ true = subst (λ x. is_first x ≡ true) (eqb-true b c e) h in
      cc (sym is ∙ other)
  | inr e ↦ e
]

first_no_digit : (b : ℕ) → is_first b ≡ true → is_digit b ≡ false
first_no_digit b h = grind (arith, nat_tests)

-- numbers
digits_front : (ds ys : List ℕ) → are_digits ds ≡ true → stops is_digit ys ≡ true → (digits (ds ++ ys) ≡ length ds) × (drop (digits (ds ++ ys)) (ds ++ ys) ≡ ys)
digits_front ds ys h stop =
    let size = run-length is_digit ds ys h stop in
    (size, (parted (digits (ds ++ ys)) ds ys (ds ++ ys) refl size).1)

numeral_size : (before after text ys : List ℕ) → IsNumeral before after text → Ends ys → numeral_len (text ++ ys) ≡ length text
unfolding numeral_len
numeral_size before after text ys h end = elim h.spelled [
  | inl e ↦
      let front = digits_front before ys h.whole_part (ends_digits ys end) in
      let size = front.0 in
      let rest = front.1 in
      rw e.0 (ap (λ l. digits (before ++ ys) + fraction_len l) rest ∙ ap (λ n. digits (before ++ ys) + n) (ends_fraction ys end) ∙ (omega (arith, size)))
  | inr e ↦
      let front = digits_front before (46 ∷ (after ++ ys)) h.whole_part refl in
      let size = front.0 in
      let rest = front.1 in
      let last = (digits_front after ys h.fraction (ends_digits ys end)).0 in
      let whole : text ++ ys ≡ before ++ 46 ∷ (after ++ ys) = ap (λ l. l ++ ys) e ∙ append_assoc before (46 ∷ after) ys in
      let many : length text ≡ length before + suc (length after) = ap length e ∙ length-append before (46 ∷ after) in
      let fraction : fraction_len (drop (digits (before ++ 46 ∷ (after ++ ys))) (before ++ 46 ∷ (after ++ ys))) ≡ suc (length after) = ap fraction_len rest ∙ ap suc last in
      rw whole (omega (arith, size, fraction, many))
]

number_complete : (text value ys : List ℕ) → IsCanonical text value → Ends ys → literal_value_at (text ++ ys) ≡ Some (value, ys)
unfolding literal_value_at
number_complete text value ys h end =
    let size = numeral_size h.before h.after text ys h.numeral end in
    rw size (rw (drop-append_seam text ys, take-append_seam text ys) (rw (canonical-complete text value h) refl))

number_sound : (value xs ys : List ℕ) → literal_value_at xs ≡ Some (value, ys) → (text : List ℕ) × IsCanonical text value × (xs ≡ text ++ ys)
unfolding literal_value_at
number_sound value xs ys h = go (canonical_text (take (numeral_len xs) xs)) refl h
  where
    go : (o : Option (List ℕ)) → canonical_text (take (numeral_len xs) xs) ≡ o → valued (drop (numeral_len xs) xs) o ≡ Some (value, ys) → (text : List ℕ) × IsCanonical text value × (xs ≡ text ++ ys)
    go None is i = cc i
    go (Some found) is i =
        let p = pair_parts found value (drop (numeral_len xs) xs) ys i in
        (take (numeral_len xs) xs, canonical-sound (take (numeral_len xs) xs) value (is ∙ ap Some p.0), sym (take-append-drop (numeral_len xs) xs) ∙ ap (λ l. take (numeral_len xs) xs ++ l) p.1)

-- a number begins with a digit or its point
abbrev starts_number : ℕ → Bool
starts_number b = (b == 46) || is_digit b

number_first : (before after text : List ℕ) → IsNumeral before after text → (b : ℕ) × (rest : List ℕ) × (text ≡ b ∷ rest) × (starts_number b ≡ true)
number_first [] after text h = elim h.spelled [
  | inl e ↦
      let size = ap length e.1 in
      let some = h.some_digit in
      absurd (omega arith)
  | inr e ↦ (46, after, e, refl)
]
number_first (d ∷ ds) after text h =
    let p = digits-parts d ds h.whole_part in
    let starts : starts_number d ≡ true = elim (cases_Bool (d == 46)) [ inl e ↦ rw e refl | inr e ↦ rw e p.0 ] in
    elim h.spelled [
      | inl e ↦ (d, ds, e.0, starts)
      | inr e ↦ (d, ds ++ 46 ∷ after, e, starts)
    ]

not_started : (b c : ℕ) → starts_number b ≡ true → starts_number c ≡ false → (b == c) ≡ false
not_started b c h other = elim (cases_Bool (b == c)) [
  | inl e ↦
      let is : starts_number c ≡ true = subst (λ x. starts_number x ≡ true) (eqb-true b c e) h in
      cc (sym is ∙ other)
  | inr e ↦ e
]

-- items
item_complete : (i : SpelledItem) (text ys : List ℕ) → IsItem i text → Ends ys → item_at (text ++ ys) ≡ Some (i, ys)
unfolding item_at
item_complete Job text ys h end = rw h refl
item_complete (Variable name) text ys (is, good) end = rw is (go name good (name-reads name ys good (ends_name ys end)))
  where
    go : (n : List ℕ) → IsName n → name_at (n ++ ys) ≡ Some (n, ys) → item_at (n ++ ys) ≡ Some (Variable n, ys)
    go [] h read = cc h
    go (b ∷ bs) h read =
        let first = (name-parts b bs h).0 in
        let number : starts_number b ≡ false = rw (not_first b 46 first refl) (first_no_digit b first) in
        rw (not_first b 36 first refl, not_first b 45 first refl, not_first b 34 first refl, number) (rw read refl)
item_complete (Literal value) text ys (inl is) end =
    rw is (rw (append_assoc (doubled value) (34 ∷ []) ys) (rw (quoted-complete value ys (ends_quote ys end)) refl))
item_complete (Literal value) text ys (inr (inl h)) end =
    let first = number_first h.before h.after text h.numeral in
    go first.0 first.1 first.2 first.3 (number_complete text value ys h end)
  where
    go : (b : ℕ) (rest : List ℕ) → text ≡ b ∷ rest → starts_number b ≡ true → literal_value_at (text ++ ys) ≡ Some (value, ys) → item_at (text ++ ys) ≡ Some (Literal value, ys)
    go b rest is starts read =
        let read' : literal_value_at (b ∷ (rest ++ ys)) ≡ Some (value, ys) = subst (λ l. literal_value_at (l ++ ys) ≡ Some (value, ys)) is read in
        rw is (rw (not_started b 36 starts refl, not_started b 45 starts refl, not_started b 34 starts refl, starts) (rw read' refl))
item_complete (Literal value) text ys (inr (inr (number, canonical, h, same, is))) end =
    rw is (rw (number_complete number canonical ys h end) (ap (λ v. Some (Literal v, ys)) (sym same)))

item_sound : (i : SpelledItem) (xs ys : List ℕ) → item_at xs ≡ Some (i, ys) → (text : List ℕ) × IsItem i text × (xs ≡ text ++ ys)
unfolding item_at
item_sound i [] ys h = cc h
item_sound i (b ∷ xs) ys h = elim (cases_Bool (b == 36)) [
  | inl e ↦
      let w = with_some job (byte_at 74 xs) i ys (rw e at h) in
      (codes "$J", subst (λ j. IsItem j (codes "$J")) (sym w.2) refl, ap (λ c. c ∷ xs) (eqb-true b 36 e) ∙ ap (λ l. 36 ∷ l) (byte-is 74 w.0 xs ys w.1))
  | inr e ↦ elim (cases_Bool (b == 45)) [
    | inl f ↦
        let w = with_some Literal (negative_at xs) i ys (rw (e, f) at h) in
        let u = with_some negative (literal_value_at xs) w.0 ys w.1 in
        let n = number_sound u.0 xs ys u.1 in
        (45 ∷ n.0, subst (λ j. IsItem j (45 ∷ n.0)) (sym w.2) (inr (inr (n.0, u.0, n.1, u.2, refl))), ap (λ c. c ∷ xs) (eqb-true b 45 f) ∙ ap (λ l. 45 ∷ l) n.2)
    | inr f ↦ elim (cases_Bool (b == 34)) [
      | inl q ↦
          let w = with_some Literal (quoted xs) i ys (rw (e, f, q) at h) in
          let text : List ℕ = 34 ∷ (doubled w.0 ++ 34 ∷ []) in
          (text, subst (λ j. IsItem j text) (sym w.2) (inl refl), ap (λ c. c ∷ xs) (eqb-true b 34 q) ∙ ap (λ l. 34 ∷ l) ((quoted-sound w.0 xs ys w.1).0 ∙ sym (append_assoc (doubled w.0) (34 ∷ []) ys)))
      | inr q ↦ elim (cases_Bool ((b == 46) || is_digit b)) [
        | inl g ↦
            let w = with_some Literal (literal_value_at (b ∷ xs)) i ys (rw (e, f, q, g) at h) in
            let n = number_sound w.0 (b ∷ xs) ys w.1 in
            (n.0, subst (λ j. IsItem j n.0) (sym w.2) (inr (inl n.1)), n.2)
        | inr g ↦
            let w = with_some Variable (name_at (b ∷ xs)) i ys (rw (e, f, q, g) at h) in
            (w.0, subst (λ j. IsItem j w.0) (sym w.2) (refl, (name-spelled w.0 (b ∷ xs) ys w.1).0), (name-spelled w.0 (b ∷ xs) ys w.1).1)
      ]
    ]
  ]
]

-- no item begins with `...`
no_item : item_at (codes "...)") ≡ None
unfolding item_at literal_value_at numeral_len canonical_text
no_item = refl

no_item_there : (i : SpelledItem) (xs ys : List ℕ) → item_at xs ≡ Some (i, ys) → bytes_eq xs (codes "...)") ≡ false
no_item_there i xs ys h = elim (cases_Bool (bytes_eq xs (codes "...)"))) [
  | inl e ↦
      let is : xs ≡ codes "...)" = (bytes_eq-Decides xs (codes "...)")).0 e in
      cc (sym h ∙ ap item_at is ∙ no_item)
  | inr e ↦ e
]

-- an item as it is read, with the rest
abbrev Reads : SpelledItem → List ℕ → List ℕ → Type 0
Reads i xs ys = item_at xs ≡ Some (i, ys)

reads_exact : Exact item_at Reads
reads_exact = record {
  sound = λ i xs ys h. h;
  complete = λ i xs ys h. h;
  after = λ i xs ys h. let r = item_sound i xs ys h in (r.0, sym r.2);
}

comma-is : (c : ℕ) (xs ys : List ℕ) → comma_at xs ≡ Some (c, ys) → xs ≡ 44 ∷ ys
comma-is c xs ys h = elim (cases_Bool (bytes_eq xs (codes ",...)"))) [
  | inl e ↦ cc (rw e at h)
  | inr e ↦ byte-is 44 c xs ys (rw e at h)
]

comma-takes : Takes comma_at
comma-takes c xs ys h = elim (cases_Bool (bytes_eq xs (codes ",...)"))) [
  | inl e ↦ cc (rw e at h)
  | inr e ↦ byte-takes 44 c xs ys (rw e at h)
]

more_sound : (items : List SpelledItem) (xs ys : List ℕ) → Many comma_at (λ _. Reads) items xs ys → (more : List ℕ) × IsMore items more × (xs ≡ more ++ ys)
more_sound [] xs ys h = ([], refl, h.0)
more_sound (i ∷ items) xs ys (c, m, n, is, one, rest) =
    let first = item_sound i m n one in
    let others = more_sound items n ys rest in (
      44 ∷ (first.0 ++ others.0),
      (first.0, others.0, first.1, others.1, refl),
      comma-is c xs m is ∙ ap (λ l. 44 ∷ l) (first.2 ∙ ap (λ l. first.0 ++ l) others.2 ∙ sym (append_assoc first.0 others.0 ys)),
    )

end_stops : (e : Extent) → comma_at (closing e) ≡ None
end_stops Node = refl
end_stops Tree = refl

more_ends : (items : List SpelledItem) (more : List ℕ) (e : Extent) → IsMore items more → Ends (more ++ closing e)
more_ends [] more Node h = rw h ([], inr refl)
more_ends [] more Tree h = rw h (codes "...)", inl refl)
more_ends (i ∷ items) more e (one, others, is, rest, same) = rw same ((one ++ others) ++ closing e, inl refl)

more_complete : (items : List SpelledItem) (more : List ℕ) (e : Extent) → IsMore items more → Many comma_at (λ _. Reads) items (more ++ closing e) (closing e)
more_complete [] more e h = rw h (refl, end_stops e)
more_complete (i ∷ items) more e (one, others, is, rest, same) =
    let after : List ℕ = others ++ closing e in
    let read : item_at (one ++ after) ≡ Some (i, after) = item_complete i one after is (more_ends items others e rest) in
    let whole : more ++ closing e ≡ 44 ∷ (one ++ after) = ap (λ l. l ++ closing e) same ∙ ap (λ l. 44 ∷ l) (append_assoc one others (closing e)) in
    let head : comma_at (44 ∷ (one ++ after)) ≡ Some (44, one ++ after) = rw (no_item_there i (one ++ after) after read) refl in
    (44, one ++ after, after, ap comma_at whole ∙ head, read, more_complete items others e rest)

-- lists
end_is : (xs : List ℕ) (e : Extent) → end_of xs ≡ Some e → xs ≡ closing e
end_is xs e h = elim (cases_Bool (bytes_eq xs (codes ")"))) [
  | inl b ↦
      let is : xs ≡ codes ")" = (bytes_eq-Decides xs (codes ")")).0 b in
      subst (λ x. xs ≡ closing x) (same_Some Node e (rw b at h)) is
  | inr b ↦ elim (cases_Bool (bytes_eq xs (codes ",...)"))) [
    | inl d ↦
        let is : xs ≡ codes ",...)" = (bytes_eq-Decides xs (codes ",...)")).0 d in
        subst (λ x. xs ≡ closing x) (same_Some Tree e (rw (b, d) at h)) is
    | inr d ↦ cc (rw (b, d) at h)
  ]
]

end_closes : (e : Extent) → end_of (closing e) ≡ Some e
end_closes Node = refl
end_closes Tree = refl

abbrev AreParts : List SpelledItem × Extent → List ℕ → Type 0
AreParts p text = IsParts p.0 p.1 text

parts_sound : (text : List ℕ) (p : List SpelledItem × Extent) → parts_of text ≡ Some p → AreParts p text
unfolding parts_of list_of
parts_sound [] p h = subst (λ q. AreParts q []) (same_Some ([], Node) p h) refl
parts_sound (b ∷ xs) p h = elim (cases_Bool (b == 40)) [
  | inr e ↦ cc (rw e at h)
  | inl e ↦ elim (cases_Bool (bytes_eq xs (codes "...)"))) [
    | inl d ↦
        let is : xs ≡ codes "...)" = (bytes_eq-Decides xs (codes "...)")).0 d in
        let whole : b ∷ xs ≡ codes "(...)" = ap (λ c. c ∷ xs) (eqb-true b 40 e) ∙ ap (λ l. 40 ∷ l) is in
        subst (λ q. AreParts q (b ∷ xs)) (same_Some ([], Tree) p (rw (e, d) at h)) whole
    | inr d ↦
        let r = then_some (separated comma_at item_at xs) ended p (rw (e, d) at h) in
        let (first, others, m, is, rest, all) = (separated-exact comma_at item_at Reads comma-takes reads_exact).sound r.0.0 xs r.0.1 r.1 in
        let x = then_some (end_of r.0.1) _ p r.2 in
        let one = item_sound first xs m is in
        let more = more_sound others m r.0.1 rest in
        let whole : b ∷ xs ≡ 40 ∷ (one.0 ++ (more.0 ++ closing x.0)) =
        ap (λ c. c ∷ xs) (eqb-true b 40 e) ∙ ap (λ l. 40 ∷ l) (one.2 ∙ ap (λ l. one.0 ++ l) (more.2 ∙ ap (λ l. more.0 ++ l) (end_is r.0.1 x.0 x.1))) in
        let parts : AreParts (first ∷ others, x.0) (b ∷ xs) = (one.0, more.0, one.1, more.1, whole) in
        subst (λ q. AreParts q (b ∷ xs)) (ap (λ l. (l, x.0)) (sym all) ∙ same_Some (r.0.0, x.0) p x.2) parts
  ]
]

parts_complete : (items : List SpelledItem) (e : Extent) (text : List ℕ) → IsParts items e text → parts_of text ≡ Some (items, e)
unfolding parts_of list_of
parts_complete [] Node text h = rw h refl
parts_complete [] Tree text h = rw h refl
parts_complete (i ∷ items) e text (one, more, is, rest, same) =
    let after : List ℕ = more ++ closing e in
    let read : item_at (one ++ after) ≡ Some (i, after) = item_complete i one after is (more_ends items more e rest) in
    let all : separated comma_at item_at (one ++ after) ≡ Some (i ∷ items, closing e) =
    (separated-exact comma_at item_at Reads comma-takes reads_exact).complete (i ∷ items) (one ++ after) (closing e) (i, items, after, read, more_complete items more e rest, refl) in
    rw same (rw (no_item_there i (one ++ after) after read) (rw all (rw (end_closes e) refl)))

parts_stop : (items : List SpelledItem) (e : Extent) (text : List ℕ) → IsParts items e text → stops is_name_byte text ≡ true
parts_stop [] Node text h = rw h refl
parts_stop [] Tree text h = rw h refl
parts_stop (i ∷ items) e text (one, more, is, rest, same) = rw same refl

-- lock names and patterns
names_sound : (text : List ℕ) (s : Spelling) → spelling_of text ≡ Some s → IsSpelled s text
unfolding spelling_of
names_sound text s h =
    let r = then_some (root_at text) _ s h in
    let p = then_some (parts_of r.0.1) _ s r.2 in
    let front = root-spelled r.0.0 text r.0.1 r.1 in
    subst (λ q. IsSpelled q text) (same_Some (spelling r.0.0 p.0) s p.2) (front.0, r.0.1, front.1, parts_sound r.0.1 p.0 p.1, front.2)

names_complete : (text : List ℕ) (s : Spelling) → IsSpelled s text → spelling_of text ≡ Some s
unfolding spelling_of
names_complete text s (front, rest, one, others, is) =
    rw is (rw (root-reads s.root front rest one (parts_stop s.items s.extent rest others)) (rw (parts_complete s.items s.extent rest others) refl))

global_root : (r : Root) (text ys : List ℕ) (c : ℕ) (m : List ℕ) → IsRoot r text → byte_at 94 (text ++ ys) ≡ Some (c, m) → (name : List ℕ) × (r ≡ root.Global name)
global_root (root.Global name) text ys c m h i = (name, refl)
global_root (root.Local name) text ys c m (good, is) i = cc (sym i ∙ ap (λ l. byte_at 94 (l ++ ys)) is ∙ no-caret name ys good)

patterns_sound : (text : List ℕ) (s : Spelling) → pattern_of text ≡ Some s → IsSpelledPattern s text
patterns_sound text s h =
    let c = then_some (byte_at 94 text) _ s h in
    let is = names_sound text s c.2 in
    (is, global_root s.root is.0 is.1 c.0.0 c.0.1 is.2 (sym (ap (byte_at 94) is.4) ∙ c.1))

global_caret : (r : Root) (name text ys : List ℕ) → IsRoot r text → r ≡ root.Global name → byte_at 94 (text ++ ys) ≡ Some (94, name ++ ys)
global_caret r name text ys h is =
    let g : IsRoot (root.Global name) text = subst (λ q. IsRoot q text) is h in rw g.1 refl

patterns_complete : (text : List ℕ) (s : Spelling) → IsSpelledPattern s text → pattern_of text ≡ Some s
patterns_complete text s (is, (name, same)) =
    let caret : byte_at 94 text ≡ Some (94, name ++ is.1) = ap (byte_at 94) is.4 ∙ global_caret s.root name is.0 is.1 is.2 same in
    rw caret (names_complete text s is)

-- entries
entries_sound : (text : List ℕ) → is_entry text ≡ true → IsEntryText text
entries_sound text h = go (entry_of text) refl h
  where
    go : (o : Option (List ℕ × List ℕ)) → entry_of text ≡ o → is_some o ≡ true → IsEntryText text
    go None is i = cc i
    go (Some e) is i = (e.0, e.1, (entries-written text e.0 e.1).0 is)

entries_complete : (text : List ℕ) → IsEntryText text → is_entry text ≡ true
entries_complete text (label, routine, h) = rw ((entries-written text label routine).1 h) refl

pub are_written : AreWritten
are_written = record {
  names = λ text s. (names_sound text s, names_complete text s);
  patterns = λ text s. (patterns_sound text s, patterns_complete text s);
  entries = λ text. (entries_sound text, entries_complete text);
}
