-- Whole texts in either format, and their reader.
use Rattle.std.proofs.Common.{◌≡◌, ◌<◌, ◌≤◌, ℕ, suc, ◌++◌, List, [], ◌∷◌, length, map, Some, None, Bool, true, false, refl, sym, ap, ◌∙◌, arith, subst, inl, inr, length-append}
use Rattle.std.specs.Prelude.{Option, Err, ◌⊎◌, drop, bytes_eq, ◌||◌, codes}
use Rattle.std.specs.Fmt.{decimal}
use Rattle.std.proofs.lemmas.Bool.{cases_Bool}
use Rattle.std.proofs.lemmas.Option.{same_Some}
use Rattle.std.proofs.lemmas.Slice.Eq.{bytes_eq-Decides}
use Rattle.mlk_text.specs.Reading.{with}
use Rattle.mlk_text.proofs.Readers.{then_some}
use Rattle.mlk_cert_parts.specs.declared.case.Case.{Case}
use Rattle.mlk_cert_parts.specs.declared.block.Point.{Point}
use Rattle.mlk_cert_parts.specs.declared.block.EntryCert.{EntryCert}
use Rattle.mlk_cert_lexemes.specs.Lists.{Each, flat, ascends, below}
use Rattle.mlk_cert_lexemes.specs.Reading.{word_at}
use Rattle.mlk_cert_parts.specs.Texts.{case_text, block_with, block_text, end_line, certificate_text}
use Rattle.mlk_cert_parts.specs.Limits.{IsCase, IsPoint, IsBlock, IsCertificate, longest}
use Rattle.mlk_cert_parts.specs.Checks.{has_text}
use Rattle.mlk_cert.specs.Blocks.{body_at}
use Rattle.mlk_cert.specs.Second.{IsOneOf, cases_of_points, cases_of_blocks, AreCases, numbered, point_line, numbered_text, IsSecondText, second_head}
use Rattle.mlk_cert.specs.Numbered.{greatest, cases_in, cases_at, listed_points_at, are_named, all_named, second_body_at, body_in, head_at}
use Rattle.mlk_cert.specs.declared.format.CertFormat.{CertFormat}
use Rattle.mlk_cert.specs.declared.format.CertFormat.TheVariants.{First, Second}
use Rattle.mlk_cert.specs.Theorem.{IsTextIn, Spells, OneCertificate, OneReading, OneText, ReadBack, IsReading}
use Rattle.mlk_cert.specs.Refusals.{IsPlaced, IsRefusal}
use Rattle.mlk_cert.specs.Writing.{IsUnspelled}
use Rattle.mlk_cert.specs.declared.read.fault.CertFault.{CertFault}
use Rattle.mlk_text.specs.declared.failure.Failure.{Failure}
use Rattle.mlk_text.specs.declared.failure.Failure.TheVariants.{OutOfMemory, Refused}
use Rattle.mlk_cert_lexemes.proofs.Formats.{both_true, both_back}
use Rattle.mlk_cert.proofs.Goods.{each-front, each-join}
use Rattle.mlk_cert.proofs.BlockFormats.{IsBlockWith}
use Rattle.mlk_cert.proofs.Tables.{same-texts, through}
use Rattle.mlk_cert.proofs.NumberedFormats.{table-is, table-back, NoCase}
use Rattle.mlk_cert.proofs.SecondFormat.{ArePointsAmong, length-map, second-apart, second-points-format}
use Rattle.mlk_cert.proofs.Whole.{AreBlocks, body-with-is, body-with-back, body-is, body-back, head_of, head-is, head-back}

-- whether a text is among others
pub among-has : (texts : List (List ℕ)) (t : List ℕ) → has_text texts t ≡ true → IsOneOf texts t
among-has [] t h = cc h
among-has (u ∷ texts) t h = elim (cases_Bool (bytes_eq t u)) [
  | inl e ↦ inl (sym ((bytes_eq-Decides t u).0 e))
  | inr e ↦ inr (among-has texts t (rw e at h))
]

pub has-among : (texts : List (List ℕ)) (t : List ℕ) → IsOneOf texts t → has_text texts t ≡ true
has-among [] t a = absurd a
has-among (u ∷ texts) t (inl e) = let k : bytes_eq t u ≡ true = (bytes_eq-Decides t u).1 (sym e) in rw k refl
has-among (u ∷ texts) t (inr e) = or-true (bytes_eq t u) (has_text texts t) (has-among texts t e)
  where
    or-true : (a b : Bool) → b ≡ true → (a || b) ≡ true
    or-true true b h = refl
    or-true false b h = h

named-good : (texts : List (List ℕ)) (cases : List Case) → are_named texts cases ≡ true → Each (IsOneOf texts) (map case_text cases)
named-good texts [] h = tt
named-good texts (c ∷ cases) h = let t = both_true (has_text texts (case_text c)) (are_named texts cases) h in (among-has texts (case_text c) t.0, named-good texts cases t.1)

named-back : (texts : List (List ℕ)) (cases : List Case) → Each (IsOneOf texts) (map case_text cases) → are_named texts cases ≡ true
named-back texts [] is = refl
named-back texts (c ∷ cases) is = both_back _ _ (has-among texts (case_text c) is.0) (named-back texts cases is.1)

-- what is among the cases of all blocks is among those of each
blocks-split : (texts : List (List ℕ)) (bs : List EntryCert) → Each (IsBlockWith (ArePointsAmong texts)) bs → Each IsBlock bs × Each (IsOneOf texts) (cases_of_blocks bs)
blocks-split texts [] is = (tt, tt)
blocks-split texts (b ∷ bs) is =
    let rest = blocks-split texts bs is.1 in
    let p = is.0.points in (
      (record { entry = is.0.entry; summary = is.0.summary; each_point = p.0.each; order = p.0.order }, rest.0),
      each-join (IsOneOf texts) (cases_of_points b.points) (cases_of_blocks bs) p.1 rest.1,
    )

blocks-join : (texts : List (List ℕ)) (bs : List EntryCert) → Each IsBlock bs → Each (IsOneOf texts) (cases_of_blocks bs) → Each (IsBlockWith (ArePointsAmong texts)) bs
blocks-join texts [] is among = tt
blocks-join texts (b ∷ bs) is among =
    let a = each-front (IsOneOf texts) (cases_of_points b.points) (cases_of_blocks bs) among in
    (record { entry = is.0.entry; summary = is.0.summary; points = (record { each = is.0.each_point; order = is.0.order }, a.0) }, blocks-join texts bs is.1 a.1)

-- every text of a case at a point is that of a case
point-case : (cases : List Case) (t : List ℕ) → Each IsCase cases → IsOneOf (map case_text cases) t → (c : Case) × IsCase c × (case_text c ≡ t)
point-case [] t is a = absurd a
point-case (c ∷ cases) t is (inl e) = (c, is.0, e)
point-case (c ∷ cases) t is (inr e) = point-case cases t is.1 e

among-split : (xs ys : List (List ℕ)) (t : List ℕ) → IsOneOf (xs ++ ys) t → IsOneOf xs t ⊎ IsOneOf ys t
among-split [] ys t a = inr a
among-split (x ∷ xs) ys t (inl e) = inl (inl e)
among-split (x ∷ xs) ys t (inr e) = elim (among-split xs ys t e) [ inl a ↦ inl (inr a) | inr a ↦ inr a ]

points-case : (ps : List Point) (t : List ℕ) → Each IsPoint ps → IsOneOf (cases_of_points ps) t → (c : Case) × IsCase c × (case_text c ≡ t)
points-case [] t is a = absurd a
points-case (p ∷ ps) t is a = elim (among-split (map case_text p.cases) (cases_of_points ps) t a) [ inl h ↦ point-case p.cases t is.0.each h | inr h ↦ points-case ps t is.1 h ]

blocks-case : (bs : List EntryCert) (t : List ℕ) → Each IsBlock bs → IsOneOf (cases_of_blocks bs) t → (c : Case) × IsCase c × (case_text c ≡ t)
blocks-case [] t is a = absurd a
blocks-case (b ∷ bs) t is a = elim (among-split (cases_of_points b.points) (cases_of_blocks bs) t a) [ inl h ↦ points-case b.points t is.0.each_point h | inr h ↦ blocks-case bs t is.1 h ]

-- the cases of texts
cases-found : (bs : List EntryCert) (texts : List (List ℕ)) → Each IsBlock bs → Each (IsOneOf (cases_of_blocks bs)) texts → (cases : List Case) × Each IsCase cases × (map case_text cases ≡ texts)
cases-found bs [] is named = ([], tt, refl)
cases-found bs (t ∷ texts) is named =
    let one = blocks-case bs t is named.0 in
    let rest = cases-found bs texts is named.1 in
    (one.0 ∷ rest.0, (one.1, rest.1), ap (λ z. z ∷ map case_text rest.0) one.2 ∙ ap (λ z. t ∷ z) rest.2)

-- there are no more texts than bytes in their text
numbered-room : (n : ℕ) (texts : List (List ℕ)) → length texts ≤ length (numbered n texts)
numbered-room n [] = omega arith
numbered-room n (t ∷ texts) =
    let h = numbered-room (suc n) texts in
    let l = length-append (codes "case ") ((decimal n ++ 32 ∷ t) ++ 10 ∷ []) in
    let m = length-append (codes "case " ++ ((decimal n ++ 32 ∷ t) ++ 10 ∷ [])) (numbered (suc n) texts) in
    omega arith

pub text-room : (texts : List (List ℕ)) (bs : List EntryCert) → length texts ≤ length (numbered_text texts bs)
text-room texts bs =
    let h = numbered-room 1 texts in
    let l = length-append second_head (numbered 1 texts ++ (flat (block_with (point_line texts)) bs ++ end_line)) in
    let m = length-append (numbered 1 texts) (flat (block_with (point_line texts)) bs ++ end_line) in
    omega arith

blocks-no-case : (texts : List (List ℕ)) (bs : List EntryCert) → NoCase (flat (block_with (point_line texts)) bs ++ end_line)
unfolding word_at
blocks-no-case texts [] = refl
blocks-no-case texts (b ∷ bs) = refl

-- what follows the second head line
second-is : (bs : List EntryCert) (xs : List ℕ) → length xs ≤ longest → second_body_at xs ≡ Some bs → IsCertificate bs × IsSecondText bs (second_head ++ xs)
unfolding second_body_at
second-is bs xs short h =
    let t = then_some (with cases_in (cases_at xs)) _ bs h in
    let b = then_some (body_at (listed_points_at (Some t.0.0)) t.0.1) (all_named t.0.0) bs t.2 in
    let table = table-is t.0.0 xs t.0.1 t.1 in
    let room = numbered-room 1 (map case_text t.0.0) in
    let many = length-map case_text t.0.0 in
    let whole = ap length table.0 in
    let split = length-append (numbered 1 (map case_text t.0.0)) t.0.1 in
    let few : length t.0.0 ≤ greatest = omega arith in
    let f = second-points-format t.0.0 table.1 table.2 few in
    let s = body-with-is (point_line (map case_text t.0.0)) (ArePointsAmong (map case_text t.0.0)) (listed_points_at (Some t.0.0)) f (second-apart t.0.0 table.1 table.2) b.0 t.0.1 b.1 in
    named-part t.0.0 b.0 s.0 table.2 (table.0 ∙ ap (λ z. numbered 1 (map case_text t.0.0) ++ z) s.1) (cases_Bool (are_named (cases_of_blocks b.0) t.0.0)) b.2
  where
    named-part : (cases : List Case) (found : List EntryCert) → AreBlocks (ArePointsAmong (map case_text cases)) found → ascends below (map case_text cases) ≡ true
        → xs ≡ numbered 1 (map case_text cases) ++ (flat (block_with (point_line (map case_text cases))) found ++ end_line)
        → (are_named (cases_of_blocks found) cases ≡ true) ⊎ (are_named (cases_of_blocks found) cases ≡ false) → all_named cases found ≡ Some bs → IsCertificate bs × IsSecondText bs (second_head ++ xs)
    named-part cases found is up text (inr e) k = cc (rw e at k)
    named-part cases found is up text (inl e) k =
        let same : found ≡ bs = same_Some found bs (rw e at k) in
        let p = blocks-split (map case_text cases) found is.0 in
        let P : List EntryCert → Type 0 = λ z. IsCertificate z × IsSecondText z (second_head ++ xs) in
        subst P same (
          record { each = p.0; distinct = is.1 },
          (map case_text cases, record { order = up; all = p.1; named = named-good (cases_of_blocks found) cases e }, ap (λ z. second_head ++ z) text),
        )

second-back : (bs : List EntryCert) (texts : List (List ℕ)) → IsCertificate bs → AreCases bs texts → length texts ≤ greatest
    → second_body_at (numbered 1 texts ++ (flat (block_with (point_line texts)) bs ++ end_line)) ≡ Some bs
unfolding second_body_at
second-back bs texts is are few = let c = cases-found bs texts is.each are.named in go c.0 c.1 c.2
  where
    back : (cases : List Case) → Each IsCase cases → AreCases bs (map case_text cases) → length (map case_text cases) ≤ greatest
        → second_body_at (numbered 1 (map case_text cases) ++ (flat (block_with (point_line (map case_text cases))) bs ++ end_line)) ≡ Some bs
    back cases good these few' =
        let many = length-map case_text cases in
        let small : length cases ≤ greatest = omega arith in
        let ys : List ℕ = flat (block_with (point_line (map case_text cases))) bs ++ end_line in
        let table = table-back cases ys good these.order small (blocks-no-case (map case_text cases) bs) in
        let f = second-points-format cases good these.order small in
        let body = body-with-back (point_line (map case_text cases)) (ArePointsAmong (map case_text cases)) (listed_points_at (Some cases)) f (second-apart cases good these.order) bs ys refl (blocks-join (map case_text cases) bs is.each these.all, is.distinct) in
        rw table (rw body (rw (named-back (cases_of_blocks bs) cases these.named) refl))

    go : (cases : List Case) → Each IsCase cases → map case_text cases ≡ texts → second_body_at (numbered 1 texts ++ (flat (block_with (point_line texts)) bs ++ end_line)) ≡ Some bs
    go cases good same =
        let P : List (List ℕ) → Type 0 = λ z. second_body_at (numbered 1 z ++ (flat (block_with (point_line z)) bs ++ end_line)) ≡ Some bs in
        subst P same (back cases good (subst (λ z. AreCases bs z) (sym same) are) (subst (λ z. length z ≤ greatest) (sym same) few))

-- what follows the head line of either format
pub body-in-is : (format : CertFormat) (bs : List EntryCert) (text rest : List ℕ) → head_at text ≡ Some (format, rest) → body_in format rest ≡ Some bs → length text ≤ longest → Spells bs text
body-in-is First bs text rest head read short =
    let s = body-is bs rest read in
    record { is = s.0; format = First; text = head-is text rest First head ∙ ap (λ z. head_of First ++ z) s.1; short = short }
body-in-is Second bs text rest head read short =
    let at = head-is text rest Second head in
    let l = length-append second_head rest in
    let k = ap length at in
    let s = second-is bs rest (omega arith) read in
    record { is = s.0; format = Second; text = subst (λ z. IsSecondText bs z) (sym at) s.1; short = short }

read-of : (format : CertFormat) (bs : List EntryCert) (text : List ℕ) → IsCertificate bs → IsTextIn format bs text → length text ≤ longest → (rest : List ℕ) × (head_at text ≡ Some (format, rest)) × (body_in format rest ≡ Some bs)
read-of First bs text is at short = (flat block_text bs ++ end_line, ap head_at at ∙ head-back (flat block_text bs ++ end_line) First, body-back bs (flat block_text bs ++ end_line) refl is)
read-of Second bs text is (texts, are, at) short =
    let r : List ℕ = numbered 1 texts ++ (flat (block_with (point_line texts)) bs ++ end_line) in
    let room = text-room texts bs in
    let k = ap length at in
    (r, ap head_at at ∙ head-back r Second, second-back bs texts is are (omega arith))

-- what a text is read as is what it spells
pub text-read : (format : CertFormat) (bs : List EntryCert) (text rest : List ℕ) → head_at text ≡ Some (format, rest) → Spells bs text → body_in format rest ≡ Some bs
text-read format bs text rest head s =
    let r = read-of s.format bs text s.is s.text s.short in
    let p = same_Some (s.format, r.0) (format, rest) (sym r.1 ∙ head) in
    let P : CertFormat × List ℕ → Type 0 = λ z. body_in z.0 z.1 ≡ Some bs in
    subst P p r.2

pub text-same : (format : CertFormat) (bs found : List EntryCert) (text rest : List ℕ) → head_at text ≡ Some (format, rest) → body_in format rest ≡ Some found → Spells bs text → found ≡ bs
text-same format bs found text rest head read s = same_Some found bs (sym read ∙ text-read format bs text rest head s)

pub body-refused : (format : CertFormat) (bs : List EntryCert) (text rest : List ℕ) → head_at text ≡ Some (format, rest) → body_in format rest ≡ None → Spells bs text → ⊥
body-refused format bs text rest head none s = let k : ◌≡◌ {A = Option (List EntryCert)} None (Some bs) = sym none ∙ text-read format bs text rest head s in cc k

pub head-refused : (bs : List EntryCert) (text : List ℕ) → head_at text ≡ None → Spells bs text → ⊥
head-refused bs text none s =
    let r = read-of s.format bs text s.is s.text s.short in
    let k : ◌≡◌ {A = Option (CertFormat × List ℕ)} None (Some (s.format, r.0)) = sym none ∙ r.1 in cc k

pub too-long : (bs : List EntryCert) (text : List ℕ) → longest < length text → Spells bs text → ⊥
too-long bs text h s = let short = s.short in absurd (omega arith)

-- what is reported of blocks whose text is not read
pub unspelled : (blocks : List EntryCert) (text : List ℕ) (e : Failure CertFault) → text ≡ certificate_text blocks → IsReading text (Err e) → IsPlaced text e → IsUnspelled blocks e
unspelled blocks text OutOfMemory is back placed = tt
unspelled blocks text (Refused fault) is back placed =
    let P : List ℕ → Type 0 = λ z. (Spells blocks z → ⊥) × IsRefusal z fault in
    subst P is (back blocks, placed)

pub one-reading : OneReading
one-reading bs cs text s r =
    let a = read-of s.format bs text s.is s.text s.short in
    let b = text-read s.format cs text a.0 a.1 r in
    same_Some bs cs (sym a.2 ∙ b)

pub one-certificate : OneCertificate
one-certificate bs cs is js same =
    let texts : flat block_text bs ++ end_line ≡ flat block_text cs ++ end_line = ap (λ z. drop (length (head_of First)) z) same in
    same_Some bs cs (sym (body-back bs (flat block_text bs ++ end_line) refl is) ∙ body-back cs (flat block_text bs ++ end_line) texts js)

pub one-text : OneText
one-text First bs text other a b = a ∙ sym b
one-text Second bs text other (texts, are, is) (others, these, js) =
    let same = same-texts texts others are.order these.order (through (cases_of_blocks bs) texts others these.all are.named) (through (cases_of_blocks bs) others texts are.all these.named) in
    is ∙ ap (λ z. numbered_text z bs) same ∙ sym js

pub read-back : ReadBack
read-back format bs text answer is at short reading = reading bs (record { is = is; format = format; text = at; short = short })
