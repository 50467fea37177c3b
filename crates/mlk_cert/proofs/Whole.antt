-- Whole certificates and their reader.
use Rattle.std.proofs.Common.{◌≡◌, ◌<◌, ◌≤◌, ℕ, zero, suc, ◌++◌, List, [], ◌∷◌, length, map, Some, None, Bool, true, false, refl, sym, ap, ◌∙◌, arith, subst, inl, inr, append_assoc, length-append}
use Rattle.std.specs.Prelude.{Option, ◌==◌, if◌then◌else◌, codes, nat_le, ◌&&◌, take}
use Rattle.std.proofs.lemmas.Bool.Decides.{nat_tests}
use Rattle.std.proofs.lemmas.Option.{same_Some}
use Rattle.mlk_text.specs.Codes.{number_of}
use Rattle.mlk_text.specs.declared.code.Code.{Code}
use Rattle.mlk_text.specs.declared.code.Code.TheVariants.{Head, CertLimit, NoEnd}
use Rattle.mlk_text.proofs.Readers.{then_some}
use Rattle.mlk_cert_parts.specs.declared.block.Point.{Point}
use Rattle.mlk_cert_parts.specs.declared.block.EntryCert.{EntryCert}
use Rattle.mlk_cert_lexemes.specs.Lists.{Each, flat}
use Rattle.mlk_cert_parts.specs.Texts.{head_line, end_line, summary_text, point_text, block_text, block_with}
use Rattle.mlk_cert_parts.specs.Limits.{IsBlock, IsCertificate, TextsDiffer, longest}
use Rattle.mlk_cert_parts.specs.Checks.{fit_blocks, entries}
use Rattle.mlk_cert_lexemes.specs.Reading.{word_at}
use Rattle.mlk_cert.specs.declared.read.fault.CertFault.{CertFault}
use Rattle.mlk_cert.specs.declared.format.CertFormat.{CertFormat}
use Rattle.mlk_cert.specs.declared.format.CertFormat.TheVariants.{First, Second}
use Rattle.mlk_cert.specs.Blocks.{fit, worded_at, ReadsPoints, block_at, blocks_at, finished, body_at}
use Rattle.mlk_cert.specs.Numbered.{listed_points_at, head_by, head_at}
use Rattle.mlk_cert.specs.Second.{second_head}
use Rattle.mlk_cert.specs.Refusals.{lines_in, is_refusal, HasHead, IsRefusal}
use Rattle.mlk_cert.specs.Faults.{is_later, at_first, IsLater}
use Rattle.mlk_cert_lexemes.proofs.Formats.{Format, word-is, word-back}
use Rattle.mlk_cert.proofs.LineFormats.{fit-is, worded-is, worded-back}
use Rattle.mlk_cert.proofs.Goods.{distinct-good, distinct-back}
use Rattle.mlk_cert.proofs.BlockFormats.{ArePoints, NoPoint, NoExit, points-format, points-no-exit, body_text, IsBlockWith, EndsBlock, block-format}

-- blocks with such points, without two entries of one text
abbrev pub AreBlocks : (List Point → Type 0) → List EntryCert → Type 0
AreBlocks Is bs = Each (IsBlockWith Is) bs × TextsDiffer (map (λ b. b.entry) bs)

entry-ends : (n : List ℕ) → EndsBlock (codes "entry " ++ n)
unfolding word_at
entry-ends n = (refl, refl)

end-ends : EndsBlock end_line
unfolding word_at
end-ends = (refl, refl)

end-no-entry : word_at (codes "entry ") end_line ≡ None
unfolding word_at
end-no-entry = refl

finished-is : (bs cs : List EntryCert) (xs : List ℕ) → finished bs xs ≡ Some cs → (bs ≡ cs) × (xs ≡ [])
finished-is bs cs [] h = (same_Some bs cs h, refl)
finished-is bs cs (b ∷ xs) h = cc h

module _ (point : Point → List ℕ) (Is : List Point → Type 0) (points : ReadsPoints) (f : Format (flat point) Is NoPoint points)
    (apart : (ps : List Point) (ys : List ℕ) → Is ps → NoExit ys → NoExit (flat point ps ++ ys)) where
  abbrev worded_text : EntryCert → List ℕ
  worded_text b = codes "entry " ++ body_text point b

  -- a block's text, split after its word
  block-worded : (b : EntryCert) → worded_text b ≡ block_with point b
  block-worded b = sym (append_assoc (codes "entry ") (b.entry ++ 10 ∷ []) (summary_text b.summary ++ flat point b.points))

  blocks-worded : (bs : List EntryCert) → flat worded_text bs ≡ flat (block_with point) bs
  blocks-worded [] = refl
  blocks-worded (b ∷ bs) = ap (λ z. z ++ flat worded_text bs) (block-worded b) ∙ ap (λ z. block_with point b ++ z) (blocks-worded bs)

  blocks-is : (bs : List EntryCert) (xs ys : List ℕ) → blocks_at points xs ≡ Some (bs, ys) → (xs ≡ flat (block_with point) bs ++ ys) × AreBlocks Is bs
  unfolding blocks_at
  blocks-is bs xs ys h =
      let w = then_some (worded_at (codes "entry ") (block_at points) xs) (fit fit_blocks) (bs, ys) h in
      let t = fit-is fit_blocks w.0 (bs, ys) w.2 in
      let s = worded-is (body_text point) (IsBlockWith Is) EndsBlock (block_at points) (block-format point Is points f apart) (codes "entry ") bs xs ys (w.1 ∙ ap (λ z. Some z) t.0) in
      (s.0 ∙ ap (λ z. z ++ ys) (blocks-worded bs), (s.1, distinct-good (entries bs) t.1))

  blocks-back : (bs : List EntryCert) → AreBlocks Is bs → blocks_at points (flat (block_with point) bs ++ end_line) ≡ Some (bs, end_line)
  unfolding blocks_at
  blocks-back bs is =
      rw (sym (ap (λ z. z ++ end_line) (blocks-worded bs)))
      (rw (worded-back (body_text point) (IsBlockWith Is) EndsBlock (block_at points) (block-format point Is points f apart) (codes "entry ") (omega arith) entry-ends bs end_line is.0 end-ends end-no-entry)
      (rw (distinct-back (entries bs) is.1) refl))

  pub body-with-is : (bs : List EntryCert) (xs : List ℕ) → body_at points xs ≡ Some bs → AreBlocks Is bs × (xs ≡ flat (block_with point) bs ++ end_line)
  unfolding body_at
  body-with-is bs xs k =
      let b = then_some (blocks_at points xs) _ bs k in
      let e = then_some (word_at end_line b.0.1) _ bs b.2 in
      let f = finished-is b.0.0 bs e.0.1 e.2 in
      let s = blocks-is b.0.0 xs b.0.1 b.1 in
      let last : b.0.1 ≡ end_line = (word-is end_line e.0.0 b.0.1 e.0.1 e.1).0 ∙ ap (λ z. end_line ++ z) f.1 in
      let P : List EntryCert → Type 0 = λ z. AreBlocks Is z × (xs ≡ flat (block_with point) z ++ end_line) in
      subst P f.0 (s.1, s.0 ∙ ap (λ z. flat (block_with point) b.0.0 ++ z) last)

  pub body-with-back : (bs : List EntryCert) (xs : List ℕ) → xs ≡ flat (block_with point) bs ++ end_line → AreBlocks Is bs → body_at points xs ≡ Some bs
  unfolding body_at
  body-with-back bs xs text is = ap (body_at points) text ∙ (rw (blocks-back bs is) (rw (word-back end_line []) refl))

-- blocks whose points list their cases in full
first-format : Format (flat point_text) ArePoints NoPoint (listed_points_at None)
first-format = record { sound = points-format.sound; complete = points-format.complete }

pub blocks-good : (bs : List EntryCert) → Each (IsBlockWith ArePoints) bs → Each IsBlock bs
blocks-good [] is = tt
blocks-good (b ∷ bs) is = (record { entry = is.0.entry; summary = is.0.summary; each_point = is.0.points.each; order = is.0.points.order }, blocks-good bs is.1)

blocks-have : (bs : List EntryCert) → Each IsBlock bs → Each (IsBlockWith ArePoints) bs
blocks-have [] is = tt
blocks-have (b ∷ bs) is = (record { entry = is.0.entry; summary = is.0.summary; points = record { each = is.0.each_point; order = is.0.order } }, blocks-have bs is.1)

pub body-is : (bs : List EntryCert) (xs : List ℕ) → body_at (listed_points_at None) xs ≡ Some bs → IsCertificate bs × (xs ≡ flat block_text bs ++ end_line)
body-is bs xs k = let s = body-with-is point_text ArePoints (listed_points_at None) first-format points-no-exit bs xs k in (record { each = blocks-good bs s.0.0; distinct = s.0.1 }, s.1)

pub body-back : (bs : List EntryCert) (xs : List ℕ) → xs ≡ flat block_text bs ++ end_line → IsCertificate bs → body_at (listed_points_at None) xs ≡ Some bs
body-back bs xs text is = body-with-back point_text ArePoints (listed_points_at None) first-format points-no-exit bs xs text (blocks-have bs is.each, is.distinct)

lines-take : (n : ℕ) (xs : List ℕ) → lines_in (take n xs) ≤ lines_in xs
lines-take zero xs = omega arith
lines-take (suc n) [] = omega arith
lines-take (suc n) (b ∷ xs) = let h = lines-take n xs in go (b == 10) h
  where
    go : (t : Bool) → lines_in (take n xs) ≤ lines_in xs → (if t then suc (lines_in (take n xs)) else lines_in (take n xs)) ≤ (if t then suc (lines_in xs) else lines_in xs)
    go true h = omega arith
    go false h = h

pub lines-within : (n lines : ℕ) (front xs : List ℕ) → front ≡ take n xs → lines ≡ lines_in front → lines ≤ lines_in xs
lines-within n lines front xs is count = let h = lines-take n xs in let e : lines ≡ lines_in (take n xs) = count ∙ ap lines_in is in omega arith

-- the head line of a format
abbrev pub head_of : CertFormat → List ℕ
head_of First = head_line
head_of Second = second_head

second-no-first : (rest : List ℕ) → word_at head_line (second_head ++ rest) ≡ None
unfolding word_at
second-no-first rest = refl

pub head-is : (text rest : List ℕ) (format : CertFormat) → head_at text ≡ Some (format, rest) → text ≡ head_of format ++ rest
head-is text rest format h = go (word_at head_line text) refl h
  where
    go : (o : Option (List ℕ × List ℕ)) → word_at head_line text ≡ o → head_by text o ≡ Some (format, rest) → text ≡ head_of format ++ rest
    go (Some r) is k =
        let p = same_Some (First, r.1) (format, rest) k in
        let P : CertFormat × List ℕ → Type 0 = λ z. text ≡ head_of z.0 ++ z.1 in
        subst P p (word-is head_line r.0 text r.1 is).0
    go None is k =
        let r = then_some (word_at second_head text) _ (format, rest) k in
        let p = same_Some (Second, r.0.1) (format, rest) r.2 in
        let P : CertFormat × List ℕ → Type 0 = λ z. text ≡ head_of z.0 ++ z.1 in
        subst P p (word-is second_head r.0.0 text r.0.1 r.1).0

pub head-back : (rest : List ℕ) (format : CertFormat) → head_at (head_of format ++ rest) ≡ Some (format, rest)
head-back rest First = rw (word-back head_line rest) refl
head-back rest Second = rw (second-no-first rest) (rw (word-back second_head rest) refl)

-- the head line is one line
lines-head : (format : CertFormat) (rest : List ℕ) → lines_in (head_of format ++ rest) ≡ suc (lines_in rest)
lines-head First rest = refl
lines-head Second rest = refl

later-code : (code : Code) → is_later code ≡ true → is_refusal code ≡ true
later-code code h = go (number_of code) h
  where
    go : (n : ℕ) → (nat_le 602 n && nat_le n 607) ≡ true → (nat_le 601 n && nat_le n 607) ≡ true
    go n h = grind (arith, nat_tests)

pub long-placed : (text : List ℕ) → longest < length text → IsRefusal text (at_first CertLimit)
long-placed text h = record {
  code = refl;
  from_one = omega arith;
  inside = omega arith;
  long = (λ _. (refl, refl), λ _. h);
  head = (λ short. let k = short.0 in absurd (omega arith), λ e. cc e);
  at_head = λ e. cc e;
  ends = λ e. cc e;
}

pub head-placed : (text : List ℕ) → length text ≤ longest → head_at text ≡ None → IsRefusal text (at_first Head)
head-placed text short none = record {
  code = refl;
  from_one = omega arith;
  inside = omega arith;
  long = (λ h. absurd (omega arith), λ e. let k = e.0 in cc k);
  head = (λ _. refl, λ _. (short, headless));
  at_head = λ _. refl;
  ends = λ e. cc e;
}
  where
    other : (format : CertFormat) (rest : List ℕ) → text ≡ head_of format ++ rest → ⊥
    other format rest is = let k : ◌≡◌ {A = Option (CertFormat × List ℕ)} None (Some (format, rest)) = sym none ∙ ap head_at is ∙ head-back rest format in cc k

    headless : HasHead text → ⊥
    headless (rest, inl is) = other First rest is
    headless (rest, inr is) = other Second rest is

has-head : (format : CertFormat) (text rest : List ℕ) → text ≡ head_of format ++ rest → HasHead text
has-head First text rest is = (rest, inl is)
has-head Second text rest is = (rest, inr is)

pub later-placed : (format : CertFormat) (text rest : List ℕ) (fault : CertFault) → length text ≤ longest → head_at text ≡ Some (format, rest) → IsLater rest fault → IsRefusal text fault
later-placed format text rest fault short head later =
    let is = head-is text rest format head in
    let lines : lines_in text ≡ suc (lines_in rest) = ap lines_in is ∙ lines-head format rest in
    let inside = later.inside in
    record {
      code = later-code fault.code later.code;
      from_one = later.from_one;
      inside = omega arith;
      long = (λ h. absurd (omega arith), λ e. absurd (not-first e.0 e.1));
      head = (λ none. absurd (none.1 (has-head format text rest is)), λ e. absurd (not-head e));
      at_head = λ e. absurd (not-head e);
      ends = λ e. let k = later.ends e in omega arith;
    }
  where
    not-head : fault.code ≡ Head → ⊥
    not-head e = let k = subst (λ z. is_later z ≡ true) e later.code in cc k

    not-first : fault.code ≡ CertLimit → fault.line ≡ 1 → ⊥
    not-first e one = let k = later.behind_head (λ f. let g : CertLimit ≡ NoEnd = sym e ∙ f in cc g) in absurd (omega arith)

pub rest-short : (format : CertFormat) (text rest : List ℕ) → length text ≤ longest → head_at text ≡ Some (format, rest) → length rest ≤ longest
rest-short format text rest short head =
    let k : length text ≡ length (head_of format ++ rest) = ap length (head-is text rest format head) in
    let l = length-append (head_of format) rest in omega arith
