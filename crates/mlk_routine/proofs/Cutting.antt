-- Texts and their lines.
use Rattle.std.proofs.Common.{◌≡◌, ◌⊎◌, ◌+◌, ◌-◌, ◌<◌, ◌≤◌, ℕ, zero, suc, Bool, true, false, cond, ◌==◌, nat_lt, List, [], ◌∷◌, ◌++◌, length, length-append, take, map, slice_index, refl, sym, ap, subst, ◌∙◌, arith, inl, inr, append-nil, append_assoc}
use Rattle.std.specs.Prelude.{not}
use Rattle.std.specs.List.{list_all}
use Rattle.std.proofs.Math.Seq.{get_or-append_seam, take-append_seam, drop-append_seam}
use Rattle.std.proofs.lemmas.Bool.{cases_Bool, and_parts, not-true}
use Rattle.std.proofs.lemmas.Bool.Decides.{nat_tests}
use Rattle.bstr.specs.Text.{line_len, lines_of, no_cr, without_terminator}
use Rattle.bstr.proofs.lemmas.LineLemmas.{lines-nil, lines-step}
use Rattle.mlk_routine.specs.RoutineGrammar.{is_line_byte, IsEnd, AreCut}
use Rattle.mlk_routine.specs.Lines.{AllPlain}

-- the last byte
last_is : (s : List ℕ) (b : ℕ) → slice_index (s ++ b ∷ []) (length (s ++ b ∷ []) - 1) ≡ b
last_is s b =
    let size = length-append s (b ∷ []) in
    let n : length (s ++ b ∷ []) - 1 ≡ length s = omega (arith, size) in
    ap (slice_index (s ++ b ∷ [])) n ∙ get_or-append_seam s b [] 0

front_is : (s : List ℕ) (b : ℕ) → take (length (s ++ b ∷ []) - 1) (s ++ b ∷ []) ≡ s
front_is s b =
    let size = length-append s (b ∷ []) in
    let n : length (s ++ b ∷ []) - 1 ≡ length s = omega (arith, size) in
    ap (λ k. take k (s ++ b ∷ [])) n ∙ take-append_seam s (b ∷ [])

some_there : (s : List ℕ) (b : ℕ) → nat_lt 0 (length (s ++ b ∷ [])) ≡ true
some_there s b = let size = length-append s (b ∷ []) in grind (arith, nat_tests, size)

-- removing the end of a line that ends in this byte
ended_by : (s : List ℕ) (b : ℕ) → without_terminator (s ++ b ∷ []) ≡ cond (b == 10) (no_cr s) (s ++ b ∷ [])
ended_by s b = rw (some_there s b) (rw (last_is s b) (rw (front_is s b) refl))

cr_by : (s : List ℕ) (b : ℕ) → no_cr (s ++ b ∷ []) ≡ cond (b == 13) s (s ++ b ∷ [])
cr_by s b = rw (some_there s b) (rw (last_is s b) (rw (front_is s b) refl))

-- a list with its last byte
snoc : (b : ℕ) (s : List ℕ) → (t : List ℕ) × (c : ℕ) × (b ∷ s ≡ t ++ c ∷ [])
snoc b [] = ([], b, refl)
snoc b (c ∷ s) = let r = snoc c s in (b ∷ r.0, r.1, ap (λ l. b ∷ l) (r.2))

plain_last : (t : List ℕ) (c : ℕ) → list_all is_line_byte (t ++ c ∷ []) ≡ true → is_line_byte c ≡ true
plain_last [] c h = (and_parts (is_line_byte c) true h).0
plain_last (b ∷ t) c h = plain_last t c (and_parts (is_line_byte b) (list_all is_line_byte (t ++ c ∷ [])) h).1

plain_byte : (c : ℕ) → is_line_byte c ≡ true → ((c == 10) ≡ false) × ((c == 13) ≡ false)
plain_byte c h = (go (cases_Bool (c == 10)), come (cases_Bool (c == 13)))
  where
    go : ((c == 10) ≡ true) ⊎ ((c == 10) ≡ false) → (c == 10) ≡ false
    go (inl e) = cc (rw e at h)
    go (inr e) = e

    come : ((c == 13) ≡ true) ⊎ ((c == 13) ≡ false) → (c == 13) ≡ false
    come (inl e) = elim (cases_Bool (c == 10)) [ inl f ↦ cc (rw f at h) | inr f ↦ cc (rw e at (rw f at h)) ]
    come (inr e) = e

-- a line without an end keeps all its bytes
kept_whole : (s : List ℕ) → list_all is_line_byte s ≡ true → (without_terminator s ≡ s) × (no_cr s ≡ s)
kept_whole [] h = (refl, refl)
kept_whole (b ∷ s) h =
    let r = snoc b s in
    let c = plain_byte (r.1) (plain_last (r.0) (r.1) (subst (λ l. list_all is_line_byte l ≡ true) (r.2) h)) in
    (ap without_terminator (r.2) ∙ ended_by (r.0) (r.1) ∙ rw c.0 refl ∙ sym (r.2), ap no_cr (r.2) ∙ cr_by (r.0) (r.1) ∙ rw c.1 refl ∙ sym (r.2))

-- no line feed
abbrev pub is_no_lf : ℕ → Bool
is_no_lf b = not (b == 10)

plain_no_lf : (s : List ℕ) → list_all is_line_byte s ≡ true → list_all is_no_lf s ≡ true
plain_no_lf [] h = refl
plain_no_lf (b ∷ s) h =
    let p = and_parts (is_line_byte b) (list_all is_line_byte s) h in
    rw (plain_byte b p.0).0 (plain_no_lf s p.1)

-- the first line of a text
first_len : (s rest : List ℕ) → list_all is_no_lf s ≡ true → line_len (s ++ rest) ≡ length s + line_len rest
unfolding line_len
first_len [] rest h = omega arith
first_len (b ∷ s) rest h =
    let p = and_parts (is_no_lf b) (list_all is_no_lf s) h in
    let more = first_len s rest p.1 in
    rw (not-true (b == 10) p.0) (omega (arith, more))

-- a text that begins with a line and its end
cut_off : (s end rest : List ℕ) → 0 < length (s ++ end) → line_len ((s ++ end) ++ rest) ≡ length (s ++ end) → lines_of ((s ++ end) ++ rest) ≡ (s ++ end) ∷ lines_of rest
cut_off s end rest some size =
    let whole = length-append (s ++ end) rest in
    let step = lines-step ((s ++ end) ++ rest) (omega arith) in
    step ∙ rw size (rw (take-append_seam (s ++ end) rest) (rw (drop-append_seam (s ++ end) rest) refl))

lf_len : (rest : List ℕ) → line_len (10 ∷ rest) ≡ 1
unfolding line_len
lf_len rest = refl

crlf_len : (rest : List ℕ) → line_len (13 ∷ 10 ∷ rest) ≡ 2
unfolding line_len
crlf_len rest = refl

none_len : line_len [] ≡ 0
unfolding line_len
none_len = refl

-- the length of the first line, from its end
end_len : (s end rest : List ℕ) → list_all is_no_lf s ≡ true → line_len (end ++ rest) ≡ length end → line_len ((s ++ end) ++ rest) ≡ length (s ++ end)
end_len s end rest plain h =
    let size = length-append s end in
    let f = first_len s (end ++ rest) plain in
    ap line_len (append_assoc s end rest) ∙ f ∙ ap (λ n. length s + n) h ∙ sym size

pub end_is : (s end rest : List ℕ) → list_all is_line_byte s ≡ true → IsEnd s end rest
    → (0 < length (s ++ end)) × (line_len (end ++ rest) ≡ length end) × (without_terminator (s ++ end) ≡ s)
end_is s end rest plain (inl lf) =
    let size = length-append s (10 ∷ []) in
    rw lf (omega (arith, size), lf_len rest, ended_by s 10 ∙ (kept_whole s plain).1)
end_is s end rest plain (inr (inl crlf)) =
    let size = length-append s (13 ∷ 10 ∷ []) in
    let apart : s ++ 13 ∷ 10 ∷ [] ≡ (s ++ 13 ∷ []) ++ 10 ∷ [] = sym (append_assoc s (13 ∷ []) (10 ∷ [])) in
    rw crlf (omega (arith, size), crlf_len rest, ap without_terminator apart ∙ ended_by (s ++ 13 ∷ []) 10 ∙ cr_by s 13)
end_is [] end rest plain (inr (inr h)) = absurd (h.2 refl)
end_is (b ∷ s) end rest plain (inr (inr h)) =
    let size = length-append (b ∷ s) [] in
    rw (h.0, h.1) (omega (arith, size), none_len, ap without_terminator (append-nil (b ∷ s)) ∙ (kept_whole (b ∷ s) plain).0)

-- The lines of a text are the only ones that it is cut into.
pub cut_only : (lines : List (List ℕ)) (text : List ℕ) → AreCut lines text → lines ≡ map without_terminator (lines_of text)
cut_only [] text h = rw h (rw lines-nil refl)
cut_only (s ∷ lines) text (end, rest, is, plain, ending, more) =
    let others = cut_only lines rest more in
    let e = end_is s end rest plain ending in
    let joined : text ≡ (s ++ end) ++ rest = is ∙ sym (append_assoc s end rest) in
    rw joined (rw (cut_off s end rest e.0 (end_len s end rest (plain_no_lf s plain) e.1)) (rw (e.2) (rw others refl)))

-- a text with a line feed, and one without
find_lf : (text : List ℕ) → ((s : List ℕ) × (rest : List ℕ) × (text ≡ s ++ 10 ∷ rest) × (list_all is_no_lf s ≡ true)) ⊎ (list_all is_no_lf text ≡ true)
find_lf [] = inr refl
find_lf (b ∷ text) = go (cases_Bool (b == 10)) (find_lf text)
  where
    go : ((b == 10) ≡ true) ⊎ ((b == 10) ≡ false) → ((s : List ℕ) × (rest : List ℕ) × (text ≡ s ++ 10 ∷ rest) × (list_all is_no_lf s ≡ true)) ⊎ (list_all is_no_lf text ≡ true)
        → ((s : List ℕ) × (rest : List ℕ) × (b ∷ text ≡ s ++ 10 ∷ rest) × (list_all is_no_lf s ≡ true)) ⊎ (list_all is_no_lf (b ∷ text) ≡ true)
    go (inl lf) more = let e : b ≡ 10 = grind (arith, nat_tests, lf) in inl ([], text, ap (λ c. c ∷ text) e, refl)
    go (inr other) (inl (s, rest, is, no_lf)) = inl (b ∷ s, rest, ap (λ l. b ∷ l) is, rw other no_lf)
    go (inr other) (inr no_lf) = inr (rw other no_lf)

-- what a line feed ends: a line, perhaps with a carriage return
no_lf_last : (t : List ℕ) (c : ℕ) → list_all is_no_lf (t ++ c ∷ []) ≡ true → (c == 10) ≡ false
no_lf_last [] c h = not-true (c == 10) (and_parts (is_no_lf c) true h).0
no_lf_last (b ∷ t) c h = no_lf_last t c (and_parts (is_no_lf b) (list_all is_no_lf (t ++ c ∷ [])) h).1

cut_line : (s rest : List ℕ) → (end : List ℕ) × (s ++ 10 ∷ rest ≡ no_cr s ++ (end ++ rest)) × IsEnd (no_cr s) end rest
cut_line [] rest = (10 ∷ [], refl, inl refl)
cut_line (b ∷ s) rest = go (snoc b s)
  where
    go : (t : List ℕ) × (c : ℕ) × (b ∷ s ≡ t ++ c ∷ []) → (end : List ℕ) × ((b ∷ s) ++ 10 ∷ rest ≡ no_cr (b ∷ s) ++ (end ++ rest)) × IsEnd (no_cr (b ∷ s)) end rest
    go (t, c, is) = elim (cases_Bool (c == 13)) [
      | inl cr ↦
          let e : c ≡ 13 = grind (arith, nat_tests, cr) in
          let kept : no_cr (b ∷ s) ≡ t = ap no_cr is ∙ cr_by t c ∙ rw cr refl in
          (13 ∷ 10 ∷ [], ap (λ l. l ++ 10 ∷ rest) is ∙ append_assoc t (c ∷ []) (10 ∷ rest) ∙ ap (λ d. t ++ d ∷ 10 ∷ rest) e ∙ ap (λ l. l ++ 13 ∷ 10 ∷ rest) (sym kept), inr (inl refl))
      | inr other ↦
          let kept : no_cr (b ∷ s) ≡ b ∷ s = ap no_cr is ∙ cr_by t c ∙ rw other (sym is) in
          (10 ∷ [], ap (λ l. l ++ 10 ∷ rest) (sym kept), inl refl)
    ]

-- The lines that a text is cut into are its lines, if none of them contains another carriage return.
pub cut_found : (f : ℕ) (text : List ℕ) → length text ≤ f → AllPlain (map without_terminator (lines_of text)) → AreCut (map without_terminator (lines_of text)) text
cut_found f [] less plain = rw lines-nil refl
cut_found zero (b ∷ text) less plain = absurd (omega arith)
cut_found (suc f) (b ∷ text) less plain = go (find_lf (b ∷ text)) (cut_found f)
  where
    go : ((s : List ℕ) × (rest : List ℕ) × (b ∷ text ≡ s ++ 10 ∷ rest) × (list_all is_no_lf s ≡ true)) ⊎ (list_all is_no_lf (b ∷ text) ≡ true)
        → ((rest : List ℕ) → length rest ≤ f → AllPlain (map without_terminator (lines_of rest)) → AreCut (map without_terminator (lines_of rest)) rest)
        → AreCut (map without_terminator (lines_of (b ∷ text))) (b ∷ text)
    go (inl (s, rest, is, no_lf)) ih =
        let joined : b ∷ text ≡ (s ++ 10 ∷ []) ++ rest = is ∙ sym (append_assoc s (10 ∷ []) rest) in
        let size = length-append s (10 ∷ []) in
        let all : suc (length text) ≡ length (s ++ 10 ∷ []) + length rest = ap length joined ∙ length-append (s ++ 10 ∷ []) rest in
        let cut : lines_of (b ∷ text) ≡ (s ++ 10 ∷ []) ∷ lines_of rest = ap lines_of joined ∙ cut_off s (10 ∷ []) rest (omega (arith, size)) (end_len s (10 ∷ []) rest no_lf (lf_len rest)) in
        let lines : map without_terminator (lines_of (b ∷ text)) ≡ no_cr s ∷ map without_terminator (lines_of rest) = ap (map without_terminator) cut ∙ ap (λ l. l ∷ map without_terminator (lines_of rest)) (ended_by s 10) in
        let each = subst AllPlain lines plain in
        let first = cut_line s rest in
        subst (λ l. AreCut l (b ∷ text)) (sym lines) (first.0, rest, is ∙ first.1, each.0, first.2, ih rest (omega (arith, size, all)) each.1)
    go (inr no_lf) ih =
        let joined : b ∷ text ≡ (b ∷ text) ++ [] = sym (append-nil (b ∷ text)) in
        let size = length-append (b ∷ text) [] in
        let same = append-nil ((b ∷ text) ++ []) in
        let cut : lines_of (b ∷ text) ≡ (b ∷ text) ∷ [] = ap lines_of (joined ∙ sym same) ∙ cut_off (b ∷ text) [] [] (omega (arith, size)) (end_len (b ∷ text) [] [] no_lf none_len) ∙ ap (λ l. l ∷ lines_of []) (append-nil (b ∷ text)) ∙ ap (λ l. (b ∷ text) ∷ l) lines-nil in
        let last = snoc b text in
        let kept : without_terminator (b ∷ text) ≡ b ∷ text = ap without_terminator (last.2) ∙ ended_by (last.0) (last.1) ∙ rw (no_lf_last (last.0) (last.1) (subst (λ l. list_all is_no_lf l ≡ true) (last.2) no_lf)) (sym (last.2)) in
        let lines : map without_terminator (lines_of (b ∷ text)) ≡ (b ∷ text) ∷ [] = ap (map without_terminator) cut ∙ ap (λ l. l ∷ []) kept in
        let each = subst AllPlain lines plain in
        subst (λ l. AreCut l (b ∷ text)) (sym lines) ([], [], joined, each.0, inr (inr (refl, refl, λ bad. cc bad)), refl)

-- the lines of a text are plain
pub cut_plain : (lines : List (List ℕ)) (text : List ℕ) → AreCut lines text → AllPlain lines
cut_plain [] text h = tt
cut_plain (s ∷ lines) text (end, rest, is, plain, ending, more) = (plain, cut_plain lines rest more)
