-- A text with notes, from what is left of it.
use Rattle.std.proofs.Common.{◌≡◌, ◌∙◌, ◌++◌, ℕ, List, [], ◌∷◌, take, drop, refl, sym, ap, subst, append_assoc, take-append-drop}
use Rattle.mlk_replay_text.specs.Explained.{IsExplained, Continues, lines_of, lines_and_notes_of}

-- a text is its first line, the line's end, and the rest
pub line_cut : (text line end rest : List ℕ) (n : ℕ) → line ≡ take n text → end ≡ drop n text → end ≡ 10 ∷ rest → text ≡ line ++ 10 ∷ rest
line_cut text line end rest n front back is =
    sym (take-append-drop n text) ∙ ap (λ x. x ++ drop n text) (sym front) ∙ ap (λ x. line ++ x) (sym back ∙ is)

pub same_continues : (old left : List ℕ) → Continues old left old left
same_continues old left = record { continues = λ later h. (later, h, refl) }

-- a line and its note are appended
pub line_continues : (old left line note rest new : List ℕ) → left ≡ line ++ 10 ∷ rest
    → new ≡ ((old ++ line) ++ 10 ∷ []) ++ note → Continues old left new rest
line_continues old left line note rest new is appended = record {
  continues = λ later h. (
    line ++ 10 ∷ (note ++ later),
    record {
      noted = (line, note) ∷ h.noted;
      rest = h.rest;
      without = is ∙ ap (λ x. line ++ 10 ∷ x) h.without ∙ sym (append_assoc line (10 ∷ []) (lines_of h.noted ++ h.rest)) ∙ sym (append_assoc (line ++ 10 ∷ []) (lines_of h.noted) h.rest);
      whole = ap (λ x. line ++ 10 ∷ (note ++ x)) h.whole
          ∙ sym (append_assoc line (10 ∷ note) (lines_and_notes_of h.noted ++ h.rest))
          ∙ sym (append_assoc (line ++ 10 ∷ note) (lines_and_notes_of h.noted) h.rest);
    },
    ap (λ x. x ++ later) appended ∙ append_assoc ((old ++ line) ++ 10 ∷ []) note later
        ∙ append_assoc (old ++ line) (10 ∷ []) (note ++ later) ∙ append_assoc old line (10 ∷ (note ++ later)),
  );
}

-- what continues, continues after that
pub continues_further : (all left rest old new : List ℕ) → Continues [] all old left → Continues old left new rest → Continues [] all new rest
continues_further all left rest old new before after = record {
  continues = λ later h.
      let more = after.continues later h in
      let whole = before.continues more.0 more.1 in
      (whole.0, whole.1, more.2 ∙ whole.2);
}

-- at the end the rest is appended as it is
pub reaches_end : (all left old : List ℕ) → Continues [] all old left → IsExplained all (old ++ left)
reaches_end all left old before =
    let whole = before.continues left (record { noted = []; rest = left; without = refl; whole = refl }) in
    subst (IsExplained all) (sym whole.2) whole.1
