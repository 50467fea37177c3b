-- Lists of items separated by commas, read item by item.
use Rattle.std.proofs.Common.{◌≡◌, ◌<◌, ◌≤◌, ◌+◌, ◌-◌, ℕ, suc, List, [], ◌∷◌, ◌++◌, length, drop, Some, true, refl, sym, ap, ◌∙◌, arith, subst, append_assoc, append-nil}
use Rattle.mlk_expr.specs.Grammar.{Spelled, AreNext, IsList}
use Rattle.mlk_expr.specs.Theorem.{Stands, Only}
use Rattle.mlk_routine_arguments.specs.PartsRead.{Found, Nowhere, first_of, byte_at}
use Rattle.mlk_routine_arguments.specs.Ends.{is_stop, MoreEnds, AreEnded}
use Rattle.mlk_routine_arguments.proofs.Sequences.{Parts, both_found, first_nowhere, second_nowhere, not_after}
use Rattle.mlk_routine_arguments.proofs.Bytes.{AfterByte, after_found, after_nowhere, byte_before}

module _ {A : Type 0} (Is : Spelled A) (Ends : A → List ℕ → Type 0) (stop : (a : A) (rest : List ℕ) → is_stop rest ≡ true → Ends a rest) where
  -- what follows an item before more items
  item_ends : (at : ℕ) (a : A) (more : List A) (t rest : List ℕ) → AreNext Is at more t → MoreEnds Ends a more rest → Ends a (t ++ rest)
  item_ends at a [] t rest is e = subst (λ l. Ends a (l ++ rest)) (sym is) e.1
  item_ends at a (b ∷ more) t rest (front, others, is, one, next) e = subst (λ l. Ends a (l ++ rest)) (sym is) (stop a (44 ∷ ((front ++ others) ++ rest)) refl)

  pub list_parts : (line : List ℕ) (at : ℕ) → Parts line at Is Ends (λ a k more t. AreNext Is k more t) (λ a more rest. MoreEnds Ends a more rest) (IsList Is) (AreEnded Ends) (λ a more. a ∷ more)
  list_parts line at = record {
    into = λ a more s t one next. (a, more, s, t, refl, refl, one, next);
    ends = λ a more k t rest is before e. e;
    apart = λ c u rest h (first, others, front, back, same, is, one, next) e.
        let ended : MoreEnds Ends first others rest = subst (λ l. AreEnded Ends l rest) same e in
        (first, others, front, back, is, same, one, next, item_ends (suc at + length front) first others back rest next ended, ended);
  }

  -- after a comma
  pub next_parts : (line : List ℕ) (at : ℕ) (last : A) → byte_at line at ≡ Some 44 → Parts line at (AfterByte 44 Is) Ends (λ a k more t. AreNext Is k more t) (λ a more rest. MoreEnds Ends a more rest) (λ k more t. AreNext Is k more t) (MoreEnds Ends last) (λ a more. a ∷ more)
  next_parts line at last here = record {
    into = λ a more s t (front, is, one) next.
        let size : length s ≡ suc (length front) = ap length is in
        (front, t, ap (λ l. l ++ t) is, one, subst (λ k. AreNext Is k more t) (omega (arith, size)) next);
    ends = λ a more k t rest is before e. e;
    apart = λ c u rest h is e. go c u rest h is e;
  }
    where
      go : (c : List A) (u rest : List ℕ) → drop at line ≡ u ++ rest → AreNext Is (suc at) c u → MoreEnds Ends last c rest
          → (a : A) × (more : List A) × (s t : List ℕ) × (u ≡ s ++ t) × (c ≡ a ∷ more) × AfterByte 44 Is (suc at) a s × AreNext Is (suc at + length s) more t × Ends a (t ++ rest) × MoreEnds Ends a more rest
      go [] u rest h is e = absurd (e.0 (sym (ap first_of (h ∙ ap (λ l. l ++ rest) is)) ∙ here))
      go (a ∷ more) u rest h (front, back, is, one, next) e =
          (a, more, 44 ∷ front, back, is, refl, (front, refl, one), subst (λ k. AreNext Is k more back) (omega arith) next, item_ends (suc (suc at + length front)) a more back rest next e, e)

  -- A list whose items were read up to here.
  pub record SoFar (line : List ℕ) (at : ℕ) (items : List A) (next : ℕ) : Type 0 where
    pub last : A
    pub within : next ≤ length line
    pub ended : Ends last (drop next line)
    pub found : (more : List A) (n : ℕ) → Found (λ k m t. AreNext Is k m t) (MoreEnds Ends last) line next more n → Found (IsList Is) (AreEnded Ends) line at (items ++ more) n
    pub none : Nowhere (λ k m t. AreNext Is k m t) (MoreEnds Ends last) line next → Nowhere (IsList Is) (AreEnded Ends) line at

  pub begun : (line : List ℕ) (at : ℕ) → at ≤ length line → (a : A) (next : ℕ) → Found Is Ends line at a next → SoFar line at (a ∷ []) next
  begun line at less a next f = record {
    last = a;
    within = f.0.within;
    ended = f.0.ended;
    found = λ more n g. both_found (list_parts line at) less a more next n f g;
    none = λ g. second_nowhere (list_parts line at) less a next f g;
  }

  pub one_more : (line : List ℕ) (at : ℕ) (items : List A) (next : ℕ) → SoFar line at items next → byte_at line next ≡ Some 44 → (a : A) (end : ℕ) → Found Is Ends line (next + 1) a end → SoFar line at (items ++ a ∷ []) end
  one_more line at items next l here a end f =
      let g = after_found Is Ends line next 44 here a end f in
      record {
        last = a;
        within = f.0.within;
        ended = f.0.ended;
        found = λ more n h.
            let whole = l.found (a ∷ more) n (both_found (next_parts line next l.last here) l.within a more end n g h) in
            subst (λ z. Found (IsList Is) (AreEnded Ends) line at z n) (sym (append_assoc items (a ∷ []) more)) whole;
        none = λ h. l.none (second_nowhere (next_parts line next l.last here) l.within a end g h);
      }

  pub no_more : (line : List ℕ) (at : ℕ) (items : List A) (next : ℕ) → SoFar line at items next → byte_at line next ≡ Some 44 → Nowhere Is Ends line (next + 1) → Nowhere (IsList Is) (AreEnded Ends) line at
  no_more line at items next l here f =
      l.none (first_nowhere (next_parts line next l.last here) l.within
      (after_nowhere Is Ends line next 44 f))

  pub all_read : (line : List ℕ) (at : ℕ) (items : List A) (next : ℕ) → SoFar line at items next → (byte_at line next ≡ Some 44 → ⊥) → Found (IsList Is) (AreEnded Ends) line at items next
  all_read line at items next l missing =
      let stands : Stands (λ k m t. AreNext Is k m t) (MoreEnds Ends l.last) line next [] next = record { text = []; within = l.within; joined = refl; spelled = refl; ended = (missing, l.ended) } in
      let only : Only (λ k m t. AreNext Is k m t) (MoreEnds Ends l.last) line next [] next = λ c u rest h is e. go c u rest h is e in
      subst (λ z. Found (IsList Is) (AreEnded Ends) line at z next) (append-nil items) (l.found [] next (stands, only))
    where
      go : (c : List A) (u rest : List ℕ) → drop next line ≡ u ++ rest → AreNext Is (suc next) c u → MoreEnds Ends l.last c rest → (c ≡ []) × (rest ≡ drop next line)
      go [] u rest h is e = (refl, sym (h ∙ ap (λ z. z ++ rest) is))
      go (a ∷ more) u rest h (front, back, is, one, tail) e = absurd (missing (ap first_of (h ∙ ap (λ z. z ++ rest) is)))

  pub goes_on : (line : List ℕ) (next : ℕ) → byte_at line next ≡ Some 44 → (a : A) (end : ℕ) → Found Is Ends line (next + 1) a end → length line - end < length line - next
  goes_on line next here a end f =
      let size = byte_before line next 44 here in
      let far = not_after Is Ends line (next + 1) a end f.0 (omega arith) in
      omega arith

  pub no_first : (line : List ℕ) (at : ℕ) → at ≤ length line → Nowhere Is Ends line at → Nowhere (IsList Is) (AreEnded Ends) line at
  no_first line at less f = first_nowhere (list_parts line at) less f
