-- The lines of a text, one after the other.
use Rattle.std.proofs.Common.{◌≡◌, ◌<◌, ◌≤◌, ◌+◌, ℕ, zero, suc, List, [], ◌∷◌, ◌++◌, length, drop, Some, None, true, false, refl, sym, ap, ◌∙◌, arith, subst, append_assoc, append-nil, add-one}
use Rattle.std.specs.Prelude.{◌||◌, slice_index_or}
use Rattle.std.specs.List.{list_all}
use Rattle.std.specs.Borrow.{Bor}
use Rattle.mlk_dialect.specs.declared.dialect.Dialect.{Dialect}
use Rattle.mlk_text.specs.declared.failure.Failure.{Failure}
use Rattle.mlk_text.specs.declared.failure.Failure.TheVariants.{OutOfMemory, Refused}
use Rattle.mlk_text.specs.declared.fault.Fault.{Fault}
use Rattle.mlk_text.specs.Failures.{IfRefused}
use Rattle.mlk_routine.specs.declared.line.Before.{Before}
use Rattle.mlk_syntax.specs.Trees.{HeadTree, LineHead}
use Rattle.mlk_routine_arguments.specs.PartsRead.{IsRefusal}
use Rattle.mlk_routine_arguments.specs.Faults.{IsLineFault}
use Rattle.mlk_routine.specs.Refusals.{IsOfLine}
use Rattle.mlk_routine.specs.RoutineGrammar.{AreLines, IsLine, labels_of, level_of, reaches, is_line_byte}
use Rattle.mlk_syntax.specs.Distinct.{AreDistinct}
use Rattle.mlk_routine.specs.Lines.{has_name, label_of, is_in, is_labelled, FitsAfter, IsLineOnly, IsWithLine, NoLine, Follow, AllPlain, AreHeads, AreHeadsOnly, NoHeads, texts_of}
use Rattle.mlk_routine.proofs.FormalLists.{AreSeen, AllFresh, fresh_distinct, distinct_fresh, more_seen}
use Rattle.mlk_syntax.proofs.Distinct.{among}

-- names, the last of them new
fresh_more : (seen names : List (List ℕ)) (n : List ℕ) → AllFresh seen names → among n (seen ++ names) ≡ false → AllFresh seen (names ++ n ∷ [])
fresh_more seen [] n h new = (subst (λ l. among n l ≡ false) (append-nil seen) new, tt)
fresh_more seen (m ∷ names) n h new = (h.0, fresh_more (seen ++ m ∷ []) names n h.1 (subst (λ l. among n l ≡ false) (sym (append_assoc seen (m ∷ []) names)) new))

fresh_there : (seen names : List (List ℕ)) (n : List ℕ) (more : List (List ℕ)) → AllFresh seen (names ++ n ∷ more) → among n (seen ++ names) ≡ false
fresh_there seen [] n more h = subst (λ l. among n l ≡ false) (sym (append-nil seen)) h.0
fresh_there seen (m ∷ names) n more h = subst (λ l. among n l ≡ false) (append_assoc seen (m ∷ []) names) (fresh_there (seen ++ m ∷ []) names n more h.1)

labels_append : (heads more : List HeadTree) → labels_of (heads ++ more) ≡ labels_of heads ++ labels_of more
labels_append [] more = refl
labels_append (LineHead number level end None formals commands ∷ heads) more = labels_append heads more
labels_append (LineHead number level end (Some label) formals commands ∷ heads) more = ap (λ l. label ∷ l) (labels_append heads more)

-- the label of a line after others is new, and keeps them distinct
label_new : (keys : List (Bor (List ℕ))) (heads : List HeadTree) (h : HeadTree) (more : List HeadTree) → AreSeen keys (labels_of heads) → AreDistinct (labels_of (heads ++ h ∷ more)) → is_in (label_of h) keys ≡ false
label_new keys heads (LineHead number level end None formals commands) more seen distinct = refl
label_new keys heads (LineHead number level end (Some label) formals commands) more seen distinct =
    let apart = subst AreDistinct (labels_append heads (LineHead number level end (Some label) formals commands ∷ more)) distinct in
    seen label ∙ fresh_there [] (labels_of heads) label (labels_of more) (distinct_fresh (labels_of heads ++ label ∷ labels_of more) apart)

labels_distinct : (keys : List (Bor (List ℕ))) (heads : List HeadTree) (h : HeadTree) → AreSeen keys (labels_of heads) → AreDistinct (labels_of heads) → is_in (label_of h) keys ≡ false → AreDistinct (labels_of (heads ++ h ∷ []))
labels_distinct keys heads (LineHead number level end None formals commands) seen distinct new =
    subst AreDistinct (sym (labels_append heads (LineHead number level end None formals commands ∷ []) ∙ append-nil (labels_of heads))) distinct
labels_distinct keys heads (LineHead number level end (Some label) formals commands) seen distinct new =
    subst AreDistinct (sym (labels_append heads (LineHead number level end (Some label) formals commands ∷ [])))
    (fresh_distinct (labels_of heads ++ label ∷ []) (fresh_more [] (labels_of heads) label (distinct_fresh (labels_of heads) distinct) (sym (seen label) ∙ new)))

labels_seen : (old new : List (Bor (List ℕ))) (heads : List HeadTree) (h : HeadTree) → AreSeen old (labels_of heads) → ((q : List ℕ) → has_name q new ≡ (is_labelled q (label_of h) || has_name q old)) → AreSeen new (labels_of (heads ++ h ∷ []))
labels_seen old new heads (LineHead number level end None formals commands) seen has q =
    has q ∙ seen q ∙ ap (λ l. among q l) (sym (labels_append heads (LineHead number level end None formals commands ∷ []) ∙ append-nil (labels_of heads)))
labels_seen old new heads (LineHead number level end (Some label) formals commands) seen has q =
    more_seen old new (labels_of heads) label seen has q ∙ ap (λ l. among q l) (sym (labels_append heads (LineHead number level end (Some label) formals commands ∷ [])))

-- Lines whose predecessors were read.
pub record FlatSoFar (d : Dialect) (ts : List (List ℕ)) (i : ℕ) (heads : List HeadTree) (before : Before) : Type 0 where
  pub whole : (more : List HeadTree) → AreLines d (i + 1) more (drop i ts) → AreLines d 1 (heads ++ more) ts
  pub apart : (others : List HeadTree) → AreLines d 1 others ts → (more : List HeadTree) × (others ≡ heads ++ more) × AreLines d (i + 1) more (drop i ts)
  pub plain : AllPlain (drop i ts) → AllPlain ts
  pub plain_rest : AllPlain ts → AllPlain (drop i ts)
  pub follow : (more : List HeadTree) → Follow before.level before.reaches more → Follow 0 true (heads ++ more)
  pub follow_rest : (more : List HeadTree) → Follow 0 true (heads ++ more) → Follow before.level before.reaches more
  pub distinct : AreDistinct (labels_of heads)
  pub seen : AreSeen before.labels.texts.keys (labels_of heads)

pub flat_begin : (d : Dialect) (ts : List (List ℕ)) (before : Before) → ((q : List ℕ) → has_name q before.labels.texts.keys ≡ false) → before.level ≡ 0 → before.reaches ≡ true → FlatSoFar d ts 0 [] before
flat_begin d ts before none level reached = record {
  whole = λ more is. is;
  apart = λ others is. (others, refl, is);
  plain = λ h. h;
  plain_rest = λ h. h;
  follow = λ more h. subst (λ b. Follow 0 b more) reached (subst (λ n. Follow n before.reaches more) level h);
  follow_rest = λ more h. subst (λ n. Follow n before.reaches more) (sym level) (subst (λ b. Follow 0 b more) (sym reached) h);
  distinct = tt;
  seen = none;
}

module _ (d : Dialect) (ts : List (List ℕ)) (i : ℕ) (heads : List HeadTree) (before : Before) (l : FlatSoFar d ts i heads before) where
  pub flat_end : drop i ts ≡ [] → AreHeadsOnly d ts heads
  flat_end done =
      let all : AreLines d 1 heads ts = subst (λ k. AreLines d 1 k ts) (append-nil heads) (l.whole [] done) in
      let plain : AllPlain ts = l.plain (subst AllPlain (sym done) tt) in
      let follow : Follow 0 true heads = subst (Follow 0 true) (append-nil heads) (l.follow [] tt) in
      ((all, plain, follow, l.distinct), λ others is. only others (l.apart others is))
    where
      only : (others : List HeadTree) → (more : List HeadTree) × (others ≡ heads ++ more) × AreLines d (i + 1) more (drop i ts) → others ≡ heads
      only others ([], same, is) = same ∙ append-nil heads
      only others (h ∷ more, same, (s, rest, front, line, others_are)) = cc (sym done ∙ front)

  module _ (t : List ℕ) (here : drop i ts ≡ t ∷ drop (i + 1) ts) where
    -- the line that is here
    first_line : (more : List HeadTree) → AreLines d (i + 1) more (drop i ts) → (h : HeadTree) × (rest : List HeadTree) × (more ≡ h ∷ rest) × IsLine d (i + 1) h t × AreLines d (i + 1 + 1) rest (drop (i + 1) ts)
    first_line [] is = cc (sym here ∙ is)
    first_line (h ∷ more) (s, rest, front, line, others) =
        let same : t ∷ drop (i + 1) ts ≡ s ∷ rest = sym here ∙ front in
        let text : s ≡ t = cc same in
        let after : rest ≡ drop (i + 1) ts = cc same in
        (h, more, refl, subst (IsLine d (i + 1) h) text line, subst (λ k. AreLines d k more (drop (i + 1) ts)) (sym (add-one (i + 1))) (subst (AreLines d (suc (i + 1)) more) after others))

    pub flat_refused : (e : Failure Fault) → NoLine d before (i + 1) t e → (r : Failure Fault) → (IsRefusal r → IsRefusal e) → NoHeads d ts r
    flat_refused e none OutOfMemory same = tt
    flat_refused OutOfMemory none (Refused fault) same = absurd (same tt)
    flat_refused (Refused cause) none (Refused fault) same = λ others is. go others is (l.apart others is.0)
      where
        go : (others : List HeadTree) → AreHeads d ts others → (more : List HeadTree) × (others ≡ heads ++ more) × AreLines d (i + 1) more (drop i ts) → ⊥
        go others is (more, joined, lines) = come (first_line more lines)
          where
            come : (h : HeadTree) × (rest : List HeadTree) × (more ≡ h ∷ rest) × IsLine d (i + 1) h t × AreLines d (i + 1 + 1) rest (drop (i + 1) ts) → ⊥
            come (h, rest, same_more, line, after) =
                let all : others ≡ heads ++ h ∷ rest = joined ∙ ap (λ k. heads ++ k) same_more in
                let plain = subst AllPlain here (l.plain_rest is.1) in
                let steps = l.follow_rest (h ∷ rest) (subst (Follow 0 true) all is.2) in
                let new = label_new before.labels.texts.keys heads h rest l.seen (subst (λ k. AreDistinct (labels_of k)) all is.3) in
                none.0 h line plain.0 (new, steps.0)

    pub flat_more : (h : HeadTree) (next : Before) → IsLineOnly d (i + 1) t h → list_all is_line_byte t ≡ true → FitsAfter before h → IsWithLine before next h → FlatSoFar d ts (i + 1) (heads ++ h ∷ []) next
    flat_more h next line plain_line fits after = record {
      whole = λ more is.
          let lines : AreLines d (i + 1) (h ∷ more) (drop i ts) = (t, drop (i + 1) ts, here, line.0, subst (λ k. AreLines d k more (drop (i + 1) ts)) (add-one (i + 1)) is) in
          subst (λ k. AreLines d 1 k ts) (sym (append_assoc heads (h ∷ []) more)) (l.whole (h ∷ more) lines);
      apart = λ others is. go others (l.apart others is);
      plain = λ rest. l.plain (subst AllPlain (sym here) (plain_line, rest));
      plain_rest = λ all. (subst AllPlain here (l.plain_rest all)).1;
      follow = λ more is.
          let level : Follow (level_of h) next.reaches more = subst (λ n. Follow n next.reaches more) after.level is in
          let both : Follow (level_of h) (reaches h) more = subst (λ b. Follow (level_of h) b more) after.reaches level in
          subst (Follow 0 true) (sym (append_assoc heads (h ∷ []) more)) (l.follow (h ∷ more) (fits.1, both));
      follow_rest = λ more is.
          let both = l.follow_rest (h ∷ more) (subst (Follow 0 true) (append_assoc heads (h ∷ []) more) is) in
          subst (λ n. Follow n next.reaches more) (sym after.level) (subst (λ b. Follow (level_of h) b more) (sym after.reaches) both.1);
      distinct = labels_distinct before.labels.texts.keys heads h l.seen l.distinct fits.0;
      seen = labels_seen before.labels.texts.keys next.labels.texts.keys heads h l.seen after.labels;
    }
      where
        go : (others : List HeadTree) → (more : List HeadTree) × (others ≡ heads ++ more) × AreLines d (i + 1) more (drop i ts) → (more : List HeadTree) × (others ≡ (heads ++ h ∷ []) ++ more) × AreLines d (i + 1 + 1) more (drop (i + 1) ts)
        go others (more, joined, lines) =
            let r = first_line more lines in
            (r.1, joined ∙ ap (λ k. heads ++ k) (r.2 ∙ ap (λ x. x ∷ r.1) (line.1 r.0 r.3)) ∙ sym (append_assoc heads (h ∷ []) r.1), r.4)

-- a text of a slice
pub text_here : (texts : List (Bor (List ℕ))) (i : ℕ) (d : Bor (List ℕ)) → i < length texts → drop i (texts_of texts) ≡ (slice_index_or texts i d).now ∷ drop (i + 1) (texts_of texts)
text_here [] i d h = absurd (omega (arith, h))
text_here (x ∷ texts) zero d h = refl
text_here (x ∷ texts) (suc i) d h =
    text_here texts i d (omega (arith, h)) ∙ ap (λ k. (slice_index_or texts i d).now ∷ drop k (texts_of texts)) (add-one i) ∙ ap (λ k. (slice_index_or texts i d).now ∷ drop k (texts_of (x ∷ texts))) (sym (add-one (suc i)))

pub texts_end : (texts : List (Bor (List ℕ))) (i : ℕ) → length texts ≤ i → drop i (texts_of texts) ≡ []
texts_end [] zero h = refl
texts_end [] (suc i) h = refl
texts_end (x ∷ texts) zero h = absurd (omega (arith, h))
texts_end (x ∷ texts) (suc i) h = texts_end texts i (omega (arith, h))

-- a fault of a line is a fault of its text's lines
pub line_told : (routine : List ℕ) (lines : List (List ℕ)) (i : ℕ) (s : List ℕ) → drop i lines ≡ s ∷ drop (i + 1) lines → (e : Failure Fault) → IfRefused e (λ f. (f.place.routine ≡ routine) × (f.place.line ≡ i + 1) × IsLineFault s f)
    → IfRefused e (IsOfLine routine lines)
line_told routine lines i s here OutOfMemory h = tt
line_told routine lines i s here (Refused fault) h = record { before = i; line = s; after = drop (i + 1) lines; there = here; on_line = h.1 ∙ add-one i; named = h.0; told = h.2 }
