-- Each part of an expression is read exactly if its own parts are.
use Rattle.std.proofs.Common.{◌≡◌, ◌<◌, ◌≤◌, ◌+◌, ◌-◌, ℕ, zero, suc, ◌++◌, List, [], ◌∷◌, length, take, Some, None, true, false, Bool, refl, sym, ap, ◌∙◌, arith, subst, inl, inr, length-append, leb-true, le-leb}
use Rattle.std.specs.Prelude.{Option, ◌==◌, nat_le}
use Rattle.std.proofs.Math.Seq.{take-append_seam}
use Rattle.std.proofs.lemmas.Bool.{cases_Bool, eqb-true}
use Rattle.mlk_text.specs.declared.operator.Op.{Op}
use Rattle.mlk_text.specs.Reading.{◌>>=◌, with, many, Many}
use Rattle.mlk_text.specs.Lexemes.{byte_at, inside, IsQuoted}
use Rattle.mlk_text.proofs.Lexemes.{byte-is, byte-takes, quoted-sound, quoted-complete, quoted-after}
use Rattle.mlk_text.proofs.Readers.{then_some, pair_parts, with_some, After, after-self, after-one, after_then, Exact, many_sound, many_after, many_complete}
use Rattle.mlk_syntax.specs.ExprTrees.{Tree, PatternText}
use Rattle.mlk_expr_tokens.specs.Lexemes.{op_at, is_match, count_at, pattern_codes_at}
use Rattle.mlk_expr.specs.Grammar.{chained}
use Rattle.mlk_expr.proofs.Followed.{Next, IsList, IsMatcher, IsPattern, IsRight, IsLink, IsChain, IsPlaced, IsSubs}
use Rattle.mlk_expr.specs.Reading.{kept, next, list_with, matcher_by, some_atoms, pattern_at, right_by, linked, chain_with, at_most, placed, subs_by, subs_with}
use Rattle.mlk_expr.proofs.LexemeLemmas.{op-takes, count-takes, codes-after}

-- what is allowed of what is read
pub kept-exact : {A : Type 0} (may : A → Bool) (read : List ℕ → Option (A × List ℕ)) (Is : A → List ℕ → List ℕ → Type 0) → Exact read Is
    → Exact (λ xs. kept may (read xs)) (λ a xs ys. Is a xs ys × (may a ≡ true))
kept-exact may read Is e = record {
  sound = λ a xs ys h. let r = kept_some may (read xs) a ys h in (e.sound a xs ys r.0, r.1);
  complete = λ a xs ys h. rw (e.complete a xs ys h.0) (rw (h.1) refl);
  after = λ a xs ys h. e.after a xs ys h.0;
}
  where
    kept_some : {A : Type 0} (may : A → Bool) (o : Option (A × List ℕ)) (a : A) (ys : List ℕ) → kept may o ≡ Some (a, ys) → (o ≡ Some (a, ys)) × (may a ≡ true)
    kept_some may None a ys h = cc h
    kept_some may (Some r) a ys h = elim (cases_Bool (may r.0)) [
      | inl m ↦ let is = rw m at h in (is, subst (λ z. may z ≡ true) ((pair_parts r.0 a r.1 ys is).0) m)
      | inr m ↦ cc (rw m at h)
    ]

-- items after commas
pub next-exact : {A : Type 0} (read : List ℕ → Option (A × List ℕ)) (Is : A → List ℕ → List ℕ → Type 0) → Exact read Is → (comma : ℕ) → Exact (next read comma) (Next Is comma)
next-exact read Is e comma = record { sound = e.sound; complete = e.complete; after = e.after }

pub list-exact : {A : Type 0} (read : List ℕ → Option (A × List ℕ)) (Is : A → List ℕ → List ℕ → Type 0) → Exact read Is → Exact (list_with read) (IsList Is)
unfolding list_with
list-exact read Is e =
    let n = next-exact read Is e in
    record {
      sound = λ items xs ys h.
          let f = then_some (read xs) _ (items, ys) h in
          let r = then_some (many (byte_at 44) (next read) (suc (length f.0.1)) f.0.1) _ (items, ys) f.2 in
          let c = with_some _ (byte_at 41 r.0.1) items ys r.2 in
          let more = many_sound (byte_at 44) (next read) (Next Is) n _ r.0.0 f.0.1 r.0.1 r.1 in
          (f.0.0, r.0.0, f.0.1, e.sound f.0.0 xs f.0.1 f.1, subst (λ l. Many (byte_at 44) (Next Is) r.0.0 f.0.1 l) (byte-is 41 c.0 r.0.1 ys c.1) more, c.2);
      complete = λ items xs ys (first, others, m, one, more, is).
          rw (e.complete first xs m one)
          (rw (many_complete (byte_at 44) (next read) (Next Is) (byte-takes 44) n (suc (length m)) others m (41 ∷ ys) (omega arith) more) (rw is refl));
      after = λ items xs ys (first, others, m, one, more, is).
          let far = many_after (byte_at 44) (next read) (Next Is) (byte-takes 44) n others m (41 ∷ ys) more in
          after_then xs m ys (e.after first xs m one) (after_then m (41 ∷ ys) ys far (after-one 41 ys));
    }

-- pattern codes begin with no quote and no parenthesis
coded : (read : List ℕ → Option (List ℕ × List ℕ)) (count codes xs ys : List ℕ) → pattern_codes_at xs ≡ Some (codes, ys) → matcher_by read count xs ≡ Some (count, ys)
unfolding pattern_codes_at
coded read count codes [] ys h = cc h
coded read count codes (b ∷ xs) ys h = elim (cases_Bool (b == 34)) [
  | inl q ↦ let is : b ≡ 34 = eqb-true b 34 q in cc (subst (λ a. pattern_codes_at (a ∷ xs) ≡ Some (codes, ys)) is h)
  | inr q ↦ elim (cases_Bool (b == 40)) [
    | inl o ↦ let is : b ≡ 40 = eqb-true b 40 o in cc (subst (λ a. pattern_codes_at (a ∷ xs) ≡ Some (codes, ys)) is h)
    | inr o ↦ rw (q, o) (ap (with (λ _. count)) h)
  ]
]

-- what follows the count of a pattern atom
pub matcher-exact : (read : List ℕ → Option (List ℕ × List ℕ)) (Is : List ℕ → List ℕ → List ℕ → Type 0) → Exact read Is → (count : List ℕ) → Exact (matcher_by read count) (IsMatcher Is count)
matcher-exact read Is e count = record { sound = go; complete = done; after = back }
  where
    go : (c xs ys : List ℕ) → matcher_by read count xs ≡ Some (c, ys) → IsMatcher Is count c xs ys
    go c [] ys h = cc h
    go c (b ∷ xs) ys h = elim (cases_Bool (b == 34)) [
      | inl q ↦
          let w = with_some (λ _. count) (inside xs) c ys (rw q at h) in
          (w.2, inr (inl (w.0, subst (λ a. IsQuoted w.0 (a ∷ xs) ys) (sym (eqb-true b 34 q)) (quoted-sound w.0 xs ys w.1))))
      | inr q ↦ elim (cases_Bool (b == 40)) [
        | inl o ↦
            let w = with_some (λ _. count) (list_with read xs) c ys (rw (q, o) at h) in
            (w.2, inr (inr (xs, w.0, ap (λ a. a ∷ xs) (eqb-true b 40 o), (list-exact read Is e).sound w.0 xs ys w.1)))
        | inr o ↦
            let w = with_some (λ _. count) (pattern_codes_at (b ∷ xs)) c ys (rw (q, o) at h) in
            (w.2, inl (w.0, w.1))
      ]
    ]

    done : (c xs ys : List ℕ) → IsMatcher Is count c xs ys → matcher_by read count xs ≡ Some (c, ys)
    done c xs ys (same, inl f) = rw same (coded read count f.0 xs ys f.1)
    done c xs ys (same, inr (inl f)) =
        let q = quoted-complete f.0 xs ys f.1 in
        rw (q.1, same) (ap (with (λ _. count)) q.2)
    done c xs ys (same, inr (inr f)) = rw (f.2, same) (ap (with (λ _. count)) ((list-exact read Is e).complete f.1 f.0 ys f.3))

    back : (c xs ys : List ℕ) → IsMatcher Is count c xs ys → After ys xs
    back c xs ys (same, inl f) = codes-after f.0 xs ys f.1
    back c xs ys (same, inr (inl f)) = quoted-after f.0 xs ys f.1
    back c xs ys (same, inr (inr f)) =
        subst (λ l. After ys l) (sym f.2) (after_then (40 ∷ f.0) f.0 ys (after-one 40 f.0) ((list-exact read Is e).after f.1 f.0 ys f.3))

-- what precedes the rest
front-taken : (text xs ys : List ℕ) → xs ≡ text ++ ys → take (length xs - length ys) xs ≡ text
front-taken text xs ys h =
    let size : length xs ≡ length text + length ys = ap length h ∙ length-append text ys in
    let n : length xs - length ys ≡ length text = omega arith in
    ap (λ k. take k xs) n ∙ ap (λ l. take (length text) l) h ∙ take-append_seam text ys

pub pattern-exact : (k : ℕ) → Exact (pattern_at k) (IsPattern k)
unfolding pattern_at IsPattern
pattern-exact zero = record { sound = λ t xs ys h. cc h; complete = λ t xs ys h. absurd h; after = λ t xs ys h. absurd h }
pattern-exact (suc k) = level (matcher-exact (pattern_at k) (IsPattern k) (pattern-exact k))
  where
    level : ((count : List ℕ) → Exact (matcher_by (pattern_at k) count) (IsMatcher (IsPattern k) count)) → Exact (pattern_at (suc k)) (IsPattern (suc k))
    level m = record { sound = go; complete = done; after = λ text xs ys (counts, more, some, is). (text, sym is) }
      where
        atoms : (text xs ys rest : List ℕ) (counts : List (List ℕ)) → some_atoms xs (counts, rest) ≡ Some (text, ys) → Many count_at (IsMatcher (IsPattern k)) counts xs rest
            → (counts : List (List ℕ)) × Many count_at (IsMatcher (IsPattern k)) counts xs ys × (0 < length counts) × (xs ≡ text ++ ys)
        atoms text xs ys rest [] h more = cc h
        atoms text xs ys rest (c ∷ cs) h more =
            let p = pair_parts (take (length xs - length rest) xs) text rest ys h in
            let b = many_after count_at (matcher_by (pattern_at k)) (IsMatcher (IsPattern k)) count-takes m (c ∷ cs) xs rest more in
            let front = front-taken b.0 xs rest (sym b.1) in (
              c ∷ cs,
              subst (λ l. Many count_at (IsMatcher (IsPattern k)) (c ∷ cs) xs l) p.1 more,
              omega arith,
              sym b.1 ∙ ap (λ l. l ++ rest) (sym front ∙ p.0) ∙ ap (λ l. text ++ l) p.1,
            )

        go : (text xs ys : List ℕ) → (many count_at (matcher_by (pattern_at k)) (suc (length xs)) xs >>= some_atoms xs) ≡ Some (text, ys)
            → (counts : List (List ℕ)) × Many count_at (IsMatcher (IsPattern k)) counts xs ys × (0 < length counts) × (xs ≡ text ++ ys)
        go text xs ys h =
            let r = then_some (many count_at (matcher_by (pattern_at k)) (suc (length xs)) xs) (some_atoms xs) (text, ys) h in
            atoms text xs ys r.0.1 r.0.0 r.2 (many_sound count_at (matcher_by (pattern_at k)) (IsMatcher (IsPattern k)) m _ r.0.0 xs r.0.1 r.1)

        last : (text xs ys : List ℕ) (counts : List (List ℕ)) → 0 < length counts → xs ≡ text ++ ys → some_atoms xs (counts, ys) ≡ Some (text, ys)
        last text xs ys [] some is = absurd (omega arith)
        last text xs ys (c ∷ cs) some is = ap (λ l. Some (l, ys)) (front-taken text xs ys is)

        done : (text xs ys : List ℕ) → (counts : List (List ℕ)) × Many count_at (IsMatcher (IsPattern k)) counts xs ys × (0 < length counts) × (xs ≡ text ++ ys)
            → (many count_at (matcher_by (pattern_at k)) (suc (length xs)) xs >>= some_atoms xs) ≡ Some (text, ys)
        done text xs ys (counts, more, some, is) =
            rw (many_complete count_at (matcher_by (pattern_at k)) (IsMatcher (IsPattern k)) count-takes m (suc (length xs)) counts xs ys (omega arith) more) (last text xs ys counts some is)

-- chains
pub right-exact : (atom : List ℕ → Option (Tree × List ℕ)) (Atom : Tree → List ℕ → List ℕ → Type 0) (pattern : List ℕ → Option (List ℕ × List ℕ)) (Pattern : List ℕ → List ℕ → List ℕ → Type 0)
    → Exact atom Atom → Exact pattern Pattern → (m : Bool) → Exact (right_by atom pattern m) (IsRight Atom Pattern m)
right-exact atom Atom pattern Pattern e p false = record { sound = e.sound; complete = e.complete; after = e.after }
right-exact atom Atom pattern Pattern e p true = record {
  sound = λ t xs ys h. let w = with_some PatternText (pattern xs) t ys h in (w.0, p.sound w.0 xs ys w.1, w.2);
  complete = λ t xs ys (text, is, same). rw (p.complete text xs ys is) (rw same refl);
  after = λ t xs ys (text, is, same). p.after text xs ys is;
}

pub link-exact : (atom : List ℕ → Option (Tree × List ℕ)) (Atom : Tree → List ℕ → List ℕ → Type 0) (pattern : List ℕ → Option (List ℕ × List ℕ)) (Pattern : List ℕ → List ℕ → List ℕ → Type 0)
    → Exact atom Atom → Exact pattern Pattern → (op : Op) → Exact (linked atom pattern op) (IsLink Atom Pattern op)
link-exact atom Atom pattern Pattern e p op =
    let r = right-exact atom Atom pattern Pattern e p (is_match op) in
    record {
      sound = λ l xs ys h.
          let t = with_some _ (right_by atom pattern (is_match op) xs) l ys h in
          (ap (λ z. z.0) t.2, subst (λ z. IsRight Atom Pattern (is_match op) z.1 xs ys) (sym t.2) (r.sound t.0 xs ys t.1));
      complete = λ l xs ys h. rw (r.complete l.1 xs ys h.1) (rw h.0 refl);
      after = λ l xs ys h. r.after l.1 xs ys h.1;
    }

pub chain-exact : (atom : List ℕ → Option (Tree × List ℕ)) (Atom : Tree → List ℕ → List ℕ → Type 0) (pattern : List ℕ → Option (List ℕ × List ℕ)) (Pattern : List ℕ → List ℕ → List ℕ → Type 0)
    → Exact atom Atom → Exact pattern Pattern → Exact (chain_with atom pattern) (IsChain Atom Pattern)
unfolding chain_with
chain-exact atom Atom pattern Pattern e p =
    let l = link-exact atom Atom pattern Pattern e p in
    record {
      sound = λ t xs ys h.
          let f = then_some (atom xs) _ (t, ys) h in
          let r = then_some (many op_at (linked atom pattern) (suc (length f.0.1)) f.0.1) _ (t, ys) f.2 in
          let q = pair_parts (chained f.0.0 r.0.0) t r.0.1 ys r.2 in
          let more = many_sound op_at (linked atom pattern) (IsLink Atom Pattern) l _ r.0.0 f.0.1 r.0.1 r.1 in
          (f.0.0, r.0.0, f.0.1, e.sound f.0.0 xs f.0.1 f.1, subst (λ z. Many op_at (IsLink Atom Pattern) r.0.0 f.0.1 z) q.1 more, sym q.0);
      complete = λ t xs ys (first, links, m, one, more, is).
          rw (e.complete first xs m one) (rw (many_complete op_at (linked atom pattern) (IsLink Atom Pattern) op-takes l (suc (length m)) links m ys (omega arith) more) (rw is refl));
      after = λ t xs ys (first, links, m, one, more, is).
          after_then xs m ys (e.after first xs m one) (many_after op_at (linked atom pattern) (IsLink Atom Pattern) op-takes l links m ys more);
    }

-- subscripts
pub placed-exact : (end : ℕ) (read : List ℕ → Option (Tree × List ℕ)) (Is : Tree → List ℕ → List ℕ → Type 0) → Exact read Is → Exact (placed end read) (IsPlaced end Is)
placed-exact end read Is e = record {
  sound = λ s xs ys h. let w = with_some _ (read xs) s ys h in (ap (λ z. z.0) w.2, subst (λ z. Is z.1 xs ys) (sym w.2) (e.sound w.0 xs ys w.1));
  complete = λ s xs ys h. rw (e.complete s.1 xs ys h.1) (rw h.0 refl);
  after = λ s xs ys h. e.after s.1 xs ys h.1;
}

pub subs-exact : (end : ℕ) (read : List ℕ → Option (Tree × List ℕ)) (Is : Tree → List ℕ → List ℕ → Type 0) → Exact read Is → Exact (subs_with end read) (IsSubs end Is)
unfolding subs_with
subs-exact end read Is e = by-list (list-exact (placed end read) (IsPlaced end Is) (placed-exact end read Is e))
  where
    by-list : Exact (list_with (placed end read)) (IsList (IsPlaced end Is)) → Exact (subs_with end read) (IsSubs end Is)
    by-list l = record { sound = λ ss xs ys h. go ss xs ys (byte_at 40 xs) refl h; complete = done; after = back }
      where
        few-ok : (r : List (ℕ × Tree) × List ℕ) (ss : List (ℕ × Tree)) (ys : List ℕ) → at_most 32 r ≡ Some (ss, ys) → (r.0 ≡ ss) × (r.1 ≡ ys) × (length r.0 ≤ 32)
        few-ok r ss ys h = elim (cases_Bool (nat_le (length r.0) 32)) [
          | inl f ↦ let p = pair_parts r.0 ss r.1 ys (rw f at h) in (p.0, p.1, leb-true (length r.0) 32 f)
          | inr f ↦ cc (rw f at h)
        ]

        filled : (ss : List (ℕ × Tree)) (xs m ys : List ℕ) → xs ≡ 40 ∷ m → IsList (IsPlaced end Is) ss m ys → length ss ≤ 32 → IsSubs end Is ss xs ys
        filled [] xs m ys is (first, others, n, one, more, f) less = cc f
        filled (s ∷ ss) xs m ys is list less = (m, is, list, less)

        go : (ss : List (ℕ × Tree)) (xs ys : List ℕ) (o : Option (ℕ × List ℕ)) → byte_at 40 xs ≡ o → subs_by end read xs o ≡ Some (ss, ys) → IsSubs end Is ss xs ys
        go ss xs ys None is h = let p = pair_parts [] ss xs ys h in subst (λ us. IsSubs end Is us xs ys) p.0 (p.1, is)
        go ss xs ys (Some b) is h =
            let r = then_some (list_with (placed end read) b.1) (at_most 32) (ss, ys) h in
            let f = few-ok r.0 ss ys r.2 in
            let whole : IsList (IsPlaced end Is) ss b.1 ys =
            subst (λ z. IsList (IsPlaced end Is) z b.1 ys) f.0 (subst (λ z. IsList (IsPlaced end Is) r.0.0 b.1 z) f.1 (l.sound r.0.0 b.1 r.0.1 r.1)) in
            filled ss xs b.1 ys (byte-is 40 b.0 xs b.1 is) whole (subst (λ z. length z ≤ 32) f.0 f.2)

        done : (ss : List (ℕ × Tree)) (xs ys : List ℕ) → IsSubs end Is ss xs ys → subs_by end read xs (byte_at 40 xs) ≡ Some (ss, ys)
        done [] xs ys h = rw h.1 (ap (λ z. Some ([], z)) h.0)
        done (s ∷ ss) xs ys (m, is, list, less) =
            let small : nat_le (length (s ∷ ss)) 32 ≡ true = le-leb (length (s ∷ ss)) 32 less in
            rw is (rw (l.complete (s ∷ ss) m ys list) (rw small refl))

        back : (ss : List (ℕ × Tree)) (xs ys : List ℕ) → IsSubs end Is ss xs ys → After ys xs
        back [] xs ys h = subst (λ z. After z xs) h.0 (after-self xs)
        back (s ∷ ss) xs ys (m, is, list, less) = subst (λ z. After ys z) (sym is) (after_then (40 ∷ m) m ys (after-one 40 m) (l.after (s ∷ ss) m ys list))
