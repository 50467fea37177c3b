-- Held terms: how often each is held, and their order.
use Rattle.std.proofs.Common.{◌≡◌, ℕ, suc, Bool, true, false, not, List, [], ◌∷◌, length, Option, Some, None, refl, sym, ap, ◌∙◌, arith, ⊎_elim, one-add}
use Rattle.std.specs.Prelude.{◌+◌, nat_lt, option_map, remove, if◌then◌else◌}
use Rattle.std.specs.List.{position_or_len}
use Rattle.std.proofs.lemmas.Bool.{cases_Bool, and_parts, and_from, not-true, not-false}
use Rattle.std.proofs.lemmas.Bool.Decides.{nat_tests}
use Rattle.mlk_names.specs.declared.term.LockTerm.{LockTerm}
use Rattle.mlk_cert_lexemes.specs.Lists.{ascends, upto, below}
use Rattle.mlk_cert_lexemes.specs.Kinds.{terms_upto}
use Rattle.mlk_cert_lexemes.specs.Texts.{term_text}
use Rattle.mlk_cert_lexemes.proofs.TextOrder.{upto-total}
use Rattle.mlk_walk_state.specs.Terms.{same_term, add_term, add_terms, taken}
use Rattle.mlk_walk_state.specs.Laws.{one_if, count_of, HeldAre}
use Rattle.mlk_walk_state.proofs.TermTests.{same_term_decides}

lt_suc : (x y : ℕ) → nat_lt (suc x) (suc y) ≡ nat_lt x y
lt_suc x y = ⊎_elim (λ (h : nat_lt x y ≡ true). let i : nat_lt (suc x) (suc y) ≡ true = grind (arith, nat_tests) in i ∙ sym h)
    (λ (h : nat_lt x y ≡ false). let i : nat_lt (suc x) (suc y) ≡ false = grind (arith, nat_tests) in i ∙ sym h) (cases_Bool (nat_lt x y))

lt_zero : (x : ℕ) → nat_lt 0 (suc x) ≡ true
lt_zero x = grind (arith, nat_tests)

module _ (t : LockTerm) where
  stands_before : (u : LockTerm) → below (term_text u) (term_text t) ≡ true → terms_upto u t ≡ true
  stands_before u h = upto-total (term_text t) (term_text u) (not-true (upto (term_text t) (term_text u)) h)

  stands_after : (u : LockTerm) → below (term_text u) (term_text t) ≡ false → terms_upto t u ≡ true
  stands_after u h = not-false (upto (term_text t) (term_text u)) h

  -- where a term is added: before the first of these, or after it
  put_first : (u : LockTerm) (us : List LockTerm) → below (term_text u) (term_text t) ≡ false → add_term t (u ∷ us) ≡ t ∷ u ∷ us
  put_first u us h = rw h refl

  put_later : (u : LockTerm) (us : List LockTerm) → below (term_text u) (term_text t) ≡ true → add_term t (u ∷ us) ≡ u ∷ add_term t us
  put_later u us h = rw (h, one-add) refl

  after_first : (u : LockTerm) (us : List LockTerm) → terms_upto u t ≡ true → ascends terms_upto (u ∷ us) ≡ true → ascends terms_upto (add_term t us) ≡ true
      → ascends terms_upto (u ∷ add_term t us) ≡ true
  after_first u [] h k o = and_from (terms_upto u t) true h refl
  after_first u (v ∷ vs) h k o =
      let p = and_parts (terms_upto u v) (ascends terms_upto (v ∷ vs)) k in
      ⊎_elim
      (λ (e : below (term_text v) (term_text t) ≡ true).
      let q = put_later v vs e in
      ap (λ z. ascends terms_upto (u ∷ z)) q ∙ and_from (terms_upto u v) (ascends terms_upto (v ∷ add_term t vs)) p.0 (ap (ascends terms_upto) (sym q) ∙ o))
      (λ (e : below (term_text v) (term_text t) ≡ false).
      let q = put_first v vs e in
      ap (λ z. ascends terms_upto (u ∷ z)) q ∙ and_from (terms_upto u t) (ascends terms_upto (t ∷ v ∷ vs)) h (ap (ascends terms_upto) (sym q) ∙ o))
      (cases_Bool (below (term_text v) (term_text t)))

  tail_ascends : (u : LockTerm) (us : List LockTerm) → ascends terms_upto (u ∷ us) ≡ true → ascends terms_upto us ≡ true
  tail_ascends u [] h = refl
  tail_ascends u (v ∷ vs) h = (and_parts (terms_upto u v) (ascends terms_upto (v ∷ vs)) h).1

  in_order : (held : List LockTerm) → ascends terms_upto held ≡ true → ascends terms_upto (add_term t held) ≡ true
  in_order [] h = refl
  in_order (u ∷ us) h =
      ⊎_elim
      (λ (e : below (term_text u) (term_text t) ≡ true).
      ap (ascends terms_upto) (put_later u us e) ∙ after_first u us (stands_before u e) h (in_order us (tail_ascends u us h)))
      (λ (e : below (term_text u) (term_text t) ≡ false).
      ap (ascends terms_upto) (put_first u us e) ∙ and_from (terms_upto t u) (ascends terms_upto (u ∷ us)) (stands_after u e) h)
      (cases_Bool (below (term_text u) (term_text t)))

  length_put : (held : List LockTerm) → length (add_term t held) ≡ 1 + length held
  length_put [] = omega arith
  length_put (u ∷ us) =
      let n = length_put us in
      ⊎_elim (λ (e : below (term_text u) (term_text t) ≡ true). let a : length (add_term t (u ∷ us)) ≡ suc (length (add_term t us)) = ap length (put_later u us e) in omega (arith, a, n))
      (λ (e : below (term_text u) (term_text t) ≡ false). let a : length (add_term t (u ∷ us)) ≡ suc (suc (length us)) = ap length (put_first u us e) in omega (arith, a))
      (cases_Bool (below (term_text u) (term_text t)))

  count_put : (u : LockTerm) (held : List LockTerm) → count_of u (add_term t held) ≡ count_of u held + one_if (same_term u t)
  count_put u [] = omega arith
  count_put u (v ∷ vs) =
      let n = count_put u vs in
      ⊎_elim (λ (e : below (term_text v) (term_text t) ≡ true). ap (count_of u) (put_later v vs e) ∙ added (one_if (same_term u v)) n)
      (λ (e : below (term_text v) (term_text t) ≡ false). ap (count_of u) (put_first v vs e) ∙ turned_sum (one_if (same_term u t)) (one_if (same_term u v) + count_of u vs))
      (cases_Bool (below (term_text v) (term_text t)))
    where
      added : (k : ℕ) → count_of u (add_term t vs) ≡ count_of u vs + one_if (same_term u t) → k + count_of u (add_term t vs) ≡ (k + count_of u vs) + one_if (same_term u t)
      added k n = omega (arith, n)

      turned_sum : (k n : ℕ) → k + n ≡ n + k
      turned_sum k n = omega arith

  -- the first term that is equal to it is removed
  taken_first : (u : LockTerm) (us : List LockTerm) → same_term t u ≡ true → taken t (u ∷ us) ≡ Some us
  taken_first u us e = rw (e, lt_zero (length us)) refl

  taken_later : (u : LockTerm) (us : List LockTerm) → same_term t u ≡ false → taken t (u ∷ us) ≡ option_map (λ z. u ∷ z) (taken t us)
  taken_later u us e = rw (e, one-add, lt_suc (position_or_len (same_term t) us) (length us)) (of (nat_lt (position_or_len (same_term t) us) (length us)))
    where
      of : (b : Bool) → option_map (remove (u ∷ us)) (if b then Some (suc (position_or_len (same_term t) us)) else None)
          ≡ option_map (λ z. u ∷ z) (option_map (remove us) (if b then Some (position_or_len (same_term t) us) else None))
      of true = refl
      of false = refl

  count_taken : (u : LockTerm) (held rest : List LockTerm) → taken t held ≡ Some rest → count_of u held ≡ count_of u rest + one_if (same_term u t)
  count_taken u [] rest h = absurd (cc h)
  count_taken u (v ∷ vs) rest h =
      ⊎_elim
      (λ (e : same_term t v ≡ true).
      let s : Some vs ≡ Some rest = sym (taken_first v vs e) ∙ h in
      let r : vs ≡ rest = cc s in
      let same : t ≡ v = (same_term_decides t v).0 e in
      let i : one_if (same_term u v) ≡ one_if (same_term u t) = ap (λ z. one_if (same_term u z)) (sym same) in
      let j : count_of u vs ≡ count_of u rest = ap (count_of u) r in
      omega (arith, i, j))
      (λ (e : same_term t v ≡ false). of (taken t vs) refl (sym (taken_later v vs e) ∙ h) (count_taken u vs))
      (cases_Bool (same_term t v))
    where
      of : (o : Option (List LockTerm)) → taken t vs ≡ o → option_map (λ z. v ∷ z) (taken t vs) ≡ Some rest
          → ((r : List LockTerm) → taken t vs ≡ Some r → count_of u vs ≡ count_of u r + one_if (same_term u t))
          → count_of u (v ∷ vs) ≡ count_of u rest + one_if (same_term u t)
      of None e g later = let k : None ≡ Some rest = rw e at g in absurd (cc k)
      of (Some r) e g later =
          let k : Some (v ∷ r) ≡ Some rest = rw e at g in
          let l : v ∷ r ≡ rest = cc k in
          let n : count_of u vs ≡ count_of u r + one_if (same_term u t) = later r e in
          let m : one_if (same_term u v) + count_of u r ≡ count_of u rest = ap (count_of u) l in
          omega (arith, n, m)

  count_none : (held : List LockTerm) → taken t held ≡ None → count_of t held ≡ 0
  count_none [] h = refl
  count_none (v ∷ vs) h =
      ⊎_elim (λ (e : same_term t v ≡ true). let s : Some vs ≡ None = sym (taken_first v vs e) ∙ h in absurd (cc s))
      (λ (e : same_term t v ≡ false). of (taken t vs) refl (sym (taken_later v vs e) ∙ h) e (count_none vs))
      (cases_Bool (same_term t v))
    where
      of : (o : Option (List LockTerm)) → taken t vs ≡ o → option_map (λ z. v ∷ z) (taken t vs) ≡ None → same_term t v ≡ false
          → (taken t vs ≡ None → count_of t vs ≡ 0) → count_of t (v ∷ vs) ≡ 0
      of None e g s later = let k = later e in rw s (omega (arith, k))
      of (Some r) e g s later = let k : Some (v ∷ r) ≡ None = rw e at g in absurd (cc k)

length_put_all : (terms held : List LockTerm) → length (add_terms terms held) ≡ length terms + length held
length_put_all [] held = omega arith
length_put_all (t ∷ terms) held = let n = length_put t held in let m = length_put_all terms (add_term t held) in omega (arith, n, m)

pub held_are : HeldAre
held_are = record { of_put = count_put; of_taken = count_taken; of_none = count_none; of_all = length_put_all; ordered = in_order }
