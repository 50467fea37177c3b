-- Tables of names at indexes.
use Rattle.std.proofs.Common.{◌≡◌, ◌≤◌, ◌<◌, ℕ, Bool, true, false, List, [], ◌∷◌, ◌++◌, Option, Some, None, refl, sym, ap, ◌∙◌, ⊎_elim, arith, true≢false}
use Rattle.std.specs.Prelude.{◌||◌, ◌&&◌, ◌==◌, nat_le, bytes_eq, if◌then◌else◌}
use Rattle.std.specs.List.{list_any}
use Rattle.std.specs.Map.{lookup}
use Rattle.std.proofs.lemmas.Bool.{cases_Bool, and_parts, eqb-true}
use Rattle.std.proofs.lemmas.Bool.Decides.{nat_tests}
use Rattle.std.proofs.lemmas.Slice.Eq.{bytes_eq-Decides}
use Rattle.std.proofs.lemmas.List.Folds.{list_any-append}
use Rattle.indexmap.specs.IndexMap.{insert_entry}
use Rattle.indexmap.specs.IndexSet.{insert_key}
use Rattle.mlk_program.specs.declared.frames.NameAt.{NameAt as Key}
use Rattle.mlk_program.specs.Frames.{NameAt, same_name, is_kept, is_passed, is_reached, lines_from_last, answers, key_of, keys_of, pairs_of, Kept, Learns}
use Rattle.mlk_program.specs.contracts.frames.NameAtPartialEq.TheImpl as key_eq

same_is : (a b : NameAt) → same_name a b ≡ true → a ≡ b
same_is (r, p, n) (s, q, m) h =
    let x = and_parts (r == s) ((p == q) && bytes_eq n m) h in
    let y = and_parts (p == q) (bytes_eq n m) x.1 in
    ap (λ z. (z, p, n)) (eqb-true r s x.0) ∙ ap (λ z. (s, z, n)) (eqb-true p q y.0) ∙ ap (λ z. (s, q, z)) ((bytes_eq-Decides n m).0 y.1)

same_self : (a : NameAt) → same_name a a ≡ true
same_self (r, p, n) = rw (same r, same p, (bytes_eq-Decides n n).1 refl) refl
  where
    same : (k : ℕ) → (k == k) ≡ true
    same k = grind (arith, nat_tests)

or_none : (b : Bool) → b ≡ (b || false)
or_none true = refl
or_none false = refl

or_same : (a b : Bool) → (b ≡ true → a ≡ true) → a ≡ (a || (b || false))
or_same true b h = refl
or_same false true h = h refl
or_same false false h = refl

or_both : (a b c d : Bool) → a ≡ c → b ≡ d → (a || b) ≡ (c || d)
or_both a b c d h k = rw (h, k) refl

keys_snoc : (keys : List Key) (k : Key) → keys_of (keys ++ k ∷ []) ≡ keys_of keys ++ key_of k ∷ []
keys_snoc [] k = refl
keys_snoc (x ∷ keys) k = ap (λ more. key_of x ∷ more) (keys_snoc keys k)

-- if two tests are equal, the second adds nothing
first_kept : (a b : Bool) (v w l : Option ℕ) → a ≡ b → (if b then v else l) ≡ (if a then v else (if b then w else l))
first_kept true true v w l h = refl
first_kept true false v w l h = absurd (true≢false h)
first_kept false true v w l h = absurd (true≢false (sym h))
first_kept false false v w l h = refl

-- if keys are compared as the names that they are
module _ (eq : Key → Key → Bool) (is : (a b : Key) → eq a b ≡ same_name (key_of a) (key_of b)) where
  pub any_keys : (q : Key) (keys : List Key) → list_any (eq q) keys ≡ is_kept (keys_of keys) (key_of q)
  any_keys q [] = refl
  any_keys q (k ∷ keys) = or_both (eq q k) (list_any (eq q) keys) _ _ (is q k) (any_keys q keys)

  pub key_inserted : (keys : List Key) (k : Key) (q : NameAt)
      → is_kept (keys_of (insert_key eq keys k)) q ≡ (is_kept (keys_of keys) q || (same_name q (key_of k) || false))
  key_inserted keys k q = ⊎_elim
      (λ e. rw e (or_same (is_kept (keys_of keys) q) (same_name q (key_of k))
      (λ same. let one : q ≡ key_of k = same_is q (key_of k) same in
      ap (is_kept (keys_of keys)) one ∙ sym (any_keys k keys) ∙ e)))
      (λ e. rw e (ap (λ names. is_kept names q) (keys_snoc keys k)
      ∙ list_any-append (same_name q) (keys_of keys) (key_of k ∷ [])))
      (cases_Bool (list_any (eq k) keys))

  pub last_found : (q : Key) (entries : List (Key × ℕ)) → lookup (eq q) entries ≡ lines_from_last (key_of q) (pairs_of entries)
  last_found q [] = refl
  last_found q (p ∷ entries) = ⊎_elim
      (λ (e : eq q p.0 ≡ true). let s : same_name (key_of q) (key_of p.0) ≡ true = sym (is q p.0) ∙ e in rw (e, s) refl)
      (λ (e : eq q p.0 ≡ false). let s : same_name (key_of q) (key_of p.0) ≡ false = sym (is q p.0) ∙ e in rw (e, s) (last_found q entries))
      (cases_Bool (eq q p.0))

  pub entry_inserted : (entries : List (Key × ℕ)) (k : Key) (v : ℕ) (q : NameAt)
      → lines_from_last q (pairs_of (insert_entry eq entries k v))
      ≡ (if same_name q (key_of k) then Some v else lines_from_last q (pairs_of entries))
  entry_inserted [] k v q = refl
  entry_inserted (p ∷ entries) k v q = ⊎_elim
      (λ (e : eq k p.0 ≡ true). rw e (first_kept (same_name q (key_of k)) (same_name q (key_of p.0)) (Some v) (Some p.1)
      (lines_from_last q (pairs_of entries))
      (ap (same_name q) (same_is (key_of k) (key_of p.0) (sym (is k p.0) ∙ e)))))
      (λ (e : eq k p.0 ≡ false). rw e (⊎_elim
      (λ (s : same_name q (key_of p.0) ≡ true).
      let at : q ≡ key_of p.0 = same_is q (key_of p.0) s in
      let other : same_name q (key_of k) ≡ false = not_same q k p.0 at e in
      rw (s, other) refl)
      (λ (s : same_name q (key_of p.0) ≡ false). rw s (entry_inserted entries k v q))
      (cases_Bool (same_name q (key_of p.0)))))
      (cases_Bool (eq k p.0))
    where
      not_same : (r : NameAt) (a b : Key) → r ≡ key_of b → eq a b ≡ false → same_name r (key_of a) ≡ false
      not_same r a b at e = ⊎_elim
          (λ (s : same_name r (key_of a) ≡ true).
          let one : key_of a ≡ key_of b = sym (same_is r (key_of a) s) ∙ at in
          absurd (true≢false (sym (is a b ∙ ap (λ z. same_name z (key_of b)) one ∙ same_self (key_of b)) ∙ e)))
          (λ s. s)
          (cases_Bool (same_name r (key_of a)))

-- a name that is passed in a line, if it is in that or a later one of its part
not_below : (a b : ℕ) → nat_le b a ≡ true → b ≤ a
not_below a b h = grind (arith, nat_tests)

below : (a b : ℕ) → nat_le b a ≡ false → a < b
below a b h = grind (arith, nat_tests)

reached : (a b : ℕ) → b ≤ a → nat_le b a ≡ true
reached a b h = grind (arith, nat_tests)

reached_more : (o : Option ℕ) (left more : ℕ) → is_reached left o ≡ true → left ≤ more → is_reached more o ≡ true
reached_more None left more h k = absurd (true≢false (sym h))
reached_more (Some last) left more h k = let l : last ≤ left = not_below left last h in reached more last (omega (arith, l, k))

pub passed_already : (pairs : List (NameAt × ℕ)) (key : NameAt) (left : ℕ) → is_passed pairs key left ≡ true
    → (q : NameAt) (more : ℕ) → is_passed pairs q more ≡ (is_passed pairs q more || (answers q more (key, left) || false))
passed_already pairs key left h q more = or_same (is_passed pairs q more) (answers q more (key, left)) (λ a.
    let p = and_parts (same_name q key) (nat_le left more) a in
    let one : q ≡ key = same_is q key p.0 in
    ap (λ z. is_passed pairs z more) one ∙ reached_more (lines_from_last key pairs) left more h (not_below more left p.1))

not_reached : (o : Option ℕ) (left more : ℕ) → is_reached left o ≡ false → is_reached more o ≡ true → nat_le left more ≡ true
not_reached None left more h k = absurd (true≢false (sym k))
not_reached (Some last) left more h k =
    let l : last ≤ more = not_below more last k in
    let b : left < last = below left last h in
    reached more left (omega (arith, l, b))

or_turned : (a b : Bool) → (a ≡ true → b ≡ true) → b ≡ (a || (b || false))
or_turned true b h = h refl
or_turned false b h = or_none b

pub passed_now : (pairs new : List (NameAt × ℕ)) (key : NameAt) (left : ℕ) → is_passed pairs key left ≡ false
    → ((q : NameAt) → lines_from_last q new ≡ (if same_name q key then Some left else lines_from_last q pairs))
    → (q : NameAt) (more : ℕ) → is_passed new q more ≡ (is_passed pairs q more || (answers q more (key, left) || false))
passed_now pairs new key left h is q more = ⊎_elim
    (λ (s : same_name q key ≡ true).
    let one : q ≡ key = same_is q key s in
    let now : lines_from_last q new ≡ Some left = is q ∙ (rw s refl) in
    rw (now, s) (or_turned (is_passed pairs q more) (nat_le left more)
    (λ p. not_reached (lines_from_last key pairs) left more h (ap (λ z. is_passed pairs z more) (sym one) ∙ p))))
    (λ (s : same_name q key ≡ false).
    let now : lines_from_last q new ≡ lines_from_last q pairs = is q ∙ (rw s refl) in
    rw (now, s) (or_none (is_passed pairs q more)))
    (cases_Bool (same_name q key))

-- how keys are compared
pub same_keys : (a b : Key) → key_eq.eq-value.it a b ≡ same_name (key_of a) (key_of b)
same_keys a b = refl

-- one formal is added, and one passed name
module _ (eq : Key → Key → Bool) (is : (a b : Key) → eq a b ≡ same_name (key_of a) (key_of b)) where
  pub learns_filled : (keys new : List Key) (entries : List (Key × ℕ)) (k : Key) → new ≡ insert_key eq keys k
      → Learns (key_of k ∷ []) [] (keys_of keys, pairs_of entries) (keys_of new, pairs_of entries)
  learns_filled keys new entries k e = (
    (λ q. ap (λ ks. is_kept (keys_of ks) q) e ∙ key_inserted eq is keys k q),
    (λ q left. or_none (is_passed (pairs_of entries) q left)),
  )

  pub learns_passed : (keys : List Key) (entries new : List (Key × ℕ)) (k : Key) (left : ℕ)
      → is_passed (pairs_of entries) (key_of k) left ≡ false → new ≡ insert_entry eq entries k left
      → Learns [] ((key_of k, left) ∷ []) (keys_of keys, pairs_of entries) (keys_of keys, pairs_of new)
  learns_passed keys entries new k left h e = (
    (λ q. or_none (is_kept (keys_of keys) q)),
    passed_now (pairs_of entries) (pairs_of new) (key_of k) left h
        (λ q. ap (λ es. lines_from_last q (pairs_of es)) e ∙ entry_inserted eq is entries k left q),
  )

pub learns_again : (kept : Kept) (key : NameAt) (left : ℕ) → is_passed kept.1 key left ≡ true
    → Learns [] ((key, left) ∷ []) kept kept
learns_again kept key left h = ((λ q. or_none (is_kept kept.0 q)), passed_already kept.1 key left h)
