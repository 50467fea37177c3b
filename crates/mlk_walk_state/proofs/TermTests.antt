-- What tests on terms decide.
use Rattle.std.proofs.Common.{◌≡◌, ◌↔◌, ℕ, Bool, true, false, ◌&&◌, List, [], ◌∷◌, Option, Some, None, refl, ap, sym, ◌∙◌, ⊎_elim, arith}
use Rattle.std.specs.Prelude.{Decides, IsTrue}
use Rattle.std.proofs.lemmas.Bool.{cases_Bool}
use Rattle.std.proofs.lemmas.Bool.Decides.{Decides-and, Decides-like}
use Rattle.mlk_names.specs.declared.known_symbol.KnownSym.{KnownSym}
use Rattle.mlk_names.specs.declared.term.LockTerm.{LockTerm}
use Rattle.mlk_rules.specs.declared.family.Family.{Family}
use Rattle.mlk_rules.specs.Computed.{same_root, same_symbol, is_prefix}
use Rattle.mlk_rules.specs.Ranks.{constant_term, HasRank, FamiliesApart}
use Rattle.mlk_rules.proofs.RankLemmas.{one_rank}
use Rattle.mlk_rules.proofs.Computing.{root_decides, symbol_decides, prefix_decides, in_front, in_rest, in_list}
use Rattle.mlk_walk_state.specs.Terms.{same_known, same_term, rank_of}

known_decides : (xs ys : List KnownSym) → Decides (same_known xs ys) (xs ≡ ys)
known_decides [] [] = (λ e. refl, λ e. refl)
known_decides [] (y ∷ ys) = (λ e. absurd (cc), λ e. absurd (cc))
known_decides (x ∷ xs) [] = (λ e. absurd (cc), λ e. absurd (cc))
known_decides (x ∷ xs) (y ∷ ys) =
    Decides-like (same_symbol x y && same_known xs ys) (λ (h : (x ≡ y) × (xs ≡ ys)). let a = h.0 in let b = h.1 in cc) (λ (e : x ∷ xs ≡ y ∷ ys). (cc, cc))
    (Decides-and (same_symbol x y) (same_known xs ys) (symbol_decides x y) (known_decides xs ys))

-- two terms are equal if their roots and subscripts are
pub same_term_decides : (t u : LockTerm) → Decides (same_term t u) (t ≡ u)
unfolding same_term
same_term_decides t u =
    Decides-like (same_root t.root u.root && same_known t.subs u.subs)
    (λ (h : (t.root ≡ u.root) × (t.subs ≡ u.subs)). ap (λ z. record t { root = z }) h.0 ∙ ap (λ z. record u { subs = z }) h.1)
    (λ (e : t ≡ u). (ap (λ (z : LockTerm). z.root) e, ap (λ (z : LockTerm). z.subs) e))
    (Decides-and (same_root t.root u.root) (same_known t.subs u.subs) (root_decides t.root u.root) (known_decides t.subs u.subs))

-- tests that decide the same thing are equal
pub one_test : {P : Type 0} (a b : Bool) → IsTrue a ↔ P → Decides b P → a ≡ b
one_test true b h d = sym (d.1 (h.0 refl))
one_test false true h d = absurd (let e : false ≡ true = h.1 (d.0 refl) in cc)
one_test false false h d = refl

-- the computed rank is that of the relation
ranked : (families : List Family) (t : LockTerm) (k : ℕ) → rank_of families t ≡ Some k → HasRank families t k
ranked [] t k e = absurd (cc)
ranked (f ∷ families) t k e =
    ⊎_elim
    (λ (i : is_prefix (constant_term f.name) t ≡ true). let r : Some f.rank ≡ Some k = rw i at e in
    (f, in_front f families, (prefix_decides (constant_term f.name) t).0 i, cc))
    (λ (i : is_prefix (constant_term f.name) t ≡ false). let r = ranked families t k (rw i at e) in
    (r.0, in_rest f r.0 families r.1, r.2, r.3))
    (cases_Bool (is_prefix (constant_term f.name) t))

some_rank : (families : List Family) (t : LockTerm) (k : ℕ) → HasRank families t k → rank_of families t ≡ None → ⊥
some_rank [] t k (f, c, p, r) e = let l = c.1 in omega arith
some_rank (g ∷ families) t k (f, c, p, r) e =
    ⊎_elim
    (λ (i : is_prefix (constant_term g.name) t ≡ true). let n : Some g.rank ≡ None = rw i at e in cc)
    (λ (i : is_prefix (constant_term g.name) t ≡ false). ⊎_elim
    (λ (same : g ≡ f). let j : is_prefix (constant_term f.name) t ≡ true = (prefix_decides (constant_term f.name) t).1 p in let h : true ≡ false = sym j ∙ (rw same at i) in cc)
    (λ d. some_rank families t k (f, d, p, r) (rw i at e))
    (in_list g f families c))
    (cases_Bool (is_prefix (constant_term g.name) t))

pub rank_is : (families : List Family) (t : LockTerm) (found : Option ℕ) → ((k : ℕ) → (found ≡ Some k) ↔ HasRank families t k) → found ≡ rank_of families t
rank_is families t found h = by_rank (rank_of families t) refl
  where
    by_found : (o : Option ℕ) → found ≡ o → rank_of families t ≡ None → found ≡ None
    by_found None e n = e
    by_found (Some k) e n = absurd (some_rank families t k ((h k).0 e) n)

    by_rank : (o : Option ℕ) → rank_of families t ≡ o → found ≡ o
    by_rank None e = by_found found refl e
    by_rank (Some k) e = (h k).1 (ranked families t k e)

-- if no two families meet, each rank of the relation is the computed one
pub rank_decides : (families : List Family) (t : LockTerm) (k : ℕ) → FamiliesApart families → (rank_of families t ≡ Some k) ↔ HasRank families t k
rank_decides families t k apart = (λ e. ranked families t k e, λ h. by_rank (rank_of families t) refl h)
  where
    by_rank : (o : Option ℕ) → rank_of families t ≡ o → HasRank families t k → o ≡ Some k
    by_rank None e h = absurd (some_rank families t k h e)
    by_rank (Some j) e h = ap Some ((one_rank families apart).once t j k (ranked families t j e) h)
