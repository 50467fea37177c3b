-- If no two families meet, each name has one rank.
use Rattle.std.proofs.Common.{◌≡◌, ◌↔◌, ◌⊎◌, inl, inr, ℕ, ◌<◌, List, [], ◌∷◌, Some, length, arith, refl, sym, ap, ◌∙◌, subst}
use Rattle.std.specs.Prelude.{map, Contains, slice_index_or}
use Rattle.std.specs.List.{AllZip}
use Rattle.std.proofs.lemmas.Bool.{cases_order}
use Rattle.std.proofs.lemmas.List.{get_or_default}
use Rattle.mlk_names.specs.declared.lock_name.LockName.{LockName}
use Rattle.mlk_names.specs.declared.known_symbol.KnownSym.{KnownSym}
use Rattle.mlk_names.specs.declared.known_symbol.KnownSym.TheVariants.{Const}
use Rattle.mlk_names.specs.declared.term.LockTerm.{LockTerm}
use Rattle.mlk_names.specs.LockNames.{IsAbove, Conflict}
use Rattle.mlk_names.specs.Symbols.{Assignment, StandsFor, sym_of}
use Rattle.mlk_names.specs.Terms.{Names, IsPrefix}
use Rattle.mlk_names.proofs.NameLemmas.{above_one}
use Rattle.mlk_names.proofs.TermLemmas.{names_above, prefix_two}
use Rattle.mlk_names.specs.Lists.{Begins}
use Rattle.mlk_names.proofs.ListLemmas.{begins_none, begins_past, begins_head, begins_tail, begins_cons, begins_on}
use Rattle.mlk_rules.specs.declared.family.Family.{Family}
use Rattle.mlk_rules.specs.Ranks.{constant_term, HasRank, NameHasRank, FamiliesApart}
use Rattle.mlk_rules.specs.Laws.{OneRank}

above_trans : (m n o : LockName) → IsAbove m n → IsAbove n o → IsAbove m o
above_trans m n o h k = record { root = h.root ∙ k.root; subs = begins_on m.subs n.subs o.subs h.subs k.subs }

-- constants denote themselves
constants_stand : (a : Assignment) (vs : List (List ℕ)) → AllZip (λ s v. StandsFor a (sym_of s) v) (map Const vs) vs
constants_stand a [] = tt
constants_stand a (v ∷ vs) = (refl, constants_stand a vs)

names_itself : (a : Assignment) (n : LockName) → Names a (constant_term n) n
names_itself a n = record { root = refl; subs = constants_stand a n.subs }

constants_begin : (vs ws : List (List ℕ)) → Begins (map Const vs) (map Const ws) → Begins vs ws
constants_begin [] ws b = begins_none ws
constants_begin (v ∷ vs) [] b = absurd (begins_past (Const v) (map Const vs) b)
constants_begin (v ∷ vs) (w ∷ ws) b =
    let e : Const v ≡ Const w = begins_head (Const v) (Const w) (map Const vs) (map Const ws) b in
    let d : v ≡ w = cc in begins_cons v w vs ws d (constants_begin vs ws (begins_tail (Const v) (Const w) (map Const vs) (map Const ws) b))

constant_prefix : (m n : LockName) → IsPrefix (constant_term m) (constant_term n) → IsAbove m n
constant_prefix m n p = record { root = p.root; subs = constants_begin m.subs n.subs p.subs }

conflict_of : (m n : LockName) → IsPrefix (constant_term m) (constant_term n) ⊎ IsPrefix (constant_term n) (constant_term m) → Conflict m n
conflict_of m n (inl p) = inl (constant_prefix m n p)
conflict_of m n (inr p) = inr (constant_prefix n m p)

pub turned : (m n : LockName) → Conflict m n → Conflict n m
turned m n (inl h) = inr h
turned m n (inr h) = inl h

module _ (families : List Family) (apart : FamiliesApart families) where
  -- a family before another does not conflict with it
  before : (i j : ℕ) (f g : Family) → i < j → j < length families → slice_index_or families i f ≡ f → slice_index_or families j g ≡ g → Conflict f.name g.name → ⊥
  before i j f g below within d e c =
      let e' : slice_index_or families j f ≡ g = get_or_default families j f g within ∙ e in
      let P : Family → Type 0 = λ x. Conflict x.name g.name in
      let Q : Family → Type 0 = λ x. Conflict (slice_index_or families i f).name x.name in
      apart i j f below within (subst Q (sym e') (subst P (sym d) c))

  same_family : (f g : Family) → Contains families f → Contains families g → Conflict f.name g.name → f.rank ≡ g.rank
  same_family f g (i, l, d) (j, k, e) c =
      elim (cases_order i j) [
        | inl h ↦
            let e' : slice_index_or families i f ≡ g =
            get_or_default families i f g l ∙ ap (λ x. slice_index_or families x g) h ∙ e in
            ap (λ (x : Family). x.rank) (sym d ∙ e')
        | inr h ↦ elim h [
          | inl below ↦ absurd (before i j f g below k d e c)
          | inr above ↦ absurd (before j i g f above l e d (turned f.name g.name c))
        ]
      ]

  once : (t : LockTerm) (j k : ℕ) → HasRank families t j → HasRank families t k → j ≡ k
  once t j k (f, in_f, p, d) (g, in_g, q, e) =
      sym d ∙ same_family f g in_f in_g (conflict_of f.name g.name (prefix_two (constant_term f.name) (constant_term g.name) t p q)) ∙ e

  of_names : (a : Assignment) (t : LockTerm) (n : LockName) (k : ℕ) → HasRank families t k → Names a t n → NameHasRank families n k
  of_names a t n k (f, in_f, p, d) h = (f, in_f, names_above (constant_term f.name) t p a f.name n (names_itself a f.name) h, d)

  alike : (m n : LockName) (j k : ℕ) → NameHasRank families m j → NameHasRank families n k → Conflict m n → j ≡ k
  alike m n j k (f, in_f, h, d) (g, in_g, i, e) (inl c) =
      sym d ∙ same_family f g in_f in_g (above_one f.name g.name n (above_trans f.name m n h c) i) ∙ e
  alike m n j k (f, in_f, h, d) (g, in_g, i, e) (inr c) =
      sym d ∙ same_family f g in_f in_g (above_one f.name g.name m h (above_trans g.name n m i c)) ∙ e

pub one_rank : OneRank
one_rank families apart = record { once = once families apart; names = of_names families apart; alike = alike families apart }

pub rank_found : (families : List Family) (f : Family) (t : LockTerm) → FamiliesApart families → Contains families f → IsPrefix (constant_term f.name) t → (k : ℕ) → (Some f.rank ≡ Some k) ↔ HasRank families t k
rank_found families f t apart c p k = (
  λ e. let d : f.rank ≡ k = cc in (f, c, p, d),
  λ h. ap Some (once families apart t f.rank k (f, c, p, refl) h),
)

pub no_rank : (families : List Family) (t : LockTerm) → ((k : ℕ) (d : Family) → k < length families → IsPrefix (constant_term (slice_index_or families k d).name) t → ⊥) → (k : ℕ) → HasRank families t k → ⊥
no_rank families t none k (f, (i, l, e), p, d) =
    let P : Family → Type 0 = λ x. IsPrefix (constant_term x.name) t in none i f l (subst P (sym e) p)

pub begins_no_values : (vs : List (List ℕ)) (ss : List KnownSym) → length vs ≡ 0 → Begins (map Const vs) ss
begins_no_values [] ss h = begins_none ss
begins_no_values (v ∷ vs) ss h = absurd (omega arith)
