-- Ranks of held names.
use Rattle.std.proofs.Common.{◌≡◌, ℕ, ◌+◌, ◌<◌, true, false, List, [], ◌∷◌, Option, Some, None, refl, subst, arith, ⊎_elim}
use Rattle.std.specs.Prelude.{◌⊎◌, option_map}
use Rattle.std.specs.List.{list_all, AllZip}
use Rattle.std.proofs.lemmas.Bool.{cases_Bool, and_parts}
use Rattle.std.proofs.lemmas.Bool.Decides.{nat_tests}
use Rattle.mlk_names.specs.declared.lock_name.LockName.{LockName}
use Rattle.mlk_names.specs.declared.term.LockTerm.{LockTerm}
use Rattle.mlk_names.specs.declared.known_symbol.KnownSym.{KnownSym}
use Rattle.mlk_names.specs.declared.known_symbol.KnownSym.TheVariants as known
use Rattle.mlk_names.specs.Symbols.{Assignment, StandsFor, sym_of}
use Rattle.mlk_names.specs.Terms.{Names}
use Rattle.mlk_rules.specs.declared.family.Family.{Family}
use Rattle.mlk_rules.specs.Ranks.{HasRank, NameHasRank, FamiliesApart}
use Rattle.mlk_rules.specs.Laws.{RankedOnce}
use Rattle.mlk_machine_locks.specs.NameTests.{same_name}
use Rattle.mlk_machine_locks.proofs.NameLemmas.{same_is}
use Rattle.mlk_walk_state.specs.Lists.{all_some}
use Rattle.mlk_walk_state.specs.Terms.{rank_of}
use Rattle.mlk_walk_state.proofs.TermTests.{rank_decides}
use Rattle.mlk_calls.specs.Calls.{ranks_below}
use Rattle.mlk_soundness_machine.specs.Reads.{value_of, name_of, one_at, times}
use Rattle.mlk_soundness_machine.proofs.Reading.{differs}
use Rattle.mlk_soundness_machine.proofs.Terms.{first_of}

module _ (a : Assignment) where
  value_stands : (s : KnownSym) (v : List ℕ) → value_of a s ≡ Some v → StandsFor a (sym_of s) v
  value_stands (known.Const c) v e = cc e
  value_stands (known.Local n) v e = e
  value_stands known.Job v e = cc e

  values_stand : (subs : List KnownSym) (vs : List (List ℕ)) → all_some (value_of a) subs ≡ Some vs → AllZip (λ s v. StandsFor a (sym_of s) v) subs vs
  values_stand [] vs e = let z : [] ≡ vs = cc e in subst (AllZip (λ s v. StandsFor a (sym_of s) v) []) z tt
  values_stand (s ∷ subs) vs e =
      let c = first_of (value_of a) s subs vs e in
      subst (AllZip (λ s v. StandsFor a (sym_of s) v) (s ∷ subs)) c.is (value_stands s c.one c.by_one, values_stand subs c.rest c.by_rest)

  pub names_it : (t : LockTerm) (n : LockName) → name_of a t ≡ Some n → Names a t n
  names_it t n h = on (all_some (value_of a) t.subs) refl h
    where
      on : (o : Option (List (List ℕ))) → all_some (value_of a) t.subs ≡ o → option_map (λ (subs : List (List ℕ)). record { root = t.root; subs = subs }) o ≡ Some n → Names a t n
      on None e g = let z : None ≡ Some n = g in absurd (cc z)
      on (Some vs) e g =
          let z : record { root = t.root; subs = vs } ≡ n = cc g in
          subst (Names a t) z (record { root = refl; subs = values_stand t.subs vs e })

  -- a name that terms denote is that of one of them
  pub ranked_below : (families : List Family) → FamiliesApart families → RankedOnce families → (low : ℕ) (ts : List LockTerm) → list_all (λ t. ranks_below (Some low) (rank_of families t)) ts ≡ true
      → (m : LockName) → 0 < times a ts m → (r : ℕ) × NameHasRank families m r × (r < low)
  ranked_below families apart once low [] all m h = absurd (omega (arith, h))
  ranked_below families apart once low (t ∷ ts) all m h =
      let p = and_parts (ranks_below (Some low) (rank_of families t)) (list_all (λ t. ranks_below (Some low) (rank_of families t)) ts) all in
      ⊎_elim
      (λ (u : 0 < one_at (name_of a t) m). here (rank_of families t) refl p.0 (name_of a t) refl u)
      (λ (u : 0 < times a ts m). ranked_below families apart once low ts p.1 m u)
      (either (one_at (name_of a t) m) (times a ts m) h)
    where
      either : (x y : ℕ) → 0 < x + y → (0 < x) ⊎ (0 < y)
      either x y g = grind arith

      here : (o : Option ℕ) → rank_of families t ≡ o → ranks_below (Some low) o ≡ true → (q : Option LockName) → name_of a t ≡ q → 0 < one_at q m → (r : ℕ) × NameHasRank families m r × (r < low)
      here None e k q f g = differs false k refl
      here (Some r) e k None f g = absurd (omega (arith, g))
      here (Some r) e k (Some n) f g =
          let same : n ≡ m = ⊎_elim (λ (u : same_name n m ≡ true). same_is n m u) (λ (u : same_name n m ≡ false). let z : 0 < 0 = (rw u at g) in absurd (omega (arith, z))) (cases_Bool (same_name n m)) in
          let lt : r < low = grind (arith, nat_tests, k) in
          let has : HasRank families t r = (rank_decides families t r apart).0 e in
          (r, subst (λ z. NameHasRank families z r) same (once.names a t n r has (names_it t n f)), lt)
