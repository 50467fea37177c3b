-- What a call binds: formals, and the values that they are given.
use Rattle.std.proofs.Common.{◌≡◌, ℕ, suc, ◌+◌, Bool, true, false, List, [], ◌∷◌, ◌++◌, length, map, Option, Some, None, refl, sym, ap, ◌∙◌, subst, arith, ⊎_elim, one-add}
use Rattle.std.specs.Prelude.{◌||◌, ◌⊎◌, nat_lt, if◌then◌else◌, option_map, bytes_eq, position, Contains, flat_map}
use Rattle.std.specs.List.{list_any, position_or_len}
use Rattle.std.proofs.lemmas.Bool.{cases_Bool, or_cases, or_parts, or_left, or_right, or_from}
use Rattle.std.proofs.lemmas.Bool.Decides.{nat_tests}
use Rattle.mlk_names.specs.declared.symbol.Sym.{Sym}
use Rattle.mlk_names.specs.declared.symbol.Sym.TheVariants as by
use Rattle.mlk_names.specs.declared.known_symbol.KnownSym.{KnownSym}
use Rattle.mlk_names.specs.declared.known_symbol.KnownSym.TheVariants as known
use Rattle.mlk_names.specs.Symbols.{Assignment, StandsFor, known_of}
use Rattle.mlk_names.specs.Actuals.{local_at}
use Rattle.mlk_cert_parts.specs.declared.names.NameSet.{NameSet}
use Rattle.mlk_syntax.specs.Distinct.{AreDistinct}
use Rattle.mlk_syntax.specs.ExprTrees.{ActualTree, Given, ByRef, Missing}
use Rattle.mlk_machine_jobs.specs.Bindings.{Cell, same_cell, Bindings, Cells, look, put_value}
use Rattle.mlk_machine_jobs.specs.Calling.{next_actual, later_actuals, binder, binders, with_actuals}
use Rattle.mlk_walk_state.specs.Names.{has, is_among, have}
use Rattle.mlk_calls.specs.Calls.{lent_set}
use Rattle.mlk_machine_laws.specs.Sharing.{binds, is_lent}
use Rattle.mlk_machine_laws.proofs.Killing.{same_is, same_self}
use Rattle.mlk_calls.specs.Changes.{marked}
use Rattle.mlk_walk_state.specs.Terms.{is_such}
use Rattle.mlk_soundness_machine.specs.Reads.{value_of}
use Rattle.mlk_soundness_machine.specs.Described.{is_local, some_local}
use Rattle.mlk_soundness_machine.proofs.Reading.{differs, name_is, name_self, local_first, local_later}
use Rattle.mlk_soundness_machine.proofs.Terms.{put_name}

lt_suc : (x y : ℕ) → nat_lt (suc x) (suc y) ≡ nat_lt x y
lt_suc x y = ⊎_elim (λ (h : nat_lt x y ≡ true). let i : nat_lt (suc x) (suc y) ≡ true = grind (arith, nat_tests) in i ∙ sym h)
    (λ (h : nat_lt x y ≡ false). let i : nat_lt (suc x) (suc y) ≡ false = grind (arith, nat_tests) in i ∙ sym h) (cases_Bool (nat_lt x y))

lt_zero : (x : ℕ) → nat_lt 0 (suc x) ≡ true
lt_zero x = grind (arith, nat_tests)

position_first : (p : List ℕ → Bool) (x : List ℕ) (xs : List (List ℕ)) → p x ≡ true → position p (x ∷ xs) ≡ Some 0
position_first p x xs e = rw (e, lt_zero (length xs)) refl

position_later : (p : List ℕ → Bool) (x : List ℕ) (xs : List (List ℕ)) → p x ≡ false → position p (x ∷ xs) ≡ option_map suc (position p xs)
position_later p x xs e = rw (e, one-add, lt_suc (position_or_len p xs) (length xs)) (of (nat_lt (position_or_len p xs) (length xs)))
  where
    of : (b : Bool) → (if b then Some (suc (position_or_len p xs)) else None) ≡ option_map suc (if b then Some (position_or_len p xs) else None)
    of true = refl
    of false = refl

-- the symbol that is substituted for a local
abbrev pub first_sym : List Sym → Sym
first_sym [] = by.Unknown
first_sym (s ∷ ss) = s

abbrev pub later_syms : List Sym → List Sym
later_syms [] = []
later_syms (s ∷ ss) = ss

put_first : (f x : List ℕ) (fs : List (List ℕ)) (ss : List Sym) → bytes_eq f x ≡ true → put_name (f ∷ fs) (map Some ss) x ≡ first_sym ss
put_first f x fs ss e = ap (local_at (map Some ss) x) (position_first (λ z. bytes_eq z x) f fs e) ∙ at ss
  where
    at : (ss : List Sym) → local_at (map Some ss) x (Some 0) ≡ first_sym ss
    at [] = refl
    at (s ∷ ss) = refl

put_later : (f x : List ℕ) (fs : List (List ℕ)) (ss : List Sym) → bytes_eq f x ≡ false → put_name (f ∷ fs) (map Some ss) x ≡ put_name fs (map Some (later_syms ss)) x
put_later f x fs ss e = ap (local_at (map Some ss) x) (position_later (λ z. bytes_eq z x) f fs e) ∙ at ss (position (λ z. bytes_eq z x) fs)
  where
    at : (ss : List Sym) (o : Option ℕ) → local_at (map Some ss) x (option_map suc o) ≡ local_at (map Some (later_syms ss)) x o
    at [] None = refl
    at [] (Some k) = refl
    at (s ∷ ss) None = refl
    at (s ∷ ss) (Some k) = refl

pub put_other : (fs : List (List ℕ)) (ss : List Sym) (x : List ℕ) → is_among fs x ≡ false → put_name fs (map Some ss) x ≡ by.Local x
unfolding is_among
put_other [] ss x h = refl
put_other (f ∷ fs) ss x h =
    let p = or_parts (bytes_eq x f) (is_among fs x) h in
    put_later f x fs ss (flip p.0) ∙ put_other fs (later_syms ss) x p.1
  where
    flip : bytes_eq x f ≡ false → bytes_eq f x ≡ false
    flip e = ⊎_elim (λ (u : bytes_eq f x ≡ true). differs (bytes_eq x f) (subst (λ z. bytes_eq z f ≡ true) (name_is f x u) (name_self f)) e) (λ (u : bytes_eq f x ≡ false). u) (cases_Bool (bytes_eq f x))

-- formals that are another's by reference, and the names that are passed so
abbrev pub is_reference : ActualTree → Bool
is_reference (ByRef column name) = true
is_reference (Given t) = false
is_reference Missing = false

abbrev pub refs_of : List (List ℕ) → List ActualTree → List ℕ → Bool
refs_of [] given x = false
refs_of (f ∷ fs) given x = if bytes_eq f x then is_reference (next_actual given) else refs_of fs (later_actuals given) x

abbrev pub refers_to : List ℕ → ActualTree → Bool
refers_to n (ByRef column name) = bytes_eq name n
refers_to n (Given t) = false
refers_to n Missing = false

abbrev pub passes : List (List ℕ) → List ActualTree → List ℕ → Bool
passes [] given n = false
passes (f ∷ fs) given n = refers_to n (next_actual given) || passes fs (later_actuals given) n

-- the passed symbols denote the values
abbrev pub Passed : Assignment → List ActualTree → List Sym → List (List ℕ) → Type 0
Passed a [] [] [] = Unit {0}
Passed a [] [] (v ∷ vs) = ⊥
Passed a [] (s ∷ ss) vs = ⊥
Passed a (Given t ∷ given) [] vs = ⊥
Passed a (Given t ∷ given) (s ∷ ss) [] = ⊥
Passed a (Given t ∷ given) (s ∷ ss) (v ∷ vs) = StandsFor a s v × Passed a given ss vs
Passed a (ByRef column name ∷ given) [] vs = ⊥
Passed a (ByRef column name ∷ given) (s ∷ ss) vs = (s ≡ by.Unknown) × Passed a given ss vs
Passed a (Missing ∷ given) [] vs = ⊥
Passed a (Missing ∷ given) (s ∷ ss) vs = (s ≡ by.Unknown) × Passed a given ss vs

-- names
module _ (caller : Bindings) (g : ℕ) where
  pub binds_call : (fs : List (List ℕ)) (given : List ActualTree) (x : List ℕ) → binds (binders caller g fs given) x ≡ is_among fs x
  unfolding is_among
  binds_call [] given x = refl
  binds_call (f ∷ fs) given x = on (next_actual given) (binds_call fs (later_actuals given) x)
    where
      flip : bytes_eq f x ≡ bytes_eq x f
      flip = ⊎_elim (λ (u : bytes_eq f x ≡ true). u ∙ sym (subst (λ z. bytes_eq z f ≡ true) (name_is f x u) (name_self f)))
          (λ (u : bytes_eq f x ≡ false). ⊎_elim (λ (v : bytes_eq x f ≡ true). differs (bytes_eq f x) (subst (λ z. bytes_eq z x ≡ true) (name_is x f v) (name_self x)) u) (λ (v : bytes_eq x f ≡ false). u ∙ sym v) (cases_Bool (bytes_eq x f)))
          (cases_Bool (bytes_eq f x))

      on : (a : ActualTree) → binds (binders caller g fs (later_actuals given)) x ≡ is_among fs x → binds (binder caller g f a ∷ binders caller g fs (later_actuals given)) x ≡ is_among (f ∷ fs) x
      on (Given t) h = ap (λ z. z || binds (binders caller g fs (later_actuals given)) x) flip ∙ ap (λ z. bytes_eq x f || z) h
      on (ByRef column name) h = ap (λ z. z || binds (binders caller g fs (later_actuals given)) x) flip ∙ ap (λ z. bytes_eq x f || z) h
      on Missing h = ap (λ z. z || binds (binders caller g fs (later_actuals given)) x) flip ∙ ap (λ z. bytes_eq x f || z) h

  pub look_formal : (fs : List (List ℕ)) (given : List ActualTree) (back : Bindings) (x : List ℕ) → is_among fs x ≡ true → refs_of fs given x ≡ false
      → look (binders caller g fs given ++ back) x ≡ record { generation = g; name = x }
  unfolding is_among
  look_formal [] given back x h r = differs false h refl
  look_formal (f ∷ fs) given back x h r =
      ⊎_elim
      (λ (u : bytes_eq f x ≡ true). here (next_actual given) u (rw u at r))
      (λ (u : bytes_eq f x ≡ false). there (next_actual given) u
      (look_formal fs (later_actuals given) back x
      (⊎_elim (λ (v : bytes_eq x f ≡ true). differs (bytes_eq f x) (subst (λ z. bytes_eq z x ≡ true) (name_is x f v) (name_self x)) u) (λ (v : is_among fs x ≡ true). v) (or_cases (bytes_eq x f) (is_among fs x) h))
      (rw u at r)))
      (cases_Bool (bytes_eq f x))
    where
      here : (a : ActualTree) → bytes_eq f x ≡ true → is_reference a ≡ false → look (binder caller g f a ∷ (binders caller g fs (later_actuals given) ++ back)) x ≡ record { generation = g; name = x }
      here (Given t) u k = rw u refl
      here (ByRef column name) u k = differs true refl k
      here Missing u k = rw u refl

      there : (a : ActualTree) → bytes_eq f x ≡ false → look (binders caller g fs (later_actuals given) ++ back) x ≡ record { generation = g; name = x }
          → look (binder caller g f a ∷ (binders caller g fs (later_actuals given) ++ back)) x ≡ record { generation = g; name = x }
      there (Given t) u k = rw u k
      there (ByRef column name) u k = rw u k
      there Missing u k = rw u k

  pub lent_call : (fs : List (List ℕ)) (given : List ActualTree) (back : Bindings) (d : Cell) → is_lent back d ≡ false → ((n : List ℕ) → passes fs given n ≡ true → look caller n ≡ d → ⊥)
      → is_lent (binders caller g fs given ++ back) d ≡ false
  lent_call [] given back d h k = h
  lent_call (f ∷ fs) given back d h k =
      on (next_actual given) (λ n u. k n (or_left (refers_to n (next_actual given)) (passes fs (later_actuals given) n) u))
      (lent_call fs (later_actuals given) back d h (λ n u. k n (or_right (refers_to n (next_actual given)) (passes fs (later_actuals given) n) u)))
    where
      on : (a : ActualTree) → ((n : List ℕ) → refers_to n a ≡ true → look caller n ≡ d → ⊥) → is_lent (binders caller g fs (later_actuals given) ++ back) d ≡ false
          → is_lent (binder caller g f a ∷ (binders caller g fs (later_actuals given) ++ back)) d ≡ false
      on (Given t) away r = r
      on Missing away r = r
      on (ByRef column name) away r =
          or_from (same_cell (look caller name) d) (is_lent (binders caller g fs (later_actuals given) ++ back) d)
          (⊎_elim (λ (u : same_cell (look caller name) d ≡ true). absurd (away name (name_self name) (same_is (look caller name) d u))) (λ (u : same_cell (look caller name) d ≡ false). u) (cases_Bool (same_cell (look caller name) d)))
          r

-- values
distinct_among : (f : List ℕ) (fs : List (List ℕ)) → (Contains fs f → ⊥) → is_among fs f ≡ false
unfolding is_among
distinct_among f fs h = ⊎_elim (λ (u : is_among fs f ≡ true). absurd (h (there fs u))) (λ (u : is_among fs f ≡ false). u) (cases_Bool (is_among fs f))
  where
    there : (fs : List (List ℕ)) → is_among fs f ≡ true → Contains fs f
    there [] u = differs false u refl
    there (x ∷ fs) u =
        ⊎_elim
        (λ (e : bytes_eq f x ≡ true). (0, omega arith, sym (name_is f x e)))
        (λ (e : is_among fs f ≡ true). let k = there fs e in (suc k.0, omega (arith, k.1), k.2))
        (or_cases (bytes_eq f x) (is_among fs f) u)

module _ (g : ℕ) where
  with_other : (fs : List (List ℕ)) (given : List ActualTree) (vs : List (List ℕ)) (cells : Cells) (x : List ℕ) → is_among fs x ≡ false
      → with_actuals g fs given vs cells (record { generation = g; name = x }) ≡ cells (record { generation = g; name = x })
  unfolding is_among
  with_other [] given vs cells x h = refl
  with_other (f ∷ fs) [] vs cells x h = refl
  with_other (f ∷ fs) (Given t ∷ given) [] cells x h = refl
  with_other (f ∷ fs) (Given t ∷ given) (v ∷ vs) cells x h =
      let p = or_parts (bytes_eq x f) (is_among fs x) h in
      with_other fs given vs (put_value (record { generation = g; name = f }) v cells) x p.1 ∙ past p.0
    where
      past : bytes_eq x f ≡ false → put_value (record { generation = g; name = f }) v cells (record { generation = g; name = x }) ≡ cells (record { generation = g; name = x })
      past e =
          ⊎_elim
          (λ (u : same_cell (record { generation = g; name = f }) (record { generation = g; name = x }) ≡ true).
          let z = same_is (record { generation = g; name = f }) (record { generation = g; name = x }) u in
          differs (bytes_eq x f) (subst (λ y. bytes_eq y f ≡ true) (ap (λ (c : Cell). c.name) z) (name_self f)) e)
          (λ (u : same_cell (record { generation = g; name = f }) (record { generation = g; name = x }) ≡ false). rw u refl)
          (cases_Bool (same_cell (record { generation = g; name = f }) (record { generation = g; name = x })))
  with_other (f ∷ fs) (ByRef column name ∷ given) vs cells x h = with_other fs given vs cells x (or_parts (bytes_eq x f) (is_among fs x) h).1
  with_other (f ∷ fs) (Missing ∷ given) vs cells x h = with_other fs given vs cells x (or_parts (bytes_eq x f) (is_among fs x) h).1

  stands_value : (a : Assignment) (s : Sym) (r : KnownSym) (v : List ℕ) → known_of s ≡ Some r → StandsFor a s v → value_of a r ≡ Some v
  stands_value a (by.Const c) r v e h = let z : known.Const c ≡ r = cc e in subst (λ y. value_of a y ≡ Some v) z (ap Some (sym h))
  stands_value a (by.Local n) r v e h = let z : known.Local n ≡ r = cc e in subst (λ y. value_of a y ≡ Some v) z h
  stands_value a by.Job r v e h = let z : known.Job ≡ r = cc e in subst (λ y. value_of a y ≡ Some v) z (ap Some (sym h))
  stands_value a by.Unknown r v e h = let z : None ≡ Some r = e in absurd (cc z)

  -- a formal with a known symbol is no other's by reference, and has the symbol's value
  pub formal_value : (a : Assignment) (fs : List (List ℕ)) (given : List ActualTree) (ss : List Sym) (vs : List (List ℕ)) (cells : Cells) → AreDistinct fs → Passed a given ss vs
      → (x : List ℕ) → is_among fs x ≡ true → (r : KnownSym) → known_of (put_name fs (map Some ss) x) ≡ Some r
      → (refs_of fs given x ≡ false) × (value_of a r ≡ with_actuals g fs given vs cells (record { generation = g; name = x }))
  unfolding is_among
  formal_value a [] given ss vs cells dist p x h r e = differs false h refl
  formal_value a (f ∷ fs) given ss vs cells dist p x h r e =
      ⊎_elim
      (λ (u : bytes_eq f x ≡ true).
      let z : f ≡ x = name_is f x u in
      let q = here given ss vs p (ap known_of (sym (put_first f x fs ss u)) ∙ e) in
      (rw u q.0, q.1 ∙ ap (λ n. with_actuals g (f ∷ fs) given vs cells (record { generation = g; name = n })) z))
      (λ (u : bytes_eq f x ≡ false).
      let i : is_among fs x ≡ true = ⊎_elim (λ (v : bytes_eq x f ≡ true). differs (bytes_eq f x) (subst (λ z. bytes_eq z x ≡ true) (name_is x f v) (name_self x)) u) (λ (v : is_among fs x ≡ true). v) (or_cases (bytes_eq x f) (is_among fs x) h) in
      let q = there given ss vs p (ap known_of (sym (put_later f x fs ss u)) ∙ e) (λ given ss vs cells p e. formal_value a fs given ss vs cells dist.1 p x i r e) in
      (rw u q.0, q.1))
      (cases_Bool (bytes_eq f x))
    where
      none : (s : Sym) → s ≡ by.Unknown → known_of s ≡ Some r → ⊥
      none s k e = let z : None ≡ Some r = subst (λ y. known_of y ≡ Some r) k e in absurd (cc z)

      here : (given : List ActualTree) (ss : List Sym) (vs : List (List ℕ)) → Passed a given ss vs → known_of (first_sym ss) ≡ Some r
          → (is_reference (next_actual given) ≡ false) × (value_of a r ≡ with_actuals g (f ∷ fs) given vs cells (record { generation = g; name = f }))
      here [] [] [] p e = absurd (none by.Unknown refl e)
      here [] [] (v ∷ vs) p e = absurd p
      here [] (s ∷ ss) vs p e = absurd p
      here (Given t ∷ given) [] vs p e = absurd p
      here (Given t ∷ given) (s ∷ ss) [] p e = absurd p
      here (Given t ∷ given) (s ∷ ss) (v ∷ vs) p e =
          (refl, stands_value a s r v e p.0 ∙ sym (with_other fs given vs (put_value (record { generation = g; name = f }) v cells) f (distinct_among f fs dist.0) ∙ at))
        where
          at : put_value (record { generation = g; name = f }) v cells (record { generation = g; name = f }) ≡ Some v
          at = let u = same_self (record { generation = g; name = f }) in rw u refl
      here (ByRef column name ∷ given) [] vs p e = absurd p
      here (ByRef column name ∷ given) (s ∷ ss) vs p e = absurd (none s p.0 e)
      here (Missing ∷ given) [] vs p e = absurd p
      here (Missing ∷ given) (s ∷ ss) vs p e = absurd (none s p.0 e)

      there : (given : List ActualTree) (ss : List Sym) (vs : List (List ℕ)) → Passed a given ss vs → known_of (put_name fs (map Some (later_syms ss)) x) ≡ Some r
          → ((given : List ActualTree) (ss : List Sym) (vs : List (List ℕ)) (cells : Cells) → Passed a given ss vs → known_of (put_name fs (map Some ss) x) ≡ Some r
          → (refs_of fs given x ≡ false) × (value_of a r ≡ with_actuals g fs given vs cells (record { generation = g; name = x })))
          → (refs_of fs (later_actuals given) x ≡ false) × (value_of a r ≡ with_actuals g (f ∷ fs) given vs cells (record { generation = g; name = x }))
      there [] [] [] p e more = none_given fs (more [] [] [] cells tt e)
        where
          none_given : (fs : List (List ℕ)) → (refs_of fs [] x ≡ false) × (value_of a r ≡ with_actuals g fs [] [] cells (record { generation = g; name = x }))
              → (refs_of fs [] x ≡ false) × (value_of a r ≡ cells (record { generation = g; name = x }))
          none_given [] q = q
          none_given (y ∷ ys) q = q
      there [] [] (v ∷ vs) p e more = absurd p
      there [] (s ∷ ss) vs p e more = absurd p
      there (Given t ∷ given) [] vs p e more = absurd p
      there (Given t ∷ given) (s ∷ ss) [] p e more = absurd p
      there (Given t ∷ given) (s ∷ ss) (v ∷ vs) p e more = more given ss vs (put_value (record { generation = g; name = f }) v cells) p.1 e
      there (ByRef column name ∷ given) [] vs p e more = absurd p
      there (ByRef column name ∷ given) (s ∷ ss) vs p e more = more given ss vs cells p.1 e
      there (Missing ∷ given) [] vs p e more = absurd p
      there (Missing ∷ given) (s ∷ ss) vs p e more = more given ss vs cells p.1 e

-- a name that is passed by reference counts as changed
pub passed_changes : (fs : List (List ℕ)) (given : List ActualTree) (mods : List NameSet) (n : List ℕ) → passes fs given n ≡ true → have (mods ++ flat_map lent_set given) n ≡ true
unfolding have
passed_changes fs given [] n h = lent fs given h
  where
    lent : (fs : List (List ℕ)) (given : List ActualTree) → passes fs given n ≡ true → list_any (λ s. has s n) (flat_map lent_set given) ≡ true
    lent [] given h = differs false h refl
    lent (f ∷ fs) [] h = ⊎_elim (λ u. differs false u refl) (λ u. lent fs [] u) (or_cases false (passes fs [] n) h)
    lent (f ∷ fs) (Given t ∷ given) h = ⊎_elim (λ u. differs false u refl) (λ u. lent fs given u) (or_cases false (passes fs given n) h)
    lent (f ∷ fs) (Missing ∷ given) h = ⊎_elim (λ u. differs false u refl) (λ u. lent fs given u) (or_cases false (passes fs given n) h)
    lent (f ∷ fs) (ByRef column name ∷ given) h =
        ⊎_elim (λ u. or_left (bytes_eq name n) (list_any (λ s. has s n) (flat_map lent_set given)) u) (λ u. or_right (bytes_eq name n) (list_any (λ s. has s n) (flat_map lent_set given)) (lent fs given u))
        (or_cases (bytes_eq name n) (passes fs given n) h)
passed_changes fs given (m ∷ mods) n h = or_right (has m n) (have (mods ++ flat_map lent_set given) n) (passed_changes fs given mods n h)

pub changed_mods : (mods more : List NameSet) (n : List ℕ) → have mods n ≡ true → have (mods ++ more) n ≡ true
unfolding have
changed_mods [] more n h = differs false h refl
changed_mods (m ∷ mods) more n h =
    ⊎_elim (λ u. or_left (has m n) (have (mods ++ more) n) u) (λ u. or_right (has m n) (have (mods ++ more) n) (changed_mods mods more n u)) (or_cases (has m n) (have mods n) h)

-- a symbol that is known after marking was not marked, and is one of those that were not
later_marked : (names : List NameSet) (ss : List Sym) → later_syms (map (marked names) ss) ≡ map (marked names) (later_syms ss)
later_marked names [] = refl
later_marked names (s ∷ ss) = refl

pub record Unmarked (names : List NameSet) (fs : List (List ℕ)) (ss : List Sym) (x : List ℕ) (r : KnownSym) : Type 0 where
  pub known : known_of (put_name fs (map Some ss) x) ≡ Some r
  pub at : (y : List ℕ) → is_such (λ n. bytes_eq n y) r ≡ true → some_local y (map (marked names) ss) ≡ true

first_unmarked : (names : List NameSet) (s : Sym) (ss : List Sym) (r : KnownSym) → known_of (marked names s) ≡ Some r
    → (known_of s ≡ Some r) × ((y : List ℕ) → is_such (λ n. bytes_eq n y) r ≡ true → some_local y (map (marked names) (s ∷ ss)) ≡ true)
first_unmarked names s ss r e = (same s e, λ y h. local_first y (marked names s) (map (marked names) ss) (at (marked names s) e y h))
  where
    same : (s : Sym) → known_of (marked names s) ≡ Some r → known_of s ≡ Some r
    same (by.Const v) e = e
    same (by.Local n) e =
        ⊎_elim (λ (u : have names n ≡ true). let z : None ≡ Some r = (rw u at e) in absurd (cc z)) (λ (u : have names n ≡ false). (rw u at e)) (cases_Bool (have names n))
    same by.Job e = e
    same by.Unknown e = e

    at : (t : Sym) → known_of t ≡ Some r → (y : List ℕ) → is_such (λ n. bytes_eq n y) r ≡ true → is_local y t ≡ true
    at (by.Const v) e y h = let z : known.Const v ≡ r = cc e in differs false (subst (λ q. is_such (λ n. bytes_eq n y) q ≡ true) (sym z) h) refl
    at (by.Local n) e y h = let z : known.Local n ≡ r = cc e in subst (λ q. is_such (λ n. bytes_eq n y) q ≡ true) (sym z) h
    at by.Job e y h = let z : known.Job ≡ r = cc e in differs false (subst (λ q. is_such (λ n. bytes_eq n y) q ≡ true) (sym z) h) refl
    at by.Unknown e y h = let z : None ≡ Some r = e in absurd (cc z)

pub unmarked : (names : List NameSet) (fs : List (List ℕ)) (ss : List Sym) (x : List ℕ) (r : KnownSym) → is_among fs x ≡ true
    → known_of (put_name fs (map Some (map (marked names) ss)) x) ≡ Some r → Unmarked names fs ss x r
unfolding is_among
unmarked names [] ss x r h e = differs false h refl
unmarked names (f ∷ fs) ss x r h e =
    ⊎_elim
    (λ (u : bytes_eq f x ≡ true). here ss u (ap known_of (sym (put_first f x fs (map (marked names) ss) u)) ∙ e))
    (λ (u : bytes_eq f x ≡ false).
    let i : is_among fs x ≡ true = ⊎_elim (λ (v : bytes_eq x f ≡ true). differs (bytes_eq f x) (subst (λ z. bytes_eq z x ≡ true) (name_is x f v) (name_self x)) u) (λ (v : is_among fs x ≡ true). v) (or_cases (bytes_eq x f) (is_among fs x) h) in
    let q = ap known_of (sym (put_later f x fs (map (marked names) ss) u)) ∙ e in
    let m = unmarked names fs (later_syms ss) x r i (subst (λ l. known_of (put_name fs (map Some l) x) ≡ Some r) (later_marked names ss) q) in
    record { known = ap known_of (put_later f x fs ss u) ∙ m.known; at = λ y g. further ss y (m.at y g) })
    (cases_Bool (bytes_eq f x))
  where
    here : (ss : List Sym) → bytes_eq f x ≡ true → known_of (first_sym (map (marked names) ss)) ≡ Some r → Unmarked names (f ∷ fs) ss x r
    here [] u e = let z : None ≡ Some r = e in absurd (cc z)
    here (s ∷ ss) u e =
        let p = first_unmarked names s ss r e in
        record { known = ap known_of (put_first f x fs (s ∷ ss) u) ∙ p.0; at = p.1 }

    further : (ss : List Sym) (y : List ℕ) → some_local y (map (marked names) (later_syms ss)) ≡ true → some_local y (map (marked names) ss) ≡ true
    further [] y h = h
    further (s ∷ ss) y h = local_later y (marked names s) (map (marked names) ss) h
