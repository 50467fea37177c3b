-- Terms of LOCK denote the names that the job claims or releases: one by one, and as often.
use Rattle.std.proofs.Common.{◌≡◌, ℕ, zero, suc, ◌+◌, ◌<◌, true, false, List, [], ◌∷◌, ◌++◌, length, take, drop, Option, Some, None, refl, sym, ap, ◌∙◌, subst, arith, ⊎_elim, take-append-drop}
use Rattle.std.specs.Prelude.{option_map, option_and_then, bytes_eq}
use Rattle.std.specs.List.{AllZip}
use Rattle.std.proofs.lemmas.Bool.{or_cases}
use Rattle.std.proofs.lemmas.Option.{option_and_then_some}
use Rattle.mlk_names.specs.declared.lock_name.LockName.{LockName}
use Rattle.mlk_names.specs.declared.term.LockTerm.{LockTerm}
use Rattle.mlk_names.specs.declared.symbol.Sym.{Sym}
use Rattle.mlk_names.specs.declared.symbol.Sym.TheVariants as symbol
use Rattle.mlk_names.specs.declared.known_symbol.KnownSym.{KnownSym}
use Rattle.mlk_names.specs.declared.known_symbol.KnownSym.TheVariants as known
use Rattle.mlk_names.specs.Symbols.{Assignment, StandsFor, known_of}
use Rattle.mlk_syntax.specs.ExprTrees.{Lit, Free, LocalName, GlobalName, SpecialName, Prefixed, Chain, PatternText, Func, Selected, BareCall, CallOf, count_subs}
use Rattle.mlk_syntax.specs.Trees.{VariableTree, Named}
use Rattle.mlk_machine_locks.specs.Counts.{Counts, count_of, raised, lowered, all_raised, all_lowered}
use Rattle.mlk_machine_locks.proofs.Counting.{count_of-raised, count_of-lowered}
use Rattle.mlk_machine_locks.proofs.NameLemmas.{same_self}
use Rattle.mlk_machine_jobs.specs.Commands as made
use Rattle.mlk_machine_jobs.specs.Commands.{subs_in}
use Rattle.mlk_machine_jobs.specs.Locking.{root_in, count_all, lock_name_of, names_of}
use Rattle.mlk_walk_state.specs.Lists.{all_some}
use Rattle.mlk_walk_state.specs.Terms.{taken, all_taken, is_such, all_known}
use Rattle.mlk_walk_commands.specs.Locks.{root_of, count_from, count_names, terms_of}
use Rattle.mlk_walk_commands.specs.Variables as walked
use Rattle.mlk_walk_commands.specs.Variables.{name_in}
use Rattle.mlk_soundness_machine.specs.Described.{is_local, some_local}
use Rattle.mlk_soundness_machine.specs.Reads.{value_of, name_of, one_at, times, mentions}
use Rattle.mlk_soundness_machine.proofs.Reading.{differs, name_is, of_subs, local_first, local_later, local_front, local_back}
use Rattle.mlk_soundness_machine.proofs.Terms.{first_of, left_of, mentions_cases, mentions_none}
use Rattle.mlk_soundness_walk.proofs.Sets.{subs_same}

-- the walk and the machine agree on the number of a name's subscripts, and on its root
pub count_in_same : (v : VariableTree) → walked.count_in v ≡ made.count_in v
count_in_same v = ap count_subs (subs_same v)

pub count_all_same : (names : List VariableTree) → count_names names ≡ count_all names
count_all_same names = from 0 names ∙ (let e : 0 + count_all names ≡ count_all names = omega arith in e)
  where
    from : (k : ℕ) (names : List VariableTree) → count_from k names ≡ k + count_all names
    from k [] = omega arith
    from k (v ∷ names) = let e = from (k + walked.count_in v) names in let f = count_in_same v in omega (arith, e, f)

root_same : (v : VariableTree) → root_of (name_in v) ≡ root_in v
root_same (Named column (LocalName name subs)) = refl
root_same (Named column (GlobalName caret name subs)) = refl
root_same (Named column (Lit v)) = refl
root_same (Named column Free) = refl
root_same (Named column (SpecialName s)) = refl
root_same (Named column (Prefixed op t)) = refl
root_same (Named column (Chain first rest)) = refl
root_same (Named column (PatternText text)) = refl
root_same (Named column (Func f args)) = refl
root_same (Named column (Selected cs)) = refl
root_same (Named column (BareCall c callee)) = refl
root_same (Named column (CallOf c callee given)) = refl

zip_take : {A B : Type 0} (R : A → B → Type 0) (k : ℕ) (xs : List A) (ys : List B) → AllZip R xs ys → AllZip R (take k xs) (take k ys)
zip_take R zero xs ys h = tt
zip_take R (suc k) [] [] h = tt
zip_take R (suc k) [] (y ∷ ys) h = absurd h
zip_take R (suc k) (x ∷ xs) [] h = absurd h
zip_take R (suc k) (x ∷ xs) (y ∷ ys) h = (h.0, zip_take R k xs ys h.1)

zip_drop : {A B : Type 0} (R : A → B → Type 0) (k : ℕ) (xs : List A) (ys : List B) → AllZip R xs ys → AllZip R (drop k xs) (drop k ys)
zip_drop R zero xs ys h = h
zip_drop R (suc k) [] [] h = tt
zip_drop R (suc k) [] (y ∷ ys) h = absurd h
zip_drop R (suc k) (x ∷ xs) [] h = absurd h
zip_drop R (suc k) (x ∷ xs) (y ∷ ys) h = zip_drop R k xs ys h.1

-- the first term, and the others
record FirstTerm (v : VariableTree) (names : List VariableTree) (symbols : List Sym) (terms : List LockTerm) : Type 0 where
  pub subs : List KnownSym
  pub rest : List LockTerm
  pub is : record { root = root_of (name_in v); subs = subs } ∷ rest ≡ terms
  pub by_one : all_known (take (walked.count_in v) symbols) ≡ Some subs
  pub by_rest : terms_of names (drop (walked.count_in v) symbols) ≡ Some rest

first_term : (v : VariableTree) (names : List VariableTree) (symbols : List Sym) (terms : List LockTerm) → terms_of (v ∷ names) symbols ≡ Some terms → FirstTerm v names symbols terms
first_term v names symbols terms h = on (all_known (take (walked.count_in v) symbols)) refl (terms_of names (drop (walked.count_in v) symbols)) refl h
  where
    on : (o : Option (List KnownSym)) → all_known (take (walked.count_in v) symbols) ≡ o → (r : Option (List LockTerm)) → terms_of names (drop (walked.count_in v) symbols) ≡ r
        → option_and_then (λ (t : LockTerm). option_map (λ ts. t ∷ ts) r) (option_map (λ subs. record { root = root_of (name_in v); subs = subs }) o) ≡ Some terms
        → FirstTerm v names symbols terms
    on None e r f h = let z : None ≡ Some terms = h in absurd (cc z)
    on (Some subs) e None f h = let z : None ≡ Some terms = h in absurd (cc z)
    on (Some subs) e (Some rest) f h =
        let z : Some (record { root = root_of (name_in v); subs = subs } ∷ rest) ≡ Some terms = h in
        record { subs = subs; rest = rest; is = cc z; by_one = e; by_rest = f }

-- each name has its term
pub as_many : (names : List VariableTree) (symbols : List Sym) (terms : List LockTerm) → terms_of names symbols ≡ Some terms → length names ≡ length terms
as_many [] symbols terms e = let z : [] ≡ terms = cc e in ap length z
as_many (v ∷ names) symbols terms e =
    let c = first_term v names symbols terms e in
    ap suc (as_many names (drop (walked.count_in v) symbols) c.rest c.by_rest) ∙ ap length c.is

-- what terms mention is captured
known_local : (x : List ℕ) (ss : List Sym) (ks : List KnownSym) → all_known ss ≡ Some ks → of_subs x ks ≡ true → some_local x ss ≡ true
known_local x [] ks e h = let z : [] ≡ ks = cc e in differs false (subst (λ l. of_subs x l ≡ true) (sym z) h) refl
known_local x (s ∷ ss) ks e h =
    let c = first_of known_of s ss ks e in
    ⊎_elim
    (λ u. local_first x s ss (one s c.one c.by_one u))
    (λ u. local_later x s ss (known_local x ss c.rest c.by_rest u))
    (or_cases (is_such (λ n. bytes_eq n x) c.one) (of_subs x c.rest) (subst (λ l. of_subs x l ≡ true) (sym c.is) h))
  where
    one : (s : Sym) (k : KnownSym) → known_of s ≡ Some k → is_such (λ n. bytes_eq n x) k ≡ true → is_local x s ≡ true
    one (symbol.Const v) k e h = let z : known.Const v ≡ k = cc e in differs false (subst (λ q. is_such (λ n. bytes_eq n x) q ≡ true) (sym z) h) refl
    one (symbol.Local n) k e h = let z : known.Local n ≡ k = cc e in subst (λ q. is_such (λ n. bytes_eq n x) q ≡ true) (sym z) h
    one symbol.Job k e h = let z : known.Job ≡ k = cc e in differs false (subst (λ q. is_such (λ n. bytes_eq n x) q ≡ true) (sym z) h) refl
    one symbol.Unknown k e h = let z : None ≡ Some k = e in absurd (cc z)

pub terms_local : (x : List ℕ) (names : List VariableTree) (symbols : List Sym) (terms : List LockTerm) → terms_of names symbols ≡ Some terms → mentions x terms ≡ true → some_local x symbols ≡ true
terms_local x [] symbols terms e h = let z : [] ≡ terms = cc e in differs (mentions x []) (subst (λ l. mentions x l ≡ true) (sym z) h) (mentions_none x)
terms_local x (v ∷ names) symbols terms e h =
    let c = first_term v names symbols terms e in
    let k = walked.count_in v in
    let whole : take k symbols ++ drop k symbols ≡ symbols = take-append-drop k symbols in
    subst (λ l. some_local x l ≡ true) whole
    (⊎_elim
    (λ u. local_front x (take k symbols) (drop k symbols) (known_local x (take k symbols) c.subs c.by_one u))
    (λ u. local_back x (take k symbols) (drop k symbols) (terms_local x names (drop k symbols) c.rest c.by_rest u))
    (mentions_cases x (record { root = root_of (name_in v); subs = c.subs }) c.rest (subst (λ l. mentions x l ≡ true) (sym c.is) h)))

module _ (a : Assignment) where
  -- the terms denote these names
  abbrev pub NameThem : List LockTerm → List LockName → Type 0
  NameThem terms names = AllZip (λ t n. name_of a t ≡ Some n) terms names

  known_stands : (s : Sym) (k : KnownSym) (v : List ℕ) → known_of s ≡ Some k → StandsFor a s v → value_of a k ≡ Some v
  known_stands (symbol.Const c) k v e h = let z : known.Const c ≡ k = cc e in subst (λ y. value_of a y ≡ Some v) z (ap Some (sym h))
  known_stands (symbol.Local n) k v e h = let z : known.Local n ≡ k = cc e in subst (λ y. value_of a y ≡ Some v) z h
  known_stands symbol.Job k v e h = let z : known.Job ≡ k = cc e in subst (λ y. value_of a y ≡ Some v) z (ap Some (sym h))
  known_stands symbol.Unknown k v e h = let z : None ≡ Some k = e in absurd (cc z)

  all_stand : (ss : List Sym) (ks : List KnownSym) (vs : List (List ℕ)) → all_known ss ≡ Some ks → AllZip (StandsFor a) ss vs → all_some (value_of a) ks ≡ Some vs
  all_stand [] ks [] e h = let z : [] ≡ ks = cc e in subst (λ y. all_some (value_of a) y ≡ Some []) z refl
  all_stand [] ks (v ∷ vs) e h = absurd h
  all_stand (s ∷ ss) ks [] e h = absurd h
  all_stand (s ∷ ss) ks (v ∷ vs) e h =
      let c = first_of known_of s ss ks e in
      let p : value_of a c.one ≡ Some v = known_stands s c.one v c.by_one h.0 in
      let q : all_some (value_of a) c.rest ≡ Some vs = all_stand ss c.rest vs c.by_rest h.1 in
      subst (λ l. all_some (value_of a) l ≡ Some (v ∷ vs)) c.is (rw (p, q) refl)

  -- terms of symbols that denote values denote the names of these values
  pub names_stand : (names : List VariableTree) (symbols : List Sym) (values : List (List ℕ)) (terms : List LockTerm) → AllZip (StandsFor a) symbols values → terms_of names symbols ≡ Some terms
      → NameThem terms (names_of values names)
  names_stand [] symbols values terms h e = let z : [] ≡ terms = cc e in subst (λ y. NameThem y []) z tt
  names_stand (v ∷ names) symbols values terms h e =
      let c = first_term v names symbols terms e in
      let k = walked.count_in v in
      let stand : all_some (value_of a) c.subs ≡ Some (take k values) = all_stand (take k symbols) c.subs (take k values) c.by_one (zip_take (StandsFor a) k symbols values h) in
      let named : name_of a (record { root = root_of (name_in v); subs = c.subs }) ≡ Some (record { root = root_of (name_in v); subs = take k values }) =
      ap (λ o. option_map (λ (subs : List (List ℕ)). record { root = root_of (name_in v); subs = subs }) o) stand in
      let rooted : name_of a (record { root = root_of (name_in v); subs = c.subs }) ≡ Some (lock_name_of v (take k values)) = named ∙ ap (λ r. Some (record { root = r; subs = take k values })) (root_same v) in
      let one : name_of a (record { root = root_of (name_in v); subs = c.subs }) ≡ Some (lock_name_of v (take (made.count_in v) values)) =
      rooted ∙ ap (λ m. Some (lock_name_of v (take m values))) (count_in_same v) in
      let rest : NameThem c.rest (names_of (drop k values) names) = names_stand names (drop k symbols) (drop k values) c.rest (zip_drop (StandsFor a) k symbols values h) c.by_rest in
      let others : NameThem c.rest (names_of (drop (made.count_in v) values) names) = subst (λ m. NameThem c.rest (names_of (drop m values) names)) (count_in_same v) rest in
      subst (λ y. NameThem y (names_of values (v ∷ names))) c.is (one, others)

  -- and what such terms mention has a value
  subs_defined : (x : List ℕ) (ks : List KnownSym) (vs : List (List ℕ)) → all_some (value_of a) ks ≡ Some vs → of_subs x ks ≡ true → (v : List ℕ) × (a.locals x ≡ Some v)
  subs_defined x [] vs e h = differs false h refl
  subs_defined x (k ∷ ks) vs e h =
      let c = first_of (value_of a) k ks vs e in
      ⊎_elim (λ u. (c.one, one k c.one c.by_one u)) (λ u. subs_defined x ks c.rest c.by_rest u) (or_cases (is_such (λ n. bytes_eq n x) k) (of_subs x ks) h)
    where
      one : (k : KnownSym) (v : List ℕ) → value_of a k ≡ Some v → is_such (λ n. bytes_eq n x) k ≡ true → a.locals x ≡ Some v
      one (known.Const c) v e h = differs false h refl
      one (known.Local n) v e h = subst (λ y. a.locals y ≡ Some v) (name_is n x h) e
      one known.Job v e h = differs false h refl

  pub names_defined : (x : List ℕ) (terms : List LockTerm) (names : List LockName) → NameThem terms names → mentions x terms ≡ true → (v : List ℕ) × (a.locals x ≡ Some v)
  names_defined x [] names h m = differs (mentions x []) m (mentions_none x)
  names_defined x (t ∷ terms) [] h m = absurd h
  names_defined x (t ∷ terms) (n ∷ names) h m = ⊎_elim (λ u. one (all_some (value_of a) t.subs) refl h.0 u) (λ u. names_defined x terms names h.1 u) (mentions_cases x t terms m)
    where
      one : (o : Option (List (List ℕ))) → all_some (value_of a) t.subs ≡ o → option_map (λ (subs : List (List ℕ)). record { root = t.root; subs = subs }) o ≡ Some n → of_subs x t.subs ≡ true
          → (v : List ℕ) × (a.locals x ≡ Some v)
      one None e g u = let z : None ≡ Some n = g in absurd (cc z)
      one (Some vs) e g u = subs_defined x t.subs vs e u

  -- each name is held more often by the number of terms that denote it
  pub raised_times : (terms : List LockTerm) (names : List LockName) → NameThem terms names → (held : Counts) (m : LockName) → count_of (all_raised names held) m ≡ times a terms m + count_of held m
  raised_times [] [] h held m = omega arith
  raised_times [] (n ∷ names) h held m = absurd h
  raised_times (t ∷ terms) [] h held m = absurd h
  raised_times (t ∷ terms) (n ∷ names) h held m =
      let rest = raised_times terms names h.1 (raised n held) m in
      let more : count_of (raised n held) m ≡ one_at (Some n) m + count_of held m = count_of-raised held n m in
      let one : one_at (name_of a t) m ≡ one_at (Some n) m = ap (λ o. one_at o m) h.0 in
      omega (arith, rest, more, one)

  -- and less often by that number, after these terms are removed from the held ones
  pub lowered_times : (terms : List LockTerm) (names : List LockName) → NameThem terms names → (had left : List LockTerm) → all_taken terms had ≡ Some left → (other : LockName → ℕ) (held : Counts)
      → ((m : LockName) → count_of held m ≡ times a had m + other m) → (m : LockName) → count_of (all_lowered names held) m ≡ times a left m + other m
  lowered_times [] [] h had left e other held counts m = let z : had ≡ left = cc e in subst (λ l. count_of held m ≡ times a l m + other m) z (counts m)
  lowered_times [] (n ∷ names) h had left e other held counts m = absurd h
  lowered_times (t ∷ terms) [] h had left e other held counts m = absurd h
  lowered_times (t ∷ terms) (n ∷ names) h had left e other held counts m =
      option_and_then_some (all_taken terms) (taken t had) left e (λ mid f g. lowered_times terms names h.1 mid left g other (lowered n held) (less mid f) m)
    where
      one : (x : LockName) → one_at (name_of a t) x ≡ one_at (Some n) x
      one x = ap (λ o. one_at o x) h.0

      less : (mid : List LockTerm) → taken t had ≡ Some mid → (x : LockName) → count_of (lowered n held) x ≡ times a mid x + other x
      less mid f x =
          let l = left_of a t had mid f in
          let self : one_at (Some n) n ≡ 1 = (let s = same_self n in rw s refl) in
          let here = l.times_are n in
          let some : 0 < count_of held n = (let k = counts n in let o = one n in omega (arith, here, self, k, o)) in
          let low : one_at (Some n) x + count_of (lowered n held) x ≡ count_of held x = count_of-lowered held n x some in
          let there = l.times_are x in
          let k = counts x in
          let o = one x in
          omega (arith, low, there, k, o)
