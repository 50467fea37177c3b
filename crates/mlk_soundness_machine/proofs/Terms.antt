-- Lists of terms: more and fewer of them, and those of a callee, translated for its caller.
use Rattle.std.proofs.Common.{◌≡◌, ℕ, suc, ◌+◌, Bool, true, false, List, [], ◌∷◌, ◌++◌, length, take, drop, map, Option, Some, None, refl, sym, ap, ◌∙◌, subst, arith, ⊎_elim, inl, inr, one-add}
use Rattle.std.specs.Prelude.{◌⊎◌, nat_lt, if◌then◌else◌, option_map, option_and_then, remove, bytes_eq}
use Rattle.std.specs.List.{position_or_len}
use Rattle.std.proofs.lemmas.Bool.{cases_Bool, or_cases, or_left, or_right}
use Rattle.std.proofs.lemmas.Bool.Decides.{nat_tests}
use Rattle.std.proofs.lemmas.List.{take-append-drop}
use Rattle.std.proofs.lemmas.Option.{option_and_then_some}
use Rattle.mlk_names.specs.declared.lock_name.LockName.{LockName}
use Rattle.mlk_names.specs.declared.term.LockTerm.{LockTerm}
use Rattle.mlk_names.specs.declared.symbol.Sym.{Sym}
use Rattle.mlk_names.specs.declared.known_symbol.KnownSym.{KnownSym}
use Rattle.mlk_names.specs.declared.known_symbol.KnownSym.TheVariants as known
use Rattle.mlk_names.specs.Symbols.{Assignment, known_of}
use Rattle.mlk_names.specs.Actuals.{put_in}
use Rattle.mlk_cert_parts.specs.TermOrder.{terms_before}
use Rattle.mlk_walk_state.specs.Lists.{all_some}
use Rattle.mlk_walk_state.specs.Terms.{same_term, add_term, add_terms, taken, all_taken, is_such, mention_such, all_known, put_term, put_terms}
use Rattle.mlk_walk_state.proofs.TermTests.{same_term_decides}
use Rattle.mlk_soundness_machine.specs.Reads.{value_of, name_of, one_at, times, mentions}
use Rattle.mlk_soundness_machine.proofs.Reading.{differs, name_is, name_self, of_subs, mentions_first, mentions_later}

pub mentions_cases : (x : List ℕ) (t : LockTerm) (ts : List LockTerm) → mentions x (t ∷ ts) ≡ true → (of_subs x t.subs ≡ true) ⊎ (mentions x ts ≡ true)
unfolding mentions
mentions_cases x t ts h = or_cases (of_subs x t.subs) (mention_such (λ n. bytes_eq n x) ts) h

pub mentions_none : (x : List ℕ) → mentions x [] ≡ false
unfolding mentions
mentions_none x = refl

-- one more
times_append : (a : Assignment) (xs ys : List LockTerm) (m : LockName) → times a (xs ++ ys) m ≡ times a xs m + times a ys m
times_append a [] ys m = omega arith
times_append a (t ∷ xs) ys m = let e = times_append a xs ys m in omega (arith, e)

pub times_put : (a : Assignment) (t : LockTerm) (held : List LockTerm) (m : LockName) → times a (add_term t held) m ≡ one_at (name_of a t) m + times a held m
times_put a t held m =
    let i = terms_before held t in
    let e = times_append a (take i held) (t ∷ drop i held) m in
    let f = times_append a (take i held) (drop i held) m in
    let g : times a (take i held ++ drop i held) m ≡ times a held m = ap (λ z. times a z m) (take-append-drop i held) in
    omega (arith, e, f, g)

pub times_put_all : (a : Assignment) (ts held : List LockTerm) (m : LockName) → times a (add_terms ts held) m ≡ times a ts m + times a held m
times_put_all a [] held m = omega arith
times_put_all a (t ∷ ts) held m = let e = times_put_all a ts (add_term t held) m in let f = times_put a t held m in omega (arith, e, f)

mentions_append : (x : List ℕ) (xs ys : List LockTerm) → mentions x (xs ++ ys) ≡ true → (mentions x xs ≡ true) ⊎ (mentions x ys ≡ true)
mentions_append x [] ys h = inr h
mentions_append x (t ∷ xs) ys h =
    ⊎_elim (λ u. inl (mentions_first x t xs u)) (λ u. ⊎_elim (λ v. inl (mentions_later x t xs v)) (λ v. inr v) (mentions_append x xs ys u)) (mentions_cases x t (xs ++ ys) h)

append_mentions : (x : List ℕ) (xs ys : List LockTerm) → (mentions x xs ≡ true) ⊎ (mentions x ys ≡ true) → mentions x (xs ++ ys) ≡ true
append_mentions x [] ys (inl h) = differs (mentions x []) h (mentions_none x)
append_mentions x [] ys (inr h) = h
append_mentions x (t ∷ xs) ys (inl h) =
    ⊎_elim (λ u. mentions_first x t (xs ++ ys) u) (λ u. mentions_later x t (xs ++ ys) (append_mentions x xs ys (inl u))) (mentions_cases x t xs h)
append_mentions x (t ∷ xs) ys (inr h) = mentions_later x t (xs ++ ys) (append_mentions x xs ys (inr h))

pub mentions_put : (x : List ℕ) (t : LockTerm) (held : List LockTerm) → mentions x (add_term t held) ≡ true → (of_subs x t.subs ≡ true) ⊎ (mentions x held ≡ true)
mentions_put x t held h =
    let i = terms_before held t in
    let back : (mentions x (take i held) ≡ true) ⊎ (mentions x (drop i held) ≡ true) → mentions x held ≡ true = (λ k. subst (λ z. mentions x z ≡ true) (take-append-drop i held) (append_mentions x (take i held) (drop i held) k)) in
    ⊎_elim
    (λ u. inr (back (inl u)))
    (λ u. ⊎_elim (λ v. inl v) (λ v. inr (back (inr v))) (mentions_cases x t (drop i held) u))
    (mentions_append x (take i held) (t ∷ drop i held) h)

pub mentions_put_all : (x : List ℕ) (ts held : List LockTerm) → mentions x (add_terms ts held) ≡ true → (mentions x ts ≡ true) ⊎ (mentions x held ≡ true)
mentions_put_all x [] held h = inr h
mentions_put_all x (t ∷ ts) held h =
    ⊎_elim
    (λ u. inl (mentions_later x t ts u))
    (λ u. ⊎_elim (λ v. inl (mentions_first x t ts v)) (λ v. inr v) (mentions_put x t held u))
    (mentions_put_all x ts (add_term t held) h)

-- one less
lt_suc : (x y : ℕ) → nat_lt (suc x) (suc y) ≡ nat_lt x y
lt_suc x y = ⊎_elim (λ (h : nat_lt x y ≡ true). let i : nat_lt (suc x) (suc y) ≡ true = grind (arith, nat_tests) in i ∙ sym h)
    (λ (h : nat_lt x y ≡ false). let i : nat_lt (suc x) (suc y) ≡ false = grind (arith, nat_tests) in i ∙ sym h) (cases_Bool (nat_lt x y))

lt_zero : (x : ℕ) → nat_lt 0 (suc x) ≡ true
lt_zero x = grind (arith, nat_tests)

taken_first : (t u : LockTerm) (us : List LockTerm) → same_term t u ≡ true → taken t (u ∷ us) ≡ Some us
taken_first t u us e = rw (e, lt_zero (length us)) refl

taken_later : (t u : LockTerm) (us : List LockTerm) → same_term t u ≡ false → taken t (u ∷ us) ≡ option_map (λ z. u ∷ z) (taken t us)
taken_later t u us e = rw (e, one-add, lt_suc (position_or_len (same_term t) us) (length us)) (of (nat_lt (position_or_len (same_term t) us) (length us)))
  where
    of : (b : Bool) → option_map (remove (u ∷ us)) (if b then Some (suc (position_or_len (same_term t) us)) else None)
        ≡ option_map (λ z. u ∷ z) (option_map (remove us) (if b then Some (position_or_len (same_term t) us) else None))
    of true = refl
    of false = refl

-- what is left, and the term that is removed
pub record Left (a : Assignment) (t : LockTerm) (held rest : List LockTerm) : Type 0 where
  pub times_are : (m : LockName) → times a held m ≡ one_at (name_of a t) m + times a rest m
  pub rest_mentions : (x : List ℕ) → mentions x rest ≡ true → mentions x held ≡ true
  pub term_mentions : (x : List ℕ) → of_subs x t.subs ≡ true → mentions x held ≡ true

pub left_of : (a : Assignment) (t : LockTerm) (held rest : List LockTerm) → taken t held ≡ Some rest → Left a t held rest
left_of a t [] rest h = absurd (cc h)
left_of a t (u ∷ us) rest h =
    ⊎_elim
    (λ (e : same_term t u ≡ true).
    let k : Some us ≡ Some rest = sym (taken_first t u us e) ∙ h in
    let r : us ≡ rest = cc k in
    let same : t ≡ u = (same_term_decides t u).0 e in
    subst (Left a t (u ∷ us)) r (record {
      times_are = λ m. ap (λ z. one_at (name_of a z) m + times a us m) (sym same);
      rest_mentions = λ x g. mentions_later x u us g;
      term_mentions = λ x g. mentions_first x u us (subst (λ (z : LockTerm). of_subs x z.subs ≡ true) same g);
    }))
    (λ (e : same_term t u ≡ false). of (taken t us) refl (sym (taken_later t u us e) ∙ h) (left_of a t us))
    (cases_Bool (same_term t u))
  where
    of : (o : Option (List LockTerm)) → taken t us ≡ o → option_map (λ z. u ∷ z) (taken t us) ≡ Some rest → ((r : List LockTerm) → taken t us ≡ Some r → Left a t us r) → Left a t (u ∷ us) rest
    of None e g later = let k : None ≡ Some rest = (rw e at g) in absurd (cc k)
    of (Some r) e g later =
        let k : Some (u ∷ r) ≡ Some rest = (rw e at g) in
        let l : u ∷ r ≡ rest = cc k in
        let p = later r e in
        subst (Left a t (u ∷ us)) l (record {
          times_are = λ m. (let n = p.times_are m in omega (arith, n));
          rest_mentions = λ x q. ⊎_elim (λ v. mentions_first x u us v) (λ v. mentions_later x u us (p.rest_mentions x v)) (mentions_cases x u r q);
          term_mentions = λ x q. mentions_later x u us (p.term_mentions x q);
        })

pub record AllLeft (a : Assignment) (ts held rest : List LockTerm) : Type 0 where
  pub times_are : (m : LockName) → times a held m ≡ times a ts m + times a rest m
  pub rest_mentions : (x : List ℕ) → mentions x rest ≡ true → mentions x held ≡ true
  pub term_mentions : (x : List ℕ) → mentions x ts ≡ true → mentions x held ≡ true

pub all_left : (a : Assignment) (ts held rest : List LockTerm) → all_taken ts held ≡ Some rest → AllLeft a ts held rest
all_left a [] held rest h =
    let e : held ≡ rest = cc h in
    subst (AllLeft a [] held) e (record { times_are = λ m. omega arith; rest_mentions = λ x g. g; term_mentions = λ x g. differs (mentions x []) g (mentions_none x) })
all_left a (t ∷ ts) held rest h =
    option_and_then_some (all_taken ts) (taken t held) rest h (λ mid e k.
    let p = left_of a t held mid e in
    let q = all_left a ts mid rest k in
    record {
      times_are = λ m. (let n = p.times_are m in let l = q.times_are m in omega (arith, n, l));
      rest_mentions = λ x g. p.rest_mentions x (q.rest_mentions x g);
      term_mentions = λ x g. ⊎_elim (λ u. p.term_mentions x u) (λ u. p.rest_mentions x (q.term_mentions x u)) (mentions_cases x t ts g);
    })

-- a list whose items all yield something
pub record First {A B : Type 0} (by : A → Option B) (a : A) (items : List A) (found : List B) : Type 0 where
  pub one : B
  pub rest : List B
  pub is : one ∷ rest ≡ found
  pub by_one : by a ≡ Some one
  pub by_rest : all_some by items ≡ Some rest

pub first_of : {A B : Type 0} (by : A → Option B) (a : A) (items : List A) (found : List B) → all_some by (a ∷ items) ≡ Some found → First by a items found
first_of by a items found h = on (by a) refl (all_some by items) refl h
  where
    on : (o : _) → by a ≡ o → (p : _) → all_some by items ≡ p → option_and_then (λ b. option_map (λ bs. b ∷ bs) (all_some by items)) (by a) ≡ Some found → First by a items found
    on None e p f h = let z : None ≡ Some found = (rw e at h) in absurd (cc z)
    on (Some b) e None f h = let z : None ≡ Some found = (rw (e, f) at h) in absurd (cc z)
    on (Some b) e (Some bs) f h = let z : Some (b ∷ bs) ≡ Some found = (rw (e, f) at h) in record { one = b; rest = bs; is = cc z; by_one = e; by_rest = f }

-- The terms of a callee, translated for its caller: each denotes what it denotes in the callee, if each local that they mention
-- has the value that is substituted for it.
module _ (formals : List (List ℕ)) (given : List (Option Sym)) where
  abbrev pub put_name : List ℕ → Sym
  put_name x = put_in formals given (known.Local x)

  pub record Put (t u : LockTerm) : Type 0 where
    pub subs : List KnownSym
    pub are : all_known (map (put_in formals given) t.subs) ≡ Some subs
    pub is : record { root = t.root; subs = subs } ≡ u

  put_of : (t u : LockTerm) → put_term formals given t ≡ Some u → Put t u
  put_of t u h = on (all_known (map (put_in formals given) t.subs)) refl h
    where
      on : (o : Option (List KnownSym)) → all_known (map (put_in formals given) t.subs) ≡ o → put_term formals given t ≡ Some u → Put t u
      on None e g = let z : None ≡ Some u = (rw e at g) in absurd (cc z)
      on (Some ss) e g = let z : Some (record { root = t.root; subs = ss }) ≡ Some u = (rw e at g) in record { subs = ss; are = e; is = cc z }

  module _ (a b : Assignment) (job : b.job ≡ a.job) where
    put_sub : (k : KnownSym) (s : KnownSym) → known_of (put_in formals given k) ≡ Some s → ((x : List ℕ) (r : KnownSym) → is_such (λ n. bytes_eq n x) k ≡ true → known_of (put_name x) ≡ Some r → value_of a r ≡ b.locals x)
        → value_of a s ≡ value_of b k
    put_sub (known.Const v) s e h = let z : known.Const v ≡ s = cc e in subst (λ y. value_of a y ≡ Some v) z refl
    put_sub (known.Local x) s e h = h x s (name_self x) e
    put_sub known.Job s e h = let z : known.Job ≡ s = cc e in subst (λ y. value_of a y ≡ Some b.job) z (ap Some (sym job))

    put_subs : (ks : List KnownSym) (ss : List KnownSym) → all_known (map (put_in formals given) ks) ≡ Some ss
        → ((x : List ℕ) (r : KnownSym) → of_subs x ks ≡ true → known_of (put_name x) ≡ Some r → value_of a r ≡ b.locals x)
        → all_some (value_of a) ss ≡ all_some (value_of b) ks
    put_subs [] ss e h = let z : [] ≡ ss = cc e in subst (λ y. all_some (value_of a) y ≡ Some []) z refl
    put_subs (k ∷ ks) ss e h =
        let c = first_of known_of (put_in formals given k) (map (put_in formals given) ks) ss e in
        let p : value_of a c.one ≡ value_of b k = put_sub k c.one c.by_one (λ x r i g. h x r (or_left (is_such (λ n. bytes_eq n x) k) (of_subs x ks) i) g) in
        let q : all_some (value_of a) c.rest ≡ all_some (value_of b) ks = put_subs ks c.rest c.by_rest (λ x r i g. h x r (or_right (is_such (λ n. bytes_eq n x) k) (of_subs x ks) i) g) in
        subst (λ l. all_some (value_of a) l ≡ all_some (value_of b) (k ∷ ks)) c.is (rw (p, q) refl)

    pub times_given : (ts us : List LockTerm) → put_terms formals given ts ≡ Some us → ((x : List ℕ) (r : KnownSym) → mentions x ts ≡ true → known_of (put_name x) ≡ Some r → value_of a r ≡ b.locals x)
        → (m : LockName) → times a us m ≡ times b ts m
    times_given [] us e h m = let z : [] ≡ us = cc e in subst (λ l. times a l m ≡ 0) z refl
    times_given (t ∷ ts) us e h m =
        let c = first_of (put_term formals given) t ts us e in
        let p = put_of t c.one c.by_one in
        let one : name_of a (record { root = t.root; subs = p.subs }) ≡ name_of b t =
        ap (λ o. option_map (λ (subs : List (List ℕ)). record { root = t.root; subs = subs }) o) (put_subs t.subs p.subs p.are (λ n r i j. h n r (mentions_first n t ts i) j)) in
        let more = times_given ts c.rest c.by_rest (λ n r i j. h n r (mentions_later n t ts i) j) m in
        let first : one_at (name_of a c.one) m ≡ one_at (name_of b t) m = subst (λ (l : LockTerm). one_at (name_of a l) m ≡ one_at (name_of b t) m) p.is (ap (λ o. one_at o m) one) in
        subst (λ l. times a l m ≡ times b (t ∷ ts) m) c.is (omega (arith, first, more))

  -- what a translated term mentions
  pub record From (y : List ℕ) (Of : List ℕ → Type 0) : Type 0 where
    pub name : List ℕ
    pub symbol : KnownSym
    pub of : Of name
    pub known : known_of (put_name name) ≡ Some symbol
    pub at : is_such (λ n. bytes_eq n y) symbol ≡ true

  sub_from : (y : List ℕ) (k s : KnownSym) → known_of (put_in formals given k) ≡ Some s → is_such (λ n. bytes_eq n y) s ≡ true → From y (λ x. is_such (λ n. bytes_eq n x) k ≡ true)
  sub_from y (known.Const v) s e h = let z : known.Const v ≡ s = cc e in differs false (subst (λ q. is_such (λ n. bytes_eq n y) q ≡ true) (sym z) h) refl
  sub_from y (known.Local x) s e h = record { name = x; symbol = s; of = name_self x; known = e; at = h }
  sub_from y known.Job s e h = let z : known.Job ≡ s = cc e in differs false (subst (λ q. is_such (λ n. bytes_eq n y) q ≡ true) (sym z) h) refl

  subs_from : (y : List ℕ) (ks ss : List KnownSym) → all_known (map (put_in formals given) ks) ≡ Some ss → of_subs y ss ≡ true → From y (λ x. of_subs x ks ≡ true)
  subs_from y [] ss e h = let z : [] ≡ ss = cc e in differs false (subst (λ l. of_subs y l ≡ true) (sym z) h) refl
  subs_from y (k ∷ ks) ss e h =
      let c = first_of known_of (put_in formals given k) (map (put_in formals given) ks) ss e in
      let g : of_subs y (c.one ∷ c.rest) ≡ true = subst (λ l. of_subs y l ≡ true) (sym c.is) h in
      ⊎_elim
      (λ i. let r = sub_from y k c.one c.by_one i in record { name = r.name; symbol = r.symbol; of = or_left (is_such (λ n. bytes_eq n r.name) k) (of_subs r.name ks) r.of; known = r.known; at = r.at })
      (λ i. let r = subs_from y ks c.rest c.by_rest i in record { name = r.name; symbol = r.symbol; of = or_right (is_such (λ n. bytes_eq n r.name) k) (of_subs r.name ks) r.of; known = r.known; at = r.at })
      (or_cases (is_such (λ n. bytes_eq n y) c.one) (of_subs y c.rest) g)

  pub put_from : (y : List ℕ) (ts us : List LockTerm) → put_terms formals given ts ≡ Some us → mentions y us ≡ true → From y (λ x. mentions x ts ≡ true)
  put_from y [] us e h = let z : [] ≡ us = cc e in differs (mentions y []) (subst (λ l. mentions y l ≡ true) (sym z) h) (mentions_none y)
  put_from y (t ∷ ts) us e h =
      let c = first_of (put_term formals given) t ts us e in
      let p = put_of t c.one c.by_one in
      ⊎_elim
      (λ i. let r = subs_from y t.subs p.subs p.are (subst (λ (l : LockTerm). of_subs y l.subs ≡ true) (sym p.is) i) in record { name = r.name; symbol = r.symbol; of = mentions_first r.name t ts r.of; known = r.known; at = r.at })
      (λ i. let r = put_from y ts c.rest c.by_rest i in record { name = r.name; symbol = r.symbol; of = mentions_later r.name t ts r.of; known = r.known; at = r.at })
      (mentions_cases y c.one c.rest (subst (λ l. mentions y l ≡ true) (sym c.is) h))

  -- and what is substituted for a name that a term mentions
  pub record Into (x : List ℕ) (Of : List ℕ → Type 0) : Type 0 where
    pub symbol : KnownSym
    pub known : known_of (put_name x) ≡ Some symbol
    pub of : (y : List ℕ) → is_such (λ n. bytes_eq n y) symbol ≡ true → Of y

  known_sub : (x : List ℕ) (k : KnownSym) → is_such (λ n. bytes_eq n x) k ≡ true → put_in formals given k ≡ put_name x
  known_sub x (known.Const v) h = differs false h refl
  known_sub x (known.Local n) h = ap put_name (name_is n x h)
  known_sub x known.Job h = differs false h refl

  known_subs : (x : List ℕ) (ks ss : List KnownSym) → all_known (map (put_in formals given) ks) ≡ Some ss → of_subs x ks ≡ true → Into x (λ y. of_subs y ss ≡ true)
  known_subs x [] ss e h = differs false h refl
  known_subs x (k ∷ ks) ss e h =
      let c = first_of known_of (put_in formals given k) (map (put_in formals given) ks) ss e in
      ⊎_elim
      (λ i. record {
        symbol = c.one;
        known = ap known_of (sym (known_sub x k i)) ∙ c.by_one;
        of = λ y g. subst (λ l. of_subs y l ≡ true) c.is (or_left (is_such (λ n. bytes_eq n y) c.one) (of_subs y c.rest) g);
      })
      (λ i. let r = known_subs x ks c.rest c.by_rest i in
      record { symbol = r.symbol; known = r.known; of = λ y g. subst (λ l. of_subs y l ≡ true) c.is (or_right (is_such (λ n. bytes_eq n y) c.one) (of_subs y c.rest) (r.of y g)) })
      (or_cases (is_such (λ n. bytes_eq n x) k) (of_subs x ks) h)

  pub put_into : (x : List ℕ) (ts us : List LockTerm) → put_terms formals given ts ≡ Some us → mentions x ts ≡ true → Into x (λ y. mentions y us ≡ true)
  put_into x [] us e h = differs (mentions x []) h (mentions_none x)
  put_into x (t ∷ ts) us e h =
      let c = first_of (put_term formals given) t ts us e in
      let p = put_of t c.one c.by_one in
      ⊎_elim
      (λ i. let r = known_subs x t.subs p.subs p.are i in
      record { symbol = r.symbol; known = r.known; of = λ y j. subst (λ l. mentions y l ≡ true) c.is (mentions_first y c.one c.rest (subst (λ (z : LockTerm). of_subs y z.subs ≡ true) p.is (r.of y j))) })
      (λ i. let r = put_into x ts c.rest c.by_rest i in
      record { symbol = r.symbol; known = r.known; of = λ y j. subst (λ l. mentions y l ≡ true) c.is (mentions_later y c.one c.rest (r.of y j)) })
      (mentions_cases x t ts h)
