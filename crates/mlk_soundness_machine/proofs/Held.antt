-- The terms that a case holds denote names that the job holds.
use Rattle.std.proofs.Common.{◌≡◌, ℕ, ◌+◌, ◌<◌, true, List, [], ◌∷◌, Some, refl, sym, ap, subst, ⊎_elim, arith}
use Rattle.std.specs.Prelude.{◌⊎◌, bytes_eq, option_map, Contains}
use Rattle.std.specs.List.{AllZip}
use Rattle.std.proofs.lemmas.Bool.{or_left, or_right}
use Rattle.mlk_names.specs.declared.lock_name.LockName.{LockName}
use Rattle.mlk_names.specs.declared.term.LockTerm.{LockTerm}
use Rattle.mlk_names.specs.declared.known_symbol.KnownSym.{KnownSym}
use Rattle.mlk_names.specs.declared.known_symbol.KnownSym.TheVariants as known
use Rattle.mlk_names.specs.Symbols.{Assignment, StandsFor, sym_of}
use Rattle.mlk_names.specs.Terms.{Names}
use Rattle.mlk_names.proofs.ListLemmas.{contains_cases}
use Rattle.mlk_machine_locks.specs.NameTests.{same_name}
use Rattle.mlk_machine_locks.specs.Counts.{count_of}
use Rattle.mlk_walk_state.specs.Lists.{all_some}
use Rattle.mlk_walk_state.specs.Terms.{is_such}
use Rattle.mlk_machine_jobs.specs.Tasks.{Job}
use Rattle.mlk_machine_laws.specs.Moments.{IsHeld}
use Rattle.mlk_soundness_machine.specs.Reads.{value_of, name_of, times, now, mentions}
use Rattle.mlk_soundness_machine.proofs.Reading.{of_subs, name_self, mentions_first, mentions_later}

module _ (a : Assignment) where
  pub record Found (subs : List KnownSym) : Type 0 where
    pub values : List (List ℕ)
    pub are : all_some (value_of a) subs ≡ Some values
    pub stand : AllZip (λ s v. StandsFor a (sym_of s) v) subs values

  found : (subs : List KnownSym) → ((x : List ℕ) → of_subs x subs ≡ true → (v : List ℕ) × (a.locals x ≡ Some v)) → Found subs
  found [] h = record { values = []; are = refl; stand = tt }
  found (s ∷ subs) h =
      let f = one s (λ x u. h x (or_left (is_such (λ n. bytes_eq n x) s) (of_subs x subs) u)) in
      let r = found subs (λ x u. h x (or_right (is_such (λ n. bytes_eq n x) s) (of_subs x subs) u)) in
      record { values = f.0 ∷ r.values; are = (let e = f.1 in let g = r.are in rw (e, g) refl); stand = (f.2, r.stand) }
    where
      one : (s : KnownSym) → ((x : List ℕ) → is_such (λ n. bytes_eq n x) s ≡ true → (v : List ℕ) × (a.locals x ≡ Some v)) → (v : List ℕ) × (value_of a s ≡ Some v) × StandsFor a (sym_of s) v
      one (known.Const v) h = (v, refl, refl)
      one (known.Local n) h = let v = h n (name_self n) in (v.0, v.1, v.1)
      one known.Job h = (a.job, refl, refl)

  pub record Named (t : LockTerm) : Type 0 where
    pub name : LockName
    pub is : name_of a t ≡ Some name
    pub names : Names a t name

  pub named_by : (t : LockTerm) → ((x : List ℕ) → of_subs x t.subs ≡ true → (v : List ℕ) × (a.locals x ≡ Some v)) → Named t
  named_by t h =
      let f = found t.subs h in
      record {
        name = record { root = t.root; subs = f.values };
        is = ap (λ o. option_map (λ (subs : List (List ℕ)). record { root = t.root; subs = subs }) o) f.are;
        names = record { root = refl; subs = f.stand };
      }

  pub counted : (t : LockTerm) (ts : List LockTerm) (n : LockName) → Contains ts t → name_of a t ≡ Some n → same_name n n ≡ true → 0 < times a ts n
  counted t [] n h e s = absurd (omega (arith, h.1))
  counted t (u ∷ ts) n h e s =
      ⊎_elim
      (λ (z : u ≡ t). let f : name_of a u ≡ Some n = (subst (λ y. name_of a y ≡ Some n) (sym z) e) in rw (f, s) (omega arith))
      (λ (i : Contains ts t). let k = counted t ts n i e s in omega (arith, k))
      (contains_cases u ts t h)

pub each_held : (j : Job) (held : List LockTerm) (rest : LockName → ℕ) → ((m : LockName) → count_of j.held m ≡ times (now j) held m + rest m)
    → ((x : List ℕ) → mentions x held ≡ true → (v : List ℕ) × ((now j).locals x ≡ Some v)) → ((n : LockName) → same_name n n ≡ true)
    → (t : LockTerm) → Contains held t → IsHeld (now j) j t
each_held j held rest counts defined self t i =
    let n = named_by (now j) t (λ x u. defined x (mentioned held i x u)) in
    record {
      name = n.name;
      names = n.names;
      holds = (let k = counted (now j) t held n.name i n.is (self n.name) in let c = counts n.name in omega (arith, k, c));
    }
  where
    mentioned : (held : List LockTerm) → Contains held t → (x : List ℕ) → of_subs x t.subs ≡ true → mentions x held ≡ true
    mentioned [] i x u = absurd (omega (arith, i.1))
    mentioned (y ∷ ys) i x u =
        ⊎_elim
        (λ (z : y ≡ t). mentions_first x y ys (subst (λ q. of_subs x q.subs ≡ true) (sym z) u))
        (λ (k : Contains ys t). mentions_later x y ys (mentioned ys k x u))
        (contains_cases y ys t i)
