-- What calls share.
use Rattle.std.proofs.Common.{◌≡◌, refl, sym, ap, ◌∙◌, ℕ, zero, suc, List, [], ◌∷◌, Option, Some, None, Bool, true, false, ⊎_elim, arith}
use Rattle.std.specs.Prelude.{Contains, bytes_eq, flat_map, ◌||◌, ◌&&◌, ◌==◌, zip}
use Rattle.std.specs.List.{list_any}
use Rattle.std.proofs.lemmas.Bool.{cases_Bool}
use Rattle.std.proofs.lemmas.Bool.Decides.{nat_tests}
use Rattle.std.proofs.lemmas.Slice.Eq.{bytes_eq-Decides}
use Rattle.std.proofs.lemmas.List.Folds.{list_any-append}
use Rattle.mlk_syntax.specs.ExprTrees.{ActualTree}
use Rattle.mlk_syntax.specs.Trees.{RoutineTree, CallTree, Called}
use Rattle.mlk_program.specs.Entries.{same_entry, target_of}
use Rattle.mlk_program.specs.Program.{PlacedCall, calls_of, lent_by, received_by, received_with, shared_with, passed_with, shared_by, passed_by, filled_by, of_entry, called_formals, is_formal}
use Rattle.mlk_program.specs.Laws.{CallsShare}
use Rattle.mlk_program.specs.declared.entry.EntryId.{EntryId}

or_left : (a b : Bool) → a ≡ true → (a || b) ≡ true
or_left a b h = rw h refl

or_right : (a b : Bool) → b ≡ true → (a || b) ≡ true
or_right true b h = refl
or_right false b h = h

any_of : {A : Type 0} (test : A → Bool) (xs : List A) (x : A) → Contains xs x → test x ≡ true → list_any test xs ≡ true
any_of test [] x (k, less, is) h = absurd (omega (arith, less))
any_of test (y ∷ xs) x (zero, less, is) h = or_left (test y) (list_any test xs) (ap test is ∙ h)
any_of test (y ∷ xs) x (suc k, less, is) h = or_right (test y) (list_any test xs) (any_of test xs x (k, omega (arith, less), is) h)

any_flat : {A B : Type 0} (test : B → Bool) (f : A → List B) (xs : List A) (x : A) → Contains xs x → list_any test (f x) ≡ true
    → list_any test (flat_map f xs) ≡ true
any_flat test f [] x (k, less, is) h = absurd (omega (arith, less))
any_flat test f (y ∷ xs) x (zero, less, is) h = list_any-append test (f y) (flat_map f xs)
    ∙ or_left (list_any test (f y)) (list_any test (flat_map f xs)) (ap (λ z. list_any test (f z)) is ∙ h)
any_flat test f (y ∷ xs) x (suc k, less, is) h = list_any-append test (f y) (flat_map f xs)
    ∙ or_right (list_any test (f y)) (list_any test (flat_map f xs)) (any_flat test f xs x (k, omega (arith, less), is) h)

-- if each element with some of the first has some of the second, so has the list
any_too : {A B C : Type 0} (test : B → Bool) (other : C → Bool) (f : A → List B) (g : A → List C)
    → ((x : A) → list_any test (f x) ≡ true → list_any other (g x) ≡ true) → (xs : List A)
    → list_any test (flat_map f xs) ≡ true → list_any other (flat_map g xs) ≡ true
any_too test other f g too [] h = cc h
any_too test other f g too (x ∷ xs) h = list_any-append other (g x) (flat_map g xs) ∙ ⊎_elim
    (λ (e : list_any test (f x) ≡ true). or_left (list_any other (g x)) _ (too x e))
    (λ (e : list_any test (f x) ≡ false). let k : list_any test (flat_map f xs) ≡ true = rw e at (sym (list_any-append test (f x) (flat_map f xs)) ∙ h) in
    or_right (list_any other (g x)) (list_any other (flat_map g xs)) (any_too test other f g too xs k))
    (cases_Bool (list_any test (f x)))

same_bytes : (name : List ℕ) → bytes_eq name name ≡ true
same_bytes name = (bytes_eq-Decides name name).1 refl

passed_shared : (test : List ℕ → Bool) (given : Option (List ActualTree)) (called : Option (Option (List (List ℕ))))
    → list_any test (passed_with given) ≡ true → list_any test (shared_with given called) ≡ true
passed_shared test None called h = cc h
passed_shared test (Some given) None h = h
passed_shared test (Some given) (Some None) h = h
passed_shared test (Some given) (Some (Some formals)) h =
    list_any-append test (flat_map lent_by given) (flat_map received_by (zip formals given)) ∙ or_left _ _ h

received_shared : (test : List ℕ → Bool) (given : Option (List ActualTree)) (called : Option (Option (List (List ℕ))))
    → list_any test (received_with called given) ≡ true → list_any test (shared_with given called) ≡ true
received_shared test None None h = cc h
received_shared test None (Some None) h = cc h
received_shared test None (Some (Some formals)) h = cc h
received_shared test (Some given) None h = cc h
received_shared test (Some given) (Some None) h = cc h
received_shared test (Some given) (Some (Some formals)) h =
    list_any-append test (flat_map lent_by given) (flat_map received_by (zip formals given))
    ∙ or_right (list_any test (flat_map lent_by given)) _ h

formals_named : (e : EntryId) (name : List ℕ) (o : Option EntryId) (formals : List (List ℕ))
    → list_any (is_formal e name) (of_entry o formals) ≡ true → list_any (bytes_eq name) formals ≡ true
formals_named e name None formals h = cc h
formals_named e name (Some f) [] h = cc h
formals_named e name (Some f) (n ∷ formals) h = ⊎_elim
    (λ (i : bytes_eq name n ≡ true). or_left (bytes_eq name n) _ i)
    (λ (i : bytes_eq name n ≡ false). let k : list_any (is_formal e name) (of_entry (Some f) formals) ≡ true =
    rw (i, none (same_entry e f)) at h in
    or_right (bytes_eq name n) _ (formals_named e name (Some f) formals k))
    (cases_Bool (bytes_eq name n))
  where
    none : (b : Bool) → (b && false) ≡ false
    none true = refl
    none false = refl

passed_by_call : (routines : List RoutineTree) (name : List ℕ) (p : PlacedCall) → list_any (bytes_eq name) (passed_by p) ≡ true
    → list_any (bytes_eq name) (shared_by routines p) ≡ true
passed_by_call routines name p h = go p.call refl h
  where
    go : (c : CallTree) → p.call ≡ c → list_any (bytes_eq name) (passed_by (record p { call = c })) ≡ true
        → list_any (bytes_eq name) (shared_by routines (record p { call = c })) ≡ true
    go (Called column callee given) is k = passed_shared (bytes_eq name) given (called_formals routines p.routine callee) k

filled_by_call : (routines : List RoutineTree) (e : EntryId) (name : List ℕ) (p : PlacedCall)
    → list_any (is_formal e name) (filled_by routines p) ≡ true → list_any (bytes_eq name) (shared_by routines p) ≡ true
filled_by_call routines e name p h = go p.call refl h
  where
    go : (c : CallTree) → p.call ≡ c → list_any (is_formal e name) (filled_by routines (record p { call = c })) ≡ true
        → list_any (bytes_eq name) (shared_by routines (record p { call = c })) ≡ true
    go (Called column callee given) is k = received_shared (bytes_eq name) given (called_formals routines p.routine callee)
        (formals_named e name (target_of routines p.routine callee) (received_with (called_formals routines p.routine callee) given) k)

pub calls-share : (routines : List RoutineTree) → CallsShare routines
calls-share routines = record {
  passed = λ p name here has. any_flat (bytes_eq name) (shared_by routines) (calls_of routines) p here
      (passed_by_call routines name p (any_of (bytes_eq name) (passed_by p) name has (same_bytes name)));
  counted = λ p e formal here has. any_flat (is_formal e formal) (filled_by routines) (calls_of routines) p here
      (any_of (is_formal e formal) (filled_by routines p) (e, formal) has (itself e formal));
  filled = λ e formal h. any_too (is_formal e formal) (bytes_eq formal) (filled_by routines) (shared_by routines)
      (filled_by_call routines e formal) (calls_of routines) h;
}
  where
    same : (n : ℕ) → (n == n) ≡ true
    same n = grind (arith, nat_tests)

    itself : (e : EntryId) (formal : List ℕ) → is_formal e formal (e, formal) ≡ true
    itself e formal = rw (same e.routine, same e.line, same_bytes formal) refl
