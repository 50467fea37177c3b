-- Sets of names.
use Rattle.std.proofs.Common.{◌≡◌, ℕ, List, [], ◌∷◌, ◌++◌, map, Bool, true, false, refl, sym, ap, ◌∙◌, subst, Bor, ⊎_elim, ◌<◌, ◌+◌, suc, length, take, get_or, append_assoc, append-nil, add-one, length-take-le, le_of_lt}
use Rattle.std.proofs.Math.Seq.{take-suc}
use Rattle.std.specs.Prelude.{◌||◌, bytes_eq, flat_map, zip, slice_get}
use Rattle.mlk_syntax.specs.declared.expr.Actual.{Actual}
use Rattle.mlk_syntax.specs.ExprTrees.{ActualTree, actual_of, actual_trees}
use Rattle.mlk_program.specs.Program.{received_by, received_at}
use Rattle.std.specs.List.{list_any}
use Rattle.std.proofs.lemmas.Bool.{cases_Bool}
use Rattle.std.proofs.lemmas.Slice.Eq.{bytes_eq-Decides}
use Rattle.std.proofs.lemmas.List.Folds.{list_any-append}
use Rattle.indexmap.specs.IndexSet.{insert_key}
use Rattle.mlk_program.specs.Linking.{Gains}

abbrev pub now_of : Bor (List ℕ) → List ℕ
now_of k = k.now

pub any_now : (q : List ℕ) (keys : List (Bor (List ℕ)))
    → list_any (λ k. bytes_eq q k.now) keys ≡ list_any (bytes_eq q) (map now_of keys)
any_now q [] = refl
any_now q (k ∷ keys) = ap (λ b. bytes_eq q k.now || b) (any_now q keys)

or_moved : (a b c : Bool) → (a || (b || c)) ≡ ((a || b) || c)
or_moved true b c = refl
or_moved false b c = refl

abbrev pub eq_names : Bor (List ℕ) → Bor (List ℕ) → Bool
eq_names a b = bytes_eq a.now b.now

or_same : (a b : Bool) → (b ≡ true → a ≡ true) → a ≡ (a || b)
or_same true b h = refl
or_same false true h = h refl
or_same false false h = refl

or_none : (b : Bool) → b ≡ (b || false)
or_none true = refl
or_none false = refl

map_snoc : (keys : List (Bor (List ℕ))) (k : Bor (List ℕ)) → map now_of (keys ++ k ∷ []) ≡ map now_of keys ++ k.now ∷ []
map_snoc [] k = refl
map_snoc (x ∷ keys) k = ap (λ more. x.now ∷ more) (map_snoc keys k)

any_inserted : (q : List ℕ) (keys : List (Bor (List ℕ))) (k : Bor (List ℕ))
    → list_any (bytes_eq q) (map now_of (insert_key eq_names keys k)) ≡ (list_any (bytes_eq q) (map now_of keys) || bytes_eq q k.now)
any_inserted q keys k = ⊎_elim
    (λ e. rw e (or_same (list_any (bytes_eq q) (map now_of keys)) (bytes_eq q k.now)
    (λ same. let one : q ≡ k.now = (bytes_eq-Decides q k.now).0 same in
    ap (λ n. list_any (bytes_eq n) (map now_of keys)) one ∙ sym (any_now k.now keys) ∙ e)))
    (λ e. rw e (ap (list_any (bytes_eq q)) (map_snoc keys k) ∙ list_any-append (bytes_eq q) (map now_of keys) (k.now ∷ [])
    ∙ ap (λ b. list_any (bytes_eq q) (map now_of keys) || b) (sym (or_none (bytes_eq q k.now)))))
    (cases_Bool (list_any (eq_names k) keys))

-- one name is added
pub gains_inserted : (old new : List (Bor (List ℕ))) (k : Bor (List ℕ)) → new ≡ insert_key eq_names old k
    → Gains (k.now ∷ []) (map now_of old) (map now_of new)
gains_inserted old new k is q = ap (λ keys. list_any (bytes_eq q) (map now_of keys)) is ∙ any_inserted q old k
    ∙ ap (λ b. list_any (bytes_eq q) (map now_of old) || b) (or_none (bytes_eq q k.now))

pub gains_none : (old : List (List ℕ)) → Gains [] old old
gains_none old q = or_none (list_any (bytes_eq q) old)

-- first the ones, then the others
pub gains_both : (a b old mid new : List (List ℕ)) → Gains a old mid → Gains b mid new → Gains (a ++ b) old new
gains_both a b old mid new h k q = k q ∙ ap (λ c. c || list_any (bytes_eq q) b) (h q)
    ∙ sym (or_moved (list_any (bytes_eq q) old) (list_any (bytes_eq q) a) (list_any (bytes_eq q) b))
    ∙ ap (λ c. list_any (bytes_eq q) old || c) (sym (list_any-append (bytes_eq q) a b))

-- what formals receive from one more actual
pub zip_none : (formals : List (List ℕ)) → zip {X = ActualTree} formals [] ≡ []
zip_none [] = refl
zip_none (f ∷ formals) = refl

pub received_more : (formals : List (List ℕ)) (given : List ActualTree) (a : ActualTree)
    → flat_map received_by (zip formals (given ++ a ∷ []))
    ≡ flat_map received_by (zip formals given) ++ received_at (slice_get formals (length given)) a
received_more [] [] a = refl
received_more [] (g ∷ given) a = refl
received_more (f ∷ formals) [] a = ap (λ more. received_by (f, a) ++ flat_map received_by more) (zip_none formals) ∙ append-nil (received_by (f, a))
received_more (f ∷ formals) (g ∷ given) a = ap (λ more. received_by (f, g) ++ more) (received_more formals given a)
    ∙ sym (append_assoc (received_by (f, g)) (flat_map received_by (zip formals given)) (received_at (slice_get formals (length given)) a))

pub trees_snoc : (given : List Actual) (a : Actual) → actual_trees (given ++ a ∷ []) ≡ actual_trees given ++ actual_of a ∷ []
trees_snoc [] a = refl
trees_snoc (g ∷ given) a = ap (λ more. actual_of g ∷ more) (trees_snoc given a)

pub trees_length : (given : List Actual) → length (actual_trees given) ≡ length given
trees_length [] = refl
trees_length (g ∷ given) = ap suc (trees_length given)

pub received_next : (formals : List (List ℕ)) (given : List Actual) (i : ℕ) (a : Actual) (old mid new : List (List ℕ))
    → i < length given → a ≡ get_or given i a
    → Gains (flat_map received_by (zip formals (actual_trees (take i given)))) old mid
    → Gains (received_at (slice_get formals i) (actual_of a)) mid new
    → Gains (flat_map received_by (zip formals (actual_trees (take (i + 1) given)))) old new
received_next formals given i a old mid new low is h k =
    let step : take (i + 1) given ≡ take i given ++ a ∷ [] =
    rw (add-one) (take-suc given i a low ∙ ap (λ x. take i given ++ x ∷ []) (sym is)) in
    let count : length (actual_trees (take i given)) ≡ i =
    trees_length (take i given) ∙ length-take-le i given (le_of_lt low) in
    rw (step, trees_snoc (take i given) a, received_more formals (actual_trees (take i given)) (actual_of a), count)
    (gains_both _ _ old mid new h k)

pub received_none : (formals : List (List ℕ)) (old : List (List ℕ))
    → Gains (flat_map received_by (zip {X = ActualTree} formals [])) old old
received_none formals old = subst (λ pairs. Gains (flat_map received_by pairs) old old) (sym (zip_none formals)) (gains_none old)
