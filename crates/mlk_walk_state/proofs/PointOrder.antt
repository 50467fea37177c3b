-- Points in order.
use Rattle.std.proofs.Common.{◌≡◌, ◌≤◌, ◌<◌, ℕ, zero, suc, Bool, true, false, List, [], ◌∷◌, ◌++◌, length, None, refl, ap, sym, ◌∙◌, ⊎_elim, arith}
use Rattle.std.specs.Prelude.{find, slice_get, slice_index_or, ◌&&◌}
use Rattle.std.specs.List.{list_all}
use Rattle.std.specs.List.Sorted.{IsPartitionedBy, IsPartitionPoint}
use Rattle.std.proofs.lemmas.Bool.{cases_Bool, and_parts}
use Rattle.std.proofs.lemmas.Bool.Decides.{nat_tests}
use Rattle.mlk_cert_parts.specs.declared.block.Point.{Point}
use Rattle.mlk_cert_parts.specs.Limits.{points_below}
use Rattle.mlk_cert_lexemes.specs.Lists.{ascends}
use Rattle.mlk_walk_state.specs.Scope.{is_at, cases_of, listed_at, is_earlier}
use Rattle.mlk_walk_state.specs.Points.{is_before, is_upto, cases_there}

-- a point below one that is before a line and round is before them too
below_before : (n r : ℕ) (p q : Point) → points_below p q ≡ true → is_before n r q ≡ true → is_before n r p ≡ true
below_before n r p q h g = grind (arith, nat_tests)

-- a point before a line and round is not at them
before_at : (n r : ℕ) (p : Point) → is_before n r p ≡ true → is_at n r p ≡ false
before_at n r p h = grind (arith, nat_tests)

-- a point after one that is not before a line and round is neither before nor at them
after_at : (n r : ℕ) (p q : Point) → points_below p q ≡ true → is_before n r p ≡ false → is_at n r q ≡ false
after_at n r p q h g = grind (arith, nat_tests)

after_before : (n r : ℕ) (p q : Point) → points_below p q ≡ true → is_before n r p ≡ false → is_before n r q ≡ false
after_before n r p q h g = grind (arith, nat_tests)

-- the first of two neighbours, and the rest
two : (p q : Point) (ps : List Point) → ascends points_below (p ∷ q ∷ ps) ≡ true → (points_below p q ≡ true) × (ascends points_below (q ∷ ps) ≡ true)
two p q ps h = and_parts (points_below p q) (ascends points_below (q ∷ ps)) h

rest : (p : Point) (ps : List Point) → ascends points_below (p ∷ ps) ≡ true → ascends points_below ps ≡ true
rest p [] h = refl
rest p (q ∷ ps) h = (two p q ps h).1

first_before : (n r : ℕ) (p : Point) (ps : List Point) → ascends points_below (p ∷ ps) ≡ true → (j : ℕ) (d : Point) → j < length ps
    → is_before n r (slice_index_or ps j d) ≡ true → is_before n r p ≡ true
first_before n r p [] h j d l b = absurd (omega arith)
first_before n r p (q ∷ ps) h zero d l b = below_before n r p q (two p q ps h).0 b
first_before n r p (q ∷ ps) h (suc j) d l b =
    below_before n r p q (two p q ps h).0 (first_before n r q ps (two p q ps h).1 j d (omega arith) b)

-- points in order are partitioned by a line and round
pub parted : (n r : ℕ) (ps : List Point) → ascends points_below ps ≡ true → IsPartitionedBy (is_before n r) ps
parted n r [] h i j d u l b = absurd (omega arith)
parted n r (p ∷ ps) h zero zero d u l b = b
parted n r (p ∷ ps) h zero (suc j) d u l b = first_before n r p ps h j d (omega arith) b
parted n r (p ∷ ps) h (suc i) zero d u l b = absurd (omega arith)
parted n r (p ∷ ps) h (suc i) (suc j) d u l b = parted n r ps (rest p ps h) i j d (omega arith) (omega arith) b

none_there : (n r : ℕ) (p : Point) (ps : List Point) → ascends points_below (p ∷ ps) ≡ true → is_before n r p ≡ false → find (is_at n r) ps ≡ None
none_there n r p [] h b = refl
none_there n r p (q ∷ ps) h b =
    let t = two p q ps h in
    rw (after_at n r p q t.0 b) (none_there n r q ps t.1 (after_before n r p q t.0 b))

-- and at the partition point is the point of the line and round, if there is one
pub found_there : (n r : ℕ) (ps : List Point) (i : ℕ) → ascends points_below ps ≡ true
    → IsPartitionPoint (λ p. is_before n r p ≡ true) (λ p. is_before n r p ≡ false) ps i → listed_at ps n r ≡ cases_there n r (slice_get ps i)
found_there n r [] i h point = refl
found_there n r (p ∷ ps) zero h point =
    ⊎_elim (λ (e : is_at n r p ≡ true). rw e refl)
    (λ (e : is_at n r p ≡ false). rw e (ap cases_of (none_there n r p ps h (point.1 0 p (omega arith) (omega arith)))))
    (cases_Bool (is_at n r p))
found_there n r (p ∷ ps) (suc i) h point =
    let e : is_at n r p ≡ false = before_at n r p (point.0 0 p (omega arith) (omega arith)) in
    rw e (found_there n r ps i (rest p ps h) (
      (λ k d l u. point.0 (suc k) d (omega arith) (omega arith)),
      (λ k d l u. point.1 (suc k) d (omega arith) (omega arith)),
    ))

-- nor is there one further on
pub none_further : (n r : ℕ) (p : Point) (ps : List Point) → ascends points_below (p ∷ ps) ≡ true
    → is_at n r p ≡ false → is_before n r p ≡ false → listed_at (p ∷ ps) n r ≡ []
none_further n r p ps h a b = rw a (ap cases_of (none_there n r p ps h b))

pub one_passed : (n r : ℕ) (p : Point) (ps : List Point) → is_at n r p ≡ false → listed_at (p ∷ ps) n r ≡ listed_at ps n r
one_passed n r p ps a = rw a refl

pub one_found : (n r : ℕ) (p : Point) (ps : List Point) → is_at n r p ≡ true → listed_at (p ∷ ps) n r ≡ p.cases
one_found n r p ps a = rw a refl

pub later_ascend : (p : Point) (ps : List Point) → ascends points_below (p ∷ ps) ≡ true → ascends points_below ps ≡ true
later_ascend = rest

-- a point below one that is at a line and round, or before them, is before them
upto_before : (n r : ℕ) (p q : Point) → points_below p q ≡ true → is_upto n r q ≡ true → is_before n r p ≡ true
upto_before n r p q h g = grind (arith, nat_tests)

front_before : (n r : ℕ) (p : Point) (ps : List Point) (q : Point) (qs : List Point) → ascends points_below (p ∷ (ps ++ q ∷ qs)) ≡ true
    → is_upto n r q ≡ true → is_before n r p ≡ true
front_before n r p [] q qs h u = let e = (two p q qs h).0 in upto_before n r p q e u
front_before n r p (o ∷ ps) q qs h u =
    let t = two p o (ps ++ q ∷ qs) h in
    below_before n r p o t.0 (front_before n r o ps q qs t.1 u)

pub front_passed : (n r : ℕ) (ps : List Point) (q : Point) (qs : List Point) → ascends points_below (ps ++ q ∷ qs) ≡ true
    → is_upto n r q ≡ true → listed_at (ps ++ q ∷ qs) n r ≡ listed_at (q ∷ qs) n r
front_passed n r [] q qs h u = refl
front_passed n r (p ∷ ps) q qs h u =
    let e = before_at n r p (front_before n r p ps q qs h u) in
    rw e (front_passed n r ps q qs (rest p (ps ++ q ∷ qs) h) u)

pub end_ascends : (ps qs : List Point) → ascends points_below (ps ++ qs) ≡ true → ascends points_below qs ≡ true
end_ascends [] qs h = h
end_ascends (p ∷ ps) qs h = end_ascends ps qs (rest p (ps ++ qs) h)

-- the last of points in order has the greatest line
below_upto : (p q : Point) → points_below p q ≡ true → p.line ≤ q.line
below_upto p q h = grind (arith, nat_tests)

upto_last : (p q : Point) (ps : List Point) → ascends points_below (p ∷ (ps ++ q ∷ [])) ≡ true → p.line ≤ q.line
upto_last p q [] h = let e = (two p q [] h).0 in below_upto p q e
upto_last p q (o ∷ ps) h =
    let t = two p o (ps ++ q ∷ []) h in
    let e = below_upto p o t.0 in
    let f = upto_last o q ps t.1 in
    omega (arith, e, f)

not_all : (a b : Bool) → b ≡ false → a && b ≡ false
not_all true b h = h
not_all false b h = refl

pub last_earlier : (n : ℕ) (q : Point) (ps : List Point) → ascends points_below (ps ++ q ∷ []) ≡ true → is_earlier n q ≡ list_all (is_earlier n) (ps ++ q ∷ [])
last_earlier n q [] h = ⊎_elim (λ (e : is_earlier n q ≡ true). rw e refl) (λ (e : is_earlier n q ≡ false). rw e refl) (cases_Bool (is_earlier n q))
last_earlier n q (p ∷ ps) h =
    let l = upto_last p q ps h in
    let i = last_earlier n q ps (rest p (ps ++ q ∷ []) h) in
    ⊎_elim
    (λ (e : is_earlier n q ≡ true). let f : is_earlier n p ≡ true = grind (arith, nat_tests, l, e) in rw f i)
    (λ (e : is_earlier n q ≡ false). e ∙ sym (not_all (is_earlier n p) (list_all (is_earlier n) (ps ++ q ∷ [])) (sym i ∙ e)))
    (cases_Bool (is_earlier n q))

-- past all points nothing is listed
pub nothing_past : (n r : ℕ) (ps : List Point) → list_all (is_earlier n) ps ≡ true → listed_at ps n r ≡ []
nothing_past n r [] h = refl
nothing_past n r (p ∷ ps) h =
    let t = and_parts (is_earlier n p) (list_all (is_earlier n) ps) h in
    let e = t.0 in
    let f : is_at n r p ≡ false = grind (arith, nat_tests, e) in
    rw f (nothing_past n r ps t.1)
