-- If claims follow the ranks, the ranks of awaited names would rise around a ring without end.
use Rattle.std.proofs.Common.{◌≡◌, ℕ, zero, suc, ◌+◌, ◌<◌, ◌≤◌, List, [], ◌∷◌, length, ap, arith, inl, inr}
use Rattle.std.specs.Prelude.{slice_index_or}
use Rattle.mlk_names.specs.Lists.{Among}
use Rattle.mlk_names.specs.declared.lock_name.LockName.{LockName}
use Rattle.mlk_names.specs.LockNames.{Conflict}
use Rattle.mlk_names.proofs.NameLemmas.{conflict_above}
use Rattle.mlk_rules.specs.declared.family.Family.{Family}
use Rattle.mlk_rules.specs.Ranks.{NameHasRank, FamiliesApart}
use Rattle.mlk_rules.proofs.RankLemmas.{one_rank}
use Rattle.mlk_machine_locks.specs.Rings.{IsRing}
use Rattle.mlk_machine_locks.specs.Waiting.{View, Holds}
use Rattle.mlk_machine_locks.specs.Laws.{Waits, AreApart}
use Rattle.mlk_machine_laws.specs.Order.{IsAboveAll, ClaimsInOrder}

-- a number above all ranks
abbrev bound : List Family → ℕ
bound [] = 0
bound (f ∷ fs) = suc f.rank + bound fs

under_bound : (fs : List Family) (f : Family) (k : ℕ) → k < length fs → slice_index_or fs k f ≡ f → f.rank < bound fs
under_bound [] f k l e = absurd (omega arith)
under_bound (g ∷ fs) f zero l e = let d : g.rank ≡ f.rank = ap (λ (x : Family). x.rank) e in omega arith
under_bound (g ∷ fs) f (suc k) l e = let b : f.rank < bound fs = under_bound fs f k (omega arith) e in omega arith

rank_under : (families : List Family) (n : LockName) (rank : ℕ) → NameHasRank families n rank → rank < bound families
rank_under families n rank (f, (k, l, e), h, d) = let b : f.rank < bound families = under_bound families f k l e in omega arith

module _ {X : Type 0} (view : X → View) (families : List Family) (jobs : List X) (apart : FamiliesApart families) (held : AreApart view jobs) (order : (j : X) → Among j jobs → ClaimsInOrder families (view j)) (In : X → Type 0) (ring : IsRing (Waits view) jobs In) where
  -- the name that one of the ring waits for is not its own, so its rank is above those of all that it holds
  above_all : (a b : X) → In a → In b → (w : Waits view a b) → IsAboveAll families (view a) w.name
  above_all a b i j w = elim (order a (ring.within a i) w.name w.is_awaited) [
    | inl o ↦ absurd (held a b (ring.within a i) (ring.within b j) w.other o.0 w.kept o.1 w.is_kept (conflict_above o.0 w.name w.kept o.2 w.conflict))
    | inr r ↦ r
  ]

  -- one of the ring keeps a name of this rank from another
  record Keeps (rank : ℕ) : Type 0 where
    job : X
    is_in : In job
    name : LockName
    has : NameHasRank families name rank
    kept : LockName
    is_kept : Holds (view job) kept
    conflict : Conflict name kept

  waited : (a b : X) → In b → (w : Waits view a b) → (o : IsAboveAll families (view a) w.name) → Keeps o.rank
  waited a b j w o = record { job = b; is_in = j; name = w.name; has = o.has; kept = w.kept; is_kept = w.is_kept; conflict = w.conflict }

  -- it waits too, for a name of a greater rank
  rises : (rank : ℕ) → Keeps rank → (r : ℕ) × (rank < r) × Keeps r
  rises rank k =
      let e = ring.each k.job k.is_in in
      let o = above_all k.job e.0 k.is_in e.1 e.2 in
      let u = o.above k.kept k.is_kept in
      let s : rank ≡ u.0 = (one_rank families apart).alike k.name k.kept rank u.0 k.has u.1 k.conflict in
      let l : u.0 < o.rank = u.2 in (o.rank, omega arith, waited k.job e.0 e.1 e.2 o)

  never : (fuel rank : ℕ) → Keeps rank → bound families ≤ rank + fuel → ⊥
  never zero rank k h = absurd (omega (arith, rank_under families k.name rank k.has))
  never (suc fuel) rank k h =
      let u = rises rank k in
      let l : rank < u.0 = u.1 in never fuel u.0 u.2 (omega arith)

  -- no set of the jobs is a ring
  pub no_set : ⊥
  no_set =
      let e = ring.each ring.first ring.is_in in
      let o = above_all ring.first e.0 ring.is_in e.1 e.2 in
      never (bound families) o.rank (waited ring.first e.0 e.1 e.2 o) (omega arith)
