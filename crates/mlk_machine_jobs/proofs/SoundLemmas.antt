-- Nested blocks and frames: what preserves their nesting.
use Rattle.std.proofs.Common.{◌≡◌, ◌∙◌, ◌≤◌, ℕ, List, [], ◌∷◌, ◌++◌, length, take, drop, reverse, sym, ap, subst, arith}
use Rattle.std.proofs.lemmas.List.{reverse-append, take-append-drop}
use Rattle.mlk_machine_jobs.specs.declared.binding.Binder.{Binder as BinderIn}
use Rattle.mlk_machine_jobs.specs.declared.pending.Back.{Back}
use Rattle.mlk_machine_jobs.specs.declared.pending.Pending.{Pending}
use Rattle.mlk_machine_jobs.specs.declared.pending.Pending.TheVariants as pending
use Rattle.mlk_machine_jobs.specs.declared.task.Task.{Task}
use Rattle.mlk_machine_jobs.specs.Sound.{HaveTables, IsWithin, AreNested, Stands}

within_wider : (bs : List BinderIn) (c d n m : ℕ) (back : Back) → c ≤ d → n ≤ m → IsWithin bs c n back → IsWithin bs d m back
within_wider bs c d n m back l k h = record {
  binders = omega (arith, l, h.binders);
  next = omega (arith, k, h.next);
  tables = h.tables;
}

pub wider : (bs : List BinderIn) (c d n m : ℕ) (ps : List Pending) → c ≤ d → n ≤ m → AreNested bs c n ps → AreNested bs d m ps
wider bs c d n m [] l k h = h
wider bs c d n m (pending.Task t ∷ ps) l k h = wider bs c d n m ps l k h
wider bs c d n m (pending.EndBlock back test ∷ ps) l k h = (within_wider bs c d n m back l k h.0, h.1)
wider bs c d n m (pending.EndFrame frame back routine ∷ ps) l k h = (within_wider bs c d n m back l k h.0, h.1)

-- without the first of them
without_first : (bs : List BinderIn) (c n : ℕ) (p : Pending) (ps : List Pending) → AreNested bs c n (p ∷ ps) → AreNested bs c n ps
without_first bs c n (pending.Task t) ps h = h
without_first bs c n (pending.EndBlock back test) ps h = wider bs back.binders c back.next n ps h.0.binders h.0.next h.1
without_first bs c n (pending.EndFrame frame back routine) ps h = wider bs back.binders c back.next n ps h.0.binders h.0.next h.1

later : (bs : List BinderIn) (c n : ℕ) (xs ys : List Pending) → AreNested bs c n (xs ++ ys) → AreNested bs c n ys
later bs c n [] ys h = h
later bs c n (x ∷ xs) ys h = later bs c n xs ys (without_first bs c n x (xs ++ ys) h)

-- the first of them, counted from the oldest
pub nested_taken : (bs : List BinderIn) (c n k : ℕ) (ps : List Pending) → AreNested bs c n (reverse ps)
    → AreNested bs c n (reverse (take k ps))
nested_taken bs c n k ps h =
    later bs c n (reverse (drop k ps)) (reverse (take k ps))
    (subst (λ (z : List Pending). AreNested bs c n z)
    (ap reverse (sym (take-append-drop k ps)) ∙ reverse-append (take k ps) (drop k ps)) h)

pub stands_taken : (bs : List BinderIn) (n k : ℕ) (ps : List Pending) → Stands bs n ps → Stands bs n (take k ps)
stands_taken bs n k ps h = record { tables = h.tables; nested = nested_taken bs (length bs) n k ps h.nested }

turned : (ps : List Pending) (p : Pending) → reverse (ps ++ p ∷ []) ≡ p ∷ reverse ps
turned ps p = reverse-append ps (p ∷ [])

-- one more task, and one less
pub stands_task : (bs : List BinderIn) (n : ℕ) (ps : List Pending) (t : Task) → Stands bs n ps
    → Stands bs n (ps ++ pending.Task t ∷ [])
stands_task bs n ps t h = record {
  tables = h.tables;
  nested = subst (λ (z : List Pending). AreNested bs (length bs) n z) (sym (turned ps (pending.Task t))) h.nested;
}

pub stands_before : (bs : List BinderIn) (n : ℕ) (ps : List Pending) (p : Pending) → Stands bs n (ps ++ p ∷ [])
    → Stands bs n ps
stands_before bs n ps p h = record {
  tables = h.tables;
  nested = without_first bs (length bs) n p (reverse ps)
      (subst (λ (z : List Pending). AreNested bs (length bs) n z) (turned ps p) h.nested);
}

-- if the binders of the ends stay, others may come or go
same_within : (bs cs : List BinderIn) (c n : ℕ) (back : Back)
    → ((k : ℕ) → k ≤ c → take k bs ≡ take k cs) → IsWithin bs c n back → IsWithin cs c n back
same_within bs cs c n back e h = record {
  binders = h.binders;
  next = h.next;
  tables = subst (λ (z : List BinderIn). HaveTables back.next z) (e back.binders h.binders) h.tables;
}

pub same_nested : (bs cs : List BinderIn) (c n : ℕ) (ps : List Pending)
    → ((k : ℕ) → k ≤ c → take k bs ≡ take k cs) → AreNested bs c n ps → AreNested cs c n ps
same_nested bs cs c n [] e h = h
same_nested bs cs c n (pending.Task t ∷ ps) e h = same_nested bs cs c n ps e h
same_nested bs cs c n (pending.EndBlock back test ∷ ps) e h = (
  same_within bs cs c n back e h.0,
  same_nested bs cs back.binders back.next ps (λ k l. e k (omega (arith, l, h.0.binders))) h.1,
)
same_nested bs cs c n (pending.EndFrame frame back routine ∷ ps) e h = (
  same_within bs cs c n back e h.0,
  same_nested bs cs back.binders back.next ps (λ k l. e k (omega (arith, l, h.0.binders))) h.1,
)
