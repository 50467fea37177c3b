-- What the end of a block or a frame restores, whatever was done in it.
use Rattle.std.proofs.Common.{◌≡◌, ◌∙◌, ℕ, suc, ◌+◌, ◌<◌, ◌≤◌, Bool, true, List, [], ◌∷◌, ◌++◌, map, length, Option, Some, None, refl, sym, ap, subst, arith}
use Rattle.std.specs.Prelude.{Ok, Err}
use Rattle.std.proofs.lemmas.List.{length-append, length-map}
use Rattle.mlk_machine_locks.specs.Systems.{Act, Begin, Go, Abort, alone, lone_run}
use Rattle.mlk_syntax.specs.Trees.{RoutineTree}
use Rattle.mlk_program.specs.declared.entry.EntryId.{EntryId}
use Rattle.mlk_machine_jobs.specs.declared.choice.Choice.{Choice}
use Rattle.mlk_machine_jobs.specs.Bindings.{Cell, Cells, forgotten}
use Rattle.mlk_machine_jobs.specs.Tasks.{Job, NoValue, AwaitsValue, HasValue, Mark, BlockMark, FrameMark, marks}
use Rattle.mlk_machine_jobs.specs.Choices.{Stepped}
use Rattle.mlk_machine_jobs.specs.Runs.{machine}
use Rattle.mlk_machine_laws.specs.Scopes.{count_open, has_own_test}
use Rattle.mlk_machine_laws.specs.Laws.{EndsPutBack}
use Rattle.mlk_machine_laws.proofs.Kept.{Kept, kept_by, kept, Move, stays, opens, ends, halts}
use Rattle.mlk_machine_laws.proofs.Moves.{moves, stops}

-- These are open above others; the last of them is this one.
record Above (b : Kept) (base ks : List Kept) : Type 0 where
  front : List Kept
  is : ks ≡ front ++ b ∷ base

kept_len : (j : Job) → length (kept j.tasks) ≡ count_open j
kept_len j = length-map (marks j.tasks) kept_by

count_above : (front : List Kept) (b : Kept) (base : List Kept) → length (front ++ b ∷ base) ≡ length front + suc (length base)
count_above front b base = length-append front (b ∷ base)

-- as long as more are open than the others, it stays open
keeps : (routines : List RoutineTree) (b : Kept) (base : List Kept) (k i : Job) → Above b base (kept k.tasks) → Move routines k i → length base < count_open i
    → Above b base (kept i.tasks)
keeps routines b base k i a (stays e o) l = record { front = a.front; is = e ∙ a.is }
keeps routines b base k i a (opens test e t o) l =
    record { front = record { back = k.bindings; next = k.next; test = test } ∷ a.front; is = e ∙ ap (λ ks. record { back = k.bindings; next = k.next; test = test } ∷ ks) a.is }
keeps routines b base k i a (ends x e g n f t) l = on a.front (sym e ∙ a.is)
  where
    on : (front : List Kept) → x ∷ kept i.tasks ≡ front ++ b ∷ base → Above b base (kept i.tasks)
    on [] h =
        let d : kept i.tasks ≡ base = cc in
        let m : count_open i ≡ length base = sym (kept_len i) ∙ ap length d in absurd (omega (arith, l, m))
    on (y ∷ front) h = let d : kept i.tasks ≡ front ++ b ∷ base = cc in record { front = front; is = d }
keeps routines b base k i a (halts e u v w) l = let m : count_open i ≡ 0 = sym (kept_len i) ∙ ap length e in absurd (omega (arith, l, m))

-- what was restored at its end
record Ended (b : Kept) (i : Job) : Type 0 where
  bindings : i.bindings ≡ b.back
  next : i.next ≡ b.next
  cells : (c : Cell) → b.next ≤ c.generation → i.cells c ≡ None
  test : (t : Bool) → b.test ≡ Some t → i.test ≡ t

pub is_forgotten : (next : ℕ) (cells : Cells) (c : Cell) → next ≤ c.generation → forgotten next cells c ≡ None
is_forgotten next cells c h = grind arith

-- if only the others are open, it was ended
ended : (routines : List RoutineTree) (b : Kept) (base : List Kept) (k i : Job) → Above b base (kept k.tasks) → Move routines k i → count_open i ≡ length base
    → 0 < length base → Ended b i
ended routines b base k i a (stays e o) l p =
    let m : count_open i ≡ length a.front + suc (length base) = sym (kept_len i) ∙ ap length (e ∙ a.is) ∙ count_above a.front b base in
    absurd (omega (arith, l, m))
ended routines b base k i a (opens test e t o) l p =
    let m : count_open i ≡ suc (length (kept k.tasks)) = sym (kept_len i) ∙ ap length e in
    let n : length (kept k.tasks) ≡ length a.front + suc (length base) = ap length a.is ∙ count_above a.front b base in
    absurd (omega (arith, l, m, n))
ended routines b base k i a (ends x e g n f t) l p = on a.front (sym e ∙ a.is)
  where
    on : (front : List Kept) → x ∷ kept i.tasks ≡ front ++ b ∷ base → Ended b i
    on [] h =
        let d : x ≡ b = cc in
        subst (λ y. Ended y i) d (record { bindings = g; next = n; cells = λ c h. ap (λ m. m c) f ∙ is_forgotten x.next k.cells c h; test = t })
    on (y ∷ front) h =
        let d : kept i.tasks ≡ front ++ b ∷ base = cc in
        let m : count_open i ≡ length front + suc (length base) = sym (kept_len i) ∙ ap length d ∙ count_above front b base in
        absurd (omega (arith, l, m))
ended routines b base k i a (halts e u v w) l p =
    let m : count_open i ≡ 0 = sym (kept_len i) ∙ ap length e in absurd (omega (arith, l, m, p))

-- a step after which more are open has opened one, which restores all
begun : (routines : List RoutineTree) (j first : Job) → Move routines j first → count_open j < count_open first
    → (test : Option Bool) × (kept first.tasks ≡ record { back = j.bindings; next = j.next; test = test } ∷ kept j.tasks)
    × ((t : Bool) → test ≡ Some t → j.test ≡ t)
begun routines j first (stays e o) l =
    let m : count_open first ≡ count_open j = sym (kept_len first) ∙ ap length e ∙ kept_len j in absurd (omega (arith, l, m))
begun routines j first (opens test e t o) l = (test, e, t)
begun routines j first (ends x e g n f t) l =
    let m : count_open j ≡ suc (count_open first) = sym (kept_len j) ∙ ap length e ∙ ap (λ k. suc k) (kept_len first) in absurd (omega (arith, l, m))
begun routines j first (halts e u v w) l = let m : count_open first ≡ 0 = sym (kept_len first) ∙ ap length e in absurd (omega (arith, l, m))

-- the innermost of these
has_test : (ms : List Mark) (b : Kept) (base : List Kept) → map kept_by ms ≡ b ∷ base → has_own_test ms ≡ true
    → (t : Bool) × (b.test ≡ Some t)
has_test [] b base e h = cc
has_test (BlockMark back next test ∷ ms) b base e h = (test, cc)
has_test (FrameMark NoValue back next routine ∷ ms) b base e h = cc
has_test (FrameMark (AwaitsValue test) back next routine ∷ ms) b base e h = (test, cc)
has_test (FrameMark (HasValue test) back next routine ∷ ms) b base e h = (test, cc)

module _ (routines : List RoutineTree) (declared : EntryId → Bool) where
  acts_move : (a : Act Choice EntryId) (j i : Job) → alone (machine routines declared) a j ≡ Ok i → Move routines j i
  acts_move (Begin e test values) j i h = cc
  acts_move (Go c) j i h = moves routines (λ _. true) c j j.tasks refl i h
  acts_move Abort j i h = stops routines j j.tasks i h

  abbrev Within : ℕ → List (Act Choice EntryId) → Job → Type 0
  Within n acts first = (before later : List (Act Choice EntryId)) (k : Job) → acts ≡ before ++ later
      → lone_run (machine routines declared) before first ≡ Ok k → n < count_open k

  stays_above : (b : Kept) (base : List Kept) (acts : List (Act Choice EntryId)) (k last : Job)
      → lone_run (machine routines declared) acts k ≡ Ok last → Within (length base) acts k → Above b base (kept k.tasks)
      → Above b base (kept last.tasks)
  stays_above b base [] k last h w a = let e : k ≡ last = cc in subst (λ i. Above b base (kept i.tasks)) e a
  stays_above b base (x ∷ acts) k last h w a = on (alone (machine routines declared) x k) refl (stays_above b base acts)
    where
      on : (s : Stepped) → alone (machine routines declared) x k ≡ s
          → ((i z : Job) → lone_run (machine routines declared) acts i ≡ Ok z → Within (length base) acts i → Above b base (kept i.tasks)
          → Above b base (kept z.tasks))
          → Above b base (kept last.tasks)
      on (Err why) e rest = let z : Err why ≡ Ok last = rw e at h in cc
      on (Ok i) e rest =
          let g : lone_run (machine routines declared) acts i ≡ Ok last = rw e at h in
          rest i last g
          (λ before later n d q. w (x ∷ before) later n (ap (λ l. x ∷ l) d) (rw e q))
          (keeps routines b base k i a (acts_move x k i e) (w (x ∷ []) acts i refl (rw e refl)))

pub ends_put_back : EndsPutBack
ends_put_back routines declared j i g =
    let into : Move routines j g.first = acts_move routines declared g.goes_in j g.first g.is_first in
    let b = begun routines j g.first into (g.is_within [] g.acts g.first refl refl) in
    let k : Kept = record { back = j.bindings; next = j.next; test = b.0 } in
    let w : Within routines declared (length (kept j.tasks)) g.acts g.first =
    λ before later n d q. let l = g.is_within before later n d q in let m = kept_len j in omega (arith, l, m) in
    let a = stays_above routines declared k (kept j.tasks) g.acts g.first g.last g.is_last w (record { front = []; is = b.1 }) in
    let out : Move routines g.last i = acts_move routines declared g.goes_out g.last i g.is_out in
    let p : 0 < length (kept j.tasks) = let l = g.is_in_frame in let m = kept_len j in omega (arith, l, m) in
    let d = ended routines k (kept j.tasks) g.last i a out (g.as_many ∙ sym (kept_len j)) p in
    record {
      bindings = d.bindings;
      unused = d.next;
      forgotten = d.cells;
      test = λ h. let t = has_test (marks g.first.tasks) k (kept j.tasks) b.1 h in d.test t.0 t.1 ∙ sym (b.2 t.0 t.1);
    }
