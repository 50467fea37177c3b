-- A job is safe if each step leads to one that is.
use Rattle.std.proofs.Common.{◌≡◌, ℕ, zero, suc, Bool, true, false, List, ◌∷◌, Ok, refl, sym, ap, ◌∙◌, subst, arith}
use Rattle.std.proofs.lemmas.Bool.Decides.{nat_tests}
use Rattle.std.specs.Prelude.{◌-◌, nat_lt, if◌then◌else◌, drop}
use Rattle.mlk_names.specs.declared.lock_name.LockName.{LockName}
use Rattle.mlk_syntax.specs.Trees.{RoutineTree}
use Rattle.mlk_machine_jobs.specs.declared.choice.Choice.{Choice}
use Rattle.mlk_machine_jobs.specs.Tasks.{Task, Job, Mark, Frame, EndFrame, marks}
use Rattle.mlk_machine_jobs.specs.Bindings.{Bindings}
use Rattle.mlk_machine_jobs.specs.Advance.{advance}
use Rattle.mlk_machine_jobs.specs.Choices.{Stepped}
use Rattle.mlk_walk_state.specs.Scope.{Scope}
use Rattle.mlk_soundness_machine.specs.Described.{World, Level}
use Rattle.mlk_soundness_machine.specs.History.{count_frames, open_frames, begun_since}
use Rattle.mlk_soundness_machine.specs.Marked.{Marked}
use Rattle.mlk_soundness_machine.specs.Safe.{SafeFor, SafeIn, KeepsIn, KeepsTo, is_steady}
use Rattle.mlk_soundness_machine.proofs.Steps.{Comes}
use Rattle.mlk_soundness_machine.proofs.Stays.{AreOpen, stays}

-- if as many frames are open as before, none has begun or ended
pub as_many : (begun : List Job) (i : Job) (k : ℕ) → open_frames i ≡ k → begun_since begun k i ≡ begun
as_many begun i k e =
    let no_more : nat_lt k k ≡ false = grind (arith, nat_tests) in
    let none_gone : k - k ≡ 0 = omega arith in
    subst (λ n. (if nat_lt k n then i ∷ begun else drop (k - n) begun) ≡ begun) (sym e) (rw (no_more, none_gone) refl)

-- if one more is open, it has begun with the job that the step yields; if one less is open, the innermost has ended
pub one_more : (begun : List Job) (i : Job) (k : ℕ) → open_frames i ≡ suc k → begun_since begun k i ≡ i ∷ begun
one_more begun i k e =
    let more : nat_lt k (suc k) ≡ true = grind (arith, nat_tests) in
    subst (λ n. (if nat_lt k n then i ∷ begun else drop (k - n) begun) ≡ i ∷ begun) (sym e) (rw more refl)

pub one_less : (begun : List Job) (i : Job) (k : ℕ) → open_frames i ≡ k → begun_since begun (suc k) i ≡ drop 1 begun
one_less begun i k e =
    let no_more : nat_lt (suc k) k ≡ false = grind (arith, nat_tests) in
    let one_gone : suc k - k ≡ 1 = omega arith in
    subst (λ n. (if nat_lt (suc k) n then i ∷ begun else drop (suc k - n) begun) ≡ drop 1 begun) (sym e) (rw (no_more, one_gone) refl)

-- the same blocks and frames are open
pub marked_same : (sc : Scope) (w : World) (b : Level) (ms ns : List Mark) → AreOpen ms ns → Marked sc w b ns → Marked sc w b ms
marked_same sc w b ms ns o k = record { marks = record { tests = o.tests ∙ k.marks.tests; frames = o.frames ∙ k.marks.frames }; begun = k.begun; starts = k.starts }

module _ (routines : List RoutineTree) (Fact : List Job → Job → Type 0) where
  pub less_for : (n : ℕ) (begun : List Job) (j : Job) → SafeFor routines Fact (suc n) begun j → SafeFor routines Fact n begun j
  less_for zero begun j h = h.0
  less_for (suc n) begun j h = (h.0, λ free c i e. less_for n _ i (h.1 free c i e))

module _ (routines : List RoutineTree) (sc : Scope) (w : World) (b : Level) where
  abbrev Safe : ℕ → Job → Type 0
  Safe = SafeIn routines sc w b

  pub less : (n : ℕ) (j : Job) → Safe (suc n) j → Safe n j
  less n j h k = less_for routines (KeepsTo sc) n w.begun j (h k)

  pub one_fewer : (n m : ℕ) → n ≡ suc m → (j : Job) → Safe n j → Safe m j
  one_fewer n m e j h = less m j (subst (λ z. Safe z j) e h)

  -- a job that a step yields from these tasks is safe, whatever began or ended
  abbrev pub Next : List Task → ℕ → Job → Type 0
  Next ts n i = Marked sc w b (marks ts) → SafeFor routines (KeepsTo sc) n (begun_since w.begun (count_frames (marks ts)) i) i

  -- one step, after which the job is safe for one step less
  pub by_step : (n : ℕ) (j : Job) (ts : List Task) → j.tasks ≡ ts → KeepsIn sc w b j
      → ((m : ℕ) → n ≡ suc m → (free : LockName → Bool) (c : Choice) → Comes (Next ts m) (advance routines free c j ts)) → Safe n j
  by_step zero j ts e f h k = f k
  by_step (suc m) j ts e f h k = (
    f k,
    λ free c i r.
        subst (λ us. SafeFor routines (KeepsTo sc) m (begun_since w.begun (count_frames (marks us)) i) i) (sym e)
        (h m refl free c i (subst (λ z. advance routines free c j z ≡ Ok i) e r) (subst (λ us. Marked sc w b (marks us)) e k)),
  )

  -- a step that begins and ends no block and no frame
  pub steady : (free : LockName → Bool) (c : Choice) (j : Job) (t : Task) (ts : List Task) → is_steady t ≡ true → (m : ℕ) (s : Stepped) → s ≡ advance routines free c j (t ∷ ts)
      → Comes (Safe m) s → Comes (Next (t ∷ ts) m) s
  steady free c j t ts is m s same h i e k =
      let o : AreOpen (marks i.tasks) (marks (t ∷ ts)) = stays routines free c j t ts is i (sym same ∙ e) in
      subst (λ z. SafeFor routines (KeepsTo sc) m z i) (sym (as_many w.begun i (count_frames (marks (t ∷ ts))) o.count))
      (h i e (marked_same sc w b (marks i.tasks) (marks (t ∷ ts)) o k))

  -- after which it is safe for the same number of steps
  pub step : (n : ℕ) (j : Job) (t : Task) (ts : List Task) → j.tasks ≡ t ∷ ts → is_steady t ≡ true → KeepsIn sc w b j
      → ((free : LockName → Bool) (c : Choice) → Comes (Safe n) (advance routines free c j (t ∷ ts))) → Safe n j
  step n j t ts e is f h = by_step n j (t ∷ ts) e f (λ m k free c.
      steady free c j t ts is m (advance routines free c j (t ∷ ts)) refl (λ i r. less m i (subst (λ z. Safe z i) k (h free c i r))))

  -- one step, from one more
  pub down : (m : ℕ) (j : Job) (t : Task) (ts : List Task) → j.tasks ≡ t ∷ ts → is_steady t ≡ true → KeepsIn sc w b j
      → ((free : LockName → Bool) (c : Choice) → Comes (Safe m) (advance routines free c j (t ∷ ts))) → Safe (suc m) j
  down m j t ts e is f h = by_step (suc m) j (t ∷ ts) e f (λ k same free c.
      steady free c j t ts is k (advance routines free c j (t ∷ ts)) refl
      (subst (λ z. Comes (Safe z) (advance routines free c j (t ∷ ts))) (let z : m ≡ k = cc same in z) (h free c)))

  -- a frame's end, after which the job is in the frame that waited for it
  pub end_step : (n : ℕ) (j : Job) (frame : Frame) (back : Bindings) (next r : ℕ) (ts : List Task) → j.tasks ≡ EndFrame frame back next r ∷ ts → KeepsIn sc w b j
      → ((free : LockName → Bool) (c : Choice) → Comes (λ i. (i.tasks ≡ ts) × SafeFor routines (KeepsTo sc) n (drop 1 w.begun) i) (advance routines free c j (EndFrame frame back next r ∷ ts))) → Safe n j
  end_step n j frame back next r ts e f h = by_step n j (EndFrame frame back next r ∷ ts) e f (λ m is free c i to k.
      let g = h free c i to in
      subst (λ z. SafeFor routines (KeepsTo sc) m z i) (sym (one_less w.begun i (count_frames (marks ts)) (ap (λ us. count_frames (marks us)) g.0)))
      (less_for routines (KeepsTo sc) m (drop 1 w.begun) i (subst (λ z. SafeFor routines (KeepsTo sc) z (drop 1 w.begun) i) is g.1)))

  -- a step into a block, or out of one
  pub into_level : (to : Level) (ts us : List Task) (m : ℕ) (i : Job) → i.tasks ≡ us → count_frames (marks us) ≡ count_frames (marks ts) → (Marked sc w b (marks ts) → Marked sc w to (marks us))
      → (Marked sc w b (marks ts) → SafeIn routines sc w to m i) → Next ts m i
  into_level to ts us m i at same over h k =
      subst (λ z. SafeFor routines (KeepsTo sc) m z i) (sym (as_many w.begun i (count_frames (marks ts)) (ap (λ z. count_frames (marks z)) at ∙ same)))
      (h k (subst (λ z. Marked sc w to (marks z)) (sym at) (over k)))
