-- Each line of a file denotes events: a job that runs by itself makes a number of steps, whatever the other jobs hold.
use Rattle.std.proofs.Common.{◌≡◌, ◌∙◌, ◌++◌, ◌==◌, ℕ, zero, suc, Bool, true, false, List, [], ◌∷◌, Result, Ok, Err, refl, sym, ap, inl, inr, append_assoc}
use Rattle.std.specs.Prelude.{replicate}
use Rattle.std.specs.List.{flat_map}
use Rattle.std.proofs.lemmas.Bool.{cases_Bool}
use Rattle.std.proofs.lemmas.List.Concat.{flat_map-cons}
use Rattle.mlk_machine_locks.specs.declared.refusal.Refusal.{Refusal}
use Rattle.mlk_machine_locks.specs.Systems.{Machine, Event, Go, and_then, is_free, changed, happens, after}
use Rattle.mlk_machine_locks.proofs.Answered.{done_then}
use Rattle.mlk_syntax.specs.Trees.{RoutineTree}
use Rattle.mlk_program.specs.declared.entry.EntryId.{EntryId}
use Rattle.mlk_machine_jobs.specs.declared.choice.Choice.{Choice}
use Rattle.mlk_machine_jobs.specs.declared.choice.Choice.TheVariants as choice
use Rattle.mlk_machine_jobs.specs.Tasks.{Job}
use Rattle.mlk_machine_jobs.specs.Runs.{machine, go}
use Rattle.mlk_machine_jobs.specs.Seen.{settled, settled_in, most_silent_steps, behind}
use Rattle.mlk_machine_jobs.specs.Laws.{goes}
use Rattle.mlk_machine_jobs.proofs.MachineLemmas.{is_machine}
use Rattle.mlk_machine_jobs.proofs.SettleLemmas.{settles_by_steps}
use Rattle.mlk_machine.specs.Files.{Asked, Happens, RunsAlone, made, then_next, in_turn}
use Rattle.mlk_machine.specs.Laws.{StandFor, AreMade, LinesAreEvents, ReplaysAreRuns}

-- no job has this number
abbrev Lack : ℕ → List Job → Type 0
Lack k [] = Unit {0}
Lack k (j ∷ jobs) = ((j.number == k) ≡ false) × Lack k jobs

lack_more : (k : ℕ) (before : List Job) (j : Job) → Lack k before → (j.number == k) ≡ false → Lack k (before ++ j ∷ [])
lack_more k [] j l n = (n, tt)
lack_more k (b ∷ before) j l n = (l.0, lack_more k before j l.1 n)

-- the result after a job, and after a line
same_answer : {A : Type 0} (a b : A) → ◌≡◌ {A = Result A Refusal} (Ok a) (Ok b) → a ≡ b
same_answer a b h = cc

behind_done : (j : Job) (r : Result (List Job × ℕ) Refusal) (new : List Job) (count : ℕ) → behind j r ≡ Ok (new, count)
    → (others : List Job) × (r ≡ Ok (others, count)) × (new ≡ j ∷ others)
behind_done j (Ok r) new count h =
    let e = same_answer (j ∷ r.0, r.1) (new, count) h in
    (r.0, ap (λ (n : ℕ). Ok (r.0, n)) (ap (λ (p : List Job × ℕ). p.1) e), sym (ap (λ (p : List Job × ℕ). p.0) e))
behind_done j (Err why) new count h = cc

line_done : (later : List Job → Result (List Job) (ℕ × Refusal)) (line : ℕ) (r : Result (List Job) Refusal) (new : List Job)
    → then_next later line r ≡ Ok new → (jobs : List Job) × (r ≡ Ok jobs) × (later jobs ≡ Ok new)
line_done later line (Ok jobs) new h = (jobs, refl, h)
line_done later line (Err why) new h = cc

module _ (routines : List RoutineTree) (declared : EntryId → Bool) where
  abbrev m : Machine Job Choice EntryId
  m = machine routines declared

  abbrev step_of : ℕ → Event Choice EntryId
  step_of k = record { job = k; act = Go choice.None }

  -- the job of a number, after others
  changed_at : (f : Job → Result Job Refusal) (k : ℕ) (before rest : List Job) (j i : Job) → Lack k before
      → (j.number == k) ≡ true → f j ≡ Ok i → changed m f k (before ++ j ∷ rest) ≡ Ok (before ++ i ∷ rest)
  changed_at f k [] rest j i l n h = rw n (ap (and_then (λ x. Ok (x ∷ rest))) h)
  changed_at f k (b ∷ before) rest j i l n h =
      rw (l.0) (ap (and_then (λ is. Ok (b ∷ is))) (changed_at f k before rest j i l.1 n h))

  -- steps that need no name free are enabled whatever the others hold
  steps_made : (k n : ℕ) (before rest : List Job) (j i : Job) → Lack k before → (j.number == k) ≡ true
      → goes routines (λ _. false) n j ≡ Ok i
      → after m (replicate n (step_of k)) (before ++ j ∷ rest) ≡ Ok (before ++ i ∷ rest)
  steps_made k zero before rest j i l n h = let e : j ≡ i = cc in ap (λ x. Ok (before ++ x ∷ rest)) e
  steps_made k (suc c) before rest j i l n h =
      done_then (goes routines (λ _. false) c) (go routines (λ _. false) choice.None j) i h (λ mid p q.
      let free = is_free m (before ++ j ∷ rest) k in
      let more : go routines free choice.None j ≡ Ok mid = (is_machine routines declared).go_more (λ _. false) free choice.None j mid (λ x z. cc) p in
      let same : mid.number ≡ j.number = (is_machine routines declared).go_number (λ _. false) choice.None j mid p in
      ap (and_then (after m (replicate c (step_of k)))) (changed_at (m.go free choice.None) k before rest j mid l n more)
      ∙ steps_made k c before rest mid i l (ap (λ x. x == k) same ∙ n) q)

  goes_on : (k : ℕ) (before jobs new : List Job) (count : ℕ) → Lack k before → settled_in routines k jobs ≡ Ok (new, count)
      → after m (replicate count (step_of k)) (before ++ jobs) ≡ Ok (before ++ new)
  goes_on k before [] new count l h = cc
  goes_on k before (j ∷ jobs) new count l h = elim (cases_Bool (j.number == k)) [
    | inl t ↦
        let r : Job × ℕ = settled routines most_silent_steps j in
        let h : ◌≡◌ {A = Result (List Job × ℕ) Refusal} (Ok (r.0 ∷ jobs, r.1)) (Ok (new, count)) = rw t at h in
        let e = same_answer (r.0 ∷ jobs, r.1) (new, count) h in
        ap (λ (p : List Job × ℕ). after m (replicate p.1 (step_of k)) (before ++ j ∷ jobs)) (sym e)
        ∙ steps_made k r.1 before jobs j r.0 l t ((settles_by_steps routines most_silent_steps j).by_steps (λ _. false))
        ∙ ap (λ (p : List Job × ℕ). Ok (before ++ p.0)) e
    | inr t ↦
        let e : behind j (settled_in routines k jobs) ≡ Ok (new, count) = rw t at h in
        let d = behind_done j (settled_in routines k jobs) new count e in
        ap (after m (replicate count (step_of k))) (sym (append_assoc before (j ∷ []) jobs))
        ∙ goes_on k (before ++ j ∷ []) jobs d.0 count (lack_more k before j l t) d.1
        ∙ ap (λ is. Ok is) (append_assoc before (j ∷ []) d.0 ∙ ap (λ is. before ++ is) (sym d.2))
  ]

  -- one line, and lines in turn
  one_line : (a : Asked) (old new : List Job) → made m routines a old ≡ Ok new
      → (events : List (Event Choice EntryId)) × StandFor a events × (after m events old ≡ Ok new)
  one_line (Happens e) old new h = (e ∷ [], refl, ap (and_then (after m [])) h)
  one_line (RunsAlone k) old new h =
      done_then (λ r. Ok r.0) (settled_in routines k old) new h (λ r p q.
      (replicate r.1 (step_of k), (r.1, refl), goes_on k [] old r.0 r.1 tt p ∙ q))

  after_both : (es fs : List (Event Choice EntryId)) (old mid : List Job) → after m es old ≡ Ok mid
      → after m (es ++ fs) old ≡ after m fs mid
  after_both [] fs old mid h = let e : old ≡ mid = cc in ap (after m fs) e
  after_both (e ∷ es) fs old mid h =
      done_then (after m es) (happens m old e.job e.act) mid h (λ next p q.
      ap (and_then (after m (es ++ fs))) p ∙ after_both es fs next mid q)

  all_lines : (line : ℕ) (asks : List Asked) (old new : List Job) → in_turn m routines line asks old ≡ Ok new
      → AreMade m asks old new
  all_lines line [] old new h = record { events = []; each = tt; come_to = cc }
  all_lines line (a ∷ asks) old new h =
      let d = line_done (in_turn m routines (suc line) asks) line (made m routines a old) new h in
      let o = one_line a old d.0 d.1 in
      let l = all_lines (suc line) asks d.0 new d.2 in
      record {
        events = o.0 ∷ l.events;
        each = (o.1, l.each);
        come_to = ap (λ es. after m es old) (flat_map-cons (λ es. es) o.0 l.events)
            ∙ after_both o.0 (flat_map (λ es. es) l.events) old d.0 o.2 ∙ l.come_to;
      }

pub lines_are_events : LinesAreEvents
lines_are_events = all_lines

pub replays_are_runs : ReplaysAreRuns
replays_are_runs = record {
  of_events = λ program entries events s h. (events, h.2);
  of_file = λ program entries bytes s h.
      let l = lines_are_events _ _ 1 h.2.0 [] _ h.2.2 in (flat_map (λ es. es) l.events, l.come_to);
}
