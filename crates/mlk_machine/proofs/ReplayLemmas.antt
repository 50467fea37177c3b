-- Events, one after another.
use Rattle.std.proofs.Common.{◌≡◌, ◌∙◌, ◌+◌, ◌<◌, ◌≤◌, ℕ, zero, suc, List, [], ◌∷◌, length, map, drop, get_or, Result, Ok, Err, refl, sym, ap, arith}
use Rattle.mlk_text.specs.declared.failure.Failure.{Failure}
use Rattle.mlk_text.specs.declared.failure.Failure.TheVariants.{OutOfMemory, Refused}
use Rattle.mlk_machine_locks.specs.declared.refusal.Refusal.{Refusal}
use Rattle.mlk_machine_locks.specs.Systems.{Machine, Event, and_then, happens, happened, after, count_happened}
use Rattle.mlk_syntax.specs.declared.routine.Routine.{Routine}
use Rattle.mlk_program.specs.declared.entry.EntryId.{EntryId}
use Rattle.mlk_machine_jobs.specs.declared.choice.Choice.{Choice}
use Rattle.mlk_machine_jobs.specs.Tasks.{Job}
use Rattle.mlk_machine.specs.Running.{Running}
use Rattle.mlk_machine.specs.declared.event.Event.{Event as EventIn}
use Rattle.mlk_machine.specs.Systems.{jobs_in, machine_in, machine_of, IsSame}
use Rattle.mlk_machine.specs.declared.replaying.Refused.{Refused as RefusedAt}
use Rattle.mlk_machine.specs.Replays.{event_of, FailsAt, Replayed}

-- The rest has the result of the whole, `past` events later.
pub record Half (program : List Routine) (entries : List EntryId) (all left : List (Event Choice EntryId)) (past : ℕ)
    (s : Running) : Type 0 where
  pub program_is : s.program ≡ program
  pub entries_are : s.entries ≡ entries
  pub later : after (machine_in program entries) left (jobs_in s) ≡ after (machine_in program entries) all []
  pub counted : past + count_happened (machine_in program entries) left (jobs_in s)
      ≡ count_happened (machine_in program entries) all []

module _ (m : Machine Job Choice EntryId) (e : Event Choice EntryId) (es : List (Event Choice EntryId)) (now : List Job)
  where
    one_after : (next : List Job) → happens m now e.job e.act ≡ Ok next → after m (e ∷ es) now ≡ after m es next
    one_after next h = ap (and_then (after m es)) h

    one_counted : (next : List Job) → happens m now e.job e.act ≡ Ok next
        → count_happened m (e ∷ es) now ≡ suc (count_happened m es next)
    one_counted next h = ap (happened (count_happened m es)) h

    none_after : (why : Refusal) → happens m now e.job e.act ≡ Err why → after m (e ∷ es) now ≡ Err why
    none_after why h = ap (and_then (after m es)) h

    none_counted : (why : Refusal) → happens m now e.job e.act ≡ Err why → count_happened m (e ∷ es) now ≡ 0
    none_counted why h = ap (happened (count_happened m es)) h

module _ (program : List Routine) (entries : List EntryId) (all : List (Event Choice EntryId)) where
  abbrev m : Machine Job Choice EntryId
  m = machine_in program entries

  same_machine : (s : Running) → s.program ≡ program → s.entries ≡ entries → machine_of s ≡ m
  same_machine s p e = ap (λ (r : List Routine). machine_in r s.entries) p ∙ ap (machine_in program) e

  happens_same : (s : Running) (e : Event Choice EntryId) (r : Result (List Job) Refusal) → s.program ≡ program
      → s.entries ≡ entries → happens (machine_of s) (jobs_in s) e.job e.act ≡ r → happens m (jobs_in s) e.job e.act ≡ r
  happens_same s e r p q h =
      ap (λ (n : Machine Job Choice EntryId). happens n (jobs_in s) e.job e.act) (sym (same_machine s p q)) ∙ h

  pub half_more : (left later : List (Event Choice EntryId)) (e : Event Choice EntryId) (past next : ℕ) (s t : Running)
      → Half program entries all left past s → left ≡ e ∷ later
      → happens (machine_of s) (jobs_in s) e.job e.act ≡ Ok (jobs_in t) → IsSame s t → next ≡ past + 1
      → Half program entries all later next t
  half_more left later e past next s t h l o same n =
      let go = happens_same s e (Ok (jobs_in t)) h.program_is h.entries_are o in
      let c : count_happened m left (jobs_in s) ≡ suc (count_happened m later (jobs_in t)) =
      ap (λ es. count_happened m es (jobs_in s)) l ∙ one_counted m e later (jobs_in s) (jobs_in t) go in
      let k = h.counted in
      record {
        program_is = same.program ∙ h.program_is;
        entries_are = same.entries ∙ h.entries_are;
        later = sym (ap (λ es. after m es (jobs_in s)) l ∙ one_after m e later (jobs_in s) (jobs_in t) go) ∙ h.later;
        counted = omega (arith, c, k, n);
      }

  pub half_stopped : (left later : List (Event Choice EntryId)) (e : Event Choice EntryId) (past : ℕ) (s : Running)
      (why : Refusal) → Half program entries all left past s → left ≡ e ∷ later
      → happens (machine_of s) (jobs_in s) e.job e.act ≡ Err why
      → (after m all [] ≡ Err why) × (count_happened m all [] ≡ past)
  half_stopped left later e past s why h l o =
      let go = happens_same s e (Err why) h.program_is h.entries_are o in
      let c : count_happened m left (jobs_in s) ≡ 0 =
      ap (λ es. count_happened m es (jobs_in s)) l ∙ none_counted m e later (jobs_in s) why go in
      let k = h.counted in (
        sym h.later ∙ ap (λ es. after m es (jobs_in s)) l ∙ none_after m e later (jobs_in s) why go,
        omega (arith, c, k),
      )

from_here : (es : List EventIn) (i : ℕ) (e : EventIn) → i < length es → e ≡ get_or es i e
    → drop i es ≡ e ∷ drop (suc i) es
from_here [] i e l h = absurd (omega arith)
from_here (x ∷ es) zero e l h = ap (λ (y : EventIn). y ∷ es) (sym h)
from_here (x ∷ es) (suc i) e l h = from_here es i e (omega arith) h

pub next_event : (es : List EventIn) (i : ℕ) (e : EventIn) → i < length es → e ≡ get_or es i e
    → map event_of (drop i es) ≡ event_of e ∷ map event_of (drop (i + 1) es)
next_event es i e l h =
    let m : suc i ≡ i + 1 = omega arith in
    ap (map event_of) (from_here es i e l h ∙ ap (λ n. e ∷ drop n es) m)

pub replayed_refused : (program : List Routine) (entries : List EntryId) (all left later : List (Event Choice EntryId))
    (e : Event Choice EntryId) (past : ℕ) (s : Running) (why : Failure RefusedAt)
    → Half program entries all left past s → left ≡ e ∷ later
    → FailsAt past why (happens (machine_of s) (jobs_in s) e.job e.act) → Replayed program entries all (Err why)
replayed_refused program entries all left later e past s OutOfMemory h l f = tt
replayed_refused program entries all left later e past s (Refused at) h l f =
    let r = half_stopped program entries all left later e past s at.why h l f.0 in (r.0, r.1 ∙ sym f.1)

pub replayed_all : (program : List Routine) (entries : List EntryId) (all left : List (Event Choice EntryId)) (past : ℕ)
    (s : Running) → Half program entries all left past s → left ≡ [] → Replayed program entries all (Ok s)
replayed_all program entries all left past s h l = (
  h.program_is,
  h.entries_are,
  sym h.later ∙ ap (λ es. after (machine_in program entries) es (jobs_in s)) l,
)

pub begun : (program : List Routine) (entries : List EntryId) (es : List EventIn) (s : Running)
    → s ≡ record { program = program; entries = entries; jobs = [] }
    → Half program entries (map event_of es) (map event_of (drop 0 es)) 0 s
begun program entries es s e = rw e (record { program_is = refl; entries_are = refl; later = refl; counted = omega arith })

pub none_left : (es : List EventIn) (i : ℕ) → length es ≤ i → map event_of (drop i es) ≡ []
none_left [] zero l = refl
none_left [] (suc i) l = refl
none_left (x ∷ es) zero l = absurd (omega (arith, l))
none_left (x ∷ es) (suc i) l = none_left es i (omega (arith, l))
