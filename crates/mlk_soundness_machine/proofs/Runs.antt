-- A job that is safe for any number of steps meets its invariants at each moment of each run of its own.
use Rattle.std.proofs.Common.{◌≡◌, Bool, true, false, List, [], ◌∷◌, length, Some, None, Ok, Err, refl, sym, ap, ◌∙◌, subst}
use Rattle.mlk_names.specs.Lists.{Among}
use Rattle.mlk_rules.specs.declared.rules.RuleLists.{RuleLists}
use Rattle.mlk_program.specs.declared.entry.EntryId.{EntryId}
use Rattle.mlk_syntax.specs.Trees.{RoutineTree}
use Rattle.mlk_machine_locks.specs.Systems.{Act, Begin, Go, Abort, and_then, lone_run}
use Rattle.mlk_machine_jobs.specs.declared.choice.Choice.{Choice}
use Rattle.mlk_machine_locks.specs.declared.refusal.Refusal.TheVariants.{NotEnabled}
use Rattle.mlk_machine_jobs.specs.Advance.{advance}
use Rattle.mlk_machine_jobs.specs.Choices.{Stepped}
use Rattle.mlk_machine_jobs.specs.Tasks.{Task, Job}
use Rattle.mlk_machine_jobs.specs.Runs.{go, aborted, machine, next_claim}
use Rattle.mlk_cert_parts.specs.declared.block.EntryCert.{EntryCert}
use Rattle.mlk_soundness_machine.specs.Listed.{FactsSince}
use Rattle.mlk_soundness_machine.proofs.Listing.{no_start, no_line, no_round, no_command, no_argument, no_start_of_job}
use Rattle.mlk_soundness_machine.specs.Safe.{SafeFor}
use Rattle.mlk_soundness_machine.specs.History.{begun_after}
use Rattle.mlk_soundness_machine.specs.Moments.{where_it_goes, begun_by}
use Rattle.mlk_machine_locks.specs.Waiting.{awaited}
use Rattle.mlk_machine_jobs.specs.Seen.{ready_in}

module _ (routines : List RoutineTree) (declared : EntryId → Bool) (Fact : List Job → Job → Type 0) (stopped : (begun : List Job) (j : Job) → j.tasks ≡ [] → j.stopped ≡ true → Fact begun j) where
  -- an aborted job does nothing more
  is_stopped : (j k : Job) (ts : List Task) → aborted j ts ≡ Ok k → (k.tasks ≡ []) × (k.stopped ≡ true)
  is_stopped j k [] e = cc
  is_stopped j k (t ∷ ts) e = let z : record j { held = []; tasks = []; stopped = true } ≡ k = cc e in subst (λ (i : Job). (i.tasks ≡ []) × (i.stopped ≡ true)) z (refl, refl)

  -- the rest of a run
  abbrev Since : List (Act Choice EntryId) → List Job → Job → Job → Type 0
  Since acts begun j i = Fact (begun_by (machine routines declared) acts begun j) i

  stays_stopped : (acts : List (Act Choice EntryId)) (begun : List Job) (j i : Job) → j.tasks ≡ [] → j.stopped ≡ true → lone_run (machine routines declared) acts j ≡ Ok i → Since acts begun j i
  stays_stopped [] begun j i e f h = let z : j ≡ i = cc in subst (Fact begun) z (stopped begun j e f)
  stays_stopped (Begin entry test values ∷ acts) begun j i e f h = cc
  stays_stopped (Go c ∷ acts) begun j i e f h =
      let z : and_then (lone_run (machine routines declared) acts) (Err NotEnabled) ≡ Ok i = subst (λ ts. and_then (lone_run (machine routines declared) acts) (advance routines (λ x. true) c j ts) ≡ Ok i) e h in cc
  stays_stopped (Abort ∷ acts) begun j i e f h =
      let z : and_then (lone_run (machine routines declared) acts) (aborted j []) ≡ Ok i = subst (λ ts. and_then (lone_run (machine routines declared) acts) (aborted j ts) ≡ Ok i) e h in cc

  goes_on : (acts : List (Act Choice EntryId)) (begun : List Job) (j i : Job) (r : Stepped) → ((k : Job) → r ≡ Ok k → lone_run (machine routines declared) acts k ≡ Ok i → Since acts (begun_after begun j k) k i)
      → and_then (lone_run (machine routines declared) acts) r ≡ Ok i → Fact (where_it_goes begun (λ k. begun_by (machine routines declared) acts (begun_after begun j k) k) r) i
  goes_on acts begun j i (Err why) f g = cc
  goes_on acts begun j i (Ok k) f g = f k refl g

  pub moments : (acts : List (Act Choice EntryId)) (begun : List Job) (j i : Job) → SafeFor routines Fact (length acts) begun j → lone_run (machine routines declared) acts j ≡ Ok i → Since acts begun j i
  moments [] begun j i s h = let z : j ≡ i = cc in subst (Fact begun) z s
  moments (Begin entry test values ∷ acts) begun j i s h = cc
  moments (Go c ∷ acts) begun j i s h = goes_on acts begun j i (go routines (λ x. true) c j) (λ k e g. moments acts (begun_after begun j k) k i (s.1 (λ x. true) c k e) g) h
  moments (Abort ∷ acts) begun j i s h =
      goes_on acts begun j i (aborted j j.tasks) (λ k e g. let f = is_stopped j k j.tasks e in stays_stopped acts (begun_after begun j k) k i f.0 f.1 g) h

-- a job that was stopped meets its invariants
pub stopped_facts : (routines : List RoutineTree) (rules : RuleLists) (entries : List (EntryId × EntryCert) × List EntryId) (begun : List Job) (j : Job) → j.tasks ≡ [] → j.stopped ≡ true → FactsSince routines rules entries begun j
stopped_facts routines rules entries begun j e f = record {
  facts = record {
    covered = λ u r. let z : None ≡ Some u = sym (ap ready_in e) ∙ r in cc;
    in_order = λ n i. absurd (subst (λ o. Among n (awaited o)) (ap next_claim e) i);
    ends = λ ended. (let y : true ≡ false = sym f ∙ ended.1 in cc);
  };
  starts = no_start routines entries.0 begun j [] e refl;
  lines = no_line routines entries.0 begun j [] e refl;
  rounds = no_round routines entries.0 begun j [] e refl;
  inside = no_command routines rules entries begun j [] e refl;
  between = no_argument routines rules entries begun j [] e refl;
  jobs = no_start_of_job routines entries.1 j [] e refl;
}
