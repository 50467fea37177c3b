-- Safe jobs are shown as such, and a replay of a program that keeps its rules leads to safe jobs.
use Rattle.std.proofs.Common.{◌≡◌, ◌∙◌, ◌≢◌, ◌<◌, ◌==◌, ◌&&◌, ◌||◌, ◌++◌, ℕ, zero, suc, Bool, true, false, List, [], ◌∷◌, map, Option, Some, None, Ok, refl, sym, ap, subst, inl, inr, arith}
use Rattle.std.specs.Prelude.{codes, option_and_then}
use Rattle.std.proofs.lemmas.Bool.{cases_Bool, false_from_ne_true, eqb-true, ne_eqb}
use Rattle.mlk_names.specs.Lists.{Among}
use Rattle.mlk_names.specs.declared.lock_name.LockName.{LockName}
use Rattle.mlk_names.specs.References.{Touch}
use Rattle.mlk_rules.specs.declared.rules.RuleLists.{RuleLists}
use Rattle.mlk_rules.specs.Laws.{FreesNoReads}
use Rattle.mlk_syntax.specs.declared.routine.Routine.{Routine}
use Rattle.mlk_syntax.specs.Trees.{RoutineTree}
use Rattle.mlk_syntax.specs.Views.{routine_of}
use Rattle.mlk_program.specs.declared.entry.EntryId.{EntryId}
use Rattle.mlk_program.specs.Entries.{entry_by}
use Rattle.mlk_cert_lexemes.specs.Lists.{flat}
use Rattle.mlk_cert_lexemes.specs.Texts.{line}
use Rattle.mlk_cert_parts.specs.declared.block.EntryCert.{EntryCert}
use Rattle.mlk_machine_locks.specs.Laws.{has_ring_of}
use Rattle.mlk_machine_locks.specs.Systems.{after}
use Rattle.mlk_machine_jobs.specs.Tasks.{Job}
use Rattle.mlk_machine_jobs.specs.Runs.{machine, seen}
use Rattle.mlk_machine_jobs.specs.Seen.{ready, state, Ended}
use Rattle.mlk_walk_state.specs.Scope.{is_entry, is_declared}
use Rattle.mlk_machine.specs.Jobs.{job_numbered, count_held, is_listed}
use Rattle.mlk_machine.specs.Systems.{jobs_in}
use Rattle.mlk_machine.specs.Laws.{IsMoment}
use Rattle.mlk_machine.proofs.RunLemmas.{replays_are_runs}
use Rattle.mlk_machine_view.specs.Clashes.{touches_clash, clash, clashes_with, clashes}
use Rattle.mlk_machine_view.specs.Printed.{job_line, clash_lines, waits_lines, ring_text, system_text}
use Rattle.mlk_machine_view.proofs.ClashLemmas.{clash_is_tested}
use Rattle.mlk_check.specs.Theorem.{AreSafe, KeepsRules}
use Rattle.mlk_check.specs.Replays.{ClashFreely, SafeIsShown, AreNamed, ReplaysAreSafe}
use Rattle.mlk_check.proofs.Endings.{has_ended}

-- jobs by their numbers
module _ (k : ℕ) where
  its_number : (jobs : List Job) (j : Job) → job_numbered k jobs ≡ Some j → Among j jobs × (j.number ≡ k)
  its_number [] j h = absurd (cc)
  its_number (i ∷ jobs) j h = elim (cases_Bool (i.number == k)) [
    | inl t ↦
        let e : Some i ≡ Some j = rw t at h in
        let same : j ≡ i = cc in (inl same, ap (λ (x : Job). x.number) same ∙ eqb-true i.number k t)
    | inr t ↦
        let e : job_numbered k jobs ≡ Some j = rw t at h in
        let r = its_number jobs j e in (inr r.0, r.1)
  ]

it_stands : (o : Option Job) (t : Touch) → option_and_then ready o ≡ Some t → (j : Job) × (o ≡ Some j) × (ready j ≡ Some t)
it_stands None t h = absurd (cc)
it_stands (Some j) t h = (j, refl, h)

none : (n : ℕ) → (0 < n → ⊥) → n ≡ 0
none zero h = refl
none (suc n) h = absurd (h (omega arith))

-- clashes
without_pairs : (j : Job) (others : List Job) → ((i : Job) → Among i others → clash j i ≡ false) → clashes_with j others ≡ []
without_pairs j [] h = refl
without_pairs j (i ∷ others) h = rw (h i (inl refl)) (without_pairs j others (λ x a. h x (inr a)))

without_clashes : (jobs : List Job) → ((i j : Job) → Among i jobs → Among j jobs → clash i j ≡ false) → clashes jobs ≡ []
without_clashes [] h = refl
without_clashes (j ∷ jobs) h =
    ap (λ ps. ps ++ clashes jobs) (without_pairs j jobs (λ i a. h j i (inl refl) (inr a)))
    ∙ without_clashes jobs (λ x y a b. h x y (inr a) (inr b))

apart_by : (i j : Job) (t u : Touch) → i.number ≢ j.number → ready i ≡ Some t → ready j ≡ Some u → clash i j ≡ false
    → touches_clash t u ≡ false
unfolding clash
apart_by i j t u d one other h = let e = rw (ne_eqb i.number j.number d, one, other) at h in e

module _ (rules : RuleLists) (routines : List RoutineTree) (jobs : List Job) (safe : AreSafe rules jobs) where
  freely : (i j : Job) → Among i jobs → Among j jobs → clash i j ≡ true → ClashFreely rules i j
  freely i j a b t = let c = (clash_is_tested i j).0 t in (c, safe.clashes i j a b c)

  no_two : FreesNoReads rules → (i j : Job) → Among i jobs → Among j jobs → clash i j ≡ false
  no_two locked i j a b = false_from_ne_true (clash i j) (λ c. safe.no_clash locked i j a b ((clash_is_tested i j).0 c))

  shown_apart : FreesNoReads rules → (k n : ℕ) (t u : Touch) → k ≢ n → option_and_then ready (job_numbered k jobs) ≡ Some t
      → option_and_then ready (job_numbered n jobs) ≡ Some u → touches_clash t u ≡ false
  shown_apart locked k n t u d one other =
      let i = it_stands (job_numbered k jobs) t one in
      let j = it_stands (job_numbered n jobs) u other in
      let a = its_number k jobs i.0 i.1 in
      let b = its_number n jobs j.0 j.1 in
      apart_by i.0 j.0 t u (λ e. d (sym a.1 ∙ e ∙ b.1)) i.2 j.2 (no_two locked i.0 j.0 a.0 b.0)

  nothing_held : (k : ℕ) (j : Job) → job_numbered k jobs ≡ Some j → state routines j ≡ Ended
      → (n : LockName) → count_held n (job_numbered k jobs) ≡ 0
  nothing_held k j h e n =
      ap (count_held n) h
      ∙ none (count_held n (Some j)) (λ holds. safe.all_end_empty j (its_number k jobs j h).0 (has_ended routines j e) n holds)

  as_text : system_text routines jobs
      ≡ flat (job_line routines) jobs ++ (clash_lines jobs ++ (waits_lines jobs ++ line (codes "ring ") (codes "no")))
  as_text =
      ap (λ (b : Bool). flat (job_line routines) jobs ++ (clash_lines jobs ++ (waits_lines jobs ++ line (codes "ring ") (ring_text b))))
      safe.no_ring.tested

pub safe_is_shown : SafeIsShown
safe_is_shown rules routines jobs safe = record {
  clash_freely = freely rules routines jobs safe;
  none_clash = no_two rules routines jobs safe;
  no_pairs = λ locked. without_clashes jobs (no_two rules routines jobs safe locked);
  apart = shown_apart rules routines jobs safe;
  no_ring = safe.no_ring.tested;
  none_held = nothing_held rules routines jobs safe;
  printed = as_text rules routines jobs safe;
}

-- the listed entries are the declared ones
turned : (a b : ℕ) → (a == b) ≡ (b == a)
turned a b = grind arith

module _ (routines : List RoutineTree) (e : EntryId) where
  same_test : (d : EntryId) (o : Option EntryId) → Some d ≡ o → ((d.routine == e.routine) && (d.line == e.line)) ≡ is_entry e o
  same_test d None h = absurd (cc)
  same_test d (Some f) h =
      let same : d ≡ f = cc in
      ap (λ b. b && (d.line == e.line)) (turned d.routine e.routine)
      ∙ ap (λ b. (e.routine == d.routine) && b) (turned d.line e.line)
      ∙ ap (λ (x : EntryId). is_entry e (Some x)) same

  is_named : (texts : List (List ℕ)) (entries : List EntryId) → AreNamed routines texts entries
      → is_listed entries e ≡ is_declared routines texts e
  is_named [] [] h = refl
  is_named [] (d ∷ entries) h = absurd (cc)
  is_named (t ∷ texts) [] h = absurd (cc)
  is_named (t ∷ texts) (d ∷ entries) h =
      let one : Some d ≡ entry_by routines t = cc in
      let others : map Some entries ≡ map (entry_by routines) texts = cc in
      ap (λ b. b || is_listed entries e) (same_test d (entry_by routines t) one)
      ∙ ap (λ b. is_entry e (entry_by routines t) || b) (is_named texts entries others)

at_any_moment : (program : List Routine) (rules : RuleLists) (blocks : List EntryCert) (entries : List EntryId) (jobs : List Job)
    → KeepsRules (map routine_of program) rules blocks → AreNamed (map routine_of program) rules.entries entries
    → IsMoment program entries jobs → AreSafe rules jobs
at_any_moment program rules blocks entries jobs keeps named at =
    let P : (EntryId → Bool) → Type 0 = λ d. after (machine (map routine_of program) d) at.0 [] ≡ Ok jobs in
    keeps.all_jobs at.0 jobs (subst P (λ i e. is_named (map routine_of program) e rules.entries entries named i) at.1)

pub replays_are_safe : ReplaysAreSafe
replays_are_safe = record {
  at_moments = at_any_moment;
  of_files = λ program rules blocks entries bytes s keeps named file.
      safe_is_shown rules (map routine_of program) (jobs_in s) (at_any_moment program rules blocks entries (jobs_in s) keeps named
      (replays_are_runs.of_file program entries bytes s file));
}
