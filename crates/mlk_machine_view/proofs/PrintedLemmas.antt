-- A system's text, joined.
use Rattle.std.proofs.Common.{◌≡◌, ◌∙◌, ◌++◌, ◌+◌, ◌<◌, ℕ, suc, Bool, List, [], ◌∷◌, length, get_or, drop, map, refl, sym, ap, add-one, drop-cons, append_assoc}
use Rattle.std.specs.Prelude.{codes}
use Rattle.mlk_cert_lexemes.specs.Lists.{flat}
use Rattle.mlk_cert_lexemes.specs.Texts.{line}
use Rattle.mlk_machine_locks.specs.Laws.{has_ring_of}
use Rattle.mlk_syntax.specs.declared.routine.Routine.{Routine}
use Rattle.mlk_syntax.specs.Views.{routine_of}
use Rattle.mlk_machine_jobs.specs.declared.job.Job.{Job as JobIn}
use Rattle.mlk_machine_jobs.specs.JobViews.{job_of}
use Rattle.mlk_machine_jobs.specs.Runs.{seen}
use Rattle.mlk_machine_view.specs.Printed.{clash_lines, job_line, ring_text, system_text, waits_lines}
use Rattle.mlk_machine_view.specs.Lines.{line_of_job}

lines_of_jobs : (p : List Routine) (js : List JobIn)
    → flat (line_of_job p) js ≡ flat (job_line (map routine_of p)) (map job_of js)
lines_of_jobs p [] = refl
lines_of_jobs p (j ∷ js) = ap (λ t. line_of_job p j ++ t) (lines_of_jobs p js)

-- the line of one more job
next_here : (js : List JobIn) (i : ℕ) (j : JobIn) → i < length js → j ≡ get_or js i j → drop i js ≡ j ∷ drop (i + 1) js
next_here js i j h e = rw (add-one, drop-cons js i j h) (ap (λ y. y ∷ drop (suc i) js) (sym e))

pub line_on : (p : List Routine) (js : List JobIn) (i : ℕ) (j : JobIn) (old new whole : List ℕ) → i < length js
    → j ≡ get_or js i j → new ≡ old ++ line_of_job p j → old ++ flat (line_of_job p) (drop i js) ≡ whole
    → new ++ flat (line_of_job p) (drop (i + 1) js) ≡ whole
line_on p js i j old new whole l e n h =
    let rest : List ℕ = flat (line_of_job p) (drop (i + 1) js) in
    ap (λ (t : List ℕ). t ++ rest) n
    ∙ append_assoc old (line_of_job p j) rest
    ∙ ap (λ (is : List JobIn). old ++ flat (line_of_job p) is) (sym (next_here js i j l e))
    ∙ h

pub system_written : (p : List Routine) (js : List JobIn) (ring : Bool) (jobs clashing waiting all : List ℕ)
    → jobs ≡ flat (line_of_job p) js → clashing ≡ jobs ++ clash_lines (map job_of js)
    → waiting ≡ clashing ++ waits_lines (map job_of js) → ring ≡ has_ring_of seen (map job_of js)
    → all ≡ waiting ++ line (codes "ring ") (ring_text ring) → all ≡ system_text (map routine_of p) (map job_of js)
system_written p js ring jobs clashing waiting all e f g r h =
    rw (h, g, f, e, r, lines_of_jobs p js)
    (assoc (flat (job_line (map routine_of p)) (map job_of js)) (clash_lines (map job_of js)) (waits_lines (map job_of js))
    (line (codes "ring ") (ring_text (has_ring_of seen (map job_of js)))))
  where
    assoc : (a b c d : List ℕ) → ((a ++ b) ++ c) ++ d ≡ a ++ (b ++ (c ++ d))
    assoc [] [] c d = refl
    assoc [] (x ∷ b) c d = ap (λ t. x ∷ t) (assoc [] b c d)
    assoc (x ∷ a) b c d = ap (λ t. x ∷ t) (assoc a b c d)
