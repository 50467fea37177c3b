-- Pairs of jobs, from one job on.
use Rattle.std.proofs.Common.{◌≡◌, ◌∙◌, ◌<◌, ◌+◌, ℕ, zero, suc, List, [], ◌∷◌, ◌++◌, length, map, drop, get_or, refl, sym, ap, arith, inl, inr, append_assoc}
use Rattle.std.specs.Prelude.{flat_map}
use Rattle.std.proofs.lemmas.Bool.{cases_Bool}
use Rattle.mlk_machine_jobs.specs.declared.job.Job.{Job as JobIn}
use Rattle.mlk_machine_jobs.specs.Tasks.{Job}
use Rattle.mlk_machine_jobs.specs.JobViews.{job_of}
use Rattle.mlk_machine_view.specs.Clashes.{clash, clashes_with, clashes}

from_here : (js : List JobIn) (i : ℕ) (j : JobIn) → i < length js → j ≡ get_or js i j → drop i js ≡ j ∷ drop (suc i) js
from_here [] i j l e = absurd (omega arith)
from_here (x ∷ js) zero j l e = ap (λ (y : JobIn). y ∷ js) (sym e)
from_here (x ∷ js) (suc i) j l e = from_here js i j (omega arith) e

next_here : (js : List JobIn) (i : ℕ) (j : JobIn) → i < length js → j ≡ get_or js i j → drop i js ≡ j ∷ drop (i + 1) js
next_here js i j l e =
    let m : suc i ≡ i + 1 = omega arith in from_here js i j l e ∙ ap (λ n. j ∷ drop n js) m

-- one more job
pub clashes_on : (js : List JobIn) (i : ℕ) (j : JobIn) (old new : List (ℕ × ℕ)) (later : List JobIn) → i < length js
    → j ≡ get_or js i j → later ≡ drop (i + 1) js → new ≡ old ++ clashes_with (job_of j) (map job_of later)
    → old ++ clashes (map job_of (drop i js)) ≡ clashes (map job_of js)
    → new ++ clashes (map job_of (drop (i + 1) js)) ≡ clashes (map job_of js)
clashes_on js i j old new later l e r n h =
    let rest : List Job = map job_of (drop (i + 1) js) in
    ap (λ (ps : List (ℕ × ℕ)). ps ++ clashes rest) (n
    ∙ ap (λ (is : List JobIn). old ++ clashes_with (job_of j) (map job_of is)) r)
    ∙ append_assoc old (clashes_with (job_of j) rest) (clashes rest)
    ∙ ap (λ (is : List JobIn). old ++ clashes (map job_of is)) (sym (next_here js i j l e))
    ∙ h

module _ (f : Job → List (ℕ × ℕ)) where
  pub pairs_on : (js : List JobIn) (i : ℕ) (j : JobIn) (old new whole : List (ℕ × ℕ)) → i < length js → j ≡ get_or js i j
      → new ≡ old ++ f (job_of j) → old ++ flat_map f (map job_of (drop i js)) ≡ whole
      → new ++ flat_map f (map job_of (drop (i + 1) js)) ≡ whole
  pairs_on js i j old new whole l e n h =
      let rest : List Job = map job_of (drop (i + 1) js) in
      ap (λ (ps : List (ℕ × ℕ)). ps ++ flat_map f rest) n
      ∙ append_assoc old (f (job_of j)) (flat_map f rest)
      ∙ ap (λ (is : List JobIn). old ++ flat_map f (map job_of is)) (sym (next_here js i j l e))
      ∙ h

with_parts : (j i : Job) (js : List Job) → clashes_with j (i ∷ js) ≡ clashes_with j (i ∷ []) ++ clashes_with j js
with_parts j i js = elim (cases_Bool (clash j i)) [
  | inl e ↦ rw e refl
  | inr e ↦ rw e refl
]

pub with_on : (j : Job) (js : List JobIn) (i : ℕ) (x : JobIn) (old new whole : List (ℕ × ℕ)) → i < length js
    → x ≡ get_or js i x → new ≡ old ++ clashes_with j (job_of x ∷ [])
    → old ++ clashes_with j (map job_of (drop i js)) ≡ whole → new ++ clashes_with j (map job_of (drop (i + 1) js)) ≡ whole
with_on j js i x old new whole l e n h =
    let rest : List Job = map job_of (drop (i + 1) js) in
    ap (λ (ps : List (ℕ × ℕ)). ps ++ clashes_with j rest) n
    ∙ append_assoc old (clashes_with j (job_of x ∷ [])) (clashes_with j rest)
    ∙ ap (λ (ps : List (ℕ × ℕ)). old ++ ps) (sym (with_parts j (job_of x) rest))
    ∙ ap (λ (is : List JobIn). old ++ clashes_with j (map job_of is)) (sym (next_here js i x l e))
    ∙ h
