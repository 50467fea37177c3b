-- The frame that receives the value of a QUIT.
use Rattle.std.proofs.Common.{◌≡◌, true, false, List, [], ◌∷◌, refl, sym, ap}
use Rattle.std.proofs.lemmas.Bool.{false≢true}
use Rattle.mlk_machine_jobs.specs.Tasks.{Task, Job, EndFrame, AwaitsValue}
use Rattle.mlk_machine_jobs.specs.Choices.{doing, dropped}
use Rattle.mlk_machine_jobs.specs.Lines.{answered}
use Rattle.mlk_machine_jobs.specs.Answering.{keeps_value, value_kept}

pub kept_answer : (j : Job) (ts us : List Task) → keeps_value ts ≡ true → us ≡ value_kept ts → doing us j ≡ answered j ts
kept_answer j [] us h e = absurd (false≢true h)
kept_answer j (EndFrame (AwaitsValue test) back next routine ∷ ts) us h e = ap (λ (z : List Task). doing z j) e
kept_answer j (t ∷ ts) us h e = absurd (false≢true h)

pub dropped_answer : (j : Job) (ts us : List Task) → keeps_value ts ≡ false → us ≡ value_kept ts
    → doing us (dropped 1 j) ≡ answered j ts
dropped_answer j [] us h e = ap (λ (z : List Task). doing z (dropped 1 j)) e
dropped_answer j (EndFrame (AwaitsValue test) back next routine ∷ ts) us h e = absurd (false≢true (sym h))
dropped_answer j (t ∷ ts) us h e = ap (λ (z : List Task). doing z (dropped 1 j)) e

-- the job's present tasks do not matter
pub answered_again : (j : Job) (us ts : List Task) → answered (doing us j) ts ≡ answered j ts
answered_again j us [] = refl
answered_again j us (EndFrame (AwaitsValue test) back next routine ∷ ts) = refl
answered_again j us (t ∷ ts) = refl
