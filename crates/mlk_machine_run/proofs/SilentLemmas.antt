-- Steps that a job makes by itself.
use Rattle.std.proofs.Common.{◌≡◌, ◌∙◌, Bool, true, false, List, [], ◌∷◌, Ok, Err, refl, sym, ap}
use Rattle.std.specs.List.{list_all}
use Rattle.std.proofs.lemmas.Bool.{false≢true}
use Rattle.mlk_names.specs.declared.lock_name.LockName.{LockName}
use Rattle.mlk_machine_locks.specs.declared.refusal.Refusal.{Refusal}
use Rattle.mlk_machine_locks.specs.declared.refusal.Refusal.TheVariants.{NotEnabled, BadChoice}
use Rattle.mlk_syntax.specs.Trees.{RoutineTree}
use Rattle.mlk_machine_jobs.specs.declared.choice.Choice.TheVariants as choice
use Rattle.mlk_machine_jobs.specs.Tasks as task
use Rattle.mlk_machine_jobs.specs.Tasks.{Task, Job}
use Rattle.mlk_machine_jobs.specs.Advance.{advance}
use Rattle.mlk_machine_jobs.specs.Runs.{go}
use Rattle.mlk_machine_jobs.specs.Seen.{asks, done, state_in, state, silent_step}
use Rattle.mlk_machine_run.specs.Frames.{claimed_in}
use Rattle.mlk_machine_run.specs.Silent.{is_shown}

done_rests : (routines : List RoutineTree) (j : Job) (b : Bool) → silent_step routines j (done b) ≡ Err NotEnabled
done_rests routines j true = refl
done_rests routines j false = refl

pub shown_rests : (routines : List RoutineTree) (j : Job) (ts : List Task) → is_shown ts ≡ true
    → silent_step routines j (state_in routines j ts) ≡ Err NotEnabled
shown_rests routines j [] h = done_rests routines j j.stopped
shown_rests routines j (task.DoTouch touch ∷ ts) h = refl
shown_rests routines j (task.Claim names timed ∷ ts) h = refl
shown_rests routines j (task.Release names ∷ ts) h = refl
shown_rests routines j (task.ReleaseAll ∷ ts) h = refl
shown_rests routines j (t ∷ ts) h = absurd (false≢true h)

hidden : (routines : List RoutineTree) (j : Job) (ts : List Task) → is_shown ts ≡ false
    → state_in routines j ts ≡ asks (advance routines (λ n. true) choice.None j ts)
hidden routines j [] h = absurd (false≢true (sym h))
hidden routines j (task.DoTouch touch ∷ ts) h = absurd (false≢true (sym h))
hidden routines j (task.Claim names timed ∷ ts) h = absurd (false≢true (sym h))
hidden routines j (task.Release names ∷ ts) h = absurd (false≢true (sym h))
hidden routines j (task.ReleaseAll ∷ ts) h = absurd (false≢true (sym h))
hidden routines j (t ∷ ts) h = refl

stuck_rests : (routines : List RoutineTree) (j : Job) (why : Refusal)
    → silent_step routines j (asks (Err why)) ≡ Err NotEnabled
stuck_rests routines j BadChoice = refl
stuck_rests routines j why = refl

pub hidden_made : (routines : List RoutineTree) (j i : Job) → is_shown j.tasks ≡ false
    → go routines (λ n. true) choice.None j ≡ Ok i → silent_step routines j (state routines j) ≡ Ok i
hidden_made routines j i h e = ap (silent_step routines j) (hidden routines j j.tasks h ∙ ap asks e) ∙ e

pub hidden_rests : (routines : List RoutineTree) (j : Job) (why : Refusal) → is_shown j.tasks ≡ false
    → go routines (λ n. true) choice.None j ≡ Err why → silent_step routines j (state routines j) ≡ Err NotEnabled
hidden_rests routines j why h e =
    ap (silent_step routines j) (hidden routines j j.tasks h ∙ ap asks e) ∙ stuck_rests routines j why

pub all_free : (names : List LockName) → list_all (λ n. true) names ≡ true
all_free [] = refl
all_free (n ∷ names) = all_free names

-- no claim is next
pub hidden_claims : (ts : List Task) → is_shown ts ≡ false → claimed_in ts ≡ []
hidden_claims [] h = refl
hidden_claims (task.Claim names timed ∷ ts) h = absurd (false≢true (sym h))
hidden_claims (t ∷ ts) h = refl
