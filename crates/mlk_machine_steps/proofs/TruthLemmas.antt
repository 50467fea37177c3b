-- Steps by the truth of the last value.
use Rattle.std.proofs.Common.{◌≡◌, ◌∙◌, ℕ, Bool, true, false, List, [], ◌∷◌, Some, None, Ok, Err, refl, sym, ap}
use Rattle.std.specs.Prelude.{Option, slice_get}
use Rattle.mlk_machine_locks.specs.declared.refusal.Refusal.{Refusal}
use Rattle.mlk_machine_locks.specs.declared.refusal.Refusal.TheVariants.{NotEnabled}
use Rattle.mlk_machine_locks.specs.Systems.{and_then}
use Rattle.mlk_syntax.specs.ExprTrees.{Tree, Choices}
use Rattle.mlk_machine_jobs.specs.declared.choice.Choice.{Choice}
use Rattle.mlk_machine_jobs.specs.declared.choice.Choice.TheVariants as choice
use Rattle.mlk_machine_jobs.specs.Tasks.{Task, Job}
use Rattle.mlk_numbers.specs.Operators.{truth_of_text}
use Rattle.mlk_machine_jobs.specs.Choices.{Stepped, without_choice, with_truth, with_last, truth_or_asked, by_truth, doing, dropped}
use Rattle.mlk_machine_jobs.specs.Lines.{chosen}
use Rattle.mlk_machine_steps.specs.Truths.{truth_chosen, truth_known, truth_or, step_truth, part_chosen}

pub no_truth : (c : Choice) (vs : List (List ℕ)) → None ≡ slice_get vs 0 → step_truth c vs ≡ Err NotEnabled
no_truth c [] h = refl
no_truth c (v ∷ vs) h = absurd (cc)

pub the_truth : (c : Choice) (vs : List (List ℕ)) (v : List ℕ) → Some v ≡ slice_get vs 0
    → step_truth c vs ≡ truth_or c (truth_of_text v)
the_truth c [] v h = absurd (cc)
the_truth c (w ∷ vs) v h = let e : Some v ≡ Some w = h in let i : v ≡ w = cc in rw i refl

known_so : (c : Choice) (t : Bool) (f : Bool → Stepped) (g : Bool → Job) → ((t : Bool) → f t ≡ Ok (g t))
    → without_choice c (f t) ≡ and_then (λ t. Ok (g t)) (truth_known c t)
known_so choice.None t f g h = h t
known_so (choice.Value value) t f g h = ap (without_choice (choice.Value value)) (h t)
known_so (choice.Truth truth) t f g h = ap (without_choice (choice.Truth truth)) (h t)

chosen_so : (c : Choice) (f : Bool → Stepped) (g : Bool → Job) → ((t : Bool) → f t ≡ Ok (g t))
    → with_truth c f ≡ and_then (λ t. Ok (g t)) (truth_chosen c)
chosen_so choice.None f g h = refl
chosen_so (choice.Value value) f g h = refl
chosen_so (choice.Truth truth) f g h = h truth

known_or_chosen : (c : Choice) (o : Option Bool) (f : Bool → Stepped) (g : Bool → Job) → ((t : Bool) → f t ≡ Ok (g t))
    → truth_or_asked c o f ≡ and_then (λ t. Ok (g t)) (truth_or c o)
known_or_chosen c None f g h = chosen_so c f g h
known_or_chosen c (Some t) f g h = known_so c t f g h

in_values : (c : Choice) (vs : List (List ℕ)) (f : Bool → Stepped) (g : Bool → Job) → ((t : Bool) → f t ≡ Ok (g t))
    → with_last vs (λ v. truth_or_asked c (truth_of_text v) f) ≡ and_then (λ t. Ok (g t)) (step_truth c vs)
in_values c [] f g h = refl
in_values c (v ∷ vs) f g h = known_or_chosen c (truth_of_text v) f g h

pub by_truth_in : (c : Choice) (j : Job) (f : Bool → Job → Job)
    → by_truth c j (λ t i. Ok (f t i)) ≡ and_then (λ t. Ok (f t (dropped 1 j))) (step_truth c j.values)
by_truth_in c j f = in_values c j.values (λ t. Ok (f t (dropped 1 j))) (λ t. f t (dropped 1 j)) (λ t. refl)

chosen_is : (value : Tree) (others : Choices) (ts : List Task) (t : Bool) (j : Job)
    → chosen value others ts t j ≡ Ok (doing (part_chosen value others t ∷ ts) j)
chosen_is value others ts true j = refl
chosen_is value others ts false j = refl

pub chosen_in : (c : Choice) (j : Job) (value : Tree) (others : Choices) (ts : List Task)
    → by_truth c j (chosen value others ts)
    ≡ and_then (λ t. Ok (doing (part_chosen value others t ∷ ts) (dropped 1 j))) (step_truth c j.values)
chosen_in c j value others ts =
    in_values c j.values (λ t. chosen value others ts t (dropped 1 j))
    (λ t. doing (part_chosen value others t ∷ ts) (dropped 1 j)) (λ t. chosen_is value others ts t (dropped 1 j))

-- from what a step did with the truth to what the definition says of it
pub by_answer : (c : Choice) (vs : List (List ℕ)) (t : Bool) (g : Bool → Job) (answer : Stepped) (i : Job)
    → answer ≡ and_then (λ t. Ok (g t)) (step_truth c vs) → step_truth c vs ≡ Ok t → i ≡ g t → answer ≡ Ok i
by_answer c vs t g answer i h e k = h ∙ ap (and_then (λ t. Ok (g t))) e ∙ ap Ok (sym k)

pub by_refusal : (c : Choice) (vs : List (List ℕ)) (why : Refusal) (g : Bool → Job) (answer : Stepped)
    → answer ≡ and_then (λ t. Ok (g t)) (step_truth c vs) → step_truth c vs ≡ Err why → answer ≡ Err why
by_refusal c vs why g answer h e = h ∙ ap (and_then (λ t. Ok (g t))) e
