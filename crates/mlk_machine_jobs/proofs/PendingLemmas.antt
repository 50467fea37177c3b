-- What is pending, the last one first.
use Rattle.std.proofs.Common.{◌≡◌, ℕ, Bool, true, false, List, [], ◌∷◌, ◌++◌, suc, ◌-◌, ◌<◌, ◌≤◌, length, take, get_or, map, reverse, refl, sym, ap, ◌∙◌, arith, take-suc, append_assoc}
use Rattle.std.proofs.lemmas.List.{reverse-append, map-append, take_all}
use Rattle.mlk_machine_jobs.specs.declared.binding.Binder.{Binder}
use Rattle.mlk_machine_jobs.specs.declared.pending.Pending.{Pending}
use Rattle.mlk_machine_jobs.specs.declared.pending.Pending.TheVariants as pending
use Rattle.mlk_machine_jobs.specs.declared.task.Task.{Task as TaskIn}
use Rattle.mlk_machine_jobs.specs.Tasks.{Task}
use Rattle.mlk_machine_jobs.specs.Lines.{is_round, from_first, to_end, quit_from}
use Rattle.mlk_machine_jobs.specs.JobViews.{pending_of, tasks_of}
use Rattle.mlk_machine_jobs.specs.TaskViews.{task_of}

pub tasks_after : (binders : List Binder) (ps : List Pending) (p : Pending)
    → tasks_of binders (ps ++ p ∷ []) ≡ pending_of binders p ∷ tasks_of binders ps
tasks_after binders ps p =
    ap reverse (map-append (pending_of binders) ps (p ∷ []))
    ∙ reverse-append (map (pending_of binders) ps) (pending_of binders p ∷ [])

goes_on : (is : Task → Bool) (binders : List Binder) (all ps : List Pending) (p : Pending)
    → all ≡ ps ++ p ∷ [] → is (pending_of binders p) ≡ false
    → from_first is (tasks_of binders ps) ≡ from_first is (tasks_of binders all)
goes_on is binders all ps p e fails =
    sym (ap (λ l. from_first is (tasks_of binders l)) e ∙ ap (from_first is) (tasks_after binders ps p) ∙ rw fails refl)

stops_there : (is : Task → Bool) (binders : List Binder) (all ps : List Pending) (p : Pending)
    → all ≡ ps ++ p ∷ [] → is (pending_of binders p) ≡ true
    → tasks_of binders all ≡ from_first is (tasks_of binders all)
stops_there is binders all ps p e passes =
    let whole : tasks_of binders all ≡ pending_of binders p ∷ tasks_of binders ps =
    ap (tasks_of binders) e ∙ tasks_after binders ps p in
    whole ∙ sym (ap (from_first is) whole ∙ rw passes refl)

at_count : (ps : List Pending) (count : ℕ) (p : Pending) → 0 < count → count ≤ length ps
    → p ≡ get_or ps (count - 1) p → take count ps ≡ take (count - 1) ps ++ p ∷ []
at_count ps count p some within stands =
    let e : count ≡ suc (count - 1) = omega (arith, some) in
    ap (λ k. take k ps) e ∙ take-suc ps (count - 1) p (omega (arith, some, within))
    ∙ ap (λ q. take (count - 1) ps ++ q ∷ []) (sym stands)

-- What stays, counted from the front: `count` are left to look at, the last of which is `p`.
abbrev pub Left : (Task → Bool) → List Pending → ℕ → Type 0
Left is ps count = (binders : List Binder)
    → from_first is (tasks_of binders (take count ps)) ≡ from_first is (tasks_of binders ps)

pub left_first : (is : Task → Bool) (ps : List Pending) (count : ℕ) → count ≡ length ps → Left is ps count
left_first is ps count e binders = ap (λ l. from_first is (tasks_of binders l)) (take_all count ps (omega (arith, e)))

pub left_goes : (is : Task → Bool) (ps : List Pending) (count : ℕ) (p : Pending) (b : Bool) → 0 < count
    → count ≤ length ps → p ≡ get_or ps (count - 1) p → ((binders : List Binder) → b ≡ is (pending_of binders p))
    → b ≡ false → Left is ps count → Left is ps (count - 1)
left_goes is ps count p b some within stands is_b fails h binders =
    goes_on is binders (take count ps) (take (count - 1) ps) p (at_count ps count p some within stands)
    (sym (is_b binders) ∙ fails)
    ∙ h binders

pub left_stops : (is : Task → Bool) (ps : List Pending) (count : ℕ) (p : Pending) (b : Bool) → 0 < count
    → count ≤ length ps → p ≡ get_or ps (count - 1) p → ((binders : List Binder) → b ≡ is (pending_of binders p))
    → b ≡ true → Left is ps count
    → (binders : List Binder) → tasks_of binders (take count ps) ≡ from_first is (tasks_of binders ps)
left_stops is ps count p b some within stands is_b passes h binders =
    stops_there is binders (take count ps) (take (count - 1) ps) p (at_count ps count p some within stands)
    (sym (is_b binders) ∙ passes)
    ∙ h binders

pub left_none : (is : Task → Bool) (ps : List Pending) (count : ℕ) → count ≡ 0 → Left is ps count
    → (binders : List Binder) → tasks_of binders (take count ps) ≡ from_first is (tasks_of binders ps)
left_none is ps count e h binders =
    ap (λ k. tasks_of binders (take k ps)) e
    ∙ sym (ap (λ k. from_first is (tasks_of binders (take k ps))) e) ∙ h binders

-- one task is removed from the end of some, and is done first
pub one_pushed : (binders : List Binder) (ps : List Pending) (left all : List TaskIn) (t : TaskIn) (whole : List Task)
    → all ≡ left ++ t ∷ [] → map task_of all ++ tasks_of binders ps ≡ whole
    → map task_of left ++ tasks_of binders (ps ++ pending.Task t ∷ []) ≡ whole
one_pushed binders ps left all t whole e h =
    ap (λ (z : List Task). map task_of left ++ z) (tasks_after binders ps (pending.Task t))
    ∙ sym (append_assoc (map task_of left) (task_of t ∷ []) (tasks_of binders ps))
    ∙ ap (λ (z : List Task). z ++ tasks_of binders ps) (sym (map-append task_of left (t ∷ [])))
    ∙ ap (λ (z : List TaskIn). map task_of z ++ tasks_of binders ps) (sym e)
    ∙ h

-- the last one, if it is a round, and if it is not
whole : (ps : List Pending) (count : ℕ) (p : Pending) → count ≡ length ps → 0 < count → p ≡ get_or ps (count - 1) p
    → ps ≡ take (count - 1) ps ++ p ∷ []
whole ps count p e some stands =
    sym (take_all count ps (omega (arith, e))) ∙ at_count ps count p some (omega (arith, e)) stands

pub round_quit : (binders : List Binder) (ps : List Pending) (count : ℕ) (p : Pending) → count ≡ length ps → 0 < count
    → p ≡ get_or ps (count - 1) p → is_round (pending_of binders p) ≡ true
    → tasks_of binders (take (count - 1) ps) ≡ quit_from (tasks_of binders ps)
round_quit binders ps count p e some stands h =
    let all : tasks_of binders ps ≡ pending_of binders p ∷ tasks_of binders (take (count - 1) ps) =
    ap (tasks_of binders) (whole ps count p e some stands) ∙ tasks_after binders (take (count - 1) ps) p in
    sym (ap quit_from all ∙ rw h refl)

pub end_quit : (binders : List Binder) (ps : List Pending) (count : ℕ) (p : Pending) → count ≡ length ps → 0 < count
    → p ≡ get_or ps (count - 1) p → is_round (pending_of binders p) ≡ false
    → to_end (tasks_of binders ps) ≡ quit_from (tasks_of binders ps)
end_quit binders ps count p e some stands h =
    let all : tasks_of binders ps ≡ pending_of binders p ∷ tasks_of binders (take (count - 1) ps) =
    ap (tasks_of binders) (whole ps count p e some stands) ∙ tasks_after binders (take (count - 1) ps) p in
    ap to_end all ∙ sym (ap quit_from all ∙ rw h refl)

pub none_quit : (binders : List Binder) (ps : List Pending) → 0 ≡ length ps
    → tasks_of binders (take 0 ps) ≡ quit_from (tasks_of binders ps)
none_quit binders [] e = refl
none_quit binders (p ∷ ps) e = absurd (omega (arith, e))

pub no_tasks : (left : List TaskIn) (ts : List Task) → length left ≡ 0 → ts ≡ map task_of left ++ ts
no_tasks [] ts e = refl
no_tasks (t ∷ left) ts e = absurd (omega (arith, e))
