-- How many values lists of tasks need, and the effect of parts of a task on that.
use Rattle.std.proofs.Common.{◌≡◌, ◌∙◌, ℕ, ◌+◌, ◌-◌, ◌≤◌, Bool, true, false, List, [], ◌∷◌, ◌++◌, append_assoc, refl, sym, ap, subst, arith}
use Rattle.std.specs.Prelude.{◌||◌}
use Rattle.std.proofs.lemmas.Bool.{cases_Bool}
use Rattle.std.proofs.Common.{⊎_elim}
use Rattle.mlk_machine_jobs.specs.Tasks as task
use Rattle.mlk_machine_jobs.specs.Tasks.{Task, RunLines, RunCommands, Parameters, Forever, NextValue, FirstRound, LaterRound, EndBlock, EndFrame}
use Rattle.mlk_machine_jobs.specs.Lines.{is_end, is_round, is_lines, from_first, skipped, to_end, quit, quit_from}
use Rattle.mlk_machine_progress.specs.Progress.{uses, leaves, AreEnough}

-- the number of earlier computed values that tasks need
abbrev pub needs : List Task → ℕ
needs [] = 0
needs (t ∷ ts) = uses t + (needs ts - leaves t)

-- tasks by which what follows them may be skipped or quit, by themselves or by the tasks that replace them
abbrev pub may_leave : Task → Bool
may_leave (task.SkipIf test) = true
may_leave (task.Conditionally action block) = true
may_leave (RunLines lines) = true
may_leave (RunCommands commands block) = true
may_leave (Parameters v ps rest block) = true
may_leave (Forever rest block) = true
may_leave (NextValue v rest block) = true
may_leave (FirstRound v ps rest block) = true
may_leave (LaterRound v ps rest block) = true
may_leave (task.GoTo callee) = true
may_leave (task.GoIf callee) = true
may_leave task.QuitHere = true
may_leave task.QuitWithValue = true
may_leave t = false

-- what is left needs as many
pub record IsRest (ts : List Task) : Type 0 where
  pub skips : needs (skipped ts) ≡ needs ts
  pub ends : needs (to_end ts) ≡ needs ts

-- all that a task leaves is used later, and none of it is skipped
abbrev pub Fits : List Task → Type 0
Fits [] = Unit {0}
Fits (t ∷ ts) = (leaves t ≤ needs ts) × (may_leave t ≡ true → IsRest ts) × Fits ts

pub enough : (ts : List Task) → Fits ts → AreEnough (needs ts) ts
enough [] f = refl
enough (t ∷ ts) (l, r, f) =
    let e : leaves t + (needs ts - leaves t) ≡ needs ts = omega (arith, l) in
    (needs ts - leaves t, refl, subst (λ n. AreEnough n ts) (sym e) (enough ts f))

-- What is skipped or quit.
pub fits_from : (is : Task → Bool) (ts : List Task) → Fits ts → Fits (from_first is ts)
fits_from is [] f = tt
fits_from is (t ∷ ts) f =
    ⊎_elim (λ (u : is t ≡ true). rw u f) (λ (u : is t ≡ false). rw u (fits_from is ts f.2)) (cases_Bool (is t))

pub last_false : (a b c : Bool) → (a || b || c) ≡ false → c ≡ false
last_false false false c h = h
last_false false true c h = cc
last_false true b c h = cc

end_of_skipped : (ts : List Task) → to_end (skipped ts) ≡ to_end ts
end_of_skipped [] = refl
end_of_skipped (t ∷ ts) =
    ⊎_elim (λ (u : (is_round t || is_lines t || is_end t) ≡ true). rw u refl)
    (λ (u : (is_round t || is_lines t || is_end t) ≡ false).
    let z : is_end t ≡ false = last_false (is_round t) (is_lines t) (is_end t) u in rw (u, z) (end_of_skipped ts))
    (cases_Bool (is_round t || is_lines t || is_end t))

round_needs : (t : Task) (ts : List Task) → is_round t ≡ true → needs (t ∷ ts) ≡ needs ts
round_needs (Parameters v ps rest block) ts h = omega arith
round_needs (Forever rest block) ts h = omega arith
round_needs (NextValue v rest block) ts h = omega arith
round_needs (LaterRound v ps rest block) ts h = omega arith
round_needs t ts h = cc

pub quit_needs : (ts : List Task) → IsRest ts → needs (quit ts) ≡ needs ts
quit_needs ts r = go (skipped ts) r.skips (ap needs (end_of_skipped ts) ∙ r.ends)
  where
    go : (us : List Task) → needs us ≡ needs ts → needs (to_end us) ≡ needs ts → needs (quit_from us) ≡ needs ts
    go [] s e = s
    go (t ∷ us) s e =
        ⊎_elim (λ (u : is_round t ≡ true). rw u (sym (round_needs t us u) ∙ s)) (λ (u : is_round t ≡ false). rw u e) (cases_Bool (is_round t))

pub fits_quit : (ts : List Task) → Fits ts → Fits (quit ts)
fits_quit ts f = go (skipped ts) (fits_from _ ts f)
  where
    go : (us : List Task) → Fits us → Fits (quit_from us)
    go [] f = tt
    go (t ∷ us) f =
        ⊎_elim (λ (u : is_round t ≡ true). rw u f.2) (λ (u : is_round t ≡ false). rw u (fits_from is_end (t ∷ us) f)) (cases_Bool (is_round t))

-- Tasks that take `a` values to `b`, whatever is below and behind them.
pub record HasEffect (a b : ℕ) (xs : List Task) : Type 0 where
  pub fits : (m : ℕ) (ts : List Task) → Fits ts → needs ts ≡ b + m → Fits (xs ++ ts)
  pub needs : (m : ℕ) (ts : List Task) → Fits ts → needs ts ≡ b + m → needs (xs ++ ts) ≡ a + m

pub none : {a : ℕ} → HasEffect a a []
none = record { fits = λ m ts f e. f; needs = λ m ts f e. e }

pub one : (t : Task) (k : ℕ) {a b : ℕ} → may_leave t ≡ false → a ≡ k + uses t → b ≡ k + leaves t → HasEffect a b (t ∷ [])
one t k h u l = record {
  fits = λ m ts f e. (omega (arith, u, l, e), (λ z. let w : true ≡ false = sym z ∙ h in cc), f);
  needs = λ m ts f e. omega (arith, u, l, e);
}

pub both : {a b c : ℕ} {xs ys : List Task} → HasEffect a b xs → HasEffect b c ys → HasEffect a c (xs ++ ys)
both {xs = xs} {ys = ys} p q = record {
  fits = λ m ts f e. rw (append_assoc xs ys ts) (p.fits m (ys ++ ts) (q.fits m ts f e) (q.needs m ts f e));
  needs = λ m ts f e. rw (append_assoc xs ys ts) (p.needs m (ys ++ ts) (q.fits m ts f e) (q.needs m ts f e));
}

-- the same with more values below
pub above : (k : ℕ) {a b : ℕ} {xs : List Task} → HasEffect a b xs → HasEffect (k + a) (k + b) xs
above k p = record {
  fits = λ m ts f e. p.fits (k + m) ts f (omega (arith, e));
  needs = λ m ts f e. let z = p.needs (k + m) ts f (omega (arith, e)) in omega (arith, z);
}

-- the same, with equal counts
pub counted : {a b c d : ℕ} {xs : List Task} → HasEffect a b xs → a ≡ c → b ≡ d → HasEffect c d xs
counted {a = a} {d = d} {xs = xs} p e f = subst (λ n. HasEffect n d xs) e (subst (λ n. HasEffect a n xs) f p)
