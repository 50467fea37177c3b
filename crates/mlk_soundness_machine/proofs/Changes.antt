-- Changes of locals.
use Rattle.std.proofs.Common.{◌≡◌, ℕ, true, false, List, [], ◌∷◌, drop, Some, None, refl, sym, ap, subst, ⊎_elim, inl, inr}
use Rattle.std.specs.Prelude.{◌||◌, ◌⊎◌, bytes_eq}
use Rattle.std.specs.List.{list_all}
use Rattle.std.proofs.lemmas.Bool.{cases_Bool, or_cases, or_left, and_parts}
use Rattle.mlk_cert_parts.specs.declared.names.NameSet.{NameSet}
use Rattle.mlk_cert_parts.specs.declared.names.NameSet.TheVariants.{Only, AllBut}
use Rattle.mlk_cert_parts.specs.declared.names.Own.{Own}
use Rattle.mlk_syntax.specs.Trees.{RoutineTree}
use Rattle.mlk_machine_jobs.specs.Bindings.{look, put_value, same_cell}
use Rattle.mlk_machine_jobs.specs.Tasks as task
use Rattle.mlk_machine_jobs.specs.Tasks.{Task, Job}
use Rattle.mlk_machine_jobs.specs.Choices.{dropped, doing, stored}
use Rattle.mlk_walk_state.specs.declared.state.State.{State}
use Rattle.mlk_walk_state.specs.Scope.{Scope}
use Rattle.mlk_walk_state.specs.Names.{has, have, is_own, may_change}
use Rattle.mlk_walk_state.specs.Terms.{mention}
use Rattle.mlk_walk_state.proofs.NameLaws.{all_but_allows}
use Rattle.mlk_calls.specs.Changes.{changed_state, change_fault}
use Rattle.mlk_machine_laws.proofs.Killing.{same_is}
use Rattle.mlk_soundness_machine.specs.Described.{World, Level, Slot, Bare, IsWorld, idle, Describes}
use Rattle.mlk_soundness_machine.proofs.Reading.{differs, name_is, name_self}
use Rattle.mlk_soundness_machine.proofs.Worlds.{change_law, drop_law}
use Rattle.mlk_soundness_machine.proofs.Steps.{done, unasked, of_value, of_last}
use Rattle.mlk_soundness_machine.proofs.Values.{Safe, Fits, plain_step}

-- what an allowed change implies
pub record Allowed (sc : Scope) (names : List NameSet) (s : State) : Type 0 where
  pub unheld : mention names s.case.held ≡ false
  pub may : (n : List ℕ) → have names n ≡ true → (is_own s.case.own n || have sc.summary.mods n) ≡ true

all_may : (own : List Own) (mods names : List NameSet) → list_all (may_change own mods) names ≡ true → (n : List ℕ) → have names n ≡ true → (is_own own n || have mods n) ≡ true
unfolding have
all_may own mods [] h n k = differs false k refl
all_may own mods (x ∷ names) h n k =
    let p = and_parts (may_change own mods x) (list_all (may_change own mods) names) h in
    ⊎_elim (λ u. one x p.0 u) (λ u. all_may own mods names p.1 n u) (or_cases (has x n) (have names n) k)
  where
    one : (x : NameSet) → may_change own mods x ≡ true → has x n ≡ true → (is_own own n || have mods n) ≡ true
    one (Only m) p u = let z : m ≡ n = name_is m n u in subst (λ y. (is_own own y || have mods y) ≡ true) z p
    one (AllBut others) p u = all_but_allows own mods others n p u

pub allowed : (sc : Scope) (names : List NameSet) (s : State) → change_fault sc names s ≡ None → Allowed sc names s
allowed sc names s h =
    ⊎_elim
    (λ (u : mention names s.case.held ≡ true). let z : Some _ ≡ None = (rw u at h) in cc)
    (λ (u : mention names s.case.held ≡ false).
    ⊎_elim
    (λ (v : list_all (may_change s.case.own sc.summary.mods) names ≡ true). record { unheld = u; may = all_may s.case.own sc.summary.mods names v })
    (λ (v : list_all (may_change s.case.own sc.summary.mods) names ≡ false). let z : Some _ ≡ None = (rw (u, v) at h) in cc)
    (cases_Bool (list_all (may_change s.case.own sc.summary.mods) names)))
    (cases_Bool (mention names s.case.held))

have_one : (name n : List ℕ) → have (Only name ∷ []) n ≡ true → name ≡ n
unfolding have
have_one name n h = ⊎_elim (λ u. name_is name n u) (λ u. differs false u refl) (or_cases (bytes_eq name n) false h)

have_it : (name : List ℕ) → have (Only name ∷ []) name ≡ true
unfolding have
have_it name = or_left (bytes_eq name name) false (name_self name)

module _ (routines : List RoutineTree) (sc : Scope) (w : World) (b : Level) (k : IsWorld sc w) (slots : List Slot) (n : ℕ) (ts : List Task) (s : State)
    (name : List ℕ) (h : Allowed sc (Only name ∷ []) s) where
  store_law : (j : Job) (v : List ℕ) → Describes sc w b slots s (idle j) → Describes sc w b slots (changed_state (Only name ∷ []) s) (idle (stored name v j))
  store_law j v d = change_law sc w b slots s (idle j) d k (Only name ∷ []) (put_value (look j.bindings name) v j.cells)
      (λ e. ⊎_elim
      (λ (u : same_cell (look j.bindings name) e ≡ true). inr (name, have_it name, same_is (look j.bindings name) e u))
      (λ (u : same_cell (look j.bindings name) e ≡ false). inl (rw u refl))
      (cases_Bool (same_cell (look j.bindings name) e)))
      h.unheld h.may

  pub store : (v : List ℕ) → Fits routines sc w b slots n ts (changed_state (Only name ∷ []) s) → Fits routines sc w b slots n (task.Store name v ∷ ts) s
  store v f j d tasks = plain_step routines sc w b slots n ts s (task.Store name v) refl j tasks (λ free c.
      unasked (Safe routines sc w b n) c _ (done (Safe routines sc w b n) (doing ts (stored name v j)) (f (doing ts (stored name v j)) (store_law j v d) refl)))

  pub store_any : Fits routines sc w b slots n ts (changed_state (Only name ∷ []) s) → Fits routines sc w b slots n (task.StoreAny name ∷ ts) s
  store_any f j d tasks = plain_step routines sc w b slots n ts s (task.StoreAny name) refl j tasks (λ free c.
      of_value (Safe routines sc w b n) c _ (λ v. done (Safe routines sc w b n) (doing ts (stored name v j)) (f (doing ts (stored name v j)) (store_law j v d) refl)))

  pub store_last : Fits routines sc w b slots n ts (changed_state (Only name ∷ []) s)
      → (j : Job) (v : List ℕ) (more : List (List ℕ)) → Describes sc w b (Bare None ∷ slots) s (idle j) → j.values ≡ v ∷ more → j.tasks ≡ task.StoreLast name ∷ ts → Safe routines sc w b n j
  store_last f j v more d e tasks = plain_step routines sc w b slots n ts s (task.StoreLast name) refl j tasks (λ free c.
      unasked (Safe routines sc w b n) c _ (of_last (Safe routines sc w b n) j.values _ (λ u rest eu.
      done (Safe routines sc w b n) (doing ts (stored name u (dropped 1 j)))
      (f (doing ts (stored name u (dropped 1 j)))
      (store_law (dropped 1 j) u (subst (λ z. Describes sc w b slots s (record (idle j) { values = z })) (sym (ap (λ z. drop 1 z) e)) (drop_law sc w b None slots s (idle j) d v more e))) refl))))
