-- Which names are shared.
use Rattle.std.proofs.Common.{◌≡◌, ℕ, Bool, true, false, List, ◌++◌, refl, sym, ap, ◌∙◌}
use Rattle.std.specs.Prelude.{◌&&◌, ◌||◌, not}
use Rattle.std.proofs.lemmas.List.Folds.{list_any-append}
use Rattle.mlk_syntax.specs.Trees.{RoutineTree}
use Rattle.mlk_cert_parts.specs.declared.names.Own.{Own}
use Rattle.mlk_program.specs.Program.{is_shared, is_shared_in}
use Rattle.mlk_program.proofs.SharingCalls.{calls-share}
use Rattle.mlk_walk_state.specs.Laws.{SharesByOwn}
use Rattle.mlk_walk_state.specs.Names.{has, is_own}

-- names that are own, or count as own
pub own_both : (more own : List Own) (name : List ℕ) → (is_own more name || is_own own name) ≡ is_own (more ++ own) name
own_both more own name = sym (list_any-append (λ (o : Own). has o.names name) more own)

pub own_first : (more own : List Own) (name : List ℕ) → is_own more name ≡ true → true ≡ is_own (more ++ own) name
own_first more own name h = sym (ap (λ b. b || is_own own name) h) ∙ own_both more own name

pub own_after : (more own : List Own) (name : List ℕ) → is_own more name ≡ false → is_own own name ≡ is_own (more ++ own) name
own_after more own name h = sym (ap (λ b. b || is_own own name) h) ∙ own_both more own name

-- what depends on whether a name is own
not_shared : (a b : Bool) → (a && true) ≡ false → (a && b) ≡ false
not_shared true b h = absurd (cc h)
not_shared false b h = refl

pub shares_by_own : (routines : List RoutineTree) → SharesByOwn routines
shares_by_own routines = record {
  by_own = λ e own more name same. ap (λ b. is_shared routines name && (not b || is_shared_in routines e name)) same;
  nowhere = λ caller callee own other name none h.
      let k : (is_shared routines name && true) ≡ false = rw none at h in
      not_shared (is_shared routines name) (not (is_own own name) || is_shared_in routines caller name) k;
  passed = λ p e own name here has none. rw ((calls-share routines).passed p name here has, none) refl;
  filled = λ p e own formal here has.
      let counted = (calls-share routines).counted p e formal here has in
      rw ((calls-share routines).filled e formal counted, counted) (or_true (not (is_own own formal)));
}
  where
    or_true : (b : Bool) → (b || true) ≡ true
    or_true true = refl
    or_true false = refl
