-- Calls that are linked one after another.
use Rattle.std.proofs.Common.{◌≡◌, ◌<◌, ◌+◌, ⊎_elim, refl, sym, ap, subst, ◌∙◌, arith, ◌≤◌, take_all, ℕ, zero, suc, None, Some, Option, true, List, [], ◌∷◌, ◌++◌, take, drop, length, get_or, add-one, append_assoc, append-nil, take-append-drop}
use Rattle.std.specs.Prelude.{Contains, flat_map}
use Rattle.std.proofs.Math.Seq.{take-suc}
use Rattle.std.proofs.lemmas.Grind.{flat_map-append}
use Rattle.std.proofs.lemmas.List.Elements.{Contains-append_cases}
use Rattle.mlk_text.specs.declared.fault.Fault.{Fault}
use Rattle.mlk_syntax.specs.Trees.{RoutineTree}
use Rattle.mlk_program.specs.Program.{PlacedCall, call_fault, AreResolved, IsFirstFault, IsCallFault, shared_by}
use Rattle.mlk_program.specs.Program.{called_formals, takes, shared_with, fault_with, arity_fault}
use Rattle.mlk_program.specs.Found.{site_of, given_of}
use Rattle.mlk_program.specs.declared.call.CallSite.{CallSite}
use Rattle.mlk_program.specs.Linking.{Gains, Links, placed_at}
use Rattle.mlk_program.proofs.NameTables.{drop_at}
use Rattle.mlk_program.proofs.SharedNames.{gains_both, gains_none}

not_in_none : {A : Type 0} (x : A) → Contains [] x → ⊥
not_in_none x (k, less, is) = omega (arith, less)

resolved_both : (rs : List RoutineTree) (a b : List PlacedCall) → AreResolved rs a → AreResolved rs b → AreResolved rs (a ++ b)
resolved_both rs a b h k p c = ⊎_elim (h p) (k p) (Contains-append_cases a b p c)

pub links_none : (rs : List RoutineTree) (old : List (List ℕ)) → Links rs [] old old
links_none rs old = (λ p c. absurd (not_in_none p c), gains_none old)

pub links_both : (rs : List RoutineTree) (a b : List PlacedCall) (old mid new : List (List ℕ)) → Links rs a old mid
    → Links rs b mid new → Links rs (a ++ b) old new
links_both rs a b old mid new h k = (
  resolved_both rs a b h.0 k.0,
  subst (λ names. Gains names old new) (sym (flat_map-append (shared_by rs) a b))
      (gains_both (flat_map (shared_by rs) a) (flat_map (shared_by rs) b) old mid new h.1 k.1),
)

pub first_of_more : (rs : List RoutineTree) (a b : List PlacedCall) (f : Fault) → IsFirstFault rs a f → IsFirstFault rs (a ++ b) f
first_of_more rs a b f (before, after, p, is, fine, wrong) =
    (before, after ++ b, p, ap (λ x. x ++ b) is ∙ append_assoc before (p ∷ after) b, fine, wrong)

pub first_after : (rs : List RoutineTree) (a b : List PlacedCall) (f : Fault) → AreResolved rs a → IsFirstFault rs b f
    → IsFirstFault rs (a ++ b) f
first_after rs a b f good (before, after, p, is, fine, wrong) =
    (a ++ before, after, p, ap (λ x. a ++ x) is ∙ sym (append_assoc a before (p ∷ after)), resolved_both rs a before good fine, wrong)

-- a single call
pub first_alone : (rs : List RoutineTree) (p : PlacedCall) (f : Fault) → IsCallFault rs p f → IsFirstFault rs (p ∷ []) f
first_alone rs p f wrong = ([], [], p, refl, (λ q c. absurd (not_in_none q c)), wrong)

alone : {A : Type 0} (p q : A) → Contains (p ∷ []) q → p ≡ q
alone p q (zero, less, is) = is
alone p q (suc k, less, is) = absurd (omega (arith, less))

pub links_alone : (rs : List RoutineTree) (p : PlacedCall) (old new : List (List ℕ)) → call_fault rs p ≡ None
    → Gains (shared_by rs p) old new → Links rs (p ∷ []) old new
links_alone rs p old new fine h = (
  (λ q c. subst (λ r. call_fault rs r ≡ None) (alone p q c) fine),
  subst (λ names. Gains names old new) (sym (append-nil (shared_by rs p))) h,
)

-- the calls of a list's items, after one more was linked or refused
module _ {A : Type 0} (calls : A → List PlacedCall) (rs : List RoutineTree) (items : List A) (i : ℕ) (x : A)
    (low : i < length items) (is : x ≡ get_or items i x) where
  pub links_next : (old mid new : List (List ℕ)) → Links rs (flat_map calls (take i items)) old mid
      → Links rs (calls x) mid new → Links rs (flat_map calls (take (i + 1) items)) old new
  links_next old mid new h k =
      let step : take (i + 1) items ≡ take i items ++ x ∷ [] =
      rw (add-one) (take-suc items i x low ∙ ap (λ y. take i items ++ y ∷ []) (sym is)) in
      let parts : flat_map calls (take (i + 1) items) ≡ flat_map calls (take i items) ++ calls x =
      ap (flat_map calls) step ∙ flat_map-append calls (take i items) (x ∷ [])
      ∙ ap (λ more. flat_map calls (take i items) ++ more) (append-nil (calls x)) in
      subst (λ c. Links rs c old new) (sym parts) (links_both rs _ (calls x) old mid new h k)

  pub first_next : (old mid : List (List ℕ)) → Links rs (flat_map calls (take i items)) old mid → (f : Fault)
      → IsFirstFault rs (calls x) f → IsFirstFault rs (flat_map calls items) f
  first_next old mid h f wrong =
      let parts : flat_map calls items ≡ flat_map calls (take i items) ++ (calls x ++ flat_map calls (drop (i + 1) items)) =
      ap (flat_map calls) (sym (take-append-drop i items) ∙ ap (λ more. take i items ++ more) (drop_at items i x low is))
      ∙ flat_map-append calls (take i items) (x ∷ drop (i + 1) items) in
      subst (λ c. IsFirstFault rs c f) (sym parts)
      (first_after rs _ _ f h.0 (first_of_more rs (calls x) _ f wrong))

-- a call whose line accepts its actuals
pub call_linked : (rs : List RoutineTree) (r n : ℕ) (site : CallSite) (formals : Option (List (List ℕ)))
    (old new : List (List ℕ)) → called_formals rs r site.callee.now ≡ Some formals
    → takes formals (given_of site.actuals.now) ≡ true
    → Gains (shared_with (given_of site.actuals.now) (Some formals)) old new → Links rs (placed_at r n site) old new
call_linked rs r n site formals old new found fit h = links_alone rs (record { routine = r; line = n; call = site_of site }) old new
    (ap (fault_with (given_of site.actuals.now)) found ∙ ap arity_fault fit)
    (subst (λ o. Gains (shared_with (given_of site.actuals.now) o) old new) (sym found) h)

-- all of them are linked
pub links_all : {A : Type 0} (calls : A → List PlacedCall) (rs : List RoutineTree) (items : List A) (i : ℕ) → length items ≤ i
    → (old new : List (List ℕ)) → Links rs (flat_map calls (take i items)) old new → Links rs (flat_map calls items) old new
links_all calls rs items i past old new h = subst (λ xs. Links rs (flat_map calls xs) old new) (take_all i items past) h
