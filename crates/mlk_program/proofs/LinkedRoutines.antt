-- The calls of routines.
use Rattle.std.proofs.Common.{◌≡◌, ◌<◌, ◌≤◌, ◌+◌, refl, sym, ap, ◌∙◌, subst, arith, take_all, ℕ, suc, List, [], ◌∷◌, ◌++◌, map, take, drop, length, get_or, append_assoc, append-nil, length-take-le, le_of_lt}
use Rattle.std.specs.Prelude.{flat_map, bytes_eq}
use Rattle.std.specs.List.{list_any}
use Rattle.mlk_syntax.specs.Distinct.{AreDistinct}
use Rattle.std.proofs.lemmas.List.{length-map}
use Rattle.mlk_text.specs.declared.fault.Fault.{Fault}
use Rattle.mlk_syntax.specs.declared.routine.Routine.{Routine}
use Rattle.mlk_syntax.specs.Trees.{RoutineTree, Named_routine}
use Rattle.mlk_syntax.specs.Views.{routine_of}
use Rattle.mlk_program.specs.Entries.{name_of}
use Rattle.mlk_program.specs.Program.{calls_in, calls_from, calls_of, name_at, IsFirstFault, AreTooMany, IsProgram, is_shared}
use Rattle.mlk_program.specs.Tables.{trees}
use Rattle.mlk_program.specs.Linking.{Links, placed_in}
use Rattle.mlk_program.proofs.DistinctNames.{cut_trees, next_trees}
use Rattle.mlk_program.proofs.LinkedCalls.{links_both, first_of_more, first_after}
use Rattle.mlk_program.proofs.LinkedLines.{calls_flat}

calls_split : (k : ℕ) (a b : List RoutineTree) → calls_from k (a ++ b) ≡ calls_from k a ++ calls_from (k + length a) b
calls_split k [] b = ap (λ n. calls_from n b) (no_more k)
  where
    no_more : (n : ℕ) → n ≡ n + 0
    no_more n = omega (arith)
calls_split k (Named_routine name lines ∷ a) b = ap (λ more. calls_in k lines ++ more) (calls_split (suc k) a b)
    ∙ ap (λ n. calls_in k lines ++ (calls_from (suc k) a ++ calls_from n b)) (one_more k (length a))
    ∙ sym (append_assoc (calls_in k lines) (calls_from (suc k) a) (calls_from (k + suc (length a)) b))
  where
    one_more : (n m : ℕ) → suc n + m ≡ n + suc m
    one_more n m = omega (arith)

name_of_cut : (a b : List RoutineTree) (t : RoutineTree) → name_at (a ++ t ∷ b) (length a) ≡ name_of t
name_of_cut [] b t = refl
name_of_cut (x ∷ a) b t = name_of_cut a b t

-- routines before, and one more
module _ (rs : List RoutineTree) (routines : List Routine) (i : ℕ) (x : Routine) (low : i < length routines) (is : x ≡ get_or routines i x) where
  size : length (trees (take i routines)) ≡ i
  size = length-map (take i routines) routine_of ∙ length-take-le i routines (le_of_lt low)

  pub name_here : name_at (trees routines) i ≡ x.name
  name_here = ap (λ t. name_at t i) (cut_trees routines i x low is)
      ∙ ap (name_at (trees (take i routines) ++ routine_of x ∷ trees (drop (i + 1) routines))) (sym size)
      ∙ name_of_cut (trees (take i routines)) (trees (drop (i + 1) routines)) (routine_of x)

  own : (rest : List RoutineTree) → calls_from (0 + length (trees (take i routines))) (routine_of x ∷ rest)
      ≡ flat_map (placed_in i) x.lines.items ++ calls_from (suc i) rest
  own rest = ap (λ n. calls_from n (routine_of x ∷ rest)) (no_less (length (trees (take i routines))) ∙ size)
      ∙ ap (λ calls. calls ++ calls_from (suc i) rest) (calls_flat i x.lines.items)
    where
      no_less : (n : ℕ) → 0 + n ≡ n
      no_less n = omega (arith)

  pub routine_linked : (old mid new : List (List ℕ)) → Links rs (calls_of (trees (take i routines))) old mid
      → Links rs (flat_map (placed_in i) x.lines.items) mid new → Links rs (calls_of (trees (take (i + 1) routines))) old new
  routine_linked old mid new h k =
      let parts : calls_of (trees (take (i + 1) routines)) ≡ calls_of (trees (take i routines)) ++ flat_map (placed_in i) x.lines.items =
      ap calls_of (next_trees routines i x low is) ∙ calls_split 0 (trees (take i routines)) (routine_of x ∷ [])
      ∙ ap (λ more. calls_of (trees (take i routines)) ++ more) (own [] ∙ append-nil (flat_map (placed_in i) x.lines.items)) in
      subst (λ c. Links rs c old new) (sym parts) (links_both rs _ _ old mid new h k)

  pub routine_refused : (old mid : List (List ℕ)) → Links rs (calls_of (trees (take i routines))) old mid → (f : Fault)
      → IsFirstFault rs (flat_map (placed_in i) x.lines.items) f → IsFirstFault rs (calls_of (trees routines)) f
  routine_refused old mid h f wrong =
      let parts : calls_of (trees routines) ≡ calls_of (trees (take i routines))
      ++ (flat_map (placed_in i) x.lines.items ++ calls_from (suc i) (trees (drop (i + 1) routines))) =
      ap calls_of (cut_trees routines i x low is) ∙ calls_split 0 (trees (take i routines)) (routine_of x ∷ trees (drop (i + 1) routines))
      ∙ ap (λ more. calls_of (trees (take i routines)) ++ more) (own (trees (drop (i + 1) routines))) in
      subst (λ c. IsFirstFault rs c f) (sym parts)
      (first_after rs _ _ f h.0 (first_of_more rs (flat_map (placed_in i) x.lines.items) _ f wrong))

pub all_linked : (rs : List RoutineTree) (routines : List Routine) (i : ℕ) → length routines ≤ i → (old new : List (List ℕ))
    → Links rs (calls_of (trees (take i routines))) old new → Links rs (calls_of (trees routines)) old new
all_linked rs routines i past old new h = subst (λ xs. Links rs (calls_of (trees xs)) old new) (take_all i routines past) h

-- properties of linked routines, and what they share
pub is_program : (rs : List RoutineTree) (old new : List (List ℕ)) → AreDistinct (map name_of rs) → (AreTooMany rs → ⊥)
    → Links rs (calls_of rs) old new → IsProgram rs
unfolding IsProgram
is_program rs old new d few h = (d, few, h.0)

pub shared_is : (rs : List RoutineTree) (new : List (List ℕ)) → Links rs (calls_of rs) [] new
    → (name : List ℕ) → list_any (bytes_eq name) new ≡ is_shared rs name
shared_is rs new h name = h.1 name
