-- Held names in the order of their texts.
use Rattle.std.proofs.Common.{◌≡◌, ◌∙◌, ◌++◌, ℕ, Bool, true, false, cond, not, List, [], ◌∷◌, map, refl, sym, ap, inl, inr, is_lt, arith}
use Rattle.std.specs.Ordering.{nat_cmp}
use Rattle.std.specs.Cmp.Lexicographic.{slice_cmp, nat_list_cmp_total}
use Rattle.std.proofs.lemmas.Bool.{cases_Bool}
use Rattle.std.proofs.lemmas.Bool.Decides.{nat_tests}
use Rattle.std.proofs.lemmas.List.Sorted.{ranks_by}
use Rattle.mlk_names.specs.declared.lock_name.LockName.{LockName}
use Rattle.mlk_cert_lexemes.specs.Lists.{ascends, below, more, upto}
use Rattle.mlk_cert_lexemes.specs.Texts.{listed}
use Rattle.mlk_machine_locks.specs.Counts.{Counts}
use Rattle.mlk_machine_view.specs.Laws.{HeldIsSorted}
use Rattle.mlk_machine_view.specs.StateTexts.{put_in, ascending, held_text, holds_text, name_text}
use Rattle.mlk_machine_view.specs.Spelling.{holding_of, holding_text}
use Rattle.mlk_machine_view.proofs.OrderLemmas.{put, put_all, all_ascend, all_moves, all_up}

-- the order of texts is that of their bytes
below_is : (x y : List ℕ) → is_lt (slice_cmp nat_cmp x y) ≡ below x y
below_is [] [] = refl
below_is [] (b ∷ y) = refl
below_is (a ∷ x) [] = refl
below_is (a ∷ x) (b ∷ y) = let h = below_is x y in grind (arith, nat_tests)

module _ {A : Type 0} (text : A → List ℕ) where
  abbrev pub by_text : A → A → Bool
  by_text a b = is_lt (slice_cmp nat_cmp (text a) (text b))

  put_is : (a : A) (xs : List A) → put by_text a xs ≡ put_in text a xs
  put_is a [] = refl
  put_is a (b ∷ xs) =
      ap (λ t. cond t (b ∷ put by_text a xs) (a ∷ b ∷ xs)) (below_is (text b) (text a))
      ∙ ap (λ ys. cond (below (text b) (text a)) (b ∷ ys) (a ∷ b ∷ xs)) (put_is a xs)

  pub put_all_is : (xs : List A) → put_all by_text xs ≡ ascending text xs
  put_all_is [] = refl
  put_all_is (a ∷ xs) = ap (put by_text a) (put_all_is xs) ∙ put_is a (ascending text xs)

not_above : (x y : List ℕ) → not (is_lt (slice_cmp nat_cmp y x)) ≡ upto x y
not_above x y = ap not (below_is y x) ∙ not_not (upto x y)
  where
    not_not : (b : Bool) → not (not b) ≡ b
    not_not true = refl
    not_not false = refl

-- What is held is printed in the order of the names' texts, without omissions.
pub held_is_sorted : HeldIsSorted
held_is_sorted held =
    let text : LockName × ℕ → List ℕ = λ h. name_text h.0 in
    let order = ranks_by nat_list_cmp_total text in
    rw (← put_all_is text held) (
      ap (λ test. ascends test (put_all (by_text text) held)) (λ i g h. sym (not_above (text g) (text h)) i)
          ∙ all_ascend (by_text text) order (put_all (by_text text) held) (all_up (by_text text) order held),
      all_moves (by_text text) order held,
    )

put_held : (h : _) (held : Counts)
    → put_in (λ a. a.name) (holding_of h) (map holding_of held) ≡ map holding_of (put_in (λ a. name_text a.0) h held)
put_held h [] = refl
put_held h (g ∷ held) = elim (cases_Bool (below (name_text g.0) (name_text h.0))) [
  | inl e ↦ rw e (ap (λ hs. holding_of g ∷ hs) (put_held h held))
  | inr e ↦ rw e refl
]

ascending_held : (held : Counts)
    → ascending (λ a. a.name) (map holding_of held) ≡ map holding_of (ascending (λ a. name_text a.0) held)
ascending_held [] = refl
ascending_held (h ∷ held) =
    ap (put_in (λ a. a.name) (holding_of h)) (ascending_held held) ∙ put_held h (ascending (λ a. name_text a.0) held)

more_held : (held : Counts) → more 59 holding_text (map holding_of held) ≡ more 59 held_text held
more_held [] = refl
more_held (h ∷ held) = ap (λ t. 59 ∷ (held_text h ++ t)) (more_held held)

listed_held : (held : Counts) → listed holding_text (map holding_of held) ≡ listed held_text held
listed_held [] = refl
listed_held (h ∷ held) = ap (λ t. held_text h ++ t) (more_held held)

pub held_as_texts : (held : Counts) → listed holding_text (ascending (λ a. a.name) (map holding_of held)) ≡ holds_text held
held_as_texts held = ap (listed holding_text) (ascending_held held) ∙ listed_held (ascending (λ a. name_text a.0) held)
