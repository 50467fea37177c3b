-- Routines with different names.
use Rattle.std.proofs.Common.{◌≡◌, ◌≢◌, ◌<◌, ◌+◌, ◌⊎◌, inl, inr, refl, sym, ap, subst, ◌∙◌, ℕ, zero, suc, List, [], ◌∷◌, ◌++◌, map, ⊎_elim, arith, take, drop, length, get_or, Option, Some, None, Bool, true, false, add-one, take-append-drop, length-take-le, le_of_lt}
use Rattle.std.specs.Prelude.{Contains, position, option_map, bytes_eq, not, nat_eq}
use Rattle.std.specs.Option.{option_eq}
use Rattle.std.proofs.lemmas.Bool.Decides.{nat_tests}
use Rattle.mlk_text.specs.declared.failure.Failure.{Failure}
use Rattle.mlk_text.specs.declared.failure.Failure.TheVariants.{OutOfMemory, Refused}
use Rattle.std.specs.List.{list_any}
use Rattle.std.proofs.Math.Seq.{take-suc}
use Rattle.std.proofs.lemmas.List.{map-append, length-map}
use Rattle.std.proofs.lemmas.Bool.{cases_Bool}
use Rattle.std.proofs.lemmas.Slice.Eq.{bytes_eq-Decides}
use Rattle.std.proofs.lemmas.List.Elements.{Contains-append_right, Contains-append_cases}
use Rattle.mlk_text.specs.declared.code.Code.TheVariants.{RoutineTwice}
use Rattle.mlk_text.specs.declared.fault.Fault.{Fault}
use Rattle.mlk_text.specs.Failures.{IfRefused}
use Rattle.mlk_syntax.specs.declared.routine.Routine.{Routine}
use Rattle.mlk_syntax.specs.Views.{routine_of}
use Rattle.mlk_syntax.specs.Distinct.{AreDistinct}
use Rattle.mlk_syntax.proofs.Distinct.{is_among, not_among}
use Rattle.mlk_program.specs.Entries.{name_of, routine_named}
use Rattle.mlk_program.specs.Program.{IsTwice, IsFaultAt}
use Rattle.mlk_program.specs.Tables.{trees}
use Rattle.mlk_program.proofs.NameTables.{position-cons, drop_at}
use Rattle.mlk_program.proofs.Directories.{position-map}

-- the index of the first element that passes a test, after others
module _ {A : Type 0} (p : A → Bool) (x : A) (after : List A) (passes : p x ≡ true) where
  abbrev Split : List A → Type 0
  Split before = ((list_any p before ≡ true) × (position p (before ++ x ∷ after) ≢ Some (length before)))
      ⊎ ((list_any p before ≡ false) × (position p (before ++ x ∷ after) ≡ Some (length before)))

  later : (o : Option ℕ) (n : ℕ) → option_map suc o ≡ Some (suc n) → o ≡ Some n
  later None n h = cc h
  later (Some m) n h = cc h

  pub split_place : (before : List A) → Split before
  split_place [] = inr (refl, position-cons p x after ∙ rw passes refl)
  split_place (b ∷ before) = ⊎_elim first (rest (split_place before)) (cases_Bool (p b))
    where
      first : p b ≡ true → Split (b ∷ before)
      first e =
          let one : position p (b ∷ (before ++ x ∷ after)) ≡ Some 0 = position-cons p b (before ++ x ∷ after) ∙ rw e refl in
          inl (rw e refl, λ h. cc (sym one ∙ h))

      rest : Split before → p b ≡ false → Split (b ∷ before)
      rest more e =
          let one : position p (b ∷ (before ++ x ∷ after)) ≡ option_map suc (position p (before ++ x ∷ after)) =
          position-cons p b (before ++ x ∷ after) ∙ rw e refl in
          ⊎_elim
          (λ h. inl (rw e h.0, λ k. h.1 (later (position p (before ++ x ∷ after)) (length before) (sym one ∙ k))))
          (λ h. inr (rw e h.0, one ∙ ap (option_map suc) h.1))
          more

-- whether an index was found
pub is_place : (o : Option ℕ) (i : ℕ) → false ≡ not (option_eq nat_eq o (Some i)) → o ≡ Some i
is_place None i h = cc h
is_place (Some j) i h = ap Some (grind (arith, nat_tests, h))

pub no_place : (o : Option ℕ) (i : ℕ) → true ≡ not (option_eq nat_eq o (Some i)) → o ≢ Some i
no_place None i h k = cc k
no_place (Some j) i h k = go (come j i k) h
  where
    come : (a b : ℕ) → Some a ≡ Some b → a ≡ b
    come a b e = cc e

    go : j ≡ i → true ≡ not (nat_eq j i) → ⊥
    go same t = grind (arith, nat_tests, same, t)

-- from one property of a fault to another
pub refused_map : (e : Failure Fault) (P Q : Fault → Type 0) → ((f : Fault) → P f → Q f) → IfRefused e P → IfRefused e Q
refused_map OutOfMemory P Q turn h = tt
refused_map (Refused f) P Q turn h = turn f h

abbrev pub names : List Routine → List (List ℕ)
names routines = map name_of (trees routines)

in_one : (n m : List ℕ) → Contains (n ∷ []) m → n ≡ m
in_one n m (zero, less, is) = is
in_one n m (suc k, less, is) = absurd (omega (arith, less))

not_in_none : (m : List ℕ) → Contains [] m → ⊥
not_in_none m (k, less, is) = omega (arith, less)

here : (n : List ℕ) (more : List (List ℕ)) → Contains (n ∷ more) n
here n more = (0, omega arith, refl)

distinct_more : (ns : List (List ℕ)) (n : List ℕ) → AreDistinct ns → (Contains ns n → ⊥) → AreDistinct (ns ++ n ∷ [])
distinct_more [] n d new = (not_in_none n, tt)
distinct_more (m ∷ ns) n d new =
    ((λ c. go (Contains-append_cases ns (n ∷ []) m c)), distinct_more ns n d.1 (λ c. new (Contains-append_right (m ∷ []) ns n c)))
  where
    go : Contains ns m ⊎ Contains (n ∷ []) m → ⊥
    go (inl c) = d.0 c
    go (inr one) = new (subst (Contains (m ∷ ns)) (sym (in_one n m one)) (here m ns))

-- the routines before one, that one, and those after
module _ (routines : List Routine) (i : ℕ) (x : Routine) (low : i < length routines) (is : x ≡ get_or routines i x) where
  pub cut : routines ≡ take i routines ++ x ∷ drop (i + 1) routines
  cut = sym (take-append-drop i routines) ∙ ap (λ more. take i routines ++ more) (drop_at routines i x low is)

  pub next : take (i + 1) routines ≡ take i routines ++ x ∷ []
  next = rw (add-one) (take-suc routines i x low ∙ ap (λ y. take i routines ++ y ∷ []) (sym is))

  pub cut_trees : trees routines ≡ trees (take i routines) ++ routine_of x ∷ trees (drop (i + 1) routines)
  cut_trees = ap trees cut ∙ map-append routine_of (take i routines) (x ∷ drop (i + 1) routines)

  pub next_trees : trees (take (i + 1) routines) ≡ trees (take i routines) ++ routine_of x ∷ []
  next_trees = ap trees next ∙ map-append routine_of (take i routines) (x ∷ [])

  cut_names : names routines ≡ names (take i routines) ++ x.name ∷ names (drop (i + 1) routines)
  cut_names = ap (map name_of) cut_trees ∙ map-append name_of (trees (take i routines)) (routine_of x ∷ trees (drop (i + 1) routines))

  count : length (names (take i routines)) ≡ i
  count = length-map (trees (take i routines)) name_of ∙ length-map (take i routines) routine_of ∙ length-take-le i routines (le_of_lt low)

  place : routine_named (trees routines) x.name ≡ position (bytes_eq x.name) (names (take i routines) ++ x.name ∷ names (drop (i + 1) routines))
  place = sym (position-map (bytes_eq x.name) name_of (trees routines)) ∙ ap (position (bytes_eq x.name)) cut_names

  self : bytes_eq x.name x.name ≡ true
  self = (bytes_eq-Decides x.name x.name).1 refl

  pub distinct_next : AreDistinct (names (take i routines)) → routine_named (trees routines) x.name ≡ Some i
      → AreDistinct (names (take (i + 1) routines))
  distinct_next d found =
      subst AreDistinct (sym (ap (map name_of) next_trees ∙ map-append name_of (trees (take i routines)) (routine_of x ∷ [])))
      (distinct_more (names (take i routines)) x.name d new)
    where
      new : Contains (names (take i routines)) x.name → ⊥
      new c = ⊎_elim
          (λ h. h.1 (sym place ∙ found ∙ ap Some (sym count)))
          (λ h. not_among x.name (names (take i routines)) h.0 c)
          (split_place (bytes_eq x.name) x.name (names (drop (i + 1) routines)) self (names (take i routines)))

  pub is_twice : AreDistinct (names (take i routines)) → routine_named (trees routines) x.name ≢ Some i
      → (fault : Fault) → IsFaultAt RoutineTwice x.name 1 1 fault → IsTwice (trees routines) fault
  is_twice d other fault f =
      (trees (take i routines), trees (drop (i + 1) routines), routine_of x, cut_trees, d, before, f)
    where
      before : Contains (names (take i routines)) x.name
      before = ⊎_elim
          (λ h. is_among x.name (names (take i routines)) h.0)
          (λ h. absurd (other (place ∙ h.1 ∙ ap Some count)))
          (split_place (bytes_eq x.name) x.name (names (drop (i + 1) routines)) self (names (take i routines)))
