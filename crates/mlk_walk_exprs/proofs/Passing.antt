-- Transfer functions by which every state continues.
use Rattle.std.proofs.Common.{◌≡◌, ◌-◌, arith, length, take, Bool, true, ℕ, List, [], ◌∷◌, ◌++◌, map, refl, ap, ◌∙◌, Option, None, Some}
use Rattle.std.specs.Prelude.{flat_map, is_none}
use Rattle.std.specs.List.{list_all}
use Rattle.std.proofs.lemmas.Bool.{and_parts}
use Rattle.std.proofs.lemmas.List.{map-id}
use Rattle.std.proofs.Math.Seq.{take-length}
use Rattle.mlk_names.specs.declared.symbol.Sym.{Sym}
use Rattle.mlk_names.specs.declared.reference.Access.{Access}
use Rattle.mlk_names.specs.declared.reference.Extent.{Extent}
use Rattle.mlk_walk_state.specs.declared.state.State.{State}
use Rattle.mlk_walk_state.specs.States.{last_captured, without_last}
use Rattle.mlk_walk_exprs.specs.declared.walk.Walk.{Walk}
use Rattle.mlk_walk_exprs.specs.declared.reference.Use.{Use}
use Rattle.mlk_walk_exprs.specs.Walks.{Outcome, Goes, add, add_all, put_states, with_states, each, each_changed}
use Rattle.mlk_walk_exprs.specs.Spots.{Spot}
use Rattle.mlk_walk_exprs.specs.References.{checked, covered_or, touch, read_fault, read_last}

module _ (allows : State → Bool) (row : State → List Outcome) (change : State → State)
    (goes : (s : State) → allows s ≡ true → row s ≡ Goes (change s) ∷ []) where
  all_go : (ss : List State) (w : Walk) → list_all allows ss ≡ true
      → add_all (flat_map row ss) w ≡ with_states (put_states (map change ss) w.going) w
  all_go [] w h = refl
  all_go (s ∷ ss) w h =
      let parts = and_parts (allows s) (list_all allows ss) h in
      ap (λ os. add_all (os ++ flat_map row ss) w) (goes s parts.0) ∙ all_go ss (add (Goes (change s)) w) parts.1

  -- each state changes, if the change is allowed for all
  pub all_change : (w : Walk) → list_all allows w.going ≡ true → each row w ≡ each_changed change w
  all_change w h = all_go w.going (with_states [] w) h

pub is_nothing : {A : Type 0} (o : Option A) → is_none o ≡ true → o ≡ None
is_nothing None h = refl
is_nothing (Some a) h = absurd (cc)

all_true : (ss : List State) → list_all (λ s. true) ss ≡ true
all_true [] = refl
all_true (s ∷ ss) = all_true ss

all_same : (w : Walk) → each_changed (λ s. s) w ≡ with_states (put_states w.going []) w
all_same w = ap (λ ss. with_states (put_states ss []) w) (map-id w.going)

-- a transfer function that does nothing
pub all_stay : (w : Walk) → each (λ s. Goes s ∷ []) w ≡ with_states (put_states w.going []) w
all_stay w = all_change (λ s. true) (λ s. Goes s ∷ []) (λ s. s) (λ s h. refl) w (all_true w.going) ∙ all_same w

none_less : (n : ℕ) → n - 0 ≡ n
none_less n = omega arith

kept_all : (xs : List Sym) → take (length xs - 0) xs ≡ xs
kept_all xs = ap (λ (n : ℕ). take n xs) (none_less (length xs)) ∙ take-length xs

all_kept : (ss : List State) → map (without_last 0) ss ≡ ss
all_kept [] = refl
all_kept (s ∷ ss) =
    ap (λ (c : List Sym). record s { captured = c } ∷ map (without_last 0) ss) (kept_all s.captured)
    ∙ ap (λ (ts : List State). s ∷ ts) (all_kept ss)

-- no captured symbol is forgotten
pub none_forgotten : (w : Walk) → each_changed (without_last 0) w ≡ with_states (put_states w.going []) w
none_forgotten w = ap (λ (ss : List State). with_states (put_states ss []) w) (all_kept w.going)

-- a use with the subscripts that were captured last, which is covered in all states
pub all_read : (p : Spot) (how : Use) (column : ℕ) (name : List ℕ) (count : ℕ) (w : Walk)
    → list_all (λ s. is_none (read_fault p how name (last_captured count s) s)) w.going ≡ true
    → each (read_last p how column name count) w ≡ each_changed (without_last count) w
all_read p how column name count =
    all_change (λ s. is_none (read_fault p how name (last_captured count s) s)) (read_last p how column name count) (without_last count)
    (λ s h. ap (λ f. covered_or f p.line column (without_last count s)) (is_nothing (read_fault p how name (last_captured count s) s) h))

-- a touch that is covered in all states
pub all_touch : (p : Spot) (extent : Extent) (access : Access) (column : ℕ) (name : List ℕ) (symbols : State → List Sym) (w : Walk)
    → list_all (λ s. is_none (checked p extent access name (symbols s) s)) w.going ≡ true
    → each (λ s. touch p extent access column name (symbols s) s) w ≡ with_states (put_states w.going []) w
all_touch p extent access column name symbols w h =
    all_change (λ s. is_none (checked p extent access name (symbols s) s)) (λ s. touch p extent access column name (symbols s) s) (λ s. s)
    (λ s e. ap (λ f. covered_or f p.line column s) (is_nothing (checked p extent access name (symbols s) s) e)) w h
    ∙ all_same w
