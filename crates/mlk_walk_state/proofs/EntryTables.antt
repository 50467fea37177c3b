-- Tables of entries.
use Rattle.std.proofs.Common.{◌≡◌, Bool, true, false, not, List, [], ◌∷◌, ◌++◌, Option, Some, None, is_some, refl, ap, sym, ◌∙◌, ⊎_elim, Bor, eqb-true, append_assoc, arith}
use Rattle.std.specs.Prelude.{map, filter, filter_map, option_copied, ◌==◌, ◌||◌, ℕ}
use Rattle.std.specs.Map.{lookup}
use Rattle.std.proofs.lemmas.Bool.{cases_Bool, and_parts}
use Rattle.std.proofs.lemmas.Bool.Decides.{nat_tests}
use Rattle.mlk_syntax.specs.Trees.{RoutineTree}
use Rattle.mlk_program.specs.declared.entry.EntryId.{EntryId}
use Rattle.mlk_program.specs.Entries.{entry_by}
use Rattle.mlk_cert_parts.specs.declared.block.EntryCert.{EntryCert}
use Rattle.mlk_program.specs.Entries.{same_entry}
use Rattle.mlk_walk_state.specs.Scope.{block_at, has_entry, firsts, block_in, block_of, is_declared, certified, declared}
use Rattle.mlk_walk_state.specs.Entries.{further, gained, gained_if}
use Rattle.mlk_walk_state.specs.Laws.{TablesAre}

abbrev pub shown : List (EntryId × Bor EntryCert) → List (EntryId × EntryCert)
shown pairs = map (λ p. (p.0, p.1.now)) pairs

pub found_at : (e : EntryId) (test : EntryId → Bool) → ((k : EntryId) → test k ≡ same_entry e k) → (pairs : List (EntryId × Bor EntryCert)) → option_copied (lookup test pairs) ≡ block_at (shown pairs) e
found_at e test is [] = refl
found_at e test is (p ∷ pairs) =
    ⊎_elim
    (λ (h : test p.0 ≡ true). let i : same_entry e p.0 ≡ true = sym (is p.0) ∙ h in rw (h, i) refl)
    (λ (h : test p.0 ≡ false). let i : same_entry e p.0 ≡ false = sym (is p.0) ∙ h in rw (h, i) (found_at e test is pairs))
    (cases_Bool (test p.0))

-- whether a key is in the table
pub there : (e : EntryId) (test : EntryId → Bool) → ((k : EntryId) → test k ≡ same_entry e k) → (pairs : List (EntryId × Bor EntryCert)) → is_some (lookup test pairs) ≡ has_entry (map (λ p. p.0) (shown pairs)) e
there e test is [] = refl
there e test is (p ∷ pairs) =
    ⊎_elim
    (λ (h : test p.0 ≡ true). let i : same_entry e p.0 ≡ true = sym (is p.0) ∙ h in rw (h, i) refl)
    (λ (h : test p.0 ≡ false). let i : same_entry e p.0 ≡ false = sym (is p.0) ∙ h in rw (h, i) (there e test is pairs))
    (cases_Bool (test p.0))

-- one more pair
pub shown_more : (pairs : List (EntryId × Bor EntryCert)) (k : EntryId) (s : Bor EntryCert) → shown (pairs ++ (k, s) ∷ []) ≡ shown pairs ++ (k, s.now) ∷ []
shown_more [] k s = refl
shown_more (p ∷ pairs) k s = ap (λ z. (p.0, p.1.now) ∷ z) (shown_more pairs k s)

-- what is added if an entry is already there, and if it is not
module _ {A : Type 0} (entry : A → EntryId) (found : List A) (a : A) where
  pub gains_none : has_entry (map entry found) (entry a) ≡ true → found ≡ gained entry found a
  gains_none h = rw h refl

  pub gains_one : has_entry (map entry found) (entry a) ≡ false → found ++ a ∷ [] ≡ gained entry found a
  gains_one h = rw h refl

entry_is : (e f : EntryId) → same_entry e f ≡ true → e ≡ f
entry_is e f h =
    let p = and_parts (e.routine == f.routine) (e.line == f.line) h in
    ap (λ z. record e { routine = z }) (eqb-true e.routine f.routine p.0) ∙ ap (λ z. record f { line = z }) (eqb-true e.line f.line p.1)

eqb_turned : (x y : ℕ) → (x == y) ≡ (y == x)
eqb_turned x y = ⊎_elim (λ (h : (x == y) ≡ true). let i : (y == x) ≡ true = grind (arith, nat_tests) in h ∙ sym i)
    (λ (h : (x == y) ≡ false). let i : (y == x) ≡ false = grind (arith, nat_tests) in h ∙ sym i) (cases_Bool (x == y))

same_turned : (e f : EntryId) → same_entry e f ≡ same_entry f e
same_turned e f = rw (eqb_turned e.routine f.routine, eqb_turned e.line f.line) refl

any_more : {A : Type 0} (entry : A → EntryId) (found : List A) (a : A) (e : EntryId)
    → has_entry (map entry (found ++ a ∷ [])) e ≡ has_entry (map entry found) e || same_entry e (entry a)
any_more entry [] a e = or_false (same_entry e (entry a))
  where
    or_false : (b : Bool) → b || false ≡ b
    or_false true = refl
    or_false false = refl
any_more entry (b ∷ found) a e =
    ⊎_elim (λ h. rw h refl) (λ h. rw h (any_more entry found a e)) (cases_Bool (same_entry e (entry b)))

abbrev other : {A : Type 0} → (A → EntryId) → A → A → Bool
other entry a b = not (same_entry (entry a) (entry b))

module _ {A : Type 0} (entry : A → EntryId) (found : List A) (a : A) where
  -- an item whose entry is already found is not one of the further ones
  left_out : has_entry (map entry found) (entry a) ≡ true → (items : List A) → further entry found (filter (other entry a) items) ≡ further entry found items
  left_out h [] = refl
  left_out h (b ∷ items) =
      ⊎_elim
      (λ (e : same_entry (entry a) (entry b) ≡ true).
      let g : has_entry (map entry found) (entry b) ≡ true = ap (has_entry (map entry found)) (sym (entry_is (entry a) (entry b) e)) ∙ h in
      rw (e, g) (left_out h items))
      (λ (e : same_entry (entry a) (entry b) ≡ false).
      ⊎_elim (λ (g : has_entry (map entry found) (entry b) ≡ true). rw (e, g) (left_out h items))
      (λ (g : has_entry (map entry found) (entry b) ≡ false). rw (e, g) (ap (λ z. b ∷ z) (left_out h items)))
      (cases_Bool (has_entry (map entry found) (entry b))))
      (cases_Bool (same_entry (entry a) (entry b)))

  -- and one more item is found
  one_found : (items : List A) → further entry found (filter (other entry a) items) ≡ further entry (found ++ a ∷ []) items
  one_found [] = refl
  one_found (b ∷ items) =
      let m = any_more entry found a (entry b) in
      let t = same_turned (entry b) (entry a) in
      ⊎_elim
      (λ (e : same_entry (entry a) (entry b) ≡ true).
      ⊎_elim (λ (g : has_entry (map entry found) (entry b) ≡ true). rw (m, t, e, g) (one_found items))
      (λ (g : has_entry (map entry found) (entry b) ≡ false). rw (m, t, e, g) (one_found items))
      (cases_Bool (has_entry (map entry found) (entry b))))
      (λ (e : same_entry (entry a) (entry b) ≡ false).
      ⊎_elim (λ (g : has_entry (map entry found) (entry b) ≡ true). rw (m, t, e, g) (one_found items))
      (λ (g : has_entry (map entry found) (entry b) ≡ false). rw (m, t, e, g) (ap (λ z. b ∷ z) (one_found items)))
      (cases_Bool (has_entry (map entry found) (entry b))))
      (cases_Bool (same_entry (entry a) (entry b)))

-- the items found with a list's first item, and those that its other items add
module _ {A B : Type 0} (entry : A → EntryId) (by : B → Option A) (found : List A) where
  pub item_found : (b : B) (items : List B) → found ++ further entry found (firsts entry (filter_map by (b ∷ items)))
      ≡ gained_if entry found (by b) ++ further entry (gained_if entry found (by b)) (firsts entry (filter_map by items))
  item_found b items = of (by b) refl
    where
      of : (o : Option A) → by b ≡ o → found ++ further entry found (firsts entry (filter_map by (b ∷ items)))
          ≡ gained_if entry found (by b) ++ further entry (gained_if entry found (by b)) (firsts entry (filter_map by items))
      of None e = rw e refl
      of (Some a) e =
          ⊎_elim
          (λ (h : has_entry (map entry found) (entry a) ≡ true).
          rw (e, h) (ap (λ z. found ++ z) (left_out entry found a h (firsts entry (filter_map by items)))))
          (λ (h : has_entry (map entry found) (entry a) ≡ false).
          rw (e, h) (ap (λ z. found ++ a ∷ z) (one_found entry found a (firsts entry (filter_map by items))) ∙ sym (append_assoc found (a ∷ []) _)))
          (cases_Bool (has_entry (map entry found) (entry a)))

-- and likewise in a loop over items
pub more_found : {A B : Type 0} (entry : A → EntryId) (by : B → Option A) (found more all : List A) (b : B) (left rest : List B)
    → left ≡ b ∷ rest → found ++ further entry found (firsts entry (filter_map by left)) ≡ all → more ≡ gained_if entry found (by b)
    → more ++ further entry more (firsts entry (filter_map by rest)) ≡ all
more_found entry by found more all b left rest l h m =
    ap (λ z. z ++ further entry z (firsts entry (filter_map by rest))) m ∙ sym (item_found entry by found b rest)
    ∙ ap (λ z. found ++ further entry found (firsts entry (filter_map by z))) (sym l) ∙ h

pub none_found : {A : Type 0} (entry : A → EntryId) (items : List A) → further entry [] items ≡ items
none_found entry [] = refl
none_found entry (a ∷ items) = ap (λ z. a ∷ z) (none_found entry items)

-- all that is found, starting with nothing
pub all_found : {A B : Type 0} (entry : A → EntryId) (by : B → Option A) (start whole : List A) (items : List B)
    → start ≡ [] → whole ≡ start ++ further entry start (firsts entry (filter_map by items)) → whole ≡ firsts entry (filter_map by items)
all_found entry by start whole items s w =
    w ∙ ap (λ z. z ++ further entry z (firsts entry (filter_map by items))) s ∙ none_found entry (firsts entry (filter_map by items))

-- what the tables say of an entry
module _ (e : EntryId) where
  apart : (k f : EntryId) → same_entry e k ≡ false → same_entry k f ≡ true → same_entry e f ≡ false
  apart k f h g = ap (same_entry e) (sym (entry_is k f g)) ∙ h

  others_block : (k : EntryId) → same_entry e k ≡ false → (pairs : List (EntryId × EntryCert))
      → block_at (filter (λ p. not (same_entry k p.0)) pairs) e ≡ block_at pairs e
  others_block k h [] = refl
  others_block k h (p ∷ pairs) =
      ⊎_elim
      (λ (g : same_entry k p.0 ≡ true). let i = apart k p.0 h g in rw (g, i) (others_block k h pairs))
      (λ (g : same_entry k p.0 ≡ false).
      ⊎_elim (λ (i : same_entry e p.0 ≡ true). rw (g, i) refl) (λ (i : same_entry e p.0 ≡ false). rw (g, i) (others_block k h pairs))
      (cases_Bool (same_entry e p.0)))
      (cases_Bool (same_entry k p.0))

  first_block : (pairs : List (EntryId × EntryCert)) → block_at (firsts (λ p. p.0) pairs) e ≡ block_at pairs e
  first_block [] = refl
  first_block (p ∷ pairs) =
      ⊎_elim
      (λ (h : same_entry e p.0 ≡ true). rw h refl)
      (λ (h : same_entry e p.0 ≡ false). rw h (others_block p.0 h (firsts (λ p. p.0) pairs) ∙ first_block pairs))
      (cases_Bool (same_entry e p.0))

  others_there : (k : EntryId) → same_entry e k ≡ false → (es : List EntryId) → has_entry (filter (λ f. not (same_entry k f)) es) e ≡ has_entry es e
  others_there k h [] = refl
  others_there k h (f ∷ es) =
      ⊎_elim
      (λ (g : same_entry k f ≡ true). let i = apart k f h g in rw (g, i) (others_there k h es))
      (λ (g : same_entry k f ≡ false).
      ⊎_elim (λ (i : same_entry e f ≡ true). rw (g, i) refl) (λ (i : same_entry e f ≡ false). rw (g, i) (others_there k h es))
      (cases_Bool (same_entry e f)))
      (cases_Bool (same_entry k f))

  first_there : (es : List EntryId) → has_entry (firsts (λ f. f) es) e ≡ has_entry es e
  first_there [] = refl
  first_there (f ∷ es) =
      ⊎_elim
      (λ (h : same_entry e f ≡ true). rw h refl)
      (λ (h : same_entry e f ≡ false). rw h (others_there f h (firsts (λ f. f) es) ∙ first_there es))
      (cases_Bool (same_entry e f))

  module _ (routines : List RoutineTree) where
    by_block : (blocks : List EntryCert) → block_at (filter_map (block_in routines) blocks) e ≡ block_of routines blocks e
    by_block [] = refl
    by_block (b ∷ blocks) = of (entry_by routines b.entry) refl (by_block blocks)
      where
        of : (o : Option EntryId) → entry_by routines b.entry ≡ o → block_at (filter_map (block_in routines) blocks) e ≡ block_of routines blocks e
            → block_at (filter_map (block_in routines) (b ∷ blocks)) e ≡ block_of routines (b ∷ blocks) e
        of None i h = rw i h
        of (Some k) i h =
            ⊎_elim (λ (g : same_entry e k ≡ true). rw (i, g) refl) (λ (g : same_entry e k ≡ false). rw (i, g) h) (cases_Bool (same_entry e k))

    by_text : (texts : List (List ℕ)) → has_entry (filter_map (entry_by routines) texts) e ≡ is_declared routines texts e
    by_text [] = refl
    by_text (t ∷ texts) = of (entry_by routines t) refl (by_text texts)
      where
        of : (o : Option EntryId) → entry_by routines t ≡ o → has_entry (filter_map (entry_by routines) texts) e ≡ is_declared routines texts e
            → has_entry (filter_map (entry_by routines) (t ∷ texts)) e ≡ is_declared routines (t ∷ texts) e
        of None i h = rw i h
        of (Some k) i h =
            ⊎_elim (λ (g : same_entry e k ≡ true). rw (i, g) refl) (λ (g : same_entry e k ≡ false). rw (i, g) h) (cases_Bool (same_entry e k))

pub tables_are : TablesAre
unfolding certified declared
tables_are routines blocks texts = record {
  certified = λ e. first_block e (filter_map (block_in routines) blocks) ∙ by_block e routines blocks;
  declared = λ e. first_there e (filter_map (entry_by routines) texts) ∙ by_text e routines texts;
}
