-- Entries, their lines and their texts.
use Rattle.std.proofs.Common.{◌≡◌, refl, sym, ap, subst, ◌∙◌, ℕ, zero, suc, List, [], ◌∷◌, ◌++◌, map, Option, Some, None, Bool, true, false, inl, inr, ⊎_elim, arith}
use Rattle.std.specs.Prelude.{Contains, position, option_map, option_and_then, slice_get, bytes_eq, if◌then◌else◌}
use Rattle.std.proofs.lemmas.Bool.{cases_Bool}
use Rattle.std.proofs.lemmas.Slice.Eq.{bytes_eq-Decides}
use Rattle.mlk_text.specs.Lexemes.{entry_of}
use Rattle.mlk_text.specs.Spellings.{IsName, IsLabel}
use Rattle.mlk_text.proofs.Entries.{entries-written}
use Rattle.mlk_syntax.specs.declared.expr.Callee.{Callee}
use Rattle.mlk_syntax.specs.Trees.{RoutineTree, HeadTree, LineTrees}
use Rattle.mlk_syntax.specs.Distinct.{AreDistinct}
use Rattle.mlk_program.specs.Entries.{name_of, lines_in, label_of, is_label, line_named, routine_named, routine_called, entry_in, target_of, asked, entry_by, line_of_entry, text_with, text_in, text_of_entry}
use Rattle.mlk_program.specs.Program.{IsProgram}
use Rattle.mlk_program.specs.Laws.{IsEntryOf, EntriesNamed, EntriesHaveLines, TextsName}
use Rattle.mlk_program.specs.declared.entry.EntryId.{EntryId}
use Rattle.mlk_program.proofs.NameTables.{position-cons}

pub one_place : (m n : ℕ) → Some m ≡ Some n → m ≡ n
one_place m n h = cc h

-- the element at the index of the first that passes a test
module _ {A : Type 0} (p : A → Bool) where
  abbrev pub Passes : List A → ℕ → Type 0
  Passes xs n = (x : A) × (slice_get xs n ≡ Some x) × (p x ≡ true)

  pub first_passes : (xs : List A) (n : ℕ) → position p xs ≡ Some n → Passes xs n
  first_passes [] n h = cc h
  first_passes (x ∷ xs) n h = ⊎_elim here (later (first_passes xs)) (cases_Bool (p x))
    where
      chosen : (if p x then Some 0 else option_map suc (position p xs)) ≡ Some n
      chosen = sym (position-cons p x xs) ∙ h

      here : p x ≡ true → Passes (x ∷ xs) n
      here e = subst (Passes (x ∷ xs)) (one_place 0 n (rw e at chosen)) (x, refl, e)

      next : ((m : ℕ) → position p xs ≡ Some m → Passes xs m) → (o : Option ℕ) → position p xs ≡ o
          → option_map suc o ≡ Some n → Passes (x ∷ xs) n
      next more None is k = cc k
      next more (Some m) is k =
          let found = more m is in
          subst (Passes (x ∷ xs)) (one_place (suc m) n k) (found.0, found.1, found.2)

      later : ((m : ℕ) → position p xs ≡ Some m → Passes xs m) → p x ≡ false → Passes (x ∷ xs) n
      later more e = next more (position p xs) refl (rw e at chosen)

  first_of_all : (x : A) (xs : List A) → p x ≡ true → position p (x ∷ xs) ≡ Some 0
  first_of_all x xs e = position-cons p x xs ∙ rw e refl

stands : {A : Type 0} (xs : List A) (n : ℕ) (x : A) → slice_get xs n ≡ Some x → Contains xs x
stands [] n x h = cc h
stands (y ∷ xs) zero x h = (0, omega arith, same h)
  where
    same : Some y ≡ Some x → y ≡ x
    same k = cc k
stands (y ∷ xs) (suc n) x h = let c = stands xs n x h in let low = c.1 in (suc c.0, omega (arith, low), c.2)

-- the parts of an entry
module _ (routines : List RoutineTree) (r : ℕ) (label : Option (List ℕ)) (e : EntryId) where
  pub record Parts : Type 0 where
    pub tree : RoutineTree
    pub n : ℕ
    pub here : slice_get routines r ≡ Some tree
    pub named : line_named label (lines_in tree) ≡ Some n
    pub is : record { routine = r; line = n } ≡ e

  parts_of : entry_in routines r label ≡ Some e → Parts
  parts_of h = routine (slice_get routines r) refl h
    where
      line : (tree : RoutineTree) (o : Option ℕ) → slice_get routines r ≡ Some tree → line_named label (lines_in tree) ≡ o
          → option_map (λ l. record { routine = r; line = l }) o ≡ Some e → Parts
      line tree None here is k = cc k
      line tree (Some n) here is k = record { tree = tree; n = n; here = here; named = is; is = one (record { routine = r; line = n }) e k }
        where
          one : (a b : EntryId) → Some a ≡ Some b → a ≡ b
          one a b q = cc q

      routine : (o : Option RoutineTree) → slice_get routines r ≡ o
          → option_and_then (λ tree. option_map (λ l. record { routine = r; line = l }) (line_named label (lines_in tree))) o ≡ Some e
          → Parts
      routine None is k = cc k
      routine (Some tree) is k = line tree (line_named label (lines_in tree)) is refl k

-- a line that a label names exists
named_line : (label : Option (List ℕ)) (lines : List (HeadTree × LineTrees)) (n : ℕ) → line_named label lines ≡ Some n
    → (l : HeadTree × LineTrees) × (slice_get lines n ≡ Some l)
named_line None lines n h = let found = first_passes (λ l. true) lines n h in (found.0, found.1)
named_line (Some label) lines n h =
    let found = first_passes (λ l. is_label label (label_of l.0)) lines n h in (found.0, found.1)

pub entries-named : EntriesNamed
entries-named routines e = (by_text, by_callee)
  where
    by_text : (text : List ℕ) → entry_by routines text ≡ Some e → IsEntryOf routines e
    by_text text h = go (entry_of text) h
      where
        in_routine : (label : List ℕ) (o : Option ℕ) → option_and_then (λ r. entry_in routines r (asked label)) o ≡ Some e
            → IsEntryOf routines e
        in_routine label None k = cc k
        in_routine label (Some r) k = (r, asked label, k)

        go : (o : Option (List ℕ × List ℕ)) → option_and_then (λ parts. option_and_then (λ r. entry_in routines r (asked parts.0)) (routine_named routines parts.1)) o ≡ Some e
            → IsEntryOf routines e
        go None k = cc k
        go (Some parts) k = in_routine parts.0 (routine_named routines parts.1) k

    by_callee : (own : ℕ) (callee : Callee) → target_of routines own callee ≡ Some e → IsEntryOf routines e
    by_callee own callee h = go (routine_called routines own callee.routine) h
      where
        go : (o : Option ℕ) → option_and_then (λ r. entry_in routines r callee.label) o ≡ Some e → IsEntryOf routines e
        go None k = cc k
        go (Some r) k = (r, callee.label, k)

pub entries-have-lines : EntriesHaveLines
entries-have-lines routines e (r, label, h) =
    let parts = parts_of routines r label e h in
    let found = named_line label (lines_in parts.tree) parts.n parts.named in (
      found.0,
      subst (λ x. line_of_entry routines x ≡ Some found.0) parts.is
          (ap (option_and_then (λ tree. slice_get (lines_in tree) parts.n)) parts.here ∙ found.1),
    )

among : (tree : RoutineTree) (ts : List RoutineTree) → Contains ts tree → Contains (map name_of ts) (name_of tree)
among tree [] c = let low = c.1 in absurd (omega (arith, low))
among tree (q ∷ ts) (zero, low, is) = (0, omega arith, ap name_of is)
among tree (q ∷ ts) (suc k, low, is) =
    let more = among tree ts (k, omega (arith, low), is) in
    let less = more.1 in
    (suc more.0, omega (arith, less), more.2)

-- a routine's name names it, if no two routines have the same name
first_named : (routines : List RoutineTree) (r : ℕ) (tree : RoutineTree) → AreDistinct (map name_of routines)
    → slice_get routines r ≡ Some tree → routine_named routines (name_of tree) ≡ Some r
first_named [] r tree d h = cc h
first_named (t ∷ routines) zero tree d h = first_of_all (λ q. bytes_eq (name_of tree) (name_of q)) t routines (same h)
  where
    same : Some t ≡ Some tree → bytes_eq (name_of tree) (name_of t) ≡ true
    same k = (bytes_eq-Decides (name_of tree) (name_of t)).1 (ap name_of (one tree t (sym k)))
      where
        one : (a b : RoutineTree) → Some a ≡ Some b → a ≡ b
        one a b q = cc q
first_named (t ∷ routines) (suc r) tree d h = ⊎_elim twice (once (first_named routines r tree d.1 h)) (cases_Bool (bytes_eq (name_of tree) (name_of t)))
  where
    twice : bytes_eq (name_of tree) (name_of t) ≡ true → routine_named (t ∷ routines) (name_of tree) ≡ Some (suc r)
    twice e = absurd (d.0 (subst (Contains (map name_of routines)) ((bytes_eq-Decides (name_of tree) (name_of t)).0 e)
        (among tree routines (stands routines r tree h))))

    once : routine_named routines (name_of tree) ≡ Some r → bytes_eq (name_of tree) (name_of t) ≡ false
        → routine_named (t ∷ routines) (name_of tree) ≡ Some (suc r)
    once more e = position-cons (λ q. bytes_eq (name_of tree) (name_of q)) t routines
        ∙ rw e (ap (option_map suc) more)

distinct_names : (routines : List RoutineTree) → IsProgram routines → AreDistinct (map name_of routines)
unfolding IsProgram
distinct_names routines h = h.0

-- a label that is spelled as one is looked up
label_asked : (label : List ℕ) → IsLabel label → asked label ≡ Some label
label_asked [] (inl name) = cc name
label_asked [] (inr digits) = let low = digits.1 in absurd (omega (arith, low))
label_asked (b ∷ label) h = refl

-- the text of a line's label and a routine's name
abbrev pub label_text : Option (List ℕ) → List ℕ
label_text None = []
label_text (Some label) = label

text_read : (label : Option (List ℕ)) (name : List ℕ) → IsName name → ((l : List ℕ) → label ≡ Some l → IsLabel l)
    → (entry_of (text_with label name) ≡ Some (label_text label, name)) × (asked (label_text label) ≡ label)
text_read None name named spelled = ((entries-written (94 ∷ name) [] name).1 (inl refl, named, refl), refl)
text_read (Some label) name named spelled = (
  (entries-written (label ++ 94 ∷ name) label name).1 (inr (spelled label refl), named, refl),
  label_asked label (spelled label refl),
)

-- a line is named by its own label, or without one if it has none
own_label : (label : Option (List ℕ)) (lines : List (HeadTree × LineTrees)) (n : ℕ) (l : HeadTree × LineTrees)
    → line_named label lines ≡ Some n → slice_get lines n ≡ Some l → line_named (label_of l.0) lines ≡ Some n
own_label label lines n l h is = go label (label_of l.0) refl h
  where
    one : (a b : HeadTree × LineTrees) → Some a ≡ Some b → a ≡ b
    one a b q = cc q

    first : (ls : List (HeadTree × LineTrees)) (m : ℕ) (own : List ℕ) → line_named None ls ≡ Some m → slice_get ls m ≡ Some l
        → label_of l.0 ≡ Some own → line_named (Some own) ls ≡ Some m
    first [] m own k at own_is = cc k
    first (x ∷ ls) m own k at own_is =
        let zero_is : 0 ≡ m = one_place 0 m (sym (first_of_all (λ q. true) x ls refl) ∙ k) in
        let head : x ≡ l = one x l (subst (λ i. slice_get (x ∷ ls) i ≡ Some l) (sym zero_is) at) in
        first_of_all (λ q. is_label own (label_of q.0)) x ls
        (ap (λ q. is_label own (label_of q.0)) head ∙ ap (is_label own) own_is ∙ (bytes_eq-Decides own own).1 refl)
        ∙ ap Some zero_is

    named : (asked_label : List ℕ) → line_named (Some asked_label) lines ≡ Some n → is_label asked_label (label_of l.0) ≡ true
    named asked_label k =
        let found = first_passes (λ q. is_label asked_label (label_of q.0)) lines n k in
        subst (λ q. is_label asked_label (label_of q.0) ≡ true) (one found.0 l (sym found.1 ∙ is)) found.2

    go : (a o : Option (List ℕ)) → label_of l.0 ≡ o → line_named a lines ≡ Some n → line_named o lines ≡ Some n
    go None None own_is k = k
    go None (Some own) own_is k = first lines n own k is own_is
    go (Some a) None own_is k = cc (sym (ap (is_label a) own_is) ∙ named a k)
    go (Some a) (Some own) own_is k =
        subst (λ q. line_named (Some q) lines ≡ Some n) ((bytes_eq-Decides a own).0 (sym (ap (is_label a) own_is) ∙ named a k)) k

pub texts-name : TextsName
texts-name routines e program spelled (r, label, h) =
    let parts = parts_of routines r label e h in
    let found = named_line label (lines_in parts.tree) parts.n parts.named in
    let own = label_of found.0.0 in
    let good = spelled parts.tree (stands routines r parts.tree parts.here) in
    let read = text_read own (name_of parts.tree) good.0
    (λ l is. good.1 found.0 l (stands (lines_in parts.tree) parts.n found.0 found.1) is) in
    let routine = first_named routines r parts.tree (distinct_names routines program) parts.here in
    let line = own_label label (lines_in parts.tree) parts.n found.0 parts.named found.1 in (
      text_with own (name_of parts.tree),
      subst (λ x. text_of_entry routines x ≡ Some (text_with own (name_of parts.tree))) parts.is
          (ap (option_and_then (text_in parts.n)) parts.here
          ∙ ap (option_map (λ l. text_with (label_of l.0) (name_of parts.tree))) found.1),
      ap (option_and_then (λ q. option_and_then (λ k. entry_in routines k (asked q.0)) (routine_named routines q.1))) read.0
          ∙ ap (option_and_then (λ k. entry_in routines k (asked (label_text own)))) routine
          ∙ ap (entry_in routines r) read.1
          ∙ ap (option_and_then (λ tree. option_map (λ l. record { routine = r; line = l }) (line_named own (lines_in tree)))) parts.here
          ∙ ap (option_map (λ l. record { routine = r; line = l })) line
          ∙ ap Some parts.is,
    )
