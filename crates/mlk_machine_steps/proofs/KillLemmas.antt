-- KILL of one name: it affects the cell that the name is bound to.
use Rattle.std.proofs.Common.{◌≡◌, ◌∙◌, ◌⊎◌, ◌==◌, ℕ, true, false, List, [], ◌∷◌, refl, sym, ap, subst, inl, inr}
use Rattle.std.specs.Prelude.{◌&&◌, bytes_eq}
use Rattle.std.proofs.lemmas.Bool.{cases_Bool, false≢true, and_parts, and_from, or_cases, or_left, or_right}
use Rattle.std.proofs.lemmas.Slice.Eq.{bytes_eq-Decides}
use Rattle.mlk_machine_jobs.specs.Bindings.{Only, Cell, Fresh, ByReference, Bindings, Cells, covers, same_cell, look, is_shared_by_formal, is_named, killed}
use Rattle.mlk_machine_jobs.specs.Tasks.{Job}
use Rattle.mlk_machine_jobs.specs.Views.{without}
use Rattle.mlk_machine_jobs.specs.JobViews.{cleared, killing}
use Rattle.mlk_machine_jobs.proofs.CellLemmas.{one_function}

shared_same : (all bs : Bindings) (n : List ℕ) (c : Cell) → is_shared_by_formal all bs (Only n) c ≡ true
    → same_cell (look all n) c ≡ true
shared_same all [] n c h = absurd (false≢true h)
shared_same all (Fresh g names ∷ bs) n c h = shared_same all bs n c h
shared_same all (ByReference formal cell ∷ bs) n c h =
    elim (or_cases (bytes_eq n formal && same_cell (look all formal) c) (is_shared_by_formal all bs (Only n) c) h) [
      | inl e ↦
          let p = and_parts (bytes_eq n formal) (same_cell (look all formal) c) e in
          let i : n ≡ formal = (bytes_eq-Decides n formal).0 p.0 in
          subst (λ (m : List ℕ). same_cell (look all m) c ≡ true) (sym i) p.1
      | inr e ↦ shared_same all bs n c e
    ]

named_same : (bs : Bindings) (n : List ℕ) (c : Cell) → is_named bs (Only n) c ≡ true → same_cell (look bs n) c ≡ true
named_same bs n c h =
    elim (or_cases (bytes_eq n c.name && same_cell (look bs c.name) c) (is_shared_by_formal bs bs (Only n) c) h) [
      | inl e ↦
          let p = and_parts (bytes_eq n c.name) (same_cell (look bs c.name) c) e in
          let i : n ≡ c.name = (bytes_eq-Decides n c.name).0 p.0 in
          subst (λ (m : List ℕ). same_cell (look bs m) c ≡ true) (sym i) p.1
      | inr e ↦ shared_same bs bs n c e
    ]

-- the cell has the name itself, or a formal of this name shares it
own_name : (n : List ℕ) (g : ℕ) (c : Cell) → same_cell (record { generation = g; name = n }) c ≡ true → n ≡ c.name
own_name n g c h = (bytes_eq-Decides n c.name).0 (and_parts (g == c.generation) (bytes_eq n c.name) h).1

found : (all bs : Bindings) (n : List ℕ) (c : Cell) → look bs n ≡ look all n → same_cell (look all n) c ≡ true
    → (is_shared_by_formal all bs (Only n) c ≡ true) ⊎ (n ≡ c.name)
found all [] n c e h =
    inr (own_name n 0 c (subst (λ (d : Cell). same_cell d c ≡ true) (sym e) h))
found all (Fresh g names ∷ bs) n c e h = elim (cases_Bool (covers names n)) [
  | inl t ↦
      let d : record { generation = g; name = n } ≡ look all n = rw t at e in
      inr (own_name n g c (subst (λ (k : Cell). same_cell k c ≡ true) (sym d) h))
  | inr t ↦ let d : look bs n ≡ look all n = rw t at e in found all bs n c d h
]
found all (ByReference formal cell ∷ bs) n c e h = elim (cases_Bool (bytes_eq formal n)) [
  | inl t ↦
      let i : formal ≡ n = (bytes_eq-Decides formal n).0 t in
      inl (or_left (bytes_eq n formal && same_cell (look all formal) c) (is_shared_by_formal all bs (Only n) c)
      (and_from (bytes_eq n formal) (same_cell (look all formal) c) ((bytes_eq-Decides n formal).1 (sym i))
      (subst (λ (m : List ℕ). same_cell (look all m) c ≡ true) (sym i) h)))
  | inr t ↦
      let d : look bs n ≡ look all n = rw t at e in
      elim (found all bs n c d h) [
        | inl s ↦ inl (or_right (bytes_eq n formal && same_cell (look all formal) c) (is_shared_by_formal all bs (Only n) c) s)
        | inr s ↦ inr s
      ]
]

same_named : (bs : Bindings) (n : List ℕ) (c : Cell) → same_cell (look bs n) c ≡ true → is_named bs (Only n) c ≡ true
same_named bs n c h = elim (found bs bs n c refl h) [
  | inl s ↦ or_right (bytes_eq n c.name && same_cell (look bs c.name) c) (is_shared_by_formal bs bs (Only n) c) s
  | inr s ↦ or_left (bytes_eq n c.name && same_cell (look bs c.name) c) (is_shared_by_formal bs bs (Only n) c)
      (and_from (bytes_eq n c.name) (same_cell (look bs c.name) c) ((bytes_eq-Decides n c.name).1 s)
      (subst (λ (m : List ℕ). same_cell (look bs m) c ≡ true) s h))
]

pub one_named : (bs : Bindings) (n : List ℕ) (c : Cell) → is_named bs (Only n) c ≡ same_cell (look bs n) c
one_named bs n c = elim (cases_Bool (same_cell (look bs n) c)) [
  | inl h ↦ same_named bs n c h ∙ sym h
  | inr h ↦ elim (cases_Bool (is_named bs (Only n) c)) [
    | inl k ↦ absurd (false≢true (sym h ∙ named_same bs n c k))
    | inr k ↦ k ∙ sym h
  ]
]

one_cell : (bs : Bindings) (n : List ℕ) (cells : Cells) (c : Cell) → without (look bs n) cells c ≡ killed bs (Only n) cells c
one_cell bs n cells c = elim (cases_Bool (same_cell (look bs n) c)) [
  | inl h ↦ let k : is_named bs (Only n) c ≡ true = one_named bs n c ∙ h in rw (h, k) refl
  | inr h ↦ let k : is_named bs (Only n) c ≡ false = one_named bs n c ∙ h in rw (h, k) refl
]

pub one_killed : (bs : Bindings) (n : List ℕ) (cells : Cells) → without (look bs n) cells ≡ killed bs (Only n) cells
one_killed bs n cells = one_function _ _ (one_cell bs n cells)

pub one_killing : (j : Job) (n : List ℕ) → cleared n j ≡ killing (Only n) j
one_killing j n = ap (λ (cells : Cells). record j { cells = cells }) (one_killed j.bindings n j.cells)
