-- The contents of cells, table by table.
use Rattle.std.proofs.Common.{◌≡◌, ◌≤◌, ◌<◌, ◌==◌, ℕ, zero, suc, Bool, true, false, List, [], ◌∷◌, ◌++◌, length, take, get_or, Option, Some, None, refl, sym, ap, ◌∙◌, inl, inr, arith}
use Rattle.std.specs.Prelude.{bytes_eq, if◌then◌else◌, ◌&&◌, not, nat_lt, slice_get, slice_set, filter}
use Rattle.std.specs.List.{AllZip}
use Rattle.std.specs.Map.{lookup}
use Rattle.std.proofs.lemmas.Bool.{cases_Bool}
use Rattle.std.proofs.lemmas.Bool.Decides.{nat_tests}
use Rattle.std.proofs.lemmas.Option.{slice_get_past}
use Rattle.std.proofs.lemmas.Slice.Eq.{bytes_eq-Decides}
use Rattle.mlk_machine_jobs.specs.declared.cell.CellTable.{CellTable}
use Rattle.mlk_machine_jobs.specs.Bindings.{Cell, Cells, put_value, forgotten}
use Rattle.mlk_machine_jobs.specs.Views.{in_table, PutsValue, value_in, value_at, without}

-- functions that agree everywhere are equal
pub one_function : (f g : Cells) → ((c : Cell) → f c ≡ g c) → f ≡ g
one_function f g h i c = h c i

pub zero_suc : (k : ℕ) → (0 == suc k) ≡ false
zero_suc k = grind (arith, nat_tests)

pub suc_zero : (k : ℕ) → (suc k == 0) ≡ false
suc_zero k = grind (arith, nat_tests)

pub suc_suc : (g k : ℕ) → (suc g == suc k) ≡ (g == k)
suc_suc g k = grind (arith, nat_tests)

put_in : (ts : List CellTable) (g : ℕ) (t u : CellTable) (name : List ℕ) (value : Option (List ℕ)) → g < length ts
    → t ≡ get_or ts g t → PutsValue name value t u → (k : ℕ) (n : List ℕ)
    → value_in n (slice_get (slice_set ts g u) k)
    ≡ (if (g == k) && bytes_eq name n then value else value_in n (slice_get ts k))
put_in [] g t u name value l e p k n = absurd (omega arith)
put_in (x ∷ ts) zero t u name value l e p zero n =
    p n ∙ ap (λ (z : CellTable). if bytes_eq name n then value else in_table z n) e
put_in (x ∷ ts) zero t u name value l e p (suc k) n = rw (zero_suc k) refl
put_in (x ∷ ts) (suc g) t u name value l e p zero n = rw (suc_zero g) refl
put_in (x ∷ ts) (suc g) t u name value l e p (suc k) n =
    rw (suc_suc g k) (put_in ts g t u name value (omega arith) e p k n)

pub values_put : (ts : List CellTable) (g : ℕ) (t u : CellTable) (name value : List ℕ) → g < length ts → t ≡ get_or ts g t
    → PutsValue name (Some value) t u
    → value_at (slice_set ts g u) ≡ put_value (record { generation = g; name = name }) value (value_at ts)
values_put ts g t u name value l e p =
    one_function _ _ (λ c. put_in ts g t u name (Some value) l e p c.generation c.name)

pub values_cleared : (ts : List CellTable) (g : ℕ) (t u : CellTable) (name : List ℕ) → g < length ts → t ≡ get_or ts g t
    → PutsValue name None t u
    → value_at (slice_set ts g u) ≡ without (record { generation = g; name = name }) (value_at ts)
values_cleared ts g t u name l e p =
    one_function _ _ (λ c. put_in ts g t u name None l e p c.generation c.name)

same_in : (ts : List CellTable) (g : ℕ) (t u : CellTable) → g < length ts → t ≡ get_or ts g t
    → ((n : List ℕ) → in_table u n ≡ in_table t n) → (k : ℕ) (n : List ℕ)
    → value_in n (slice_get (slice_set ts g u) k) ≡ value_in n (slice_get ts k)
same_in [] g t u l e p k n = absurd (omega arith)
same_in (x ∷ ts) zero t u l e p zero n = p n ∙ ap (λ (z : CellTable). in_table z n) e
same_in (x ∷ ts) zero t u l e p (suc k) n = refl
same_in (x ∷ ts) (suc g) t u l e p zero n = refl
same_in (x ∷ ts) (suc g) t u l e p (suc k) n = same_in ts g t u (omega arith) e p k n

pub values_same : (ts : List CellTable) (g : ℕ) (t u : CellTable) → g < length ts → t ≡ get_or ts g t
    → ((n : List ℕ) → in_table u n ≡ in_table t n) → value_at (slice_set ts g u) ≡ value_at ts
values_same ts g t u l e p = one_function _ _ (λ c. same_in ts g t u l e p c.generation c.name)

no_less : (k : ℕ) → nat_lt k 0 ≡ false
no_less k = grind (arith, nat_tests)

above_zero : (k : ℕ) → nat_lt 0 (suc k) ≡ true
above_zero k = grind (arith, nat_tests)

less_suc : (k m : ℕ) → nat_lt (suc k) (suc m) ≡ nat_lt k m
less_suc k m = grind (arith, nat_tests)

abbrev no_value : Option (List ℕ)
no_value = None

neither : (b : Bool) → no_value ≡ (if b then None else None)
neither true = refl
neither false = refl

take_in : (ts : List CellTable) (next k : ℕ) (n : List ℕ)
    → value_in n (slice_get (take next ts) k) ≡ (if nat_lt k next then value_in n (slice_get ts k) else None)
take_in [] zero k n = neither (nat_lt k 0)
take_in [] (suc m) k n = neither (nat_lt k (suc m))
take_in (x ∷ ts) zero k n = rw (no_less k) refl
take_in (x ∷ ts) (suc m) zero n = rw (above_zero m) refl
take_in (x ∷ ts) (suc m) (suc k) n = rw (less_suc k m) (take_in ts m k n)

pub values_forgotten : (ts : List CellTable) (next : ℕ) → value_at (take next ts) ≡ forgotten next (value_at ts)
values_forgotten ts next = one_function _ _ (λ c. take_in ts next c.generation c.name)

added_in : (ts : List CellTable) (t : CellTable) → ((n : List ℕ) → in_table t n ≡ None) → (k : ℕ) (n : List ℕ)
    → value_in n (slice_get (ts ++ t ∷ []) k) ≡ value_in n (slice_get ts k)
added_in [] t h zero n = h n
added_in [] t h (suc k) n = refl
added_in (x ∷ ts) t h zero n = refl
added_in (x ∷ ts) t h (suc k) n = added_in ts t h k n

pub values_added : (ts : List CellTable) (t : CellTable) → ((n : List ℕ) → in_table t n ≡ None)
    → value_at (ts ++ t ∷ []) ≡ value_at ts
values_added ts t h = one_function _ _ (λ c. added_in ts t h c.generation c.name)

abbrev none_of : {V : Type 0} → Option V
none_of = None

neither_of : {V : Type 0} (b : Bool) → none_of {V = V} ≡ (if b then None else None)
neither_of true = refl
neither_of false = refl

-- a look-up after all keys that pass a test were removed
pub kept_lookup : {K V : Type 0} (name_of : K → List ℕ) (test : List ℕ → Bool) (n : List ℕ) (es : List (K × V))
    → lookup (λ k. bytes_eq n (name_of k)) (filter (λ e. not (test (name_of e.0))) es)
    ≡ (if test n then None else lookup (λ k. bytes_eq n (name_of k)) es)
kept_lookup name_of test n [] = neither_of (test n)
kept_lookup {K} {V} name_of test n (e ∷ es) = elim (cases_Bool (test (name_of e.0))) [
  | inl t ↦ elim (cases_Bool (bytes_eq n (name_of e.0))) [
    | inl s ↦
        let i : n ≡ name_of e.0 = (bytes_eq-Decides n (name_of e.0)).0 s in
        let u : test n ≡ true = ap test i ∙ t in
        rw (t, s) (kept_lookup name_of test n es ∙ rw u refl)
    | inr s ↦ rw (t, s) (kept_lookup name_of test n es)
  ]
  | inr t ↦ elim (cases_Bool (bytes_eq n (name_of e.0))) [
    | inl s ↦
        let i : n ≡ name_of e.0 = (bytes_eq-Decides n (name_of e.0)).0 s in
        let u : test n ≡ false = ap test i ∙ t in
        rw (t, s, u) refl
    | inr s ↦ rw (t, s) (kept_lookup name_of test n es)
  ]
]

-- what passes a test is removed from one table after another
set_in : (ts : List CellTable) (g : ℕ) (u : CellTable) → g < length ts → (k : ℕ) (n : List ℕ)
    → value_in n (slice_get (slice_set ts g u) k) ≡ (if g == k then in_table u n else value_in n (slice_get ts k))
set_in [] g u l k n = absurd (omega arith)
set_in (x ∷ ts) zero u l zero n = refl
set_in (x ∷ ts) zero u l (suc k) n = rw (zero_suc k) refl
set_in (x ∷ ts) (suc g) u l zero n = rw (suc_zero g) refl
set_in (x ∷ ts) (suc g) u l (suc k) n = rw (suc_suc g k) (set_in ts g u (omega arith) k n)

got_in : (ts : List CellTable) (g : ℕ) (t : CellTable) → g < length ts → t ≡ get_or ts g t → (n : List ℕ)
    → in_table t n ≡ value_in n (slice_get ts g)
got_in [] g t l e n = absurd (omega arith)
got_in (x ∷ ts) zero t l e n = ap (λ (z : CellTable). in_table z n) e
got_in (x ∷ ts) (suc g) t l e n = got_in ts g t (omega arith) e n

abbrev pub left_out : (Cell → Bool) → ℕ → Cells → Cells
left_out test g cells c = if nat_lt c.generation g && test c then None else cells c

not_less : (g : ℕ) → nat_lt g g ≡ false
not_less g = grind (arith, nat_tests)

less_next : (g : ℕ) → nat_lt g (suc g) ≡ true
less_next g = grind (arith, nat_tests)

same_number : (g k : ℕ) → (g == k) ≡ true → g ≡ k
same_number g k h = grind (arith, nat_tests)

other_number : (g k : ℕ) → (g == k) ≡ false → nat_lt k (suc g) ≡ nat_lt k g
other_number g k h = grind (arith, nat_tests)

own_left_out : (ts : List CellTable) (g : ℕ) (t u : CellTable) (test : Cell → Bool) (cells : Cells) → g < length ts
    → t ≡ get_or ts g t
    → ((n : List ℕ) → in_table u n ≡ (if test (record { generation = g; name = n }) then None else in_table t n))
    → value_at ts ≡ left_out test g cells → (n : List ℕ)
    → in_table u n ≡ left_out test (suc g) cells (record { generation = g; name = n })
own_left_out ts g t u test cells l e p h n =
    let c : Cell = record { generation = g; name = n } in
    let before : in_table t n ≡ cells c =
    got_in ts g t l e n ∙ ap (λ (z : Cells). z c) h ∙ rw (not_less g) refl in
    p n ∙ ap (λ (o : Option (List ℕ)). if test c then None else o) before ∙ rw (less_next g) refl

table_at : (ts : List CellTable) (g : ℕ) (t u : CellTable) (test : Cell → Bool) (cells : Cells) → g < length ts
    → t ≡ get_or ts g t
    → ((n : List ℕ) → in_table u n ≡ (if test (record { generation = g; name = n }) then None else in_table t n))
    → value_at ts ≡ left_out test g cells → (k : ℕ) (n : List ℕ)
    → value_in n (slice_get (slice_set ts g u) k) ≡ left_out test (suc g) cells (record { generation = k; name = n })
table_at ts g t u test cells l e p h k n = elim (cases_Bool (g == k)) [
  | inl s ↦
      set_in ts g u l k n ∙ rw s (own_left_out ts g t u test cells l e p h n)
      ∙ ap (λ (i : ℕ). left_out test (suc g) cells (record { generation = i; name = n })) (same_number g k s)
  | inr s ↦
      let c : Cell = record { generation = k; name = n } in
      set_in ts g u l k n ∙ rw s (ap (λ (z : Cells). z c) h)
      ∙ ap (λ (b : Bool). if b && test c then None else cells c) (sym (other_number g k s))
]

pub table_left_out : (ts : List CellTable) (g : ℕ) (t u : CellTable) (test : Cell → Bool) (cells : Cells) → g < length ts
    → t ≡ get_or ts g t
    → ((n : List ℕ) → in_table u n ≡ (if test (record { generation = g; name = n }) then None else in_table t n))
    → value_at ts ≡ left_out test g cells → value_at (slice_set ts g u) ≡ left_out test (suc g) cells
table_left_out ts g t u test cells l e p h =
    one_function _ _ (λ c. table_at ts g t u test cells l e p h c.generation c.name)

pub none_left_out : (ts : List CellTable) (test : Cell → Bool) → value_at ts ≡ left_out test 0 (value_at ts)
none_left_out ts test = one_function _ _ (λ c. rw (no_less c.generation) refl)

past_all : (ts : List CellTable) (k g : ℕ) (n : List ℕ) → length ts ≤ g → nat_lt k g ≡ false → value_in n (slice_get ts k) ≡ None
past_all ts k g n l h =
    let past : length ts ≤ k = grind (arith, nat_tests) in
    ap (value_in n) (slice_get_past ts k past)

all_at : (ts : List CellTable) (g : ℕ) (test : Cell → Bool) → length ts ≤ g → (c : Cell)
    → left_out test g (value_at ts) c ≡ (if test c then None else value_at ts c)
all_at ts g test l c = elim (cases_Bool (nat_lt c.generation g)) [
  | inl s ↦ rw s refl
  | inr s ↦
      let e : value_at ts c ≡ None = past_all ts c.generation g c.name l s in
      rw (s, e) (neither (test c))
]

pub all_left_out : (ts : List CellTable) (g : ℕ) (test : Cell → Bool) → length ts ≤ g
    → left_out test g (value_at ts) ≡ (λ c. if test c then None else value_at ts c)
all_left_out ts g test l = one_function _ _ (all_at ts g test l)

-- a table that was copied, entry by entry
entries_same : {K X : Type 0} (es fs : List (K × X)) → AllZip (λ p q. (q.0 ≡ p.0) × (q.1 ≡ p.1)) es fs → fs ≡ es
entries_same [] [] h = refl
entries_same [] (f ∷ fs) h = absurd h
entries_same (e ∷ es) [] h = absurd h
entries_same (e ∷ es) (f ∷ fs) h = λ i. (h.0.0 i, h.0.1 i) ∷ entries_same es fs h.1 i

pub same_entries : (t u : CellTable) → AllZip (λ p q. (q.0 ≡ p.0) × (q.1 ≡ p.1)) t.values.entries u.values.entries
    → (n : List ℕ) → in_table u n ≡ in_table t n
same_entries t u h n = ap (lookup (λ k. bytes_eq n k.now)) (entries_same t.values.entries u.values.entries h)
