-- KILL, by names and by cells.
use Rattle.std.proofs.Common.{◌≡◌, ◌∙◌, ℕ, zero, suc, Bool, true, false, List, [], ◌∷◌, None, refl, sym, ap, subst, inl, inr, arith, ⊎_elim}
use Rattle.std.specs.Prelude.{◌⊎◌, ◌==◌, ◌&&◌, bytes_eq, Contains, Ok}
use Rattle.std.specs.List.{list_any}
use Rattle.std.proofs.lemmas.Bool.{cases_Bool, and_parts, and_from, or_cases, or_left, or_right, eq-eqb, eqb-true}
use Rattle.std.proofs.lemmas.Slice.Eq.{bytes_eq-Decides}
use Rattle.mlk_machine_jobs.specs.Bindings.{Names, Only, AllBut, covers, Cell, Fresh, ByReference, Bindings, Cells, look, killed, same_cell, is_named, is_spared, is_shared_by_formal}
use Rattle.mlk_machine_jobs.specs.Tasks.{Task, Job}
use Rattle.mlk_machine_jobs.specs.Choices.{without_choice, doing}
use Rattle.mlk_machine_jobs.specs.Advance.{advance}
use Rattle.mlk_machine_laws.specs.Tidy.{IsListed, AreKilled}
use Rattle.mlk_machine_laws.specs.Laws.{KillIsExact}
use Rattle.mlk_machine_laws.proofs.Tidy.{unasked_is}

pub differs : {A : Type 0} (b : Bool) → b ≡ true → b ≡ false → A
differs b h k = let e : true ≡ false = sym h ∙ k in cc

pub same_is : (c d : Cell) → same_cell c d ≡ true → c ≡ d
same_is c d h =
    let p = and_parts (c.generation == d.generation) (bytes_eq c.name d.name) h in
    let a : c.generation ≡ d.generation = eqb-true c.generation d.generation p.0 in
    let b : c.name ≡ d.name = (bytes_eq-Decides c.name d.name).0 p.1 in
    let e : record { generation = c.generation; name = c.name } ≡ record { generation = d.generation; name = d.name } = cc in
    e

pub same_self : (d : Cell) → same_cell d d ≡ true
same_self d = and_from (d.generation == d.generation) (bytes_eq d.name d.name) (eq-eqb d.generation d.generation refl) ((bytes_eq-Decides d.name d.name).1 refl)

-- a cell that belongs to the names is bound to one of them
shared_name : (bs r : Bindings) (names : Names) (d : Cell) → is_shared_by_formal bs r names d ≡ true → (n : List ℕ) × (covers names n ≡ true) × (look bs n ≡ d)
shared_name bs [] names d h = differs false h refl
shared_name bs (Fresh g k ∷ r) names d h = shared_name bs r names d h
shared_name bs (ByReference f c ∷ r) names d h =
    ⊎_elim
    (λ u. let p = and_parts (covers names f) (same_cell (look bs f) d) u in (f, p.0, same_is (look bs f) d p.1))
    (λ u. shared_name bs r names d u)
    (or_cases (covers names f && same_cell (look bs f) d) (is_shared_by_formal bs r names d) h)

pub named_by : (bs : Bindings) (names : Names) (d : Cell) → is_named bs names d ≡ true → (n : List ℕ) × (covers names n ≡ true) × (look bs n ≡ d)
named_by bs names d h =
    ⊎_elim
    (λ u. let p = and_parts (covers names d.name) (same_cell (look bs d.name) d) u in (d.name, p.0, same_is (look bs d.name) d p.1))
    (λ u. shared_name bs bs names d u)
    (or_cases (covers names d.name && same_cell (look bs d.name) d) (is_shared_by_formal bs bs names d) h)

-- a name is its cell's name, or is a formal that shares the cell
own_or_shared : (bs r : Bindings) (names : Names) (n : List ℕ) → covers names n ≡ true → (d : Cell) → look bs n ≡ d → look r n ≡ d
    → (d.name ≡ n) ⊎ (is_shared_by_formal bs r names d ≡ true)
own_or_shared bs [] names n u d h k = inl (ap (λ (c : Cell). c.name) (sym k))
own_or_shared bs (Fresh g x ∷ r) names n u d h k =
    ⊎_elim
    (λ w. inl (let z : record { generation = g; name = n } ≡ d = rw w at k in ap (λ (c : Cell). c.name) (sym z)))
    (λ w. own_or_shared bs r names n u d h (rw w at k))
    (cases_Bool (covers x n))
own_or_shared bs (ByReference f c ∷ r) names n u d h k =
    ⊎_elim
    (λ w.
    let z : f ≡ n = (bytes_eq-Decides f n).0 w in
    let a : covers names f ≡ true = rw z u in
    let b : same_cell (look bs f) d ≡ true = rw (z, h) (same_self d) in
    inr (or_left (covers names f && same_cell (look bs f) d) (is_shared_by_formal bs r names d) (and_from (covers names f) (same_cell (look bs f) d) a b)))
    (λ w. ⊎_elim (λ q. inl q) (λ q. inr (or_right (covers names f && same_cell (look bs f) d) (is_shared_by_formal bs r names d) q)) (own_or_shared bs r names n u d h (rw w at k)))
    (cases_Bool (bytes_eq f n))

pub is_named_by : (bs : Bindings) (names : Names) (n : List ℕ) → covers names n ≡ true → is_named bs names (look bs n) ≡ true
is_named_by bs names n u =
    let d = look bs n in
    ⊎_elim
    (λ z.
    let a : covers names d.name ≡ true = subst (λ x. covers names x ≡ true) (sym z) u in
    let b : same_cell (look bs d.name) d ≡ true = subst (λ x. same_cell (look bs x) d ≡ true) (sym z) (same_self d) in
    or_left (covers names d.name && same_cell (look bs d.name) d) (is_shared_by_formal bs bs names d) (and_from (covers names d.name) (same_cell (look bs d.name) d) a b))
    (λ z. or_right (covers names d.name && same_cell (look bs d.name) d) (is_shared_by_formal bs bs names d) z)
    (own_or_shared bs bs names n u d refl refl)

-- a name that is spared
some_listed : (bs : Bindings) (ms : List (List ℕ)) (c : Cell) → list_any (λ n. same_cell (look bs n) c) ms ≡ true → (m : List ℕ) × Contains ms m × (look bs m ≡ c)
some_listed bs [] c h = differs false h refl
some_listed bs (m ∷ ms) c h =
    ⊎_elim
    (λ u. (m, (0, omega arith, refl), same_is (look bs m) c u))
    (λ u. let r = some_listed bs ms c u in let l = r.1.1 in (r.0, (suc r.1.0, omega (arith, l), r.1.2), r.2))
    (or_cases (same_cell (look bs m) c) (list_any (λ n. same_cell (look bs n) c) ms) h)

listed_some : (bs : Bindings) (ms : List (List ℕ)) (m : List ℕ) → Contains ms m → list_any (λ n. same_cell (look bs n) (look bs m)) ms ≡ true
listed_some bs [] m (k, l, e) = absurd (omega (arith, l))
listed_some bs (x ∷ ms) m (zero, l, e) =
    let s : same_cell (look bs x) (look bs m) ≡ true = rw (ap (look bs) e) (same_self (look bs m)) in
    or_left (same_cell (look bs x) (look bs m)) (list_any (λ n. same_cell (look bs n) (look bs m)) ms) s
listed_some bs (x ∷ ms) m (suc k, l, e) =
    or_right (same_cell (look bs x) (look bs m)) (list_any (λ n. same_cell (look bs n) (look bs m)) ms) (listed_some bs ms m (k, omega (arith, l), e))

spared_by : (bs : Bindings) (names : Names) (c : Cell) → is_spared bs names c ≡ true → (m : List ℕ) × IsListed names m × (look bs m ≡ c)
spared_by bs (Only name) c h = differs false h refl
spared_by bs (AllBut ms) c h = some_listed bs ms c h

is_spared_by : (bs : Bindings) (names : Names) (m : List ℕ) → IsListed names m → is_spared bs names (look bs m) ≡ true
is_spared_by bs (Only name) m h = absurd h
is_spared_by bs (AllBut ms) m h = listed_some bs ms m h

taken : (bs : Bindings) (names : Names) (cells : Cells) (c : Cell) → is_named bs names c ≡ true → is_spared bs names c ≡ false → killed bs names cells c ≡ None
taken bs names cells c n s = rw (n, s) refl

kept_spared : (bs : Bindings) (names : Names) (cells : Cells) (c : Cell) → is_spared bs names c ≡ true → killed bs names cells c ≡ cells c
kept_spared bs names cells c s =
    ⊎_elim (λ (u : is_named bs names c ≡ true). rw (u, s) refl) (λ (u : is_named bs names c ≡ false). rw u refl) (cases_Bool (is_named bs names c))

pub kept_other : (bs : Bindings) (names : Names) (cells : Cells) (c : Cell) → is_named bs names c ≡ false → killed bs names cells c ≡ cells c
kept_other bs names cells c n = rw n refl

are_killed : (names : Names) (j : Job) (ts : List Task) → AreKilled names j (doing ts (record j { cells = killed j.bindings names j.cells }))
are_killed names j ts = record {
  gone = λ n u none.
      taken j.bindings names j.cells (look j.bindings n) (is_named_by j.bindings names n u)
      (⊎_elim (λ s. let l = spared_by j.bindings names (look j.bindings n) s in absurd (none l.0 l.1 l.2)) (λ s. s) (cases_Bool (is_spared j.bindings names (look j.bindings n))));
  left = λ m l. kept_spared j.bindings names j.cells (look j.bindings m) (is_spared_by j.bindings names m l);
  others = λ c none.
      kept_other j.bindings names j.cells c
      (⊎_elim (λ s. let l = named_by j.bindings names c s in absurd (none l.0 l.1 l.2)) (λ s. s) (cases_Bool (is_named j.bindings names c)));
}

pub kill_is_exact : KillIsExact
kill_is_exact routines j names ts free c i is h =
    let step : without_choice c (Ok (doing ts (record j { cells = killed j.bindings names j.cells }))) ≡ Ok i =
    subst (λ l. advance routines free c j l ≡ Ok i) is h in
    subst (λ (z : Job). AreKilled names j z) (unasked_is c _ i step) (are_killed names j ts)
