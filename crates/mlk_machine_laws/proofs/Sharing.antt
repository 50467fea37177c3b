-- Which cells names share.
use Rattle.std.proofs.Common.{◌≡◌, ◌∙◌, ℕ, zero, suc, ◌<◌, Bool, true, false, List, [], ◌∷◌, ◌++◌, Option, Some, None, refl, sym, ap, subst, arith, drop, ⊎_elim}
use Rattle.std.specs.Prelude.{◌||◌, bytes_eq, Contains, Ok, Err, slice_get}
use Rattle.std.proofs.lemmas.Bool.{cases_Bool, or_parts}
use Rattle.std.proofs.lemmas.Slice.Eq.{bytes_eq-Decides}
use Rattle.std.proofs.lemmas.Option.{slice_get_within, get_or_from_slice_get}
use Rattle.std.proofs.lemmas.List.Elements.{Contains-get_or}
use Rattle.mlk_machine_locks.specs.Systems.{Act, alone, lone_run}
use Rattle.mlk_syntax.specs.ExprTrees.{ActualTree, Given, ByRef, Missing}
use Rattle.mlk_syntax.specs.Trees.{RoutineTree}
use Rattle.mlk_syntax.specs.Distinct.{AreDistinct}
use Rattle.mlk_program.specs.Entries.{lines_in}
use Rattle.mlk_program.specs.declared.entry.EntryId.{EntryId}
use Rattle.mlk_machine_jobs.specs.declared.choice.Choice.{Choice}
use Rattle.mlk_machine_jobs.specs.Bindings.{covers, Cell, same_cell, Fresh, ByReference, Bindings, look}
use Rattle.mlk_machine_jobs.specs.Tasks.{Job, LineTree}
use Rattle.mlk_machine_jobs.specs.Calling.{binder, binders, next_actual, later_actuals, formals_in, lines_after}
use Rattle.mlk_machine_jobs.specs.Choices.{Stepped}
use Rattle.mlk_machine_jobs.specs.Runs.{machine, blank}
use Rattle.mlk_machine_laws.specs.Tidy.{Below}
use Rattle.mlk_machine_laws.specs.Sharing.{binds, is_lent, FormalsDiffer}
use Rattle.mlk_machine_laws.specs.Laws.{SharedByReference}
use Rattle.mlk_machine_laws.proofs.Kept.{kept, untouched, stores, kills, news, as_block, as_frame, Move, stays, opens, ends, halts}
use Rattle.mlk_machine_laws.proofs.Killing.{differs, same_self}
use Rattle.mlk_machine_laws.proofs.Tidy.{Nested, Tidied, below_look, tidy_after, act_moves, begins}

-- no binder has the cell of this generation and name
abbrev pub Clear : ℕ → List ℕ → Bindings → Type 0
Clear g n [] = 0 < g
Clear g n (Fresh h names ∷ bs) = (covers names n ≡ true → h < g) × Clear g n bs
Clear g n (ByReference formal cell ∷ bs) = (cell.generation < g) × Clear g n bs

-- what is made new occurs nowhere behind it
abbrev pub Ordered : Bindings → Type 0
Ordered [] = Unit {0}
Ordered (Fresh g names ∷ bs) = ((n : List ℕ) → covers names n ≡ true → Clear g n bs) × Ordered bs
Ordered (ByReference formal cell ∷ bs) = Ordered bs

below_clear : (g : ℕ) (n : List ℕ) (bs : Bindings) → Below g bs → Clear g n bs
below_clear g n [] h = h
below_clear g n (Fresh x names ∷ bs) h = (λ u. h.0, below_clear g n bs h.1)
below_clear g n (ByReference f c ∷ bs) h = (h.0, below_clear g n bs h.1)

clear_behind : (g : ℕ) (n : List ℕ) (front bs : Bindings) → Clear g n (front ++ bs) → Clear g n bs
clear_behind g n [] bs h = h
clear_behind g n (Fresh x names ∷ front) bs h = clear_behind g n front bs h.1
clear_behind g n (ByReference f c ∷ front) bs h = clear_behind g n front bs h.1

clear_look : (g : ℕ) (n : List ℕ) (bs : Bindings) → Clear g n bs → (look bs n).generation < g
clear_look g n [] h = h
clear_look g n (Fresh x names ∷ bs) h = ⊎_elim (λ u. rw u (h.0 u)) (λ u. rw u (clear_look g n bs h.1)) (cases_Bool (covers names n))
clear_look g n (ByReference f c ∷ bs) h = ⊎_elim (λ u. rw u h.0) (λ u. rw u (clear_look g n bs h.1)) (cases_Bool (bytes_eq f n))

pub ordered_behind : (front bs : Bindings) → Ordered (front ++ bs) → Ordered bs
ordered_behind [] bs h = h
ordered_behind (Fresh x names ∷ front) bs h = ordered_behind front bs h.1
ordered_behind (ByReference f c ∷ front) bs h = ordered_behind front bs h

pub lent_behind : (front bs : Bindings) (d : Cell) → is_lent (front ++ bs) d ≡ false → is_lent bs d ≡ false
lent_behind [] bs d h = h
lent_behind (Fresh g names ∷ front) bs d h = lent_behind front bs d h
lent_behind (ByReference f c ∷ front) bs d h = lent_behind front bs d (or_parts (same_cell c d) (is_lent (front ++ bs) d) h).1

-- a cell that no formal shares by reference has the name that is bound to it
pub named : (bs : Bindings) (n : List ℕ) → is_lent bs (look bs n) ≡ false → (look bs n).name ≡ n
named [] n h = refl
named (Fresh g names ∷ bs) n h = ⊎_elim (λ u. rw u refl) (λ u. rw u (named bs n (rw u at h))) (cases_Bool (covers names n))
named (ByReference f c ∷ bs) n h =
    ⊎_elim
    (λ u.
    let k : (same_cell c c || is_lent bs c) ≡ false = rw u at h in
    differs (same_cell c c) (same_self c) (or_parts (same_cell c c) (is_lent bs c) k).0)
    (λ u.
    let k : (same_cell c (look bs n) || is_lent bs (look bs n)) ≡ false = rw u at h in
    rw u (named bs n (or_parts (same_cell c (look bs n)) (is_lent bs (look bs n)) k).1))
    (cases_Bool (bytes_eq f n))

-- a name bound in front has the cell that it has behind only by reference
bound_anew : (front bs : Bindings) (n : List ℕ) → Ordered (front ++ bs) → binds front n ≡ true → look (front ++ bs) n ≡ look bs n
    → is_lent (front ++ bs) (look bs n) ≡ false → ⊥
bound_anew [] bs n o h k t = differs false h refl
bound_anew (Fresh g names ∷ front) bs n o h k t =
    ⊎_elim
    (λ u.
    let z : record { generation = g; name = n } ≡ look bs n = rw u at k in
    let y : g ≡ (look bs n).generation = ap (λ (d : Cell). d.generation) z in
    let x = clear_look g n bs (clear_behind g n front bs (o.0 n u)) in
    absurd (omega (arith, x, y)))
    (λ u. let h1 : binds front n ≡ true = rw u at h in bound_anew front bs n o.1 h1 (rw u at k) t)
    (cases_Bool (covers names n))
bound_anew (ByReference f c ∷ front) bs n o h k t =
    let p = or_parts (same_cell c (look bs n)) (is_lent (front ++ bs) (look bs n)) t in
    ⊎_elim
    (λ u.
    let z : c ≡ look bs n = rw u at k in
    differs (same_cell c (look bs n)) (subst (λ x. same_cell c x ≡ true) z (same_self c)) p.0)
    (λ u. let h1 : binds front n ≡ true = rw u at h in bound_anew front bs n o h1 (rw u at k) p.1)
    (cases_Bool (bytes_eq f n))

pub shares : (bs : Bindings) → Ordered bs → (front back : Bindings) → bs ≡ front ++ back → (n m : List ℕ) → look bs n ≡ look back m
    → is_lent bs (look back m) ≡ false → (n ≡ m) × (binds front n ≡ false)
shares bs o front back e n m k t =
    let o' : Ordered (front ++ back) = subst Ordered e o in
    let k' : look (front ++ back) n ≡ look back m = subst (λ x. look x n ≡ look back m) e k in
    let t' : is_lent (front ++ back) (look back m) ≡ false = subst (λ x. is_lent x (look back m) ≡ false) e t in
    let its : (look back m).name ≡ m = named back m (lent_behind front back (look back m) t') in
    let own : (look (front ++ back) n).name ≡ n = named (front ++ back) n (subst (λ d. is_lent (front ++ back) d ≡ false) (sym k') t') in
    let same : n ≡ m = sym own ∙ ap (λ (d : Cell). d.name) k' ∙ its in (
      same,
      ⊎_elim
          (λ u. absurd (bound_anew front back n o' u (k' ∙ ap (look back) (sym same)) (subst (λ x. is_lent (front ++ back) (look back x) ≡ false) (sym same) t')))
          (λ u. u)
          (cases_Bool (binds front n)),
    )

-- what a call binds
clear_binders : (caller : Bindings) (g : ℕ) (fs : List (List ℕ)) (given : List ActualTree) (bs : Bindings) (n : List ℕ) → Below g caller
    → Below g bs → (Contains fs n → ⊥) → Clear g n (binders caller g fs given ++ bs)
clear_binders caller g [] given bs n h b none = below_clear g n bs b
clear_binders caller g (f ∷ fs) given bs n h b none = on (next_actual given) (clear_binders caller g fs (later_actuals given) bs n h b (λ (k, l, e). none (suc k, omega (arith, l), e)))
  where
    not_first : bytes_eq f n ≡ true → g < g
    not_first u = absurd (none (0, omega arith, (bytes_eq-Decides f n).0 u))

    on : (a : ActualTree) → Clear g n (binders caller g fs (later_actuals given) ++ bs)
        → Clear g n (binder caller g f a ∷ (binders caller g fs (later_actuals given) ++ bs))
    on (ByRef column name) rest = (below_look g caller name h, rest)
    on (Given t) rest = (not_first, rest)
    on Missing rest = (not_first, rest)

pub ordered_binders : (caller : Bindings) (g : ℕ) (fs : List (List ℕ)) (given : List ActualTree) (bs : Bindings) → AreDistinct fs → Below g caller
    → Below g bs → Ordered bs → Ordered (binders caller g fs given ++ bs)
ordered_binders caller g [] given bs d h b o = o
ordered_binders caller g (f ∷ fs) given bs d h b o = on (next_actual given) (ordered_binders caller g fs (later_actuals given) bs d.1 h b o)
  where
    first : (n : List ℕ) → bytes_eq f n ≡ true → Clear g n (binders caller g fs (later_actuals given) ++ bs)
    first n u =
        subst (λ x. Clear g x (binders caller g fs (later_actuals given) ++ bs)) ((bytes_eq-Decides f n).0 u)
        (clear_binders caller g fs (later_actuals given) bs f h b d.0)

    on : (a : ActualTree) → Ordered (binders caller g fs (later_actuals given) ++ bs)
        → Ordered (binder caller g f a ∷ (binders caller g fs (later_actuals given) ++ bs))
    on (ByRef column name) rest = rest
    on (Given t) rest = (first, rest)
    on Missing rest = (first, rest)

-- the line that a call enters
dropped_there : (k : ℕ) (xs : List LineTree) (x : LineTree) (rest : List LineTree) → drop k xs ≡ x ∷ rest → Contains xs x
dropped_there zero xs x rest e = subst (λ l. Contains l x) (sym e) (0, omega arith, refl)
dropped_there (suc k) [] x rest e = cc
dropped_there (suc k) (y ∷ xs) x rest e = let r = dropped_there k xs x rest e in let l = r.1 in (suc r.0, omega (arith, l), r.2)

line_differs : (routines : List RoutineTree) → FormalsDiffer routines → (e : EntryId) (l : LineTree) (lines : List LineTree)
    → lines_after routines e ≡ l ∷ lines → AreDistinct (formals_in l.0)
line_differs routines d e l lines is = on (slice_get routines e.routine) refl
  where
    on : (o : Option RoutineTree) → slice_get routines e.routine ≡ o → AreDistinct (formals_in l.0)
    on None q = let z : [] ≡ l ∷ lines = rw q at is in cc
    on (Some tree) q =
        let z : drop e.line (lines_in tree) ≡ l ∷ lines = rw q at is in
        let there : Contains routines tree =
        subst (Contains routines) (get_or_from_slice_get routines e.routine tree tree q) (Contains-get_or routines e.routine tree (slice_get_within routines e.routine tree q)) in
        d tree there l (dropped_there e.line (lines_in tree) l lines z)

-- each step
ordered_after : (routines : List RoutineTree) → FormalsDiffer routines → (j i : Job) → Tidied j → Ordered j.bindings → Move routines j i
    → Ordered i.bindings
ordered_after routines d j i t o (stays e (untouched b n x)) = rw b o
ordered_after routines d j i t o (stays e (stores name value h b n x)) = rw b o
ordered_after routines d j i t o (stays e (kills names h b n x)) = rw b o
ordered_after routines d j i t o (stays e (news names b n x)) = rw b (λ m u. below_clear j.next m j.bindings t.older, o)
ordered_after routines d j i t o (opens test e h (as_block b n x)) = rw b o
ordered_after routines d j i t o (opens test m h (as_frame e head body lines is given values b n x)) =
    rw b (ordered_binders j.bindings j.next (formals_in head) given j.bindings (line_differs routines d e (head, body) lines is) t.older t.older o)
ordered_after routines d j i t o (ends k e b n x h) =
    let there : Nested j.bindings j.next (k ∷ kept i.tasks) = subst (Nested j.bindings j.next) e t.nested in
    rw b (ordered_behind there.0 k.back (subst Ordered there.1 o))
ordered_after routines d j i t o (halts e b n x) = rw b o

module _ (routines : List RoutineTree) (declared : EntryId → Bool) (d : FormalsDiffer routines) where
  run_ordered : (acts : List (Act Choice EntryId)) (j i : Job) → Tidied j → Ordered j.bindings → lone_run (machine routines declared) acts j ≡ Ok i
      → Ordered i.bindings
  run_ordered [] j i t o h = let e : j ≡ i = cc in subst (λ (z : Job). Ordered z.bindings) e o
  run_ordered (x ∷ acts) j i t o h = on (alone (machine routines declared) x j) refl (run_ordered acts)
    where
      on : (s : Stepped) → alone (machine routines declared) x j ≡ s
          → ((k z : Job) → Tidied k → Ordered k.bindings → lone_run (machine routines declared) acts k ≡ Ok z → Ordered z.bindings)
          → Ordered i.bindings
      on (Err why) e rest = let z : Err why ≡ Ok i = rw e at h in cc
      on (Ok k) e rest =
          let m : Move routines j k = act_moves routines declared x j k e in
          rest k i (tidy_after routines j k t m) (ordered_after routines d j k t o m) (rw e at h)

  pub at_moment : (e : EntryId) (test : Bool) (values : List (Option (List ℕ))) (k : ℕ) (first j : Job) (acts : List (Act Choice EntryId))
      → (machine routines declared).begin e test values k ≡ Ok first → lone_run (machine routines declared) acts first ≡ Ok j → Ordered j.bindings
  at_moment e test values k first j acts b r =
      let blank_tidy : Tidied (blank k test values) = record { nested = tt; older = omega arith; unset = λ c l. refl } in
      let m = begins routines declared e test values k first b in
      run_ordered acts first j (tidy_after routines (blank k test values) first blank_tidy m) (ordered_after routines d (blank k test values) first blank_tidy tt m) r

pub shared_by_reference : SharedByReference
shared_by_reference routines declared d e test values k first j acts b r front back is n m same lent =
    shares j.bindings (at_moment routines declared d e test values k first j acts b r) front back is n m same lent
