-- The effect of each step on what names are bound to.
use Rattle.std.proofs.Common.{◌≡◌, ◌∙◌, ℕ, suc, ◌<◌, ◌≤◌, Bool, true, false, List, [], ◌∷◌, ◌++◌, map, append_assoc, Option, None, refl, sym, ap, subst, arith, ⊎_elim}
use Rattle.std.specs.Prelude.{◌==◌, ◌&&◌, not, nat_lt, bytes_eq, length, Ok, Err}
use Rattle.std.proofs.lemmas.Bool.{cases_Bool, ne_eqb}
use Rattle.mlk_machine_locks.specs.declared.refusal.Refusal.TheVariants.{NotEnabled, BadChoice}
use Rattle.mlk_machine_locks.specs.Systems.{Act, Begin, Go, Abort, alone, lone_run}
use Rattle.mlk_syntax.specs.ExprTrees.{ActualTree, Given, ByRef, Missing}
use Rattle.mlk_syntax.specs.Trees.{RoutineTree}
use Rattle.mlk_program.specs.declared.entry.EntryId.{EntryId}
use Rattle.mlk_machine_jobs.specs.declared.choice.Choice.{Choice}
use Rattle.mlk_machine_jobs.specs.declared.choice.Choice.TheVariants as choice
use Rattle.mlk_machine_jobs.specs.Bindings.{Names, covers, Cell, Fresh, ByReference, Bindings, Cells, look, put_value, killed, forgotten, same_cell, is_named, is_spared}
use Rattle.mlk_machine_jobs.specs.Tasks.{Job, NoValue, Mark, BlockMark, FrameMark, marks}
use Rattle.mlk_machine_jobs.specs.Calling.{binder, binders, with_actuals, next_actual, later_actuals, lines_after, formals_in}
use Rattle.mlk_machine_jobs.specs.Choices.{Stepped, without_choice, doing}
use Rattle.mlk_machine_jobs.specs.Advance.{advance}
use Rattle.mlk_machine_jobs.specs.Runs.{machine, is_job_number, blank, by_value, formals_at}
use Rattle.mlk_machine_laws.specs.Tidy.{Below, AreNested, AreNew}
use Rattle.mlk_machine_laws.specs.Laws.{EachIsTidy, NewIsNew}
use Rattle.mlk_machine_laws.proofs.Kept.{Kept, kept_by, kept, Bound, untouched, stores, kills, news, Opened, as_block, as_frame, Move, stays, opens, ends, halts, Moves, refused, of_if, of_entered}
use Rattle.mlk_machine_laws.proofs.Moves.{moves, stops}
use Rattle.mlk_machine_laws.proofs.Scopes.{is_forgotten}

-- generations
pub below_look : (g : ℕ) (bs : Bindings) (n : List ℕ) → Below g bs → (look bs n).generation < g
below_look g [] n h = h
below_look g (Fresh k names ∷ bs) n h = ⊎_elim (λ u. rw u h.0) (λ u. rw u (below_look g bs n h.1)) (cases_Bool (covers names n))
below_look g (ByReference f c ∷ bs) n h = ⊎_elim (λ u. rw u h.0) (λ u. rw u (below_look g bs n h.1)) (cases_Bool (bytes_eq f n))

pub below_more : (g k : ℕ) → g ≤ k → (bs : Bindings) → Below g bs → Below k bs
below_more g k le [] h = omega (arith, h, le)
below_more g k le (Fresh x names ∷ bs) h = let a = h.0 in (omega (arith, a, le), below_more g k le bs h.1)
below_more g k le (ByReference f c ∷ bs) h = let a = h.0 in (omega (arith, a, le), below_more g k le bs h.1)

-- another generation is another cell
pub other_cell : (c d : Cell) → c.generation < d.generation → same_cell c d ≡ false
other_cell c d l = let e : (c.generation == d.generation) ≡ false = ne_eqb c.generation d.generation (λ z. omega (arith, z, l)) in rw e refl

pub put_other : (c d : Cell) (v : List ℕ) (cells : Cells) → c.generation < d.generation → put_value c v cells d ≡ cells d
put_other c d v cells l = rw (other_cell c d l) refl

killed_unset : (bs : Bindings) (names : Names) (cells : Cells) (c : Cell) → cells c ≡ None → killed bs names cells c ≡ None
killed_unset bs names cells c h =
    ⊎_elim (λ (u : (is_named bs names c && not (is_spared bs names c)) ≡ true). rw u refl) (λ (u : (is_named bs names c && not (is_spared bs names c)) ≡ false). rw u h)
    (cases_Bool (is_named bs names c && not (is_spared bs names c)))

-- what a call binds
binder_below : (caller : Bindings) (g : ℕ) (f : List ℕ) (a : ActualTree) (bs : Bindings) → Below g caller → Below (suc g) bs
    → Below (suc g) (binder caller g f a ∷ bs)
binder_below caller g f (ByRef column name) bs h b = let l = below_look g caller name h in (omega (arith, l), b)
binder_below caller g f (Given t) bs h b = (omega arith, b)
binder_below caller g f Missing bs h b = (omega arith, b)

pub binders_below : (caller : Bindings) (g : ℕ) (fs : List (List ℕ)) (given : List ActualTree) (bs : Bindings) → Below g caller → Below (suc g) bs
    → Below (suc g) (binders caller g fs given ++ bs)
binders_below caller g [] given bs h b = b
binders_below caller g (f ∷ fs) given bs h b =
    binder_below caller g f (next_actual given) (binders caller g fs (later_actuals given) ++ bs) h
    (binders_below caller g fs (later_actuals given) bs h b)

actuals_elsewhere : (g : ℕ) (fs : List (List ℕ)) (given : List ActualTree) (values : List (List ℕ)) (cells : Cells) (c : Cell) → suc g ≤ c.generation
    → with_actuals g fs given values cells c ≡ cells c
actuals_elsewhere g [] given values cells c l = refl
actuals_elsewhere g (f ∷ fs) [] values cells c l = refl
actuals_elsewhere g (f ∷ fs) (Given t ∷ given) [] cells c l = refl
actuals_elsewhere g (f ∷ fs) (Given t ∷ given) (v ∷ values) cells c l =
    actuals_elsewhere g fs given values (put_value (record { generation = g; name = f }) v cells) c l
    ∙ put_other (record { generation = g; name = f }) c v cells (omega (arith, l))
actuals_elsewhere g (f ∷ fs) (ByRef column name ∷ given) values cells c l = actuals_elsewhere g fs given values cells c l
actuals_elsewhere g (f ∷ fs) (Missing ∷ given) values cells c l = actuals_elsewhere g fs given values cells c l

-- what blocks and frames restore, and that it is of generations before their own
abbrev pub Nested : Bindings → ℕ → List Kept → Type 0
Nested bs n [] = Unit {0}
Nested bs n (k ∷ ks) = (front : Bindings) × (bs ≡ front ++ k.back) × Below k.next k.back × (k.next ≤ n) × Nested k.back k.next ks

deeper : (more bs : Bindings) (n m : ℕ) (ks : List Kept) → n ≤ m → Nested bs n ks → Nested (more ++ bs) m ks
deeper more bs n m [] le h = tt
deeper more bs n m (k ∷ ks) le (front, e, b, l, rest) =
    (more ++ front, ap (λ x. more ++ x) e ∙ sym (append_assoc more front k.back), b, omega (arith, l, le), rest)

pub record Tidied (j : Job) : Type 0 where
  pub nested : Nested j.bindings j.next (kept j.tasks)
  pub older : Below j.next j.bindings
  pub unset : (c : Cell) → j.next ≤ c.generation → j.cells c ≡ None

-- the same for other names, cells and tasks
given_by : (bs : Bindings) (n : ℕ) (cells : Cells) (ks : List Kept) (i : Job) → i.bindings ≡ bs → i.next ≡ n → i.cells ≡ cells → kept i.tasks ≡ ks
    → Nested bs n ks → Below n bs → ((c : Cell) → n ≤ c.generation → cells c ≡ None) → Tidied i
given_by bs n cells ks i b m x e nested older unset =
    record { nested = rw (b, m, e) nested; older = rw (b, m) older; unset = λ c l. ap (λ q. q c) x ∙ unset c (rw m at l) }

stay_tidy : (j i : Job) → Tidied j → kept i.tasks ≡ kept j.tasks → Bound j i → Tidied i
stay_tidy j i t e (untouched b n x) = given_by j.bindings j.next j.cells (kept j.tasks) i b n x e t.nested t.older t.unset
stay_tidy j i t e (stores name value h b n x) =
    given_by j.bindings j.next (put_value (look j.bindings name) value j.cells) (kept j.tasks) i b n x e t.nested t.older
    (λ c l. put_other (look j.bindings name) c value j.cells (let y = below_look j.next j.bindings name t.older in omega (arith, y, l)) ∙ t.unset c l)
stay_tidy j i t e (kills names h b n x) =
    given_by j.bindings j.next (killed j.bindings names j.cells) (kept j.tasks) i b n x e t.nested t.older
    (λ c l. killed_unset j.bindings names j.cells c (t.unset c l))
stay_tidy j i t e (news names b n x) =
    given_by (Fresh j.next names ∷ j.bindings) (suc j.next) j.cells (kept j.tasks) i b n x e
    (deeper (Fresh j.next names ∷ []) j.bindings j.next (suc j.next) (kept j.tasks) (omega arith) t.nested)
    (omega arith, below_more j.next (suc j.next) (omega arith) j.bindings t.older)
    (λ c l. t.unset c (omega (arith, l)))

open_tidy : (routines : List RoutineTree) (j i : Job) (test : Option Bool) → Tidied j → kept i.tasks ≡ record { back = j.bindings; next = j.next; test = test } ∷ kept j.tasks
    → Opened routines j i → Tidied i
open_tidy routines j i test t e (as_block b n x) =
    given_by j.bindings j.next j.cells (record { back = j.bindings; next = j.next; test = test } ∷ kept j.tasks) i b n x e
    ([], refl, t.older, omega arith, t.nested) t.older t.unset
open_tidy routines j i test t m (as_frame e head body lines is given values b n x) =
    given_by (binders j.bindings j.next (formals_in head) given ++ j.bindings) (suc j.next) (with_actuals j.next (formals_in head) given values j.cells)
    (record { back = j.bindings; next = j.next; test = test } ∷ kept j.tasks) i b n x m
    (binders j.bindings j.next (formals_in head) given, refl, t.older, omega arith, t.nested)
    (binders_below j.bindings j.next (formals_in head) given j.bindings t.older (below_more j.next (suc j.next) (omega arith) j.bindings t.older))
    (λ c l. actuals_elsewhere j.next (formals_in head) given values j.cells c l ∙ t.unset c (omega (arith, l)))

pub tidy_after : (routines : List RoutineTree) (j i : Job) → Tidied j → Move routines j i → Tidied i
tidy_after routines j i t (stays e o) = stay_tidy j i t e o
tidy_after routines j i t (opens test e h o) = open_tidy routines j i test t e o
tidy_after routines j i t (ends k e b n x h) =
    let there : Nested j.bindings j.next (k ∷ kept i.tasks) = subst (Nested j.bindings j.next) e t.nested in
    given_by k.back k.next (forgotten k.next j.cells) (kept i.tasks) i b n x refl there.4 there.2 (is_forgotten k.next j.cells)
tidy_after routines j i t (halts e b n x) = given_by j.bindings j.next j.cells [] i b n x e tt t.older t.unset

module _ (routines : List RoutineTree) (declared : EntryId → Bool) where
  pub begins : (e : EntryId) (test : Bool) (values : List (Option (List ℕ))) (k : ℕ) → Moves routines (blank k test values) ((machine routines declared).begin e test values k)
  begins e test values k =
      of_if routines (blank k test values) (declared e && is_job_number k) _ _
      (of_if routines (blank k test values) (nat_lt (formals_at (lines_after routines e)) (length values)) _ _ (refused routines (blank k test values) BadChoice)
      (of_entered routines (blank k test values) NoValue e.routine (by_value values) e (lines_after routines e) refl [] (blank k test values) refl refl refl refl (λ t h. cc)))
      (refused routines (blank k test values) NotEnabled)

  pub act_moves : (a : Act Choice EntryId) (j i : Job) → alone (machine routines declared) a j ≡ Ok i → Move routines j i
  act_moves (Begin e test values) j i h = cc
  act_moves (Go c) j i h = moves routines (λ _. true) c j j.tasks refl i h
  act_moves Abort j i h = stops routines j j.tasks i h

  run_tidy : (acts : List (Act Choice EntryId)) (j i : Job) → Tidied j → lone_run (machine routines declared) acts j ≡ Ok i → Tidied i
  run_tidy [] j i t h = let e : j ≡ i = cc in subst Tidied e t
  run_tidy (x ∷ acts) j i t h = on (alone (machine routines declared) x j) refl (run_tidy acts)
    where
      on : (s : Stepped) → alone (machine routines declared) x j ≡ s
          → ((k z : Job) → Tidied k → lone_run (machine routines declared) acts k ≡ Ok z → Tidied z) → Tidied i
      on (Err why) e rest = let z : Err why ≡ Ok i = rw e at h in cc
      on (Ok k) e rest = rest k i (tidy_after routines j k t (act_moves x j k e)) (rw e at h)

  pub tidied : (e : EntryId) (test : Bool) (values : List (Option (List ℕ))) (k : ℕ) (first j : Job) (acts : List (Act Choice EntryId))
      → (machine routines declared).begin e test values k ≡ Ok first → lone_run (machine routines declared) acts first ≡ Ok j → Tidied j
  tidied e test values k first j acts b r =
      let blank_tidy : Tidied (blank k test values) = record { nested = tt; older = omega arith; unset = λ c l. refl } in
      run_tidy acts first j (tidy_after routines (blank k test values) first blank_tidy (begins e test values k first b)) r

-- for the marks themselves
marks_nested : (bs : Bindings) (n : ℕ) (ms : List Mark) → Nested bs n (map kept_by ms) → AreNested bs ms
marks_nested bs n [] h = tt
marks_nested bs n (BlockMark back next test ∷ ms) (front, e, b, l, rest) = (front, e, marks_nested back next ms rest)
marks_nested bs n (FrameMark frame back next routine ∷ ms) (front, e, b, l, rest) = (front, e, marks_nested back next ms rest)

pub each_is_tidy : EachIsTidy
each_is_tidy routines declared e test values k first j acts b r =
    let t = tidied routines declared e test values k first j acts b r in
    record { nested = marks_nested j.bindings j.next (marks j.tasks) t.nested; older = t.older; unset = t.unset }

pub unasked_is : (c : Choice) (k i : Job) → without_choice c (Ok k) ≡ Ok i → k ≡ i
unasked_is choice.None k i h = cc
unasked_is (choice.Value v) k i h = cc
unasked_is (choice.Truth t) k i h = cc

-- a name bound to a new cell, and another
new_look : (names : Names) (g : ℕ) (bs : Bindings) (n : List ℕ) → covers names n ≡ true → look (Fresh g names ∷ bs) n ≡ record { generation = g; name = n }
new_look names g bs n u = rw u refl

new_alone : (names : Names) (g : ℕ) (bs : Bindings) → Below g bs → (n m : List ℕ) → covers names n ≡ true
    → look (Fresh g names ∷ bs) m ≡ look (Fresh g names ∷ bs) n → m ≡ n
new_alone names g bs b n m u e =
    let at : look (Fresh g names ∷ bs) m ≡ record { generation = g; name = n } = e ∙ new_look names g bs n u in
    ⊎_elim
    (λ (w : covers names m ≡ true). ap (λ (c : Cell). c.name) (sym (new_look names g bs m w) ∙ at))
    (λ (w : covers names m ≡ false).
    let old : look bs m ≡ record { generation = g; name = n } = rw w at at in
    let z : (look bs m).generation ≡ g = ap (λ (c : Cell). c.generation) old in
    let l = below_look g bs m b in absurd (omega (arith, z, l)))
    (cases_Bool (covers names m))

pub new_is_new : NewIsNew
new_is_new routines declared e test values k first j acts b r names ts free c i is h =
    let t = tidied routines declared e test values k first j acts b r in
    let step : without_choice c (Ok (doing ts (record j { bindings = Fresh j.next names ∷ j.bindings; next = suc j.next }))) ≡ Ok i =
    subst (λ l. advance routines free c j l ≡ Ok i) is h in
    subst (λ (z : Job). AreNew names z) (unasked_is c _ i step) (record {
      unset = λ n u. rw u (t.unset (record { generation = j.next; name = n }) (omega arith));
      alone = new_alone names j.next j.bindings t.older;
    })
