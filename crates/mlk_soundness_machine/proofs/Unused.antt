-- Values without symbols: some are dropped, or one replaces them.
use Rattle.std.proofs.Common.{◌≡◌, ℕ, zero, suc, ◌+◌, ◌-◌, ◌≤◌, true, false, List, [], ◌∷◌, ◌++◌, length, take, drop, reverse, None, refl, sym, ap, ◌∙◌, subst, arith, length-append, ⊎_elim}
use Rattle.std.proofs.lemmas.List.{reverse-append}
use Rattle.std.proofs.Math.Seq.{drop-append_seam, take-append_seam}
use Rattle.mlk_names.specs.declared.symbol.Sym.{Sym}
use Rattle.mlk_names.specs.declared.symbol.Sym.TheVariants as symbol
use Rattle.mlk_names.specs.declared.reference.Extent.TheVariants.{Tree}
use Rattle.mlk_names.specs.declared.reference.Access.TheVariants.{Reads}
use Rattle.mlk_names.specs.Symbols.{Assignment}
use Rattle.mlk_rules.specs.Computed.{answer}
use Rattle.mlk_syntax.specs.Trees.{RoutineTree}
use Rattle.mlk_machine_jobs.specs.Tasks as task
use Rattle.mlk_machine_jobs.specs.Tasks.{Task, Job}
use Rattle.mlk_machine_jobs.specs.Choices.{pushed, dropped, doing}
use Rattle.mlk_walk_state.specs.declared.state.State.{State}
use Rattle.mlk_walk_state.specs.Scope.{Scope}
use Rattle.mlk_walk_state.specs.States.{last_captured, without_last, with_symbol}
use Rattle.mlk_soundness_machine.specs.Reads.{now}
use Rattle.mlk_soundness_machine.specs.Described.{is_local, some_local, World, Level, Slot, Kept, Bare, Blank, Fills, idle, Describes}
use Rattle.mlk_soundness_machine.proofs.Reading.{differs, local_front, local_last}
use Rattle.mlk_soundness_machine.proofs.Stack.{kepts, taken, back_one, whole, others_are, others_turned, last_are, dropped_are}
use Rattle.mlk_soundness_machine.proofs.Steps.{done, unasked, of_value}
use Rattle.mlk_soundness_machine.proofs.Values.{Safe, Fits, plain_step}
use Rattle.mlk_soundness_machine.proofs.Worlds.{push_law}
use Rattle.mlk_soundness_machine.proofs.Touches.{FitsAny, form, forget_law, referring}

-- `count` values without symbols
abbrev pub bares : ℕ → List Slot → List Slot
bares zero slots = slots
bares (suc n) slots = bares n (Bare None ∷ slots)

pub bares_more : (a b : ℕ) (slots : List Slot) → bares b (bares a slots) ≡ bares (a + b) slots
bares_more zero b slots = let e : b ≡ 0 + b = omega arith in ap (λ k. bares k slots) e
bares_more (suc a) b slots = let e : suc (a + b) ≡ suc a + b = omega arith in bares_more a b (Bare None ∷ slots) ∙ ap (λ k. bares k slots) e

pub kepts_more : (n : ℕ) (slots : List Slot) → kepts n (Kept ∷ slots) ≡ Kept ∷ kepts n slots
kepts_more zero slots = refl
kepts_more (suc n) slots = kepts_more n (Kept ∷ slots)

pub record BaresTaken (a : Assignment) (n : ℕ) (slots : List Slot) (ss : List Sym) (values below : List (List ℕ)) : Type 0 where
  pub vals : List (List ℕ)
  pub more : List (List ℕ)
  pub are : values ≡ reverse vals ++ more
  pub many : length vals ≡ n
  pub fills : Fills a slots ss more below

pub bares_taken : (a : Assignment) (n : ℕ) (slots : List Slot) (ss : List Sym) (values below : List (List ℕ)) → Fills a (bares n slots) ss values below → BaresTaken a n slots ss values below
bares_taken a zero slots ss values below f = record { vals = []; more = values; are = refl; many = refl; fills = f }
bares_taken a (suc n) slots ss values below f = one (bares_taken a n (Bare None ∷ slots) ss values below f)
  where
    by : (r : BaresTaken a n (Bare None ∷ slots) ss values below) (more : List (List ℕ)) → r.more ≡ more → Fills a (Bare None ∷ slots) ss more below → BaresTaken a (suc n) slots ss values below
    by r [] e f = absurd f
    by r (v ∷ more) e f = record { vals = v ∷ r.vals; more = more; are = r.are ∙ ap (λ z. reverse r.vals ++ z) e ∙ back_one v r.vals more; many = ap suc r.many; fills = f.1 }

    one : BaresTaken a n (Bare None ∷ slots) ss values below → BaresTaken a (suc n) slots ss values below
    one r = by r r.more refl r.fills

bares_fill : (a : Assignment) (vals : List (List ℕ)) (n : ℕ) → length vals ≡ n → (slots : List Slot) (ss : List Sym) (more below : List (List ℕ)) → Fills a slots ss more below → Fills a (bares n slots) ss (reverse vals ++ more) below
bares_fill a [] zero e slots ss more below f = f
bares_fill a [] (suc n) e slots ss more below f = absurd (omega (arith, e))
bares_fill a (v ∷ vals) zero e slots ss more below f = absurd (omega (arith, e))
bares_fill a (v ∷ vals) (suc n) e slots ss more below f =
    let k : length vals ≡ n = cc e in
    subst (λ z. Fills a (bares n (Bare None ∷ slots)) ss z below) (back_one v vals more) (bares_fill a vals n k (Bare None ∷ slots) ss (v ∷ more) below (tt, f))

module _ (sc : Scope) (w : World) (b : Level) (slots : List Slot) (count : ℕ) (s : State) (j : Job) where
  -- symbols are dropped, and their values stay
  pub bared_law : Describes sc w b (kepts count slots) s j → Describes sc w b (bares count slots) (without_last count s) j
  bared_law d =
      let r = taken (now j) count slots (reverse s.captured) j.values w.values d.values in
      record {
        stands = d.stands;
        captured_sole = λ x h. d.captured_sole x
            (subst (λ z. some_local x z ≡ true) (sym (whole s.captured r.front r.syms count r.symbols r.count))
            (local_front x (reverse r.syms) r.front (subst (λ z. some_local x z ≡ true) (others_are s.captured r.front r.syms count r.symbols r.count) h)));
        values =
            subst (λ z. Fills (now j) (bares count slots) z j.values w.values) (sym (others_turned s.captured r.front r.syms count r.symbols r.count))
            (subst (λ z. Fills (now j) (bares count slots) r.syms z w.values) (sym r.values_are) (bares_fill (now j) r.vals count r.many slots r.syms r.more w.values r.fills));
      }

  -- values are not used
  pub unused_law : Describes sc w b (bares count slots) s j → Describes sc w b slots s (dropped count j)
  unused_law d =
      let r = bares_taken (now j) count slots (reverse s.captured) j.values w.values d.values in
      record {
        stands = d.stands;
        captured_sole = d.captured_sole;
        values = subst (λ z. Fills (now j) slots (reverse s.captured) z w.values) (sym (dropped_are j.values r.vals r.more count r.are r.many)) r.fills;
      }

module _ (routines : List RoutineTree) (sc : Scope) (w : World) (b : Level) (slots : List Slot) (n : ℕ) (ts : List Task) (s : State) (count : ℕ) where
  pub ask_fits : FitsAny routines sc w b slots n ts s → Fits routines sc w b (bares count slots) n (task.AskValue count ∷ ts) s
  ask_fits k j d e = plain_step routines sc w b (bares count slots) n ts s (task.AskValue count) refl j e (λ free c.
      of_value (Safe routines sc w b n) c _ (λ v. done (Safe routines sc w b n) (doing ts (pushed v (dropped count j)))
      (k (doing ts (pushed v (dropped count j))) v (push_law sc w b slots s (idle (dropped count j)) (unused_law sc w b slots count s (idle j) d) v) refl refl)))

  pub drop_fits : Fits routines sc w b slots n ts s → Fits routines sc w b (bares count slots) n (task.Drop count ∷ ts) s
  drop_fits k j d e = plain_step routines sc w b (bares count slots) n ts s (task.Drop count) refl j e (λ free c.
      unasked (Safe routines sc w b n) c _ (done (Safe routines sc w b n) (doing ts (dropped count j)) (k (doing ts (dropped count j)) (unused_law sc w b slots count s (idle j) d) refl)))

  -- subscripts whose symbols are dropped
  pub forgotten_fits : Fits routines sc w b (bares count slots) n ts (without_last count s) → Fits routines sc w b (kepts count slots) n ts s
  forgotten_fits k j d e = k j (bared_law sc w b slots count s (idle j) d) e

-- the last captured symbols without the very last one
module _ {A : Type 0} (before front : List A) (k : ℕ) (size : length front ≡ suc k) where
  all_long : length (before ++ front) ≡ length before + suc k
  all_long = let e = length-append before front in omega (arith, e, size)

  cut_to : (m : ℕ) (xs ys : List A) → take (length xs + m) (xs ++ ys) ≡ xs ++ take m ys
  cut_to m [] ys = let e : 0 + m ≡ m = omega arith in ap (λ q. take q ys) e
  cut_to m (x ∷ xs) ys = let e : suc (length xs) + m ≡ suc (length xs + m) = omega arith in ap (λ q. take q (x ∷ (xs ++ ys))) e ∙ ap (λ z. x ∷ z) (cut_to m xs ys)

  pub but_one : take (length (before ++ front) - 1) (before ++ front) ≡ before ++ take k front
  but_one = let a = all_long in let e : length (before ++ front) - 1 ≡ length before + k = omega (arith, a) in ap (λ q. take q (before ++ front)) e ∙ cut_to k before front

  short : (m : ℕ) (xs : List A) → m ≤ length xs → length (take m xs) ≡ m
  short zero xs h = refl
  short (suc m) [] h = absurd (omega (arith, h))
  short (suc m) (x ∷ xs) h = ap suc (short m xs (omega (arith, h)))

  cut_size : length (take k front) ≡ k
  cut_size = short k front (omega (arith, size))

  rest_size : length (before ++ take k front) - k ≡ length before
  rest_size = let a = length-append before (take k front) in let c = cut_size in omega (arith, a, c)

  pub last_but_one : drop (length (before ++ take k front) - k) (before ++ take k front) ≡ take k front
  last_but_one = ap (λ q. drop q (before ++ take k front)) rest_size ∙ drop-append_seam before (take k front)

  pub first_but_one : take (length (before ++ take k front) - k) (before ++ take k front) ≡ before
  first_but_one = ap (λ q. take q (before ++ take k front)) rest_size ∙ take-append_seam before (take k front)

  pub shorter : take (length front - 1) front ≡ take k front
  shorter = let e : length front - 1 ≡ k = omega (arith, size) in ap (λ q. take q front) e

take_whole : {A : Type 0} (xs : List A) → take (length xs) xs ≡ xs
take_whole [] = refl
take_whole (x ∷ xs) = ap (λ z. x ∷ z) (take_whole xs)

drop_whole : {A : Type 0} (xs : List A) → drop (length xs) xs ≡ []
drop_whole [] = refl
drop_whole (x ∷ xs) = drop_whole xs

-- nothing is dropped, and of no symbols none is the last
pub nothing_less : (s : State) → without_last 0 s ≡ s
nothing_less s =
    let e : length s.captured - 0 ≡ length s.captured = omega arith in
    ap (λ z. record s { captured = z }) (ap (λ k. take k s.captured) e ∙ take_whole s.captured)

pub none_last : (s : State) → last_captured 0 s ≡ []
none_last s =
    let e : length s.captured - 0 ≡ length s.captured = omega arith in
    ap (λ k. drop k s.captured) e ∙ drop_whole s.captured

-- if a slot has a last value, there is one
pub first_value : (a : Assignment) (slots : List Slot) (ss : List Sym) (values below : List (List ℕ)) → Fills a (Bare None ∷ slots) ss values below → (v : List ℕ) × (more : List (List ℕ)) × (values ≡ v ∷ more)
first_value a slots ss [] below f = absurd f
first_value a slots ss (v ∷ more) below f = (v, more, refl)

-- these symbols without the last one
abbrev pub shortened : List Sym → List Sym
shortened ss = take (length ss - 1) ss

-- a reference above the last subscript
module _ (routines : List RoutineTree) (sc : Scope) (w : World) (b : Level) (slots : List Slot) (n : ℕ) (ts : List Task) (s : State) (name : List ℕ) (k : ℕ) where
  abbrev reading : ℕ → State → Type 0
  reading m u = answer sc.rules u.case.held (referring Tree Reads name (last_captured m u)) ≡ None

  above_of : (j : Job) → Describes sc w b (kepts (suc k) slots) s j → answer sc.rules s.case.held (referring Tree Reads name (shortened (last_captured (suc k) s))) ≡ None
      → reading k (without_last 1 s) × (without_last k (without_last 1 s) ≡ without_last (suc k) s)
  above_of j d h =
      let r = taken (now j) (suc k) slots (reverse s.captured) j.values w.values d.values in
      let are : s.captured ≡ reverse r.syms ++ r.front = whole s.captured r.front r.syms (suc k) r.symbols r.count in
      let cut : take (length s.captured - 1) s.captured ≡ reverse r.syms ++ take k r.front = ap (λ z. take (length z - 1) z) are ∙ but_one (reverse r.syms) r.front k r.count in
      let last : last_captured k (without_last 1 s) ≡ take k r.front = ap (λ z. drop (length z - k) z) cut ∙ last_but_one (reverse r.syms) r.front k r.count in
      let those : shortened (last_captured (suc k) s) ≡ take k r.front = ap shortened (last_are s.captured r.front r.syms (suc k) r.symbols r.count) ∙ shorter (reverse r.syms) r.front k r.count in
      let first : take (length (without_last 1 s).captured - k) (without_last 1 s).captured ≡ reverse r.syms = ap (λ z. take (length z - k) z) cut ∙ first_but_one (reverse r.syms) r.front k r.count in
      let others : take (length s.captured - suc k) s.captured ≡ reverse r.syms = others_are s.captured r.front r.syms (suc k) r.symbols r.count in (
        subst (λ z. answer sc.rules s.case.held (referring Tree Reads name z) ≡ None) (those ∙ sym last) h,
        ap (λ z. record s { captured = z }) (first ∙ sym others),
      )

  pub above_fits : answer sc.rules s.case.held (referring Tree Reads name (shortened (last_captured (suc k) s))) ≡ None
      → FitsAny routines sc w b slots n ts (without_last (suc k) s) → Fits routines sc w b (kepts (suc k) slots) n (task.Drop 1 ∷ task.FormReference name k Tree Reads ∷ ts) s
  above_fits h f j d e =
      let r = above_of (idle j) d h in
      let less : Describes sc w b (kepts k slots) (without_last 1 s) (idle (dropped 1 j)) =
      forget_law sc.rules sc w b (kepts k slots) 1 s (idle j) (subst (λ z. Describes sc w b z s (idle j)) (kepts_more k slots) d) in
      plain_step routines sc w b (kepts (suc k) slots) n (task.FormReference name k Tree Reads ∷ ts) s (task.Drop 1) refl j e (λ free c.
      unasked (Safe routines sc w b n) c _ (done (Safe routines sc w b n) (doing (task.FormReference name k Tree Reads ∷ ts) (dropped 1 j))
      (form routines sc w b slots n ts (without_last 1 s) name k Tree Reads r.0 (subst (FitsAny routines sc w b slots n ts) (sym r.1) f)
      (doing (task.FormReference name k Tree Reads ∷ ts) (dropped 1 j)) less refl)))

module _ (routines : List RoutineTree) (sc : Scope) (w : World) (b : Level) (slots : List Slot) (n : ℕ) (ts : List Task) (s : State) where
  -- whatever the last value is
  pub any_fits : FitsAny routines sc w b slots n ts s → Fits routines sc w b (Bare None ∷ slots) n ts s
  any_fits k j d e =
      let f = first_value (now j) slots (reverse s.captured) j.values w.values d.values in
      k j f.0 d (f.2 ∙ ap (λ z. f.0 ∷ z) (sym (ap (drop 1) f.2))) e

  -- an actual that has no value of its own
  pub blank_law : (j : Job) → Describes sc w b slots s j → Describes sc w b (Blank ∷ slots) (with_symbol symbol.Unknown s) j
  blank_law j d = record {
    stands = d.stands;
    captured_sole = λ x u. ⊎_elim (λ (l : is_local x symbol.Unknown ≡ true). differs false l refl) (λ (l : some_local x s.captured ≡ true). d.captured_sole x l) (local_last x s.captured symbol.Unknown u);
    values = subst (λ z. Fills (now j) (Blank ∷ slots) z j.values w.values) (sym (reverse-append s.captured (symbol.Unknown ∷ []))) (refl, d.values);
  }
