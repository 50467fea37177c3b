-- A search along those that wait for one another finds a ring if there is one.
use Rattle.std.proofs.Common.{◌≡◌, ◌≢◌, ◌<◌, ◌≤◌, ◌+◌, ℕ, zero, suc, Bool, true, false, Some, List, [], ◌∷◌, length, refl, sym, ap, ◌∙◌, subst, arith, inl, inr, set, get_or, ◌++◌, reverse}
use Rattle.std.specs.Prelude.{◌⊎◌, ◌&&◌, ◌==◌, not}
use Rattle.std.proofs.lemmas.Bool.{and_parts, not-true}
use Rattle.std.proofs.lemmas.List.{length-set, length-append, reverse-append}
use Rattle.std.proofs.lemmas.List.Sums.{sum_by-set}
use Rattle.std.specs.List.{list_any, slice_get, sum_by}
use Rattle.std.proofs.lemmas.Option.{slice_get_within, slice_get-get_or, slice_get_read, get_or_from_slice_get}
use Rattle.mlk_names.specs.Lists.{Among}
use Rattle.mlk_machine_locks.specs.declared.ring.Mark.{Mark}
use Rattle.mlk_machine_locks.specs.declared.ring.Mark.TheVariants.{New, OnPath, Free}
use Rattle.mlk_machine_locks.specs.declared.ring.Stop.{Stop}
use Rattle.mlk_names.specs.declared.lock_name.LockName.{LockName}
use Rattle.mlk_machine_locks.specs.Counts.{excludes}
use Rattle.mlk_machine_locks.specs.Waiting.{View, awaited, waits, waits_as}
use Rattle.mlk_machine_locks.specs.Lists.{is_some_there}
use Rattle.mlk_machine_locks.specs.Rings.{left, has_ring}
use Rattle.mlk_machine_locks.specs.Searches.{is_free, is_new, IsFree, FreeAt, AreFree, WaitsFreely, Waits, WaitsAt, IsNext, IsStop, Leads, IsPath, places, IsMet, Searching, weight}
use Rattle.mlk_machine_locks.proofs.RingLemmas.{left_within, left_each, ring_is_found}

-- an element of a list has an index
pub place_in : {X : Type 0} (xs : List X) (x : X) → Among x xs → (i : ℕ) × (slice_get xs i ≡ Some x)
place_in [] x a = absurd a
place_in (y ∷ ys) x (inl e) = (zero, ap Some (sym e))
place_in (y ∷ ys) x (inr a) = let r = place_in ys x a in (suc r.0, r.1)

pub stands_in : {X : Type 0} (xs : List X) (x : X) (i : ℕ) → slice_get xs i ≡ Some x → Among x xs
stands_in [] x i h = absurd (cc)
stands_in (y ∷ ys) x zero h = inl (cc)
stands_in (y ∷ ys) x (suc i) h = inr (stands_in ys x i h)

marked_free : (k : Mark) → k ≡ Free → is_free k ≡ false → ⊥
unfolding is_free
marked_free k z h = let P : Mark → Type 0 = λ n. is_free n ≡ false in let g : true ≡ false = subst P z h in absurd (cc)

is_marked : (k : Mark) → is_free k ≡ true → k ≡ Free
unfolding is_free
is_marked New h = absurd (cc)
is_marked OnPath h = absurd (cc)
is_marked Free h = refl

pub new_one : (m : Mark) → is_new m ≡ true → m ≡ New
unfolding is_new
new_one New h = refl
new_one OnPath h = absurd (cc)
new_one Free h = absurd (cc)

pub met_one : (m : Mark) → is_new m ≡ false → m ≢ Free → m ≡ OnPath
unfolding is_new
met_one New h ne = absurd (cc)
met_one OnPath h ne = refl
met_one Free h ne = absurd (ne refl)

pub free_one : (m : Mark) → is_new m ≡ false → m ≢ OnPath → m ≡ Free
unfolding is_new
free_one New h ne = absurd (cc)
free_one OnPath h ne = absurd (ne refl)
free_one Free h ne = refl

-- a job that is done leaves less to do
pub less_by_free : (marks : List Mark) (i n : ℕ) → i < length marks
    → sum_by weight (set marks i Free) + n < suc (sum_by weight marks + n)
less_by_free marks i n l = omega (arith, sum_by-set weight marks i Free New l)

pub less_by_new : (marks : List Mark) (i n : ℕ) → slice_get marks i ≡ Some New
    → sum_by weight (set marks i OnPath) + (n + 2) < suc (sum_by weight marks + n)
less_by_new marks i n h =
    let l = slice_get_within marks i New h in
    let e : get_or marks i New ≡ New = get_or_from_slice_get marks i New New h in
    let w : weight (get_or marks i New) ≡ 2 = ap weight e in
    omega (arith, w, sum_by-set weight marks i OnPath New l)

-- the path, with one more stop
pub longer : (before path path' : List Stop) (one two : Stop) → path ≡ before ++ one ∷ [] → path' ≡ path ++ two ∷ []
    → (reverse path' ≡ two ∷ one ∷ reverse before) × (length path' ≡ length before + 2)
longer before path path' one two e f =
    let a : length path ≡ length before + 1 = ap length e ∙ length-append before (one ∷ []) in
    let b : length path' ≡ length path + 1 = ap length f ∙ length-append path (two ∷ []) in (
      ap reverse f ∙ reverse-append path (two ∷ []) ∙ ap (λ l. two ∷ reverse l) e
          ∙ ap (λ l. two ∷ l) (reverse-append before (one ∷ [])),
      omega (arith, a, b),
    )

-- the elements of a list in which one was set
pub set_at : (ms : List Mark) (i j : ℕ) (m n : Mark) → i < length ms → slice_get (set ms i m) j ≡ Some n
    → ((j ≡ i) × (m ≡ n)) ⊎ ((j ≢ i) × (slice_get ms j ≡ Some n))
set_at [] i j m n l h = absurd (omega (arith, l))
set_at (k ∷ ks) zero zero m n l h = inl (refl, cc)
set_at (k ∷ ks) zero (suc j) m n l h = inr (λ e. absurd (omega (arith, e)), h)
set_at (k ∷ ks) (suc i) zero m n l h = inr (λ e. absurd (omega (arith, e)), h)
set_at (k ∷ ks) (suc i) (suc j) m n l h = elim (set_at ks i j m n (omega (arith, l)) h) [
  | inl same ↦ inl (ap suc same.0, same.1)
  | inr other ↦ inr (λ e. other.0 (omega (arith, e)), other.1)
]

pub some_at : {X : Type 0} (xs : List X) (i : ℕ) → i < length xs → (x : X) × (slice_get xs i ≡ Some x)
some_at [] i l = absurd (omega (arith, l))
some_at (x ∷ xs) zero l = (x, refl)
some_at (x ∷ xs) (suc i) l = some_at xs i (omega (arith, l))

-- a job that has no names to wait for waits for none
waits_for_none : (x y : View) → 0 ≡ length (awaited x.next) → waits x y ≡ false
waits_for_none x y h = none (not (x.number == y.number)) (awaited x.next) h
  where
    none : (b : Bool) (names : List LockName) → 0 ≡ length names → (b && list_any (excludes y.held) names) ≡ false
    none true [] h = refl
    none false [] h = refl
    none b (n ∷ ns) h = absurd (omega (arith, h))

module _ {X : Type 0} (waits : X → X → Bool) (xs : List X) where
  -- it waits only for jobs that are in no ring, so it is in none
  pub passes_all : (x : X) → Waits waits xs x [] → IsFree waits xs x
  passes_all x h a =
      let e = left_each waits xs x a in
      let p = place_in xs e.0 (left_within waits (length xs) xs e.0 e.1) in
      elim (h p.0) [
        | inl z ↦ z
        | inr f ↦ f e.0 p.1 e.2 e.1
      ]

  -- none is in a ring
  pub all_free : ((i : ℕ) → i < length xs → FreeAt waits xs i) → has_ring waits xs ≡ false
  all_free h = none (left waits xs) refl
    where
      none : (l : List X) → left waits xs ≡ l → is_some_there l ≡ false
      none [] e = refl
      none (y ∷ ys) e =
          let P : List X → Type 0 = λ l. Among y l in
          let a : Among y (left waits xs) = subst P (sym e) (inl refl) in
          let p = place_in xs y (left_within waits (length xs) xs y a) in
          absurd (h p.0 (slice_get_within xs p.0 y p.1) y p.1 a)

  -- those on a path, and the one that its last stop waits for
  abbrev OnIt : List Stop → X → Type 0
  OnIt path x = (i : ℕ) × Among i (places path) × (slice_get xs i ≡ Some x)

  pub one_value : (i : ℕ) (x y : X) → slice_get xs i ≡ Some x → slice_get xs i ≡ Some y → x ≡ y
  one_value i x y e f = let g : Some x ≡ Some y = sym e ∙ f in cc

  free_at : (i : ℕ) (x : X) → slice_get xs i ≡ Some x → IsFree waits xs x → FreeAt waits xs i
  free_at i x e f y g =
      let P : X → Type 0 = λ z. IsFree waits xs z in subst P (one_value i x y e g) f

  -- each of a path, but the last one, waits for one of it
  each_goes : (s : Stop) (before : List Stop) → IsPath waits xs (s ∷ before) → (x : X) → OnIt before x
      → (y : X) × OnIt (s ∷ before) y × (waits x y ≡ true)
  each_goes s [] p x o = absurd o.1
  each_goes s (t ∷ before) p x o = elim o.1 [
    | inl e ↦
        let l = p.1 in
        let P : ℕ → Type 0 = λ i. slice_get xs i ≡ Some x in
        let same : x ≡ l.0 = one_value t.place x l.0 (subst P e o.2) l.1 in
        let w = l.2 in
        (w.other, (s.place, inl refl, w.is_at), ap (λ z. waits z w.other) same ∙ w.does)
    | inr a ↦
        let r = each_goes t before p.2 x (o.0, a, o.2) in
        (r.0, (r.1.0, inr r.1.1, r.1.2), r.2)
  ]

  -- its last stop waits for one of the path
  pub comes_back : (s : Stop) (before : List Stop) (x : X) (i : ℕ) → IsPath waits xs (s ∷ before) → slice_get xs s.place ≡ Some x
      → WaitsAt waits xs x i → Among i (places (s ∷ before)) → has_ring waits xs ≡ true
  comes_back s before x i p e w a =
      ring_is_found waits (λ y z. waits y z ≡ true) (λ y z. (λ h. h, λ h. h)) xs (OnIt (s ∷ before)) (record {
        first = x;
        is_in = (s.place, inl refl, e);
        within = λ y o. stands_in xs y o.0 o.2;
        each = λ y o. elim o.1 [
          | inl f ↦
              let P : ℕ → Type 0 = λ j. slice_get xs j ≡ Some y in
              let same : y ≡ x = one_value s.place y x (subst P f o.2) e in
              (w.other, (i, a, w.is_at), ap (λ z. waits z w.other) same ∙ w.does)
          | inr b ↦ each_goes s before p y (o.0, b, o.2)
        ];
      })

  -- one of those that are left is removed
  pub one_less : (x : X) (old new : List ℕ) (i : ℕ) → Waits waits xs x old → old ≡ new ++ i ∷ []
      → WaitsFreely waits xs x i → Waits waits xs x new
  one_less x old new i h e f j = elim (h j) [
    | inl a ↦ elim (among_more j new i (subst (λ (l : List ℕ). Among j l) e a)) [
      | inl b ↦ inl b
      | inr same ↦ inr (subst (WaitsFreely waits xs x) (sym same) f)
    ]
    | inr g ↦ inr g
  ]
    where
      among_more : (j : ℕ) (l : List ℕ) (i : ℕ) → Among j (l ++ i ∷ []) → Among j l ⊎ (j ≡ i)
      among_more j [] i (inl e) = inr e
      among_more j [] i (inr e) = absurd e
      among_more j (k ∷ l) i (inl e) = inl (inl e)
      among_more j (k ∷ l) i (inr a) = elim (among_more j l i a) [
        | inl b ↦ inl (inr b)
        | inr same ↦ inr same
      ]

  nothing : (l : List ℕ) → (0 < length l → ⊥) → l ≡ []
  nothing [] h = refl
  nothing (i ∷ l) h = absurd (h (omega arith))

  -- none of them is left
  pub none_left : (x : X) (left : List ℕ) → Waits waits xs x left → (0 < length left → ⊥) → IsFree waits xs x
  none_left x left h none = passes_all x (subst (λ (l : List ℕ). Waits waits xs x l) (nothing left none) h)

  pub none_waits : (x : X) (left other : List ℕ) → Waits waits xs x left → (0 < length left → ⊥) → Waits waits xs x other
  none_waits x left other h none i = elim (h i) [
    | inl a ↦ absurd (subst (λ (l : List ℕ). Among i l) (nothing left none) a)
    | inr f ↦ inr f
  ]

  -- it waits for the job at this index, which may be in a ring
  pub next_found : (marks : List Mark) (x y : X) (m : Mark) (i : ℕ) → slice_get xs i ≡ Some y
      → slice_get marks i ≡ Some m → true ≡ (not (is_free m) && waits x y) → IsNext waits xs marks x i
  next_found marks x y m i e f h =
      let t = and_parts (not (is_free m)) (waits x y) (sym h) in
      record {
        waits_for = record { other = y; is_at = e; does = t.1 };
        mark = m;
        is_marked = f;
        is_left = λ z. marked_free m z (not-true (is_free m) t.0);
      }

  -- it does not wait for the job at this index, or that is in no ring
  pub next_passed : (marks : List Mark) (x y : X) (m : Mark) (i : ℕ) → AreFree waits xs marks
      → slice_get xs i ≡ Some y → slice_get marks i ≡ Some m → false ≡ (not (is_free m) && waits x y)
      → WaitsFreely waits xs x i
  next_passed marks x y m i free e f h z g w =
      let same : y ≡ z = one_value i y z e g in
      let waits_so : waits x y ≡ true = ap (waits x) same ∙ w in
      let marked : is_free m ≡ true = marked_so (is_free m) (waits x y) h waits_so in
      free i (f ∙ ap Some (is_marked m marked)) z g
    where
      marked_so : (a b : Bool) → false ≡ (not a && b) → b ≡ true → a ≡ true
      marked_so true b h e = refl
      marked_so false b h e = absurd (let g : false ≡ true = h ∙ e in cc)

  -- there is none at this index
  pub past_all : (x : X) (i : ℕ) → length xs ≤ i → WaitsFreely waits xs x i
  past_all x i l y e w = absurd (omega (arith, l, slice_get_within xs i y e))

  -- a job that waits only for jobs that are in no ring is done
  pub freed : (marks : List Mark) (s : Stop) (before : List Stop) (x : X) → Searching waits xs marks (s ∷ before)
      → slice_get xs s.place ≡ Some x → IsFree waits xs x → s.place < length marks
      → Searching waits xs (set marks s.place Free) before
  freed marks s before x h e f l = record {
    all = length-set marks s.place Free ∙ h.all;
    free = λ i g. elim (set_at marks s.place i Free Free l g) [
      | inl same ↦ free_at i x (let P : ℕ → Type 0 = λ j. slice_get xs j ≡ Some x in subst P (sym same.0) e) f
      | inr other ↦ h.free i other.1
    ];
    on_path = λ i g. elim (set_at marks s.place i Free OnPath l g) [
      | inl same ↦ absurd (cc)
      | inr other ↦ elim (h.on_path i other.1) [
        | inl z ↦ absurd (other.0 z)
        | inr a ↦ a
      ]
    ];
    is_path = h.is_path.2;
  }

  pub freed_met : (s : Stop) (before : List Stop) (x : X) → slice_get xs s.place ≡ Some x → IsFree waits xs x
      → (i : ℕ) → IsMet waits xs (s ∷ before) i → IsMet waits xs before i
  freed_met s before x e f i (inl g) = inl g
  freed_met s before x e f i (inr (inl z)) =
      inl (free_at i x (let P : ℕ → Type 0 = λ j. slice_get xs j ≡ Some x in subst P (sym z) e) f)
  freed_met s before x e f i (inr (inr a)) = inr a

  -- the first of a path
  begun : (marks : List Mark) (s : Stop) → Searching waits xs marks [] → IsStop waits xs s
      → s.place < length marks → Searching waits xs (set marks s.place OnPath) (s ∷ [])
  begun marks s h t l = record {
    all = length-set marks s.place OnPath ∙ h.all;
    free = λ j g. elim (set_at marks s.place j OnPath Free l g) [
      | inl same ↦ absurd (cc)
      | inr other ↦ h.free j other.1
    ];
    on_path = λ j g. elim (set_at marks s.place j OnPath OnPath l g) [
      | inl same ↦ inl same.0
      | inr other ↦ absurd (h.on_path j other.1)
    ];
    is_path = (t, tt, tt);
  }

  -- one more on the path
  pub followed : (marks : List Mark) (s now last : Stop) (before : List Stop) (x : X) (i : ℕ)
      → Searching waits xs marks (s ∷ before) → slice_get xs s.place ≡ Some x → IsNext waits xs marks x i
      → i < length marks → now.place ≡ s.place → Waits waits xs x now.left.items → IsStop waits xs last → last.place ≡ i
      → Searching waits xs (set marks i OnPath) (last ∷ now ∷ before)
  followed marks s now last before x i h e n l same left t at =
      let here : slice_get xs now.place ≡ Some x = ap (slice_get xs) same ∙ e in record {
        all = length-set marks i OnPath ∙ h.all;
        free = λ j g. elim (set_at marks i j OnPath Free l g) [
          | inl z ↦ absurd (cc)
          | inr other ↦ h.free j other.1
        ];
        on_path = λ j g. elim (set_at marks i j OnPath OnPath l g) [
          | inl z ↦ inl (z.0 ∙ sym at)
          | inr other ↦ elim (h.on_path j other.1) [
            | inl z ↦ inr (inl (z ∙ sym same))
            | inr a ↦ inr (inr a)
          ]
        ];
        is_path = (
          t,
          (x, here, subst (WaitsAt waits xs x) (sym at) n.waits_for),
          (record { job = x; is_at = here; left = left }, subst (λ p. Leads waits xs before p) (sym same) h.is_path.1, h.is_path.2),
        );
      }

  -- what was visited stays visited
  pub followed_met : (s now last : Stop) (before : List Stop) → now.place ≡ s.place → (i : ℕ)
      → IsMet waits xs (s ∷ before) i → IsMet waits xs (last ∷ now ∷ before) i
  followed_met s now last before same i (inl g) = inl g
  followed_met s now last before same i (inr (inl z)) = inr (inr (inl (z ∙ sym same)))
  followed_met s now last before same i (inr (inr a)) = inr (inr (inr a))

  -- where a stop continues is marked
  pub mark_of : (marks : List Mark) (x : X) (i : ℕ) (d : Mark) → (n : IsNext waits xs marks x i) → get_or marks i d ≡ n.mark
  mark_of marks x i d n = get_or_from_slice_get marks i n.mark d n.is_marked

  pub on_path_at : (marks : List Mark) (s : Stop) (before : List Stop) (x : X) (i : ℕ) (d : Mark)
      → Searching waits xs marks (s ∷ before) → slice_get xs s.place ≡ Some x → IsNext waits xs marks x i
      → is_new (get_or marks i d) ≡ false → has_ring waits xs ≡ true
  on_path_at marks s before x i d h e n f =
      let P : Mark → Type 0 = λ m. is_new m ≡ false in
      let on : n.mark ≡ OnPath = met_one n.mark (subst P (mark_of marks x i d n) f) n.is_left in
      comes_back s before x i h.is_path e n.waits_for (h.on_path i (n.is_marked ∙ ap Some on))

  pub new_at : (marks : List Mark) (x : X) (i : ℕ) (d : Mark) → IsNext waits xs marks x i
      → is_new (get_or marks i d) ≡ true → slice_get marks i ≡ Some New
  new_at marks x i d n f =
      let P : Mark → Type 0 = λ m. is_new m ≡ true in
      n.is_marked ∙ ap Some (new_one n.mark (subst P (mark_of marks x i d n) f))

  pub stop_within : (marks : List Mark) (s : Stop) (before : List Stop) → Searching waits xs marks (s ∷ before)
      → s.place < length marks
  stop_within marks s before h =
      let stop = h.is_path.0 in omega (arith, h.all, slice_get_within xs s.place stop.job stop.is_at)

  -- the job at a stop, as the code reads it
  pub stop_is : (marks : List Mark) (s : Stop) (before : List Stop) (x : X) → Searching waits xs marks (s ∷ before)
      → x ≡ get_or xs s.place x → slice_get xs s.place ≡ Some x
  stop_is marks s before x h e =
      slice_get_read xs (length xs) s.place x refl (omega (arith, h.all, stop_within marks s before h)) e

  pub left_at : (marks : List Mark) (s : Stop) (before : List Stop) (x : X) → Searching waits xs marks (s ∷ before)
      → slice_get xs s.place ≡ Some x → Waits waits xs x s.left.items
  left_at marks s before x h e =
      let stop = h.is_path.0 in
      subst (λ y. Waits waits xs y s.left.items) (one_value s.place stop.job x stop.is_at e) stop.left

  pub next_there : (marks : List Mark) (x : X) (i : ℕ) → IsNext waits xs marks x i → i < length xs
  next_there marks x i n = slice_get_within xs i n.waits_for.other n.waits_for.is_at

  pub next_within : (marks : List Mark) (x : X) (i : ℕ) → IsNext waits xs marks x i → i < length marks
  next_within marks x i n = slice_get_within marks i n.mark n.is_marked

  -- if there is no path, what was visited is in no ring
  pub met_before : (marks : List Mark) (i : ℕ) (d : Mark) → Searching waits xs marks [] → i < length xs
      → is_new (get_or marks i d) ≡ false → FreeAt waits xs i
  met_before marks i d h l f =
      let e : slice_get marks i ≡ Some (get_or marks i d) = slice_get-get_or marks i d (omega (arith, h.all, l)) in
      h.free i (e ∙ ap Some (free_one (get_or marks i d) f (λ z. h.on_path i (e ∙ ap Some z))))

  pub begins_so : (marks : List Mark) (s : Stop) (i : ℕ) → Searching waits xs marks [] → IsStop waits xs s → s.place ≡ i
      → i < length xs → (marks' : List Mark) (path : List Stop) → marks' ≡ set marks s.place OnPath → path ≡ s ∷ []
      → Searching waits xs marks' (reverse path) × IsMet waits xs (reverse path) i
  begins_so marks s i h t at l marks' path e f =
      let P : List Mark → List Stop → Type 0 = λ ms ps. Searching waits xs ms (reverse ps) × IsMet waits xs (reverse ps) i in
      let b : P (set marks s.place OnPath) (s ∷ []) = (begun marks s h t (omega (arith, h.all, l, at)), inr (inl (sym at))) in
      subst (λ ms. P ms path) (sym e) (subst (P (set marks s.place OnPath)) (sym f) b)

pub waits_not : {X : Type 0} (view : X → View) (xs : List X) (x : X) → 0 ≡ length (awaited (view x).next)
    → IsFree (waits_as view) xs x
waits_not view xs x h a =
    let e = left_each (waits_as view) xs x a in
    let f : true ≡ false = sym e.2 ∙ waits_for_none (view x) (view e.0) h in absurd (cc)
