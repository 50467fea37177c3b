-- Laws of readers of lists.
use Rattle.std.proofs.Common.{◌≡◌, ◌<◌, ◌≤◌, ◌+◌, ℕ, zero, suc, ◌++◌, List, [], ◌∷◌, length, Some, None, refl, sym, ap, ◌∙◌, arith, subst, inl, inr, append_assoc, length-append, append-nil}
use Rattle.std.specs.Prelude.{Option, ◌⊎◌}
use Rattle.std.proofs.lemmas.Option.{same_Some}
use Rattle.mlk_text.specs.Reading.{◌>>=◌, with, put, many, many_by, Many, separated, Separated, Begins}

-- a chain that yields something: each part yielded something
pub then_some : {A B : Type 0} (o : Option A) (f : A → Option B) (y : B) → (o >>= f) ≡ Some y → (x : A) × (o ≡ Some x) × (f x ≡ Some y)
then_some None f y h = cc h
then_some (Some x) f y h = (x, refl, h)

pub pair_parts : {A B : Type 0} (a x : A) (b y : B) → ◌≡◌ {A = Option (A × B)} (Some (a, b)) (Some (x, y)) → (a ≡ x) × (b ≡ y)
pair_parts a x b y h = let e = same_Some (a, b) (x, y) h in (ap (λ p. p.0) e, ap (λ p. p.1) e)

pub with_some : {A B : Type 0} (f : A → B) (o : Option (A × List ℕ)) (b : B) (ys : List ℕ) → with f o ≡ Some (b, ys) → (a : A) × (o ≡ Some (a, ys)) × (b ≡ f a)
with_some f None b ys h = cc h
with_some f (Some r) b ys h = let p = pair_parts (f r.0) b r.1 ys h in (r.0, ap (λ z. Some (r.0, z)) p.1, sym p.0)

pub put_put : {A : Type 0} (front more : List A) (o : Option (List A × List ℕ)) → put front (put more o) ≡ put (front ++ more) o
put_put front more None = refl
put_put front more (Some r) = ap (λ l. Some (l, r.1)) (sym (append_assoc front more r.0))

-- the first list is a tail of the second
abbrev pub After : List ℕ → List ℕ → Type 0
After ys xs = (front : List ℕ) × (front ++ ys ≡ xs)

pub after-self : (xs : List ℕ) → After xs xs
after-self xs = ([], refl)

pub after-one : (b : ℕ) (xs : List ℕ) → After xs (b ∷ xs)
after-one b xs = (b ∷ [], refl)

pub after_then : (xs ys zs : List ℕ) → After ys xs → After zs ys → After zs xs
after_then xs ys zs f g = (f.0 ++ g.0, append_assoc f.0 g.0 zs ∙ ap (λ l. f.0 ++ l) g.1 ∙ f.1)

pub after_length : (xs ys : List ℕ) → After ys xs → length ys ≤ length xs
after_length xs ys f = let e : length f.0 + length ys ≡ length xs = sym (length-append f.0 ys) ∙ ap length f.1 in omega arith

-- A reader reads exactly what is spelled.
pub record Exact {A : Type 0} (read : List ℕ → Option (A × List ℕ)) (Is : A → List ℕ → List ℕ → Type 0) : Type 0 where
  pub sound : (a : A) (xs ys : List ℕ) → read xs ≡ Some (a, ys) → Is a xs ys
  pub complete : (a : A) (xs ys : List ℕ) → Is a xs ys → read xs ≡ Some (a, ys)
  pub after : (a : A) (xs ys : List ℕ) → Is a xs ys → After ys xs

-- at most one reading: a text at a place has at most one tree and end
pub one_reading : {A : Type 0} (read : List ℕ → Option (A × List ℕ)) (Is : A → List ℕ → List ℕ → Type 0) → Exact read Is
    → (a b : A) (xs ys zs : List ℕ) → Is a xs ys → Is b xs zs → (a ≡ b) × (ys ≡ zs)
one_reading read Is e a b xs ys zs f g = pair_parts a b ys zs (sym (e.complete a xs ys f) ∙ e.complete b xs zs g)

-- A head is not empty.
abbrev pub Takes : {B : Type 0} → (List ℕ → Option (B × List ℕ)) → Type 0
Takes {B = B} head = (b : B) (xs ys : List ℕ) → head xs ≡ Some (b, ys) → After ys xs × (length ys < length xs)

pub many_sound : {A B : Type 0} (head : List ℕ → Option (B × List ℕ)) (item : B → List ℕ → Option (A × List ℕ)) (Item : B → A → List ℕ → List ℕ → Type 0)
    → ((b : B) → Exact (item b) (Item b)) → (n : ℕ) (items : List A) (xs ys : List ℕ) → many head item n xs ≡ Some (items, ys) → Many head Item items xs ys
unfolding many
many_sound head item Item e zero items xs ys h = cc h
many_sound {A = A} {B = B} head item Item e (suc n) items xs ys h = go (many_sound head item Item e n) (head xs) refl h
  where
    go : ((bs : List A) (us vs : List ℕ) → many head item n us ≡ Some (bs, vs) → Many head Item bs us vs)
        → (o : Option (B × List ℕ)) → head xs ≡ o → many_by item (many head item n) xs o ≡ Some (items, ys) → Many head Item items xs ys
    go more None is h =
        let p = pair_parts [] items xs ys h in
        subst (λ l. Many head Item l xs ys) p.0 (p.1, is)
    go more (Some b) is h =
        let a = then_some (item b.0 b.1) _ (items, ys) h in
        let r = with_some _ (many head item n a.0.1) items ys a.2 in
        let P : List A → Type 0 = λ l. Many head Item l xs ys in
        subst P (sym r.2) (b.0, b.1, a.0.1, is, (e b.0).sound a.0.0 b.1 a.0.1 a.1, more r.0 a.0.1 ys r.1)

pub many_after : {A B : Type 0} (head : List ℕ → Option (B × List ℕ)) (item : B → List ℕ → Option (A × List ℕ)) (Item : B → A → List ℕ → List ℕ → Type 0)
    → Takes head → ((b : B) → Exact (item b) (Item b)) → (items : List A) (xs ys : List ℕ) → Many head Item items xs ys → After ys xs
many_after head item Item t e [] xs ys h = subst (λ l. After l xs) h.0 (after-self xs)
many_after head item Item t e (a ∷ items) xs ys (b, m, n, is, one, rest) =
    after_then xs m ys (t b xs m is).0 (after_then m n ys ((e b).after a m n one) (many_after head item Item t e items n ys rest))

pub many_complete : {A B : Type 0} (head : List ℕ → Option (B × List ℕ)) (item : B → List ℕ → Option (A × List ℕ)) (Item : B → A → List ℕ → List ℕ → Type 0)
    → Takes head → ((b : B) → Exact (item b) (Item b)) → (n : ℕ) (items : List A) (xs ys : List ℕ) → length xs < n → Many head Item items xs ys → many head item n xs ≡ Some (items, ys)
unfolding many
many_complete head item Item t e zero items xs ys less h = absurd (omega arith)
many_complete head item Item t e (suc n) [] xs ys less h = rw h.1 (ap (λ l. Some ([], l)) h.0)
many_complete head item Item t e (suc n) (a ∷ items) xs ys less (b, m, p, is, one, rest) =
    let first = (e b).complete a m p one in
    let near = after_length m p ((e b).after a m p one) in
    let far = (t b xs m is).1 in
    let others = many_complete head item Item t e n items p ys (omega arith) rest in
    rw is (rw first (rw others refl))

-- items with separators are read exactly
pub separated-exact : {A : Type 0} (next : List ℕ → Option (ℕ × List ℕ)) (item : List ℕ → Option (A × List ℕ)) (Item : A → List ℕ → List ℕ → Type 0)
    → Takes next → Exact item Item → Exact (separated next item) (Separated next Item)
separated-exact {A = A} next item Item t e = record {
  sound = λ items xs ys h.
      let f = then_some (item xs) _ (items, ys) h in
      let r = with_some _ (many next (λ _. item) (suc (length f.0.1)) f.0.1) items ys f.2 in
      (f.0.0, r.0, f.0.1, e.sound f.0.0 xs f.0.1 f.1, many_sound next (λ _. item) (λ _. Item) (λ _. e) (suc (length f.0.1)) r.0 f.0.1 ys r.1, r.2);
  complete = λ items xs ys (first, others, m, one, more, is).
      rw (e.complete first xs m one) (rw (many_complete next (λ _. item) (λ _. Item) t (λ _. e) (suc (length m)) others m ys (omega arith) more) (rw is refl));
  after = λ items xs ys (first, others, m, one, more, is).
      after_then xs m ys (e.after first xs m one) (many_after next (λ _. item) (λ _. Item) t (λ _. e) others m ys more);
}

-- Steps of a loop that keeps `put` of its items before what is left: no head follows,
pub many_stops : {A B : Type 0} (head : List ℕ → Option (B × List ℕ)) (item : B → List ℕ → Option (A × List ℕ)) (front : List A) (n : ℕ) (xs : List ℕ) (whole : Option (List A × List ℕ))
    → head xs ≡ None → length xs < n → put front (many head item n xs) ≡ whole → whole ≡ Some (front, xs)
unfolding many
many_stops head item front zero xs whole is less h = absurd (omega arith)
many_stops head item front (suc n) xs whole is less h = sym h ∙ rw is (rw (append-nil front) refl)

-- an item was read,
pub many_goes : {A B : Type 0} (head : List ℕ → Option (B × List ℕ)) (item : B → List ℕ → Option (A × List ℕ)) (front : List A) (n : ℕ) (xs : List ℕ) (whole : Option (List A × List ℕ))
    (b : B) (m : List ℕ) (a : A) (rest : List ℕ) → head xs ≡ Some (b, m) → item b m ≡ Some (a, rest) → length rest < length xs → length xs < n → put front (many head item n xs) ≡ whole
    → (k : ℕ) × (length rest < k) × (put (front ++ a ∷ []) (many head item k rest) ≡ whole)
unfolding many
many_goes head item front zero xs whole b m a rest is one shorter less h = absurd (omega arith)
many_goes head item front (suc n) xs whole b m a rest is one shorter less h =
    let step : many_by item (many head item n) xs (head xs) ≡ put (a ∷ []) (many head item n rest) = rw is (rw one refl) in
    (n, omega arith, sym (put_put front (a ∷ []) (many head item n rest)) ∙ ap (put front) (sym step) ∙ h)

-- or no item follows the head
pub many_fails : {A B : Type 0} (head : List ℕ → Option (B × List ℕ)) (item : B → List ℕ → Option (A × List ℕ)) (front : List A) (n : ℕ) (xs : List ℕ) (whole : Option (List A × List ℕ))
    (b : B) (m : List ℕ) → head xs ≡ Some (b, m) → item b m ≡ None → length xs < n → put front (many head item n xs) ≡ whole → whole ≡ None
unfolding many
many_fails head item front zero xs whole b m is one less h = absurd (omega arith)
many_fails head item front (suc n) xs whole b m is one less h = sym h ∙ rw is (rw one refl)

-- Items at the front, whatever follows them: one more,
pub begins_more : {A B : Type 0} (head : List ℕ → Option (B × List ℕ)) (Item : B → A → List ℕ → List ℕ → Type 0) (items : List A) (a : A) (b : B) (xs m n p : List ℕ)
    → Begins head Item items xs m → head m ≡ Some (b, n) → Item b a n p → Begins head Item (items ++ a ∷ []) xs p
begins_more head Item [] a b xs m n p f is one = (b, n, p, ap head f ∙ is, one, refl)
begins_more head Item (i ∷ items) a b xs m n p (c, q, r, first, f, others) is one = (c, q, r, first, f, begins_more head Item items a b r m n p others is one)

-- all of them,
pub begins_end : {A B : Type 0} (head : List ℕ → Option (B × List ℕ)) (Item : B → A → List ℕ → List ℕ → Type 0) (items : List A) (xs ys : List ℕ)
    → Begins head Item items xs ys → head ys ≡ None → Many head Item items xs ys
begins_end head Item [] xs ys f none = (f, ap head f ∙ none)
begins_end head Item (a ∷ items) xs ys (b, m, n, is, one, rest) none = (b, m, n, is, one, begins_end head Item items n ys rest none)

pub begins_of : {A B : Type 0} (head : List ℕ → Option (B × List ℕ)) (Item : B → A → List ℕ → List ℕ → Type 0) (items : List A) (xs ys : List ℕ)
    → Many head Item items xs ys → Begins head Item items xs ys × (head ys ≡ None)
begins_of head Item [] xs ys f = (f.0, sym (ap head f.0) ∙ f.1)
begins_of head Item (a ∷ items) xs ys (b, m, n, is, one, rest) = let r = begins_of head Item items n ys rest in ((b, m, n, is, one, r.0), r.1)

-- an item and its head have only one reading
same_item : {A B : Type 0} (head : List ℕ → Option (B × List ℕ)) (item : B → List ℕ → Option (A × List ℕ)) (Item : B → A → List ℕ → List ℕ → Type 0)
    → ((b : B) → Exact (item b) (Item b)) → (xs : List ℕ) (a c : A) (b d : B) (m n p q : List ℕ)
    → head xs ≡ Some (b, m) → Item b a m n → head xs ≡ Some (d, p) → Item d c p q → (a ≡ c) × (n ≡ q)
same_item head item Item e xs a c b d m n p q is one also other =
    let heads = same_Some (b, m) (d, p) (sym is ∙ also) in
    pair_parts a c n q (sym ((e b).complete a m n one) ∙ ap (λ z. item z.0 z.1) heads ∙ (e d).complete c p q other)

-- and they are the first of all
pub begins_many : {A B : Type 0} (head : List ℕ → Option (B × List ℕ)) (item : B → List ℕ → Option (A × List ℕ)) (Item : B → A → List ℕ → List ℕ → Type 0)
    → ((b : B) → Exact (item b) (Item b)) → (items all : List A) (xs ys zs : List ℕ) → Begins head Item items xs ys → Many head Item all xs zs
    → (more : List A) × (all ≡ items ++ more) × Many head Item more ys zs
begins_many head item Item e [] all xs ys zs f g = (all, refl, subst (λ l. Many head Item all l zs) f g)
begins_many head item Item e (a ∷ items) [] xs ys zs (b, m, n, is, one, rest) g = cc (is, g.1)
begins_many head item Item e (a ∷ items) (c ∷ all) xs ys zs (b, m, n, is, one, rest) (d, p, q, also, other, others) =
    let same = same_item head item Item e xs a c b d m n p q is one also other in
    let r = begins_many head item Item e items all n ys zs rest (subst (λ l. Many head Item all l zs) (sym same.1) others) in
    (r.0, ap (λ z. z ∷ all) (sym same.0) ∙ ap (λ l. a ∷ l) r.1, r.2)

-- a place with a head and no item after it
abbrev pub Stuck : {A B : Type 0} → (List ℕ → Option (B × List ℕ)) → (B → List ℕ → Option (A × List ℕ)) → List ℕ → Type 0
Stuck {B = B} head item xs = (b : B) × (m : List ℕ) × (head xs ≡ Some (b, m)) × (item b m ≡ None)

not_stuck : {A B : Type 0} (head : List ℕ → Option (B × List ℕ)) (item : B → List ℕ → Option (A × List ℕ)) (Item : B → A → List ℕ → List ℕ → Type 0)
    → ((b : B) → Exact (item b) (Item b)) → (xs : List ℕ) (a : A) (b : B) (m n : List ℕ) → head xs ≡ Some (b, m) → Item b a m n → Stuck head item xs → ⊥
not_stuck head item Item e xs a b m n is one (d, p, also, none) =
    let heads = same_Some (b, m) (d, p) (sym is ∙ also) in
    let bad = sym ((e b).complete a m n one) ∙ ap (λ z. item z.0 z.1) heads ∙ none in
    cc bad

-- there is one such place, and the items before it are one list,
pub one_stuck : {A B : Type 0} (head : List ℕ → Option (B × List ℕ)) (item : B → List ℕ → Option (A × List ℕ)) (Item : B → A → List ℕ → List ℕ → Type 0)
    → ((b : B) → Exact (item b) (Item b)) → (items others : List A) (xs ys zs : List ℕ)
    → Begins head Item items xs ys → Stuck head item ys → Begins head Item others xs zs → Stuck head item zs → (items ≡ others) × (ys ≡ zs)
one_stuck head item Item e [] [] xs ys zs f s g t = (refl, sym f ∙ g)
one_stuck head item Item e [] (c ∷ others) xs ys zs f s (b, m, n, is, one, rest) t =
    absurd (not_stuck head item Item e xs c b m n is one (subst (λ l. Stuck head item l) (sym f) s))
one_stuck head item Item e (a ∷ items) [] xs ys zs (b, m, n, is, one, rest) s g t =
    absurd (not_stuck head item Item e xs a b m n is one (subst (λ l. Stuck head item l) (sym g) t))
one_stuck head item Item e (a ∷ items) (c ∷ others) xs ys zs (b, m, n, is, one, rest) s (d, p, q, also, other, more) t =
    let same = same_item head item Item e xs a c b d m n p q is one also other in
    let r = one_stuck head item Item e items others n ys zs rest s (subst (λ l. Begins head Item others l zs) (sym same.1) more) t in
    (ap (λ z. z ∷ items) same.0 ∙ ap (λ l. c ∷ l) r.0, r.1)

-- all other items are among the first of those,
pub begins_stuck : {A B : Type 0} (head : List ℕ → Option (B × List ℕ)) (item : B → List ℕ → Option (A × List ℕ)) (Item : B → A → List ℕ → List ℕ → Type 0)
    → ((b : B) → Exact (item b) (Item b)) → (items others : List A) (xs ys zs : List ℕ)
    → Begins head Item items xs ys → Stuck head item ys → Begins head Item others xs zs → (more : List A) × (items ≡ others ++ more)
begins_stuck head item Item e items [] xs ys zs f s g = (items, refl)
begins_stuck head item Item e [] (c ∷ others) xs ys zs f s (b, m, n, is, one, rest) =
    absurd (not_stuck head item Item e xs c b m n is one (subst (λ l. Stuck head item l) (sym f) s))
begins_stuck head item Item e (a ∷ items) (c ∷ others) xs ys zs (b, m, n, is, one, rest) s (d, p, q, also, other, more) =
    let same = same_item head item Item e xs a c b d m n p q is one also other in
    let r = begins_stuck head item Item e items others n ys zs rest s (subst (λ l. Begins head Item others l zs) (sym same.1) more) in
    (r.0, ap (λ z. z ∷ items) same.0 ∙ ap (λ l. c ∷ l) r.1)

-- and none if all are read
pub stuck_many : {A B : Type 0} (head : List ℕ → Option (B × List ℕ)) (item : B → List ℕ → Option (A × List ℕ)) (Item : B → A → List ℕ → List ℕ → Type 0)
    → ((b : B) → Exact (item b) (Item b)) → (items all : List A) (xs ys zs : List ℕ) → Begins head Item items xs ys → Stuck head item ys → Many head Item all xs zs → ⊥
stuck_many {A = A} head item Item e items all xs ys zs f s g = let r = begins_many head item Item e items all xs ys zs f g in go r.0 r.2
  where
    go : (more : List A) → Many head Item more ys zs → ⊥
    go [] h = cc (h.1, s.2)
    go (c ∷ more) (b, m, n, is, one, rest) = not_stuck head item Item e ys c b m n is one s

-- all items are one list
pub one_many : {A B : Type 0} (head : List ℕ → Option (B × List ℕ)) (item : B → List ℕ → Option (A × List ℕ)) (Item : B → A → List ℕ → List ℕ → Type 0)
    → ((b : B) → Exact (item b) (Item b)) → (items all : List A) (xs ys zs : List ℕ) → Many head Item items xs ys → Many head Item all xs zs → items ≡ all
one_many {A = A} head item Item e items all xs ys zs f g =
    let front = begins_of head Item items xs ys f in
    let r = begins_many head item Item e items all xs ys zs front.0 g in
    go front.1 r.0 r.1 r.2
  where
    go : head ys ≡ None → (more : List A) → all ≡ items ++ more → Many head Item more ys zs → items ≡ all
    go none [] is h = sym (is ∙ append-nil items)
    go none (c ∷ more) is (b, m, n, here, one, rest) = cc (none, here)

-- of two lists of items at the front, one begins with the other
pub begins_either : {A B : Type 0} (head : List ℕ → Option (B × List ℕ)) (item : B → List ℕ → Option (A × List ℕ)) (Item : B → A → List ℕ → List ℕ → Type 0)
    → ((b : B) → Exact (item b) (Item b)) → (items others : List A) (xs ys zs : List ℕ) → Begins head Item items xs ys → Begins head Item others xs zs
    → ((more : List A) × (others ≡ items ++ more)) ⊎ ((more : List A) × (items ≡ others ++ more))
begins_either head item Item e [] others xs ys zs f g = inl (others, refl)
begins_either head item Item e (a ∷ items) [] xs ys zs f g = inr (a ∷ items, refl)
begins_either head item Item e (a ∷ items) (c ∷ others) xs ys zs (b, m, n, is, one, rest) (d, p, q, also, other, more) =
    let same = same_item head item Item e xs a c b d m n p q is one also other in
    elim (begins_either head item Item e items others n ys zs rest (subst (λ l. Begins head Item others l zs) (sym same.1) more)) [
      | inl r ↦ inl (r.0, ap (λ z. z ∷ others) (sym same.0) ∙ ap (λ l. a ∷ l) r.1)
      | inr r ↦ inr (r.0, ap (λ z. z ∷ items) same.0 ∙ ap (λ l. c ∷ l) r.1)
    ]
