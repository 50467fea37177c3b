-- The two grammars agree on subscripts, actuals, arguments and what calls name.
use Rattle.std.proofs.Common.{◌≡◌, ◌+◌, ℕ, suc, ◌++◌, List, [], ◌∷◌, length, Some, None, true, false, refl, sym, ap, ◌∙◌, arith, subst, inl, inr, append_assoc}
use Rattle.std.specs.Prelude.{Option, ◌==◌, ◌≢◌, ◌||◌}
use Rattle.std.proofs.lemmas.Bool.{cases_Bool}
use Rattle.std.proofs.lemmas.Bool.Decides.{nat_tests}
use Rattle.mlk_text.specs.Lexemes.{is_digit, is_letter, byte_at, name_at}
use Rattle.mlk_text.proofs.Lexemes.{byte-is}
use Rattle.mlk_syntax.specs.declared.expr.Function.{Function}
use Rattle.mlk_syntax.specs.ExprTrees.{Tree, ActualTree, Given, ByRef, Missing}
use Rattle.mlk_expr_tokens.specs.Lexemes.{column_of, lent_by, lent_at, is_missing, starts_reference, ends}
use Rattle.mlk_expr.specs.declared.context.Allows.TheVariants.{NoTouches}
use Rattle.mlk_expr.specs.Touches.{may_stand, Standing}
use Rattle.mlk_expr.specs.Grammar.{AreNext, IsPlaced, IsSubs, IsActual, IsActuals, AreArguments, IsChoice, IsCallee}
use Rattle.mlk_expr.proofs.Followed as followed
use Rattle.mlk_expr.proofs.Runs.{after_name, tame}
use Rattle.mlk_text.specs.Places.{column_at}
use Rattle.mlk_text.proofs.Spelled.{name-reads, name-spelled, label-reads, label-spelled}
use Rattle.mlk_expr.proofs.JoinedParts.{opens, Joins, moved, weaker, missing-ends, ends-tame, opens-more, list-apart, list-together, next-apart, next-together, next-missing, enclosed-after}

-- the column of a text with something after it
pub at-column : (end at : ℕ) (xs : List ℕ) → end ≡ at + length xs → column_of end xs ≡ column_at at
at-column end at xs h = ap column_at (omega arith)

colon : (ys : List ℕ) → ends (58 ∷ ys) ≡ true
unfolding ends
colon ys = refl

module _ (end : ℕ) (Is : Tree → List ℕ → List ℕ → Type 0) (Text : ℕ → Tree → List ℕ → Type 0) (j : Joins end Is Text ends) where
  placed-joins : Joins end (followed.IsPlaced end Is) (IsPlaced Text) is_missing
  placed-joins = record {
    apart = λ at p xs ys h (column, one). let f = j.apart at p.1 xs ys h one in (f.0, f.1, (column ∙ at-column end at xs h, f.2));
    together = λ at p s ys h (column, one) may. (column ∙ sym (at-column end at (s ++ ys) h), j.together at p.1 s ys h one (missing-ends ys may));
  }

  pub subs-apart : (at : ℕ) (subs : List (ℕ × Tree)) (xs ys : List ℕ) → end ≡ at + length xs → followed.IsSubs end Is subs xs ys → (s : List ℕ) × (xs ≡ s ++ ys) × IsSubs Text at subs s
  subs-apart at [] xs ys h is = ([], is.0, refl)
  subs-apart at (p ∷ subs) xs ys h (m, is, list, few) =
      let size = ap length is in
      let f = list-apart end (followed.IsPlaced end Is) (IsPlaced Text) placed-joins (suc at) (p ∷ subs) m ys (omega arith) list in
      (40 ∷ (f.0 ++ 41 ∷ []), is ∙ ap (λ l. 40 ∷ l) f.1 ∙ sym (enclosed-after f.0 ys), (f.0, refl, f.2, few))

  -- after a closing parenthesis anything may follow, after no subscripts all but an opening one
  pub subs-together : (at : ℕ) (subs : List (ℕ × Tree)) (s ys : List ℕ) → end ≡ at + length (s ++ ys) → IsSubs Text at subs s → (subs ≡ [] → byte_at 40 ys ≡ None) → followed.IsSubs end Is subs (s ++ ys) ys
  subs-together at [] s ys h is none = subst (λ l. followed.IsSubs end Is [] (l ++ ys) ys) (sym is) (refl, none refl)
  subs-together at (p ∷ subs) s ys h (inner, is, list, few) none =
      let whole : s ++ ys ≡ 40 ∷ (inner ++ 41 ∷ ys) = ap (λ l. l ++ ys) is ∙ enclosed-after inner ys in
      let size = ap length whole in
      let f = list-together end (followed.IsPlaced end Is) (IsPlaced Text) placed-joins (suc at) (p ∷ subs) inner ys (omega arith) list in
      (inner ++ 41 ∷ ys, whole, f, few)

  pub choice-joins : Joins end (followed.IsChoice Is) (IsChoice Text) is_missing
  choice-joins = record {
    apart = λ at c xs ys h (m, one, other).
        let f = j.apart at c.0 xs (58 ∷ m) h one in
        let far = moved end at xs f.0 (58 ∷ m) h f.1 in
        let g = j.apart (suc (at + length f.0)) c.1 m ys (omega arith) other in
        (f.0 ++ 58 ∷ g.0, f.1 ∙ ap (λ l. f.0 ++ 58 ∷ l) g.1 ∙ sym (append_assoc f.0 (58 ∷ g.0) ys), (f.0, g.0, refl, f.2, g.2));
    together = λ at c s ys h (front, rest, is, one, other) may.
        let whole : s ++ ys ≡ front ++ 58 ∷ (rest ++ ys) = ap (λ l. l ++ ys) is ∙ append_assoc front (58 ∷ rest) ys in
        let far = moved end at (s ++ ys) front (58 ∷ (rest ++ ys)) h whole in
        let f = j.together at c.0 front (58 ∷ (rest ++ ys)) (h ∙ ap (λ z. at + length z) whole) one (colon (rest ++ ys)) in
        let g = j.together (suc (at + length front)) c.1 rest ys (omega arith) other (missing-ends ys may) in
        subst (λ z. followed.IsChoice Is c z ys) (sym whole) (rest ++ ys, f, g);
  }

-- where an expression begins, there is no name by reference, no missing actual and no closing parenthesis
pub opens-given : (s : List ℕ) → opens s ≡ true → (lent_at s ≡ None) × (is_missing s ≡ false) × (byte_at 41 s ≡ None)
unfolding lent_at name_at
opens-given [] h = cc h
opens-given (b ∷ []) h = elim (cases_Bool (b == 46)) [ inl e ↦ cc (rw e at h) | inr e ↦ let rest = rw e at h in (rw e refl, grind (arith, nat_tests), let no : (b == 41) ≡ false = grind (arith, nat_tests) in rw no refl) ]
opens-given (b ∷ c ∷ s) h = elim (cases_Bool (b == 46)) [
  | inl e ↦
      let digit : is_digit c ≡ true = rw e at h in
      let other : (is_letter c || (c == 37)) ≡ false = grind (arith, nat_tests) in
      let no : (b == 41) ≡ false = grind (arith, nat_tests) in
      (rw e (rw other refl), grind (arith, nat_tests), rw no refl)
  | inr e ↦
      let rest = rw e at h in
      let no : (b == 41) ≡ false = grind (arith, nat_tests) in
      (rw e refl, grind (arith, nat_tests), rw no refl)
]

module _ (end : ℕ) (Is : Tree → List ℕ → List ℕ → Type 0) (Text : ℕ → Tree → List ℕ → Type 0) (j : Joins end Is Text ends) (first-byte : (at : ℕ) (t : Tree) (s : List ℕ) → Text at t s → opens s ≡ true) where
  actual-apart : (at : ℕ) (a : ActualTree) (xs ys : List ℕ) → end ≡ at + length xs → followed.IsActual end Is a xs ys → (s : List ℕ) × (xs ≡ s ++ ys) × IsActual Text at a s
  unfolding lent_at
  actual-apart at (ByRef column name) xs ys h (col, is) = go (byte_at 46 xs) refl is
    where
      go : (o : Option (ℕ × List ℕ)) → byte_at 46 xs ≡ o → lent_by o ≡ Some (name, ys) → (s : List ℕ) × (xs ≡ s ++ ys) × IsActual Text at (ByRef column name) s
      go None b n = cc n
      go (Some p) b n = let f = name-spelled name p.1 ys n in (46 ∷ name, byte-is 46 p.0 xs p.1 b ∙ ap (λ l. 46 ∷ l) f.1, (refl, col ∙ at-column end at xs h, f.0))
  actual-apart at Missing xs ys h (same, none, missing) = ([], same, refl)
  actual-apart at (Given t) xs ys h (one, none, missing) = j.apart at t xs ys h one

  missing-name : (ys : List ℕ) → is_missing ys ≡ true → (after_name ys ≡ true) × (lent_at ys ≡ None)
  unfolding lent_at
  missing-name [] h = cc h
  missing-name (b ∷ ys) h = let no : (b == 46) ≡ false = grind (arith, nat_tests) in (grind (arith, nat_tests), rw no refl)

  actual-together : (at : ℕ) (a : ActualTree) (s ys : List ℕ) → end ≡ at + length (s ++ ys) → IsActual Text at a s → is_missing ys ≡ true → followed.IsActual end Is a (s ++ ys) ys
  unfolding lent_at
  actual-together at (ByRef column name) s ys h (is, col, good) may = (col ∙ sym (at-column end at (s ++ ys) h), rw is (name-reads name ys good (missing-name ys may).0))
  actual-together at Missing s ys h is may = subst (λ l. followed.IsActual end Is Missing (l ++ ys) ys) (sym is) (refl, (missing-name ys may).1, may)
  actual-together at (Given t) s ys h one may =
      let g = opens-given (s ++ ys) (opens-more s ys (first-byte at t s one)) in
      (j.together at t s ys h one (missing-ends ys may), g.0, g.1)

  actual-joins : Joins end (followed.IsActual end Is) (IsActual Text) is_missing
  actual-joins = record { apart = actual-apart; together = actual-together }

  pub actuals-apart : (at : ℕ) (given : List ActualTree) (n ys : List ℕ) → end ≡ at + length (40 ∷ n) → followed.IsActuals end Is given n ys → (s : List ℕ) × (40 ∷ n ≡ s ++ ys) × IsActuals Text at given s
  actuals-apart at [] n ys h is = (40 ∷ 41 ∷ [], ap (λ l. 40 ∷ l) is, refl)
  actuals-apart at (a ∷ more) n ys h (list, none) =
      let f = list-apart end (followed.IsActual end Is) (IsActual Text) actual-joins (suc at) (a ∷ more) n ys (omega arith) list in
      let some : f.0 ≢ [] = λ e. let bad : byte_at 41 n ≡ Some (41, ys) = ap (byte_at 41) (f.1 ∙ ap (λ l. l ++ 41 ∷ ys) e) in cc (none, bad) in
      (40 ∷ (f.0 ++ 41 ∷ []), ap (λ l. 40 ∷ l) f.1 ∙ sym (enclosed-after f.0 ys), (f.0, refl, f.2, some))

  -- no actual begins with a closing parenthesis
  given-first : (at : ℕ) (a : ActualTree) (others : List ActualTree) (inner front rest ys : List ℕ) → inner ≡ front ++ rest → IsActual Text at a front → AreNext (IsActual Text) (at + length front) others rest → inner ≢ []
      → byte_at 41 (inner ++ ys) ≡ None
  given-first at (ByRef column name) others inner front rest ys is (one, col, good) more some = let e : inner ≡ 46 ∷ (name ++ rest) = is ∙ ap (λ l. l ++ rest) one in rw e refl
  given-first at Missing [] inner front rest ys is one more some = absurd (some (is ∙ ap (λ l. l ++ rest) one ∙ more))
  given-first at Missing (b ∷ others) inner front rest ys is one (g, r, same, two, more) some = let e : inner ≡ 44 ∷ (g ++ r) = is ∙ ap (λ l. l ++ rest) one ∙ same in rw e refl
  given-first at (Given t) others inner front rest ys is one more some =
      let o = opens-more (front ++ rest) ys (opens-more front rest (first-byte at t front one)) in
      rw is ((opens-given ((front ++ rest) ++ ys) o).2)

  pub actuals-together : (at : ℕ) (given : List ActualTree) (s ys : List ℕ) → end ≡ at + length (s ++ ys) → IsActuals Text at given s → (n : List ℕ) × (s ++ ys ≡ 40 ∷ n) × followed.IsActuals end Is given n ys
  actuals-together at [] s ys h is = (41 ∷ ys, ap (λ l. l ++ ys) is, refl)
  actuals-together at (a ∷ more) s ys h (inner, is, list, some) =
      let whole : s ++ ys ≡ 40 ∷ (inner ++ 41 ∷ ys) = ap (λ l. l ++ ys) is ∙ enclosed-after inner ys in
      let size = ap length whole in
      let f = list-together end (followed.IsActual end Is) (IsActual Text) actual-joins (suc at) (a ∷ more) inner ys (omega arith) list in
      let first = given-first (suc at) list.0 list.1 inner list.2 list.3 (41 ∷ ys) list.5 list.6 list.7 some in
      (inner ++ 41 ∷ ys, whole, (f, first))

-- what contains no global and no call
quiet-joins : (end : ℕ) (Item : Tree → List ℕ → List ℕ → Type 0) (Text : ℕ → Tree → List ℕ → Type 0) → Joins end Item Text ends → Joins end (followed.Quiet Item) (Standing (may_stand NoTouches) Text) is_missing
quiet-joins end Item Text j = record {
  apart = λ at t xs ys h (one, may). let f = j.apart at t xs ys h one in (f.0, f.1, (f.2, may));
  together = λ at t s ys h (one, may) ends. (j.together at t s ys h one (missing-ends ys ends), may);
}

-- the first byte shows whether a name begins
pub starts-front : (front m : List ℕ) → opens front ≡ true → starts_reference (front ++ m) ≡ starts_reference front
starts-front [] m h = cc h
starts-front (b ∷ front) m h = refl

module _ (end : ℕ) (Atom : Tree → List ℕ → List ℕ → Type 0) (AtomText : ℕ → Tree → List ℕ → Type 0) (a : Joins end Atom AtomText tame) (first-byte : (at : ℕ) (t : Tree) (s : List ℕ) → AtomText at t s → opens s ≡ true)
    (Item : Tree → List ℕ → List ℕ → Type 0) (Text : ℕ → Tree → List ℕ → Type 0) (j : Joins end Item Text ends) where
  pub arguments-apart : (f : Function) (most : Option ℕ) (at : ℕ) (args : List Tree) (xs ys : List ℕ) → end ≡ at + length xs → followed.IsArguments Atom Item f most args xs ys
      → (inner : List ℕ) × (xs ≡ inner ++ 41 ∷ ys) × AreArguments AtomText Text f most at args inner
  arguments-apart f None at args xs ys h list = list-apart end Item Text (weaker end Item Text j) at args xs ys h list
  arguments-apart f (Some most) at args xs ys h (first, others, m, one, is-name, asks, more, few, same) =
      let r = a.apart at first xs m h one in
      let g = next-apart end (followed.Quiet Item) (Standing (may_stand NoTouches) Text) (quiet-joins end Item Text j) (at + length r.0) others m (41 ∷ ys) (moved end at xs r.0 m h r.1) more in
      let name = sym (starts-front r.0 m (first-byte at first r.0 r.2)) ∙ ap starts_reference (sym (r.1)) ∙ is-name in
      (r.0 ++ g.0, r.1 ∙ ap (λ l. r.0 ++ l) g.1 ∙ sym (append_assoc r.0 g.0 (41 ∷ ys)), (first, others, r.0, g.0, same, refl, r.2, name, asks, g.2, few))

  pub arguments-together : (f : Function) (most : Option ℕ) (at : ℕ) (args : List Tree) (inner ys : List ℕ) → end ≡ at + length (inner ++ 41 ∷ ys) → AreArguments AtomText Text f most at args inner
      → followed.IsArguments Atom Item f most args (inner ++ 41 ∷ ys) ys
  arguments-together f None at args inner ys h list = list-together end Item Text (weaker end Item Text j) at args inner ys h list
  arguments-together f (Some most) at args inner ys h (first, others, front, rest, same, is, one, is-name, asks, more, few) =
      let whole : inner ++ 41 ∷ ys ≡ front ++ (rest ++ 41 ∷ ys) = ap (λ l. l ++ 41 ∷ ys) is ∙ append_assoc front rest (41 ∷ ys) in
      let far = moved end at (inner ++ 41 ∷ ys) front (rest ++ 41 ∷ ys) h whole in
      let may = next-missing end (followed.Quiet Item) (Standing (may_stand NoTouches) Text) (quiet-joins end Item Text j) (at + length front) others rest ys more in
      let r = a.together at first front (rest ++ 41 ∷ ys) (h ∙ ap (λ z. at + length z) whole) one (ends-tame (rest ++ 41 ∷ ys) (missing-ends (rest ++ 41 ∷ ys) may)) in
      let g = next-together end (followed.Quiet Item) (Standing (may_stand NoTouches) Text) (quiet-joins end Item Text j) (at + length front) others rest ys far more in
      let name = starts-front front (rest ++ 41 ∷ ys) (first-byte at first front one) ∙ is-name in
      subst (λ z. followed.IsArguments Atom Item f (Some most) args z ys) (sym whole) (first, others, rest ++ 41 ∷ ys, r, name, asks, g, few, same)

-- what a call names
pub callee-apart : (label routine : Option (List ℕ)) (xs ys : List ℕ) → followed.IsCallee label routine xs ys → (s : List ℕ) × (xs ≡ s ++ ys) × IsCallee label routine s
callee-apart (Some label) None xs ys (l, none) = let f = label-spelled label xs ys l in (label, f.1, (refl, f.0))
callee-apart (Some label) (Some routine) xs ys (m, l, r) =
    let f = label-spelled label xs (94 ∷ m) l in
    let g = name-spelled routine m ys r in
    (label ++ 94 ∷ routine, f.1 ∙ ap (λ z. label ++ 94 ∷ z) g.1 ∙ sym (append_assoc label (94 ∷ routine) ys), (refl, f.0, g.0))
callee-apart None (Some routine) xs ys (m, is, r) = let g = name-spelled routine m ys r in (94 ∷ routine, is ∙ ap (λ z. 94 ∷ z) g.1, (refl, g.0))
callee-apart None None xs ys h = absurd h

pub tame-caret : (ys : List ℕ) → tame ys ≡ true → byte_at 94 ys ≡ None
tame-caret [] h = refl
tame-caret (b ∷ ys) h = let no : (b == 94) ≡ false = grind (arith, nat_tests) in rw no refl

-- a call is followed by tame text, or by its actuals
pub callee-together : (label routine : Option (List ℕ)) (s ys : List ℕ) → IsCallee label routine s → after_name ys ≡ true → byte_at 94 ys ≡ None → followed.IsCallee label routine (s ++ ys) ys
callee-together (Some label) None s ys (is, good) may none = (rw is (label-reads label ys good may), none)
callee-together (Some label) (Some routine) s ys (is, good, name) may none =
    let whole : s ++ ys ≡ label ++ 94 ∷ (routine ++ ys) = ap (λ z. z ++ ys) is ∙ append_assoc label (94 ∷ routine) ys in
    (routine ++ ys, rw whole (label-reads label (94 ∷ (routine ++ ys)) good refl), name-reads routine ys name may)
callee-together None (Some routine) s ys (is, name) may none = (routine ++ ys, ap (λ z. z ++ ys) is, name-reads routine ys name may)
callee-together None None s ys h may none = absurd h
