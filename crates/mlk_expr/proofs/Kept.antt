-- What a reader reads where not everything is allowed: its usual reading, if that is allowed there.
use Rattle.std.proofs.Common.{◌≡◌, ℕ, zero, suc, List, [], ◌∷◌, length, Some, None, true, false, Bool, refl, sym, ap, ◌∙◌, inl, inr}
use Rattle.std.specs.Prelude.{Option, ◌&&◌, if◌then◌else◌, nat_le}
use Rattle.std.specs.List.{list_all}
use Rattle.std.proofs.lemmas.Bool.{cases_Bool}
use Rattle.mlk_text.specs.declared.operator.Op.{Op}
use Rattle.mlk_text.specs.Reading.{◌>>=◌, with, put, many_by, many}
use Rattle.mlk_text.specs.Lexemes.{byte_at, name_at, inside, word_at}
use Rattle.mlk_syntax.specs.declared.expr.Callee.{Callee}
use Rattle.mlk_syntax.specs.declared.expr.Function.{Function}
use Rattle.mlk_syntax.specs.declared.expr.Special.{Special}
use Rattle.mlk_expr_tokens.specs.declared.lexeme.Kind.{Kind}
use Rattle.mlk_expr_tokens.specs.declared.lexeme.Kind.TheVariants as kind
use Rattle.mlk_expr.specs.declared.context.Allows.{Allows}
use Rattle.mlk_expr.specs.declared.context.Allows.TheVariants.{Extended}
use Rattle.mlk_expr.specs.declared.context.Passing.{Passing}
use Rattle.mlk_expr.specs.declared.context.Passing.TheVariants.{ByReference, ByValue}
use Rattle.mlk_syntax.specs.ExprTrees.{Tree, Lit, LocalName, GlobalName, Prefixed, PatternText, Func, Selected, CallOf, ActualTree, Given, ByRef, Missing, trees_from, subs_from, links_from, choices_from, actuals_from}
use Rattle.mlk_expr.specs.Touches.{globals_may, calls_may, function_may, may_stand, trees_may, subs_may, links_may, choices_may, actual_may, actuals_may, passes, given_stand}
use Rattle.mlk_expr_tokens.specs.Words.{special_of, function_of, is_select}
use Rattle.mlk_expr_tokens.specs.Lexemes.{column_of, kind_of, op_at, is_match, numeral_at, lent_at, starts_reference, is_missing}
use Rattle.mlk_expr.specs.Grammar.{chained, named, takes}
use Rattle.mlk_expr.specs.Reading.{kept, where_may, number_by, number_of, next, list_with, at_most, right_by, linked, chain_with, placed, subs_by, subs_with, actual_by, actual_with, actuals_by, actuals_with, callee_at, call_by, call_with, choice_with, others_by, name_and, arguments_by, arguments_with, function_with, special_by, word_by, dollar_by, dollar_with, local_with, global_with, enclosed_with, atom_by, operand_with}

and-true : (b : Bool) → (b && true) ≡ b
and-true true = refl
and-true false = refl

-- what is read first, and then something else
module _ {A B : Type 0} where
  pub kept-with : (f : A → B) (may : B → Bool) (o : Option (A × List ℕ)) → kept may (with f o) ≡ with f (kept (λ a. may (f a)) o)
  kept-with f may None = refl
  kept-with f may (Some r) = elim (cases_Bool (may (f r.0))) [ inl m ↦ rw m refl | inr m ↦ rw m refl ]

  -- a value that is fixed already
  pub kept-fixed : (b : B) (may : B → Bool) (o : Option (A × List ℕ)) → kept may (with (λ a. b) o) ≡ (if may b then with (λ a. b) o else None)
  kept-fixed b may None = elim (cases_Bool (may b)) [ inl m ↦ rw m refl | inr m ↦ rw m refl ]
  kept-fixed b may (Some r) = refl

  -- a value with one known part
  pub kept-pair : (known : Bool) (part : A → Bool) (may : B → Bool) (f : A → B) (o : Option (A × List ℕ)) → ((a : A) → may (f a) ≡ (known && part a)) → kept may (with f o) ≡ (if known then with f (kept part o) else None)
  kept-pair true part may f None h = refl
  kept-pair false part may f None h = refl
  kept-pair true part may f (Some r) h = rw (h r.0) (elim (cases_Bool (part r.0)) [ inl m ↦ rw m refl | inr m ↦ rw m refl ])
  kept-pair false part may f (Some r) h = rw (h r.0) refl

  pub kept-after : (may : B → Bool) (o : Option A) (f g : A → Option (B × List ℕ)) → ((r : A) → kept may (f r) ≡ g r) → kept may (o >>= f) ≡ (o >>= g)
  kept-after may None f g h = refl
  kept-after may (Some r) f g h = h r

  pub kept-then : (part : A → Bool) (may : B → Bool) (o : Option (A × List ℕ)) (f g : A × List ℕ → Option (B × List ℕ)) → ((r : A × List ℕ) → kept may (f r) ≡ (if part r.0 then g r else None)) → kept may (o >>= f) ≡ (kept part o >>= g)
  kept-then part may None f g h = refl
  kept-then part may (Some r) f g h = h r ∙ elim (cases_Bool (part r.0)) [ inl m ↦ rw m refl | inr m ↦ rw m refl ]

  pub kept-where : (b : Bool) (may : B → Bool) (o : Option A) (f g : A → Option (B × List ℕ)) → ((r : A) → kept may (f r) ≡ (if b then g r else None)) → kept may (o >>= f) ≡ (where_may b o >>= g)
  kept-where true may o f g h = kept-after may o f g h
  kept-where false may None f g h = refl
  kept-where false may (Some r) f g h = h r

  push-if : (b : Bool) (o : Option A) (f : A → Option B) → (o >>= λ r. if b then f r else None) ≡ (if b then (o >>= f) else None)
  push-if true o f = refl
  push-if false None f = refl
  push-if false (Some r) f = refl

  pull-if : (b : Bool) (o : Option A) (f : A → Option B) → ((if b then o else None) >>= f) ≡ (if b then (o >>= f) else None)
  pull-if true o f = refl
  pull-if false o f = refl

pub if-none : {A : Type 0} (b : Bool) → ◌≡◌ {A = Option A} None (if b then None else None)
if-none true = refl
if-none false = refl

pub kept-as : {A : Type 0} (may same : A → Bool) (o : Option (A × List ℕ)) → ((a : A) → may a ≡ same a) → kept may o ≡ kept same o
kept-as may same None h = refl
kept-as may same (Some r) h = rw (h r.0) refl

pub kept-all : {A : Type 0} (may : A → Bool) (o : Option (A × List ℕ)) → ((a : A) → may a ≡ true) → kept may o ≡ o
kept-all may None h = refl
kept-all may (Some r) h = rw (h r.0) refl

kept-and : {A : Type 0} (known : Bool) (may : A → Bool) (o : Option (A × List ℕ)) → kept (λ a. known && may a) o ≡ (if known then kept may o else None)
kept-and true may o = refl
kept-and false may None = refl
kept-and false may (Some r) = refl

-- lists
module _ {A : Type 0} (may : A → Bool) where
  kept-put : (a : A) (o : Option (List A × List ℕ)) → kept (list_all may) (put (a ∷ []) o) ≡ (if may a then put (a ∷ []) (kept (list_all may) o) else None)
  kept-put a o = kept-pair (may a) (list_all may) (list_all may) (λ l. a ∷ l) o (λ l. refl)

  kept-many : {B : Type 0} (head : List ℕ → Option (B × List ℕ)) (item other : B → List ℕ → Option (A × List ℕ)) → ((b : B) (ys : List ℕ) → kept may (item b ys) ≡ other b ys) → (n : ℕ) (xs : List ℕ)
      → kept (list_all may) (many head item n xs) ≡ many head other n xs
  unfolding many
  kept-many head item other h zero xs = refl
  kept-many {B = B} head item other h (suc n) xs = go (kept-many head item other h n) (head xs)
    where
      go : ((ys : List ℕ) → kept (list_all may) (many head item n ys) ≡ many head other n ys) → (o : Option (B × List ℕ)) → kept (list_all may) (many_by item (many head item n) xs o) ≡ many_by other (many head other n) xs o
      go more None = refl
      go more (Some b) =
          kept-then may (list_all may) (item b.0 b.1) (λ a. put (a.0 ∷ []) (many head item n a.1)) (λ a. put (a.0 ∷ []) (many head other n a.1))
          (λ a. kept-put a.0 (many head item n a.1) ∙ ap (λ o. if may a.0 then put (a.0 ∷ []) o else None) (more a.1))
          ∙ ap (λ o. o >>= λ a. put (a.0 ∷ []) (many head other n a.1)) (h b.0 b.1)

  -- an item, more of them, and an end
  kept-more : (item other : List ℕ → Option (A × List ℕ)) → ((ys : List ℕ) → kept may (item ys) ≡ other ys) → (a : A) (n : ℕ) (xs : List ℕ) (close : List A × List ℕ → Option (List A × List ℕ))
      → ((r : List A × List ℕ) → kept (list_all may) (close r) ≡ (if may a && list_all may r.0 then close r else None))
      → kept (list_all may) (many (byte_at 44) (next item) n xs >>= close) ≡ (if may a then (many (byte_at 44) (next other) n xs >>= close) else None)
  kept-more item other h a n xs close c =
      kept-then (λ l. may a && list_all may l) (list_all may) (many (byte_at 44) (next item) n xs) close close c
      ∙ ap (λ o. o >>= close) (kept-and (may a) (list_all may) (many (byte_at 44) (next item) n xs))
      ∙ ap (λ o. (if may a then o else None) >>= close) (kept-many (byte_at 44) (next item) (next other) (λ b ys. h ys) n xs)
      ∙ pull-if (may a) (many (byte_at 44) (next other) n xs) close

  pub kept-list : (item other : List ℕ → Option (A × List ℕ)) → ((ys : List ℕ) → kept may (item ys) ≡ other ys) → (xs : List ℕ) → kept (list_all may) (list_with item xs) ≡ list_with other xs
  unfolding list_with
  kept-list item other h xs =
      kept-then may (list_all may) (item xs) _ _ (λ a. kept-more item other h a.0 (suc (length a.1)) a.1 _ (λ r. kept-fixed (a.0 ∷ r.0) (list_all may) (byte_at 41 r.1)))
      ∙ ap (λ o. o >>= λ first. many (byte_at 44) (next other) (suc (length first.1)) first.1 >>= λ others. with (λ _. first.0 ∷ others.0) (byte_at 41 others.1)) (h xs)

  kept-few : (most : ℕ) (r : List A × List ℕ) → kept (list_all may) (at_most most r) ≡ (if list_all may r.0 then at_most most r else None)
  kept-few most r = elim (cases_Bool (nat_le (length r.0) most)) [ inl m ↦ rw m refl | inr m ↦ rw m (if-none (list_all may r.0)) ]

pub passes-all : (x : ActualTree) → passes ByReference x ≡ true
passes-all (Given t) = refl
passes-all (ByRef column name) = refl
passes-all Missing = refl

-- the contents of lists
module _ (a : Allows) where
  pub subs-all : (subs : List (ℕ × Tree)) → subs_may a (subs_from subs) ≡ list_all (λ p. may_stand a p.1) subs
  subs-all [] = refl
  subs-all (p ∷ subs) = ap (λ b. may_stand a p.1 && b) (subs-all subs)

  trees-all : (ts : List Tree) → trees_may a (trees_from ts) ≡ list_all (may_stand a) ts
  trees-all [] = refl
  trees-all (t ∷ ts) = ap (λ b. may_stand a t && b) (trees-all ts)

  links-all : (links : List (Op × Tree)) → links_may a (links_from links) ≡ list_all (λ l. may_stand a l.1) links
  links-all [] = refl
  links-all (l ∷ links) = ap (λ b. may_stand a l.1 && b) (links-all links)

  choices-all : (cs : List (Tree × Tree)) → choices_may a (choices_from cs) ≡ list_all (λ c. may_stand a c.0 && may_stand a c.1) cs
  choices-all [] = refl
  choices-all (c ∷ cs) = ap (λ b. (may_stand a c.0 && may_stand a c.1) && b) (choices-all cs)

  actuals-all : (given : List ActualTree) → actuals_may a (actuals_from given) ≡ given_stand a ByReference given
  actuals-all [] = refl
  actuals-all (x ∷ given) = rw (passes-all x, and-true (actual_may a x)) (ap (λ b. actual_may a x && b) (actuals-all given))

  chained-may : (t : Tree) (links : List (Op × Tree)) → may_stand a (chained t links) ≡ (may_stand a t && list_all (λ l. may_stand a l.1) links)
  chained-may t [] = sym (and-true (may_stand a t))
  chained-may t (l ∷ links) = ap (λ b. may_stand a t && b) (links-all (l ∷ links))

-- every part
module _ (a : Allows) (atom other : List ℕ → Option (Tree × List ℕ)) (h : (ys : List ℕ) → kept (may_stand a) (atom ys) ≡ other ys) (pattern : List ℕ → Option (List ℕ × List ℕ)) where
  kept-right : (m : Bool) (xs : List ℕ) → kept (may_stand a) (right_by atom pattern m xs) ≡ right_by other pattern m xs
  kept-right false xs = h xs
  kept-right true xs = kept-with PatternText (may_stand a) (pattern xs) ∙ ap (with PatternText) (kept-all (λ t. true) (pattern xs) (λ t. refl))

  kept-linked : (op : Op) (xs : List ℕ) → kept (λ l. may_stand a l.1) (linked atom pattern op xs) ≡ linked other pattern op xs
  kept-linked op xs = kept-with (λ t. (op, t)) (λ l. may_stand a l.1) (right_by atom pattern (is_match op) xs) ∙ ap (with (λ t. (op, t))) (kept-right (is_match op) xs)

  pub kept-chain : (xs : List ℕ) → kept (may_stand a) (chain_with atom pattern xs) ≡ chain_with other pattern xs
  unfolding chain_with
  kept-chain xs =
      kept-then (may_stand a) (may_stand a) (atom xs) _ (λ first. many op_at (linked other pattern) (suc (length first.1)) first.1 >>= λ rest. Some (chained first.0 rest.0, rest.1)) rest
      ∙ ap (λ o. o >>= λ first. many op_at (linked other pattern) (suc (length first.1)) first.1 >>= λ rest. Some (chained first.0 rest.0, rest.1)) (h xs)
    where
      rest : (r : Tree × List ℕ) → kept (may_stand a) (many op_at (linked atom pattern) (suc (length r.1)) r.1 >>= λ rest. Some (chained r.0 rest.0, rest.1))
          ≡ (if may_stand a r.0 then (many op_at (linked other pattern) (suc (length r.1)) r.1 >>= λ rest. Some (chained r.0 rest.0, rest.1)) else None)
      rest r =
          kept-then (λ l. may_stand a r.0 && list_all (λ l. may_stand a l.1) l) (may_stand a) (many op_at (linked atom pattern) (suc (length r.1)) r.1) _ (λ rest. Some (chained r.0 rest.0, rest.1))
          (λ l. rw (chained-may a r.0 l.0) refl)
          ∙ ap (λ o. o >>= λ rest. Some (chained r.0 rest.0, rest.1)) (kept-and (may_stand a r.0) (list_all (λ l. may_stand a l.1)) (many op_at (linked atom pattern) (suc (length r.1)) r.1))
          ∙ ap (λ o. (if may_stand a r.0 then o else None) >>= λ rest. Some (chained r.0 rest.0, rest.1)) (kept-many (λ l. may_stand a l.1) op_at (linked atom pattern) (linked other pattern) kept-linked (suc (length r.1)) r.1)
          ∙ pull-if (may_stand a r.0) (many op_at (linked other pattern) (suc (length r.1)) r.1) (λ rest. Some (chained r.0 rest.0, rest.1))

module _ (a : Allows) (end : ℕ) (item other : List ℕ → Option (Tree × List ℕ)) (h : (ys : List ℕ) → kept (may_stand a) (item ys) ≡ other ys) where
  kept-placed : (xs : List ℕ) → kept (λ p. may_stand a p.1) (placed end item xs) ≡ placed end other xs
  kept-placed xs = kept-with (λ t. (column_of end xs, t)) (λ p. may_stand a p.1) (item xs) ∙ ap (with (λ t. (column_of end xs, t))) (h xs)

  pub kept-subs : (xs : List ℕ) → kept (list_all (λ p. may_stand a p.1)) (subs_with end item xs) ≡ subs_with end other xs
  unfolding subs_with
  kept-subs xs = go (byte_at 40 xs)
    where
      go : (o : Option (ℕ × List ℕ)) → kept (list_all (λ p. may_stand a p.1)) (subs_by end item xs o) ≡ subs_by end other xs o
      go None = refl
      go (Some b) =
          kept-then (list_all (λ p. may_stand a p.1)) (list_all (λ p. may_stand a p.1)) (list_with (placed end item) b.1) (at_most 32) (at_most 32) (kept-few (λ p. may_stand a p.1) 32)
          ∙ ap (λ o. o >>= at_most 32) (kept-list (λ p. may_stand a p.1) (placed end item) (placed end other) kept-placed b.1)

  pub kept-local : (xs : List ℕ) → kept (may_stand a) (local_with end item xs) ≡ local_with end other xs
  kept-local xs = kept-after (may_stand a) (name_at xs) _ _ (λ n.
      kept-pair true (list_all (λ p. may_stand a p.1)) (may_stand a) (λ ss. LocalName n.0 (subs_from ss)) (subs_with end item n.1) (subs-all a)
      ∙ ap (with (λ ss. LocalName n.0 (subs_from ss))) (kept-subs n.1))

  pub kept-global : (column : ℕ) (xs : List ℕ) → kept (may_stand a) (global_with true end column item xs) ≡ global_with (globals_may a) end column other xs
  kept-global column xs = kept-where (globals_may a) (may_stand a) (name_at xs) _ _ (λ n.
      kept-pair (globals_may a) (list_all (λ p. may_stand a p.1)) (may_stand a) (λ ss. GlobalName column n.0 (subs_from ss)) (subs_with end item n.1) (λ ss. ap (λ b. globals_may a && b) (subs-all a ss))
      ∙ ap (λ o. if globals_may a then with (λ ss. GlobalName column n.0 (subs_from ss)) o else None) (kept-subs n.1))

  -- actuals, as far as they may be passed
  kept-actual : (p : Passing) (xs : List ℕ) → kept (λ x. actual_may a x && passes p x) (actual_with ByReference end item xs) ≡ actual_with p end other xs
  unfolding actual_with
  kept-actual p xs = go p (lent_at xs)
    where
      go : (p : Passing) (o : Option (List ℕ × List ℕ)) → kept (λ x. actual_may a x && passes p x) (actual_by ByReference end item xs o) ≡ actual_by p end other xs o
      go ByReference (Some n) = refl
      go ByValue (Some n) = refl
      go p None = elim (cases_Bool (is_missing xs)) [
        | inl m ↦ rw m refl
        | inr m ↦ rw m (
            kept-with Given (λ x. actual_may a x && passes p x) (item xs)
            ∙ ap (with Given) (kept-as (λ t. may_stand a t && true) (may_stand a) (item xs) (λ t. and-true (may_stand a t)) ∙ h xs))
      ]

  pub kept-actuals : (p : Passing) (xs : List ℕ) → kept (given_stand a p) (actuals_with ByReference end item xs) ≡ actuals_with p end other xs
  unfolding actuals_with
  kept-actuals p xs = go (byte_at 41 xs)
    where
      go : (o : Option (ℕ × List ℕ)) → kept (given_stand a p) (actuals_by ByReference end item xs o) ≡ actuals_by p end other xs o
      go (Some c) = refl
      go None = kept-list (λ x. actual_may a x && passes p x) (actual_with ByReference end item) (actual_with p end other) (kept-actual p) xs

  kept-call : (column : ℕ) (xs : List ℕ) → kept (may_stand a) (call_with true end item column xs) ≡ call_with (calls_may a) end other column xs
  unfolding call_with
  kept-call column xs = kept-where (calls_may a) (may_stand a) (callee_at xs) _ _ (λ c. go c.0 c.1 (byte_at 40 c.1))
    where
      go : (callee : Callee) (rest : List ℕ) (o : Option (ℕ × List ℕ)) → kept (may_stand a) (call_by end item column callee rest o) ≡ (if calls_may a then call_by end other column callee rest o else None)
      go callee rest None = refl
      go callee rest (Some b) =
          kept-pair (calls_may a) (given_stand a ByReference) (may_stand a) (λ given. CallOf column callee (actuals_from given)) (actuals_with ByReference end item b.1) (λ given. ap (λ b. calls_may a && b) (actuals-all a given))
          ∙ ap (λ o. if calls_may a then with (λ given. CallOf column callee (actuals_from given)) o else None) (kept-actuals ByReference b.1)

  kept-choice : (xs : List ℕ) → kept (λ (c : Tree × Tree). may_stand a c.0 && may_stand a c.1) (choice_with item xs) ≡ choice_with other xs
  kept-choice xs =
      kept-then (may_stand a) (λ (c : Tree × Tree). may_stand a c.0 && may_stand a c.1) (item xs) _ (λ c. byte_at 58 c.1 >>= λ colon. with (λ v. (c.0, v)) (other colon.1)) value
      ∙ ap (λ o. o >>= λ c. byte_at 58 c.1 >>= λ colon. with (λ v. (c.0, v)) (other colon.1)) (h xs)
    where
      value : (c : Tree × List ℕ) → kept (λ (c : Tree × Tree). may_stand a c.0 && may_stand a c.1) (byte_at 58 c.1 >>= λ colon. with (λ v. (c.0, v)) (item colon.1))
          ≡ (if may_stand a c.0 then (byte_at 58 c.1 >>= λ colon. with (λ v. (c.0, v)) (other colon.1)) else None)
      value c =
          kept-after (λ (c : Tree × Tree). may_stand a c.0 && may_stand a c.1) (byte_at 58 c.1) _ (λ colon. if may_stand a c.0 then with (λ v. (c.0, v)) (other colon.1) else None)
          (λ colon. kept-pair (may_stand a c.0) (may_stand a) (λ (c : Tree × Tree). may_stand a c.0 && may_stand a c.1) (λ v. (c.0, v)) (item colon.1) (λ v. refl)
          ∙ ap (λ o. if may_stand a c.0 then with (λ v. (c.0, v)) o else None) (h colon.1))
          ∙ push-if (may_stand a c.0) (byte_at 58 c.1) (λ colon. with (λ v. (c.0, v)) (other colon.1))

  kept-enclosed : (xs : List ℕ) → kept (may_stand a) (enclosed_with item xs) ≡ enclosed_with other xs
  kept-enclosed xs =
      kept-then (may_stand a) (may_stand a) (item xs) _ (λ inner. with (λ _. inner.0) (byte_at 41 inner.1)) (λ inner. kept-fixed inner.0 (may_stand a) (byte_at 41 inner.1))
      ∙ ap (λ o. o >>= λ inner. with (λ _. inner.0) (byte_at 41 inner.1)) (h xs)

-- functions: `quiet` reads what follows a name
module _ (a : Allows) (end : ℕ) (atom atom' : List ℕ → Option (Tree × List ℕ)) (ha : (ys : List ℕ) → kept (may_stand a) (atom ys) ≡ atom' ys) (item item' : List ℕ → Option (Tree × List ℕ)) (hi : (ys : List ℕ) → kept (may_stand a) (item ys) ≡ item' ys)
    (quiet quiet' : List ℕ → Option (Tree × List ℕ)) (hq : (ys : List ℕ) → kept (may_stand a) (quiet ys) ≡ quiet' ys) where
  kept-others : (most : ℕ) (first : Tree) (r : List Tree × List ℕ) → kept (list_all (may_stand a)) (others_by most first r) ≡ (if may_stand a first && list_all (may_stand a) r.0 then others_by most first r else None)
  kept-others most first r = elim (cases_Bool (nat_le (length r.0) most)) [
    | inl m ↦ rw m (kept-fixed (first ∷ r.0) (list_all (may_stand a)) (byte_at 41 r.1))
    | inr m ↦ rw m (if-none (may_stand a first && list_all (may_stand a) r.0))
  ]

  kept-name : (f : Function) (most : ℕ) (first : Tree × List ℕ) → kept (list_all (may_stand a)) (name_and quiet f most first) ≡ (if may_stand a first.0 then name_and quiet' f most first else None)
  kept-name f most first = elim (cases_Bool (takes f first.0)) [
    | inl m ↦ rw m (kept-more (may_stand a) quiet quiet' hq first.0 (suc (length first.1)) first.1 (others_by most first.0) (kept-others most first.0))
    | inr m ↦ rw m (if-none (may_stand a first.0))
  ]

  kept-arguments : (f : Function) (most : Option ℕ) (xs : List ℕ) → kept (list_all (may_stand a)) (arguments_by atom item quiet f most xs) ≡ arguments_by atom' item' quiet' f most xs
  kept-arguments f None xs = kept-list (may_stand a) item item' hi xs
  kept-arguments f (Some most) xs = elim (cases_Bool (starts_reference xs)) [
    | inl m ↦ rw m (
        kept-then (may_stand a) (list_all (may_stand a)) (atom xs) (name_and quiet f most) (name_and quiet' f most) (kept-name f most)
        ∙ ap (λ o. o >>= name_and quiet' f most) (ha xs))
    | inr m ↦ rw m refl
  ]

  -- a part that is read where this is allowed
  if-allowed : {A : Type 0} (b : Bool) (o : Option A) → (if b then o else None) ≡ where_may b o
  if-allowed true o = refl
  if-allowed false o = refl

  kept-function : (w xs : List ℕ) → kept (may_stand a) (function_with Extended atom item quiet w xs) ≡ function_with a atom' item' quiet' w xs
  unfolding function_with arguments_with
  kept-function w xs = elim (cases_Bool (is_select w)) [
    | inl m ↦ rw m (
        kept-pair true (list_all (λ (c : Tree × Tree). may_stand a c.0 && may_stand a c.1)) (may_stand a) (λ cs. Selected (choices_from cs)) (list_with (choice_with item) xs) (choices-all a)
        ∙ ap (with (λ cs. Selected (choices_from cs))) (kept-list (λ (c : Tree × Tree). may_stand a c.0 && may_stand a c.1) (choice_with item) (choice_with item') (kept-choice a end item item' hi) xs))
    | inr m ↦ rw m (kept-after (may_stand a) (function_of w) _ _ (λ f.
        kept-pair (function_may a f) (list_all (may_stand a)) (may_stand a) (λ ts. Func f (trees_from ts)) (arguments_by atom item quiet f (named f) xs) (λ ts. ap (λ b. function_may a f && b) (trees-all a ts))
        ∙ ap (λ o. if function_may a f then with (λ ts. Func f (trees_from ts)) o else None) (kept-arguments f (named f) xs)
        ∙ if-allowed (function_may a f) (with (λ ts. Func f (trees_from ts)) (arguments_by atom' item' quiet' f (named f) xs))))
  ]

  kept-word : (w : List ℕ × List ℕ) (o : Option (ℕ × List ℕ)) → kept (may_stand a) (word_by Extended atom item quiet w o) ≡ word_by a atom' item' quiet' w o
  kept-word w (Some b) = kept-function w.0 b.1
  kept-word w None = special (special_of w.0)
    where
      special : (o : Option Special) → kept (may_stand a) (special_by o w.1) ≡ special_by o w.1
      special None = refl
      special (Some s) = refl

  kept-dollar : (column : ℕ) (xs : List ℕ) → kept (may_stand a) (dollar_with Extended end atom item quiet column xs) ≡ dollar_with a end atom' item' quiet' column xs
  unfolding dollar_with
  kept-dollar column xs = go (byte_at 36 xs)
    where
      go : (o : Option (ℕ × List ℕ)) → kept (may_stand a) (dollar_by Extended end atom item quiet column xs o) ≡ dollar_by a end atom' item' quiet' column xs o
      go (Some d) = kept-call a end item item' hi column d.1
      go None = kept-word (word_at xs) (byte_at 40 (word_at xs).1)

-- operands
module _ (a : Allows) (end : ℕ) (deep deep' : List ℕ → Option (Tree × List ℕ)) (h : (ys : List ℕ) → kept (may_stand a) (deep ys) ≡ deep' ys)
    (quiet quiet' : List ℕ → Option (Tree × List ℕ)) (hq : (ys : List ℕ) → kept (may_stand a) (quiet ys) ≡ quiet' ys) (pattern : List ℕ → Option (List ℕ × List ℕ)) where
  number-may : (o : Option (List ℕ)) → may_stand a (number_by o) ≡ true
  number-may None = refl
  number-may (Some value) = refl

  kept-by : (k : Kind) (b : ℕ) (xs : List ℕ) → kept (may_stand a) (atom_by Extended end deep quiet pattern k b xs) ≡ atom_by a end deep' quiet' pattern k b xs
  kept-by kind.Numeral b xs = kept-with number_of (may_stand a) (numeral_at (b ∷ xs)) ∙ ap (with number_of) (kept-all (λ t. may_stand a (number_of t)) (numeral_at (b ∷ xs)) (λ t. number-may _))
  kept-by kind.Quote b xs = kept-with Lit (may_stand a) (inside xs) ∙ ap (with Lit) (kept-all (λ v. true) (inside xs) (λ v. refl))
  kept-by kind.Letter b xs = kept-local a end (chain_with deep pattern) (chain_with deep' pattern) (kept-chain a deep deep' h pattern) (b ∷ xs)
  kept-by kind.Caret b xs = kept-global a end (chain_with deep pattern) (chain_with deep' pattern) (kept-chain a deep deep' h pattern) (column_of end (b ∷ xs)) xs
  kept-by kind.Dollar b xs = kept-dollar a end deep deep' h (chain_with deep pattern) (chain_with deep' pattern) (kept-chain a deep deep' h pattern) quiet quiet' hq (column_of end (b ∷ xs)) xs
  kept-by kind.Open b xs = kept-enclosed a end (chain_with deep pattern) (chain_with deep' pattern) (kept-chain a deep deep' h pattern) xs
  kept-by (kind.Prefix op) b xs = kept-pair true (may_stand a) (may_stand a) (Prefixed op) (deep xs) (λ t. refl) ∙ ap (with (Prefixed op)) (h xs)
  kept-by kind.Other b xs = refl

  pub kept-operand : (xs : List ℕ) → kept (may_stand a) (operand_with Extended end deep quiet pattern xs) ≡ operand_with a end deep' quiet' pattern xs
  kept-operand [] = refl
  kept-operand (b ∷ xs) = kept-by (kind_of b) b xs
