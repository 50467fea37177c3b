-- What a reader reads in its context, by what is allowed there.
use Rattle.std.proofs.Common.{◌≡◌, ◌<◌, ◌≤◌, ◌-◌, ℕ, length, arith, List, [], ◌∷◌, Some, None, true, false, Bool, refl, sym, ap, ◌∙◌, subst, inl, inr}
use Rattle.std.specs.Prelude.{Option, Result, Ok, Err, IfOk, IfErr, ◌&&◌, ◌||◌, ◌==◌, if◌then◌else◌}
use Rattle.std.specs.List.{list_all}
use Rattle.std.proofs.lemmas.Bool.{cases_Bool, and_parts, eqb-true}
use Rattle.std.proofs.lemmas.Bool.Decides.{nat_tests}
use Rattle.mlk_text.specs.Reading.{◌>>=◌, with}
use Rattle.mlk_text.specs.Lexemes.{is_digit, is_letter, byte_at, name_at}
use Rattle.mlk_text.specs.declared.operator.Op.{Op}
use Rattle.mlk_text.proofs.Lexemes.{byte-takes}
use Rattle.mlk_text.proofs.Readers.{pair_parts, with_some, after_length, Exact}
use Rattle.mlk_expr_tokens.specs.declared.lexeme.Kind.TheVariants as kind
use Rattle.mlk_expr.specs.declared.context.Allows.{Allows}
use Rattle.mlk_expr.specs.declared.context.Allows.TheVariants.{Extended, Everything, NoCalls, NoTouches}
use Rattle.mlk_expr.specs.declared.context.Context.{Context}
use Rattle.mlk_expr.specs.declared.context.Passing.{Passing}
use Rattle.mlk_expr.specs.declared.context.Passing.TheVariants.{ByReference, ByValue}
use Rattle.mlk_syntax.specs.ExprTrees.{Tree, Lit, Free, LocalName, GlobalName, SpecialName, Prefixed, Chain, PatternText, Func, Selected, BareCall, CallOf, Trees, no_trees, tree, Subs, no_subs, sub, Links, no_links, link, Choices, no_choices, choice, ActualTree, Given, ByRef, Missing, Actuals, no_actuals, actual, subs_from}
use Rattle.mlk_syntax.specs.declared.expr.Function.{Function}
use Rattle.mlk_expr.specs.Touches.{Standing, function_may, may_stand, trees_may, subs_may, links_may, choices_may, actual_may, passes, subs_stand, given_stand}
use Rattle.mlk_expr_tokens.specs.Lexemes.{column_of, kind_of, op_at, is_match, lent_at, is_missing, starts_reference, ends}
use Rattle.mlk_expr.specs.Reading.{kept, quietly, chain_with, subs_with, local_with, global_with, right_by, actual_by, actual_with, pattern_at, operand_with, atom_at, atom_in, nested_at, nested_in, quiet, operand_in, ended, expr_at, expr_in, reference_at, reference_in, after_open, list_by, actual_list_at, actual_list_in}
use Rattle.mlk_text.specs.declared.failure.Failure.{Failure}
use Rattle.mlk_text.specs.declared.fault.Fault.{Fault}
use Rattle.mlk_text.specs.declared.failure.Failure.TheVariants.{OutOfMemory, Refused}
use Rattle.mlk_expr.specs.Theorem.{Stands, Only, Refuses}
use Rattle.mlk_expr.proofs.Followed as followed
use Rattle.mlk_expr.proofs.Followed.{IsPattern, IsChain, IsAtom}
use Rattle.mlk_expr.proofs.LexemeLemmas.{kind-caret, op-takes, lent-after}
use Rattle.mlk_expr.proofs.Parts.{kept-exact, pattern-exact, right-exact, chain-exact}
use Rattle.mlk_expr.proofs.Operands.{atom-exact}
use Rattle.mlk_expr.proofs.Whole.{reference-exact, actual_list-exact}
use Rattle.mlk_expr.proofs.Joined.{Same}
use Rattle.mlk_expr.proofs.Places.{whole-exact}
use Rattle.mlk_expr.proofs.Loops.{shorter, atom-above, atom-none}
use Rattle.mlk_expr.proofs.Kept.{if-none, kept-then, kept-after, kept-pair, kept-chain, kept-subs, kept-actuals, kept-operand, subs-all, passes-all}

and_true : (a b : Bool) → a ≡ true → b ≡ true → (a && b) ≡ true
and_true a b h g = rw (h, g) refl

-- what contains no global and no call is allowed anywhere
any-function : (a : Allows) (f : Function) → function_may NoTouches f ≡ true → function_may a f ≡ true
any-function Extended f h = refl
any-function Everything f h = h
any-function NoCalls f h = h
any-function NoTouches f h = h

mutual
  pub anywhere : (a : Allows) (t : Tree) → may_stand NoTouches t ≡ true → may_stand a t ≡ true
  anywhere a (Lit value) h = refl
  anywhere a Free h = refl
  anywhere a (LocalName name subs) h = any-subs a subs h
  anywhere a (GlobalName column name subs) h = cc h
  anywhere a (SpecialName special) h = refl
  anywhere a (Prefixed op t) h = anywhere a t h
  anywhere a (Chain first rest) h =
      let p = and_parts (may_stand NoTouches first) (links_may NoTouches rest) h in
      and_true (may_stand a first) (links_may a rest) (anywhere a first p.0) (any-links a rest p.1)
  anywhere a (PatternText text) h = refl
  anywhere a (Func function args) h =
      let p = and_parts (function_may NoTouches function) (trees_may NoTouches args) h in
      and_true (function_may a function) (trees_may a args) (any-function a function p.0) (any-trees a args p.1)
  anywhere a (Selected pairs) h = any-choices a pairs h
  anywhere a (BareCall column callee) h = cc h
  anywhere a (CallOf column callee given) h = cc h

  any-trees : (a : Allows) (ts : Trees) → trees_may NoTouches ts ≡ true → trees_may a ts ≡ true
  any-trees a no_trees h = refl
  any-trees a (tree t ts) h =
      let p = and_parts (may_stand NoTouches t) (trees_may NoTouches ts) h in
      and_true (may_stand a t) (trees_may a ts) (anywhere a t p.0) (any-trees a ts p.1)

  any-subs : (a : Allows) (subs : Subs) → subs_may NoTouches subs ≡ true → subs_may a subs ≡ true
  any-subs a no_subs h = refl
  any-subs a (sub column t rest) h =
      let p = and_parts (may_stand NoTouches t) (subs_may NoTouches rest) h in
      and_true (may_stand a t) (subs_may a rest) (anywhere a t p.0) (any-subs a rest p.1)

  any-links : (a : Allows) (links : Links) → links_may NoTouches links ≡ true → links_may a links ≡ true
  any-links a no_links h = refl
  any-links a (link op t rest) h =
      let p = and_parts (may_stand NoTouches t) (links_may NoTouches rest) h in
      and_true (may_stand a t) (links_may a rest) (anywhere a t p.0) (any-links a rest p.1)

  any-choices : (a : Allows) (choices : Choices) → choices_may NoTouches choices ≡ true → choices_may a choices ≡ true
  any-choices a no_choices h = refl
  any-choices a (choice condition value rest) h =
      let p = and_parts (may_stand NoTouches condition && may_stand NoTouches value) (choices_may NoTouches rest) h in
      let q = and_parts (may_stand NoTouches condition) (may_stand NoTouches value) p.0 in
      and_true (may_stand a condition && may_stand a value) (choices_may a rest)
      (and_true (may_stand a condition) (may_stand a value) (anywhere a condition q.0) (anywhere a value q.1)) (any-choices a rest p.1)

kept-twice : {A : Type 0} (may same : A → Bool) (o : Option (A × List ℕ)) → ((x : A) → same x ≡ true → may x ≡ true) → kept may (kept same o) ≡ kept same o
kept-twice may same None h = refl
kept-twice may same (Some r) h = elim (cases_Bool (same r.0)) [
  | inl m ↦ let wide = h r.0 m in rw m (rw wide refl)
  | inr m ↦ rw m refl
]

-- one level deeper
abbrev pub deeper : Context → Context
deeper here = record { end = here.end; left = here.left - 1; allows = here.allows }

quiet-in : (here : Context) (xs : List ℕ) → kept (may_stand here.allows) (quietly (chain_with (atom_at here.end here.left) (pattern_at here.left)) xs) ≡ nested_in (quiet here) xs
unfolding atom_in
quiet-in here xs =
    kept-twice (may_stand here.allows) (may_stand NoTouches) (chain_with (atom_at here.end here.left) (pattern_at here.left) xs) (anywhere here.allows)
    ∙ kept-chain NoTouches (atom_at here.end here.left) (atom_in (quiet here)) (λ ys. refl) (pattern_at here.left) xs

pub atom_in-above : (here : Context) (xs : List ℕ) → 0 < here.left → atom_in here xs ≡ operand_in (deeper here) xs
unfolding atom_in
atom_in-above here xs some =
    ap (kept (may_stand here.allows)) (atom-above here.end here.left xs some)
    ∙ kept-operand here.allows here.end (atom_at here.end (here.left - 1)) (atom_in (deeper here)) (λ ys. refl)
    (quietly (chain_with (atom_at here.end (here.left - 1)) (pattern_at (here.left - 1)))) (nested_in (quiet (deeper here))) (quiet-in (deeper here)) (pattern_at (here.left - 1)) xs

pub atom_in-none : (here : Context) (xs : List ℕ) → here.left ≡ 0 → atom_in here xs ≡ None
unfolding atom_in
atom_in-none here xs none = ap (kept (may_stand here.allows)) (atom-none here.end here.left xs none)

pub atom_in-exact : (here : Context) → Exact (atom_in here) (λ t xs ys. IsAtom here.end here.left t xs ys × (may_stand here.allows t ≡ true))
unfolding atom_in
atom_in-exact here = kept-exact (may_stand here.allows) (atom_at here.end here.left) (IsAtom here.end here.left) (atom-exact here.end here.left)

abbrev pub IsNestedIn : Context → Tree → List ℕ → List ℕ → Type 0
IsNestedIn here = IsChain (λ t xs ys. IsAtom here.end here.left t xs ys × (may_stand here.allows t ≡ true)) (IsPattern here.left)

pub nested_in-exact : (here : Context) → Exact (nested_in here) (IsNestedIn here)
nested_in-exact here = chain-exact (atom_in here) _ (pattern_at here.left) (IsPattern here.left) (atom_in-exact here) (pattern-exact here.left)

pub link-shorter : (here : Context) (op : Op) (t : Tree) (xs m ys : List ℕ) → op_at xs ≡ Some (op, m) → right_by (atom_in here) (pattern_at here.left) (is_match op) m ≡ Some (t, ys) → length ys < length xs
link-shorter here op t xs m ys is one =
    shorter op_at (right_by (atom_in here) (pattern_at here.left) (is_match op)) _ op-takes
    (right-exact (atom_in here) _ (pattern_at here.left) (IsPattern here.left) (atom_in-exact here) (pattern-exact here.left) (is_match op)) op t xs m ys is one

pub actual-shorter : (p : Passing) (here : Context) (a : ActualTree) (xs m ys : List ℕ) → byte_at 44 xs ≡ Some (44, m) → actual_with p here.end (nested_in here) m ≡ Some (a, ys) → length ys < length xs
unfolding actual_with
actual-shorter p here a xs m ys is one =
    let far = (byte-takes 44 44 xs m is).1 in
    let near = go p (lent_at m) refl one in
    omega arith
  where
    go : (p : Passing) (o : Option (List ℕ × List ℕ)) → lent_at m ≡ o → actual_by p here.end (nested_in here) m o ≡ Some (a, ys) → length ys ≤ length m
    go ByReference (Some n) l h = let q = pair_parts (ByRef (column_of here.end m) n.0) a n.1 ys h in subst (λ z. length z ≤ length m) q.1 (after_length m n.1 (lent-after n.0 m n.1 l))
    go ByValue (Some n) l h = cc h
    go p None l h = elim (cases_Bool (is_missing m)) [
      | inl e ↦ let q = pair_parts Missing a m ys (rw e at h) in subst (λ z. length z ≤ length m) q.1 (omega arith)
      | inr e ↦
          let w = with_some Given (nested_in here m) a ys (rw e at h) in
          after_length m ys ((nested_in-exact here).after w.0 m ys ((nested_in-exact here).sound w.0 m ys w.1))
    ]

-- what the readers for callers read, in their context
pub expr_in-kept : (a : Allows) (end : ℕ) (xs : List ℕ) → kept (may_stand a) (expr_at end xs) ≡ expr_in (record { end = end; left = 64; allows = a }) xs
unfolding expr_at expr_in atom_in
expr_in-kept a end xs =
    kept-then (may_stand a) (may_stand a) (nested_at end 64 xs) ended ended (λ r. elim (cases_Bool (ends r.1)) [ inl m ↦ rw m refl | inr m ↦ rw m (if-none (may_stand a r.0)) ])
    ∙ ap (λ o. o >>= ended) (kept-chain a (atom_at end 64) (atom_in (record { end = end; left = 64; allows = a })) (λ ys. refl) (pattern_at 64) xs)

-- a name with subscripts, which are checked
module _ (a : Allows) (end : ℕ) (item other : List ℕ → Option (Tree × List ℕ)) (h : (ys : List ℕ) → kept (may_stand a) (item ys) ≡ other ys) where
  subs-local : (xs : List ℕ) → kept (subs_stand a) (local_with end item xs) ≡ local_with end other xs
  subs-local xs = kept-after (subs_stand a) (name_at xs) _ _ (λ n.
      kept-pair true (list_all (λ p. may_stand a p.1)) (subs_stand a) (λ ss. LocalName n.0 (subs_from ss)) (subs_with end item n.1) (subs-all a)
      ∙ ap (with (λ ss. LocalName n.0 (subs_from ss))) (kept-subs a end item other h n.1))

  subs-global : (column : ℕ) (xs : List ℕ) → kept (subs_stand a) (global_with true end column item xs) ≡ global_with true end column other xs
  subs-global column xs = kept-after (subs_stand a) (name_at xs) _ _ (λ n.
      kept-pair true (list_all (λ p. may_stand a p.1)) (subs_stand a) (λ ss. GlobalName column n.0 (subs_from ss)) (subs_with end item n.1) (subs-all a)
      ∙ ap (with (λ ss. GlobalName column n.0 (subs_from ss))) (kept-subs a end item other h n.1))

kind-letter : (b : ℕ) → (is_letter b || (b == 37)) ≡ true → kind_of b ≡ kind.Letter
unfolding kind_of
kind-letter b h = let no : (is_digit b || (b == 46)) ≡ false = grind (arith, nat_tests) in rw (no, h) refl

module _ (a : Allows) (end : ℕ) (deep other : List ℕ → Option (Tree × List ℕ)) (h : (ys : List ℕ) → kept (may_stand a) (deep ys) ≡ other ys) (rest : List ℕ → Option (Tree × List ℕ)) (pattern : List ℕ → Option (List ℕ × List ℕ)) where
  abbrev begun : List ℕ → Option (ℕ × List ℕ) → Option (Tree × List ℕ)
  begun xs (Some caret) = global_with true end (column_of end xs) (chain_with other pattern) caret.1
  begun xs None = if starts_reference xs then local_with end (chain_with other pattern) xs else None

  begun-local : (xs : List ℕ) → starts_reference xs ≡ true → begun xs None ≡ local_with end (chain_with other pattern) xs
  begun-local xs h = rw h refl

  begun-none : (xs : List ℕ) → starts_reference xs ≡ false → begun xs None ≡ None
  begun-none xs h = rw h refl

  reference-kept : (xs : List ℕ) → kept (subs_stand a) (if starts_reference xs then operand_with Extended end deep rest pattern xs else None) ≡ begun xs (byte_at 94 xs)
  reference-kept [] = refl
  reference-kept (b ∷ xs) = elim (cases_Bool (b == 94)) [
    | inl c ↦
        let is : b ≡ 94 = eqb-true b 94 c in
        subst (λ z. kept (subs_stand a) (if starts_reference (z ∷ xs) then operand_with Extended end deep rest pattern (z ∷ xs) else None) ≡ begun (z ∷ xs) (byte_at 94 (z ∷ xs))) (sym is)
        (rw kind-caret (subs-global a end (chain_with deep pattern) (chain_with other pattern) (kept-chain a deep other h pattern) (column_of end (94 ∷ xs)) xs))
    | inr c ↦
        let no-caret : byte_at 94 (b ∷ xs) ≡ None = rw c refl in
        elim (cases_Bool (is_letter b || (b == 37))) [
          | inl l ↦
              let starts : starts_reference (b ∷ xs) ≡ true = grind (arith, nat_tests) in
              let left : kept (subs_stand a) (if starts_reference (b ∷ xs) then operand_with Extended end deep rest pattern (b ∷ xs) else None) ≡ local_with end (chain_with other pattern) (b ∷ xs) =
              rw (starts, kind-letter b l) (subs-local a end (chain_with deep pattern) (chain_with other pattern) (kept-chain a deep other h pattern) (b ∷ xs)) in
              left ∙ sym (begun-local (b ∷ xs) starts) ∙ ap (begun (b ∷ xs)) (sym no-caret)
          | inr l ↦
              let starts : starts_reference (b ∷ xs) ≡ false = grind (arith, nat_tests) in
              let left : kept (subs_stand a) (if starts_reference (b ∷ xs) then operand_with Extended end deep rest pattern (b ∷ xs) else None) ≡ None = rw starts refl in
              left ∙ sym (begun-none (b ∷ xs) starts) ∙ ap (begun (b ∷ xs)) (sym no-caret)
        ]
  ]

module _ (a : Allows) (end : ℕ) where
  abbrev inside63 : Context
  inside63 = record { end = end; left = 63; allows = a }

  chains63 : (ys : List ℕ) → kept (may_stand a) (chain_with (atom_at end 63) (pattern_at 63) ys) ≡ nested_in inside63 ys
  unfolding atom_in
  chains63 = kept-chain a (atom_at end 63) (atom_in inside63) (λ ys. refl) (pattern_at 63)

  pub reference_in-kept : (xs : List ℕ) → kept (subs_stand a) (reference_at end xs) ≡ reference_in inside63 xs
  unfolding reference_at reference_in atom_in
  reference_in-kept xs =
      ap (λ o. kept (subs_stand a) (if starts_reference xs then o else None)) (atom-above end 64 xs (omega arith))
      ∙ reference-kept a end (atom_at end 63) (atom_in inside63) (λ ys. refl) (quietly (chain_with (atom_at end 63) (pattern_at 63))) (pattern_at 63) xs

  pub actual_list_in-kept : (p : Passing) (xs : List ℕ) → kept (given_stand a p) (actual_list_at end xs) ≡ actual_list_in p inside63 xs
  unfolding actual_list_at actual_list_in
  actual_list_in-kept p xs = go (byte_at 40 xs)
    where
      go : (o : Option (ℕ × List ℕ)) → kept (given_stand a p) (after_open end o) ≡ list_by p inside63 o
      go None = refl
      go (Some b) = kept-actuals a end (chain_with (atom_at end 63) (pattern_at 63)) (nested_in inside63) chains63 p b.1

pub reference-gives : (here : Context) (xs m name n : List ℕ) (ss : List (ℕ × Tree)) (ys : List ℕ) → byte_at 94 xs ≡ Some (94, m) → name_at m ≡ Some (name, n) → subs_with here.end (nested_in here) n ≡ Some (ss, ys)
    → reference_in here xs ≡ Some (GlobalName (column_of here.end xs) name (subs_from ss), ys)
unfolding reference_in
reference-gives here xs m name n ss ys caret found more = rw caret (rw found (rw more refl))

-- a reader with the same results is exact too
pub exact-as : {A : Type 0} (read other : List ℕ → Option (A × List ℕ)) (Is : A → List ℕ → List ℕ → Type 0) → Exact read Is → ((xs : List ℕ) → read xs ≡ other xs) → Exact other Is
exact-as read other Is e h = record {
  sound = λ a xs ys is. e.sound a xs ys (h xs ∙ is);
  complete = λ a xs ys is. sym (h xs) ∙ e.complete a xs ys is;
  after = e.after;
}

-- the grammars agree on what is allowed
pub same-standing : {A : Type 0} (may : A → Bool) (Is : ℕ → A → List ℕ → List ℕ → Type 0) (Text : ℕ → A → List ℕ → Type 0) (Ends : A → List ℕ → Type 0) → Same Is Text Ends
    → Same (λ end a xs ys. Is end a xs ys × (may a ≡ true)) (Standing may Text) Ends
same-standing may Is Text Ends s = record {
  apart = λ end at a xs ys h (one, good). let f = s.apart end at a xs ys h one in (f.0, f.1, (f.2, good), f.3);
  together = λ end at a t ys h (one, good) ended. (s.together end at a t ys h one ended, good);
}

-- what the readers for callers read, exactly
pub expr_in-exact : (a : Allows) (end : ℕ) → Exact (expr_in (record { end = end; left = 64; allows = a })) (λ t xs ys. followed.IsExpr end t xs ys × (may_stand a t ≡ true))
expr_in-exact a end = exact-as _ _ _ (kept-exact (may_stand a) (expr_at end) (followed.IsExpr end) (whole-exact end)) (expr_in-kept a end)

pub reference_in-exact : (a : Allows) (end : ℕ) → Exact (reference_in (record { end = end; left = 63; allows = a })) (λ t xs ys. followed.IsReference end t xs ys × (subs_stand a t ≡ true))
reference_in-exact a end = exact-as _ _ _ (kept-exact (subs_stand a) (reference_at end) (followed.IsReference end) (reference-exact end)) (reference_in-kept a end)

pub actual_list_in-exact : (a : Allows) (p : Passing) (end : ℕ) → Exact (actual_list_in p (record { end = end; left = 63; allows = a })) (λ given xs ys. followed.IsActualList end given xs ys × (given_stand a p given ≡ true))
actual_list_in-exact a p end = exact-as _ _ _ (kept-exact (given_stand a p) (actual_list_at end) (followed.IsActualList end) (actual_list-exact end)) (actual_list_in-kept a end p)

-- what contains no global and no call may be passed anywhere
any-actual : (x : ActualTree) → actual_may NoTouches x ≡ true → actual_may Everything x ≡ true
any-actual (Given t) h = anywhere Everything t h
any-actual (ByRef column name) h = refl
any-actual Missing h = refl

pub given-anywhere : (given : List ActualTree) → given_stand NoTouches ByReference given ≡ true → given_stand Everything ByReference given ≡ true
given-anywhere [] h = refl
given-anywhere (x ∷ given) h =
    let p = and_parts (actual_may NoTouches x && passes ByReference x) (given_stand NoTouches ByReference given) h in
    let q = and_parts (actual_may NoTouches x) (passes ByReference x) p.0 in
    and_true (actual_may Everything x && passes ByReference x) (given_stand Everything ByReference given)
    (and_true (actual_may Everything x) (passes ByReference x) (any-actual x q.0) q.1) (given-anywhere given p.1)
