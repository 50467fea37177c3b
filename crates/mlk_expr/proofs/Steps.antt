-- The results of the code's steps.
use Rattle.std.proofs.Common.{◌≡◌, ◌<◌, ◌≤◌, ◌-◌, ℕ, suc, ◌++◌, List, [], ◌∷◌, length, map, take, Some, None, true, false, Bool, refl, sym, ap, ◌∙◌, arith, length-append, lt-ltb, leb-true, le-leb, inl, inr}
use Rattle.std.specs.Prelude.{Option, nat_lt, nat_le, not, ◌==◌, ◌&&◌}
use Rattle.std.proofs.lemmas.Bool.{cases_Bool, ne_eqb, ltb-false}
use Rattle.mlk_text.specs.Reading.{◌>>=◌, with, put, many}
use Rattle.mlk_text.specs.Lexemes.{byte_at, name_at}
use Rattle.mlk_text.proofs.Readers.{pair_parts, with_some, after_length}
use Rattle.mlk_syntax.specs.declared.expr.Callee.{Callee}
use Rattle.mlk_syntax.specs.declared.expr.Function.{Function}
use Rattle.mlk_syntax.specs.declared.expr.Subscript.{Subscript}
use Rattle.mlk_expr_tokens.specs.declared.lexeme.Kind.TheVariants as kind
use Rattle.mlk_text.specs.declared.failure.Failure.{Failure}
use Rattle.mlk_expr.specs.declared.refusal.Offence.{Offence}
use Rattle.mlk_text.specs.declared.failure.Failure.TheVariants.{OutOfMemory, Refused}
use Rattle.mlk_syntax.specs.ExprTrees.{Tree, LocalName, GlobalName, CallOf, Func, ActualTree, subs_from, trees_from, actuals_from, sub_of}
use Rattle.mlk_expr.specs.declared.context.Allows.{Allows}
use Rattle.mlk_expr.specs.declared.context.Passing.TheVariants.{ByReference}
use Rattle.mlk_expr.specs.Touches.{globals_may, function_may}
use Rattle.mlk_expr_tokens.specs.Words.{is_select, function_of}
use Rattle.mlk_expr_tokens.specs.Lexemes.{column_of, kind_of, count_at, starts_reference}
use Rattle.mlk_expr.specs.Grammar.{named, has_subscript, takes}
use Rattle.mlk_expr.specs.Reading.{where_may, at_most, next, list_with, matcher_by, some_atoms, pattern_at, subs_with, local_with, global_with, chain_with, operand_with, others_by, callee_at, actuals_with, call_with, function_with, arguments_with}
use Rattle.mlk_text.specs.Failures.{FailsOn}
use Rattle.mlk_expr.proofs.Parts.{pattern-exact}
use Rattle.mlk_expr.proofs.Loops.{pattern-above, at_most-some, at_most-is}

pub put-nothing : {A : Type 0} (o : Option (List A × List ℕ)) → put [] o ≡ o
put-nothing None = refl
put-nothing (Some r) = refl

pub some-length : {A : Type 0} (front : List A) (a : A) → true ≡ nat_lt 0 (length (front ++ a ∷ []))
some-length front a = sym (lt-ltb 0 (length (front ++ a ∷ [])) (let size = length-append front (a ∷ []) in omega arith))

-- a name with or without subscripts
pub local-subs : (name : List ℕ) (items : List Subscript) (n : ℕ) → n ≡ length items → not (n == 0) ≡ has_subscript (LocalName name (subs_from (map sub_of items)))
local-subs name [] n h = rw h refl
local-subs name (s ∷ ss) n h = rw h (rw (ne_eqb (suc (length ss)) 0 (λ e. omega arith)) refl)

pub global-subs : (column : ℕ) (name : List ℕ) (items : List Subscript) (n : ℕ) → n ≡ length items → not (n == 0) ≡ has_subscript (GlobalName column name (subs_from (map sub_of items)))
global-subs column name [] n h = rw h refl
global-subs column name (s ∷ ss) n h = rw h (rw (ne_eqb (suc (length ss)) 0 (λ e. omega arith)) refl)

-- patterns
abbrev pub any : List (List ℕ) → Bool
any l = nat_lt 0 (length l)

pub no-atoms : (o : Option (List (List ℕ) × List ℕ)) (rest xs : List ℕ) → with any o ≡ Some (false, rest) → (o >>= some_atoms xs) ≡ None
no-atoms None rest xs h = refl
no-atoms (Some ([], r)) rest xs h = refl
no-atoms (Some (c ∷ cs, r)) rest xs h =
    let p = pair_parts (any (c ∷ cs)) false r rest h in
    let none = ltb-false 0 (length (c ∷ cs)) p.0 in
    absurd (omega arith)

pub all-atoms : (o : Option (List (List ℕ) × List ℕ)) (rest xs : List ℕ) → with any o ≡ Some (true, rest) → (o >>= some_atoms xs) ≡ Some (take (length xs - length rest) xs, rest)
all-atoms None rest xs h = cc h
all-atoms (Some ([], r)) rest xs h = let p = pair_parts (any []) true r rest h in cc (p.0)
all-atoms (Some (c ∷ cs, r)) rest xs h = let p = pair_parts (any (c ∷ cs)) true r rest h in rw p.1 refl

pub atoms-fail : (e : Failure Offence) (o : Option (List (List ℕ) × List ℕ)) (xs : List ℕ) → FailsOn e (with any o) → FailsOn e (o >>= some_atoms xs)
atoms-fail OutOfMemory o xs h = tt
atoms-fail (Refused r) None xs h = refl
atoms-fail (Refused r) (Some p) xs h = cc h

pub pattern-found : (k : ℕ) (xs rest : List ℕ) → 0 < k → with any (many count_at (matcher_by (pattern_at (k - 1))) (suc (length xs)) xs) ≡ Some (true, rest)
    → pattern_at k xs ≡ Some (take (length xs - length rest) xs, rest)
pattern-found k xs rest some h = pattern-above k xs some ∙ all-atoms (many count_at (matcher_by (pattern_at (k - 1))) (suc (length xs)) xs) rest xs h

pub pattern-shorter : (k : ℕ) (text xs rest : List ℕ) → pattern_at k xs ≡ Some (text, rest) → length rest ≤ length xs
pattern-shorter k text xs rest h = after_length xs rest ((pattern-exact k).after text xs rest ((pattern-exact k).sound text xs rest h))

-- names with subscripts
module _ (may : Bool) (end : ℕ) (item : List ℕ → Option (Tree × List ℕ)) (xs name m : List ℕ) where
  pub local-gives : (ss : List (ℕ × Tree)) (ys : List ℕ) → name_at xs ≡ Some (name, m) → subs_with end item m ≡ Some (ss, ys) → local_with end item xs ≡ Some (LocalName name (subs_from ss), ys)
  local-gives ss ys n s = rw n (rw s refl)

  pub global-gives : (column : ℕ) (ss : List (ℕ × Tree)) (ys : List ℕ) → where_may may (name_at xs) ≡ Some (name, m) → subs_with end item m ≡ Some (ss, ys) → global_with may end column item xs ≡ Some (GlobalName column name (subs_from ss), ys)
  global-gives column ss ys n s = rw n (rw s refl)

  pub local-fails : (e : Failure Offence) → name_at xs ≡ Some (name, m) → FailsOn e (subs_with end item m) → FailsOn e (local_with end item xs)
  local-fails OutOfMemory n s = tt
  local-fails (Refused r) n s = rw n (rw s refl)

  pub global-fails : (e : Failure Offence) (column : ℕ) → where_may may (name_at xs) ≡ Some (name, m) → FailsOn e (subs_with end item m) → FailsOn e (global_with may end column item xs)
  global-fails OutOfMemory column n s = tt
  global-fails (Refused r) column n s = rw n (rw s refl)

-- an operand that begins with a letter or a caret
module _ (a : Allows) (end : ℕ) (deep quiet : List ℕ → Option (Tree × List ℕ)) (pattern : List ℕ → Option (List ℕ × List ℕ)) (b : ℕ) (m xs : List ℕ) where
  pub operand-local : xs ≡ b ∷ m → kind_of b ≡ kind.Letter → operand_with a end deep quiet pattern xs ≡ local_with end (chain_with deep pattern) xs
  operand-local is k = rw is (rw k refl)

  pub operand-global : xs ≡ b ∷ m → kind_of b ≡ kind.Caret → operand_with a end deep quiet pattern xs ≡ global_with (globals_may a) end (column_of end xs) (chain_with deep pattern) m
  operand-global is k = rw is (rw k refl)

-- calls
pub call-listed : (may : Bool) (end : ℕ) (item : List ℕ → Option (Tree × List ℕ)) (column : ℕ) (xs : List ℕ) (callee : Callee) (m n : List ℕ) (given : List ActualTree) (ys : List ℕ)
    → may ≡ true → callee_at xs ≡ Some (callee, m) → byte_at 40 m ≡ Some (40, n) → actuals_with ByReference end item n ≡ Some (given, ys) → call_with may end item column xs ≡ Some (CallOf column callee (actuals_from given), ys)
unfolding call_with
call-listed may end item column xs callee m n given ys b f g h = rw b (rw f (rw g (rw h refl)))

pub call-fails : (e : Failure Offence) (may : Bool) (end : ℕ) (item : List ℕ → Option (Tree × List ℕ)) (column : ℕ) (xs : List ℕ) (callee : Callee) (m n : List ℕ)
    → may ≡ true → callee_at xs ≡ Some (callee, m) → byte_at 40 m ≡ Some (40, n) → FailsOn e (actuals_with ByReference end item n) → FailsOn e (call_with may end item column xs)
unfolding call_with
call-fails OutOfMemory may end item column xs callee m n b f g h = tt
call-fails (Refused r) may end item column xs callee m n b f g h = rw b (rw f (rw g (rw h refl)))

-- functions
pub function-gives : (a : Allows) (atom item quiet : List ℕ → Option (Tree × List ℕ)) (w xs : List ℕ) (f : Function) (ts : List Tree) (ys : List ℕ)
    → is_select w ≡ false → function_of w ≡ Some f → function_may a f ≡ true → arguments_with atom item quiet f xs ≡ Some (ts, ys) → function_with a atom item quiet w xs ≡ Some (Func f (trees_from ts), ys)
unfolding function_with
function-gives a atom item quiet w xs f ts ys s g may h = rw s (rw g (rw may (rw h refl)))

pub function-fails : (e : Failure Offence) (a : Allows) (atom item quiet : List ℕ → Option (Tree × List ℕ)) (w xs : List ℕ) (f : Function)
    → is_select w ≡ false → function_of w ≡ Some f → function_may a f ≡ true → FailsOn e (arguments_with atom item quiet f xs) → FailsOn e (function_with a atom item quiet w xs)
unfolding function_with
function-fails OutOfMemory a atom item quiet w xs f s g may h = tt
function-fails (Refused r) a atom item quiet w xs f s g may h = rw s (rw g (rw may (rw h refl)))

-- a list with at most `most` items
module _ {A : Type 0} (item : List ℕ → Option (A × List ℕ)) (most : ℕ) (xs : List ℕ) (first : A) (m : List ℕ) where
  abbrev listed : Option (List A × List ℕ)
  listed = put (first ∷ []) (many (byte_at 44) (next item) (suc (length m)) m)

  pub few-give : (items : List A) (rest ys : List ℕ) → item xs ≡ Some (first, m) → (listed >>= at_most most) ≡ Some (items, rest) → byte_at 41 rest ≡ Some (41, ys) → (list_with item xs >>= at_most most) ≡ Some (items, ys)
  unfolding list_with
  few-give items rest ys one more close =
      let p = at_most-some most listed items rest more in
      let w = with_some (λ l. (first ∷ []) ++ l) (many (byte_at 44) (next item) (suc (length m)) m) items rest p.0 in
      rw one (rw (w.1) (rw close (ap (λ l. at_most most (l, ys)) (sym w.2) ∙ at_most-is most items ys p.1)))

  pub few-close : (items : List A) (rest : List ℕ) → item xs ≡ Some (first, m) → (listed >>= at_most most) ≡ Some (items, rest) → byte_at 41 rest ≡ None → (list_with item xs >>= at_most most) ≡ None
  unfolding list_with
  few-close items rest one more close =
      let p = at_most-some most listed items rest more in
      let w = with_some (λ l. (first ∷ []) ++ l) (many (byte_at 44) (next item) (suc (length m)) m) items rest p.0 in
      rw one (rw (w.1) (rw close refl))

  closed : (o : List A × List ℕ) (c : Option (ℕ × List ℕ)) → at_most most (first ∷ o.0, o.1) ≡ None → (with (λ _. first ∷ o.0) c >>= at_most most) ≡ None
  closed o None h = refl
  closed o (Some c) h = elim (cases_Bool (nat_le (length (first ∷ o.0)) most)) [
    | inl b ↦ cc (rw b at h)
    | inr b ↦ rw b refl
  ]

  others-none : (o : Option (List A × List ℕ)) → (put (first ∷ []) o >>= at_most most) ≡ None → ((o >>= λ others. with (λ _. first ∷ others.0) (byte_at 41 others.1)) >>= at_most most) ≡ None
  others-none None h = refl
  others-none (Some o) h = closed o (byte_at 41 o.1) h

  pub few-fail : (e : Failure Offence) → item xs ≡ Some (first, m) → FailsOn e (listed >>= at_most most) → FailsOn e (list_with item xs >>= at_most most)
  unfolding list_with
  few-fail OutOfMemory one more = tt
  few-fail (Refused r) one more = rw one (others-none (many (byte_at 44) (next item) (suc (length m)) m) more)

pub list-fails : {A : Type 0} (item : List ℕ → Option (A × List ℕ)) (most : ℕ) (xs : List ℕ) (e : Failure Offence) → FailsOn e (item xs) → FailsOn e (list_with item xs >>= at_most most)
unfolding list_with
list-fails item most xs OutOfMemory h = tt
list-fails item most xs (Refused r) h = rw h refl

-- a name and what follows it
module _ (atom item quiet : List ℕ → Option (Tree × List ℕ)) (f : Function) (most : ℕ) (xs : List ℕ) (first : Tree) (m : List ℕ) where
  abbrev argued : Option (List Tree × List ℕ)
  argued = put (first ∷ []) (many (byte_at 44) (next quiet) (suc (length m)) m) >>= at_most (suc most)

  pub arguments-give : (args : List Tree) (rest ys : List ℕ) → named f ≡ Some most → starts_reference xs ≡ true → atom xs ≡ Some (first, m) → takes f first ≡ true
      → argued ≡ Some (args, rest) → byte_at 41 rest ≡ Some (41, ys) → arguments_with atom item quiet f xs ≡ Some (args, ys)
  unfolding arguments_with
  arguments-give args rest ys n starts one asks more close =
      let p = at_most-some (suc most) (put (first ∷ []) (many (byte_at 44) (next quiet) (suc (length m)) m)) args rest more in
      let w = with_some (λ items. (first ∷ []) ++ items) (many (byte_at 44) (next quiet) (suc (length m)) m) args rest p.0 in
      let size = ap length w.2 in
      let few = p.1 in
      let small : nat_le (length w.0) most ≡ true = le-leb (length w.0) most (omega arith) in
      rw n (rw starts (rw one (rw asks (rw (w.1) (rw small (rw close (ap (λ l. Some (l, ys)) (sym w.2))))))))

  pub arguments-close : (args : List Tree) (rest : List ℕ) → named f ≡ Some most → starts_reference xs ≡ true → atom xs ≡ Some (first, m) → takes f first ≡ true
      → argued ≡ Some (args, rest) → byte_at 41 rest ≡ None → arguments_with atom item quiet f xs ≡ None
  unfolding arguments_with
  arguments-close args rest n starts one asks more close =
      let p = at_most-some (suc most) (put (first ∷ []) (many (byte_at 44) (next quiet) (suc (length m)) m)) args rest more in
      let w = with_some (λ items. (first ∷ []) ++ items) (many (byte_at 44) (next quiet) (suc (length m)) m) args rest p.0 in
      let size = ap length w.2 in
      let few = p.1 in
      let small : nat_le (length w.0) most ≡ true = le-leb (length w.0) most (omega arith) in
      rw n (rw starts (rw one (rw asks (rw (w.1) (rw small (rw close refl))))))

  others-lack : (o : Option (List Tree × List ℕ)) → (put (first ∷ []) o >>= at_most (suc most)) ≡ None → (o >>= others_by most first) ≡ None
  others-lack None h = refl
  others-lack (Some o) h = elim (cases_Bool (nat_le (length o.0) most)) [
    | inr b ↦ rw b refl
    | inl b ↦
        let few = leb-true (length o.0) most b in
        let small : nat_le (suc (length o.0)) (suc most) ≡ true = le-leb (suc (length o.0)) (suc most) (omega arith) in
        cc (rw small at h)
  ]

  pub arguments-fail : (e : Failure Offence) → named f ≡ Some most → starts_reference xs ≡ true → atom xs ≡ Some (first, m) → takes f first ≡ true
      → FailsOn e argued → FailsOn e (arguments_with atom item quiet f xs)
  unfolding arguments_with
  arguments-fail OutOfMemory n starts one asks more = tt
  arguments-fail (Refused r) n starts one asks more = rw n (rw starts (rw one (rw asks (others-lack (many (byte_at 44) (next quiet) (suc (length m)) m) more))))
