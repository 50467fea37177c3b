-- A byte at a place, and what follows it.
use Rattle.std.proofs.Common.{◌≡◌, ◌<◌, ◌+◌, ℕ, zero, suc, List, [], ◌∷◌, ◌++◌, length, drop, Some, None, refl, sym, ap, ◌∙◌, arith, subst, add-one, length-drop}
use Rattle.std.specs.Prelude.{Option}
use Rattle.mlk_expr.specs.declared.context.Allows.{Allows}
use Rattle.mlk_syntax.specs.ExprTrees.{Tree}
use Rattle.mlk_expr.specs.Grammar.{Spelled, IsExprWhere}
use Rattle.mlk_expr.specs.Theorem.{Stands, ExprEnds}
use Rattle.mlk_text.specs.declared.failure.Failure.{Failure}
use Rattle.mlk_text.specs.declared.failure.Failure.TheVariants.{OutOfMemory, Refused}
use Rattle.mlk_text.specs.declared.fault.Fault.{Fault}
use Rattle.mlk_routine_arguments.specs.PartsRead.{Found, Nowhere, Denied, first_of, byte_at}
use Rattle.mlk_routine_arguments.specs.Ends.{AfterEnds}
use Rattle.mlk_routine_arguments.specs.CommandGrammar.{After, IsAfter}
use Rattle.mlk_routine_arguments.proofs.Sequences.{Turned, turned_found, turned_nowhere}

pub drop_next : (line : List ℕ) (at b : ℕ) (xs : List ℕ) → drop at line ≡ b ∷ xs → drop (suc at) line ≡ xs
drop_next [] zero b xs h = cc h
drop_next (x ∷ line) zero b xs h = cc h
drop_next [] (suc n) b xs h = cc h
drop_next (x ∷ line) (suc n) b xs h = drop_next line n b xs h

pub byte_there : (line : List ℕ) (at b : ℕ) → byte_at line at ≡ Some b → drop at line ≡ b ∷ drop (suc at) line
byte_there line at b h = go (drop at line) refl h
  where
    go : (l : List ℕ) → drop at line ≡ l → first_of l ≡ Some b → drop at line ≡ b ∷ drop (suc at) line
    go [] is other = cc other
    go (x ∷ xs) is same_byte =
        let same : x ≡ b = cc same_byte in
        is ∙ ap (λ y. y ∷ xs) same ∙ ap (λ l. b ∷ l) (sym (drop_next line at x xs is))

pub byte_before : (line : List ℕ) (at b : ℕ) → byte_at line at ≡ Some b → at < length line
byte_before line at b h =
    let d = length-drop at line in
    let e : length (drop at line) ≡ suc (length (drop (suc at) line)) = ap length (byte_there line at b h) in
    omega arith

-- a thing after this byte
abbrev pub AfterByte : {A : Type 0} → ℕ → Spelled A → Spelled A
AfterByte b Is at a s = After b (λ n r. Is n a r) at s

module _ {A : Type 0} (Is : Spelled A) (Ends : A → List ℕ → Type 0) (line : List ℕ) (at b : ℕ) where
  pub after_found : byte_at line at ≡ Some b → (a : A) (n : ℕ) → Found Is Ends line (at + 1) a n → Found (AfterByte b Is) Ends line at a n
  after_found h a n f = go (subst (λ k. Found Is Ends line k a n) (add-one at) f)
    where
      go : Found Is Ends line (suc at) a n → Found (AfterByte b Is) Ends line at a n
      go (one, only) =
          let stands : Stands (AfterByte b Is) Ends line at a n = record { text = b ∷ one.text; within = one.within; joined = byte_there line at b h ∙ ap (λ l. b ∷ l) one.joined; spelled = (one.text, refl, one.spelled); ended = one.ended } in
          (stands, λ c u rest g (r, is, spelled) e. only c r rest (drop_next line at b (r ++ rest) (g ∙ ap (λ l. l ++ rest) is)) spelled e)

  pub after_nowhere : Nowhere Is Ends line (at + 1) → Nowhere (AfterByte b Is) Ends line at
  after_nowhere none c u rest g (r, is, spelled) e =
      let moved : Nowhere Is Ends line (suc at) = subst (λ k. Nowhere Is Ends line k) (add-one at) none in
      moved c r rest (drop_next line at b (r ++ rest) (g ∙ ap (λ l. l ++ rest) is)) spelled e

  pub after_denied : (e : Failure Fault) → Denied Is Ends line (at + 1) e → Denied (AfterByte b Is) Ends line at e
  after_denied OutOfMemory h = tt
  after_denied (Refused fault) h = (after_nowhere h.0, h.1)

  pub after_missing : (byte_at line at ≡ Some b → ⊥) → Nowhere (AfterByte b Is) Ends line at
  after_missing miss c u rest g (r, is, spelled) e = miss (ap first_of (g ∙ ap (λ l. l ++ rest) is))

-- an expression that may be missing
module _ (b : ℕ) (allows : Allows) (line : List ℕ) (at : ℕ) (here : byte_at line at ≡ Some b) where
  pub optional : Turned line at (AfterByte b (IsExprWhere allows)) ExprEnds (IsAfter b allows) (AfterEnds b) Some
  optional = record {
    into = λ a s is. is;
    ends = λ a rest e. e;
    apart = λ c u rest h is e. go c u rest h is e;
  }
    where
      go : (c : Option Tree) (u rest : List ℕ) → drop at line ≡ u ++ rest → IsAfter b allows (suc at) c u → AfterEnds b c rest
          → (a : Tree) × (c ≡ Some a) × AfterByte b (IsExprWhere allows) (suc at) a u × ExprEnds a rest
      go None u rest h is e = absurd (e (sym (ap first_of (h ∙ ap (λ l. l ++ rest) is)) ∙ here))
      go (Some t) u rest h is e = (t, refl, is, e)

  pub optional_found : (t : Tree) (n : ℕ) → Found (IsExprWhere allows) ExprEnds line (at + 1) t n → Found (IsAfter b allows) (AfterEnds b) line at (Some t) n
  optional_found t n f =
      turned_found optional t n
      (after_found (IsExprWhere allows) ExprEnds line at b here t n f)

  pub optional_nowhere : Nowhere (IsExprWhere allows) ExprEnds line (at + 1) → Nowhere (IsAfter b allows) (AfterEnds b) line at
  optional_nowhere f =
      turned_nowhere optional
      (after_nowhere (IsExprWhere allows) ExprEnds line at b f)
