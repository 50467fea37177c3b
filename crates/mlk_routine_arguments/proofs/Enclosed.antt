-- Lists in parentheses.
use Rattle.std.proofs.Common.{◌≡◌, ◌+◌, ℕ, List, [], ◌∷◌, ◌++◌, drop, Some, true, refl, sym, ap, ◌∙◌, arith, subst, add-one}
use Rattle.std.proofs.lemmas.Option.{same_Some}
use Rattle.mlk_expr.specs.Grammar.{Spelled, IsList}
use Rattle.mlk_expr.specs.Theorem.{Stands}
use Rattle.mlk_routine_arguments.specs.PartsRead.{Found, Nowhere, Denied, first_of, byte_at}
use Rattle.mlk_routine_arguments.specs.Ends.{is_stop, MoreEnds, AreEnded, AnyEnds}
use Rattle.mlk_routine_arguments.specs.CommandGrammar.{AreEnclosed}
use Rattle.mlk_routine_arguments.proofs.Sequences.{Parts, Turned, both_found, second_nowhere, denied_first, turned_found, turned_nowhere}
use Rattle.mlk_routine_arguments.proofs.Bytes.{AfterByte, after_found, after_nowhere, byte_there, byte_before, drop_next}
use Rattle.mlk_text.specs.declared.failure.Failure.{Failure}
use Rattle.mlk_text.specs.declared.failure.Failure.TheVariants.{OutOfMemory, Refused}
use Rattle.mlk_text.specs.declared.fault.Fault.{Fault}

-- a byte by itself
abbrev pub IsByte : ℕ → ℕ → Unit {0} → List ℕ → Type 0
IsByte b at u s = s ≡ b ∷ []

pub byte_found : (line : List ℕ) (at b : ℕ) → byte_at line at ≡ Some b → Found (IsByte b) AnyEnds line at tt (at + 1)
byte_found line at b h =
    let size = byte_before line at b h in
    let there = byte_there line at b h ∙ ap (λ k. b ∷ drop k line) (sym (add-one at)) in
    let stands : Stands (IsByte b) AnyEnds line at tt (at + 1) = record { text = b ∷ []; within = omega arith; joined = there; spelled = refl; ended = tt } in
    (stands, λ u s rest is one e. (refl, sym (drop_next line at b rest (is ∙ ap (λ l. l ++ rest) one)) ∙ ap (λ k. drop k line) (sym (add-one at))))

pub no_byte : (line : List ℕ) (at b : ℕ) → (byte_at line at ≡ Some b → ⊥) → Nowhere (IsByte b) AnyEnds line at
no_byte line at b h u s rest is one e = h (ap first_of (is ∙ ap (λ l. l ++ rest) one))

module _ {A : Type 0} (Is : Spelled A) (Ends : A → List ℕ → Type 0) (stop : (a : A) (rest : List ℕ) → is_stop rest ≡ true → Ends a rest) where
  -- a list and the parenthesis after it
  abbrev IsClosed : ℕ → List A → List ℕ → Type 0
  IsClosed at items s = (inner : List ℕ) × (s ≡ inner ++ 41 ∷ []) × IsList Is at items inner

  pub closes : (a : A) (items : List A) (rest : List ℕ) → MoreEnds Ends a items (41 ∷ rest)
  closes a [] rest = (λ bad. let e = same_Some 41 44 bad in omega (arith, e), stop a (41 ∷ rest) refl)
  closes a (b ∷ items) rest = closes b items rest

  pub closed_parts : (line : List ℕ) (at : ℕ) → Parts line at (IsList Is) (AreEnded Ends) (λ items. IsByte 41) (λ items. AnyEnds) IsClosed AnyEnds (λ items u. items)
  closed_parts line at = record {
    into = λ items u s t one two. (s, ap (λ l. s ++ l) two, one);
    ends = λ items u k t rest is before after. tt;
    apart = λ c u rest h (inner, is, list) e.
        let ended : AreEnded Ends c (41 ∷ rest) = subst (λ l. AreEnded Ends l (41 ∷ rest)) (sym (list.4)) (closes (list.0) (list.1) rest) in
        (c, tt, inner, 41 ∷ [], is, refl, list, refl, ended, tt);
  }

  pub enclosed_turned : (line : List ℕ) (at : ℕ) → Turned line at (AfterByte 40 IsClosed) AnyEnds (AreEnclosed Is) AnyEnds (λ items. items)
  enclosed_turned line at = record {
    into = λ items s (rest, is, (inner, more, list)). (inner, is ∙ ap (λ l. 40 ∷ l) more, list);
    ends = λ items rest e. tt;
    apart = λ c u rest h (inner, is, list) e. (c, refl, (inner ++ 41 ∷ [], is, (inner, refl, list)), tt);
  }

  pub enclosed_found : (line : List ℕ) (at : ℕ) → byte_at line at ≡ Some 40 → (items : List A) (m : ℕ) → Found (IsList Is) (AreEnded Ends) line (at + 1) items m → byte_at line m ≡ Some 41 → Found (AreEnclosed Is) AnyEnds line at items (m + 1)
  enclosed_found line at open' items m f here =
      let size = byte_before line at 40 open' in
      turned_found (enclosed_turned line at) items (m + 1) (after_found IsClosed AnyEnds line at 40 open' items (m + 1) (both_found (closed_parts line (at + 1)) (omega arith) items tt m (m + 1) f (byte_found line m 41 here)))

  pub unclosed : (line : List ℕ) (at : ℕ) → byte_at line at ≡ Some 40 → (items : List A) (m : ℕ) → Found (IsList Is) (AreEnded Ends) line (at + 1) items m → (byte_at line m ≡ Some 41 → ⊥) → Nowhere (AreEnclosed Is) AnyEnds line at
  unclosed line at open' items m f missing =
      let size = byte_before line at 40 open' in
      turned_nowhere (enclosed_turned line at) (after_nowhere IsClosed AnyEnds line at 40 (second_nowhere (closed_parts line (at + 1)) (omega arith) items m f (no_byte line m 41 missing)))

  pub none_enclosed : (line : List ℕ) (at : ℕ) → byte_at line at ≡ Some 40 → (e : Failure Fault) → Denied (IsList Is) (AreEnded Ends) line (at + 1) e → Denied (AreEnclosed Is) AnyEnds line at e
  none_enclosed line at open' OutOfMemory h = tt
  none_enclosed line at open' (Refused fault) h =
      let size = byte_before line at 40 open' in
      let inner = denied_first (closed_parts line (at + 1)) (omega arith) (Refused fault) h in
      (turned_nowhere (enclosed_turned line at) (after_nowhere IsClosed AnyEnds line at 40 inner.0), h.1)
