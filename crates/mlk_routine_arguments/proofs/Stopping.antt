-- Where commands and their arguments may stop.
use Rattle.std.proofs.Common.{◌≡◌, ◌≤◌, ℕ, suc, List, [], ◌∷◌, ◌++◌, length, drop, Some, true, false, inl, inr, ◌==◌, refl, sym, ap, ◌∙◌, ◌+◌, add-one, arith, subst}
use Rattle.std.specs.Prelude.{Result, Ok, Err}
use Rattle.std.proofs.lemmas.Bool.{cases_Bool, eqb-true}
use Rattle.std.proofs.lemmas.Bool.Decides.{nat_tests}
use Rattle.mlk_text.specs.declared.failure.Failure.{Failure}
use Rattle.mlk_text.specs.declared.failure.Failure.TheVariants.{OutOfMemory, Refused}
use Rattle.mlk_text.specs.declared.fault.Fault.{Fault}
use Rattle.mlk_expr.specs.Grammar.{Spelled, IsList}
use Rattle.mlk_expr.specs.Theorem.{Stands, ExprEnds}
use Rattle.mlk_routine_arguments.specs.PartsRead.{ReadsPart, Found, Nowhere, Denied, first_of, byte_at}
use Rattle.mlk_routine_arguments.specs.Faults.{IsFaulty}
use Rattle.mlk_routine_arguments.specs.Ends.{is_stop, Lacks, MoreEnds, AreEnded, is_commands_end, is_command_end, is_bare_end, StopEnds}
use Rattle.mlk_routine_arguments.specs.Begins.{front_begins, joined_begins}
use Rattle.mlk_routine_arguments.specs.CommandWords.{has_any}
use Rattle.mlk_routine_arguments.specs.CommandGrammar.{IsValue, AreSome, ArePerhaps}
use Rattle.mlk_routine_arguments.specs.Stops.{expr_stop}
use Rattle.mlk_syntax.specs.ExprTrees.{Tree}
use Rattle.mlk_routine_arguments.proofs.Bytes.{AfterByte, byte_there, drop_next}

-- A thing with a stricter condition on what follows it.
module _ {A : Type 0} (Is : Spelled A) (Ends Less : A → List ℕ → Type 0) (line : List ℕ) (at : ℕ) (less : (k : ℕ) (a : A) (s rest : List ℕ) → Is k a s → Less a rest → Ends a rest) where
  pub narrowed_found : (a : A) (n : ℕ) → Found Is Ends line at a n → Less a (drop n line) → Found Is Less line at a n
  narrowed_found a n f h =
      let stands : Stands Is Less line at a n = record { text = f.0.text; within = f.0.within; joined = f.0.joined; spelled = f.0.spelled; ended = h } in
      (stands, λ c u rest g is e. f.1 c u rest g is (less (suc at) c u rest is e))

  pub narrowed_nowhere : (a : A) (n : ℕ) → Found Is Ends line at a n → (Less a (drop n line) → ⊥) → Nowhere Is Less line at
  narrowed_nowhere a n f h c u rest g is e =
      let same = f.1 c u rest g is (less (suc at) c u rest is e) in
      h (subst (λ x. Less x (drop n line)) same.0 (subst (Less c) same.1 e))

  pub narrowed_denied : (e : Failure Fault) → Denied Is Ends line at e → Denied Is Less line at e
  narrowed_denied OutOfMemory h = tt
  narrowed_denied (Refused fault) h = (λ c u rest g is e. h.0 c u rest g is (less (suc at) c u rest is e), h.1)

pub command_stop : (rest : List ℕ) → is_command_end rest ≡ true → is_stop rest ≡ true
command_stop [] h = refl
command_stop (b ∷ rest) h = grind (arith, nat_tests)

pub lacks_comma : (rest : List ℕ) → is_command_end rest ≡ true → Lacks 44 rest
lacks_comma [] h bad = cc bad
lacks_comma (b ∷ rest) h bad = let same : b ≡ 44 = cc bad in let no : is_command_end (44 ∷ rest) ≡ true = subst (λ c. is_command_end (c ∷ rest) ≡ true) same h in cc no

pub space_stops : (line : List ℕ) (at : ℕ) → byte_at line at ≡ Some 32 → is_stop (drop at line) ≡ true
space_stops line at h = ap is_stop (byte_there line at 32 h)

-- after a space, a word without arguments may stop exactly if what is after the space may end a command
pub bare_space : (line : List ℕ) (at : ℕ) → byte_at line at ≡ Some 32 → is_command_end (drop (suc at) line) ≡ is_bare_end (drop at line)
bare_space line at h = sym (ap is_bare_end (byte_there line at 32 h))

pub bare_other : (s : List ℕ) → (first_of s ≡ Some 32 → ⊥) → is_commands_end s ≡ is_bare_end s
bare_other [] h = refl
bare_other (b ∷ s) h = elim (cases_Bool (b == 32)) [
  | inl e ↦ absurd (h (ap Some (eqb-true b 32 e)))
  | inr e ↦ rw e refl
]

module _ {A : Type 0} (Is : Spelled A) (begin : (k : ℕ) (a : A) (s : List ℕ) → Is k a s → is_stop s ≡ false) where
  pub list_begins : (k : ℕ) (items : List A) (s : List ℕ) → IsList Is k items s → is_stop s ≡ false
  list_begins k items s (first, others, front, rest, same, is, one, next) = joined_begins s front rest is (begin k first front one)

  pub no_list : (E : List A → List ℕ → Type 0) (line : List ℕ) (at : ℕ) → is_stop (drop at line) ≡ true → Nowhere (IsList Is) E line at
  no_list E line at h c u rest g is e = cc (sym h ∙ ap is_stop g ∙ front_begins u rest (list_begins (suc at) c u is))

  -- no arguments
  pub bare_found : (line : List ℕ) (at : ℕ) → at ≤ length line → is_bare_end (drop at line) ≡ true → Found (ArePerhaps Is) (λ items. StopEnds (has_any items)) line at [] at
  bare_found line at less h =
      let stands : Stands (ArePerhaps Is) (λ items. StopEnds (has_any items)) line at [] at = record { text = []; within = less; joined = refl; spelled = refl; ended = h } in
      (stands, λ c u rest g is e. only c u rest g is e)
    where
      only : (c : List A) (u rest : List ℕ) → drop at line ≡ u ++ rest → ArePerhaps Is (suc at) c u → StopEnds (has_any c) rest → (c ≡ []) × (rest ≡ drop at line)
      only [] u rest g is e = (refl, sym (g ∙ ap (λ l. l ++ rest) is))
      only (a ∷ more) u rest g (r, is, list) e =
          let far : drop at line ≡ 32 ∷ (r ++ rest) = g ∙ ap (λ l. l ++ rest) is in
          let stops : is_stop (r ++ rest) ≡ true = command_stop (r ++ rest) (sym (ap is_bare_end far) ∙ h) in
          cc (sym stops ∙ front_begins r rest (list_begins (suc (suc at)) (a ∷ more) r list))

  -- arguments
  pub some_found : (line : List ℕ) (at : ℕ) → is_bare_end (drop at line) ≡ false → (items : List A) (n : ℕ) → Found (AreSome Is) (λ items. StopEnds true) line at items n → Found (ArePerhaps Is) (λ items. StopEnds (has_any items)) line at items n
  some_found line at h [] n (one, only) = no one.spelled
    where
      no : AreSome Is (suc at) [] one.text → Found (ArePerhaps Is) (λ items. StopEnds (has_any items)) line at [] n
      no (r, is, (first, others, front, rest, same, also, thing, next)) = cc same
  some_found line at h (a ∷ items) n (one, only) =
      let stands : Stands (ArePerhaps Is) (λ items. StopEnds (has_any items)) line at (a ∷ items) n = record { text = one.text; within = one.within; joined = one.joined; spelled = one.spelled; ended = one.ended } in
      (stands, λ c u rest g is e. go c u rest g is e)
    where
      go : (c : List A) (u rest : List ℕ) → drop at line ≡ u ++ rest → ArePerhaps Is (suc at) c u → StopEnds (has_any c) rest → (c ≡ a ∷ items) × (rest ≡ drop n line)
      go [] u rest g is e = cc (sym h ∙ ap is_bare_end (g ∙ ap (λ l. l ++ rest) is) ∙ e)
      go (b ∷ more) u rest g is e = only (b ∷ more) u rest g is e

  some_denied : (line : List ℕ) (at : ℕ) → is_bare_end (drop at line) ≡ false → (e : Failure Fault) → Denied (AreSome Is) (λ items. StopEnds true) line at e → Denied (ArePerhaps Is) (λ items. StopEnds (has_any items)) line at e
  some_denied line at h OutOfMemory d = tt
  some_denied line at h (Refused fault) d = (λ c u rest g is e. go c u rest g is e, d.1)
    where
      go : (c : List A) (u rest : List ℕ) → drop at line ≡ u ++ rest → ArePerhaps Is (suc at) c u → StopEnds (has_any c) rest → ⊥
      go [] u rest g is e = cc (sym h ∙ ap is_bare_end (g ∙ ap (λ l. l ++ rest) is) ∙ e)
      go (b ∷ more) u rest g is e = d.0 (b ∷ more) u rest g is e

  pub some_told : {X : Type 0} (line : List ℕ) (at : ℕ) → is_bare_end (drop at line) ≡ false → (view : X → List A) (r : Result (X × ℕ) (Failure Fault)) → ReadsPart view (AreSome Is) (λ items. StopEnds true) line at r → ReadsPart view (ArePerhaps Is) (λ items. StopEnds (has_any items)) line at r
  some_told line at h view (Ok r) t = some_found line at h (view r.0) r.1 t
  some_told line at h view (Err e) t = some_denied line at h e t

  -- a list that ends where a command may
  module _ (Ends : A → List ℕ → Type 0) (stop : (a : A) (rest : List ℕ) → is_stop rest ≡ true → Ends a rest) where
    more_end : (a : A) (items : List A) (rest : List ℕ) → is_command_end rest ≡ true → MoreEnds Ends a items rest
    more_end a [] rest h = (lacks_comma rest h, stop a rest (command_stop rest h))
    more_end a (b ∷ items) rest h = more_end b items rest h

    pub list_ended : (k : ℕ) (items : List A) (s rest : List ℕ) → IsList Is k items s → is_command_end rest ≡ true → AreEnded Ends items rest
    list_ended k items s rest (first, others, front, r, same, is, one, next) h = subst (λ l. AreEnded Ends l rest) (sym same) (more_end first others rest h)

    pub list_end : (k : ℕ) (items : List A) (s rest : List ℕ) → AfterByte 32 (IsList Is) k items s → is_command_end rest ≡ true → AreEnded Ends items rest
    list_end k items s rest (t, eq, list) h = list_ended (suc k) items t rest list h

-- if arguments are not preceded by one space, there are none
pub unspaced : {A : Type 0} (Is : Spelled A) (begin : (k : ℕ) (a : A) (s : List ℕ) → Is k a s → is_stop s ≡ false) (E : A → List ℕ → Type 0) (line : List ℕ) (at : ℕ) (e : Failure Fault)
    → (byte_at line at ≡ Some 32 → is_stop (drop (at + 1) line) ≡ true) × IsFaulty line e → Denied (AfterByte 32 Is) E line at e
unspaced Is begin E line at OutOfMemory h = tt
unspaced Is begin E line at (Refused fault) h = (none, h.1)
  where
    none : Nowhere (AfterByte 32 Is) E line at
    none c u rest g (r, is, thing) e =
        let far : drop at line ≡ 32 ∷ (r ++ rest) = g ∙ ap (λ l. l ++ rest) is in
        let next : drop (at + 1) line ≡ r ++ rest = ap (λ n. drop n line) (add-one at) ∙ drop_next line at 32 (r ++ rest) far in
        let stops = h.0 (ap first_of far) in
        cc (sym stops ∙ ap is_stop next ∙ front_begins r rest (begin (suc (suc at)) c r thing))

-- an expression that ends where a command may
pub value_end : (k : ℕ) (t : Tree) (s rest : List ℕ) → AfterByte 32 IsValue k t s → is_command_end rest ≡ true → ExprEnds t rest
value_end k t s rest is h = expr_stop t rest (command_stop rest h)
