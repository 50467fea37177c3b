-- Claims whose terms are added in either way.
use Rattle.std.proofs.Common.{◌≡◌, ◌⊎◌, ◌+◌, ℕ, Bool, true, false, List, [], ◌∷◌, ◌++◌, length, length-append, Option, Some, None, Result, Ok, Err, refl, ap, sym, inl, inr, ⊎_elim, arith}
use Rattle.std.specs.Prelude.{nat_lt}
use Rattle.std.proofs.Math.Nat.{zero-add}
use Rattle.std.proofs.lemmas.Bool.{cases_Bool}
use Rattle.std.proofs.lemmas.Bool.Decides.{nat_tests}
use Rattle.std.proofs.lemmas.List.Edits.{length-insert}
use Rattle.std.proofs.lemmas.List.Sums.{prefix_len-le-length}
use Rattle.mlk_text.specs.declared.code.Code.{Code}
use Rattle.mlk_syntax.specs.declared.command.Sign.{Sign}
use Rattle.mlk_syntax.specs.declared.command.Sign.TheVariants as sign
use Rattle.mlk_syntax.specs.Trees.{VariableTree}
use Rattle.mlk_names.specs.declared.term.LockTerm.{LockTerm}
use Rattle.mlk_cert_parts.specs.declared.case.Test.TheVariants.{One}
use Rattle.mlk_cert_lexemes.specs.Lists.{below}
use Rattle.mlk_cert_parts.specs.TermOrder.{terms_before}
use Rattle.mlk_cert_lexemes.specs.Texts.{term_text}
use Rattle.mlk_walk_state.specs.declared.state.State.{State}
use Rattle.mlk_walk_state.specs.States.{holding, tested, without_last, last_captured}
use Rattle.mlk_walk_state.specs.Terms.{add_term, add_terms}
use Rattle.mlk_calls.specs.Claims.{held_too, claim_refused, release_all}
use Rattle.mlk_walk_exprs.specs.declared.walk.Walk.{Walk}
use Rattle.mlk_walk_exprs.specs.Walks.{Goes, is_large, each, few}
use Rattle.mlk_walk_exprs.specs.Spots.{Spot}
use Rattle.mlk_walk_commands.specs.Holding.{held_quickly}
use Rattle.mlk_walk_commands.specs.Locks.{count_names, terms_of, granted, claim_outcomes, claim, claim_after, by_sign, lock_terms, lock_row}
use Rattle.mlk_walk_commands.proofs.Alike.{AllAlike, all_same, each_alike}

length_put : (t : LockTerm) (held : List LockTerm) → length (add_term t held) ≡ length held + 1
length_put t held = length-insert held (terms_before held t) t (prefix_len-le-length (λ u. below (term_text u) (term_text t)) held)

length_all : (ts held : List LockTerm) → length (add_terms ts held) ≡ length ts + length held
length_all [] held = sym (zero-add (length held))
length_all (t ∷ ts) held = let a = length_all ts (add_term t held) in let b = length_put t held in omega (arith, a, b)

more_than : (n m k : ℕ) → nat_lt 16 n ≡ true → k ≡ n + m → nat_lt 16 k ≡ true
more_than n m k h e = grind (arith, nat_tests)

large_if : (held : List LockTerm) (s : State) → nat_lt 16 (length held) ≡ true → is_large (holding held s) ≡ true
large_if held s h = rw h refl

module _ (terms : List LockTerm) (s : State) where
  abbrev AlikeHeld : Type 0
  AlikeHeld = (held_quickly terms s ≡ held_too terms s)
      ⊎ ((is_large (held_quickly terms s) ≡ true) × (is_large (held_too terms s) ≡ true))

  held_alike : AlikeHeld
  held_alike = ⊎_elim
      (λ (e : nat_lt 16 (length terms) ≡ true). inr (
        rw e (large_if (terms ++ s.case.held) s (more_than (length terms) (length s.case.held) (length (terms ++ s.case.held)) e (length-append terms s.case.held))),
        large_if (add_terms terms s.case.held) s (more_than (length terms) (length s.case.held) (length (add_terms terms s.case.held)) e (length_all terms s.case.held)),
      ))
      (λ (e : nat_lt 16 (length terms) ≡ false). inl (rw e refl))
      (cases_Bool (nat_lt 16 (length terms)))

  granted_alike : (timed : Bool) → AllAlike (granted held_quickly timed terms s) (granted held_too timed terms s)
  granted_alike false = by held_alike
    where
      by : AlikeHeld → AllAlike (granted held_quickly false terms s) (granted held_too false terms s)
      by (inl e) = (inl (ap Goes e), tt)
      by (inr h) = (inr h, tt)
  granted_alike true = by held_alike
    where
      by : AlikeHeld → AllAlike (granted held_quickly true terms s) (granted held_too true terms s)
      by (inl e) = (inl (ap (λ z. Goes (tested One z)) e), (inl refl, tt))
      by (inr h) = (inr h, (inl refl, tt))

module _ (p : Spot) (timed : Bool) (names : List VariableTree) where
  claim_alike : (terms : List LockTerm) (s : State) → AllAlike (claim held_quickly p timed names terms s) (claim held_too p timed names terms s)
  claim_alike terms s = by (claim_refused p.scope timed s.case.held terms)
    where
      by : (r : Option (ℕ × Code)) → AllAlike (claim_outcomes held_quickly p timed names terms s r) (claim_outcomes held_too p timed names terms s r)
      by None = granted_alike terms s timed
      by (Some refused) = all_same (claim_outcomes held_too p timed names terms s (Some refused))

  after_alike : (terms : List LockTerm) (r : Result State Code) → AllAlike (claim_after held_quickly p timed names terms r) (claim_after held_too p timed names terms r)
  after_alike terms (Ok s) = claim_alike terms s
  after_alike terms (Err code) = all_same (claim_after held_too p timed names terms (Err code))

  sign_alike : (sg : Sign) (terms : List LockTerm) (s : State) → AllAlike (by_sign held_quickly p sg timed names terms s) (by_sign held_too p sg timed names terms s)
  sign_alike sign.Plus terms s = claim_alike terms s
  sign_alike sign.None terms s = after_alike terms (release_all p.scope s)
  sign_alike sign.Minus terms s = all_same (by_sign held_too p sign.Minus timed names terms s)

  row_alike : (sg : Sign) (s : State) → AllAlike (lock_row held_quickly p sg timed names s) (lock_row held_too p sg timed names s)
  row_alike sg s = by (terms_of names (last_captured (count_names names) s))
    where
      left : State
      left = without_last (count_names names) s

      by : (r : Option (List LockTerm)) → AllAlike (lock_terms held_quickly p sg timed names left r) (lock_terms held_too p sg timed names left r)
      by (Some terms) = sign_alike sg terms left
      by None = all_same (lock_terms held_too p sg timed names left None)

  -- so with either, the walk of the line is over
  pub either_way : (sg : Sign) (line word : ℕ) (w : Walk) → few line word (each (lock_row held_quickly p sg timed names) w)
      ≡ few line word (each (lock_row held_too p sg timed names) w)
  either_way sg line word w = each_alike (lock_row held_quickly p sg timed names) (lock_row held_too p sg timed names) (row_alike sg) line word w
