-- Exits without held locks need no actuals.
use Rattle.std.proofs.Common.{◌≡◌, ◌∙◌, ℕ, false, List, [], ◌∷◌, Option, length, refl, ap, arith, ltb-false}
use Rattle.std.specs.Prelude.{option_map, option_and_then}
use Rattle.std.specs.List.{list_any}
use Rattle.std.proofs.lemmas.Bool.{or_parts}
use Rattle.mlk_names.specs.declared.symbol.Sym.{Sym}
use Rattle.mlk_names.specs.declared.term.LockTerm.{LockTerm}
use Rattle.mlk_cert_parts.specs.declared.case.ExitCase.{ExitCase}
use Rattle.mlk_walk_state.specs.declared.state.State.{State}
use Rattle.mlk_walk_state.specs.Lists.{all_some}
use Rattle.mlk_walk_state.specs.Terms.{add_terms, put_terms}
use Rattle.mlk_walk_state.specs.Cases.{holds_some}
use Rattle.mlk_calls.specs.declared.call.Calling.{Calling}
use Rattle.mlk_calls.specs.Calls.{test_after, leave, SameEnds}

no_terms : (formals : List (List ℕ)) (given others : List (Option Sym)) (held : List LockTerm) → holds_some held ≡ false
    → put_terms formals given held ≡ put_terms formals others held
no_terms formals given others [] h = refl
no_terms formals given others (t ∷ ts) h = absurd (omega (arith, ltb-false 0 (length (t ∷ ts)) h))

module _ (how : Calling) (formals : List (List ℕ)) (given others : List (Option Sym)) (aside : List LockTerm) (s : State) where
  same_leave : (e : ExitCase) → holds_some e.held ≡ false → leave how formals given aside s e ≡ leave how formals others aside s e
  same_leave e h = ap (option_map (λ (terms : List LockTerm).
      record s { case = record s.case { test = test_after how s.case.test e.test; held = add_terms terms aside } })) (no_terms formals given others e.held h)

  same_all : (es : List ExitCase) → list_any (λ (e : ExitCase). holds_some e.held) es ≡ false
      → all_some (leave how formals given aside s) es ≡ all_some (leave how formals others aside s) es
  same_all [] h = refl
  same_all (e ∷ es) h =
      let parts = or_parts (holds_some e.held) (list_any (λ (x : ExitCase). holds_some x.held) es) h in
      ap (λ (o : Option (List State)). option_and_then (λ (b : State). option_map (λ bs. b ∷ bs) o) (leave how formals given aside s e)) (same_all es parts.1)
      ∙ ap (option_and_then (λ (b : State). option_map (λ bs. b ∷ bs) (all_some (leave how formals others aside s) es))) (same_leave e parts.0)

pub bare : (given others : List (Option Sym)) (exits : List ExitCase) → list_any (λ (e : ExitCase). holds_some e.held) exits ≡ false
    → SameEnds given others exits
bare given others exits h = λ how formals aside s. same_all how formals given others aside s exits h
