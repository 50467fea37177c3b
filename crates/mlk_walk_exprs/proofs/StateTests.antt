-- `==` of states decides whether they are equal.
use Rattle.std.proofs.Common.{◌≡◌, refl, ap, ◌∙◌, rules}
use Rattle.std.specs.Prelude.{Decides}
use Rattle.std.proofs.lemmas.Bool.Decides.{Decides-and, Decides-like}
use Rattle.std.proofs.lemmas.Slice.Eq.{slice_eq-Decides}
use Rattle.mlk_names.specs.declared.symbol.Sym.{Sym}
use Rattle.mlk_names.specs.contracts.symbol.SymPartialEq.TheImpl as sym_eq
use Rattle.mlk_cert_parts.proofs.EqualCases.{case-equal}
use Rattle.mlk_walk_state.specs.declared.state.State.{State}
use Rattle.mlk_walk_state.specs.contracts.state.StatePartialEq.TheImpl as state_eq

sym_equal : (a b : Sym) → Decides (sym_eq.eq-value.it a b) (a ≡ b)
sym_equal a b = search (rules, slice_eq-Decides)

parts_equal : (s t : State) → (s.case ≡ t.case) × (s.captured ≡ t.captured) → s ≡ t
parts_equal s t (c, k) = ap (λ z. record s { case = z }) c ∙ ap (λ z. record t { captured = z }) k

pub state_equal : (s t : State) → Decides (state_eq.eq-value.it s t) (s ≡ t)
state_equal s t =
    Decides-like _ (parts_equal s t) (λ e. (ap (λ (z : State). z.case) e, ap (λ (z : State). z.captured) e))
    (Decides-and _ _ (case-equal s.case t.case) (slice_eq-Decides sym_equal s.captured t.captured _ refl))
