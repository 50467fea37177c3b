-- Rows that are not refused.
use Rattle.std.proofs.Common.{◌≡◌, ℕ, Option, Some, None, refl, inl}
use Rattle.mlk_text.specs.declared.code.Code.{Code}
use Rattle.mlk_names.specs.Lists.{Among}
use Rattle.mlk_cert_parts.specs.declared.case.Case.{Case}
use Rattle.mlk_walk_state.specs.declared.state.State.{State}
use Rattle.mlk_walk_exprs.specs.declared.walk.Quit.{Quit}
use Rattle.mlk_walk_exprs.specs.Walks.{Outcome, Goes, Refused}
use Rattle.mlk_walk_exprs.specs.References.{covered_or}
use Rattle.mlk_soundness_walk.proofs.Alone.{Meets}

-- the result of a row if nothing is wrong
pub covered_goes : (G : State → Type 0) (S : Case → Type 0) (Q : Quit → Type 0) (o : Option Code) (line column : ℕ) (s : State)
    → ((x : Outcome) → Among x (covered_or o line column s) → Meets G S Q x) → (o ≡ None) × G s
covered_goes G S Q None line column s h = (refl, h (Goes s) (inl refl))
covered_goes G S Q (Some code) line column s h = absurd (h (Refused line column code) (inl refl))
