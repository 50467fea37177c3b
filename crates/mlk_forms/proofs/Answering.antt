-- The answer beside known faults, and on what a report rests.
use Rattle.std.proofs.Common.{◌≡◌, ◌++◌, ℕ, zero, suc, List, [], ◌∷◌, Some, None, refl, codes}
use Rattle.std.specs.Fmt.{decimal}
use Rattle.mlk_walk.specs.declared.report.Row.{Row}
use Rattle.mlk_plain_report.specs.Texts.{last_line, line_end}
use Rattle.mlk_forms.specs.Rendering.{answer_line, known_line, rests_line}

pub answer_known : (known : ℕ) (rows : List Row) → (known ≡ 0 → ⊥) → rows ≡ [] → answer_line known rows ≡ known_line known
answer_known zero rows some none = absurd (some refl)
answer_known (suc known) [] some none = refl
answer_known (suc known) (r ∷ rows) some none = cc

pub answer_new : (known : ℕ) (rows : List Row) → (rows ≡ [] → ⊥) → answer_line known rows ≡ last_line rows
answer_new zero rows some = refl
answer_new (suc known) [] some = absurd (some refl)
answer_new (suc known) (r ∷ rows) some = refl

pub no_rests : (rows : List Row) → rests_line rows None ≡ []
no_rests [] = refl
no_rests (r ∷ rows) = refl

pub rests_on_none : (inert : ℕ) (rows : List Row) → inert ≡ 0 → rests_line rows (Some inert) ≡ []
rests_on_none zero [] none = refl
rests_on_none zero (r ∷ rows) none = refl
rests_on_none (suc inert) rows none = cc

pub rests_not : (inert : ℕ) (rows : List Row) → (rows ≡ [] → ⊥) → rests_line rows (Some inert) ≡ []
rests_not inert [] some = absurd (some refl)
rests_not inert (r ∷ rows) some = refl

pub rests_on_some : (inert : ℕ) (rows : List Row) → (inert ≡ 0 → ⊥) → rows ≡ [] → rests_line rows (Some inert) ≡ codes "rests on inert " ++ decimal inert ++ line_end
rests_on_some zero rows some none = absurd (some refl)
rests_on_some (suc inert) [] some none = refl
rests_on_some (suc inert) (r ∷ rows) some none = cc
