-- Tests that lists are in order and not too long, as functions. For private clauses only: the contracts of public calls use
-- `Limits`.
use Rattle.std.specs.Prelude.{ℕ, ◌&&◌, ◌||◌, not, nat_le, Bool, true, false, List, [], ◌∷◌, length, map, bytes_eq}
use Rattle.mlk_names.specs.declared.term.LockTerm.{LockTerm}
use Rattle.mlk_cert_parts.specs.declared.case.Case.{Case}
use Rattle.mlk_cert_parts.specs.declared.case.ExitCase.{ExitCase}
use Rattle.mlk_cert_parts.specs.declared.names.NameSet.{NameSet}
use Rattle.mlk_cert_parts.specs.declared.names.NameSet.TheVariants.{Only, AllBut}
use Rattle.mlk_cert_parts.specs.declared.names.Own.{Own}
use Rattle.mlk_cert_parts.specs.declared.block.Point.{Point}
use Rattle.mlk_cert_parts.specs.declared.block.EntryCert.{EntryCert}
use Rattle.mlk_cert_lexemes.specs.Lists.{ascends, below}
use Rattle.mlk_cert_lexemes.specs.Kinds.{terms_upto}
use Rattle.mlk_cert_parts.specs.Limits.{names_below, own_below, cases_below, exits_below, points_below}

-- whether the names inside the parentheses ascend
abbrev pub ascends_inside : NameSet → Bool
ascends_inside (Only name) = true
ascends_inside (AllBut names) = ascends below names

abbrev pub ascend_inside : List NameSet → Bool
ascend_inside [] = true
ascend_inside (n ∷ sets) = ascends_inside n && ascend_inside sets

abbrev pub ascend_inside_own : List Own → Bool
ascend_inside_own [] = true
ascend_inside_own (o ∷ own) = ascends_inside o.names && ascend_inside_own own

abbrev pub fit_terms : List LockTerm → Bool
fit_terms terms = nat_le (length terms) 16 && ascends terms_upto terms

abbrev pub fit_mods : List NameSet → Bool
fit_mods mods = nat_le (length mods) 1024 && (ascend_inside mods && ascends names_below mods)

abbrev pub fit_own : List Own → Bool
fit_own own = nat_le (length own) 64 && (ascend_inside_own own && ascends own_below own)

abbrev pub fit_kept : List (List ℕ) → Bool
fit_kept kept = nat_le (length kept) 64 && ascends below kept

abbrev pub fits_case : Case → Bool
fits_case c = fit_terms c.held && (fit_own c.own && fit_kept c.kept)

abbrev pub fits_exit : ExitCase → Bool
fits_exit e = fit_terms e.held && fit_kept e.kept

abbrev pub fit_exits : List ExitCase → Bool
fit_exits exits = nat_le (length exits) 16 && ascends exits_below exits

abbrev pub fit_cases : List Case → Bool
fit_cases cases = nat_le (length cases) 16 && ascends cases_below cases

abbrev pub each_fits : List Point → Bool
each_fits [] = true
each_fits (p ∷ points) = fit_cases p.cases && each_fits points

abbrev pub fit_points : List Point → Bool
fit_points points = each_fits points && ascends points_below points

-- whether a text is among the texts
abbrev pub has_text : List (List ℕ) → List ℕ → Bool
has_text [] text = false
has_text (t ∷ texts) text = bytes_eq text t || has_text texts text

-- whether no text occurs twice
abbrev pub are_distinct : List (List ℕ) → Bool
are_distinct [] = true
are_distinct (t ∷ texts) = not (has_text texts t) && are_distinct texts

abbrev pub entries : List EntryCert → List (List ℕ)
entries blocks = map (λ b. b.entry) blocks

abbrev pub fit_blocks : List EntryCert → Bool
fit_blocks blocks = are_distinct (entries blocks)

-- no further test
abbrev pub fits : {A : Type 0} → A → Bool
fits a = true
