-- What is found and what is refused of the trees of routines that were read. It only serves private clauses.
use Rattle.std.specs.Prelude.{ℕ, ◌⊎◌, List}
use Rattle.mlk_syntax.specs.Trees.{RoutineTree}
use Rattle.mlk_program.specs.Program.{IsProgram}
use Rattle.mlk_rules.specs.declared.rules.RuleLists.{RuleLists}
use Rattle.mlk_rules_file.specs.RuleSections.{SaysRules}
use Rattle.mlk_cert_parts.specs.declared.block.EntryCert.{EntryCert}
use Rattle.mlk_cert.specs.Theorem.{Spells}
use Rattle.mlk_walk.specs.declared.report.Row.{Row}
use Rattle.mlk_pool.specs.declared.error.CheckError.{CheckError}
use Rattle.mlk_pool.specs.Headline.{IsReportBy, RefusesRuleText, RefusesTrees, RefusesByText}

-- the report of a program, by the texts of rules and of a certificate
abbrev pub IsReportByTexts : List ℕ → List ℕ → List RoutineTree → List Row → Type 0
IsReportByTexts rules_text cert_text trees rows =
    (rules : RuleLists) × SaysRules rules_text rules
    × (blocks : List EntryCert) × Spells blocks cert_text × IsReportBy trees rules blocks rows

-- why a program has none
abbrev pub IsUnreportedByTexts : Type 0 → ℕ → List ℕ → List ℕ → List RoutineTree → CheckError → Type 0
IsUnreportedByTexts is_open workers rules_text cert_text trees e =
    RefusesRuleText (λ e. e) rules_text e
    ⊎ ((rules : RuleLists) × SaysRules rules_text rules × RefusesByText (λ e. e) is_open workers cert_text trees rules e)

-- the report of trees that make a program
abbrev pub IsReportOfTrees : List RoutineTree → List ℕ → List ℕ → List Row → Type 0
IsReportOfTrees trees rules_text cert_text rows = IsProgram trees × IsReportByTexts rules_text cert_text trees rows

-- why trees have none
abbrev pub IsUnreportedOfTrees : Type 0 → ℕ → List RoutineTree → List ℕ → List ℕ → CheckError → Type 0
IsUnreportedOfTrees is_open workers trees rules_text cert_text e =
    RefusesTrees (λ e. e) trees rules_text (RefusesByText (λ e. e) is_open workers cert_text) e
