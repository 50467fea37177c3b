-- What a report on the texts of a program says, and why there is none. This project's own choice. What the text of a routine
-- spells is in `RoutineGrammar` of mlk_routine, what the text of rules says in `RuleSections` of mlk_rules_file, what the
-- text of a certificate spells in `Theorem` of mlk_cert, which rows are reported in `Reports` of mlk_walk, and what it is to
-- keep rules in `Theorem` of mlk_check.
use Rattle.std.specs.Prelude.{ℕ, ◌≡◌, ◌<◌, ◌⊎◌, List, [], Some, None}
use Rattle.mlk_text.specs.declared.fault.Fault.{Fault}
use Rattle.mlk_text.specs.declared.failure.Failure.{Failure}
use Rattle.mlk_text.specs.Failures.{IfRefused}
use Rattle.mlk_syntax.specs.Trees.{RoutineTree}
use Rattle.mlk_reading.specs.declared.source.Source.{Source}
use Rattle.mlk_reading.specs.Reading.{AreRead, RefusesFirst}
use Rattle.mlk_program.specs.Program.{IsProgram, IsLinkFault}
use Rattle.mlk_rules.specs.declared.rules.RuleLists.{RuleLists}
use Rattle.mlk_rules_file.specs.RuleSections.{SaysRules, RefusesRules}
use Rattle.mlk_rules_file.specs.declared.read.fault.RulesFault.{RulesFault}
use Rattle.mlk_cert_parts.specs.declared.block.EntryCert.{EntryCert}
use Rattle.mlk_cert.specs.declared.read.fault.CertFault.{CertFault}
use Rattle.mlk_cert.specs.Theorem.{Spells}
use Rattle.mlk_cert.specs.Refusals.{IsRefusal}
use Rattle.mlk_walk.specs.declared.report.Row.{Row}
use Rattle.mlk_walk.specs.Reports.{report, missing}
use Rattle.mlk_check.specs.Theorem.{KeepsRules}
use Rattle.mlk_pool.specs.declared.error.CheckError.{CheckError}
use Rattle.mlk_pool.specs.declared.error.CheckError.TheVariants as error
use Rattle.mlk_pool.specs.Errors.{error_of_routine, error_of_rules, error_of_certificate}
use Rattle.mlk_pool.specs.Given.{given_of}
use Rattle.mlk_pool.specs.Refusals.{StopsAt}

-- The report of a program by rules and a certificate's blocks. The program has each entry that these name; the rows are the
-- report of the definitions, which knows no worker; and where there is no row, every run of the program keeps the rules.
pub record IsReportBy (trees : List RoutineTree) (rules : RuleLists) (blocks : List EntryCert) (rows : List Row) : Type 0 where
  pub named : missing trees rules blocks ≡ None
  pub are : rows ≡ report trees rules blocks
  pub kept : rows ≡ [] → KeepsRules trees rules blocks

-- The report on texts: of routines, each with the stem of its file's name, of rules and of a certificate. The texts of the
-- routines spell these trees, which make a program; the text of the rules says rules, and the text of the certificate spells
-- blocks; and the rows are the report of the program by both.
pub record Verified (sources : List Source) (rules_text cert_text : List ℕ) (trees : List RoutineTree) (rows : List Row) : Type 0 where
  pub read : AreRead sources trees
  pub linked : IsProgram trees
  pub rules : RuleLists
  pub said : SaysRules rules_text rules
  pub blocks : List EntryCert
  pub spelled : Spells blocks cert_text
  pub reported : IsReportBy trees rules blocks rows

-- No certificate has the text.
abbrev pub NoCertificate : List ℕ → CertFault → Type 0
NoCertificate cert_text fault = ((blocks : List EntryCert) → Spells blocks cert_text → ⊥) × IsRefusal cert_text fault

-- there are no workers, or more than 64
abbrev pub AreTooFewOrMany : ℕ → Type 0
AreTooFewOrMany workers = (workers ≡ 0) ⊎ (64 < workers)

-- Why a program has no report by rules and a certificate: an entry that these name is missing in it; else there are no workers
-- or too many; else the gate, which is not open, was shut before a task: the first that is not done. If memory runs out, nothing
-- is said.
abbrev pub IsUnreportedBy : Type 0 → ℕ → List RoutineTree → RuleLists → List EntryCert → CheckError → Type 0
IsUnreportedBy is_open workers trees rules blocks error.OutOfMemory = Unit {0}
IsUnreportedBy is_open workers trees rules blocks (error.Routine fault) = ⊥
IsUnreportedBy is_open workers trees rules blocks (error.Rules fault) = ⊥
IsUnreportedBy is_open workers trees rules blocks (error.Certificate fault) = ⊥
IsUnreportedBy is_open workers trees rules blocks (error.Entry entry) = missing trees rules blocks ≡ Some entry
IsUnreportedBy is_open workers trees rules blocks error.Workers = (missing trees rules blocks ≡ None) × AreTooFewOrMany workers
IsUnreportedBy is_open workers trees rules blocks (error.GateShut task) =
    (missing trees rules blocks ≡ None) × (is_open → ⊥) × StopsAt (given_of trees rules blocks workers) task

-- The stages from texts to a report, each with what it refuses: the reading of routines, where the first refusal is
-- reported; their linking; the text of the rules; the text of the certificate; and the report by it. `from` is how the answer has
-- the check's own error: as it is for `verify`. If memory runs out, nothing is said.
abbrev pub RefusesRoutines : {R : Type 0} → (CheckError → R) → List Source → R → Type 0
RefusesRoutines from sources r = (f : Failure Fault) × RefusesFirst sources f × (r ≡ from (error_of_routine f))

abbrev pub RefusesLink : {R : Type 0} → (CheckError → R) → List RoutineTree → R → Type 0
RefusesLink from trees r = (f : Failure Fault) × IfRefused f (IsLinkFault trees) × (r ≡ from (error_of_routine f))

abbrev pub RefusesRuleText : {R : Type 0} → (CheckError → R) → List ℕ → R → Type 0
RefusesRuleText from rules_text r = (f : Failure RulesFault) × RefusesRules rules_text f × (r ≡ from (error_of_rules f))

abbrev pub RefusesCertText : {R : Type 0} → (CheckError → R) → List ℕ → R → Type 0
RefusesCertText from cert_text r = (f : Failure CertFault) × IfRefused f (NoCertificate cert_text) × (r ≡ from (error_of_certificate f))

abbrev pub RefusesReport : {R : Type 0} → (CheckError → R) → Type 0 → ℕ → List RoutineTree → RuleLists → List EntryCert → R → Type 0
RefusesReport from is_open workers trees rules blocks r =
    (e : CheckError) × IsUnreportedBy is_open workers trees rules blocks e × (r ≡ from e)

-- What is refused of trees and of the text of rules, and after both by `Why`, of the program and its rules. Each stage is reached
-- only if the ones before it refuse nothing.
abbrev pub RefusesTrees : {R : Type 0} → (CheckError → R) → List RoutineTree → List ℕ
    → (List RoutineTree → RuleLists → R → Type 0) → R → Type 0
RefusesTrees from trees rules_text Why r =
    RefusesLink from trees r ⊎ (IsProgram trees × (RefusesRuleText from rules_text r
    ⊎ ((rules : RuleLists) × SaysRules rules_text rules × Why trees rules r)))

-- the same from the reading of routines on
abbrev pub RefusesTexts : {R : Type 0} → (CheckError → R) → List Source → List ℕ → (List RoutineTree → RuleLists → R → Type 0) → R → Type 0
RefusesTexts from sources rules_text Why r =
    RefusesRoutines from sources r ⊎ ((trees : List RoutineTree) × AreRead sources trees × RefusesTrees from trees rules_text Why r)

-- why a program with rules has no report by the text of a certificate
abbrev pub RefusesByText : {R : Type 0} → (CheckError → R) → Type 0 → ℕ → List ℕ → List RoutineTree → RuleLists → R → Type 0
RefusesByText from is_open workers cert_text trees rules r =
    RefusesCertText from cert_text r
    ⊎ ((blocks : List EntryCert) × Spells blocks cert_text × RefusesReport from is_open workers trees rules blocks r)

-- Why texts have no report.
abbrev pub IsUnverified : Type 0 → ℕ → List Source → List ℕ → List ℕ → CheckError → Type 0
IsUnverified is_open workers sources rules_text cert_text e =
    RefusesTexts (λ e. e) sources rules_text (RefusesByText (λ e. e) is_open workers cert_text) e
