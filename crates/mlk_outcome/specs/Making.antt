-- What is made of a program and its rules: a certificate. This project's own choice.
use Rattle.std.specs.Prelude.{◌≡◌, ◌⊎◌, ℕ, List, None, find}
use Rattle.mlk_text.specs.declared.failure.Failure.{Failure}
use Rattle.mlk_text.specs.declared.failure.Failure.TheVariants as failure
use Rattle.mlk_syntax.specs.Trees.{RoutineTree}
use Rattle.mlk_rules.specs.declared.rules.RuleLists.{RuleLists}
use Rattle.mlk_cert_parts.specs.declared.block.EntryCert.{EntryCert}
use Rattle.mlk_cert.specs.declared.format.CertFormat.{CertFormat}
use Rattle.mlk_make.specs.declared.stop.GaveUp.{GaveUp}
use Rattle.mlk_make.specs.declared.stop.MakeError.{MakeError}
use Rattle.mlk_make.specs.declared.stop.MakeError.TheVariants as unmade
use Rattle.mlk_make.specs.Missing.{is_missing, IsUnmade as NoneMade}
use Rattle.mlk_make.specs.Texts.{SpellsIn}
use Rattle.mlk_pool.specs.declared.error.CheckError.TheVariants as error
use Rattle.mlk_outcome.specs.Refusals.{no_memory}
use Rattle.mlk_outcome.specs.declared.refusal.NoReport.{NoReport}
use Rattle.mlk_outcome.specs.declared.refusal.NoReport.TheVariants as refusal

-- A text is the one in this format of a certificate, made of a program that has all declared entries. Nothing else is promised
-- of it.
abbrev pub IsMade : List RoutineTree → RuleLists → CertFormat → List ℕ → Type 0
IsMade trees rules format text = (find (is_missing trees) rules.entries ≡ None) × (blocks : List EntryCert) × SpellsIn format blocks text

-- what is reported if the maker gave up: the fault, unless memory runs out
abbrev pub IsStuck : GaveUp → NoReport → Type 0
IsStuck place r = (r ≡ no_memory) ⊎ ((entry : List ℕ) × (r ≡ refusal.GaveUp entry place.fault))

-- what is reported of a certificate that is not made
abbrev pub ReportsUnmade : Failure MakeError → NoReport → Type 0
ReportsUnmade failure.OutOfMemory r = r ≡ no_memory
ReportsUnmade (failure.Refused (unmade.EntryMissing entry)) r = r ≡ refusal.Check (error.Entry entry)
ReportsUnmade (failure.Refused (unmade.TooLong fault)) r = r ≡ refusal.Check (error.Certificate fault)
ReportsUnmade (failure.Refused (unmade.GaveUp place)) r = IsStuck place r

-- Why no certificate is made: a declared entry is missing in the program, or the text is too long, or the maker gave up.
abbrev pub IsUnmade : List RoutineTree → RuleLists → NoReport → Type 0
IsUnmade trees rules r = (e : Failure MakeError) × NoneMade trees rules.entries e × ReportsUnmade e r
