-- No refusal says that the gate was shut, which is always open.
use Rattle.std.proofs.Common.{◌≡◌, ℕ, List, sym, ◌∙◌, inl, inr}
use Rattle.mlk_text.specs.declared.failure.Failure.{Failure}
use Rattle.mlk_text.specs.declared.failure.Failure.TheVariants as failure
use Rattle.mlk_text.specs.declared.fault.Fault.{Fault}
use Rattle.mlk_syntax.specs.Trees.{RoutineTree}
use Rattle.mlk_rules.specs.declared.rules.RuleLists.{RuleLists}
use Rattle.mlk_rules_file.specs.declared.read.fault.RulesFault.{RulesFault}
use Rattle.mlk_cert.specs.declared.read.fault.CertFault.{CertFault}
use Rattle.mlk_cert_parts.specs.declared.block.EntryCert.{EntryCert}
use Rattle.mlk_machine.specs.declared.fault.EventsFault.{EventsFault}
use Rattle.mlk_make.specs.declared.stop.MakeError.{MakeError}
use Rattle.mlk_make.specs.declared.stop.MakeError.TheVariants as unmade
use Rattle.mlk_reading.specs.declared.source.Source.{Source}
use Rattle.mlk_pool.specs.declared.error.CheckError.{CheckError}
use Rattle.mlk_pool.specs.declared.error.CheckError.TheVariants as error
use Rattle.mlk_pool.specs.Errors.{error_of_routine, error_of_rules, error_of_certificate}
use Rattle.mlk_pool.specs.Headline.{IsUnreportedBy, RefusesReport, RefusesByText, RefusesTrees, RefusesTexts}
use Rattle.mlk_outcome.specs.declared.refusal.NoReport.{NoReport}
use Rattle.mlk_outcome.specs.declared.refusal.NoReport.TheVariants as refusal
use Rattle.mlk_outcome.specs.Refusals.{refusal_of_events, IsOfOpenGate, IsNotShut}
use Rattle.mlk_outcome.specs.Replaying.{IsUndeclared, IsUnreplayed}
use Rattle.mlk_outcome.specs.Making.{ReportsUnmade, IsUnmade}

same-error : {d e : CheckError} → refusal.Check d ≡ refusal.Check e → d ≡ e
same-error e = cc

-- what is reported as the check's own error is as open as that
as-open : (e : CheckError) (r : NoReport) → r ≡ refusal.Check e → IsOfOpenGate e → IsNotShut r
as-open e r is opened t shut = opened t (same-error (sym is ∙ shut))

by-routine : (e : Failure Fault) → IsOfOpenGate (error_of_routine e)
by-routine failure.OutOfMemory t shut = cc shut
by-routine (failure.Refused fault) t shut = cc shut

by-rules : (e : Failure RulesFault) → IsOfOpenGate (error_of_rules e)
by-rules failure.OutOfMemory t shut = cc shut
by-rules (failure.Refused fault) t shut = cc shut

by-certificate : (e : Failure CertFault) → IsOfOpenGate (error_of_certificate e)
by-certificate failure.OutOfMemory t shut = cc shut
by-certificate (failure.Refused fault) t shut = cc shut

unreported : (workers : ℕ) (trees : List RoutineTree) (rules : RuleLists) (blocks : List EntryCert) (e : CheckError) → IsUnreportedBy (Unit {0}) workers trees rules blocks e → IsOfOpenGate e
unreported workers trees rules blocks error.OutOfMemory h t shut = cc shut
unreported workers trees rules blocks (error.Routine fault) h t shut = cc shut
unreported workers trees rules blocks (error.Rules fault) h t shut = cc shut
unreported workers trees rules blocks (error.Certificate fault) h t shut = cc shut
unreported workers trees rules blocks (error.Entry entry) h t shut = cc shut
unreported workers trees rules blocks error.Workers h t shut = cc shut
unreported workers trees rules blocks (error.GateShut place) h t shut = h.1 (record {})

pub not-reported : (workers : ℕ) (trees : List RoutineTree) (rules : RuleLists) (blocks : List EntryCert) (r : NoReport) → RefusesReport refusal.Check (Unit {0}) workers trees rules blocks r → IsNotShut r
not-reported workers trees rules blocks r h = as-open h.0 r h.2 (unreported workers trees rules blocks h.0 h.1)

pub not-by-text : (workers : ℕ) (cert_text : List ℕ) (trees : List RoutineTree) (rules : RuleLists) (r : NoReport) → RefusesByText refusal.Check (Unit {0}) workers cert_text trees rules r → IsNotShut r
not-by-text workers cert_text trees rules r (inl h) = as-open (error_of_certificate h.0) r h.2 (by-certificate h.0)
not-by-text workers cert_text trees rules r (inr (blocks, spelled, h)) = not-reported workers trees rules blocks r h

not-made : (e : Failure MakeError) (r : NoReport) → ReportsUnmade e r → IsNotShut r
not-made failure.OutOfMemory r is t shut = let bad = sym is ∙ shut in cc bad
not-made (failure.Refused (unmade.EntryMissing entry)) r is t shut = let bad = sym is ∙ shut in cc bad
not-made (failure.Refused (unmade.TooLong fault)) r is t shut = let bad = sym is ∙ shut in cc bad
not-made (failure.Refused (unmade.GaveUp place)) r (inl is) t shut = let bad = sym is ∙ shut in cc bad
not-made (failure.Refused (unmade.GaveUp place)) r (inr stuck) t shut = let bad = sym stuck.1 ∙ shut in cc bad

pub unmade-open : (trees : List RoutineTree) (rules : RuleLists) (r : NoReport) → IsUnmade trees rules r → IsNotShut r
unmade-open trees rules r h = not-made h.0 r h.2

not-declared : (trees : List RoutineTree) (texts : List (List ℕ)) (r : NoReport) → IsUndeclared trees texts r → IsNotShut r
not-declared trees texts r (inl is) t shut = let bad = sym is ∙ shut in cc bad
not-declared trees texts r (inr first) t shut = let bad = sym first.2 ∙ shut in cc bad

by-events : (e : Failure EventsFault) → IsNotShut (refusal_of_events e)
by-events failure.OutOfMemory t shut = cc shut
by-events (failure.Refused fault) t shut = cc shut

pub not-replayed : (trees : List RoutineTree) (rules : RuleLists) (events : List ℕ) (r : NoReport) → IsUnreplayed trees rules events r → IsNotShut r
not-replayed trees rules events r (inl h) = not-declared trees rules.entries r h
not-replayed trees rules events r (inr h) = λ t shut. by-events h.stopped.0 t (sym h.stopped.2 ∙ shut)

-- the stages before what is asked of a program and its rules say nothing of the gate
pub trees-open : (Why : List RoutineTree → RuleLists → NoReport → Type 0) → ((trees : List RoutineTree) (rules : RuleLists) (r : NoReport) → Why trees rules r → IsNotShut r)
    → (trees : List RoutineTree) (rules_text : List ℕ) (r : NoReport) → RefusesTrees refusal.Check trees rules_text Why r → IsNotShut r
trees-open Why opened trees rules_text r (inl h) = as-open (error_of_routine h.0) r h.2 (by-routine h.0)
trees-open Why opened trees rules_text r (inr (linked, inl h)) = as-open (error_of_rules h.0) r h.2 (by-rules h.0)
trees-open Why opened trees rules_text r (inr (linked, inr (rules, said, h))) = opened trees rules r h

pub texts-open : (Why : List RoutineTree → RuleLists → NoReport → Type 0) → ((trees : List RoutineTree) (rules : RuleLists) (r : NoReport) → Why trees rules r → IsNotShut r)
    → (sources : List Source) (rules_text : List ℕ) (r : NoReport) → RefusesTexts refusal.Check sources rules_text Why r → IsNotShut r
texts-open Why opened sources rules_text r (inl h) = as-open (error_of_routine h.0) r h.2 (by-routine h.0)
texts-open Why opened sources rules_text r (inr (trees, read, h)) = trees-open Why opened trees rules_text r h
