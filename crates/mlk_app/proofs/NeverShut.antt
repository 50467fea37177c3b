-- No refusal of a program says that the gate was shut, which is always open.
use Rattle.std.proofs.Common.{List, inl, inr}
use Rattle.mlk_syntax.specs.Trees.{RoutineTree}
use Rattle.mlk_rules.specs.declared.rules.RuleLists.{RuleLists}
use Rattle.mlk_outcome.specs.declared.refusal.NoReport.{NoReport}
use Rattle.mlk_outcome.specs.Refusals.{IsNotShut}
use Rattle.mlk_outcome.proofs.NeverShut.{not-reported, not-by-text, unmade-open, not-replayed, texts-open}
use Rattle.mlk_files.specs.declared.source.Sources.{Sources}
use Rattle.mlk_files.specs.declared.source.Work.{Work}
use Rattle.mlk_files.specs.declared.source.Work.TheVariants as work
use Rattle.mlk_files.specs.Dialects.{as_read}
use Rattle.mlk_app.specs.Ran.{IsRefusedFor}
use Rattle.mlk_app.specs.Printing.{IsRefusedSources}

work-open : (w : Work) (trees : List RoutineTree) (rules : RuleLists) (r : NoReport) → IsRefusedFor w trees rules r → IsNotShut r
work-open (work.Check given workers) trees rules r h = not-by-text workers given.items trees rules r h
work-open (work.Make format) trees rules r h = unmade-open trees rules r h
work-open (work.Verify workers) trees rules r (inl h) = unmade-open trees rules r h
work-open (work.Verify workers) trees rules r (inr (blocks, h)) = not-reported workers trees rules blocks r h
work-open (work.Replay events) trees rules r h = not-replayed trees rules events.items r h

pub not-shut : (sources : Sources) (r : NoReport) → IsRefusedSources sources r → IsNotShut r
not-shut sources r h = texts-open (IsRefusedFor sources.work) (work-open sources.work) (as_read sources) sources.rules.items r h
