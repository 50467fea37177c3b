-- The words in which hazards are printed. This project's own choice.
use Rattle.std.specs.Prelude.{ℕ, List, codes}
use Rattle.mlk_hazards.specs.declared.hazard.Hazard.{Hazard}
use Rattle.mlk_hazards.specs.declared.hazard.Hazard.TheVariants as hazard

abbrev pub hazard_word : Hazard → List ℕ
hazard_word hazard.SkippedCall = codes "SkippedCall"
hazard_word hazard.PerhapsOneName = codes "PerhapsOneName"
hazard_word hazard.RepeatedName = codes "RepeatedName"
hazard_word hazard.BlockBeforeFormals = codes "BlockBeforeFormals"
hazard_word hazard.LongLine = codes "LongLine"
hazard_word hazard.LabelsAlike = codes "LabelsAlike"
hazard_word hazard.StaleWrite = codes "StaleWrite"
