-- Each certified entry is safe for each number of steps.
use Rattle.std.proofs.Common.{◌≡◌, ◌<◌, ℕ, suc, List, [], arith}
use Rattle.mlk_rules.specs.declared.rules.RuleLists.{RuleLists}
use Rattle.mlk_rules.specs.Sound.{IsSound}
use Rattle.mlk_rules.proofs.RankLemmas.{one_rank}
use Rattle.mlk_syntax.specs.Trees.{RoutineTree}
use Rattle.mlk_cert_parts.specs.declared.block.EntryCert.{EntryCert}
use Rattle.mlk_walk.specs.Verdicts.{known}
use Rattle.mlk_walk.specs.Reports.{report}
use Rattle.mlk_soundness_walk.specs.Entries.{first_level, EntryFits}
use Rattle.mlk_machine_laws.specs.WellFormed.{AreFormed}
use Rattle.mlk_soundness_walk.specs.Forms.{ListOnce}
use Rattle.mlk_soundness_walk.proofs.Formed.{entry_lines}
use Rattle.mlk_soundness_walk.proofs.Framed.{EachFits, all_below}
use Rattle.mlk_soundness_walk.proofs.Levels.{line_fits}
use Rattle.mlk_soundness_walk.proofs.Wells.{lists_once, well_of, frames_share}

module _ (routines : List RoutineTree) (rules : RuleLists) (blocks : List EntryCert) (clean : report routines rules blocks ≡ []) (formed : AreFormed routines) (sound : IsSound rules) (once : ListOnce blocks) where
  commands : (n : ℕ) → ((k : ℕ) → k < n → EntryFits routines rules (known routines rules blocks) k) → EachFits routines rules blocks clean n
  commands n lower = λ e blk at w world p head block same deep is lines pass are.
      line_fits routines rules (known routines rules blocks) e blk w world sound.apart (one_rank rules.families sound.apart)
      (λ column callee written ours t its target head body more heads. well_of routines rules (known routines rules blocks) t head body more heads formed e blk its column callee written ours target)
      (lists_once routines rules blocks once e blk at) (frames_share routines e e) n lower
      block (first_level w) (omega arith) lines pass are n (omega arith) head p same deep is

  pub each_entry : (n : ℕ) → EntryFits routines rules (known routines rules blocks) n
  each_entry n =
      (all_below routines rules blocks clean (lists_once routines rules blocks once) (entry_lines routines rules (known routines rules blocks) formed) commands (suc n) n (omega arith)).0
