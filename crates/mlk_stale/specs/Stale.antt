-- When a write is stale: another job may have written the node since its value was read. A local in a subscript is the name of a
-- value here, which is the same from the read to the write. This project's own choice.
use Rattle.std.specs.Prelude.{◌≡◌, ◌≢◌, ◌⊎◌, List, []}
use Rattle.std.specs.List.{All}
use Rattle.mlk_names.specs.declared.symbol.Sym.TheVariants.{Unknown}
use Rattle.mlk_names.specs.declared.term.LockTerm.{LockTerm}
use Rattle.mlk_names.specs.declared.reference.Extent.TheVariants.{Node}
use Rattle.mlk_names.specs.declared.reference.Access.TheVariants.{Reads, Writes}
use Rattle.mlk_names.specs.declared.reference.Reference.{Reference}
use Rattle.mlk_names.specs.References.{MayOverlap}
use Rattle.mlk_rules.specs.declared.rules.RuleLists.{RuleLists}
use Rattle.mlk_rules.specs.Coverage.{IsCovered}
use Rattle.mlk_stale.specs.declared.stale.StaleWrite.{StaleWrite}

-- the first reads the node that the second writes
pub record ReadsWritten (r w : Reference) : Type 0 where
  pub reads : r.access ≡ Reads
  pub writes : w.access ≡ Writes
  pub read_node : r.extent ≡ Node
  pub written_node : w.extent ≡ Node
  pub root : r.root ≡ w.root
  pub subs : r.subs ≡ w.subs
  pub known : All (λ s. s ≢ Unknown) w.subs

-- The held locks keep other jobs from writing the node that the first reads and the second writes: they cover the write, or they
-- cover the read, which is not free.
abbrev pub IsProtected : RuleLists → List LockTerm → Reference → Reference → Type 0
IsProtected rules held r w = IsCovered rules held w ⊎ (IsCovered rules held r × ¬ IsCovered rules [] r)

-- The value of the write comes from a read of the node that it writes. At a moment between the two, the held locks let other jobs
-- write the node, and nothing that may reach it is read after that moment. The locks that are held at the write cover it: the last
-- of them was acquired after the read.
pub record IsStale (rules : RuleLists) (w : StaleWrite) : Type 0 where
  pub source : ReadsWritten w.source.reference w.written
  pub unprotected : ¬ IsProtected rules w.gap.held.items w.source.reference w.written
  pub not_read_again : All (λ r. ¬ MayOverlap r w.written) w.gap.later_reads.items
  pub covered : IsCovered rules w.held.items w.written
