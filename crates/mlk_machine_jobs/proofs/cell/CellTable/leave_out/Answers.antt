use Rattle.std.proofs.Common.{◌∙◌, ap, map, rules}
use Rattle.std.specs.Map.{lookup}
use Rattle.std.specs.Prelude.{bytes_eq}
use Rattle.indexmap.proofs.CallerLemmas.{filter-RetainsPairs}
use Rattle.mlk_machine_jobs.specs.Killing.{is_taken}
use Rattle.mlk_machine_jobs.specs.Views.{names_of, cell_of, bindings_of}
use Rattle.mlk_machine_jobs.proofs.CellLemmas.{kept_lookup}
use Rattle.mlk_machine_jobs.proofs.cell.CellTable.leave_out.Goals as goal

pub returns : goal.returns
returns c n =
    ap (lookup (λ k. bytes_eq n k.now)) (filter-RetainsPairs _ _ _ (λ k v b w g call. search rules) _ _ c.retain.ensures.filtered)
    ∙ kept_lookup (λ k. k.now)
    (λ m. is_taken (bindings_of c.args.binders.now) (names_of c.args.names) (map cell_of c.args.shared.now)
    (map cell_of c.args.spared.now) (record { generation = c.args.generation; name = m })) n _
