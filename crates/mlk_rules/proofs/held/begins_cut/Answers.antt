use Rattle.std.proofs.Common.{refl}
use Rattle.std.specs.Prelude.{map}
use Rattle.mlk_names.proofs.ListLemmas.{begins_from_none}
use Rattle.mlk_rules.specs.Coverage.{before_missing, symbol_at}
use Rattle.mlk_rules.proofs.held.begins_cut.Goals as goal

pub returns : goal.returns
returns c =
    let l = c.loop-symbol in
    let cut = before_missing (map (symbol_at c.args.symbols.now) l.parts.now) in
    (λ is. l.invariant.0 (begins_from_none l.known.now cut c.in_default.ensures.cases), λ h. refl)
