use Rattle.std.proofs.Common.{map, ap, sym, subst, ◌∙◌}
use Rattle.mlk_walk_exprs.specs.declared.walk.Fault.{Fault}
use Rattle.mlk_walk_exprs.specs.declared.walk.Note.{Note}
use Rattle.mlk_walk.specs.Laws.{IsAscending}
use Rattle.mlk_walk.proofs.Ascending.{keys_inserted}
use Rattle.mlk_walk.proofs.Ordered.{put_ascends}
use Rattle.mlk_walk.proofs.verdict.Verdict.put.Goals as goal

pub returns : goal.returns
returns c =
    rw (← c.self.view_is) (ap (map (λ (e : Fault × Note). e.0)) c.in_ok-insert.ensures.entries ∙ keys_inserted c.args.fault c.args.note c.self.inside.notes.entries)

pub invariant_of-self-2 : goal.invariant_of-self-2
invariant_of-self-2 c =
    subst IsAscending
    (sym (ap (map (λ (e : Fault × Note). e.0)) c.in_ok-insert.ensures.entries ∙ keys_inserted c.args.fault c.args.note c.self.inside.notes.entries))
    (put_ascends c.args.fault (map (λ (e : Fault × Note). e.0) c.self.inside.notes.entries) c.self.invariant)
