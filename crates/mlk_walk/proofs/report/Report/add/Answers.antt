use Rattle.std.proofs.Common.{[], ◌∷◌, ◌++◌, map, sym, ap, ◌∙◌, append_assoc}
use Rattle.std.proofs.lemmas.List.{map-append}
use Rattle.mlk_walk_exprs.specs.declared.walk.Fault.{Fault}
use Rattle.mlk_walk_exprs.specs.declared.walk.Note.{Note}
use Rattle.mlk_walk.specs.Reports.{row_of}
use Rattle.mlk_walk.proofs.report.Report.add.Goals as goal

pub loop-fault-preserved : goal.loop-fault-preserved
loop-fault-preserved c =
    let row = row_of c.args.entry in
    let given = c.loop-fault.yielded in
    c.in_ok-push.ensures.items
    ∙ ap (λ rows. rows ++ row c.in-Some.fault ∷ []) c.loop-fault.invariant
    ∙ append_assoc c.args.self.now (map row (map (λ (e : Fault × Note). e.0) given)) (row c.in-Some.fault ∷ [])
    ∙ ap (λ rows. c.args.self.now ++ rows)
    (sym (ap (map row) (map-append (λ (e : Fault × Note). e.0) given ((c.in-Some.fault, c.in-Some.note) ∷ []))
    ∙ map-append row (map (λ (e : Fault × Note). e.0) given) (c.in-Some.fault ∷ [])))
