use Rattle.std.proofs.Common.{rules, ◌≡◌, ◌∷◌, ◌∙◌, ap, sym}
use Rattle.mlk_machine_locks.specs.Counts.{Counts, count_of, claimed, greatest_count}
use Rattle.mlk_machine_locks.proofs.HeldLemmas.{claim_next, claim_full, Within}
use Rattle.mlk_machine_locks.proofs.held.Held.with_claims.Goals as goal

pub returns-then-count_in : goal.returns-then-count_in
returns-then-count_in c =
    let h : (claimed (c.in-Some.name.now ∷ c.in-Some.others.now) c.loop-name.entries.items
    ≡ claimed c.args.names.now c.args.self.now) × Within c.loop-name.entries.items = search rules in
    let full : count_of c.loop-name.entries.items c.in-Some.name.now ≡ greatest_count =
    ap (λ (l : Counts). count_of l c.in-Some.name.now) (sym c.as_slice-in-Some.ensures.value)
    ∙ sym c.count_in.ensures ∙ c.if-count_in.true in
    claim_full c.in-Some.name.now c.in-Some.others.now c.args.names.now c.loop-name.entries.items c.args.self.now h full

pub loop-name-preserved : goal.loop-name-preserved
loop-name-preserved c =
    let h : (claimed (c.in-Some.name.now ∷ c.in-Some.others.now) c.loop-name.entries.items
    ≡ claimed c.args.names.now c.args.self.now) × Within c.loop-name.entries.items = search rules in
    claim_next c.in-Some.name.now c.in-Some.others.now c.args.names.now c.loop-name.entries.items
    c.raise.new.entries.items c.args.self.now h
    (λ full. c.if-count_in.false
    (c.count_in.ensures ∙ ap (λ (l : Counts). count_of l c.in-Some.name.now) c.as_slice-in-Some.ensures.value ∙ full))
    c.in_ok-raise.ensures
