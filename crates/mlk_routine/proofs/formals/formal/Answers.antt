use Rattle.std.proofs.Common.{◌||◌, bytes_eq, ◌-◌, ◌∙◌, sym, ap, take, refl}
use Rattle.mlk_expr.specs.Theorem.{LabelEnds}
use Rattle.mlk_routine.specs.Lines.{has_name, IsUnseen}
use Rattle.mlk_routine_arguments.proofs.Outcomes.{denies}
use Rattle.mlk_routine.proofs.FormalLists.{text_of, unseen, seen_before, same_seen, same_new}
use Rattle.mlk_routine.proofs.formals.formal.Goals as goal

pub returns-then-not-branch-clause-read : goal.returns-then-not-branch-clause-read
returns-then-not-branch-clause-read c =
    let keys = c.args.seen.now.texts.keys in
    let text = c.split_at-2.ensures.front ∙ ap (take (c.in_ok-name.next - c.args.at)) c.split_at.ensures.back ∙ text_of c.args.line.now c.args.at c.in_ok-name.name c.in_ok-name.next c.requires c.in_ok-name.ensures.0 in
    let old = ap (λ n. has_name n keys) (sym text) ∙ same_new (has_name c.split_at-2.result.0.now keys) (sym c.if-not-branch.true ∙ c.in_ok-add.ensures.new) in
    denies (IsUnseen keys) LabelEnds c.args.line.now c.args.at c.refusal_at.result (c.refusal_at.ensures.fault c.args.line.now c.requires refl refl)
    (seen_before keys c.args.line.now c.args.at c.in_ok-name.name c.in_ok-name.next c.in_ok-name.ensures old)

pub returns-clause-read : goal.returns-clause-read
returns-clause-read c =
    let keys = c.args.seen.now.texts.keys in
    let text = c.split_at-2.ensures.front ∙ ap (take (c.in_ok-name.next - c.args.at)) c.split_at.ensures.back ∙ text_of c.args.line.now c.args.at c.in_ok-name.name c.in_ok-name.next c.requires c.in_ok-name.ensures.0 in
    let new = ap (λ n. has_name n keys) (sym text) ∙ same_seen (has_name c.split_at-2.result.0.now keys) (sym c.if-not-branch.false ∙ c.in_ok-add.ensures.new) in
    unseen keys c.args.line.now c.args.at c.in_ok-name.name c.in_ok-name.next c.in_ok-name.ensures new

pub returns-clause-seen : goal.returns-clause-seen
returns-clause-seen c q =
    let text = c.split_at-2.ensures.front ∙ ap (take (c.in_ok-name.next - c.args.at)) c.split_at.ensures.back ∙ text_of c.args.line.now c.args.at c.in_ok-name.name c.in_ok-name.next c.requires c.in_ok-name.ensures.0 in
    c.in_ok-add.ensures.has q ∙ ap (λ t. bytes_eq q t || has_name q c.args.seen.now.texts.keys) text
