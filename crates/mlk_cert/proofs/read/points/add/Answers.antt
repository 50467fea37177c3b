use Rattle.std.proofs.Common.{◌∙◌, sym}
use Rattle.mlk_cert.proofs.PointLoops.{added-same, added-other}
use Rattle.mlk_cert.proofs.read.points.add.Goals as goal

pub returns-then-is_at : goal.returns-then-is_at
returns-then-is_at c = rw c.in_ok-push-2.ensures.items
    (added-same c.pop.new.self.items c.args.points.now.items c.in-Some.last c.in_ok-one_more.field-0 c.args.listed c.in-Some.ensures.items (sym c.is_at.ensures ∙ c.if-is_at.true) c.in_ok-one_more.ensures)

pub returns : goal.returns
returns c = rw c.in_ok-push-4.ensures.items (rw c.in_ok-push-3.ensures.items
    (added-other c.pop.new.self.items c.args.points.now.items c.in-Some.last c.in_ok-new_point-2.field-0 c.args.listed c.in-Some.ensures.items (sym c.is_at.ensures ∙ c.if-is_at.false) c.in_ok-new_point-2.ensures))
